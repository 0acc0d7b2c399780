-- What calls make of a member's log.
use Rattle.std.proofs.Common.{◌≡◌, ◌<◌, ℕ, zero, suc, ◌-◌, Bool, true, false, cond, ◌==◌, List, [], ◌∷◌, ◌++◌, length}
use Rattle.std.proofs.Common.{take}
use Rattle.std.proofs.Common.{length-append, append_assoc, append-nil, Option, Some, None, Result, Ok, Err, slice_get}
use Rattle.std.proofs.Common.{refl, sym, ap, ◌∙◌, arith}
use Rattle.std.specs.Prelude.{nat_lt}
use Rattle.std.specs.Option.{option_and_then}
use Rattle.std.proofs.lemmas.Bool.{lt-ltb}
use Rattle.std.proofs.lemmas.List.{take_at}
use Rattle.repo_plan.specs.declared.part.Part.{Part}
use Rattle.repo_plan.specs.Plan.{claim_of}
use Rattle.repo_object.specs.Objects.{Post}
use Rattle.repo_object.specs.Objects.Post.{Offers, Withdraws}
use Rattle.ndn_name.specs.Names.{Component}
use Rattle.repo_command.specs.declared.command.Command as commands
use Rattle.repo_command.specs.declared.command.Command.TheVariants.{Insert, Check, Delete}
use Rattle.repo_process.specs.Processes.{Process, BlockState, object_of, closed}
use Rattle.repo_process.specs.Processes.BlockState.{Unknown, Already, Waiting, Whole}
use Rattle.repo_process.specs.Insertions.{next_number}
use Rattle.ndn_packet.proofs.Ends.{slice_get-push}
use Rattle.repo_member.specs.declared.refusals.HearRefusal.{HearRefusal}
use Rattle.repo_member.specs.declared.refusals.AcceptRefusal.{AcceptRefusal}
use Rattle.repo_member.specs.Groups.{GroupKeys, publisher_at}
use Rattle.repo_holdings.specs.Records.{Packet}
use Rattle.group_model.specs.Member.{with_tries}
use Rattle.repo_member.specs.MemberState.{MemberState, member_plan, member_publishes, packet_in, logged, member_takes}
use Rattle.repo_holdings.specs.Taking.{Fetched}
use Rattle.repo_holdings.specs.Taking.{with_fetched}
use Rattle.repo_member.specs.Verdicts.{hear_verdict, vector_verdict, accept_verdict}
use Rattle.repo_member.specs.Outcomes.{outcome_of}
use Rattle.repo_member.specs.Deleting.{member_deletes}
use Rattle.repo_member.specs.Commanded.{order_of, member_state_starts, member_obeys, member_after_order}
use Rattle.repo_member.specs.Blocks.{member_block, member_keeps, after_block}
use Rattle.repo_member.specs.Calls.{MemberCall, Publish, Withdraw, Hear, HearVector, JoinFrom, JoinVector, Fire, Claim}
use Rattle.repo_member.specs.Calls.{Lose, Accept, AcceptChecked, TakeOutcome, TakeDigested, Command, CommandChecked}
use Rattle.repo_member.specs.Calls.{Block, EndClaims, Reset, Restart, OrderNames, if_heard, if_joined, if_claimed}
use Rattle.repo_member.specs.Calls.{if_lost, if_claimed_held, if_accepted, if_numbers, after_call, after_calls}
use Rattle.repo_member.specs.Calls.{LogsGoOn, PublicationsStay}
use Rattle.repo_member.specs.Calls.{WithdrawalsStay, LoggedPacketsStay}
use Rattle.group_model.specs.Publications.{has_unwithdrawn}

-- an outcome changes what is stored and tried alone
pub takes_same : {A : Type 0} (f : MemberState → A)
    → ((a : MemberState) (store : List Packet) (attempts : List (Part × ℕ))
    → f (record a { store = store; attempts = attempts }) ≡ f a)
    → (xs : List Fetched) (a : MemberState) → f (member_takes xs a) ≡ f a
takes_same f h [] a = refl
takes_same f h (x ∷ xs) a =
    let store = with_fetched x.part x.packet a.store in
    let attempts = with_tries x.part x.attempts a.attempts in
    takes_same f h xs (record a { store = store; attempts = attempts }) ∙ h a store attempts

-- ---- publications behind others

-- the same member, with the publications `more` after those that it made
pub record HasMore (old new : MemberState) : Type 0 where
  pub number : new.number ≡ old.number
  pub more : List Post
  pub log : new.log ≡ old.log ++ more

nothing_more : (old new : MemberState) → new.number ≡ old.number → new.log ≡ old.log → HasMore old new
nothing_more old new number log = record { number = number; more = []; log = log ∙ sym (append-nil old.log) }

more_published : (g : GroupKeys) (post : Post) (time draw : ℕ) (a : MemberState) (b : Bool)
    → HasMore a (cond b (member_publishes g post time draw a) a)
more_published g post time draw a true = record { number = refl; more = post ∷ []; log = refl }
more_published g post time draw a false = nothing_more a a refl refl

more_heard : (time draw : ℕ) (a : MemberState) (r : Result (List ℕ) HearRefusal) → HasMore a (if_heard time draw a r)
more_heard time draw a (Ok received) = nothing_more a (if_heard time draw a (Ok received)) refl refl
more_heard time draw a (Err refusal) = nothing_more a a refl refl

more_joined : (a : MemberState) (r : Result (List ℕ) HearRefusal) → HasMore a (if_joined a r)
more_joined a (Ok received) = nothing_more a (if_joined a (Ok received)) refl refl
more_joined a (Err refusal) = nothing_more a a refl refl

more_taken : (xs : List Fetched) (a : MemberState) → HasMore a (member_takes xs a)
more_taken xs a =
    nothing_more a (member_takes xs a) (takes_same (λ b. b.number) (λ b s t. refl) xs a)
    (takes_same (λ b. b.log) (λ b s t. refl) xs a)

more_ordered : (order : Result (ℕ × commands.Command) ℕ) (a : MemberState) → HasMore a (member_after_order order a)
more_ordered order a = go order where
  started : (name : List Component) (first last : ℕ) (o : Option ℕ)
      → HasMore a (member_state_starts name first last a o)
  started name first last None = nothing_more a a refl refl
  started name first last (Some n) = nothing_more a (member_state_starts name first last a (Some n)) refl refl

  obeyed : (command : commands.Command) → HasMore a (member_obeys command a)
  obeyed (Insert name first last) = started name first last (next_number a.insertions)
  obeyed (Check process) = nothing_more a a refl refl
  obeyed (Delete name) = nothing_more a (member_deletes name a) refl refl

  go : (order : Result (ℕ × commands.Command) ℕ) → HasMore a (member_after_order order a)
  go (Ok order) = obeyed order.1
  go (Err code) = nothing_more a a refl refl

more_after : (g : GroupKeys) (call : MemberCall) (a : MemberState) → HasMore a (after_call g call a)
more_after g (Publish object time draw) a =
    more_published g (Offers object) time draw a (nat_lt (length a.log) 65535)
more_after g (Withdraw seq time draw) a = go (has_unwithdrawn a.log seq) where
  go : (b : Bool) → HasMore a (cond b (if_numbers g (Withdraws seq) time draw a) a)
  go true = more_published g (Withdraws seq) time draw a (nat_lt (length a.log) 65535)
  go false = nothing_more a a refl refl
more_after g (Hear octets time draw) a = more_heard time draw a (hear_verdict g a octets)
more_after g (HearVector received time draw) a = more_heard time draw a (vector_verdict a received)
more_after g (JoinFrom octets) a = more_joined a (hear_verdict g a octets)
more_after g (JoinVector received) a = more_joined a (vector_verdict a received)
more_after g (Fire time draw) a = nothing_more a (after_call g (Fire time draw) a) refl refl
more_after g (Claim f) a = go (claim_of (member_plan a) f) where
  go : (claim : Option Part) → HasMore a (if_claimed f a claim)
  go None = nothing_more a (if_claimed f a None) refl refl
  go (Some t) = nothing_more a a refl refl
more_after g (Lose f) a = go (claim_of (member_plan a) f) where
  go : (claim : Option Part) → HasMore a (if_lost f a claim)
  go None = nothing_more a a refl refl
  go (Some t) = nothing_more a (if_lost f a (Some t)) refl refl
more_after g (Accept f octets) a = go (accept_verdict g a f octets) where
  go : (r : Result Part AcceptRefusal) → HasMore a (if_accepted f octets a r)
  go (Ok t) = nothing_more a (if_accepted f octets a (Ok t)) refl refl
  go (Err refusal) = nothing_more a a refl refl
more_after g (AcceptChecked f checked) a = go (claim_of (member_plan a) f) where
  go : (claim : Option Part) → HasMore a (if_claimed_held f checked.octets a claim)
  go None = nothing_more a a refl refl
  go (Some t) = nothing_more a (if_claimed_held f checked.octets a (Some t)) refl refl
more_after g (TakeOutcome jobs parts attempts) a = more_taken (outcome_of jobs parts attempts) a
more_after g (TakeDigested jobs parts attempts digests) a = more_taken (outcome_of jobs parts attempts) a
more_after g (Command octets) a = more_ordered (order_of g a.number octets) a
more_after g (CommandChecked octets verdict) a = more_ordered (order_of g a.number octets) a
more_after g (Block process index content time draw) a = go (member_block a process index content) where
  published : (p : Process) (b : Bool)
      → HasMore a (cond b (member_publishes g (Offers (object_of p)) time draw (member_keeps process (closed p) a)) a)
  published p true = record { number = refl; more = Offers (object_of p) ∷ []; log = refl }
  published p false = nothing_more a a refl refl

  go : (state : BlockState) → HasMore a (after_block g process time draw a state)
  go Unknown = nothing_more a a refl refl
  go Already = nothing_more a a refl refl
  go (Waiting p) = nothing_more a (member_keeps process p a) refl refl
  go (Whole p) = published p (nat_lt (length a.log) 65535)
more_after g EndClaims a = nothing_more a (after_call g EndClaims a) refl refl
more_after g (Reset time draw) a = nothing_more a (after_call g (Reset time draw) a) refl refl
more_after g (Restart time draw) a = nothing_more a (after_call g (Restart time draw) a) refl refl
more_after g OrderNames a = nothing_more a a refl refl

pub more_after_all : (g : GroupKeys) (calls : List MemberCall) (a : MemberState) → HasMore a (after_calls g calls a)
more_after_all g [] a = nothing_more a a refl refl
more_after_all g (call ∷ calls) a =
    let one = more_after g call a in
    let others = more_after_all g calls (after_call g call a) in
    record {
      number = others.number ∙ one.number;
      more = one.more ++ others.more;
      log =
          others.log
          ∙ ap (λ (log : List Post). log ++ others.more) one.log
          ∙ append_assoc a.log one.more others.more;
    }

-- ---- the laws

pub logs_go_on : LogsGoOn
logs_go_on g calls a =
    let grown = more_after_all g calls a in
    let long = ap (λ (log : List Post). length log) grown.log in
    record {
      prefix =
          ap (λ (log : List Post). take (length a.log) log) grown.log
          ∙ take_at a.log grown.more (length a.log) refl;
      longer = omega (arith, long, length-append a.log grown.more);
    }

-- what stands in a list's prefix
at_prefix : {A : Type 0} (xs ys : List A) (i : ℕ) (x : A) → slice_get xs i ≡ Some x → slice_get (xs ++ ys) i ≡ Some x
at_prefix [] ys i x h = absurd cc
at_prefix (y ∷ xs) ys zero x h = h
at_prefix (y ∷ xs) ys (suc i) x h = at_prefix xs ys i x h

-- what is published stands after what was
stays_after : (g : GroupKeys) (post : Post) (time draw : ℕ) (calls : List MemberCall) (a : MemberState)
    → length a.log < 65535
    → slice_get (after_calls g calls (if_numbers g post time draw a)).log (length a.log) ≡ Some post
stays_after g post time draw calls a room =
    let next : MemberState = member_publishes g post time draw a in
    let grown = more_after_all g calls next in
    ap (λ (b : Bool). slice_get (after_calls g calls (cond b next a)).log (length a.log))
    (lt-ltb (length a.log) 65535 room)
    ∙ ap (λ (log : List Post). slice_get log (length a.log)) grown.log
    ∙ at_prefix (a.log ++ post ∷ []) grown.more (length a.log) post (slice_get-push a.log post)

pub publications_stay : PublicationsStay
publications_stay g object time draw calls a room = stays_after g (Offers object) time draw calls a room

pub withdrawals_stay : WithdrawalsStay
withdrawals_stay g seq time draw calls a there room =
    ap (λ (b : Bool). slice_get (after_calls g calls (cond b (if_numbers g (Withdraws seq) time draw a) a)).log
    (length a.log)) there
    ∙ stays_after g (Withdraws seq) time draw calls a room

-- the packet of a part of the publications of a log
abbrev packet_logged : GroupKeys → ℕ → List Post → Part → Option (List ℕ)
packet_logged g number log t =
    cond (t.publisher == number)
    (cond (t.seq == 0) None (option_and_then (packet_in (publisher_at g number) t) (slice_get log (t.seq - 1)))) None

logged_on : (g : GroupKeys) (number : ℕ) (log more : List Post) (t : Part) (octets : List ℕ)
    → packet_logged g number log t ≡ Some octets → packet_logged g number (log ++ more) t ≡ Some octets
logged_on g number log more t octets = own (t.publisher == number) (t.seq == 0) where
  own : (b c : Bool)
      → cond b (cond c None (option_and_then (packet_in (publisher_at g number) t) (slice_get log (t.seq - 1)))) None
      ≡ Some octets
      → cond b
      (cond c None (option_and_then (packet_in (publisher_at g number) t) (slice_get (log ++ more) (t.seq - 1)))) None
      ≡ Some octets
  own false c h = absurd cc
  own true true h = absurd cc
  own true false h = at (slice_get log (t.seq - 1)) refl h where
    at : (o : Option Post) → slice_get log (t.seq - 1) ≡ o
        → option_and_then (packet_in (publisher_at g number) t) o ≡ Some octets
        → option_and_then (packet_in (publisher_at g number) t) (slice_get (log ++ more) (t.seq - 1)) ≡ Some octets
    at None p q = absurd cc
    at (Some post) p q =
        ap (option_and_then (packet_in (publisher_at g number) t)) (at_prefix log more (t.seq - 1) post p) ∙ q

pub logged_with_more : (g : GroupKeys) (a b : MemberState) (t : Part) (octets : List ℕ) → HasMore a b
    → logged g a t ≡ Some octets → logged g b t ≡ Some octets
logged_with_more g a b t octets grown h =
    ap (λ (number : ℕ). packet_logged g number b.log t) grown.number
    ∙ ap (λ (log : List Post). packet_logged g a.number log t) grown.log
    ∙ logged_on g a.number a.log grown.more t octets h

pub logged_packets_stay : LoggedPacketsStay
logged_packets_stay g calls a t octets h =
    logged_with_more g a (after_calls g calls a) t octets (more_after_all g calls a) h
