-- What calls make of the packets that a member stores.
use Rattle.std.proofs.Common.{◌≡◌, ℕ, Bool, true, false, cond, not, ◌&&◌, List, [], ◌∷◌, length, Option, Some, None}
use Rattle.std.proofs.Common.{Result, Ok, Err, refl, sym, ap, ◌∙◌, subst}
use Rattle.std.specs.Prelude.{nat_lt}
use Rattle.std.specs.Ordering.{eq_by_cmp}
use Rattle.std.proofs.lemmas.Bool.{or_parts, or_right}
use Rattle.repo_plan.specs.declared.part.Part.{Part}
use Rattle.sorted_lists.specs.SortedList.{keys, contains, value_of, with_value}
use Rattle.repo_plan.specs.Parts.{Pair, pair_cmp, part_cmp, pair_of}
use Rattle.repo_plan.specs.Plan.{hides, holds, may_be_asked_for, claim_of}
use Rattle.repo_plan.proofs.Orders.{exact_pairs, exact_parts}
use Rattle.sorted_lists.proofs.Sets.{eq_same, eq_turned, contains-insert_key}
use Rattle.repo_object.specs.Objects.{Post}
use Rattle.repo_object.specs.Objects.Post.{Offers, Withdraws}
use Rattle.group_model.specs.Publications.{has_unwithdrawn}
use Rattle.ndn_name.specs.Names.{Component}
use Rattle.repo_command.specs.declared.command.Command as commands
use Rattle.repo_command.specs.declared.command.Command.TheVariants.{Insert, Check, Delete}
use Rattle.repo_process.specs.Processes.{BlockState, object_of, closed}
use Rattle.repo_process.specs.Processes.BlockState.{Unknown, Already, Waiting, Whole}
use Rattle.repo_process.specs.Insertions.{next_number}
use Rattle.repo_store.specs.StoreList.{with_packet}
use Rattle.repo_member.specs.declared.refusals.HearRefusal.{HearRefusal}
use Rattle.repo_member.specs.declared.refusals.AcceptRefusal.{AcceptRefusal}
use Rattle.repo_holdings.specs.Records.{Packet}
use Rattle.repo_member.specs.Groups.{GroupKeys}
use Rattle.group_model.specs.Member.{with_tries}
use Rattle.repo_member.specs.MemberState.{MemberState, member_plan, new_packets, member_publishes, logged}
use Rattle.repo_holdings.specs.Taking.{Fetched}
use Rattle.repo_holdings.specs.NewPublications.{with_packets}
use Rattle.repo_member.specs.MemberState.{member_takes}
use Rattle.repo_holdings.specs.Taking.{with_fetched}
use Rattle.repo_member.specs.Verdicts.{hear_verdict, vector_verdict, accept_verdict}
use Rattle.repo_member.specs.Outcomes.{outcome_of}
use Rattle.repo_member.specs.Deleting.{catalogued_named, member_state_hides}
use Rattle.repo_member.specs.Commanded.{order_of, member_state_starts, member_obeys, member_after_order}
use Rattle.repo_member.specs.Blocks.{member_block, member_keeps, after_block}
use Rattle.repo_member.specs.Calls.{MemberCall, Publish, Withdraw, if_numbers, Hear, HearVector, JoinFrom, JoinVector}
use Rattle.repo_member.specs.Calls.{Fire, Claim, Lose, Accept, AcceptChecked, TakeOutcome, TakeDigested, Command}
use Rattle.repo_member.specs.Calls.{CommandChecked, Block, EndClaims, Reset, Restart, OrderNames, if_heard, if_joined}
use Rattle.repo_member.specs.Calls.{if_claimed, if_lost, if_claimed_held, if_accepted, after_call, after_calls}
use Rattle.repo_member.specs.Calls.{HeldPacketsStay, HiddenForGood, HiddenIsGone}
use Rattle.repo_member.specs.Calls.{OwnStored}
use Rattle.repo_holdings.proofs.GainingLemmas.{put_elsewhere}
use Rattle.repo_holdings.proofs.HidingLemmas.{value_outside}
use Rattle.repo_member.proofs.HeldParts.{IsReached, StaysStored, missing_value}
use Rattle.repo_member.proofs.HiddenParts.{hidden_one}
use Rattle.repo_member.proofs.CallLogs.{takes_same}

stays_as_it_is : (stored : List Packet) → StaysStored stored stored
stays_as_it_is stored = record { still = λ t octets h. h }

stays_longer : (first second third : List Packet) → StaysStored first second → StaysStored second third
    → StaysStored first third
stays_longer first second third a b = record { still = λ t octets h. b.still t octets (a.still t octets h) }

stays_with : (part : Part) (more : List ℕ) (stored : List Packet) → StaysStored stored (with_packet part more stored)
stays_with part more stored = go (contains part_cmp (keys stored) part) refl where
  beside : contains part_cmp (keys stored) part ≡ false → (t : Part) (octets : List ℕ) (b : Bool)
      → eq_by_cmp part_cmp t part ≡ b → value_of part_cmp stored t ≡ Some octets
      → value_of part_cmp (with_packet part more stored) t ≡ Some octets
  beside absent t octets false p h = put_elsewhere stored part more absent t p ∙ h
  beside absent t octets true p h =
      let none : value_of part_cmp stored t ≡ None =
      ap (value_of part_cmp stored) (eq_same exact_parts t part p) ∙ missing_value stored part absent in
      absurd (nothing (sym none ∙ h)) where
        nothing : (let o : Option (List ℕ) = None in o) ≡ Some octets → ⊥
        nothing k = cc

  go : (b : Bool) → contains part_cmp (keys stored) part ≡ b → StaysStored stored (with_packet part more stored)
  go true p = record {
    still =
        λ t octets h.
        ap (λ (b : Bool). value_of part_cmp (cond b stored (with_value part_cmp part more stored)) t) p ∙ h;
  }
  go false p = record { still = λ t octets h. beside p t octets (eq_by_cmp part_cmp t part) refl h }

stays_with_all : (es stored : List Packet) → StaysStored stored (with_packets es stored)
stays_with_all [] stored = stays_as_it_is stored
stays_with_all (e ∷ es) stored =
    let next = with_packet e.0 e.1 stored in
    stays_longer stored next (with_packets es next) (stays_with e.0 e.1 stored) (stays_with_all es next)

stays_fetched : (t : Part) (packet : Option (List ℕ)) (stored : List Packet)
    → StaysStored stored (with_fetched t packet stored)
stays_fetched t None stored = stays_as_it_is stored
stays_fetched t (Some octets) stored = stays_with t octets stored

stays_taken : (xs : List Fetched) (a : MemberState) → StaysStored a.store (member_takes xs a).store
stays_taken [] a = stays_as_it_is a.store
stays_taken (x ∷ xs) a =
    let next : MemberState =
    record a { store = with_fetched x.part x.packet a.store; attempts = with_tries x.part x.attempts a.attempts } in
    stays_longer a.store next.store (member_takes xs next).store (stays_fetched x.part x.packet a.store)
    (stays_taken xs next)

-- ---- a call

-- What is hidden stays hidden, and what is stored stays, except what is hidden.
record Keeps (old new : MemberState) : Type 0 where
  hidden : (pair : Pair) → hides (member_plan old) pair ≡ true → hides (member_plan new) pair ≡ true
  stored : (t : Part) (octets : List ℕ) → value_of part_cmp old.store t ≡ Some octets
      → hides (member_plan new) (pair_of t) ≡ false → value_of part_cmp new.store t ≡ Some octets

keeps_all : (old new : MemberState) → new.hidden ≡ old.hidden → StaysStored old.store new.store → Keeps old new
keeps_all old new hidden stays = record {
  hidden = λ pair h. ap (λ (pairs : List Pair). contains pair_cmp pairs pair) hidden ∙ h;
  stored = λ t octets h shown. stays.still t octets h;
}

keeps_as_it_is : (old new : MemberState) → new.hidden ≡ old.hidden → new.store ≡ old.store → Keeps old new
keeps_as_it_is old new hidden store =
    keeps_all old new hidden (subst (StaysStored old.store) (sym store) (stays_as_it_is old.store))

keeps_longer : (first second third : MemberState) → Keeps first second → Keeps second third → Keeps first third
keeps_longer first second third a b = record {
  hidden = λ pair h. b.hidden pair (a.hidden pair h);
  stored =
      λ t octets h shown. b.stored t octets
      (a.stored t octets h (still_shown (pair_of t) (hides (member_plan second) (pair_of t)) refl shown)) shown;
} where
  still_shown : (pair : Pair) (c : Bool) → hides (member_plan second) pair ≡ c → hides (member_plan third) pair ≡ false
      → c ≡ false
  still_shown pair true h shown = sym (b.hidden pair h) ∙ shown
  still_shown pair false h shown = refl

keeps_hidden_one : (pair : Pair) (a : MemberState) → Keeps a (hidden_one pair a)
keeps_hidden_one pair a = record {
  hidden =
      λ q h. contains-insert_key exact_pairs pair a.hidden q
      ∙ or_right (eq_by_cmp pair_cmp q pair) (contains pair_cmp a.hidden q) h;
  stored = λ t octets h shown.
      let apart =
      or_parts (eq_by_cmp pair_cmp (pair_of t) pair) (contains pair_cmp a.hidden (pair_of t))
      (sym (contains-insert_key exact_pairs pair a.hidden (pair_of t)) ∙ shown) in
      value_outside pair a.store t
      ∙ ap (λ (b : Bool). cond (not b) (value_of part_cmp a.store t) None)
      (eq_turned exact_pairs pair (pair_of t) ∙ apart.0)
      ∙ h;
}

keeps_hidden : (pairs : List Pair) (a : MemberState) → Keeps a (member_state_hides pairs a)
keeps_hidden [] a = keeps_as_it_is a (member_state_hides [] a) refl refl
keeps_hidden (pair ∷ pairs) a =
    keeps_longer a (hidden_one pair a) (member_state_hides pairs (hidden_one pair a)) (keeps_hidden_one pair a)
    (keeps_hidden pairs (hidden_one pair a))

keeps_published : (g : GroupKeys) (post : Post) (time draw : ℕ) (old a : MemberState) → a.hidden ≡ old.hidden
    → a.store ≡ old.store → (b : Bool)
    → Keeps old (cond b (member_publishes g post time draw a) old)
keeps_published g post time draw old a hidden store true =
    keeps_all old (member_publishes g post time draw a) hidden
    (subst (λ (stored : List Packet). StaysStored stored (with_packets (new_packets g post a) a.store)) store
    (stays_with_all (new_packets g post a) a.store))
keeps_published g post time draw old a hidden store false = keeps_as_it_is old old refl refl

keeps_heard : (time draw : ℕ) (a : MemberState) (v : Result (List ℕ) HearRefusal) → Keeps a (if_heard time draw a v)
keeps_heard time draw a (Ok received) = keeps_as_it_is a (if_heard time draw a (Ok received)) refl refl
keeps_heard time draw a (Err refusal) = keeps_as_it_is a a refl refl

keeps_joined : (a : MemberState) (v : Result (List ℕ) HearRefusal) → Keeps a (if_joined a v)
keeps_joined a (Ok received) = keeps_as_it_is a (if_joined a (Ok received)) refl refl
keeps_joined a (Err refusal) = keeps_as_it_is a a refl refl

keeps_taken : (xs : List Fetched) (a : MemberState) → Keeps a (member_takes xs a)
keeps_taken xs a =
    keeps_all a (member_takes xs a) (takes_same (λ b. b.hidden) (λ b s t. refl) xs a) (stays_taken xs a)

keeps_ordered : (order : Result (ℕ × commands.Command) ℕ) (a : MemberState) → Keeps a (member_after_order order a)
keeps_ordered order a = go order where
  started : (name : List Component) (first last : ℕ) (o : Option ℕ) → Keeps a (member_state_starts name first last a o)
  started name first last None = keeps_as_it_is a a refl refl
  started name first last (Some n) = keeps_as_it_is a (member_state_starts name first last a (Some n)) refl refl

  obeyed : (command : commands.Command) → Keeps a (member_obeys command a)
  obeyed (Insert name first last) = started name first last (next_number a.insertions)
  obeyed (Check process) = keeps_as_it_is a a refl refl
  obeyed (Delete name) = keeps_hidden (catalogued_named name a) a

  go : (order : Result (ℕ × commands.Command) ℕ) → Keeps a (member_after_order order a)
  go (Ok order) = obeyed order.1
  go (Err code) = keeps_as_it_is a a refl refl

keeps_after : (g : GroupKeys) (call : MemberCall) (a : MemberState) → Keeps a (after_call g call a)
keeps_after g (Publish object time draw) a =
    keeps_published g (Offers object) time draw a a refl refl (nat_lt (length a.log) 65535)
keeps_after g (Withdraw seq time draw) a = go (has_unwithdrawn a.log seq) where
  go : (b : Bool) → Keeps a (cond b (if_numbers g (Withdraws seq) time draw a) a)
  go true = keeps_published g (Withdraws seq) time draw a a refl refl (nat_lt (length a.log) 65535)
  go false = keeps_as_it_is a a refl refl
keeps_after g (Hear octets time draw) a = keeps_heard time draw a (hear_verdict g a octets)
keeps_after g (HearVector received time draw) a = keeps_heard time draw a (vector_verdict a received)
keeps_after g (JoinFrom octets) a = keeps_joined a (hear_verdict g a octets)
keeps_after g (JoinVector received) a = keeps_joined a (vector_verdict a received)
keeps_after g (Fire time draw) a = keeps_as_it_is a (after_call g (Fire time draw) a) refl refl
keeps_after g (Claim f) a = go (claim_of (member_plan a) f) where
  go : (claim : Option Part) → Keeps a (if_claimed f a claim)
  go None = keeps_as_it_is a (if_claimed f a None) refl refl
  go (Some t) = keeps_as_it_is a a refl refl
keeps_after g (Lose f) a = go (claim_of (member_plan a) f) where
  go : (claim : Option Part) → Keeps a (if_lost f a claim)
  go None = keeps_as_it_is a a refl refl
  go (Some t) = keeps_as_it_is a (if_lost f a (Some t)) refl refl
keeps_after g (Accept f octets) a = go (accept_verdict g a f octets) where
  go : (v : Result Part AcceptRefusal) → Keeps a (if_accepted f octets a v)
  go (Ok t) = keeps_all a (if_accepted f octets a (Ok t)) refl (stays_with t octets a.store)
  go (Err refusal) = keeps_as_it_is a a refl refl
keeps_after g (AcceptChecked f checked) a = go (claim_of (member_plan a) f) where
  go : (claim : Option Part) → Keeps a (if_claimed_held f checked.octets a claim)
  go None = keeps_as_it_is a a refl refl
  go (Some t) =
      keeps_all a (if_claimed_held f checked.octets a (Some t)) refl (stays_with t checked.octets a.store)
keeps_after g (TakeOutcome jobs parts attempts) a = keeps_taken (outcome_of jobs parts attempts) a
keeps_after g (TakeDigested jobs parts attempts digests) a = keeps_taken (outcome_of jobs parts attempts) a
keeps_after g (Command octets) a = keeps_ordered (order_of g a.number octets) a
keeps_after g (CommandChecked octets verdict) a = keeps_ordered (order_of g a.number octets) a
keeps_after g (Block process index content time draw) a = go (member_block a process index content) where
  go : (state : BlockState) → Keeps a (after_block g process time draw a state)
  go Unknown = keeps_as_it_is a a refl refl
  go Already = keeps_as_it_is a a refl refl
  go (Waiting p) = keeps_as_it_is a (member_keeps process p a) refl refl
  go (Whole p) =
      keeps_published g (Offers (object_of p)) time draw a (member_keeps process (closed p) a) refl refl
      (nat_lt (length a.log) 65535)
keeps_after g EndClaims a = keeps_as_it_is a (after_call g EndClaims a) refl refl
keeps_after g (Reset time draw) a = keeps_as_it_is a (after_call g (Reset time draw) a) refl refl
keeps_after g (Restart time draw) a = keeps_as_it_is a (after_call g (Restart time draw) a) refl refl
keeps_after g OrderNames a = keeps_as_it_is a a refl refl

-- ---- the laws

keeps_after_all : (g : GroupKeys) (calls : List MemberCall) (a : MemberState) → Keeps a (after_calls g calls a)
keeps_after_all g [] a = keeps_as_it_is a a refl refl
keeps_after_all g (call ∷ calls) a =
    keeps_longer a (after_call g call a) (after_calls g calls (after_call g call a)) (keeps_after g call a)
    (keeps_after_all g calls (after_call g call a))

pub held_packets_stay : HeldPacketsStay
held_packets_stay g calls a t octets h shown = (keeps_after_all g calls a).stored t octets h shown

pub hidden_for_good : HiddenForGood
hidden_for_good g calls a pair h = (keeps_after_all g calls a).hidden pair h

pub hidden_is_gone : (g : GroupKeys) (a : MemberState) → IsReached g a → HiddenIsGone g a
hidden_is_gone g a r t h = (
  ap (λ (b : Bool). may_be_asked_for (member_plan a) t && (not (holds (member_plan a) t) && not b)) h
      ∙ none (may_be_asked_for (member_plan a) t) (not (holds (member_plan a) t)),
  missing_value a.store t (r.sound.hidden t h),
) where
  none : (b c : Bool) → (b && (c && false)) ≡ false
  none true true = refl
  none true false = refl
  none false c = refl

-- an own part is stored as it was published, unless its publication is hidden
pub own_stored : (g : GroupKeys) (a : MemberState) → IsReached g a → OwnStored g a
own_stored g a r t own = go (hides (member_plan a) (pair_of t)) refl where
  go : (b : Bool) → hides (member_plan a) (pair_of t) ≡ b → value_of part_cmp a.store t ≡ cond b None (logged g a t)
  go true h = missing_value a.store t (r.sound.hidden t h)
  go false shown = r.own t own shown
