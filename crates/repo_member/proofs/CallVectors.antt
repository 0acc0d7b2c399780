-- What calls make of the numbers that a member knows.
use Rattle.std.proofs.Common.{◌≡◌, inl, inr, ℕ, zero, suc, ◌+◌, ◌<◌, ◌≤◌, max, Bool, true, false, cond, List, [], ◌∷◌}
use Rattle.std.proofs.Common.{◌++◌, length, Option, Some, None, Result, Ok, Err, refl, sym, ap, ◌∙◌, arith}
use Rattle.std.specs.Prelude.{nat_lt, slice_index, slice_set}
use Rattle.std.proofs.lemmas.Bool.{cases_eq, ltb-false}
use Rattle.std.proofs.lemmas.List.{length-set, length_push, set-get_or, get_or-set_same, get_or-set_other}
use Rattle.svs_vector.specs.Vectors.{join, join_all}
use Rattle.svs_vector.proofs.JoinLemmas.{join-[], join_assoc, join-at}
use Rattle.svs_sync.specs.declared.sync_refusal.SyncRefusal.{SyncRefusal}
use Rattle.svs_sync.specs.SyncInterest.{sync_verdict}
use Rattle.repo_plan.specs.declared.part.Part.{Part}
use Rattle.repo_plan.specs.Plan.{claim_of}
use Rattle.repo_object.specs.Objects.{Post}
use Rattle.repo_object.specs.Objects.Post.{Offers, Withdraws}
use Rattle.group_model.specs.Publications.{has_unwithdrawn}
use Rattle.ndn_name.specs.Names.{Component}
use Rattle.repo_command.specs.declared.command.Command as commands
use Rattle.repo_command.specs.declared.command.Command.TheVariants.{Insert, Check, Delete}
use Rattle.repo_process.specs.Processes.{Process, BlockState, object_of, closed}
use Rattle.repo_process.specs.Processes.BlockState.{Unknown, Already, Waiting, Whole}
use Rattle.repo_process.specs.Insertions.{next_number}
use Rattle.repo_member.specs.declared.refusals.HearRefusal.{HearRefusal}
use Rattle.repo_member.specs.declared.refusals.HearRefusal.TheVariants.{OwnNumberAhead}
use Rattle.repo_member.specs.declared.refusals.AcceptRefusal.{AcceptRefusal}
use Rattle.repo_member.specs.Groups.{GroupKeys}
use Rattle.repo_holdings.specs.Taking.{Fetched}
use Rattle.repo_member.specs.MemberState.{MemberState, member_plan, member_publishes, member_takes}
use Rattle.repo_member.specs.Verdicts.{vector_verdict, received_verdict, hear_verdict, accept_verdict}
use Rattle.repo_member.specs.Outcomes.{outcome_of}
use Rattle.repo_member.specs.Deleting.{member_deletes}
use Rattle.repo_member.specs.Commanded.{order_of, member_state_starts, member_obeys, member_after_order}
use Rattle.repo_member.specs.Blocks.{member_block, member_keeps, after_block}
use Rattle.repo_member.specs.Calls.{MemberCall, Publish, Withdraw, if_numbers, Hear, HearVector, JoinFrom, JoinVector}
use Rattle.repo_member.specs.Calls.{Fire, Claim, Lose, Accept, AcceptChecked, TakeOutcome, TakeDigested, Command}
use Rattle.repo_member.specs.Calls.{CommandChecked, Block, EndClaims, Reset, Restart, OrderNames, if_heard, if_joined}
use Rattle.repo_member.specs.Calls.{if_claimed, if_lost, if_claimed_held, if_accepted}
use Rattle.repo_member.specs.Calls.{after_call, after_calls, vector_taken, vector_of_call, vectors_received}
use Rattle.repo_member.specs.Calls.{NumbersNeverFall, KnownIsTheJoin}
use Rattle.repo_member.proofs.CallLogs.{takes_same}

-- ---- what octets tell

-- a vector that is taken: it was reported, and reports no more publications of the member than it made
pub record IsReceived (g : GroupKeys) (a : MemberState) (octets received : List ℕ) : Type 0 where
  pub signer : ℕ
  pub verdict : sync_verdict g.name g.members.names g.members.ring octets ≡ Ok (signer, received)
  pub not_ahead : slice_index received a.number ≤ length a.log

is_ok_received : (x y : List ℕ) → (let r : Result (List ℕ) HearRefusal = Ok x in r) ≡ Ok y → x ≡ y
is_ok_received x y h = cc

-- a vector that a member takes is the one that it was reported, and reports no more publications of it than it made
pub taken_vector : (a : MemberState) (v received : List ℕ) → vector_verdict a v ≡ Ok received
    → (v ≡ received) × (slice_index received a.number ≤ length a.log)
taken_vector a v received h = go (nat_lt (length a.log) (slice_index v a.number)) refl h where
  go : (b : Bool) → nat_lt (length a.log) (slice_index v a.number) ≡ b
      → cond b (Err (OwnNumberAhead (length a.log) (slice_index v a.number))) (Ok v) ≡ Ok received
      → (v ≡ received) × (slice_index received a.number ≤ length a.log)
  go true n k = absurd cc
  go false n k =
      let same : v ≡ received = is_ok_received v received k in (
        same,
        omega (
          arith,
          ltb-false (length a.log) (slice_index v a.number) n,
          ap (λ (w : List ℕ). slice_index w a.number) same,
        ),
      )

pub received_is : (g : GroupKeys) (a : MemberState) (octets received : List ℕ) → hear_verdict g a octets ≡ Ok received
    → IsReceived g a octets received
received_is g a octets received h = go (sync_verdict g.name g.members.names g.members.ring octets) refl h where
  go : (r : Result (ℕ × List ℕ) SyncRefusal) → sync_verdict g.name g.members.names g.members.ring octets ≡ r
      → received_verdict a r ≡ Ok received → IsReceived g a octets received
  go (Err refusal) p q = absurd cc
  go (Ok sync) p q =
      let is = taken_vector a sync.1 received q in
      record { signer = sync.0; verdict = p ∙ ap (λ (v : List ℕ). Ok (sync.0, v)) is.0; not_ahead = is.1 }

-- ---- the number of an own publication

-- a member that knows all that it published
pub record KnowsOwn (a : MemberState) : Type 0 where
  pub member : a.number < length a.known
  pub own : slice_index a.known a.number ≡ length a.log

pub long_join : (v w : List ℕ) → length v ≤ length (join v w)
unfolding join
long_join [] w = omega arith
long_join (n ∷ v) [] = omega arith
long_join (n ∷ v) (m ∷ w) = omega (arith, long_join v w)

-- two numbers that are put into one place, and a vector that is joined between
set_joined : (v w : List ℕ) (i n m : ℕ) → i < length v
    → slice_set (join (slice_set v i n) w) i m ≡ slice_set (join v w) i m
unfolding join
set_joined [] w i n m h = absurd (omega arith)
set_joined (x ∷ v) [] zero n m h = refl
set_joined (x ∷ v) [] (suc i) n m h =
    ap (λ (u : List ℕ). x ∷ u)
    (ap (λ (u : List ℕ). slice_set u i m) (sym (join-[] (slice_set v i n))) ∙ set_joined v [] i n m (omega arith)
    ∙ ap (λ (u : List ℕ). slice_set u i m) (join-[] v))
set_joined (x ∷ v) (y ∷ w) zero n m h = refl
set_joined (x ∷ v) (y ∷ w) (suc i) n m h = ap (λ (u : List ℕ). max x y ∷ u) (set_joined v w i n m (omega arith))

-- ---- a call

-- from one member to another by a call: what it knew is joined with what it heard, except its own number
record Learns (received : List (List ℕ)) (old new : MemberState) : Type 0 where
  number : new.number ≡ old.number
  knows : KnowsOwn new
  rises : (p : ℕ) → slice_index old.known p ≤ slice_index new.known p
  joined : (others : List ℕ) (n : ℕ)
      → slice_set (join new.known others) old.number n
      ≡ slice_set (join old.known (join (join_all received) others)) old.number n

learns_nothing : (old new : MemberState) → new.number ≡ old.number → new.known ≡ old.known → new.log ≡ old.log
    → KnowsOwn old
    → Learns [] old new
unfolding join_all join
learns_nothing old new number known log is = record {
  number = number;
  knows = record {
    member = omega (arith, number, ap (λ (v : List ℕ). length v) known, is.member);
    own =
        ap (λ (v : List ℕ). slice_index v new.number) known
        ∙ ap (slice_index old.known) number
        ∙ is.own
        ∙ sym (ap (λ (l : List Post). length l) log);
  };
  rises = λ p. omega (arith, ap (λ (v : List ℕ). slice_index v p) known);
  joined = λ others n. ap (λ (v : List ℕ). slice_set (join v others) old.number n) known;
}

learns_vector : (received : List ℕ) (old new : MemberState) → slice_index received old.number ≤ length old.log
    → new.number ≡ old.number → new.known ≡ join old.known received → new.log ≡ old.log → KnowsOwn old
    → Learns (received ∷ []) old new
unfolding join_all
learns_vector received old new few number known log is =
    let at = join-at old.known received in
    let lasting = ap (λ (l : List Post). length l) log in
    record {
      number = number;
      knows = record {
        member = omega (arith, number, ap (λ (v : List ℕ). length v) known, is.member, long_join old.known received);
        own =
            ap (λ (v : List ℕ). slice_index v new.number) known
            ∙ ap (slice_index (join old.known received)) number
            ∙ at old.number
            ∙ omega (arith, is.own, few, lasting);
      };
      rises = λ p. omega (arith, ap (λ (v : List ℕ). slice_index v p) known, at p);
      joined = λ others n.
          ap (λ (v : List ℕ). slice_set (join v others) old.number n) known
          ∙ ap (λ (v : List ℕ). slice_set v old.number n) (join_assoc old.known received others)
          ∙ ap (λ (v : List ℕ). slice_set (join old.known (join v others)) old.number n) (sym (join-[] received));
    }

learns_own : (post : Post) (old new : MemberState) → new.number ≡ old.number
    → new.known ≡ slice_set old.known old.number (length old.log + 1) → new.log ≡ old.log ++ post ∷ [] → KnowsOwn old
    → Learns [] old new
unfolding join_all join
learns_own post old new number known log is =
    let at = get_or-set_same old.known old.number (length old.log + 1) 0 is.member in
    let longer = ap (λ (l : List Post). length l) log ∙ length_push old.log post in
    record {
      number = number;
      knows = record {
        member =
            omega (
              arith,
              number,
              ap (λ (v : List ℕ). length v) known,
              length-set old.known old.number (length old.log + 1),
              is.member,
            );
        own =
            ap (λ (v : List ℕ). slice_index v new.number) known
            ∙ ap (slice_index (slice_set old.known old.number (length old.log + 1))) number
            ∙ at
            ∙ omega (arith, longer);
      };
      rises = λ p. elim (cases_eq p old.number) [
        | inl here ↦
            omega (
              arith,
              ap (λ (v : List ℕ). slice_index v p) known,
              ap (slice_index (slice_set old.known old.number (length old.log + 1))) here,
              at,
              is.own,
              ap (slice_index old.known) here,
            )
        | inr other ↦
            omega (
              arith,
              ap (λ (v : List ℕ). slice_index v p) known,
              get_or-set_other old.known old.number p (length old.log + 1) 0 other,
            )
      ];
      joined = λ others n.
          ap (λ (v : List ℕ). slice_set (join v others) old.number n) known
          ∙ set_joined old.known others old.number (length old.log + 1) n is.member;
    }

learns_published : (g : GroupKeys) (post : Post) (time draw : ℕ) (a : MemberState) → KnowsOwn a → (b : Bool)
    → Learns [] a (cond b (member_publishes g post time draw a) a)
learns_published g post time draw a is true =
    learns_own post a (member_publishes g post time draw a) refl refl refl is
learns_published g post time draw a is false = learns_nothing a a refl refl refl is

-- a vector is taken that reports no more publications of the member than it made
learns_heard : (time draw : ℕ) (a : MemberState) (r : Result (List ℕ) HearRefusal)
    → ((received : List ℕ) → r ≡ Ok received → slice_index received a.number ≤ length a.log) → KnowsOwn a
    → Learns (vector_taken r) a (if_heard time draw a r)
learns_heard time draw a (Ok received) few is =
    learns_vector received a (if_heard time draw a (Ok received)) (few received refl) refl refl refl is
learns_heard time draw a (Err refusal) few is = learns_nothing a a refl refl refl is

learns_joined : (a : MemberState) (r : Result (List ℕ) HearRefusal)
    → ((received : List ℕ) → r ≡ Ok received → slice_index received a.number ≤ length a.log) → KnowsOwn a
    → Learns (vector_taken r) a (if_joined a r)
learns_joined a (Ok received) few is = learns_vector received a (if_joined a (Ok received)) (few received refl) refl
    refl refl is
learns_joined a (Err refusal) few is = learns_nothing a a refl refl refl is

learns_taken : (xs : List Fetched) (a : MemberState) → KnowsOwn a → Learns [] a (member_takes xs a)
learns_taken xs a is =
    learns_nothing a (member_takes xs a) (takes_same (λ b. b.number) (λ b s t. refl) xs a)
    (takes_same (λ b. b.known) (λ b s t. refl) xs a) (takes_same (λ b. b.log) (λ b s t. refl) xs a) is

learns_ordered : (order : Result (ℕ × commands.Command) ℕ) (a : MemberState) → KnowsOwn a
    → Learns [] a (member_after_order order a)
learns_ordered order a is = go order where
  started : (name : List Component) (first last : ℕ) (o : Option ℕ)
      → Learns [] a (member_state_starts name first last a o)
  started name first last None = learns_nothing a a refl refl refl is
  started name first last (Some n) = learns_nothing a (member_state_starts name first last a (Some n)) refl refl refl is

  obeyed : (command : commands.Command) → Learns [] a (member_obeys command a)
  obeyed (Insert name first last) = started name first last (next_number a.insertions)
  obeyed (Check process) = learns_nothing a a refl refl refl is
  obeyed (Delete name) = learns_nothing a (member_deletes name a) refl refl refl is

  go : (order : Result (ℕ × commands.Command) ℕ) → Learns [] a (member_after_order order a)
  go (Ok order) = obeyed order.1
  go (Err code) = learns_nothing a a refl refl refl is

learns_by : (g : GroupKeys) (call : MemberCall) (a : MemberState) → KnowsOwn a
    → Learns (vector_of_call g a call) a (after_call g call a)
learns_by g (Publish object time draw) a is =
    learns_published g (Offers object) time draw a is (nat_lt (length a.log) 65535)
learns_by g (Withdraw seq time draw) a is = go (has_unwithdrawn a.log seq) where
  go : (b : Bool) → Learns [] a (cond b (if_numbers g (Withdraws seq) time draw a) a)
  go true = learns_published g (Withdraws seq) time draw a is (nat_lt (length a.log) 65535)
  go false = learns_nothing a a refl refl refl is
learns_by g (Hear octets time draw) a is =
    learns_heard time draw a (hear_verdict g a octets) (λ received p. (received_is g a octets received p).not_ahead) is
learns_by g (HearVector received time draw) a is =
    learns_heard time draw a (vector_verdict a received) (λ taken p. (taken_vector a received taken p).1) is
learns_by g (JoinFrom octets) a is =
    learns_joined a (hear_verdict g a octets) (λ received p. (received_is g a octets received p).not_ahead) is
learns_by g (JoinVector received) a is =
    learns_joined a (vector_verdict a received) (λ taken p. (taken_vector a received taken p).1) is
learns_by g (Fire time draw) a is = learns_nothing a (after_call g (Fire time draw) a) refl refl refl is
learns_by g (Claim f) a is = go (claim_of (member_plan a) f) where
  go : (claim : Option Part) → Learns [] a (if_claimed f a claim)
  go None = learns_nothing a (if_claimed f a None) refl refl refl is
  go (Some t) = learns_nothing a a refl refl refl is
learns_by g (Lose f) a is = go (claim_of (member_plan a) f) where
  go : (claim : Option Part) → Learns [] a (if_lost f a claim)
  go None = learns_nothing a a refl refl refl is
  go (Some t) = learns_nothing a (if_lost f a (Some t)) refl refl refl is
learns_by g (Accept f octets) a is = go (accept_verdict g a f octets) where
  go : (r : Result Part AcceptRefusal) → Learns [] a (if_accepted f octets a r)
  go (Ok t) = learns_nothing a (if_accepted f octets a (Ok t)) refl refl refl is
  go (Err refusal) = learns_nothing a a refl refl refl is
learns_by g (AcceptChecked f checked) a is = go (claim_of (member_plan a) f) where
  go : (claim : Option Part) → Learns [] a (if_claimed_held f checked.octets a claim)
  go None = learns_nothing a a refl refl refl is
  go (Some t) = learns_nothing a (if_claimed_held f checked.octets a (Some t)) refl refl refl is
learns_by g (TakeOutcome jobs parts attempts) a is = learns_taken (outcome_of jobs parts attempts) a is
learns_by g (TakeDigested jobs parts attempts digests) a is = learns_taken (outcome_of jobs parts attempts) a is
learns_by g (Command octets) a is = learns_ordered (order_of g a.number octets) a is
learns_by g (CommandChecked octets verdict) a is = learns_ordered (order_of g a.number octets) a is
learns_by g (Block process index content time draw) a is = go (member_block a process index content) where
  published : (p : Process) (b : Bool)
      → Learns [] a (cond b (member_publishes g (Offers (object_of p)) time draw (member_keeps process (closed p) a)) a)
  published p true =
      learns_own (Offers (object_of p)) a
      (member_publishes g (Offers (object_of p)) time draw (member_keeps process (closed p) a)) refl
      refl refl is
  published p false = learns_nothing a a refl refl refl is

  go : (state : BlockState) → Learns [] a (after_block g process time draw a state)
  go Unknown = learns_nothing a a refl refl refl is
  go Already = learns_nothing a a refl refl refl is
  go (Waiting p) = learns_nothing a (member_keeps process p a) refl refl refl is
  go (Whole p) = published p (nat_lt (length a.log) 65535)
learns_by g EndClaims a is = learns_nothing a (after_call g EndClaims a) refl refl refl is
learns_by g (Reset time draw) a is = learns_nothing a (after_call g (Reset time draw) a) refl refl refl is
learns_by g (Restart time draw) a is = learns_nothing a (after_call g (Restart time draw) a) refl refl refl is
learns_by g OrderNames a is = learns_nothing a a refl refl refl is

-- ---- the laws

rises_by_all : (g : GroupKeys) (calls : List MemberCall) (a : MemberState) (p : ℕ) → KnowsOwn a
    → slice_index a.known p ≤ slice_index (after_calls g calls a).known p
rises_by_all g [] a p is = omega arith
rises_by_all g (call ∷ calls) a p is =
    let one = learns_by g call a is in
    omega (arith, one.rises p, rises_by_all g calls (after_call g call a) p one.knows)

pub numbers_never_fall : NumbersNeverFall
numbers_never_fall g calls a p is = rises_by_all g calls a p (record { member = is.member; own = is.own })

join_all-append : (vs ws : List (List ℕ)) → join_all (vs ++ ws) ≡ join (join_all vs) (join_all ws)
unfolding join_all join
join_all-append [] ws = refl
join_all-append (v ∷ vs) ws = ap (join v) (join_all-append vs ws) ∙ sym (join_assoc v (join_all vs) (join_all ws))

known_by_all : (g : GroupKeys) (calls : List MemberCall) (a : MemberState) → KnowsOwn a
    → (after_calls g calls a).known
    ≡ slice_set (join a.known (join_all (vectors_received g calls a))) a.number (length (after_calls g calls a).log)
unfolding join_all
known_by_all g [] a is =
    sym (ap (λ (v : List ℕ). slice_set v a.number (length a.log)) (join-[] a.known)
    ∙ ap (slice_set a.known a.number) (sym is.own) ∙ set-get_or a.known a.number 0)
known_by_all g (call ∷ calls) a is =
    let next = after_call g call a in
    let one = learns_by g call a is in
    let received = vector_of_call g a call in
    let others = vectors_received g calls next in
    let last = length (after_calls g calls next).log in
    known_by_all g calls next one.knows
    ∙ ap (λ (i : ℕ). slice_set (join next.known (join_all others)) i last) one.number
    ∙ one.joined (join_all others) last
    ∙ ap (λ (v : List ℕ). slice_set (join a.known v) a.number last) (sym (join_all-append received others))

pub known_is_the_join : KnownIsTheJoin
unfolding join_all
known_is_the_join g calls a is = known_by_all g calls a (record { member = is.member; own = is.own })
