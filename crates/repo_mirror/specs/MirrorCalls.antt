-- Lists of calls of one mirror, and what holds after them.
use Rattle.std.specs.Prelude.{◌≡◌, ℕ, true, List, [], ◌∷◌, length, Option, Some, None, IfSome}
use Rattle.std.specs.List.{All}
use Rattle.svs_vector.specs.Vectors.{join, join_all}
use Rattle.sorted_lists.specs.SortedList.{contains, value_of}
use Rattle.repo_plan.specs.declared.part.Part.{Part}
use Rattle.repo_plan.specs.Parts.{Pair, part_cmp, pair_cmp, pair_of}
use Rattle.repo_object.specs.declared.job.Job.{Job}
use Rattle.repo_object.specs.Verdict.{CheckedPart, IsChecked}
use Rattle.repo_holdings.specs.Listed.{member_catalogue}
use Rattle.repo_watch.specs.declared.pattern.Pattern.{Pattern}
use Rattle.repo_mirror.specs.Mirrors.{is_entry_accepted}
use Rattle.repo_member.specs.Outcomes.{outcome_of}
use Rattle.repo_mirror.specs.MirrorState.{MirrorState, initial_mirror}
use Rattle.repo_mirror.specs.Passing.{mirror_takes}
use Rattle.repo_mirror.specs.MirrorOutcomes.{IsMirrorOutcome}

-- A call that may change a mirror, with its arguments: a vector, or the result of a fetch. A call that runs out of
-- memory changes nothing, so it stands in no list.
pub data MirrorCall : Type 0 where
  Learn : List ℕ → MirrorCall
  TakeOutcome : List Job → List (Option CheckedPart) → List ℕ → MirrorCall

-- The mirror after a call.
abbrev pub after_mirror_call : MirrorCall → MirrorState → MirrorState
after_mirror_call (Learn received) m = record m { known = join m.known received }
after_mirror_call (TakeOutcome jobs parts attempts) m = mirror_takes (outcome_of jobs parts attempts) m

-- The mirror after a list of calls.
abbrev pub after_mirror_calls : List MirrorCall → MirrorState → MirrorState
after_mirror_calls [] m = m
after_mirror_calls (call ∷ calls) m = after_mirror_calls calls (after_mirror_call call m)

-- The conditions of a call, except that which keeps lists of jobs short. A checked part passed its checks by its type.
abbrev pub IsAllowedMirrorCall : MirrorState → MirrorCall → Type 0
IsAllowedMirrorCall m (Learn received) = length received ≡ length m.known
IsAllowedMirrorCall m (TakeOutcome jobs parts attempts) =
    IsMirrorOutcome m jobs parts attempts × All (λ part. IfSome part IsChecked) parts

-- The conditions of each call of a list hold of the mirror as it is then.
abbrev pub AreAllowedMirrorCalls : MirrorState → List MirrorCall → Type 0
AreAllowedMirrorCalls m [] = Unit {0}
AreAllowedMirrorCalls m (call ∷ calls) =
    IsAllowedMirrorCall m call × AreAllowedMirrorCalls (after_mirror_call call m) calls

-- `P` holds of every mirror, from its beginning on and after any calls.
abbrev pub InEveryMirror : (MirrorState → Type 0) → Type 0
InEveryMirror P = (pattern : Pattern) (members : ℕ) (calls : List MirrorCall) →
    let begun = initial_mirror pattern members in
    AreAllowedMirrorCalls begun calls → P (after_mirror_calls calls begun)

-- ---- what holds of every mirror

-- The mirror lists only objects that its pattern accepts.
abbrev pub ListsAccepted : MirrorState → Type 0
ListsAccepted m = All (λ e. is_entry_accepted m.pattern e ≡ true) (member_catalogue m.store)

-- The mirror stores nothing of a publication that it passed over.
abbrev pub PassedIsGone : MirrorState → Type 0
PassedIsGone m = (t : Part) → contains pair_cmp m.passed (pair_of t) ≡ true → value_of part_cmp m.store t ≡ None

-- ---- what lasts

-- A packet that is stored stays.
abbrev pub StoredStays : Type 0
StoredStays = (calls : List MirrorCall) (m : MirrorState) (t : Part) (octets : List ℕ)
    → value_of part_cmp m.store t ≡ Some octets → value_of part_cmp (after_mirror_calls calls m).store t ≡ Some octets

-- A publication that is passed over stays so.
abbrev pub PassedStays : Type 0
PassedStays = (calls : List MirrorCall) (m : MirrorState) (pair : Pair) → contains pair_cmp m.passed pair ≡ true
    → contains pair_cmp (after_mirror_calls calls m).passed pair ≡ true

-- The vectors that the mirror received in a list of calls, in order.
abbrev pub vectors_learnt : List MirrorCall → List (List ℕ)
vectors_learnt [] = []
vectors_learnt (Learn received ∷ calls) = received ∷ vectors_learnt calls
vectors_learnt (TakeOutcome jobs parts attempts ∷ calls) = vectors_learnt calls

-- After calls the mirror's vector is the join of the one before and of those that it received.
abbrev pub KnowsTheJoin : Type 0
KnowsTheJoin = (calls : List MirrorCall) (m : MirrorState)
    → (after_mirror_calls calls m).known ≡ join_all (m.known ∷ vectors_learnt calls)
