-- Lists of calls of one member of a group, and what holds after them.
use Rattle.std.specs.Prelude.{◌≡◌, ◌≢◌, ℕ, ◌<◌, ◌≤◌, true, false, List, [], ◌∷◌, ◌++◌, length, take, Option, Some, None}
use Rattle.std.specs.Prelude.{Result, Ok, Err, slice_index, slice_set, slice_get, nat_lt, if◌then◌else◌, IsOk, IfOk}
use Rattle.std.specs.Prelude.{IfSome}
use Rattle.std.specs.List.{All}
use Rattle.svs_vector.specs.Vectors.{join_all}
use Rattle.repo_plan.specs.declared.part.Part.{Part}
use Rattle.repo_plan.specs.Parts.{Pair, part_cmp, pair_of}
use Rattle.sorted_lists.specs.SortedList.{value_of}
use Rattle.repo_plan.specs.Plan.{hides, is_wanted, claim_of, unclaimed, first}
use Rattle.repo_plan.specs.Calls.{IsFetcher}
use Rattle.repo_object.specs.declared.job.Job.{Job}
use Rattle.repo_object.specs.Objects.{NamedContents, Post, IsContent, IsObject}
use Rattle.repo_object.specs.Objects.Post.{Offers, Withdraws}
use Rattle.repo_object.specs.Verdict.{CheckedPart, IsChecked, ring_verdict}
use Rattle.repo_command.specs.declared.command.Command as commands
use Rattle.repo_command.specs.declared.command_refusal.CommandRefusal.{CommandRefusal}
use Rattle.repo_command.specs.Commands.{CommandIsSpelled}
use Rattle.group_model.specs.Publications.{has_unwithdrawn}
use Rattle.repo_holdings.specs.declared.contents.ContentsDigest.{ContentsDigest}
use Rattle.repo_holdings.specs.Contents.{IsDigestIn}
use Rattle.repo_holdings.specs.Taking.{with_fetched_for}
use Rattle.repo_member.specs.declared.refusals.HearRefusal.{HearRefusal}
use Rattle.repo_member.specs.declared.refusals.AcceptRefusal.{AcceptRefusal}
use Rattle.repo_member.specs.Groups.{GroupKeys, IsGroup}
use Rattle.repo_member.specs.MemberState.{MemberState, IsMemberState, publication_limit, member_plan, initial_member}
use Rattle.repo_member.specs.MemberState.{member_publishes}
use Rattle.repo_member.specs.MemberState.{logged, member_learns, member_hears, member_fires, member_claims, want_of}
use Rattle.repo_member.specs.MemberState.{member_accepts, member_takes, member_ends_claims, member_resets}
use Rattle.repo_member.specs.MemberState.{member_restarts}
use Rattle.repo_member.specs.Verdicts.{hear_verdict, vector_verdict, accept_verdict}
use Rattle.repo_member.specs.Outcomes.{outcome_of, IsOutcome, IsCheckedFor}
use Rattle.repo_member.specs.Commanded.{coded, order_of, member_after_order}
use Rattle.repo_member.specs.Blocks.{member_blocks}

-- A public call of a member, except those that only read it, with its arguments: octets, vectors, fetchers, times and
-- draws. A call that runs out of memory changes nothing, so it stands in no list.
pub data MemberCall : Type 0 where
  Publish : NamedContents → ℕ → ℕ → MemberCall
  Withdraw : ℕ → ℕ → ℕ → MemberCall
  Hear : List ℕ → ℕ → ℕ → MemberCall
  HearVector : List ℕ → ℕ → ℕ → MemberCall
  JoinFrom : List ℕ → MemberCall
  JoinVector : List ℕ → MemberCall
  Fire : ℕ → ℕ → MemberCall
  Claim : ℕ → MemberCall
  Lose : ℕ → MemberCall
  Accept : ℕ → List ℕ → MemberCall
  AcceptChecked : ℕ → CheckedPart → MemberCall
  TakeOutcome : List Job → List (Option CheckedPart) → List ℕ → MemberCall
  TakeDigested : List Job → List (Option CheckedPart) → List ℕ → List ContentsDigest → MemberCall
  Command : List ℕ → MemberCall
  CommandChecked : List ℕ → Result (ℕ × commands.Command) CommandRefusal → MemberCall
  Block : ℕ → ℕ → List ℕ → ℕ → ℕ → MemberCall
  EndClaims : MemberCall
  Reset : ℕ → ℕ → MemberCall
  Restart : ℕ → ℕ → MemberCall
  OrderNames : MemberCall

-- ---- what a call makes of a member: nothing, where it is refused

-- Where a vector passes, the member takes it, and its sync state hears it.
abbrev pub if_heard : ℕ → ℕ → MemberState → Result (List ℕ) HearRefusal → MemberState
if_heard time draw a (Ok received) = member_hears received time draw a
if_heard time draw a (Err refusal) = a

-- Where a vector passes, the member takes it. Its sync state isn't informed of it.
abbrev pub if_joined : MemberState → Result (List ℕ) HearRefusal → MemberState
if_joined a (Ok received) = member_learns received a
if_joined a (Err refusal) = a

-- A fetcher that claims nothing claims the first part that is wanted and that nobody claims, if there is one.
abbrev pub if_claimed : ℕ → MemberState → Option Part → MemberState
if_claimed f a None = member_claims f (first (unclaimed (member_plan a))) a
if_claimed f a (Some t) = a

-- The claim of a fetcher that has one ends.
abbrev pub if_lost : ℕ → MemberState → Option Part → MemberState
if_lost f a None = a
if_lost f a (Some t) = member_claims f None a

-- The part that fetcher `f` claims is held from now on, where the octets pass for it.
abbrev pub if_accepted : ℕ → List ℕ → MemberState → Result Part AcceptRefusal → MemberState
if_accepted f octets a (Ok t) = member_accepts f t octets a
if_accepted f octets a (Err refusal) = a

-- A fetcher's part is held from now on with these octets, if it claims one.
abbrev pub if_claimed_held : ℕ → List ℕ → MemberState → Option Part → MemberState
if_claimed_held f octets a None = a
if_claimed_held f octets a (Some t) = member_accepts f t octets a

-- The member publishes `post`, where it has a number left for it.
abbrev pub if_numbers : GroupKeys → Post → ℕ → ℕ → MemberState → MemberState
if_numbers g post time draw a =
    if nat_lt (length a.log) publication_limit then member_publishes g post time draw a else a

-- The member after a call.
abbrev pub after_call : GroupKeys → MemberCall → MemberState → MemberState
after_call g (Publish object time draw) a = if_numbers g (Offers object) time draw a
after_call g (Withdraw seq time draw) a =
    if has_unwithdrawn a.log seq then if_numbers g (Withdraws seq) time draw a else a
after_call g (Hear octets time draw) a = if_heard time draw a (hear_verdict g a octets)
after_call g (HearVector received time draw) a = if_heard time draw a (vector_verdict a received)
after_call g (JoinFrom octets) a = if_joined a (hear_verdict g a octets)
after_call g (JoinVector received) a = if_joined a (vector_verdict a received)
after_call g (Fire time draw) a = member_fires time draw a
after_call g (Claim f) a = if_claimed f a (claim_of (member_plan a) f)
after_call g (Lose f) a = if_lost f a (claim_of (member_plan a) f)
after_call g (Accept f octets) a = if_accepted f octets a (accept_verdict g a f octets)
after_call g (AcceptChecked f checked) a = if_claimed_held f checked.octets a (claim_of (member_plan a) f)
after_call g (TakeOutcome jobs parts attempts) a = member_takes (outcome_of jobs parts attempts) a
after_call g (TakeDigested jobs parts attempts digests) a = member_takes (outcome_of jobs parts attempts) a
after_call g (Command octets) a = member_after_order (order_of g a.number octets) a
after_call g (CommandChecked octets verdict) a = member_after_order (order_of g a.number octets) a
after_call g (Block process index content time draw) a = member_blocks g process index content time draw a
after_call g EndClaims a = member_ends_claims a
after_call g (Reset time draw) a = member_resets time draw a
after_call g (Restart time draw) a = member_restarts time draw a
after_call g OrderNames a = a

-- The member after a list of calls.
abbrev pub after_calls : GroupKeys → List MemberCall → MemberState → MemberState
after_calls g [] a = a
after_calls g (call ∷ calls) a = after_calls g calls (after_call g call a)

-- ---- which calls can be made

-- A vector that a member can hear: it has a number for each member, and reports no more publications of this one
-- than it made.
pub record CanBeReceived (a : MemberState) (received : List ℕ) : Type 0 where
  pub width : length received ≡ length a.known
  pub own : slice_index received a.number ≤ length a.log

-- What was checked for the want of the part that a fetcher claims, if it claims one.
abbrev pub IsCheckedForClaim : GroupKeys → MemberState → ℕ → CheckedPart → Type 0
IsCheckedForClaim g a f checked =
    IfSome (claim_of (member_plan a) f) (λ part. IsCheckedFor g (want_of g a.store part) checked) × IsChecked checked

-- The outcome of a fetch that the member planned, of parts that were checked.
abbrev pub IsCheckedOutcome : GroupKeys → MemberState → List Job → List (Option CheckedPart) → List ℕ → Type 0
IsCheckedOutcome g a jobs parts attempts =
    IsOutcome g a jobs parts attempts × All (λ part. IfSome part IsChecked) parts

-- The conditions of a call, except those that keep times and draws small. They include what the types of arguments
-- ensure: a checked part passed its checks, and the name in a command is a name.
abbrev pub IsAllowedCall : GroupKeys → MemberState → MemberCall → Type 0
IsAllowedCall g a (Publish object time draw) = IsObject object
IsAllowedCall g a (Withdraw seq time draw) = Unit {0}
IsAllowedCall g a (Hear octets time draw) = Unit {0}
IsAllowedCall g a (HearVector received time draw) = CanBeReceived a received
IsAllowedCall g a (JoinFrom octets) = Unit {0}
IsAllowedCall g a (JoinVector received) = CanBeReceived a received
IsAllowedCall g a (Fire time draw) = Unit {0}
IsAllowedCall g a (Claim f) = IsFetcher f
IsAllowedCall g a (Lose f) = IsFetcher f
IsAllowedCall g a (Accept f octets) = IsFetcher f
IsAllowedCall g a (AcceptChecked f checked) = IsFetcher f × IsCheckedForClaim g a f checked
IsAllowedCall g a (TakeOutcome jobs parts attempts) = IsCheckedOutcome g a jobs parts attempts
IsAllowedCall g a (TakeDigested jobs parts attempts digests) =
    IsCheckedOutcome g a jobs parts attempts × All (IsDigestIn (with_fetched_for jobs parts a.store)) digests
IsAllowedCall g a (Command octets) = IfOk (order_of g a.number octets) (λ order. CommandIsSpelled order.1)
IsAllowedCall g a (CommandChecked octets verdict) =
    (coded verdict ≡ order_of g a.number octets) × IfOk verdict (λ order. CommandIsSpelled order.1)
IsAllowedCall g a (Block process index content time draw) = IsContent content
IsAllowedCall g a EndClaims = Unit {0}
IsAllowedCall g a (Reset time draw) = Unit {0}
IsAllowedCall g a (Restart time draw) = Unit {0}
IsAllowedCall g a OrderNames = Unit {0}

-- The conditions of each call of a list hold of the member as it is then.
abbrev pub AreAllowedCalls : GroupKeys → MemberState → List MemberCall → Type 0
AreAllowedCalls g a [] = Unit {0}
AreAllowedCalls g a (call ∷ calls) = IsAllowedCall g a call × AreAllowedCalls g (after_call g call a) calls

-- `P` holds of every member of a group, from its beginning on and after any calls.
abbrev pub InEveryMember : (GroupKeys → MemberState → Type 0) → Type 0
InEveryMember P = (g : GroupKeys) (number time draw : ℕ) (calls : List MemberCall)
    → IsGroup g → number < length g.members.names →
    let begun = initial_member (length g.members.names) number time draw in
    AreAllowedCalls g begun calls → P g (after_calls g calls begun)

-- ---- what is published

-- `log` has `earlier` as its prefix, and so is no shorter.
pub record GoesOn (earlier log : List Post) : Type 0 where
  pub prefix : take (length earlier) log ≡ earlier
  pub longer : length earlier ≤ length log

-- Calls take back nothing that was published.
abbrev pub LogsGoOn : Type 0
LogsGoOn = (g : GroupKeys) (calls : List MemberCall) (a : MemberState) → GoesOn a.log (after_calls g calls a).log

-- The object that is published after `n` publications has the number `n + 1`, and stands at place `n` from then on.
abbrev pub PublicationsStay : Type 0
PublicationsStay = (g : GroupKeys) (object : NamedContents) (time draw : ℕ) (calls : List MemberCall) (a : MemberState)
    → length a.log < publication_limit
    → slice_get (after_calls g (Publish object time draw ∷ calls) a).log (length a.log) ≡ Some (Offers object)

-- The withdrawal that is published after `n` publications, of an object that was not withdrawn, stands at place `n`
-- too.
abbrev pub WithdrawalsStay : Type 0
WithdrawalsStay = (g : GroupKeys) (seq time draw : ℕ) (calls : List MemberCall) (a : MemberState)
    → has_unwithdrawn a.log seq ≡ true → length a.log < publication_limit
    → slice_get (after_calls g (Withdraw seq time draw ∷ calls) a).log (length a.log) ≡ Some (Withdraws seq)

-- The packet of a part that was published stays what it is.
abbrev pub LoggedPacketsStay : Type 0
LoggedPacketsStay = (g : GroupKeys) (calls : List MemberCall) (a : MemberState) (t : Part) (octets : List ℕ)
    → logged g a t ≡ Some octets → logged g (after_calls g calls a) t ≡ Some octets

-- ---- what is known

-- No number of the member's vector falls.
abbrev pub NumbersNeverFall : Type 0
NumbersNeverFall = (g : GroupKeys) (calls : List MemberCall) (a : MemberState) (p : ℕ) → IsMemberState a
    → slice_index a.known p ≤ slice_index (after_calls g calls a).known p

-- The vector that the member heard in a call, if it took one.
abbrev pub vector_taken : Result (List ℕ) HearRefusal → List (List ℕ)
vector_taken (Ok received) = received ∷ []
vector_taken (Err refusal) = []

-- The vector that the member hears in this call, if it takes one.
abbrev pub vector_of_call : GroupKeys → MemberState → MemberCall → List (List ℕ)
vector_of_call g a (Hear octets time draw) = vector_taken (hear_verdict g a octets)
vector_of_call g a (HearVector received time draw) = vector_taken (vector_verdict a received)
vector_of_call g a (JoinFrom octets) = vector_taken (hear_verdict g a octets)
vector_of_call g a (JoinVector received) = vector_taken (vector_verdict a received)
vector_of_call g a _ = []

-- The vectors that the member took in a list of calls, in order.
abbrev pub vectors_received : GroupKeys → List MemberCall → MemberState → List (List ℕ)
vectors_received g [] a = []
vectors_received g (call ∷ calls) a = vector_of_call g a call ++ vectors_received g calls (after_call g call a)

-- After calls the member's vector is the join of the one before and of those that it took. At its own place stands the
-- number of its publications.
abbrev pub KnownIsTheJoin : Type 0
KnownIsTheJoin = (g : GroupKeys) (calls : List MemberCall) (a : MemberState) → IsMemberState a
    → (after_calls g calls a).known
    ≡ slice_set (join_all (a.known ∷ vectors_received g calls a)) a.number (length (after_calls g calls a).log)

-- ---- what is held

-- A packet that is stored stays, as long as its publication is not hidden.
abbrev pub HeldPacketsStay : Type 0
HeldPacketsStay = (g : GroupKeys) (calls : List MemberCall) (a : MemberState) (t : Part) (octets : List ℕ)
    → value_of part_cmp a.store t ≡ Some octets →
    let later = after_calls g calls a in
    hides (member_plan later) (pair_of t) ≡ false → value_of part_cmp later.store t ≡ Some octets

-- What is hidden stays hidden.
abbrev pub HiddenForGood : Type 0
HiddenForGood = (g : GroupKeys) (calls : List MemberCall) (a : MemberState) (pair : Pair) → hides (member_plan a) pair
    ≡ true
    → hides (member_plan (after_calls g calls a)) pair ≡ true

-- No part of a hidden publication is wanted or stored.
abbrev pub HiddenIsGone : GroupKeys → MemberState → Type 0
HiddenIsGone g a = (t : Part) → hides (member_plan a) (pair_of t) ≡ true
    → (is_wanted (member_plan a) t ≡ false) × (value_of part_cmp a.store t ≡ None)

-- Each packet of another publisher's part that is stored passes for the want that the member has of that part now.
abbrev pub OthersPassed : GroupKeys → MemberState → Type 0
OthersPassed g a = (t : Part) (octets : List ℕ) → t.publisher ≢ a.number → value_of part_cmp a.store t ≡ Some octets
    → IsOk (ring_verdict (want_of g a.store t) g.members.ring octets)

-- Of its own parts a member stores those that it published and did not hide, and of each the packet that it published.
abbrev pub OwnStored : GroupKeys → MemberState → Type 0
OwnStored g a = (t : Part) → t.publisher ≡ a.number
    → value_of part_cmp a.store t ≡ (if hides (member_plan a) (pair_of t) then None else logged g a t)
