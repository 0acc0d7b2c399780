-- Which changes keep a member consistent: sound in its group, and with stored packets that were published.
use Rattle.std.specs.Prelude.{◌≡◌, ℕ, ◌<◌, List, [], ◌∷◌, ◌++◌, length, replicate, Some, None, IfSome}
use Rattle.std.specs.Prelude.{slice_index_or, slice_set}
use Rattle.std.specs.List.{All}
use Rattle.repo_plan.specs.declared.part.Part.{Part}
use Rattle.repo_plan.specs.Plan.{claim_of, unclaimed, first}
use Rattle.ndn_name.specs.Names.{Component}
use Rattle.repo_object.specs.Objects.{Post}
use Rattle.repo_command.specs.declared.command.Command.{Command}
use Rattle.repo_process.specs.Insertions.{Insertions}
use Rattle.group_model.specs.Publications.{Logs, last_of}
use Rattle.group_model.specs.Sound.{IsConsistentVector}
use Rattle.repo_member.specs.Groups.{GroupKeys}
use Rattle.repo_member.specs.MemberState.{MemberState, member_holdings, member_plan, initial_member, member_publishes}
use Rattle.repo_member.specs.MemberState.{member_learns}
use Rattle.repo_holdings.specs.Taking.{Fetched}
use Rattle.repo_member.specs.MemberState.{member_hears, member_fires, member_claims, member_accepts, member_takes}
use Rattle.repo_member.specs.MemberState.{member_ends_claims, member_resets, member_restarts}
use Rattle.repo_member.specs.Deleting.{member_deletes}
use Rattle.repo_member.specs.Commanded.{member_obeys}
use Rattle.repo_member.specs.Blocks.{member_blocks}
use Rattle.repo_member.specs.InGroup.{AreLogs, GrowInto, published_packet}
use Rattle.repo_member.specs.ConsistentMembers.{IsConsistentMember}
use Rattle.repo_member.specs.ConsistentHolders.{ArrivesConsistently}

-- A new member is consistent in a group in which nothing has been published.
abbrev pub BeginsConsistent : Type 0
BeginsConsistent = (g : GroupKeys) (n number time draw : ℕ) → number < n
    → IsConsistentMember g (replicate n []) (initial_member n number time draw)

-- A consistent member stays consistent when it publishes, with the publication in the group's log of its number too.
abbrev pub PublishesConsistent : Type 0
PublishesConsistent = (g : GroupKeys) (post : Post) (time draw : ℕ) (logs : Logs) (a : MemberState)
    → IsConsistentMember g logs a →
    let published = member_publishes g post time draw a in
    IsConsistentMember g (slice_set logs a.number published.log) published

-- A consistent member stays consistent when other members publish.
abbrev pub OthersPublish : Type 0
OthersPublish = (g : GroupKeys) (logs later : Logs) (a : MemberState) → GrowInto logs later → length later ≡ length logs
    → last_of later a.number ≡ last_of logs a.number → IsConsistentMember g logs a → IsConsistentMember g later a

-- Logs grow where a member publishes once more.
abbrev pub LogsHaveGrown : Type 0
LogsHaveGrown = (logs : Logs) (j : ℕ) (post : Post) → j < length logs
    → GrowInto logs (slice_set logs j (slice_index_or logs j [] ++ post ∷ []))

-- A consistent member stays consistent when it takes a vector that reports no publication that there isn't.
abbrev pub LearnsConsistent : Type 0
LearnsConsistent = (g : GroupKeys) (logs : Logs) (received : List ℕ) (a : MemberState)
    → IsConsistentVector logs received → IsConsistentMember g logs a
    → IsConsistentMember g logs (member_learns received a)

-- A consistent member stays consistent when it hears a vector that reports no publication that there isn't.
abbrev pub HearsConsistent : Type 0
HearsConsistent = (g : GroupKeys) (logs : Logs) (received : List ℕ) (time draw : ℕ) (a : MemberState)
    → IsConsistentVector logs received
    → IsConsistentMember g logs a → IsConsistentMember g logs (member_hears received time draw a)

-- A consistent member stays consistent whatever its insertion processes are.
abbrev pub InsertsConsistent : Type 0
InsertsConsistent = (g : GroupKeys) (logs : Logs) (insertions : Insertions) (a : MemberState)
    → IsConsistentMember g logs a
    → IsConsistentMember g logs (record a { insertions = insertions })

-- A consistent member stays consistent when it takes a block. The last block of an insertion publishes an object.
abbrev pub BlocksConsistent : Type 0
BlocksConsistent = (g : GroupKeys) (process index : ℕ) (content : List ℕ) (time draw : ℕ) (logs : Logs)
    (a : MemberState)
    → IsConsistentMember g logs a →
    let later = member_blocks g process index content time draw a in
    IsConsistentMember g (slice_set logs a.number later.log) later

-- A consistent member stays consistent when it hides the publications of a name.
abbrev pub DeletesConsistent : Type 0
DeletesConsistent = (g : GroupKeys) (logs : Logs) (name : List Component) (a : MemberState) → AreLogs g logs
    → IsConsistentMember g logs a → IsConsistentMember g logs (member_deletes name a)

-- A consistent member stays consistent when it obeys a command.
abbrev pub ObeysConsistent : Type 0
ObeysConsistent = (g : GroupKeys) (logs : Logs) (command : Command) (a : MemberState) → AreLogs g logs
    → IsConsistentMember g logs a → IsConsistentMember g logs (member_obeys command a)

-- A consistent member stays consistent when its timer is asked.
abbrev pub FiresConsistent : Type 0
FiresConsistent = (g : GroupKeys) (logs : Logs) (time draw : ℕ) (a : MemberState) → IsConsistentMember g logs a
    → IsConsistentMember g logs (member_fires time draw a)

-- A consistent member stays consistent when its sync state is reset to Steady.
abbrev pub ResetsConsistent : Type 0
ResetsConsistent = (g : GroupKeys) (logs : Logs) (time draw : ℕ) (a : MemberState) → IsConsistentMember g logs a
    → IsConsistentMember g logs (member_resets time draw a)

-- A consistent member stays consistent when it starts again.
abbrev pub RestartsConsistent : Type 0
RestartsConsistent = (g : GroupKeys) (logs : Logs) (time draw : ℕ) (a : MemberState) → IsConsistentMember g logs a
    → IsConsistentMember g logs (member_restarts time draw a)

-- A consistent member stays consistent when all its claims end.
abbrev pub EndsClaimsConsistent : Type 0
EndsClaimsConsistent = (g : GroupKeys) (logs : Logs) (a : MemberState) → IsConsistentMember g logs a
    → IsConsistentMember g logs (member_ends_claims a)

-- A consistent member stays consistent when a fetcher claims the first part that is wanted and that nobody claims, if
-- any.
abbrev pub ClaimsConsistent : Type 0
ClaimsConsistent = (g : GroupKeys) (logs : Logs) (f : ℕ) (a : MemberState) → AreLogs g logs
    → IsConsistentMember g logs a
    → IsConsistentMember g logs (member_claims f (first (unclaimed (member_plan a))) a)

-- A consistent member stays consistent when a fetcher loses its claim.
abbrev pub LosesConsistent : Type 0
LosesConsistent = (g : GroupKeys) (logs : Logs) (f : ℕ) (a : MemberState) → IsConsistentMember g logs a
    → IsConsistentMember g logs (member_claims f None a)

-- A consistent member stays consistent when it accepts the published packet of the part that a fetcher claims.
abbrev pub AcceptsConsistent : Type 0
AcceptsConsistent = (g : GroupKeys) (logs : Logs) (f : ℕ) (t : Part) (octets : List ℕ) (a : MemberState)
    → AreLogs g logs
    → claim_of (member_plan a) f ≡ Some t → published_packet g logs t ≡ Some octets → IsConsistentMember g logs a
    → IsConsistentMember g logs (member_accepts f t octets a)

-- The octets that were received for part `t` are its published packet; the member wants `t`, and no fetcher claims it.
abbrev pub IsConsistentArrival : GroupKeys → Logs → MemberState → Part → List ℕ → Type 0
IsConsistentArrival g logs a t octets = ArrivesConsistently g logs (member_holdings a) t octets

-- A consistent member stays consistent when it takes the outcome of a fetch whose packets are published ones of wanted
-- parts that no fetcher claims.
abbrev pub TakesConsistent : Type 0
TakesConsistent = (g : GroupKeys) (logs : Logs) (xs : List Fetched) (a : MemberState) → AreLogs g logs
    → All (λ x. IfSome x.packet (IsConsistentArrival g logs a x.part)) xs → IsConsistentMember g logs a
    → IsConsistentMember g logs (member_takes xs a)
