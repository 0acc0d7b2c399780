-- How far a group's counts can go in a run of at most 100,000 events.
use Rattle.std.specs.Prelude.{ℕ, ◌+◌, ◌*◌, ◌^◌, ◌≤◌, ◌<◌, ◌≡◌, List, [], ◌∷◌, length, Some, Ok, slice_index_or}
use Rattle.std.specs.Ordering.{nat_cmp}
use Rattle.repo_plan.specs.declared.part.Part.{Part}
use Rattle.sorted_lists.specs.SortedList.{value_of}
use Rattle.repo_object.specs.Objects.{contents_of}
use Rattle.group_model.specs.Publications.{no_post, published, all_parts}
use Rattle.repo_process.specs.Processes.{Process, indexes}
use Rattle.repo_command.specs.declared.command.Command.{Command}
use Rattle.repo_command.specs.declared.command.Command.TheVariants.{Insert}
use Rattle.group_model.specs.Member.{Member, tries_of}
use Rattle.group_model.specs.Events.{Event}
use Rattle.group_model.specs.World.{Tally, World, Environment, member, logs, initial_world}
use Rattle.group_model.specs.Steps.{after_gathering, after_event, after_events}
use Rattle.group_model.specs.Refusals.{EventsAreTaken}
use Rattle.group_model.specs.Sound.{IsSoundGroup}

-- ---- events within their ranges

-- An insertion has at most 200 blocks.
abbrev pub IsShortInsertion : Command → Type 0
IsShortInsertion (Insert name first last) = last < first + 200
IsShortInsertion _ = Unit {0}

-- An object has at most 20,000 segments, the time moves by at most 1,000,000,000 milliseconds, and a fetch tries each
-- part 16 times at most.
abbrev pub IsInRange : Event → Type 0
IsInRange (Event.Publish m o) = length o.contents ≤ 20000
IsInRange (Event.Advance ms) = ms ≤ 1000000000
IsInRange (Event.Fetch m tries loss) = tries ≤ 16
IsInRange (Event.Order m (Ok order)) = IsShortInsertion order.1
IsInRange (Event.Issue m client command) = IsShortInsertion command
IsInRange _ = Unit {0}

-- Each event of a list is in range.
abbrev pub AreInRange : List Event → Type 0
AreInRange [] = Unit {0}
AreInRange (e ∷ es) = IsInRange e × AreInRange es

-- ---- counts

-- A member's draws that were used, the attempts of each part and the blocks of an insertion are within these numbers
-- after `steps` events.
pub record IsMemberWithin (steps : ℕ) (m : Member) : Type 0 where
  pub draws : m.machine.draws ≤ steps + 1
  pub tried : (t : Part) → tries_of m.attempts t ≤ steps * 16
  pub blocks : (n : ℕ) (p : Process) → value_of nat_cmp m.processes n ≡ Some p → length (indexes p) ≤ 200

-- What was counted after `steps` events is within these numbers.
pub record IsTallyWithin (steps : ℕ) (t : Tally) : Type 0 where
  pub delivered : t.delivered ≤ steps * 240
  pub attempts : t.attempts ≤ steps * 65536
  pub parts : t.parts ≤ steps * steps * 160808
  pub octets : t.octets ≤ steps * steps * 1415110400

-- After `steps` events the time, what was sent and what was published are within these numbers, and each object has at
-- most 20,000 segments.
pub record IsWithinSteps (steps : ℕ) (w : World) : Type 0 where
  pub time : w.time ≤ steps * 1000000000
  pub sent : length w.sent ≤ steps * 16
  pub published : length (published (logs w)) ≤ steps
  pub segments : (p k : ℕ) → length (contents_of (slice_index_or (slice_index_or (logs w) p []) k no_post)) ≤ 20000
  pub members : (j : ℕ) → IsMemberWithin steps (member w j)
  pub tally : IsTallyWithin steps w.tally

-- ---- the laws

-- The packet of each part has at most 8,800 octets.
abbrev pub HasSmallPackets : Environment → World → Type 0
HasSmallPackets env w = (t : Part) → env.size (logs w) t ≤ 8800

-- The packet of each part has at most 8,800 octets before each event of a list.
abbrev pub AreSmall : Environment → World → List Event → Type 0
AreSmall env w [] = Unit {0}
AreSmall env w (e ∷ es) = HasSmallPackets env w × AreSmall env (after_event env w e) es

-- A group in which nothing has happened is within the counts of no event.
abbrev pub BeginsWithin : Type 0
BeginsWithin = (env : Environment) (n : ℕ) → IsWithinSteps 0 (initial_world env n)

-- A group of at most 16 members that is within the counts of at most 100,000 events is within those of one more after
-- an event.
abbrev pub StaysWithin : Type 0
StaysWithin = (env : Environment) (steps : ℕ) (w : World) (e : Event) → steps ≤ 100000 → length w.members ≤ 16
    → HasSmallPackets env w → IsInRange e → IsWithinSteps steps w → IsWithinSteps (steps + 1) (after_event env w e)

-- A group of at most 16 members that is within the counts of at most 100,000 events is within those of one more after a
-- settle without its reset of sync states.
abbrev pub GatheringStaysWithin : Type 0
GatheringStaysWithin = (env : Environment) (steps : ℕ) (w : World) → steps ≤ 100000 → length w.members ≤ 16
    → HasSmallPackets env w → IsWithinSteps steps w → IsWithinSteps (steps + 1) (after_gathering env w)

-- The counts of more events are wider.
abbrev pub MoreIsWithin : Type 0
MoreIsWithin = (steps more : ℕ) (w : World) → steps ≤ more → IsWithinSteps steps w → IsWithinSteps more w

-- A run stays within the counts of its events, wherever it begins.
abbrev pub RunsStayWithin : Type 0
RunsStayWithin = (env : Environment) (steps : ℕ) (w : World) (es : List Event) → IsSoundGroup w
    → steps + length es ≤ 100000 → length w.members ≤ 16 → EventsAreTaken env w es → AreInRange es → AreSmall env w es
    → IsWithinSteps steps w → IsWithinSteps (steps + length es) (after_events env w es)

-- Every run from the beginning of a group stays within the counts of its events.
abbrev pub ReachedRunsStayWithin : Type 0
ReachedRunsStayWithin = (env : Environment) (n : ℕ) (es : List Event) → n ≤ 16 → length es ≤ 100000
    → EventsAreTaken env (initial_world env n) es → AreInRange es → AreSmall env (initial_world env n) es
    → IsWithinSteps (length es) (after_events env (initial_world env n) es)

-- Within these counts there are at most 2,010,100,000 parts.
abbrev pub PartsStayFew : Type 0
PartsStayFew = (steps : ℕ) (w : World) → steps ≤ 100000 → IsWithinSteps steps w
    → length (all_parts (logs w)) ≤ 2010100000

-- 64 bits hold each count of the tally.
pub record FitsIn64Bits (t : Tally) : Type 0 where
  pub delivered : t.delivered < 2 ^ 64
  pub attempts : t.attempts < 2 ^ 64
  pub parts : t.parts < 2 ^ 64
  pub octets : t.octets < 2 ^ 64

-- After at most 100,000 events 64 bits hold each count of the tally.
abbrev pub TalliesFit : Type 0
TalliesFit = (steps : ℕ) (t : Tally) → steps ≤ 100000 → IsTallyWithin steps t → FitsIn64Bits t
