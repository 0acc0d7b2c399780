-- What holds of whole runs of events, wherever they begin.
use Rattle.std.specs.Prelude.{ℕ, ◌<◌, ◌≡◌, ◌≢◌, ◌⊎◌, ◌↔◌, true, false, List, [], ◌∷◌, Some, length, slice_index}
use Rattle.repo_plan.specs.declared.part.Part.{Part}
use Rattle.sorted_lists.specs.SortedList.{Rises, contains}
use Rattle.repo_plan.specs.Parts.{part_cmp}
use Rattle.repo_plan.specs.Plan.{wanted}
use Rattle.group_model.specs.Publications.{Logs, last_of, all_parts, join_of}
use Rattle.repo_process.specs.Processes.{BlockState}
use Rattle.repo_process.specs.Processes.BlockState.{Whole}
use Rattle.group_model.specs.Member.{plan_of}
use Rattle.group_model.specs.Events.{Event}
use Rattle.group_model.specs.World.{Environment, World, member, logs, sent_at, catalogue_at}
use Rattle.group_model.specs.Steps.{exceeds_log, block_at, after_event, after_events}
use Rattle.group_model.specs.Refusals.{EventsAreTaken}
use Rattle.group_model.specs.Sound.{IsPublishedPart}

-- No member has deleted anything.
abbrev pub NothingDeleted : World → Type 0
NothingDeleted w = (j : ℕ) → j < length w.members → (member w j).hidden ≡ []

-- No member wants a part.
abbrev pub NothingWanted : World → Type 0
NothingWanted w = (j : ℕ) → j < length w.members → wanted (plan_of (logs w) (member w j)) ≡ []

-- Every member's catalogue is the join of all publications.
abbrev pub AllJoined : World → Type 0
AllJoined w = (j : ℕ) → j < length w.members → catalogue_at w j ≡ join_of (logs w)

-- ---- lists of events

-- A block after which its insertion publishes nothing.
abbrev pub IsNotWhole : BlockState → Type 0
IsNotWhole (Whole p) = ⊥
IsNotWhole _ = Unit {0}

-- The event publishes nothing.
abbrev pub IsQuiet : World → Event → Type 0
IsQuiet w (Event.Publish j o) = ⊥
IsQuiet w (Event.Withdraw j seq) = ⊥
IsQuiet w (Event.Block j process index content) = IsNotWhole (block_at w j process index content)
IsQuiet w _ = Unit {0}

-- No event of a list publishes anything.
abbrev pub AreQuiet : Environment → World → List Event → Type 0
AreQuiet env w [] = Unit {0}
AreQuiet env w (e ∷ es) = IsQuiet w e × AreQuiet env (after_event env w e) es

-- The event informs member `j` of all that member `p` has published: `j` hears a vector whose number for `p` is that of
-- the last publication of `p`.
abbrev pub HearsAllInEvent : World → Event → ℕ → ℕ → Type 0
HearsAllInEvent w (Event.Deliver k i) j p = (i ≡ j) × (slice_index (sent_at w k).vector p ≡ last_of (logs w) p)
HearsAllInEvent w (Event.Hear i (Some sync)) j p =
    (i ≡ j) × (exceeds_log w i sync ≡ false) × (slice_index sync.vector p ≡ last_of (logs w) p)
HearsAllInEvent w _ j p = ⊥

-- An event of a list informs member `j` of all that member `p` has published by then.
abbrev pub HearsAllInRun : Environment → World → List Event → ℕ → ℕ → Type 0
HearsAllInRun env w [] j p = ⊥
HearsAllInRun env w (e ∷ es) j p = HearsAllInEvent w e j p ⊎ HearsAllInRun env (after_event env w e) es j p

-- Events that publish nothing, and that inform each member of all that each other has published.
pub record EachHearsAll (env : Environment) (w : World) (es : List Event) : Type 0 where
  pub quiet : AreQuiet env w es
  pub received : (j p : ℕ) → j < length w.members → p < length w.members → p ≢ j → HearsAllInRun env w es j p

-- Where events publish nothing and inform each member of all that each other has published, and nothing is wanted or
-- deleted in the end, each catalogue is the join of all publications, whatever else happens.
abbrev pub JoinsWhereAllAreInformed : Environment → World → Type 0
JoinsWhereAllAreInformed env w = (es : List Event) → EventsAreTaken env w es → EachHearsAll env w es →
    let last = after_events env w es in
    NothingDeleted last → NothingWanted last → AllJoined last

-- ---- the parts that there are

-- The parts of all publications stand in order, each once.
abbrev pub PartsRise : Type 0
PartsRise = (logs : Logs) → Rises part_cmp (all_parts logs)

-- The parts of all publications are the records, the index packets and the segments of what was published.
abbrev pub PartsAreThose : Type 0
PartsAreThose = (logs : Logs) (t : Part) → (contains part_cmp (all_parts logs) t ≡ true) ↔ IsPublishedPart logs t
