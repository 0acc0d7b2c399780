-- The state after the lines so far, as it is kept.
use Rattle.std.specs.Prelude.{ℕ, ◌≡◌, ◌<◌, ◌≤◌, ◌+◌, zero, Bool, true, false, List, [], map, length, string_bytes}
use Rattle.std.specs.Prelude.{Option, Some, None, Ok}
use Rattle.ndn_name.specs.Names.{Component}
use Rattle.script_lang.specs.declared.line.Line.{Line}
use Rattle.script_lang.specs.declared.line.Line.TheVariants as line
use Rattle.script_lang.specs.Forms.{Stated, stated}
use Rattle.script_lang.specs.Lines.{line_of}
use Rattle.script_lang.specs.Checking.{Declared, after_line, are_known, party_label, party_node}
use Rattle.group_model.specs.World.{World}
use Rattle.group_model.specs.Steps.{after_event}
use Rattle.group_model.specs.Refusals as group
use Rattle.repo_member.specs.Groups.{GroupKeys, IsKey, IsPlainNodeName, is_name_taken}
use Rattle.bench_world.specs.Worlds.{GroupState, world_of}
use Rattle.bench_world.specs.EventValues.{EventValue, group_event}
use Rattle.bench_world.specs.CarryingOut.{EventFits}
use Rattle.repo_watch.specs.Watching.{Watching}
use Rattle.script_lines.specs.declared.run_state.RunState.{RunState}
use Rattle.script_lines.specs.declared.run_state.Phase.{Phase}
use Rattle.script_lines.specs.declared.run_state.Phase.TheVariants.{Opening, Declaring, Acting}
use Rattle.script_report.specs.declared.refusal.Refusal.{Refusal}
use Rattle.script_lines.specs.declared.error.LineError.{LineError}
use Rattle.script_lines.specs.declared.error.LineError.TheVariants as error
use Rattle.script_story.specs.Mirrors.{Mirroring, mirror_as, mirror_begins}
use Rattle.script_story.specs.StatedEvents.{stated_event}
use Rattle.script_story.specs.Evaluation.{RunEnvironment, State, Verdict, no_group, refused, foreign, event_refused}
use Rattle.script_story.specs.Evaluation.{mirrors_after, outside_of}

-- The names and keys of the group.
abbrev pub phase_keys : Phase → GroupKeys
phase_keys Opening = no_group
phase_keys (Declaring group patterns) = group
phase_keys (Acting world) = world.keys

-- The world, once there was an event.
abbrev pub world_in : Phase → Option World
world_in Opening = None
world_in (Declaring group patterns) = None
world_in (Acting world) = Some (world_of world)

-- How many events were carried out.
abbrev pub steps_in : Phase → ℕ
steps_in Opening = zero
steps_in (Declaring group patterns) = zero
steps_in (Acting world) = world.steps

-- Before the first event mirrors are kept by their patterns, and know of nothing.
abbrev pub mirrors_in : Phase → List Mirroring
mirrors_in Opening = []
mirrors_in (Declaring group patterns) = map (mirror_begins (length group.members.names)) patterns.items
mirrors_in (Acting world) = map mirror_as world.mirrors

-- The state that a phase, the watchers and what was declared stand for in a script's run.
abbrev pub state_of : Phase → List (List Watching) → Declared → State
state_of phase watchers d = record {
  declared = d;
  keys = phase_keys phase;
  world = world_in phase;
  watchers = watchers;
  mirrors = mirrors_in phase;
}

-- The state that a `RunState` stands for in a script's run.
abbrev pub state_of_run : RunState → State
state_of_run p = state_of p.phase p.watchers.items p.words

-- A line named the group.
abbrev pub has_group : Phase → Bool
has_group Opening = false
has_group (Declaring group patterns) = true
has_group (Acting world) = true

-- There was an event.
abbrev pub has_world : Phase → Bool
has_world Opening = false
has_world (Declaring group patterns) = false
has_world (Acting world) = true

-- How many events were carried out.
abbrev pub steps : RunState → ℕ
steps p = steps_in p.phase

-- The labels and the group's names are those that lines declare.
pub record NamesAreDeclared (kept : List (List ℕ)) (keys : GroupKeys) (d : Declared) : Type 0 where
  pub labels : kept ≡ map party_label d.members
  pub members : map party_node d.members ≡ keys.members.names
  pub clients : map party_node d.clients ≡ keys.clients.names

-- The labels, the names and keys of the group, the number of members that have watchers and the number of mirrors are
-- those that lines declare, and there are at most four mirrors.
pub record IsDeclared (labels : List (List ℕ)) (keys : GroupKeys) (members mirrors : ℕ) (d : Declared) : Type 0 where
  pub named : NamesAreDeclared labels keys d
  pub watched : members ≡ length d.members
  pub mirrored : mirrors ≡ length d.mirrors
  pub few : length d.mirrors ≤ 4

-- What is kept is what lines declare: there is a group from its line on, and a world from the first event on. Each
-- member has its watchers, or none.
pub record Stands (labels : List (List ℕ)) (phase : Phase) (watchers : List (List Watching))
    (d : Declared) : Type 0 where
  pub declared : IsDeclared labels (phase_keys phase) (length watchers) (length (mirrors_in phase)) d
  pub group : d.group ≡ has_group phase
  pub events : d.events ≡ has_world phase

-- The labels of the members.
abbrev pub labels_of : RunState → List (List ℕ)
labels_of p = map string_bytes p.labels.items

-- What is kept is what the lines so far declare.
abbrev pub IsRunState : RunState → Type 0
IsRunState p = Stands (labels_of p) p.phase p.watchers.items p.words

-- ---- declarations

-- There is a group and there was no event yet, both in what is kept and in what lines declare.
pub record IsBeforeEvents (phase : Phase) (d : Declared) : Type 0 where
  pub group : d.group ≡ true
  pub early : d.events ≡ false
  pub there : has_group phase ≡ true
  pub unchanged : has_world phase ≡ false

-- There is a group, there was no event yet, and no step was made.
pub record IsStillDeclaring (phase : Phase) : Type 0 where
  pub there : has_group phase ≡ true
  pub unchanged : has_world phase ≡ false
  pub world : world_in phase ≡ None
  pub steps : steps_in phase ≡ 0

-- A name and a key that one more member or client can have.
pub record IsNewNode (keys : GroupKeys) (name : List Component) (secret : List ℕ) : Type 0 where
  pub node : IsPlainNodeName name
  pub key : IsKey secret
  pub apart : is_name_taken keys name ≡ false

-- ---- lines

-- Some octets are this line.
pub record IsLine (line : Stated) : Type 0 where
  pub octets : List ℕ
  pub read : line_of octets ≡ Ok (Some line)

-- The line follows lines for which the labels, the phase and the watchers of `p` stand, and `p.words` is what the lines
-- declare together with it.
pub record LineIsChecked (p : RunState) (s : Stated) : Type 0 where
  pub line : IsLine s
  pub before : Declared
  pub stands : Stands (labels_of p) p.phase p.watchers.items before
  pub after : after_line before s ≡ Ok p.words

-- What is kept is what lines declare, there is a group, and an event is about to be carried out.
pub record IsAtEvent (p : RunState) : Type 0 where
  pub declared : IsDeclared (labels_of p) (phase_keys p.phase) (length p.watchers.items)
      (length (mirrors_in p.phase)) p.words
  pub group : p.words.group ≡ true
  pub events : p.words.events ≡ true
  pub begun : has_group p.phase ≡ true

-- There is a mirror of this number, and an event is about to be carried out.
pub record MirrorIsThere (p : RunState) (i : ℕ) : Type 0 where
  pub there : i < length (mirrors_in p.phase)
  pub event : IsAtEvent p

-- The line states an event of the group: it is no declaration, and not of watchers or mirrors.
abbrev pub IsEventLine : Line → Type 0
IsEventLine (line.Group name) = ⊥
IsEventLine (line.Member label name key) = ⊥
IsEventLine (line.Client label name key) = ⊥
IsEventLine (line.Mirror label p name) = ⊥
IsEventLine (line.Watch m p name) = ⊥
IsEventLine (line.Told m w) = ⊥
IsEventLine (line.Mdeliver k l) = ⊥
IsEventLine (line.Mfetch l workers tries loss) = ⊥
IsEventLine (line.Mcatalogue l) = ⊥
IsEventLine _ = Unit {0}

-- An event that the line states can be carried out where `d` is what lines declare.
pub record StatesFit (d : Declared) (line : Stated) : Type 0 where
  pub fits : (e : EventValue) → stated_event d line ≡ Some e → EventFits (length d.members) (length d.clients) e
  pub known : are_known d line ≡ true

-- The line states an event, which can be carried out.
pub record StatesEvent (d : Declared) (line : Line) : Type 0 where
  pub event : IsEventLine line
  pub fit : StatesFit d (stated line)

-- A mirror has 1 to 16 workers, which ask for a part 1 to 16 times.
pub record FetchFits (threads times : ℕ) : Type 0 where
  pub workers : (1 ≤ threads) × (threads ≤ 16)
  pub tries : (1 ≤ times) × (times ≤ 16)

-- ---- worlds

-- The group doesn't refuse the event, and `new` is the state after its step.
pub record HasStepped (env : RunEnvironment) (e : EventValue) (old new : GroupState) : Type 0 where
  pub taken : group.refusal (outside_of env old.keys) (world_of old) (group_event old.keys e) ≡ None
  pub world : world_of new ≡ after_event (outside_of env old.keys) (world_of old) (group_event old.keys e)
  pub mirrors : map mirror_as new.mirrors ≡ mirrors_after (world_of new) e (map mirror_as old.mirrors)
  pub keys : new.keys ≡ old.keys
  pub steps : new.steps ≡ old.steps + 1

-- Nothing but the mirrors of a world may have changed, and `made` steps were made.
pub record IsSameGroup (old new : GroupState) (made : ℕ) : Type 0 where
  pub world : world_of new ≡ world_of old
  pub keys : new.keys ≡ old.keys
  pub steps : new.steps ≡ made

-- ---- why a line isn't taken

-- Memory ran out, or the error is the one of this verdict.
abbrev pub IsLineError : Verdict → LineError → Type 0
IsLineError verdict error.NoMemory = Unit {0}
IsLineError verdict (error.Refused refusal) = verdict ≡ refused refusal
IsLineError verdict error.Foreign = verdict ≡ foreign

-- Memory ran out, or the line is refused with `why`, and the condition `comes` is true.
abbrev pub IsStopWhere : Bool → Refusal → LineError → Type 0
IsStopWhere comes why error.NoMemory = Unit {0}
IsStopWhere comes why (error.Refused refusal) = (comes ≡ true) × (refusal ≡ why)
IsStopWhere comes why error.Foreign = ⊥

-- Memory ran out, or the error is the one of this refusal of an event.
abbrev pub IsLineErrorOf : Option group.Refusal → LineError → Type 0
IsLineErrorOf refusal error.NoMemory = Unit {0}
IsLineErrorOf None error = ⊥
IsLineErrorOf (Some why) error = IsLineError (event_refused why) error
