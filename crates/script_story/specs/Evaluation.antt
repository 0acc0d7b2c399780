-- The verdict on a line, by the state after the lines before it.
use Rattle.std.specs.Prelude.{◌≡◌, ◌≢◌, ◌↔◌, ℕ, ◌+◌, Bool, List, [], ◌∷◌, ◌++◌, map, length, slice_index_or}
use Rattle.std.specs.Prelude.{slice_set, Option, Some, None, is_some, Result, Ok, Err, unwrap_or, nat_le}
use Rattle.std.specs.Prelude.{if◌then◌else◌}
use Rattle.script_lang.specs.declared.verb.Verb.{Verb}
use Rattle.script_lang.specs.declared.verb.Verb.TheVariants as verb
use Rattle.script_lang.specs.declared.line_fault.LineFault.{LineFault}
use Rattle.script_lang.specs.declared.line_fault.LineFault.TheVariants as line_fault
use Rattle.script_lang.specs.declared.check_fault.CheckFault.{CheckFault}
use Rattle.script_lang.specs.declared.check_fault.CheckFault.TheVariants as check_fault
use Rattle.ndn_name.specs.Names.{Component}
use Rattle.script_lang.specs.Kinds.{Value, Text, Number, Named, Octets}
use Rattle.script_lang.specs.Forms.{Stated}
use Rattle.script_lang.specs.Lines.{line_of}
use Rattle.script_lang.specs.Checking.{Declared, nothing_declared, after_line, party_label}
use Rattle.script_report.specs.Texts.{mdeliver_text, mfetch_text, watch_text}
use Rattle.repo_watch.specs.declared.pattern.Pattern.{Pattern}
use Rattle.repo_watch.specs.Watching.{Watching, most_watchers, after_add, after_take, watch_of}
use Rattle.group_model.specs.World.{World, Environment, catalogue_at, initial_world, sent_at}
use Rattle.group_model.specs.Steps.{after_event}
use Rattle.group_model.specs.Refusals as group
use Rattle.repo_member.specs.Groups.{GroupKeys, no_nodes, with_node}
use Rattle.bench_world.specs.Worlds.{drawing}
use Rattle.bench_world.specs.Serving.{environment}
use Rattle.bench_world.specs.EventValues.{EventValue, group_event, event_report}
use Rattle.script_report.specs.declared.refusal.Refusal.{Refusal}
use Rattle.script_report.specs.declared.refusal.Refusal.TheVariants as refusal
use Rattle.script_report.specs.Labels.{label_at}
use Rattle.script_story.specs.Mirrors.{Mirroring, asked_by, attempts_made, gets, mirror_begins, mirror_fetches}
use Rattle.script_story.specs.Mirrors.{mirror_hears, mirror_of, mirror_settles, mirrored_entries}
use Rattle.script_story.specs.StatedEvents.{mirror_number, party_number, pattern_for, publisher_number, stated_event}
use Rattle.script_story.specs.ReportTexts.{listing_text, news_in, news_text, report_text}

-- What no line says: the draws, and which attempts the network passes.
pub record RunEnvironment : Type 0 where
  pub draw : ℕ → ℕ → ℕ
  pub passes : ℕ → ℕ → ℕ → ℕ → ℕ → ℕ → Bool

-- Draws and passes of a run.
abbrev pub env_by : (ℕ → ℕ → ℕ) → (ℕ → ℕ → ℕ → ℕ → ℕ → ℕ → Bool) → RunEnvironment
env_by draw passes = record { draw = draw; passes = passes }

-- The state after the lines so far: what they declared, names and keys of the group, the group itself once there was
-- an event, the watchers of each member, and the mirrors. No event of the group changes watchers, and a settle alone
-- changes mirrors.
pub record State : Type 0 where
  pub declared : Declared
  pub keys : GroupKeys
  pub world : Option World
  pub watchers : List (List Watching)
  pub mirrors : List Mirroring

-- The group before its `group` line: its name is empty, and it has no members or clients.
abbrev pub no_group : GroupKeys
no_group = record { name = []; members = no_nodes; clients = no_nodes }

-- Before the first line.
abbrev pub initial_state : State
initial_state = record { declared = nothing_declared; keys = no_group; world = None; watchers = []; mirrors = [] }

-- The verdict on a line: it is refused; it brings octets that no member made; or it has a report, and others may
-- follow. `not_evaluated` is the verdict on a line that no row here is for: there is no such line.
pub data Verdict : Type 0 where
  refused : Refusal → Verdict
  foreign : Verdict
  accepted : (report : List ℕ) (next : State) → Verdict
  not_evaluated : Verdict

-- ---- events

-- The environment of the group's events.
abbrev pub outside_of : RunEnvironment → GroupKeys → Environment
outside_of env keys = environment keys env.draw env.passes

-- The world that an event finds: the members have nothing before the first.
abbrev pub begun_world : (ℕ → ℕ → ℕ) → State → World
begun_world draw s = unwrap_or s.world (initial_world (drawing draw) (length s.keys.members.names))

-- The world that an event finds in this run.
abbrev pub found_world : RunEnvironment → State → World
found_world env s = begun_world env.draw s

-- The verdict on an event that is refused.
abbrev pub event_refused : group.Refusal → Verdict
event_refused group.Refusal.NoSuchPacket = refused refusal.NoSuchPacket
event_refused group.Refusal.FetcherBusy = refused refusal.FetcherBusy
event_refused group.Refusal.FetcherIdle = refused refusal.FetcherIdle
event_refused group.Refusal.NoSuchNumber = refused refusal.NoSuchNumber
event_refused group.Refusal.NumbersSpent = refused refusal.NumbersSpent
event_refused group.Refusal.Foreign = foreign

-- After a settle each mirror gains what members hold. No other event changes them.
abbrev pub mirrors_after : World → EventValue → List Mirroring → List Mirroring
mirrors_after w (EventValue.Settle workers) mirrors = map (mirror_settles w) mirrors
mirrors_after w e mirrors = mirrors

-- An event that is taken is a step of the group, and its report is that of its outcome.
abbrev pub stepped : Environment → State → Declared → World → EventValue → Option group.Refusal → Verdict
stepped out s d w e (Some why) = event_refused why
stepped out s d w e None = accepted (report_text (map party_label d.members) (event_report s.keys out w e)) (record {
  declared = d;
  keys = s.keys;
  world = Some (after_event out w (group_event s.keys e));
  watchers = s.watchers;
  mirrors = mirrors_after (after_event out w (group_event s.keys e)) e s.mirrors;
})

-- The verdict on the event `e`, where `d` is what the lines declare.
unfoldable pub acted : RunEnvironment → State → Declared → EventValue → Verdict
acted env s d e = stepped (outside_of env s.keys) s d (found_world env s) e
    (group.refusal (outside_of env s.keys) (found_world env s) (group_event s.keys e))

-- ---- watchers

-- The watchers of a member.
abbrev pub watchers_of : List (List Watching) → ℕ → List Watching
watchers_of all m = slice_index_or all m []

-- The watchers of a member.
abbrev pub watchers_at : State → ℕ → List Watching
watchers_at s m = watchers_of s.watchers m

-- A member has these watchers from now on. The line is an event, and so there is a world after it.
abbrev pub with_watchers : World → State → Declared → ℕ → List Watching → State
with_watchers w s d m watchers = record {
  declared = d;
  keys = s.keys;
  world = Some w;
  watchers = slice_set s.watchers m watchers;
  mirrors = s.mirrors;
}

-- A member gets one watcher more, which counts as reported what the member lists. The 17th is refused.
abbrev pub watched : World → State → Declared → ℕ → Pattern → Verdict
watched w s d m pattern =
    if nat_le most_watchers (length (watchers_at s m)) then refused refusal.Limit
    else accepted (watch_text (label_at (map party_label d.members) m) (length (watchers_at s m) + 1))
    (with_watchers w s d m (after_add pattern (catalogue_at w m) (watchers_at s m)))

-- The entries that the member lists, that its watcher `number` asks for and that were not reported to it are reported
-- now. Without such a watcher the line is refused.
abbrev pub told_at : World → State → Declared → ℕ → ℕ → Verdict
told_at w s d m number =
    if is_some (watch_of number (watchers_at s m))
    then accepted (news_text (map party_label d.members) m number
    (news_in (watch_of number (watchers_at s m)) (catalogue_at w m)))
    (with_watchers w s d m (after_take number (catalogue_at w m) (watchers_at s m)))
    else refused refusal.NoSuchWatch

-- A `watch` line.
abbrev pub watched_by : World → State → Declared → List Value → Verdict
watched_by w s d (Text m ∷ publisher ∷ Named prefix ∷ []) =
    watched w s d (party_number m d.members) (pattern_for (publisher_number d publisher) prefix)
watched_by w s d _ = not_evaluated

-- A `told` line.
abbrev pub told_by : World → State → Declared → List Value → Verdict
told_by w s d (Text m ∷ Number number ∷ []) = told_at w s d (party_number m d.members) number
told_by w s d _ = not_evaluated

-- ---- mirrors

-- The mirrors are `mirrors` from now on. The line is an event, and so there is a world after it.
abbrev pub with_mirrors : World → State → Declared → List Mirroring → State
with_mirrors w s d mirrors =
    record { declared = d; keys = s.keys; world = Some w; watchers = s.watchers; mirrors = mirrors }

-- Mirror `i` is `m` from now on.
abbrev pub with_mirror : World → State → Declared → ℕ → Mirroring → State
with_mirror w s d i m = with_mirrors w s d (slice_set s.mirrors i m)

-- A mirror hears the sync Interest of a number, if it was sent.
abbrev pub heard_if : Option group.Refusal → World → State → Declared → ℕ → ℕ → List ℕ → Verdict
heard_if (Some why) w s d k i label = event_refused why
heard_if None w s d k i label = accepted (mdeliver_text k label)
    (with_mirror w s d i (mirror_hears (sent_at w k).vector (mirror_of s.mirrors i)))

-- A mirror hears the sync Interest of a number.
abbrev pub mirror_heard : World → State → Declared → ℕ → ℕ → List ℕ → Verdict
mirror_heard w s d k i label = heard_if (group.unless_sent w k) w s d k i label

-- A mirror fetches of members what it wants.
abbrev pub mirror_fetched : RunEnvironment → World → State → Declared → ℕ → List ℕ → (tries loss : ℕ) → Verdict
mirror_fetched env w s d i label tries loss = accepted
    (mfetch_text label (length (asked_by w (mirror_of s.mirrors i)))
    (length (gets env.passes w i tries loss (mirror_of s.mirrors i)))
    (attempts_made env.passes w i tries loss (mirror_of s.mirrors i)))
    (with_mirror w s d i (mirror_fetches env.passes w i tries loss (mirror_of s.mirrors i)))

-- A mirror's catalogue is listed.
abbrev pub mirror_listed : World → State → Declared → ℕ → List ℕ → Verdict
mirror_listed w s d i label = accepted
    (listing_text (map party_label d.members) label (mirrored_entries w (mirror_of s.mirrors i)))
    (with_mirrors w s d s.mirrors)

-- An `mdeliver` line.
abbrev pub heard_by : World → State → Declared → List Value → Verdict
heard_by w s d (Number k ∷ Text l ∷ []) = mirror_heard w s d k (mirror_number l d.mirrors) l
heard_by w s d _ = not_evaluated

-- An `mfetch` line.
abbrev pub fetched_by : RunEnvironment → World → State → Declared → List Value → Verdict
fetched_by env w s d (Text l ∷ Number workers ∷ Number tries ∷ Number loss ∷ []) =
    mirror_fetched env w s d (mirror_number l d.mirrors) l tries loss
fetched_by env w s d _ = not_evaluated

-- An `mcatalogue` line.
abbrev pub listed_by : World → State → Declared → List Value → Verdict
listed_by w s d (Text l ∷ []) = mirror_listed w s d (mirror_number l d.mirrors) l
listed_by w s d _ = not_evaluated

-- ---- lines

-- A group of this name without members and clients.
abbrev pub group_named : List Component → GroupKeys
group_named name = record { name = name; members = no_nodes; clients = no_nodes }

-- The group with one member more.
abbrev pub with_member_too : List Component → List ℕ → GroupKeys → GroupKeys
with_member_too node key keys = record keys { members = with_node node key keys.members }

-- The group with one client more.
abbrev pub with_client_too : List Component → List ℕ → GroupKeys → GroupKeys
with_client_too node key keys = record keys { clients = with_node node key keys.clients }

-- A `group` line.
abbrev pub with_group : State → Declared → List Value → Verdict
with_group s d (Named name ∷ []) =
    accepted [] (record {
      declared = d;
      keys = group_named name;
      world = s.world;
      watchers = s.watchers;
      mirrors = s.mirrors;
    })
with_group s d _ = not_evaluated

-- The mirrors so far, in a group of these members, before anything has happened.
abbrev pub mirrors_begin : GroupKeys → List Mirroring → List Mirroring
mirrors_begin keys mirrors = map (λ m. mirror_begins (length keys.members.names) m.pattern) mirrors

-- A `member` line.
abbrev pub declaring_member : State → Declared → List Value → Verdict
declaring_member s d (Text label ∷ Named node ∷ Octets key ∷ []) = accepted [] (record {
  declared = d;
  keys = with_member_too node key s.keys;
  world = s.world;
  watchers = s.watchers ++ [] ∷ [];
  mirrors = mirrors_begin (with_member_too node key s.keys) s.mirrors;
})
declaring_member s d _ = not_evaluated

-- A `client` line.
abbrev pub with_client : State → Declared → List Value → Verdict
with_client s d (Text label ∷ Named node ∷ Octets key ∷ []) =
    accepted [] (record {
      declared = d;
      keys = with_client_too node key s.keys;
      world = s.world;
      watchers = s.watchers;
      mirrors = s.mirrors;
    })
with_client s d _ = not_evaluated

-- A `mirror` line.
abbrev pub declaring_mirror : State → Declared → List Value → Verdict
declaring_mirror s d (Text label ∷ publisher ∷ Named prefix ∷ []) = accepted [] (record {
  declared = d;
  keys = s.keys;
  world = s.world;
  watchers = s.watchers;
  mirrors = s.mirrors
      ++ mirror_begins (length s.keys.members.names) (pattern_for (publisher_number d publisher) prefix) ∷ [];
})
declaring_mirror s d _ = not_evaluated

-- The event of a line is carried out.
abbrev pub acted_if : RunEnvironment → State → Declared → Option EventValue → Verdict
acted_if env s d (Some e) = acted env s d e
acted_if env s d None = not_evaluated

-- A line that states an event.
unfoldable pub acted_by : RunEnvironment → State → Declared → Stated → Verdict
acted_by env s d line = acted_if env s d (stated_event d line)

-- The verdict on a line that neither its reading nor what was declared refuses.
abbrev pub taken_by : Verb → RunEnvironment → State → Declared → Stated → Verdict
taken_by verb.Group env s d line = with_group s d line.values
taken_by verb.Member env s d line = declaring_member s d line.values
taken_by verb.Client env s d line = with_client s d line.values
taken_by verb.Mirror env s d line = declaring_mirror s d line.values
taken_by verb.Watch env s d line = watched_by (found_world env s) s d line.values
taken_by verb.Told env s d line = told_by (found_world env s) s d line.values
taken_by verb.Mdeliver env s d line = heard_by (found_world env s) s d line.values
taken_by verb.Mfetch env s d line = fetched_by env (found_world env s) s d line.values
taken_by verb.Mcatalogue env s d line = listed_by (found_world env s) s d line.values
taken_by _ env s d line = acted_by env s d line

-- The verdict on a line that may stand where it does.
unfoldable pub line_taken : RunEnvironment → State → Declared → Stated → Verdict
line_taken env s d line = taken_by line.verb env s d line

-- The verdict on a line that may not stand where it does.
abbrev pub check_refused : CheckFault → Verdict
check_refused check_fault.NoGroup = refused refusal.NoGroup
check_refused check_fault.Late = refused refusal.Late
check_refused check_fault.UnknownLabel = refused refusal.UnknownLabel
check_refused check_fault.Duplicate = refused refusal.Duplicate
check_refused check_fault.Limit = refused refusal.Limit
check_refused check_fault.TooLarge = refused refusal.TooLarge
check_refused check_fault.NoMemory = not_evaluated

-- The verdict on a line, by the result of testing it against what was declared.
abbrev pub checked : RunEnvironment → State → Stated → Result Declared CheckFault → Verdict
checked env s line (Ok d) = line_taken env s d line
checked env s line (Err fault) = check_refused fault

-- The verdict on a line that was read.
unfoldable pub evaluated_line : RunEnvironment → State → Stated → Verdict
evaluated_line env s line = checked env s line (after_line s.declared line)

-- The verdict on octets, by what they are read as. The order of the tests is that of reading, then of what was
-- declared, then of the group.
abbrev pub read : RunEnvironment → State → Result (Option Stated) LineFault → Verdict
read env s (Ok (Some line)) = evaluated_line env s line
read env s (Ok None) = accepted [] s
read env s (Err line_fault.Syntax) = refused refusal.Syntax
read env s (Err line_fault.Limit) = refused refusal.Limit
read env s (Err line_fault.NoMemory) = not_evaluated

-- The verdict on the octets of a line, its line feed among them.
unfoldable pub evaluated : RunEnvironment → State → List ℕ → Verdict
evaluated env s octets = read env s (line_of octets)

-- ---- what is promised

-- Every line is evaluated.
abbrev pub EachLineIsEvaluated : Type 0
EachLineIsEvaluated = (env : RunEnvironment) (s : State) (octets : List ℕ) → evaluated env s octets ≢ not_evaluated

-- A line is refused as Syntax exactly where the grammar refuses it.
abbrev pub SyntaxIsOfTheGrammar : Type 0
SyntaxIsOfTheGrammar = (env : RunEnvironment) (s : State) (octets : List ℕ)
    → (evaluated env s octets ≡ refused refusal.Syntax) ↔ (line_of octets ≡ Err line_fault.Syntax)
