-- What lines that are taken are as events: what holds in the beginning, and after each event, holds after any lines;
-- and after the first event the lines are a run of events.
use Rattle.std.proofs.Common.{◌≡◌, ◌∙◌, ℕ, zero, suc, true, false, List, [], ◌∷◌, ◌++◌, length, get_or, set, Some}
use Rattle.std.proofs.Common.{Ok, refl, sym, ap}
use Rattle.std.proofs.Common.{subst}
use Rattle.std.proofs.lemmas.Bool.{true≢false}
use Rattle.group_model.specs.Events as group
use Rattle.group_model.specs.World.{Environment, World, initial_world}
use Rattle.group_model.specs.Steps.{after_event, after_events}
use Rattle.group_model.specs.Refusals as refusals
use Rattle.group_model.specs.Refusals.{EventsAreTaken, NamesThose}
use Rattle.group_model.specs.Sound.{IsSoundGroup}
use Rattle.repo_member.specs.Groups.{GroupKeys}
use Rattle.script_lang.specs.declared.verb.Verb.{Verb}
use Rattle.script_lang.specs.declared.verb.Verb.TheVariants as verb
use Rattle.script_lang.specs.Kinds.{Value, Text, Named, Octets}
use Rattle.script_lang.specs.Forms.{Stated, statement}
use Rattle.script_lang.specs.Lines.{line_of}
use Rattle.script_lang.specs.Checking as checking
use Rattle.script_lang.specs.Checking.{Declared, after_by, after_group, after_line, party}
use Rattle.bench_world.specs.EventValues.{EventValue, group_event}
use Rattle.bench_world.specs.Worlds.{drawing}
use Rattle.bench_world.proofs.EventRuns.{named_ready}
use Rattle.repo_watch.specs.Watching.{Watching}
use Rattle.repo_watch.specs.Laws.{WatchCall, after_watch_call, after_watch_calls}
use Rattle.script_story.specs.StatedEvents.{stated_event}
use Rattle.script_story.specs.Evaluation.{RunEnvironment, State, acted_by, acted_if, declaring_member, found_world}
use Rattle.script_story.specs.Evaluation.{initial_state}
use Rattle.script_story.specs.Evaluation.{declaring_mirror, outside_of, accepted, taken_by, watchers_at, with_client}
use Rattle.script_story.specs.Evaluation.{with_group}
use Rattle.script_story.specs.ScriptRun.{Reached, nothing_reached}
use Rattle.script_story.specs.Headline.{AreTakenFirst, LinesAreTaken, group_at}
use Rattle.script_story.proofs.Fitting.{event_fits}
use Rattle.script_story.proofs.HeadlineTaken.{IsMirrored, IsWatched, fetched_so, heard_so, listed_so, accepted_state}
use Rattle.script_story.proofs.HeadlineTaken.{reported_so}
use Rattle.script_story.proofs.HeadlineTaken.{watched_so}
use Rattle.script_story.proofs.Declarations.{mirror_declares}
use Rattle.script_story.proofs.HeadlineGroups.{IsSoundState, declares_group, event_line}
use Rattle.script_story.proofs.HeadlineGroups.{may, opened, sound_beginning, sound_line}
use Rattle.script_story.proofs.LinesTaken.{LineTaken, acted_stated, nothing, stating, taken_line}

-- ---- one line

-- An event is taken, and nothing else changes but what lines have declared.
pub record IsStep (env : RunEnvironment) (s new : State) (e : group.Event) : Type 0 where
  pub taken : refusals.EventIsTaken (outside_of env s.keys) (found_world env s) e
  pub group : found_world env new ≡ after_event (outside_of env s.keys) (found_world env s) e
  pub keys : new.keys ≡ s.keys
  pub members : new.declared.members ≡ s.declared.members
  pub begun : new.declared.events ≡ true
  pub watchers : new.watchers ≡ s.watchers

-- A line of watchers or mirrors leaves the group as it finds it.
pub record LeavesGroup (env : RunEnvironment) (s new : State) : Type 0 where
  pub group : found_world env new ≡ found_world env s
  pub keys : new.keys ≡ s.keys
  pub members : new.declared.members ≡ s.declared.members
  pub begun : new.declared.events ≡ true

-- A line of watchers makes one call to the watchers of one member, and leaves the group as it finds it.
pub record IsBeside (env : RunEnvironment) (s new : State) : Type 0 where
  pub leaves : LeavesGroup env s new
  pub m : ℕ
  pub call : WatchCall
  pub watchers : new.watchers ≡ set s.watchers m (after_watch_call call (watchers_at s m))

-- A line states nothing, or it declares before the first event, or it states an event, or it is one of watchers or of
-- mirrors.
pub data LineSteps (env : RunEnvironment) (s : State) (line : List ℕ) (new : State) : Type 0 where
  still : new ≡ s → LineSteps env s line new
  declares : s.declared.events ≡ false → new.declared.events ≡ false → LineSteps env s line new
  steps : (stated : Stated) (d : Declared) (e : EventValue) → line_of line ≡ Ok (Some stated)
      → stated_event d stated ≡ Some e → IsStep env s new (group_event s.keys e) → LineSteps env s line new
  watches : IsBeside env s new → LineSteps env s line new
  mirrors : LeavesGroup env s new → new.watchers ≡ s.watchers → LineSteps env s line new

module _ (env : RunEnvironment) (s : State) (sound : IsSoundState env s) (line : List ℕ) (stated : Stated)
    (d : Declared)
    (report : List ℕ) (new : State) (read_as : line_of line ≡ Ok (Some stated))
    (after : after_line s.declared stated ≡ Ok d) where
  event_steps : checking.after_event s.declared stated ≡ Ok d
      → acted_if env s d (stated_event d stated) ≡ accepted report new → LineSteps env s line new
  event_steps taken is =
      let acts = acted_stated env s d stated report new (stated_event d stated) refl is in
      let e : EventValue = acts.0 in
      let w : World = found_world env s in
      let printed = event_line s.declared d stated taken in
      let members : d.members ≡ s.declared.members = ap (λ (x : Declared). x.members) printed.is in
      let count : length d.members ≡ length s.declared.members = ap length members in
      let fits = event_fits line s.declared d stated e read_as after acts.1 in
      let named : NamesThose w (group_event s.keys e) =
      named_ready (length d.members) w s.keys e (sound.many ∙ sym count) fits.0 in
      steps stated d e read_as acts.1 (record {
        taken = record { named = named; taken = acts.2.taken };
        group = ap (found_world env) acts.2.next;
        keys = ap (λ (x : State). x.keys) acts.2.next;
        members = ap (λ (x : State). x.declared.members) acts.2.next ∙ members;
        begun = ap (λ (x : State). x.declared.events) acts.2.next ∙ ap (λ (x : Declared). x.events) printed.is;
        watchers = ap (λ (x : State). x.watchers) acts.2.next;
      })

  watch_steps : checking.after_event s.declared stated ≡ Ok d → IsWatched env s d new → LineSteps env s line new
  watch_steps taken watched =
      let printed = event_line s.declared d stated taken in
      watches (record {
        leaves = record {
          group = ap (found_world env) watched.next;
          keys = ap (λ (x : State). x.keys) watched.next;
          members = ap (λ (x : State). x.declared.members) watched.next ∙ ap (λ (x : Declared). x.members) printed.is;
          begun = ap (λ (x : State). x.declared.events) watched.next ∙ ap (λ (x : Declared). x.events) printed.is;
        };
        m = watched.m;
        call = watched.call;
        watchers = ap (λ (x : State). x.watchers) watched.next;
      })

  mirror_steps : checking.after_event s.declared stated ≡ Ok d → IsMirrored env s d new → LineSteps env s line new
  mirror_steps taken mirrored =
      let printed = event_line s.declared d stated taken in
      mirrors (record {
        group = ap (found_world env) mirrored.next;
        keys = ap (λ (x : State). x.keys) mirrored.next;
        members = ap (λ (x : State). x.declared.members) mirrored.next ∙ ap (λ (x : Declared). x.members) printed.is;
        begun = ap (λ (x : State). x.declared.events) mirrored.next ∙ ap (λ (x : Declared). x.events) printed.is;
      }) (ap (λ (x : State). x.watchers) mirrored.next)

  group_declared : (values : List Value) → after_group s.declared ≡ Ok d → with_group s d values ≡ accepted report new
      → LineSteps env s line new
  group_declared (Named name ∷ []) taken is =
      let first = declares_group s.declared d taken in
      let early : s.declared.events ≡ false = sound.uneventful first.first in
      declares early
      (ap (λ (x : State). x.declared.events) (accepted_state report [] new _ is)
      ∙ ap (λ (x : Declared). x.events) first.is
      ∙ early)
  group_declared values taken is = cc

  member_declared : (values : List Value) → after_by s.declared stated verb.Member values ≡ Ok d
      → declaring_member s d values ≡ accepted report new → LineSteps env s line new
  member_declared (Text label ∷ Named node ∷ Octets key ∷ []) taken is =
      let m = may s.declared d (record s.declared { members = s.declared.members ++ party label node ∷ [] })
      (party label node) (length s.declared.members) taken in
      declares m.0.before
      (ap (λ (x : State). x.declared.events) (accepted_state report [] new _ is)
      ∙ ap (λ (x : Declared). x.events) m.1
      ∙ m.0.before)
  member_declared values taken is = cc

  client_declared : (values : List Value) → after_by s.declared stated verb.Client values ≡ Ok d
      → with_client s d values ≡ accepted report new → LineSteps env s line new
  client_declared (Text label ∷ Named node ∷ Octets key ∷ []) taken is =
      let m = may s.declared d (record s.declared { clients = s.declared.clients ++ party label node ∷ [] })
      (party label node) (length s.declared.clients) taken in
      declares m.0.before
      (ap (λ (x : State). x.declared.events) (accepted_state report [] new _ is)
      ∙ ap (λ (x : Declared). x.events) m.1
      ∙ m.0.before)
  client_declared values taken is = cc

  mirror_declared : (values : List Value) → after_line s.declared (statement verb.Mirror values) ≡ Ok d
      → declaring_mirror s d values ≡ accepted report new → LineSteps env s line new
  mirror_declared (Text label ∷ publisher ∷ Named prefix ∷ []) taken is =
      let both = mirror_declares s.declared d label publisher prefix taken in
      declares both.0.early
      (ap (λ (x : State). x.declared.events) (accepted_state report [] new _ is)
      ∙ ap (λ (x : Declared). x.events) (sym both.1)
      ∙ both.0.early)
  mirror_declared values taken is = cc

  stated_steps : (form : Verb) → after_by s.declared stated form stated.values ≡ Ok d
      → taken_by form env s d stated ≡ accepted report new → LineSteps env s line new
  unfolding acted_by
  stated_steps verb.Group taken is = group_declared stated.values taken is
  stated_steps verb.Member taken is = member_declared stated.values taken is
  stated_steps verb.Client taken is = client_declared stated.values taken is
  stated_steps verb.Mirror taken is = mirror_declared stated.values taken is
  stated_steps verb.Watch taken is = watch_steps taken (watched_so env s d stated.values report new is)
  stated_steps verb.Told taken is = watch_steps taken (reported_so env s d stated.values report new is)
  stated_steps verb.Mdeliver taken is = mirror_steps taken (heard_so env s d stated.values report new is)
  stated_steps verb.Mfetch taken is = mirror_steps taken (fetched_so env s d stated.values report new is)
  stated_steps verb.Mcatalogue taken is = mirror_steps taken (listed_so env s d stated.values report new is)
  stated_steps form taken is = event_steps taken is

pub line_steps : (env : RunEnvironment) (s : State) (line report : List ℕ) (new : State)
    → LineTaken env s line report new
    → IsSoundState env s → LineSteps env s line new
line_steps env s line report new (nothing read same) sound = still same
line_steps env s line report new (stating stated d read after is) sound =
    stated_steps env s sound line stated d report new read after stated.verb after is

-- ---- what stays so

module _ (env : RunEnvironment) (P : World → Type 0) (begins : (out : Environment) (n : ℕ) → P (initial_world out n))
    (stays : (out : Environment) (w : World) (e : group.Event) → IsSoundGroup w → refusals.EventIsTaken out w e → P w
    → P (after_event out w e)) where
  -- Before the first event nothing has happened.
  so_before : (s : State) → IsSoundState env s → s.declared.events ≡ false → P (found_world env s)
  so_before s sound none = subst P (sym (opened env s (sound.begun none)))
      (begins (drawing env.draw) (length s.keys.members.names))

  so_next : (s : State) (line : List ℕ) (new : State) → IsSoundState env s → IsSoundState env new
      → LineSteps env s line new → P (found_world env s) → P (found_world env new)
  so_next s line new sound sound_new (still same) so = subst (λ (x : State). P (found_world env x)) (sym same) so
  so_next s line new sound sound_new (declares early none) so = so_before new sound_new none
  so_next s line new sound sound_new (watches beside) so = subst P (sym beside.leaves.group) so
  so_next s line new sound sound_new (mirrors leaves same) so = subst P (sym leaves.group) so
  so_next s line new sound sound_new (steps stated d e read statement step) so =
      subst P (sym step.group)
      (stays (outside_of env s.keys) (found_world env s) (group_event s.keys e) sound.sound step.taken so)

  so_after : (r : Reached) (lines reports : List (List ℕ)) (last : Reached) → LinesAreTaken env r lines reports last
      → IsSoundState env r.state → P (group_at env r) → P (group_at env last)
  so_after r [] [] last taken sound so = subst (λ (x : Reached). P (group_at env x)) (sym taken) so
  so_after r [] (report ∷ reports) last taken sound so = absurd taken
  so_after r (line ∷ lines) [] last taken sound so = absurd taken
  so_after r (line ∷ lines) (report ∷ reports) last taken sound so =
      let next : Reached = taken.0 in
      let here : LineTaken env r.state line report next.state = taken_line env r line report next taken.1 in
      let sound_next : IsSoundState env next.state = sound_line env r.state line report next.state here sound in
      so_after next lines reports last taken.2 sound_next
      (so_next r.state line next.state sound sound_next (line_steps env r.state line report next.state here sound) so)

  -- `P` holds of the group after any first lines of a script that are taken.
  pub so_from_start : (lines reports : List (List ℕ)) (r : Reached) → AreTakenFirst env lines reports r
      → P (group_at env r)
  so_from_start lines reports r taken =
      so_after nothing_reached lines reports r taken (sound_beginning env)
      (so_before initial_state (sound_beginning env) refl)

-- ---- runs of events

-- Events lead from one state to another.
pub record RunsTo (env : RunEnvironment) (s last : State) : Type 0 where
  pub events : List group.Event
  pub taken : EventsAreTaken (outside_of env s.keys) (found_world env s) events
  pub group : found_world env last ≡ after_events (outside_of env s.keys) (found_world env s) events
  pub members : last.declared.members ≡ s.declared.members

-- These events lead from this group to that state.
abbrev AreRun : RunEnvironment → State → List group.Event → Environment → World → Type 0
AreRun env last events out w =
    EventsAreTaken out w events × (found_world env last ≡ after_events out w events)

one_more : (env : RunEnvironment) (s next last : State) (e : group.Event) → IsStep env s next e → RunsTo env next last
    → RunsTo env s last
one_more env s next last e step rest = record {
  events = e ∷ rest.events;
  taken = (step.taken, same.0);
  group = same.1;
  members = rest.members ∙ step.members;
} where
  after : World
  after = after_event (outside_of env s.keys) (found_world env s) e

  same : AreRun env last rest.events (outside_of env s.keys) after
  same =
      subst (λ (keys : GroupKeys). AreRun env last rest.events (outside_of env keys) after) step.keys
      (subst (AreRun env last rest.events (outside_of env next.keys)) step.group (rest.taken, rest.group))

none_more : (env : RunEnvironment) (s next last : State) → LeavesGroup env s next → RunsTo env next last
    → RunsTo env s last
none_more env s next last leaves rest = record {
  events = rest.events;
  taken = same.0;
  group = same.1;
  members = rest.members ∙ leaves.members;
} where
  same : AreRun env last rest.events (outside_of env s.keys) (found_world env s)
  same =
      subst (λ (keys : GroupKeys). AreRun env last rest.events (outside_of env keys) (found_world env s))
      leaves.keys
      (subst (AreRun env last rest.events (outside_of env next.keys)) leaves.group (rest.taken, rest.group))

-- Lines after the first event lead by events from one state to another.
pub lines_run : (env : RunEnvironment) (r : Reached) (lines reports : List (List ℕ)) (last : Reached)
    → LinesAreTaken env r lines reports last → IsSoundState env r.state → r.state.declared.events ≡ true
    → RunsTo env r.state last.state
lines_run env r [] [] last taken sound begun =
    subst (λ (x : Reached). RunsTo env r.state x.state) (sym taken)
    (record { events = []; taken = tt; group = refl; members = refl })
lines_run env r [] (report ∷ reports) last taken sound begun = absurd taken
lines_run env r (line ∷ lines) [] last taken sound begun = absurd taken
lines_run env r (line ∷ lines) (report ∷ reports) last taken sound begun =
    let next : Reached = taken.0 in
    let here : LineTaken env r.state line report next.state = taken_line env r line report next taken.1 in
    go next (line_steps env r.state line report next.state here sound)
    (lines_run env next lines reports last taken.2 (sound_line env r.state line report next.state here sound)) where
      go : (next : Reached) → LineSteps env r.state line next.state
          → (next.state.declared.events ≡ true → RunsTo env next.state last.state)
          → RunsTo env r.state last.state
      go next (still same) rest =
          subst (λ (x : State). RunsTo env x last.state) same
          (rest (ap (λ (x : State). x.declared.events) same ∙ begun))
      go next (declares early none) rest = absurd (true≢false (sym begun ∙ early))
      go next (watches beside) rest =
          none_more env r.state next.state last.state beside.leaves (rest beside.leaves.begun)
      go next (mirrors leaves same) rest = none_more env r.state next.state last.state leaves (rest leaves.begun)
      go next (steps stated d e read statement step) rest =
          one_more env r.state next.state last.state (group_event r.state.keys e) step (rest step.begun)

-- ---- watchers

-- The calls that were made to the watchers of a member between two states.
pub record AreAsked (s last : State) (m : ℕ) : Type 0 where
  pub calls : List WatchCall
  pub are : watchers_at last m ≡ after_watch_calls calls (watchers_at s m)

-- What stands at a place of a list once one place is written.
pub data IsSetAt (ws : List (List Watching)) (k m : ℕ) (x : List Watching) : Type 0 where
  other : get_or (set ws k x) m [] ≡ get_or ws m [] → IsSetAt ws k m x
  itself : m ≡ k → get_or (set ws k x) m [] ≡ x → IsSetAt ws k m x

pub set_at : (ws : List (List Watching)) (k m : ℕ) (x : List Watching) → IsSetAt ws k m x
set_at [] k m x = other refl
set_at (w ∷ ws) zero zero x = itself refl refl
set_at (w ∷ ws) zero (suc m) x = other refl
set_at (w ∷ ws) (suc k) zero x = other refl
set_at (w ∷ ws) (suc k) (suc m) x = go (set_at ws k m x) where
  go : IsSetAt ws k m x → IsSetAt (w ∷ ws) (suc k) (suc m) x
  go (other same) = other same
  go (itself at same) = itself (ap suc at) same

asked_too : (env : RunEnvironment) (s next last : State) (m : ℕ) → IsBeside env s next → AreAsked next last m
    → AreAsked s last m
asked_too env s next last m beside rest = go (set_at s.watchers beside.m m asked) where
  asked : List Watching
  asked = after_watch_call beside.call (watchers_at s beside.m)

  now : watchers_at next m ≡ get_or (set s.watchers beside.m asked) m []
  now = ap (λ (ws : List (List Watching)). get_or ws m []) beside.watchers

  go : IsSetAt s.watchers beside.m m asked → AreAsked s last m
  go (other same) = record {
    calls = rest.calls;
    are = rest.are ∙ ap (after_watch_calls rest.calls) (now ∙ same);
  }
  go (itself at same) = record {
    calls = beside.call ∷ rest.calls;
    are = rest.are ∙ ap (after_watch_calls rest.calls)
        (now ∙ same ∙ ap (λ (n : ℕ). after_watch_call beside.call (watchers_at s n)) (sym at));
  }

-- After the first event lines change a member's watchers by calls alone.
pub lines_ask : (env : RunEnvironment) (r : Reached) (lines reports : List (List ℕ)) (last : Reached)
    → LinesAreTaken env r lines reports last → IsSoundState env r.state → r.state.declared.events ≡ true → (m : ℕ)
    → AreAsked r.state last.state m
lines_ask env r [] [] last taken sound begun m =
    subst (λ (x : Reached). AreAsked r.state x.state m) (sym taken) (record { calls = []; are = refl })
lines_ask env r [] (report ∷ reports) last taken sound begun m = absurd taken
lines_ask env r (line ∷ lines) [] last taken sound begun m = absurd taken
lines_ask env r (line ∷ lines) (report ∷ reports) last taken sound begun m =
    let next : Reached = taken.0 in
    let here : LineTaken env r.state line report next.state = taken_line env r line report next taken.1 in
    go next (line_steps env r.state line report next.state here sound)
    (λ b. lines_ask env next lines reports last taken.2
    (sound_line env r.state line report next.state here sound) b m) where
      as_asked : (m : ℕ) (next last : Reached) → AreAsked next.state last.state m
          → next.state.watchers ≡ r.state.watchers → AreAsked r.state last.state m
      as_asked m next last after same = record {
        calls = after.calls;
        are = after.are ∙ ap (λ (ws : List (List Watching)). after_watch_calls after.calls (get_or ws m [])) same;
      }

      go : (next : Reached) → LineSteps env r.state line next.state
          → (next.state.declared.events ≡ true → AreAsked next.state last.state m)
          → AreAsked r.state last.state m
      go next (still same) rest =
          subst (λ (x : State). AreAsked x last.state m) same
          (rest (ap (λ (x : State). x.declared.events) same ∙ begun))
      go next (declares early none) rest = absurd (true≢false (sym begun ∙ early))
      go next (watches beside) rest = asked_too env r.state next.state last.state m beside (rest beside.leaves.begun)
      go next (mirrors leaves same) rest = as_asked m next last (rest leaves.begun) same
      go next (steps stated d e read statement step) rest = as_asked m next last (rest step.begun) step.watchers
