-- What lines of mirrors do to the state that is kept.
use Rattle.std.proofs.Common.{◌≡◌, ◌∙◌, ℕ, ◌+◌, true, List, [], ◌∷◌, ◌++◌, length, map, Option, Some}
use Rattle.std.proofs.Common.{None, unwrap_or, length-append, sym, ap, subst, arith, refl}
use Rattle.ndn_name.specs.Names.{Component}
use Rattle.script_lang.specs.declared.verb.Verb.TheVariants as verb
use Rattle.script_lang.specs.Kinds.{Value, Text, Number, Named}
use Rattle.script_lang.specs.Forms.{Stated, statement}
use Rattle.script_lang.specs.Checking.{Declared, are_members, is_mirror, labels_in, party_label}
use Rattle.script_lang.proofs.Conditions.{and_left}
use Rattle.group_model.specs.World.{World, initial_world}
use Rattle.group_model.specs.Refusals as group
use Rattle.repo_member.specs.Groups.{GroupKeys}
use Rattle.bench_world.specs.EventValues.{EventValue}
use Rattle.bench_world.specs.Worlds.{GroupState, drawing, world_of}
use Rattle.script_lines.specs.declared.run_state.RunState.{RunState}
use Rattle.script_lines.specs.declared.run_state.Phase.{Phase}
use Rattle.script_lines.specs.declared.run_state.Phase.TheVariants.{Acting}
use Rattle.repo_watch.specs.Watching.{Watching}
use Rattle.script_lines.specs.declared.error.LineError.{LineError}
use Rattle.script_lines.specs.declared.error.LineError.TheVariants as error
use Rattle.script_story.specs.Mirrors.{Mirroring, mirror_as, mirror_begins, mirror_of, mirrored_entries}
use Rattle.script_story.specs.StatedEvents.{mirror_number, pattern_for, publisher_number}
use Rattle.script_story.specs.ReportTexts.{listing_text}
use Rattle.script_story.specs.Evaluation.{RunEnvironment, State, begun_world, fetched_by, found_world, heard_by}
use Rattle.script_story.specs.Evaluation.{heard_if}
use Rattle.script_story.specs.Evaluation.{line_taken, listed_by, mirror_fetched, mirror_heard, mirror_listed}
use Rattle.script_story.specs.Evaluation.{mirrors_after, accepted}
use Rattle.script_lines.specs.RunStates.{FetchFits, IsAtEvent, IsBeforeEvents, IsDeclared, IsLineError, IsLineErrorOf}
use Rattle.script_lines.specs.RunStates.{LineIsChecked, MirrorIsThere, NamesAreDeclared, Stands, labels_of}
use Rattle.script_lines.specs.RunStates.{mirrors_in, state_of_run, phase_keys, state_of, world_in}
use Rattle.script_story.proofs.Fitting.{mirror_within, mirror_fits}
use Rattle.script_story.proofs.HeadlineTaken.{many_after}
use Rattle.script_story.proofs.Declarations.{IsEvent, event_after, mirror_declares}
use Rattle.script_lines.proofs.Judgings.{mirror_says}
use Rattle.script_lines.proofs.RunStateLemmas.{Says, at_event, no_world}

-- ---- a declaration

-- A mirror's pattern is added to those that are kept.
pub record DeclaresMirror (env : RunEnvironment) (p : RunState) (s : Stated) (publisher : Value)
    (prefix : List Component)
    : Type 0 where
  pub known : are_members p.words (labels_in (publisher ∷ [])) ≡ true
  pub early : IsBeforeEvents p.phase p.words
  pub declared : IsDeclared (labels_of p) (phase_keys p.phase) (length p.watchers.items)
      (length (mirrors_in p.phase) + 1) p.words
  pub accepted : Says env p s (phase_keys p.phase) p.watchers.items
      (mirrors_in p.phase ++ mirror_begins (length (phase_keys p.phase).members.names)
      (pattern_for (publisher_number p.words publisher) prefix) ∷ [])

mirror_at : (env : RunEnvironment) (p : RunState) (label : List ℕ) (publisher : Value) (prefix : List Component)
    → LineIsChecked p (statement verb.Mirror (Text label ∷ publisher ∷ Named prefix ∷ []))
    → DeclaresMirror env p (statement verb.Mirror (Text label ∷ publisher ∷ Named prefix ∷ [])) publisher prefix
mirror_at env p label publisher prefix c =
    let d = c.before in
    let both = mirror_declares d p.words label publisher prefix c.after in
    let may = both.0 in
    let was = c.stands.declared in
    let unchanged = sym c.stands.events ∙ may.early in
    let one : length p.words.mirrors ≡ length d.mirrors + 1 =
    ap (λ (x : Declared). length x.mirrors) (sym both.1) ∙ length-append d.mirrors (label ∷ []) in
    let new : NamesAreDeclared (labels_of p) (phase_keys p.phase) (record d { mirrors = d.mirrors ++ label ∷ [] })
    = record { labels = was.named.labels; members = was.named.members; clients = was.named.clients } in
    record {
      known = ap (λ (x : Declared). are_members x (labels_in (publisher ∷ []))) (sym both.1)
          ∙ may.known;
      early = record {
        group = ap (λ (x : Declared). x.group) (sym both.1) ∙ may.group;
        early = ap (λ (x : Declared). x.events) (sym both.1) ∙ may.early;
        there = sym c.stands.group ∙ may.group;
        unchanged = unchanged;
      };
      declared = record {
        named = subst (NamesAreDeclared (labels_of p) (phase_keys p.phase)) both.1 new;
        watched = was.watched ∙ ap (λ (x : Declared). length x.members) both.1;
        mirrored = omega (arith, one, was.mirrored);
        few = omega (arith, one, may.few);
      };
      accepted = mirror_says env (state_of_run p) p.words label publisher prefix
          ∙ (λ i. accepted [] (record {
            declared = p.words;
            keys = phase_keys p.phase;
            world = no_world p.phase unchanged i;
            watchers = p.watchers.items;
            mirrors = mirrors_in p.phase ++ mirror_begins (length (phase_keys p.phase).members.names)
                (pattern_for (publisher_number p.words publisher) prefix) ∷ [];
          }));
    }

pub mirror_declared : (env : RunEnvironment) (p : RunState) (s : Stated) (label : List ℕ) (publisher : Value)
    (prefix : List Component) → s ≡ statement verb.Mirror (Text label ∷ publisher ∷ Named prefix ∷ [])
    → LineIsChecked p s
    → DeclaresMirror env p s publisher prefix
mirror_declared env p s label publisher prefix is c =
    subst (λ (x : Stated). DeclaresMirror env p x publisher prefix) (sym is)
    (mirror_at env p label publisher prefix (subst (LineIsChecked p) is c))

-- ---- what is known of the other lines

-- The line names a mirror, and what is kept is there.
pub record OfMirror (p : RunState) (label : List ℕ) : Type 0 where
  pub known : is_mirror label p.words.mirrors ≡ true
  pub is : MirrorIsThere p (mirror_number label p.words.mirrors)

of_mirror : (p : RunState) (s : Stated) (label : List ℕ) (c : LineIsChecked p s) → IsEvent c.before p.words s
    → is_mirror label p.words.mirrors ≡ true → OfMirror p label
of_mirror p s label c event known =
    let at = at_event p s c event in
    record {
      known = known;
      is = record {
        there = omega (arith, mirror_within label p.words.mirrors known, at.declared.mirrored);
        event = at;
      };
    }

pub heard_checked : (p : RunState) (k : ℕ) (label : List ℕ)
    → LineIsChecked p (statement verb.Mdeliver (Number k ∷ Text label ∷ [])) → OfMirror p label
heard_checked p k label c =
    let line : Stated = statement verb.Mdeliver (Number k ∷ Text label ∷ []) in
    let event = event_after c.before p.words line c.after in
    of_mirror p line label c event (and_left (is_mirror label p.words.mirrors) _ event.known)

pub record OfFetch (p : RunState) (label : List ℕ) (workers tries : ℕ) : Type 0 where
  pub of : OfMirror p label
  pub fits : FetchFits workers tries

pub fetched_checked : (p : RunState) (label : List ℕ) (workers tries loss : ℕ)
    → LineIsChecked p (statement verb.Mfetch (Text label ∷ Number workers ∷ Number tries ∷ Number loss ∷ []))
    → OfFetch p label workers tries
fetched_checked p label workers tries loss c =
    let line : Stated = statement verb.Mfetch (Text label ∷ Number workers ∷ Number tries ∷ Number loss ∷ []) in
    let event = event_after c.before p.words line c.after in
    let fits = mirror_fits c.line.octets label workers tries loss c.line.read in
    record {
      of = of_mirror p line label c event (and_left (is_mirror label p.words.mirrors) _ event.known);
      fits = record { workers = fits.0; tries = fits.1 };
    }

pub listed_checked : (p : RunState) (label : List ℕ) → LineIsChecked p (statement verb.Mcatalogue (Text label ∷ []))
    → OfMirror p label
listed_checked p label c =
    let line : Stated = statement verb.Mcatalogue (Text label ∷ []) in
    let event = event_after c.before p.words line c.after in
    of_mirror p line label c event (and_left (is_mirror label p.words.mirrors) _ event.known)

-- ---- what they come to

heard_says : (env : RunEnvironment) (s : State) (d : Declared) (values : List Value)
    → line_taken env s d (statement verb.Mdeliver values) ≡ heard_by (found_world env s) s d values
unfolding line_taken
heard_says env s d values = refl

fetched_says : (env : RunEnvironment) (s : State) (d : Declared) (values : List Value)
    → line_taken env s d (statement verb.Mfetch values) ≡ fetched_by env (found_world env s) s d values
unfolding line_taken
fetched_says env s d values = refl

listed_says : (env : RunEnvironment) (s : State) (d : Declared) (values : List Value)
    → line_taken env s d (statement verb.Mcatalogue values) ≡ listed_by (found_world env s) s d values
unfolding line_taken
listed_says env s d values = refl

pub heard_taken : (env : RunEnvironment) (s : State) (d : Declared) (line : Stated) (values : List Value)
    → line ≡ statement verb.Mdeliver values → line_taken env s d line ≡ heard_by (found_world env s) s d values
heard_taken env s d line values is = ap (line_taken env s d) is ∙ heard_says env s d values

pub fetched_taken : (env : RunEnvironment) (s : State) (d : Declared) (line : Stated) (values : List Value)
    → line ≡ statement verb.Mfetch values → line_taken env s d line ≡ fetched_by env (found_world env s) s d values
fetched_taken env s d line values is = ap (line_taken env s d) is ∙ fetched_says env s d values

pub listed_taken : (env : RunEnvironment) (s : State) (d : Declared) (line : Stated) (values : List Value)
    → line ≡ statement verb.Mcatalogue values → line_taken env s d line ≡ listed_by (found_world env s) s d values
listed_taken env s d line values is = ap (line_taken env s d) is ∙ listed_says env s d values

-- A mirror is the same by its label.
pub heard_same : (w : World) (s : State) (d : Declared) (k i j : ℕ) (label text : List ℕ) → i ≡ j → text ≡ label
    → mirror_heard w s d k i text ≡ mirror_heard w s d k j label
heard_same w s d k i j label text p q = λ n. mirror_heard w s d k (p n) (q n)

pub fetched_same : (env : RunEnvironment) (w : World) (s : State) (d : Declared) (i j : ℕ) (label text : List ℕ)
    (tries loss : ℕ) → i ≡ j → text ≡ label
    → mirror_fetched env w s d i text tries loss ≡ mirror_fetched env w s d j label tries loss
fetched_same env w s d i j label text tries loss p q = λ n. mirror_fetched env w s d (p n) (q n) tries loss

pub listed_same : (w : World) (s : State) (d : Declared) (i j : ℕ) (label text : List ℕ) → i ≡ j → text ≡ label
    → mirror_listed w s d i text ≡ mirror_listed w s d j label
listed_same w s d i j label text p q = λ n. mirror_listed w s d (p n) (q n)

-- ---- stops

heard_if_stops : (o : Option group.Refusal) (w : World) (s : State) (d : Declared) (k i : ℕ) (label : List ℕ)
    (error : LineError) → IsLineErrorOf o error → IsLineError (heard_if o w s d k i label) error
heard_if_stops o w s d k i label error.NoMemory h = tt
heard_if_stops None w s d k i label (error.Refused r) h = absurd h
heard_if_stops None w s d k i label error.Foreign h = absurd h
heard_if_stops (Some why) w s d k i label (error.Refused r) h = h
heard_if_stops (Some why) w s d k i label error.Foreign h = h

-- In the world that is found a sync Interest for a mirror is refused as in the one that is kept.
pub heard_stops : (draw : ℕ → ℕ → ℕ) (phase found : Phase) (ws : List (List Watching)) (d : Declared) (w : World)
    (k i : ℕ) (label : List ℕ) (error : LineError) → found ≡ phase
    → w ≡ unwrap_or (world_in found) (initial_world (drawing draw) (length (phase_keys found).members.names))
    → IsLineErrorOf (group.unless_sent w k) error
    → IsLineError (mirror_heard (begun_world draw (state_of phase ws d)) (state_of phase ws d) d k i label) error
heard_stops draw phase found ws d w k i label error is v h =
    let begun : World = begun_world draw (state_of phase ws d) in
    let same : w ≡ begun = v ∙ ap (λ (x : Phase). begun_world draw (state_of x ws d)) is in
    heard_if_stops (group.unless_sent begun k) begun (state_of phase ws d) d k i label error
    (subst (λ (x : World). IsLineErrorOf (group.unless_sent x k) error) same h)

-- ---- what is kept

-- In the world that is found a mirror lists what it lists in the one that is kept.
pub listed_kept : (draw : ℕ → ℕ → ℕ) (phase found : Phase) (ws : List (List Watching)) (d : Declared)
    (s : GroupState) (labels : List (List ℕ)) (i : ℕ) (label report : List ℕ) → found ≡ phase
    → world_of s
    ≡ unwrap_or (world_in found) (initial_world (drawing draw) (length (phase_keys found).members.names))
    → s.keys ≡ phase_keys found → map mirror_as s.mirrors ≡ mirrors_in found → labels ≡ map party_label d.members
    → report ≡ listing_text labels label (mirrored_entries (world_of s) (mirror_of (map mirror_as s.mirrors) i))
    → mirror_listed (begun_world draw (state_of phase ws d)) (state_of phase ws d) d i label
    ≡ accepted report (state_of (Acting s) ws d)
listed_kept draw phase found ws d s labels i label report is v keys mirrors named text =
    let begun : World = begun_world draw (state_of phase ws d) in
    let same : world_of s ≡ begun = v ∙ ap (λ (x : Phase). begun_world draw (state_of x ws d)) is in
    let its_keys : s.keys ≡ phase_keys phase = keys ∙ ap phase_keys is in
    let its_mirrors : map mirror_as s.mirrors ≡ mirrors_in phase = mirrors ∙ ap mirrors_in is in
    let its_text : report
    ≡ listing_text (map party_label d.members) label (mirrored_entries begun (mirror_of (mirrors_in phase) i)) =
    text ∙ (λ n. listing_text (named n) label (mirrored_entries (same n) (mirror_of (its_mirrors n) i))) in
    let back : accepted report (state_of (Acting s) ws d)
    ≡ mirror_listed begun (state_of phase ws d) d i label =
    λ n. accepted (its_text n) (record {
      declared = d;
      keys = its_keys n;
      world = Some (same n);
      watchers = ws;
      mirrors = its_mirrors n;
    }) in
    sym back

-- After an event what is kept is what lines declare.
pub stands_after : (p : RunState) (found : Phase) (old new : GroupState) (e : EventValue) → found ≡ p.phase
    → old.keys ≡ phase_keys found → new.keys ≡ old.keys → map mirror_as old.mirrors ≡ mirrors_in found
    → map mirror_as new.mirrors ≡ mirrors_after (world_of new) e (map mirror_as old.mirrors) → IsAtEvent p
    → Stands (labels_of p) (Acting new) p.watchers.items p.words
stands_after p found old new e is found_keys same stood after at = record {
  declared = record {
    named = subst (λ (k : GroupKeys). NamesAreDeclared (labels_of p) k p.words)
        (sym (same ∙ found_keys ∙ ap phase_keys is)) at.declared.named;
    watched = at.declared.watched;
    mirrored = ap (λ (ms : List Mirroring). length ms) after ∙ many_after (world_of new) e (map mirror_as old.mirrors)
        ∙ ap (λ (ms : List Mirroring). length ms) (stood ∙ ap mirrors_in is) ∙ at.declared.mirrored;
    few = at.declared.few;
  };
  group = at.group;
  events = at.events;
}
