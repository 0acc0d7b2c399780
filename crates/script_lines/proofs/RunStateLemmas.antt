-- What a line changes of what is kept, by what it states.
use Rattle.std.proofs.Common.{◌≡◌, ◌∙◌, ℕ, ◌<◌, true, false, List, [], ◌∷◌, ◌++◌, length, map, Option, Some, None}
use Rattle.std.proofs.Common.{◌+◌, length-append, Result, Ok, Err, String, Global, Vec, refl, sym, ap, subst, arith}
use Rattle.std.specs.Prelude.{OnOk}
use Rattle.std.proofs.lemmas.Bool.{true≢false}
use Rattle.std.proofs.lemmas.List.{length-map, map-append}
use Rattle.ndn_name.specs.Names.{Component}
use Rattle.ndn_name.specs.declared.name.Name.{Name}
use Rattle.script_lang.specs.declared.line.Line.{Line}
use Rattle.script_lang.specs.declared.line.Line.TheVariants as line
use Rattle.script_lang.specs.declared.verb.Verb.{Verb}
use Rattle.script_lang.specs.declared.verb.Verb.TheVariants as verb
use Rattle.script_lang.specs.Kinds.{Value, Text, Number, Named, Octets}
use Rattle.script_lang.specs.Forms.{Stated, statement, stated}
use Rattle.script_lang.specs.Checking.{Declared, Party, after_line, party_label, party, party_node}
use Rattle.group_model.specs.World.{World}
use Rattle.repo_member.specs.Groups.{GroupKeys, IsPlainNodeName}
use Rattle.group_model.specs.Steps.{after_event}
use Rattle.group_model.specs.Refusals as group
use Rattle.bench_world.specs.EventValues.{EventValue, group_event, event_report}
use Rattle.bench_world.specs.Worlds.{GroupState, world_of}
use Rattle.repo_watch.specs.Watching.{Watching}
use Rattle.script_lines.specs.declared.run_state.RunState.{RunState}
use Rattle.script_lines.specs.declared.run_state.Phase.{Phase}
use Rattle.script_lines.specs.declared.run_state.Phase.TheVariants.{Opening, Declaring, Acting}
use Rattle.script_story.specs.Evaluation.{RunEnvironment, State, Verdict, accepted, acted, acted_by, acted_if}
use Rattle.script_story.specs.Evaluation.{found_world}
use Rattle.script_story.specs.Evaluation.{group_named}
use Rattle.script_story.specs.Evaluation.{outside_of, evaluated_line, line_taken, no_group, taken_by, with_client_too}
use Rattle.script_story.specs.Evaluation.{declaring_mirror, fetched_by, heard_by, heard_if, listed_by, mirrors_begin}
use Rattle.script_story.specs.Evaluation.{mirrors_after, told_by, watched_by, with_member_too}
use Rattle.script_lines.specs.RunStates.{HasStepped, IsAtEvent, IsBeforeEvents, IsDeclared, IsEventLine, IsNewNode}
use Rattle.script_lines.specs.RunStates.{IsLineError, IsLineErrorOf, LineIsChecked, NamesAreDeclared, StatesEvent}
use Rattle.script_lines.specs.RunStates.{has_group}
use Rattle.script_lines.specs.RunStates.{has_world, labels_of, mirrors_in, state_of_run, phase_keys, state_of}
use Rattle.script_lines.specs.RunStates.{world_in}
use Rattle.script_lines.specs.declared.error.LineError.{LineError}
use Rattle.script_story.specs.ReportTexts.{report_text}
use Rattle.script_story.specs.Mirrors.{Mirroring, mirror_as}
use Rattle.script_story.specs.StatedEvents.{mirror_number, stated_event}
use Rattle.script_story.proofs.Fitting.{client_fits, event_fits, group_fits, member_fits}
use Rattle.script_story.proofs.Declarations.{IsEvent, client_declares, group_declares, is_free, member_declares}
use Rattle.script_lines.proofs.Judgings.{acted_says, acted_stops, client_says, event_declares, event_says, group_says}
use Rattle.script_lines.proofs.Judgings.{member_says, taken_line}

-- Nothing but what a line declares matters where it is taken.
same_acted : (env : RunEnvironment) (phase : Phase) (ws : List (List Watching)) (d e : Declared) (o : Option EventValue)
    → acted_if env (state_of phase ws d) e o ≡ acted_if env (state_of phase ws e) e o
unfolding acted
same_acted env phase ws d e None = refl
same_acted env phase ws d e (Some v) = refl

same_acted_by : (env : RunEnvironment) (phase : Phase) (ws : List (List Watching)) (d e : Declared) (s : Stated)
    → acted_by env (state_of phase ws d) e s ≡ acted_by env (state_of phase ws e) e s
unfolding acted_by
same_acted_by env phase ws d e s = same_acted env phase ws d e (stated_event e s)

same_watched : (env : RunEnvironment) (phase : Phase) (ws : List (List Watching)) (d e : Declared) (values : List Value)
    → watched_by (found_world env (state_of phase ws d)) (state_of phase ws d) e values
    ≡ watched_by (found_world env (state_of phase ws e)) (state_of phase ws e) e values
same_watched env phase ws d e (Text m ∷ publisher ∷ Named prefix ∷ []) = refl
same_watched env phase ws d e values = refl

same_announced : (env : RunEnvironment) (phase : Phase) (ws : List (List Watching)) (d e : Declared)
    (values : List Value)
    → told_by (found_world env (state_of phase ws d)) (state_of phase ws d) e values
    ≡ told_by (found_world env (state_of phase ws e)) (state_of phase ws e) e values
same_announced env phase ws d e (Text m ∷ Number number ∷ []) = refl
same_announced env phase ws d e values = refl

same_mirror : (env : RunEnvironment) (phase : Phase) (ws : List (List Watching)) (d e : Declared) (values : List Value)
    → declaring_mirror (state_of phase ws d) e values ≡ declaring_mirror (state_of phase ws e) e values
same_mirror env phase ws d e (Text label ∷ publisher ∷ Named prefix ∷ []) = refl
same_mirror env phase ws d e values = refl

same_heard_if : (o : Option group.Refusal) (w : World) (phase : Phase) (ws : List (List Watching))
    (d e : Declared) (k i : ℕ) (label : List ℕ)
    → heard_if o w (state_of phase ws d) e k i label ≡ heard_if o w (state_of phase ws e) e k i label
same_heard_if (Some why) w phase ws d e k i label = refl
same_heard_if None w phase ws d e k i label = refl

same_heard : (env : RunEnvironment) (phase : Phase) (ws : List (List Watching)) (d e : Declared) (values : List Value)
    → heard_by (found_world env (state_of phase ws d)) (state_of phase ws d) e values
    ≡ heard_by (found_world env (state_of phase ws e)) (state_of phase ws e) e values
same_heard env phase ws d e (Number k ∷ Text l ∷ []) =
    let w : World = found_world env (state_of phase ws d) in
    same_heard_if (group.unless_sent w k) w phase ws d e k (mirror_number l e.mirrors) l
same_heard env phase ws d e values = refl

same_fetched : (env : RunEnvironment) (phase : Phase) (ws : List (List Watching)) (d e : Declared) (values : List Value)
    → fetched_by env (found_world env (state_of phase ws d)) (state_of phase ws d) e values
    ≡ fetched_by env (found_world env (state_of phase ws e)) (state_of phase ws e) e values
same_fetched env phase ws d e (Text l ∷ Number workers ∷ Number tries ∷ Number loss ∷ []) = refl
same_fetched env phase ws d e values = refl

same_listed : (env : RunEnvironment) (phase : Phase) (ws : List (List Watching)) (d e : Declared) (values : List Value)
    → listed_by (found_world env (state_of phase ws d)) (state_of phase ws d) e values
    ≡ listed_by (found_world env (state_of phase ws e)) (state_of phase ws e) e values
same_listed env phase ws d e (Text l ∷ []) = refl
same_listed env phase ws d e values = refl

same_taken : (env : RunEnvironment) (phase : Phase) (ws : List (List Watching)) (d e : Declared) (v : Verb) (s : Stated)
    → taken_by v env (state_of phase ws d) e s ≡ taken_by v env (state_of phase ws e) e s
same_taken env phase ws d e verb.Group s = refl
same_taken env phase ws d e verb.Member s = refl
same_taken env phase ws d e verb.Client s = refl
same_taken env phase ws d e verb.Watch s = same_watched env phase ws d e s.values
same_taken env phase ws d e verb.Mirror s = same_mirror env phase ws d e s.values
same_taken env phase ws d e verb.Told s = same_announced env phase ws d e s.values
same_taken env phase ws d e verb.Mdeliver s = same_heard env phase ws d e s.values
same_taken env phase ws d e verb.Mfetch s = same_fetched env phase ws d e s.values
same_taken env phase ws d e verb.Mcatalogue s = same_listed env phase ws d e s.values
same_taken env phase ws d e v s = same_acted_by env phase ws d e s

pub line_is_taken : (env : RunEnvironment) (phase : Phase) (ws : List (List Watching)) (d e : Declared) (s : Stated)
    → after_line d s ≡ Ok e
    → evaluated_line env (state_of phase ws d) s ≡ line_taken env (state_of phase ws e) e s
unfolding line_taken
line_is_taken env phase ws d e s after =
    taken_line env (state_of phase ws d) e s after ∙ same_taken env phase ws d e s.verb s

pub no_world : (phase : Phase) → has_world phase ≡ false → world_in phase ≡ None
no_world Opening h = refl
no_world (Declaring group patterns) h = refl
no_world (Acting world) h = absurd (true≢false h)

-- Nothing is kept before the group's line.
record IsOpening (phase : Phase) : Type 0 where
  keys : phase_keys phase ≡ no_group
  world : world_in phase ≡ None
  mirrors : mirrors_in phase ≡ []
  early : has_world phase ≡ false

is_opening : (phase : Phase) → has_group phase ≡ false → IsOpening phase
is_opening Opening h = record { keys = refl; world = refl; mirrors = refl; early = refl }
is_opening (Declaring group patterns) h = absurd (true≢false h)
is_opening (Acting world) h = absurd (true≢false h)

-- The verdict of a line that declares something, and has no report.
abbrev pub Says : RunEnvironment → RunState → Stated → GroupKeys → List (List Watching) → List Mirroring → Type 0
Says env p s keys after mirrors =
    line_taken env (state_of_run p) p.words s
    ≡ accepted [] (record { declared = p.words; keys = keys; world = None; watchers = after; mirrors = mirrors })

-- ---- the group

pub record Grouped (env : RunEnvironment) (p : RunState) (s : Stated) (name : List Component) : Type 0 where
  pub plain : IsPlainNodeName name
  pub group : p.words.group ≡ true
  pub early : p.words.events ≡ false
  pub declared : IsDeclared (labels_of p) (group_named name) (length p.watchers.items) 0 p.words
  pub accepted : Says env p s (group_named name) p.watchers.items []

grouped_at : (env : RunEnvironment) (p : RunState) (name : List Component)
    → LineIsChecked p (statement verb.Group (Named name ∷ []))
    → Grouped env p (statement verb.Group (Named name ∷ [])) name
grouped_at env p name c =
    let opens = group_declares c.before p.words name c.after in
    let was = c.stands.declared in
    let none = is_opening p.phase (sym c.stands.group ∙ opens.0) in
    let empty : NamesAreDeclared (labels_of p) no_group c.before =
    subst (λ keys. NamesAreDeclared (labels_of p) keys c.before) none.keys was.named in
    let new : NamesAreDeclared (labels_of p) (group_named name) (record c.before { group = true }) =
    record { labels = empty.labels; members = empty.members; clients = empty.clients } in
    let same : length p.words.mirrors ≡ length c.before.mirrors =
    ap (λ (x : Declared). length x.mirrors) (sym opens.1) in
    let nobody : length (mirrors_in p.phase) ≡ 0 = ap (λ (ms : List Mirroring). length ms) none.mirrors in
    record {
      plain = group_fits c.line.octets name c.line.read;
      group = ap (λ (x : Declared). x.group) (sym opens.1);
      early = ap (λ (x : Declared). x.events) (sym opens.1) ∙ c.stands.events ∙ none.early;
      declared = record {
        named = subst (NamesAreDeclared (labels_of p) (group_named name)) opens.1 new;
        watched = was.watched ∙ ap (λ (x : Declared). length x.members) opens.1;
        mirrored = omega (arith, same, nobody, was.mirrored);
        few = omega (arith, same, was.few);
      };
      accepted = group_says env (state_of_run p) p.words name
          ∙ (λ i. accepted [] (record {
            declared = p.words;
            keys = group_named name;
            world = none.world i;
            watchers = p.watchers.items;
            mirrors = none.mirrors i;
          }));
    }

pub grouped : (env : RunEnvironment) (p : RunState) (s : Stated) (name : List Component)
    → s ≡ statement verb.Group (Named name ∷ []) → LineIsChecked p s → Grouped env p s name
grouped env p s name is c =
    subst (λ (x : Stated). Grouped env p x name) (sym is) (grouped_at env p name (subst (LineIsChecked p) is c))

-- ---- members and clients

-- A name and a key are added, after which the labels and the group are `labels` and `keys`. Before there were `many`
-- members or clients.
pub record Declares (env : RunEnvironment) (p : RunState) (s : Stated) (node : List Component) (key : List ℕ)
    (labels : List (List ℕ)) (keys : GroupKeys) (many members : ℕ) (after : List (List Watching))
    (mirrors : List Mirroring) : Type 0 where
  pub fits : IsNewNode (phase_keys p.phase) node key
  pub early : IsBeforeEvents p.phase p.words
  pub few : many < 16
  pub declared : IsDeclared labels keys members (length (mirrors_in p.phase)) p.words
  pub accepted : Says env p s keys after mirrors

abbrev pub MemberDeclares : RunEnvironment → RunState → Stated → List ℕ → List Component → List ℕ → Type 0
MemberDeclares env p s label node key =
    Declares env p s node key (labels_of p ++ label ∷ []) (with_member_too node key (phase_keys p.phase))
    (length (phase_keys p.phase).members.names) (length p.watchers.items + 1) (p.watchers.items ++ [] ∷ [])
    (mirrors_begin (with_member_too node key (phase_keys p.phase)) (mirrors_in p.phase))

member_at : (env : RunEnvironment) (p : RunState) (label : List ℕ) (node : List Component) (key : List ℕ)
    → LineIsChecked p (statement verb.Member (Text label ∷ Named node ∷ Octets key ∷ []))
    → MemberDeclares env p (statement verb.Member (Text label ∷ Named node ∷ Octets key ∷ [])) label node key
member_at env p label node key c =
    let d = c.before in
    let keys = phase_keys p.phase in
    let both = member_declares d p.words label node key c.after in
    let may = both.0 in
    let was = c.stands.declared in
    let both_fit = member_fits c.line.octets label node key c.line.read in
    let unchanged = sym c.stands.events ∙ may.early in
    let same : length p.words.mirrors ≡ length d.mirrors =
    ap (λ (x : Declared). length x.mirrors) (sym both.1) in
    let new : NamesAreDeclared (labels_of p ++ label ∷ []) (with_member_too node key keys)
    (record c.before { members = c.before.members ++ party label node ∷ [] }) = record {
      labels = ap (λ (xs : List (List ℕ)). xs ++ label ∷ []) was.named.labels
          ∙ sym (map-append party_label d.members (party label node ∷ []));
      members = map-append party_node d.members (party label node ∷ [])
          ∙ ap (λ (xs : List (List Component)). xs ++ node ∷ []) was.named.members;
      clients = was.named.clients;
    } in
    record {
      fits = record {
        node = both_fit.0;
        key = both_fit.1;
        apart = is_free d keys label node was.named.members was.named.clients may.apart;
      };
      early = record {
        group = ap (λ (x : Declared). x.group) (sym both.1) ∙ may.group;
        early = ap (λ (x : Declared). x.events) (sym both.1) ∙ may.early;
        there = sym c.stands.group ∙ may.group;
        unchanged = unchanged;
      };
      few = subst (λ n. n < 16) (sym (length-map d.members party_node)
          ∙ ap (λ (xs : List (List Component)). length xs) was.named.members) may.few;
      declared = record {
        named = subst (NamesAreDeclared (labels_of p ++ label ∷ []) (with_member_too node key keys)) both.1 new;
        watched = ap (λ (n : ℕ). n + 1) was.watched ∙ sym (length-append d.members (party label node ∷ []))
            ∙ ap (λ (x : Declared). length x.members) both.1;
        mirrored = was.mirrored ∙ sym same;
        few = omega (arith, same, was.few);
      };
      accepted = member_says env (state_of_run p) p.words label node key
          ∙ ap (λ (w : Option World). accepted [] (record {
            declared = p.words;
            keys = with_member_too node key keys;
            world = w;
            watchers = p.watchers.items ++ [] ∷ [];
            mirrors = mirrors_begin (with_member_too node key keys) (mirrors_in p.phase);
          })) (no_world p.phase unchanged);
    }

pub member_declared : (env : RunEnvironment) (p : RunState) (s : Stated) (label : List ℕ) (node : List Component)
    (octets key : List ℕ) → s ≡ statement verb.Member (Text label ∷ Named node ∷ Octets octets ∷ [])
    → key ≡ octets → LineIsChecked p s → MemberDeclares env p s label node key
member_declared env p s label node octets key is same c =
    let is_key : s ≡ statement verb.Member (Text label ∷ Named node ∷ Octets key ∷ []) =
    is ∙ ap (λ (k : List ℕ). statement verb.Member (Text label ∷ Named node ∷ Octets k ∷ [])) (sym same) in
    subst (λ (x : Stated). MemberDeclares env p x label node key) (sym is_key)
    (member_at env p label node key (subst (LineIsChecked p) is_key c))

abbrev pub ClientDeclares : RunEnvironment → RunState → Stated → List Component → List ℕ → Type 0
ClientDeclares env p s node key =
    Declares env p s node key (labels_of p) (with_client_too node key (phase_keys p.phase))
    (length (phase_keys p.phase).clients.names) (length p.watchers.items) p.watchers.items
    (mirrors_in p.phase)

client_at : (env : RunEnvironment) (p : RunState) (label : List ℕ) (node : List Component) (key : List ℕ)
    → LineIsChecked p (statement verb.Client (Text label ∷ Named node ∷ Octets key ∷ []))
    → ClientDeclares env p (statement verb.Client (Text label ∷ Named node ∷ Octets key ∷ [])) node key
client_at env p label node key c =
    let d = c.before in
    let keys = phase_keys p.phase in
    let both = client_declares d p.words label node key c.after in
    let may = both.0 in
    let was = c.stands.declared in
    let both_fit = client_fits c.line.octets label node key c.line.read in
    let unchanged = sym c.stands.events ∙ may.early in
    let same : length p.words.mirrors ≡ length d.mirrors =
    ap (λ (x : Declared). length x.mirrors) (sym both.1) in
    let new : NamesAreDeclared (labels_of p) (with_client_too node key keys)
    (record c.before { clients = c.before.clients ++ party label node ∷ [] }) = record {
      labels = was.named.labels;
      members = was.named.members;
      clients = map-append party_node d.clients (party label node ∷ [])
          ∙ ap (λ (xs : List (List Component)). xs ++ node ∷ []) was.named.clients;
    } in
    record {
      fits = record {
        node = both_fit.0;
        key = both_fit.1;
        apart = is_free d keys label node was.named.members was.named.clients may.apart;
      };
      early = record {
        group = ap (λ (x : Declared). x.group) (sym both.1) ∙ may.group;
        early = ap (λ (x : Declared). x.events) (sym both.1) ∙ may.early;
        there = sym c.stands.group ∙ may.group;
        unchanged = unchanged;
      };
      few = subst (λ n. n < 16) (sym (length-map d.clients party_node)
          ∙ ap (λ (xs : List (List Component)). length xs) was.named.clients) may.few;
      declared = record {
        named = subst (NamesAreDeclared (labels_of p) (with_client_too node key keys)) both.1 new;
        watched = was.watched ∙ ap (λ (x : Declared). length x.members) both.1;
        mirrored = was.mirrored ∙ sym same;
        few = omega (arith, same, was.few);
      };
      accepted = client_says env (state_of_run p) p.words label node key
          ∙ ap (λ (w : Option World). accepted [] (record {
            declared = p.words;
            keys = with_client_too node key keys;
            world = w;
            watchers = p.watchers.items;
            mirrors = mirrors_in p.phase;
          })) (no_world p.phase unchanged);
    }

pub client_declared : (env : RunEnvironment) (p : RunState) (s : Stated) (label : List ℕ) (node : List Component)
    (octets key : List ℕ) → s ≡ statement verb.Client (Text label ∷ Named node ∷ Octets octets ∷ [])
    → key ≡ octets → LineIsChecked p s → ClientDeclares env p s node key
client_declared env p s label node octets key is same c =
    let is_key : s ≡ statement verb.Client (Text label ∷ Named node ∷ Octets key ∷ []) =
    is ∙ ap (λ (k : List ℕ). statement verb.Client (Text label ∷ Named node ∷ Octets k ∷ [])) (sym same) in
    subst (λ (x : Stated). ClientDeclares env p x node key) (sym is_key)
    (client_at env p label node key (subst (LineIsChecked p) is_key c))

-- ---- events

-- An event declares nobody, so what is kept is still declared.
pub at_event : (p : RunState) (s : Stated) (c : LineIsChecked p s) → IsEvent c.before p.words s → IsAtEvent p
at_event p s c event =
    let was = c.stands.declared in
    let same : length p.words.mirrors ≡ length c.before.mirrors =
    ap (λ (ms : List (List ℕ)). length ms) event.mirrors in
    record {
      declared = record {
        named = record {
          labels = was.named.labels ∙ ap (map party_label) (sym event.members);
          members = ap (map party_node) event.members ∙ was.named.members;
          clients = ap (map party_node) event.clients ∙ was.named.clients;
        };
        watched = was.watched ∙ ap (λ (ps : List Party). length ps) (sym event.members);
        mirrored = was.mirrored ∙ sym same;
        few = omega (arith, same, was.few);
      };
      group = event.group;
      events = event.events;
      begun = sym c.stands.group ∙ event.there;
    }

pub record Acts (env : RunEnvironment) (p : RunState) (l : Line) : Type 0 where
  pub states : StatesEvent p.words l
  pub at : IsAtEvent p
  pub acts : line_taken env (state_of_run p) p.words (stated l)
      ≡ acted_by env (state_of_run p) p.words (stated l)

pub event_acts : (env : RunEnvironment) (p : RunState) (l : Line) → IsEventLine l → LineIsChecked p (stated l)
    → Acts env p l
event_acts env p l is c =
    let event = event_declares c.before p.words l is c.after in
    record {
      states = record {
        event = is;
        fit = record {
          fits = λ v accepted.
              let both = event_fits c.line.octets c.before p.words (stated l) v c.line.read c.after accepted in
              record { ready = both.0; clients = both.1 };
          known = event.known;
        };
      };
      at = at_event p (stated l) c event;
      acts = event_says env (state_of_run p) p.words l is;
    }

-- The number of labels is that of the members' names.
pub as_many : {X : Type 0} (f : X → List ℕ) (xs : List X) (keys : GroupKeys) (d : Declared)
    → NamesAreDeclared (map f xs) keys d
    → length xs ≡ length keys.members.names
as_many f xs keys d n =
    sym (length-map xs f) ∙ ap (λ (ls : List (List ℕ)). length ls) n.labels ∙ length-map d.members party_label
    ∙ sym (length-map d.members party_node) ∙ ap (λ (names : List (List Component)). length names) n.members

module _ (env : RunEnvironment) (phase found : Phase) (ws : List (List Watching)) (d : Declared) (e : EventValue)
    (old : GroupState) (is : found ≡ phase) (k : old.keys ≡ phase_keys found)
    (v : world_of old ≡ found_world env (state_of found ws d)) where
  keys : GroupKeys
  keys = phase_keys phase

  w : World
  w = found_world env (state_of phase ws d)

  keys_are : old.keys ≡ keys
  unfolding keys
  keys_are = k ∙ ap phase_keys is

  world_is : world_of old ≡ w
  unfolding w
  world_is = v ∙ ap (λ (s : Phase). found_world env (state_of s ws d)) is

  -- What is reported of the event and what comes of it, by the world that was found.
  pub carried_says : (labels : List (List ℕ)) (report : List ℕ) (new : GroupState) → HasStepped env e old new
      → report ≡ report_text labels (event_report old.keys (outside_of env old.keys) (world_of old) e)
      → labels ≡ map party_label d.members → map mirror_as old.mirrors ≡ mirrors_in found
      → acted env (state_of phase ws d) d e ≡ accepted report (state_of (Acting new) ws d)
  unfolding keys w
  carried_says labels report new step printed named stood =
      let taken_so : group.refusal (outside_of env keys) w (group_event keys e) ≡ None =
      subst (λ (x : World). group.refusal (outside_of env keys) x (group_event keys e) ≡ None) world_is
      (subst (λ (x : GroupKeys). group.refusal (outside_of env x) (world_of old) (group_event x e) ≡ None) keys_are
      step.taken) in
      let reported_so : report
      ≡ report_text (map party_label d.members) (event_report keys (outside_of env keys) w e) =
      printed ∙ (λ i. report_text (named i) (event_report (keys_are i) (outside_of env (keys_are i)) (world_is i)
      e)) in
      let after_so : world_of new ≡ after_event (outside_of env keys) w (group_event keys e) =
      step.world ∙ (λ i. after_event (outside_of env (keys_are i)) (world_is i) (group_event (keys_are i) e)) in
      let mirrors_so : map mirror_as new.mirrors ≡ mirrors_after (world_of new) e (mirrors_in phase) =
      step.mirrors ∙ ap (mirrors_after (world_of new) e) (stood ∙ ap mirrors_in is) in
      acted_says env (state_of phase ws d) d e taken_so
      ∙ (λ i. accepted (sym reported_so i) (record {
        declared = d;
        keys = keys;
        world = Some (sym after_so i);
        watchers = ws;
        mirrors = mirrors_after (sym after_so i) e (mirrors_in phase);
      }))
      ∙ (λ i. accepted report (record {
        declared = d;
        keys = sym (step.keys ∙ keys_are) i;
        world = Some (world_of new);
        watchers = ws;
        mirrors = sym mirrors_so i;
      }))

  pub carried_stops : (error : LineError)
      → IsLineErrorOf (group.refusal (outside_of env old.keys) (world_of old) (group_event old.keys e)) error
      → IsLineError (acted env (state_of phase ws d) d e) error
  unfolding keys w
  carried_stops error h = acted_stops env (state_of phase ws d) d e error
      (subst (λ (x : World). IsLineErrorOf (group.refusal (outside_of env keys) x (group_event keys e)) error) world_is
      (subst (λ (x : GroupKeys). IsLineErrorOf (group.refusal (outside_of env x) (world_of old) (group_event x e))
      error)
      keys_are h))

-- ---- what a call tells

-- The line is none of the declarations.
pub is_event : (l : Line) → ((name : Name) → l ≡ line.Group name → ⊥)
    → ((label : String Global) (name : Name) (key : Vec ℕ Global) → l ≡ line.Member label name key → ⊥)
    → ((label : String Global) (name : Name) (key : Vec ℕ Global) → l ≡ line.Client label name key → ⊥)
    → ((label : String Global) (p : Option (String Global)) (name : Name) → l ≡ line.Watch label p name → ⊥)
    → ((label : String Global) (number : ℕ) → l ≡ line.Told label number → ⊥)
    → ((label : String Global) (p : Option (String Global)) (name : Name) → l ≡ line.Mirror label p name → ⊥)
    → ((number : ℕ) (label : String Global) → l ≡ line.Mdeliver number label → ⊥)
    → ((label : String Global) (workers tries loss : ℕ) → l ≡ line.Mfetch label workers tries loss → ⊥)
    → ((label : String Global) → l ≡ line.Mcatalogue label → ⊥) → IsEventLine l
is_event (line.Group name) g m k w t i h f c = g name refl
is_event (line.Member label name key) g m k w t i h f c = m label name key refl
is_event (line.Client label name key) g m k w t i h f c = k label name key refl
is_event (line.Watch label p name) g m k w t i h f c = w label p name refl
is_event (line.Told label number) g m k w t i h f c = t label number refl
is_event (line.Mirror label p name) g m k w t i h f c = i label p name refl
is_event (line.Mdeliver number label) g m k w t i h f c = h number label refl
is_event (line.Mfetch label workers tries loss) g m k w t i h f c = f label workers tries loss refl
is_event (line.Mcatalogue label) g m k w t i h f c = c label refl
is_event l g m k w t i h f c = tt

-- A declaration has no report.
pub declared_says : {A : Type 0} (r : Result A LineError) (v : Verdict) (report : List ℕ) (s t : State)
    → v ≡ accepted [] t
    → report ≡ [] → OnOk r (s ≡ t) → OnOk r (v ≡ accepted report s)
declared_says (Ok x) v report s t h none is = h ∙ ap (λ (text : List ℕ). accepted text t) (sym none)
    ∙ ap (λ (u : State). accepted report u) (sym is)
declared_says (Err error) v report s t h none is = tt
