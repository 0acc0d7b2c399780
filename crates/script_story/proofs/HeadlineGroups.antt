-- The group after lines that are taken is sound: an event names members that are there, and members are declared only
-- before the first event.
use Rattle.std.proofs.Common.{◌≡◌, ◌∙◌, ℕ, ◌+◌, Bool, true, false, not, ◌||◌, nat_le, List, [], ◌∷◌, ◌++◌, length}
use Rattle.std.proofs.Common.{length-append, map, Option, Some, None, unwrap_or, Result, Ok, Err, refl, sym, ap, subst}
use Rattle.std.proofs.Common.{if◌then◌else◌}
use Rattle.std.specs.List.{IsDistinct, list_any}
use Rattle.std.specs.Str.{bytes_eq}
use Rattle.std.proofs.lemmas.Bool.{or_parts, true≢false}
use Rattle.std.proofs.lemmas.Cmp.{nat_list_eq_equiv}
use Rattle.std.proofs.lemmas.List.{length-map, length-set, map-append}
use Rattle.std.proofs.lemmas.Map.Keys.{IsDistinct-push}
use Rattle.ndn_name.specs.Names.{encoding}
use Rattle.group_model.specs.Events as group
use Rattle.group_model.specs.World.{Environment, World, initial_world}
use Rattle.group_model.specs.Steps.{after_event}
use Rattle.group_model.specs.Refusals as refusals
use Rattle.group_model.specs.Refusals.{NamesThose}
use Rattle.group_model.specs.Sound.{IsSoundGroup}
use Rattle.group_model.proofs.PublicLaws.{sound_initial, sound_after}
use Rattle.group_model.proofs.Lasting.{lasts}
use Rattle.sorted_lists.specs.Range.{numbers_from}
use Rattle.repo_process.proofs.ProcessLemmas.{length-numbers}
use Rattle.repo_member.specs.Groups.{no_nodes, with_node}
use Rattle.bench_world.specs.EventValues.{EventValue, group_event}
use Rattle.bench_world.specs.Worlds.{drawing}
use Rattle.bench_world.proofs.EventRuns.{named_ready}
use Rattle.script_lang.specs.declared.check_fault.CheckFault.{CheckFault}
use Rattle.script_lang.specs.declared.check_fault.CheckFault.TheVariants as check_fault
use Rattle.script_lang.specs.declared.verb.Verb.{Verb}
use Rattle.script_lang.specs.declared.verb.Verb.TheVariants as verb
use Rattle.script_lang.specs.Kinds.{Value, Text, Named, Octets}
use Rattle.script_lang.specs.Forms.{Stated, statement}
use Rattle.script_lang.specs.Lines.{line_of}
use Rattle.script_lang.specs.Limits.{members_limit}
use Rattle.script_lang.specs.Checking as checking
use Rattle.script_lang.specs.Checking.{Declared, Party, LineTotals, adds, after_by, after_group, after_line, are_known}
use Rattle.script_lang.specs.Checking.{are_within_limits, declared_then, is_party_among, is_there, party_label}
use Rattle.script_lang.specs.Checking.{may_declare, party, with_totals}
use Rattle.repo_watch.specs.Laws.{after_watch_call}
use Rattle.script_story.specs.Mirrors.{Mirroring, mirror_begins}
use Rattle.script_story.specs.StatedEvents.{pattern_for, publisher_number, stated_event}
use Rattle.script_story.specs.Evaluation.{RunEnvironment, State, acted_by, acted_if}
use Rattle.script_story.specs.Evaluation.{found_world, initial_state, outside_of, read, accepted}
use Rattle.script_story.specs.Evaluation.{taken_by, watchers_at, with_client, with_group, with_watchers}
use Rattle.script_story.specs.Evaluation.{declaring_member, declaring_mirror, mirrors_begin, mirrors_after}
use Rattle.script_story.specs.Evaluation.{with_member_too}
use Rattle.script_story.specs.Evaluation.{with_mirrors}
use Rattle.script_story.specs.ScriptRun.{Reached, nothing_reached}
use Rattle.script_story.specs.Headline.{LinesAreTaken, AreTakenFirst}
use Rattle.script_story.proofs.Fitting.{event_fits}
use Rattle.script_story.proofs.LinesTaken.{LineTaken, acted_stated, nothing}
use Rattle.script_story.proofs.LinesTaken.{stating, taken_line}
use Rattle.script_story.proofs.HeadlineTaken.{IsMirrored, IsWatched, fetched_so, heard_so, listed_so, many_after}
use Rattle.script_story.proofs.HeadlineTaken.{accepted_state, reported_so, watched_so}
use Rattle.script_story.proofs.Declarations.{mirror_declares}

-- ---- what holds behind lines

pub record IsSoundState (env : RunEnvironment) (s : State) : Type 0 where
  pub ungrouped : s.declared.group ≡ false → s.declared.members ≡ []
  pub uneventful : s.declared.group ≡ false → s.declared.events ≡ false
  pub begun : s.declared.events ≡ false → s.world ≡ None
  pub names : length s.keys.members.names ≡ length s.declared.members
  pub labels : IsDistinct bytes_eq (map party_label s.declared.members)
  pub sound : IsSoundGroup (found_world env s)
  pub many : length (found_world env s).members ≡ length s.declared.members
  pub watched : length s.watchers ≡ length s.declared.members
  pub mirrored : length s.mirrors ≡ length s.declared.mirrors

length_opening : (out : Environment) (n : ℕ) → length (initial_world out n).members ≡ n
length_opening out n = length-map (numbers_from 0 n) _ ∙ length-numbers 0 n

-- Before the first event the members have nothing.
record HasNoWorld (env : RunEnvironment) (s : State) : Type 0 where
  world : s.world ≡ None
  names : length s.keys.members.names ≡ length s.declared.members

pub opened : (env : RunEnvironment) (s : State) → s.world ≡ None
    → found_world env s ≡ initial_world (drawing env.draw) (length s.keys.members.names)
opened env s none =
    ap (λ (o : Option World). unwrap_or o (initial_world (drawing env.draw) (length s.keys.members.names))) none

sound_before : (env : RunEnvironment) (s : State) → HasNoWorld env s → IsSoundGroup (found_world env s)
sound_before env s h = subst IsSoundGroup (sym (opened env s h.world))
    (sound_initial (drawing env.draw) (length s.keys.members.names))

many_before : (env : RunEnvironment) (s : State) → HasNoWorld env s
    → length (found_world env s).members ≡ length s.declared.members
many_before env s h = ap (λ (w : World). length w.members) (opened env s h.world)
    ∙ length_opening (drawing env.draw) (length s.keys.members.names) ∙ h.names

none_twice : IsDistinct bytes_eq []
unfolding IsDistinct
none_twice = tt

pub sound_beginning : (env : RunEnvironment) → IsSoundState env initial_state
sound_beginning env = record {
  ungrouped = λ h. refl;
  uneventful = λ h. refl;
  begun = λ h. refl;
  names = refl;
  labels = none_twice;
  sound = sound_initial (drawing env.draw) 0;
  many = length_opening (drawing env.draw) 0;
  watched = refl;
  mirrored = refl;
}

-- ---- declarations

-- What a group line declares.
pub record DeclaresGroup (d e : Declared) : Type 0 where
  pub first : d.group ≡ false
  pub is : e ≡ record d { group = true }

ok_is : (a b : Declared) → (let x : Result Declared CheckFault = Ok a in x) ≡ Ok b → a ≡ b
ok_is a b h = cc

pub declares_group : (d e : Declared) → after_group d ≡ Ok e → DeclaresGroup d e
declares_group d e h = go d.group refl h where
  go : (b : Bool) → d.group ≡ b → (if b then Err check_fault.Duplicate else Ok (record d { group = true })) ≡ Ok e
      → DeclaresGroup d e
  go true is k = cc
  go false is k = record { first = is; is = sym (ok_is (record d { group = true }) e k) }

-- A party may be declared after the group's line, before the first event, under a label of its own.
pub record MayDeclare (d : Declared) (p : Party) : Type 0 where
  pub grouped : d.group ≡ true
  pub before : d.events ≡ false
  pub apart : is_there d p ≡ false

pub may : (d e after : Declared) (p : Party) (count : ℕ) → declared_then (may_declare d p count) after ≡ Ok e
    → MayDeclare d p × (e ≡ after)
may d e after p count h = go d.group d.events (is_there d p) (nat_le members_limit count) refl refl refl h where
  go : (group events there full : Bool) → d.group ≡ group → d.events ≡ events → is_there d p ≡ there
      → declared_then (if not group then Err check_fault.NoGroup
      else if events then Err check_fault.Late
      else if there then Err check_fault.Duplicate
      else if full then Err check_fault.Limit
      else Ok tt) after ≡ Ok e
      → MayDeclare d p × (e ≡ after)
  go false events there full a b c k = cc
  go true true there full a b c k = cc
  go true false true full a b c k = cc
  go true false false true a b c k = cc
  go true false false false a b c k = (record { grouped = a; before = b; apart = c }, cc)

-- No label is declared twice.
bytes_turned : (a b : List ℕ) → bytes_eq b a ≡ false → bytes_eq a b ≡ false
bytes_turned a b h = nat_list_eq_equiv.symm a b ∙ h

labelled_apart : (p : Party) (parties : List Party)
    → list_any (λ (q : Party). bytes_eq q.label p.label || bytes_eq (encoding q.node) (encoding p.node)) parties ≡ false
    → list_any (bytes_eq p.label) (map party_label parties) ≡ false
labelled_apart p [] h = refl
labelled_apart p (q ∷ qs) h =
    let all = or_parts (bytes_eq q.label p.label || bytes_eq (encoding q.node) (encoding p.node)) _ h in
    let one = or_parts (bytes_eq q.label p.label) _ all.0 in
    let turned : bytes_eq p.label q.label ≡ false = bytes_turned p.label q.label one.0 in
    rw turned (labelled_apart p qs all.1)

labels_more : (d : Declared) (p : Party) → is_there d p ≡ false → IsDistinct bytes_eq (map party_label d.members)
    → IsDistinct bytes_eq (map party_label (d.members ++ p ∷ []))
labels_more d p apart h =
    let parties = or_parts (is_party_among p d.members || is_party_among p d.clients) _ apart in
    let among = or_parts (is_party_among p d.members) (is_party_among p d.clients) parties.0 in
    subst (IsDistinct bytes_eq) (sym (map-append party_label d.members (p ∷ [])))
    (IsDistinct-push nat_list_eq_equiv (map party_label d.members) p.label h (labelled_apart p d.members among.0))

-- ---- one line

module _ (env : RunEnvironment) (s : State) (sound : IsSoundState env s) (d : Declared) (report : List ℕ)
    (new : State) where
  after_group_line : (values : List Value) → after_group s.declared ≡ Ok d → with_group s d values ≡ accepted report new
      → IsSoundState env new
  after_group_line (Named name ∷ []) after is =
      let declares = declares_group s.declared d after in
      let none : s.declared.members ≡ [] = sound.ungrouped declares.first in
      let early : s.declared.events ≡ false = sound.uneventful declares.first in
      let next : State = record {
        declared = record s.declared { group = true };
        keys = record { name = name; members = no_nodes; clients = no_nodes };
        world = s.world;
        watchers = s.watchers;
        mirrors = s.mirrors;
      } in
      let no : HasNoWorld env next = record { world = sound.begun early; names = sym (ap length none) } in
      let result : IsSoundState env next = record {
        ungrouped = λ h. cc;
        uneventful = λ h. cc;
        begun = sound.begun;
        names = sym (ap length none);
        labels = sound.labels;
        sound = sound_before env next no;
        many = many_before env next no;
        watched = sound.watched;
        mirrored = sound.mirrored;
      } in
      let same : new ≡ next =
      accepted_state report [] new _ is ∙ ap (λ (e : Declared). record next { declared = e }) declares.is in
      subst (IsSoundState env) (sym same) result
  after_group_line values after is = cc

  after_member_line : (stated : Stated) (values : List Value) → after_by s.declared stated verb.Member values ≡ Ok d
      → declaring_member s d values ≡ accepted report new → IsSoundState env new
  after_member_line stated (Text label ∷ Named node ∷ Octets key ∷ []) after is =
      let p : Party = party label node in
      let more : Declared = record s.declared { members = s.declared.members ++ p ∷ [] } in
      let m = may s.declared d more p (length s.declared.members) after in
      let next : State = record {
        declared = more;
        keys = record s.keys { members = with_node node key s.keys.members };
        world = s.world;
        watchers = s.watchers ++ [] ∷ [];
        mirrors = mirrors_begin (with_member_too node key s.keys) s.mirrors;
      } in
      let names : length (s.keys.members.names ++ node ∷ []) ≡ length (s.declared.members ++ p ∷ []) =
      length-append s.keys.members.names (node ∷ []) ∙ ap (λ n. n + 1) sound.names
      ∙ sym (length-append s.declared.members (p ∷ [])) in
      let no : HasNoWorld env next = record { world = sound.begun m.0.before; names = names } in
      let result : IsSoundState env next = record {
        ungrouped = λ h. absurd (true≢false (sym m.0.grouped ∙ h));
        uneventful = λ h. m.0.before;
        begun = sound.begun;
        names = names;
        labels = labels_more s.declared p m.0.apart sound.labels;
        sound = sound_before env next no;
        many = many_before env next no;
        watched = length-append s.watchers ([] ∷ []) ∙ ap (λ n. n + 1) sound.watched
            ∙ sym (length-append s.declared.members (p ∷ []));
        mirrored = length-map s.mirrors
            (λ m. mirror_begins (length (with_member_too node key s.keys).members.names) m.pattern) ∙ sound.mirrored;
      } in
      let same : new ≡ next = accepted_state report [] new _ is
      ∙ ap (λ (e : Declared). record next { declared = e }) m.1 in
      subst (IsSoundState env) (sym same) result
  after_member_line stated values after is = cc

  after_client_line : (stated : Stated) (values : List Value) → after_by s.declared stated verb.Client values ≡ Ok d
      → with_client s d values ≡ accepted report new → IsSoundState env new
  after_client_line stated (Text label ∷ Named node ∷ Octets key ∷ []) after is =
      let p : Party = party label node in
      let more : Declared = record s.declared { clients = s.declared.clients ++ p ∷ [] } in
      let m = may s.declared d more p (length s.declared.clients) after in
      let next : State = record {
        declared = more;
        keys = record s.keys { clients = with_node node key s.keys.clients };
        world = s.world;
        watchers = s.watchers;
        mirrors = s.mirrors;
      } in
      let no : HasNoWorld env next = record { world = sound.begun m.0.before; names = sound.names } in
      let result : IsSoundState env next = record {
        ungrouped = λ h. absurd (true≢false (sym m.0.grouped ∙ h));
        uneventful = λ h. m.0.before;
        begun = sound.begun;
        names = sound.names;
        labels = sound.labels;
        sound = sound_before env next no;
        many = many_before env next no;
        watched = sound.watched;
        mirrored = sound.mirrored;
      } in
      let same : new ≡ next = accepted_state report [] new _ is
      ∙ ap (λ (e : Declared). record next { declared = e }) m.1 in
      subst (IsSoundState env) (sym same) result
  after_client_line stated values after is = cc

  after_mirror_line : (values : List Value) → after_line s.declared (statement verb.Mirror values) ≡ Ok d
      → declaring_mirror s d values ≡ accepted report new → IsSoundState env new
  after_mirror_line (Text label ∷ publisher ∷ Named prefix ∷ []) after is =
      let both = mirror_declares s.declared d label publisher prefix after in
      let begun : Mirroring =
      mirror_begins (length s.keys.members.names) (pattern_for (publisher_number d publisher) prefix) in
      let next : State = record {
        declared = record s.declared { mirrors = s.declared.mirrors ++ label ∷ [] };
        keys = s.keys;
        world = s.world;
        watchers = s.watchers;
        mirrors = s.mirrors ++ begun ∷ [];
      } in
      let result : IsSoundState env next = record {
        ungrouped = sound.ungrouped;
        uneventful = sound.uneventful;
        begun = sound.begun;
        names = sound.names;
        labels = sound.labels;
        sound = sound.sound;
        many = sound.many;
        watched = sound.watched;
        mirrored = length-append s.mirrors (begun ∷ []) ∙ ap (λ (n : ℕ). n + 1) sound.mirrored
            ∙ sym (length-append s.declared.mirrors (label ∷ []));
      } in
      let same : new ≡ next =
      accepted_state report [] new _ is ∙ ap (λ (e : Declared). record next { declared = e }) (sym both.1) in
      subst (IsSoundState env) (sym same) result
  after_mirror_line values after is = cc

-- ---- events

-- What a line declares that states an event: labels are known, and there are events from now on.
pub record IsEventLine (d e : Declared) (stated : Stated) : Type 0 where
  pub grouped : d.group ≡ true
  pub known : are_known d stated ≡ true
  pub is : e ≡ record d { events = true; totals = with_totals d.totals (adds stated.verb stated.values) }

pub event_line : (d e : Declared) (stated : Stated) → checking.after_event d stated ≡ Ok e → IsEventLine d e stated
event_line d e stated h = go d.group (are_known d stated) (are_within_limits totals) refl refl h where
  totals : LineTotals
  totals = with_totals d.totals (adds stated.verb stated.values)

  go : (grouped known within : Bool) → d.group ≡ grouped → are_known d stated ≡ known
      → (if not grouped then Err check_fault.NoGroup else if not known then Err check_fault.UnknownLabel
      else if not within then Err check_fault.TooLarge
      else Ok (record d { events = true; totals = totals })) ≡ Ok e
      → IsEventLine d e stated
  go false known within a b k = cc
  go true false within a b k = cc
  go true true false a b k = cc
  go true true true a b k = record { grouped = a; known = b; is = cc }

module _ (env : RunEnvironment) (s : State) (sound : IsSoundState env s) (line : List ℕ) (stated : Stated)
    (d : Declared)
    (report : List ℕ) (new : State) (read_as : line_of line ≡ Ok (Some stated))
    (after : after_line s.declared stated ≡ Ok d) where
  after_event_line : checking.after_event s.declared stated ≡ Ok d
      → acted_if env s d (stated_event d stated) ≡ accepted report new → IsSoundState env new
  after_event_line taken is =
      let acts = acted_stated env s d stated report new (stated_event d stated) refl is in
      let e : EventValue = acts.0 in
      let out : Environment = outside_of env s.keys in
      let w : World = found_world env s in
      let event : group.Event = group_event s.keys e in
      let declares = event_line s.declared d stated taken in
      let members : d.members ≡ s.declared.members = ap (λ (x : Declared). x.members) declares.is in
      let grouped : d.group ≡ true = ap (λ (x : Declared). x.group) declares.is ∙ declares.grouped in
      let begun : d.events ≡ true = ap (λ (x : Declared). x.events) declares.is in
      let count : length d.members ≡ length s.declared.members = ap length members in
      let fits = event_fits line s.declared d stated e read_as after acts.1 in
      let named : NamesThose w event = named_ready (length d.members) w s.keys e (sound.many ∙ sym count) fits.0 in
      let ready : refusals.EventIsTaken out w event = record { named = named; taken = acts.2.taken } in
      let next : State = record {
        declared = d;
        keys = s.keys;
        world = Some (after_event out w event);
        watchers = s.watchers;
        mirrors = mirrors_after (after_event out w event) e s.mirrors;
      } in
      let result : IsSoundState env next = record {
        ungrouped = λ h. absurd (true≢false (sym grouped ∙ h));
        uneventful = λ h. absurd (true≢false (sym grouped ∙ h));
        begun = λ h. absurd (true≢false (sym begun ∙ h));
        names = sound.names ∙ sym count;
        labels = subst (λ (ps : List Party). IsDistinct bytes_eq (map party_label ps)) (sym members) sound.labels;
        sound = sound_after out w event ready sound.sound;
        many = (lasts out w event ready sound.sound).width ∙ sound.many ∙ sym count;
        watched = sound.watched ∙ sym count;
        mirrored = many_after (after_event out w event) e s.mirrors ∙ sound.mirrored
            ∙ ap (λ (x : Declared). length x.mirrors) (sym declares.is);
      } in
      subst (IsSoundState env) (sym acts.2.next) result

  after_watched_line : checking.after_event s.declared stated ≡ Ok d → IsWatched env s d new → IsSoundState env new
  after_watched_line taken watched =
      let declares = event_line s.declared d stated taken in
      let members : d.members ≡ s.declared.members = ap (λ (x : Declared). x.members) declares.is in
      let grouped : d.group ≡ true = ap (λ (x : Declared). x.group) declares.is ∙ declares.grouped in
      let begun : d.events ≡ true = ap (λ (x : Declared). x.events) declares.is in
      let count : length d.members ≡ length s.declared.members = ap length members in
      let result : IsSoundState env (with_watchers (found_world env s) s d watched.m
      (after_watch_call watched.call (watchers_at s watched.m))) = record {
        ungrouped = λ h. absurd (true≢false (sym grouped ∙ h));
        uneventful = λ h. absurd (true≢false (sym grouped ∙ h));
        begun = λ h. absurd (true≢false (sym begun ∙ h));
        names = sound.names ∙ sym count;
        labels = subst (λ (ps : List Party). IsDistinct bytes_eq (map party_label ps)) (sym members) sound.labels;
        sound = sound.sound;
        many = sound.many ∙ sym count;
        watched = length-set s.watchers watched.m (after_watch_call watched.call (watchers_at s watched.m))
            ∙ sound.watched ∙ sym count;
        mirrored = sound.mirrored ∙ ap (λ (x : Declared). length x.mirrors) (sym declares.is);
      } in
      subst (IsSoundState env) (sym watched.next) result

  after_mirrored_line : checking.after_event s.declared stated ≡ Ok d → IsMirrored env s d new
      → IsSoundState env new
  after_mirrored_line taken mirrored =
      let declares = event_line s.declared d stated taken in
      let members : d.members ≡ s.declared.members = ap (λ (x : Declared). x.members) declares.is in
      let grouped : d.group ≡ true = ap (λ (x : Declared). x.group) declares.is ∙ declares.grouped in
      let begun : d.events ≡ true = ap (λ (x : Declared). x.events) declares.is in
      let count : length d.members ≡ length s.declared.members = ap length members in
      let result : IsSoundState env (with_mirrors (found_world env s) s d mirrored.mirrors) = record {
        ungrouped = λ h. absurd (true≢false (sym grouped ∙ h));
        uneventful = λ h. absurd (true≢false (sym grouped ∙ h));
        begun = λ h. absurd (true≢false (sym begun ∙ h));
        names = sound.names ∙ sym count;
        labels = subst (λ (ps : List Party). IsDistinct bytes_eq (map party_label ps)) (sym members) sound.labels;
        sound = sound.sound;
        many = sound.many ∙ sym count;
        watched = sound.watched ∙ sym count;
        mirrored = mirrored.many ∙ sound.mirrored ∙ ap (λ (x : Declared). length x.mirrors) (sym declares.is);
      } in
      subst (IsSoundState env) (sym mirrored.next) result

  after_stated : (form : Verb) → after_by s.declared stated form stated.values ≡ Ok d
      → taken_by form env s d stated ≡ accepted report new → IsSoundState env new
  unfolding acted_by
  after_stated verb.Group k is = after_group_line env s sound d report new stated.values k is
  after_stated verb.Member k is = after_member_line env s sound d report new stated stated.values k is
  after_stated verb.Client k is = after_client_line env s sound d report new stated stated.values k is
  after_stated verb.Mirror k is = after_mirror_line env s sound d report new stated.values k is
  after_stated verb.Watch k is = after_watched_line k (watched_so env s d stated.values report new is)
  after_stated verb.Told k is = after_watched_line k (reported_so env s d stated.values report new is)
  after_stated verb.Mdeliver k is = after_mirrored_line k (heard_so env s d stated.values report new is)
  after_stated verb.Mfetch k is = after_mirrored_line k (fetched_so env s d stated.values report new is)
  after_stated verb.Mcatalogue k is = after_mirrored_line k (listed_so env s d stated.values report new is)
  after_stated form k is = after_event_line k is

-- ---- lines

pub sound_line : (env : RunEnvironment) (s : State) (line report : List ℕ) (new : State)
    → LineTaken env s line report new
    → IsSoundState env s → IsSoundState env new
sound_line env s line report new (nothing read same) sound = subst (IsSoundState env) (sym same) sound
sound_line env s line report new (stating stated d read after is) sound =
    after_stated env s sound line stated d report new read after stated.verb after is

pub sound_lines : (env : RunEnvironment) (r : Reached) (lines reports : List (List ℕ)) (last : Reached)
    → LinesAreTaken env r lines reports last → IsSoundState env r.state → IsSoundState env last.state
sound_lines env r [] [] last taken sound = subst (λ (x : Reached). IsSoundState env x.state) (sym taken) sound
sound_lines env r [] (report ∷ reports) last taken sound = absurd taken
sound_lines env r (line ∷ lines) [] last taken sound = absurd taken
sound_lines env r (line ∷ lines) (report ∷ reports) last taken sound =
    let next : Reached = taken.0 in
    sound_lines env next lines reports last taken.2
    (sound_line env r.state line report next.state (taken_line env r line report next taken.1) sound)

pub sound_from_start : (env : RunEnvironment) (lines reports : List (List ℕ)) (r : Reached)
    → AreTakenFirst env lines reports r → IsSoundState env r.state
sound_from_start env lines reports r taken =
    sound_lines env nothing_reached lines reports r taken (sound_beginning env)
