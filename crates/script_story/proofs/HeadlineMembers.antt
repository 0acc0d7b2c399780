-- The members and clients of a script are those of a group, and what is published in it is within the limits.
use Rattle.std.proofs.Common.{◌≡◌, ◌∙◌, ℕ, zero, suc, ◌+◌, ◌-◌, ◌<◌, ◌≤◌, true, false, List, [], ◌∷◌, ◌++◌, length, map}
use Rattle.std.proofs.Common.{◌||◌, replicate, Option, Some, None, Ok, refl, sym, ap, subst, arith}
use Rattle.std.specs.List.{list_any}
use Rattle.std.specs.Option.{IfSome}
use Rattle.std.proofs.lemmas.Bool.{or_parts, true≢false}
use Rattle.std.proofs.lemmas.List.{length-map, map-append}
use Rattle.std.proofs.lemmas.List.Elements.{All-nil}
use Rattle.ndn_name.specs.Names.{Component, IsName, encoding}
use Rattle.ndn_name.specs.UriText.{is_digest}
use Rattle.ndn_name.specs.UriVerdict.{HasUri}
use Rattle.sorted_lists.specs.Range.{numbers_from}
use Rattle.repo_object.proofs.CutLemmas.{cut_pieces}
use Rattle.repo_process.proofs.ProcessLemmas.{length-numbers}
use Rattle.group_model.specs.Events as group
use Rattle.group_model.specs.Member.{Member}
use Rattle.group_model.specs.World.{Environment, World, logs_of}
use Rattle.group_model.specs.Steps.{after_event}
use Rattle.group_model.specs.Refusals as refusals
use Rattle.group_model.specs.Refusals.{NamesThose}
use Rattle.repo_member.specs.Groups.{GroupKeys, HaveKeys, IsGroup, IsPlainNodeName}
use Rattle.repo_member.specs.InGroup.{AreLogs}
use Rattle.repo_member.specs.Blocks.{AreWithinLimits}
use Rattle.repo_member.proofs.PublicLaws.{logs_begin, none_have_keys, same_name}
use Rattle.script_lang.specs.declared.verb.Verb.{Verb}
use Rattle.script_lang.specs.declared.verb.Verb.TheVariants as verb
use Rattle.script_lang.specs.Kinds.{Value, Text, Number, Named, Octets}
use Rattle.script_lang.specs.Forms.{Stated, form, statement}
use Rattle.script_lang.specs.Lines.{line_of}
use Rattle.script_lang.specs.Texts.{AreOf, IsLineText}
use Rattle.script_lang.specs.Checking as checking
use Rattle.script_lang.specs.Checking.{Declared, after_group, after_line, is_party_among, is_there, party, party_node}
use Rattle.script_lang.specs.Checking.{party_label}
use Rattle.script_lang.proofs.LineTexts.{line_texts}
use Rattle.script_lang.proofs.Parties.{nobody_has}
use Rattle.bench_world.specs.EventValues.{EventValue, group_event}
use Rattle.bench_world.specs.Steps.{EventInRange}
use Rattle.bench_world.proofs.EventRuns.{named_ready}
use Rattle.repo_watch.specs.Laws.{after_watch_call}
use Rattle.script_story.specs.Mirrors.{mirror_begins}
use Rattle.script_story.specs.StatedEvents.{pattern_for, publisher_number, stated_by, stated_event}
use Rattle.script_story.specs.Evaluation.{RunEnvironment, State, acted_by, acted_if, found_world, group_named}
use Rattle.script_story.specs.Evaluation.{initial_state}
use Rattle.script_story.specs.Evaluation.{outside_of, accepted, taken_by, with_client, with_client_too, with_group}
use Rattle.script_story.specs.Evaluation.{declaring_member, declaring_mirror, mirrors_begin, mirrors_after, watchers_at}
use Rattle.script_story.specs.Evaluation.{with_member_too, with_mirrors, with_watchers}
use Rattle.script_story.specs.ScriptRun.{Reached, nothing_reached}
use Rattle.script_story.specs.Headline.{LinesAreTaken, AreTakenFirst, ReachSoundGroups}
use Rattle.script_story.proofs.ReadNames.{read_name_valid}
use Rattle.script_story.proofs.Fitting.{AreWritten, client_fits, event_fits, group_fits, member_fits, written}
use Rattle.script_story.proofs.DeclaredGroups.{AreApart, AreOthers, apart_client, apart_member, differ, one_has_too}
use Rattle.script_story.proofs.Declarations.{client_declares, member_declares, mirror_declares}
use Rattle.script_story.proofs.HeadlineTaken.{IsMirrored, IsWatched, fetched_so, heard_so, listed_so, accepted_state}
use Rattle.script_story.proofs.HeadlineTaken.{reported_so}
use Rattle.script_story.proofs.HeadlineTaken.{watched_so}
use Rattle.script_story.proofs.HeadlineGroups.{IsSoundState, declares_group, event_line}
use Rattle.script_story.proofs.HeadlineGroups.{opened, sound_beginning, sound_from_start, sound_line}
use Rattle.script_story.proofs.LinesTaken.{LineTaken, acted_stated, nothing, stating, taken_line}
use Rattle.script_story.proofs.HeadlineLimits.{AllWithin, BringsWithin, IsLimited, limited_after}
use Rattle.svs_vector.specs.Rosters.{has_same_octets}

-- ---- what lines bring

-- The names that an event brings can be written.
abbrev NamesAreValid : EventValue → Type 0
NamesAreValid (EventValue.Publish m name size content) = IsName name
NamesAreValid (EventValue.Insert m client name first last) = IsName name
NamesAreValid _ = Unit {0}

object_name : (name : List Component) (text : List ℕ) → HasUri name text
    → (list_any is_digest name ≡ false) × (1 ≤ length (encoding name)) × (length (encoding name) ≤ 400) → IsName name
object_name name text read h = read_name_valid name text read h.0 (omega (arith, h.2))

valid_by : (form_verb : Verb) (d : Declared) (values : List Value) → AreWritten (form form_verb).kinds values
    → AreOf (form form_verb).kinds values → IfSome (stated_by form_verb d values) NamesAreValid
valid_by verb.Publish d (Text m ∷ Named name ∷ Number size ∷ Octets content ∷ []) words of =
    object_name name words.1.0.0 words.1.0.1 of.1.0
valid_by verb.Insert d (Text m ∷ Text client ∷ Named name ∷ Number first ∷ Number last ∷ []) words of =
    object_name name words.1.1.0.0 words.1.1.0.1 of.1.1.0
valid_by verb.Withdraw d (Text m ∷ Number s ∷ []) words of = tt
valid_by verb.Deliver d (Number k ∷ Text m ∷ []) words of = tt
valid_by verb.Sync d (Number k ∷ []) words of = tt
valid_by verb.Advance d (Number ms ∷ []) words of = tt
valid_by verb.Fire d (Text m ∷ []) words of = tt
valid_by verb.Restart d (Text m ∷ []) words of = tt
valid_by verb.Vector d (Text m ∷ []) words of = tt
valid_by verb.Catalogue d (Text m ∷ []) words of = tt
valid_by verb.Claim d (Text m ∷ Number f ∷ []) words of = tt
valid_by verb.Lose d (Text m ∷ Number f ∷ []) words of = tt
valid_by verb.Answer d (Text m ∷ Number f ∷ Text q ∷ []) words of = tt
valid_by verb.Fetch d (Text m ∷ Number workers ∷ Number tries ∷ Number loss ∷ []) words of = tt
valid_by verb.Settle d (Number workers ∷ []) words of = tt
valid_by verb.Dump d (Text m ∷ Text p ∷ Number s ∷ Number x ∷ []) words of = tt
valid_by verb.Hear d (Text m ∷ Octets octets ∷ []) words of = tt
valid_by verb.Order d (Text m ∷ Octets octets ∷ []) words of = tt
valid_by verb.Ask d (Text m ∷ Octets octets ∷ []) words of = tt
valid_by verb.Feed d (Text m ∷ Number f ∷ Octets octets ∷ []) words of = tt
valid_by verb.Block d (Text m ∷ Number process ∷ Number index ∷ Octets content ∷ []) words of = tt
valid_by verb.Status d (Text m ∷ Text client ∷ Number process ∷ []) words of = tt
valid_by verb.Delete d (Text m ∷ Text client ∷ Named name ∷ []) words of = tt
valid_by verb.Summary d [] words of = tt
valid_by verb.Traffic d [] words of = tt
valid_by form_verb d values words of = tt

valid_some : (o : Option EventValue) (e : EventValue) → o ≡ Some e → IfSome o NamesAreValid → NamesAreValid e
valid_some o e is h = let P : Option EventValue → Type 0 = λ x. IfSome x NamesAreValid in subst P is h

valid_event : (octets : List ℕ) (d : Declared) (s : Stated) (e : EventValue) → line_of octets ≡ Ok (Some s)
    → stated_event d s ≡ Some e → NamesAreValid e
valid_event octets d s e read says_it =
    let text : IsLineText s octets = (line_texts s octets).0 read in
    valid_some (stated_event d s) e says_it
    (valid_by s.verb d s.values (written (form s.verb).kinds s.values text.words text.texts) text.ranges)

brings_within : (g : GroupKeys) (n : ℕ) (e : EventValue) → EventInRange n e → NamesAreValid e
    → BringsWithin (group_event g e)
brings_within g n (EventValue.Publish m name size content) ready valid = record {
  name = valid;
  named = ready.1;
  few = ready.4;
  contents = λ k d inside.
      let piece = (cut_pieces size content (omega (arith, ready.2))).none_is_empty k d inside in
      (piece.0, omega (arith, piece.1, ready.3));
}
brings_within g n (EventValue.Insert m client name first last) ready valid = record {
  name = valid;
  named = ready.1;
  few = omega (arith, length-numbers first (last + 1 - first), ready.2, ready.3);
  contents = λ index content found. absurd cc;
}
brings_within g n (EventValue.Block m process index content) ready valid = ready.1
brings_within g n e ready valid = tt

-- ---- what is kept

-- Keys of a group, whose members and clients are no two of one name.
pub record AreGroupKeys (g : GroupKeys) : Type 0 where
  pub name : IsPlainNodeName g.name
  pub members : HaveKeys g.members
  pub clients : HaveKeys g.clients
  pub apart : AreApart g.members g.clients

group_of : (g : GroupKeys) → AreGroupKeys g → IsGroup g
group_of g are =
    record {
      name = are.name;
      members = are.members;
      clients = are.clients;
      apart = differ g.members g.clients are.apart;
    }

-- Nobody has the name of a party that may be declared.
record IsNew (g : GroupKeys) (node : List Component) : Type 0 where
  member : AreOthers node g.members.names
  client : AreOthers node g.clients.names

new_name : (d : Declared) (g : GroupKeys) (label : List ℕ) (node : List Component)
    → map party_node d.members ≡ g.members.names → map party_node d.clients ≡ g.clients.names
    → is_there d (party label node) ≡ false → IsNew g node
new_name d g label node members clients apart =
    let parties =
    or_parts (is_party_among (party label node) d.members || is_party_among (party label node) d.clients) _ apart in
    let both =
    or_parts (is_party_among (party label node) d.members) (is_party_among (party label node) d.clients) parties.0 in
    record {
      member = subst (AreOthers node) members
          (nobody_has (has_same_octets node) label node d.members (same_name.symm node) both.0);
      client = subst (AreOthers node) clients
          (nobody_has (has_same_octets node) label node d.clients (same_name.symm node) both.1);
    }

-- The names are those that lines declare, after the group's line there is a group, and what is published is within
-- its limits.
pub record IsKept (env : RunEnvironment) (s : State) : Type 0 where
  pub ungrouped : s.declared.group ≡ false → s.declared.clients ≡ []
  pub members : map party_node s.declared.members ≡ s.keys.members.names
  pub clients : map party_node s.declared.clients ≡ s.keys.clients.names
  pub group : s.declared.group ≡ true → AreGroupKeys s.keys
  pub limited : s.declared.group ≡ true → IsLimited s.keys (found_world env s)

kept_beginning : (env : RunEnvironment) → IsKept env initial_state
kept_beginning env = record {
  ungrouped = λ h. refl;
  members = refl;
  clients = refl;
  group = λ h. cc;
  limited = λ h. cc;
}

opening_logs : (f : ℕ → Member) (k n : ℕ) → ((x : ℕ) → (f x).log ≡ [])
    → logs_of (map f (numbers_from k n)) ≡ replicate n []
opening_logs f k zero empty = refl
opening_logs f k (suc n) empty = λ i. empty k i ∷ opening_logs f (k + 1) n empty i

opening_insertions : (f : ℕ → Member) (xs : List ℕ) → ((x : ℕ) → AreWithinLimits (f x).processes)
    → AllWithin (map f xs)
opening_insertions f [] each j = λ number p found. absurd cc
opening_insertions f (x ∷ xs) each zero = each x
opening_insertions f (x ∷ xs) each (suc j) = opening_insertions f xs each j

-- Before the first event nothing is published.
limited_before : (env : RunEnvironment) (s : State) → s.world ≡ None → IsGroup s.keys
    → IsLimited s.keys (found_world env s)
limited_before env s none is =
    let n : ℕ = length s.keys.members.names in
    subst (IsLimited s.keys) (sym (opened env s none)) (record {
      are = subst (AreLogs s.keys) (sym (opening_logs _ 0 n (λ x. refl))) (logs_begin s.keys is);
      insertions = opening_insertions _ (numbers_from 0 n) (λ x number p found. absurd cc);
      issued = λ k d inside. absurd (omega (arith, inside));
    })

-- ---- declarations

module _ (env : RunEnvironment) (s : State) (sound : IsSoundState env s) (kept : IsKept env s) (octets : List ℕ)
    (d : Declared) (report : List ℕ) (new : State) where
  kept_group : (values : List Value) → line_of octets ≡ Ok (Some (statement verb.Group values))
      → after_group s.declared ≡ Ok d → with_group s d values ≡ accepted report new → IsKept env new
  kept_group (Named name ∷ []) read after is =
      let declares = declares_group s.declared d after in
      let next : State = record {
        declared = record s.declared { group = true };
        keys = group_named name;
        world = s.world;
        watchers = s.watchers;
        mirrors = s.mirrors;
      } in
      let grouped : AreGroupKeys (group_named name) = record {
        name = group_fits octets name read;
        members = none_have_keys;
        clients = none_have_keys;
        apart = All-nil (λ node. AreOthers node []);
      } in
      let result : IsKept env next = record {
        ungrouped = λ h. absurd (true≢false h);
        members = ap (map party_node) (sound.ungrouped declares.first);
        clients = ap (map party_node) (kept.ungrouped declares.first);
        group = λ h. grouped;
        limited = λ h. limited_before env next (sound.begun (sound.uneventful declares.first))
            (group_of (group_named name) grouped);
      } in
      let same : new ≡ next =
      accepted_state report [] new _ is ∙ ap (λ (e : Declared). record next { declared = e }) declares.is in
      subst (IsKept env) (sym same) result
  kept_group values read after is = cc

  kept_member : (values : List Value) → line_of octets ≡ Ok (Some (statement verb.Member values))
      → after_line s.declared (statement verb.Member values) ≡ Ok d → declaring_member s d values ≡ accepted report new
      → IsKept env new
  kept_member (Text label ∷ Named node ∷ Octets key ∷ []) read after is =
      let m = member_declares s.declared d label node key after in
      let fits = member_fits octets label node key read in
      let group : AreGroupKeys s.keys = kept.group m.0.group in
      let free : IsNew s.keys node = new_name s.declared s.keys label node kept.members kept.clients m.0.apart in
      let few : length s.keys.members.names < 16 = omega (arith, m.0.few, sound.names) in
      let next : State = record {
        declared = record s.declared { members = s.declared.members ++ party label node ∷ [] };
        keys = with_member_too node key s.keys;
        world = s.world;
        watchers = s.watchers ++ [] ∷ [];
        mirrors = mirrors_begin (with_member_too node key s.keys) s.mirrors;
      } in
      let grouped : AreGroupKeys (with_member_too node key s.keys) = record {
        name = group.name;
        members = one_has_too s.keys.members node key group.members fits.0 fits.1 free.member few;
        clients = group.clients;
        apart = apart_member s.keys.members s.keys.clients node key group.apart free.client;
      } in
      let result : IsKept env next = record {
        ungrouped = λ h. absurd (true≢false (sym m.0.group ∙ h));
        members = map-append party_node s.declared.members (party label node ∷ [])
            ∙ ap (λ (xs : List (List Component)). xs ++ node ∷ []) kept.members;
        clients = kept.clients;
        group = λ h. grouped;
        limited = λ h. limited_before env next (sound.begun m.0.early)
            (group_of (with_member_too node key s.keys) grouped);
      } in
      let same : new ≡ next =
      accepted_state report [] new _ is ∙ ap (λ (e : Declared). record next { declared = e }) (sym m.1) in
      subst (IsKept env) (sym same) result
  kept_member values read after is = cc

  kept_client : (values : List Value) → line_of octets ≡ Ok (Some (statement verb.Client values))
      → after_line s.declared (statement verb.Client values) ≡ Ok d → with_client s d values ≡ accepted report new
      → IsKept env new
  kept_client (Text label ∷ Named node ∷ Octets key ∷ []) read after is =
      let m = client_declares s.declared d label node key after in
      let fits = client_fits octets label node key read in
      let group : AreGroupKeys s.keys = kept.group m.0.group in
      let free : IsNew s.keys node = new_name s.declared s.keys label node kept.members kept.clients m.0.apart in
      let count : length (map party_node s.declared.clients) ≡ length s.declared.clients =
      length-map s.declared.clients party_node in
      let few : length s.keys.clients.names < 16 =
      subst (λ (xs : List (List Component)). length xs < 16) kept.clients (omega (arith, m.0.few, count)) in
      let next : State = record {
        declared = record s.declared { clients = s.declared.clients ++ party label node ∷ [] };
        keys = with_client_too node key s.keys;
        world = s.world;
        watchers = s.watchers;
        mirrors = s.mirrors;
      } in
      let grouped : AreGroupKeys (with_client_too node key s.keys) = record {
        name = group.name;
        members = group.members;
        clients = one_has_too s.keys.clients node key group.clients fits.0 fits.1 free.client few;
        apart = apart_client s.keys.members s.keys.clients node key group.apart free.member;
      } in
      let result : IsKept env next = record {
        ungrouped = λ h. absurd (true≢false (sym m.0.group ∙ h));
        members = kept.members;
        clients = map-append party_node s.declared.clients (party label node ∷ [])
            ∙ ap (λ (xs : List (List Component)). xs ++ node ∷ []) kept.clients;
        group = λ h. grouped;
        limited = λ h. limited_before env next (sound.begun m.0.early)
            (group_of (with_client_too node key s.keys) grouped);
      } in
      let same : new ≡ next =
      accepted_state report [] new _ is ∙ ap (λ (e : Declared). record next { declared = e }) (sym m.1) in
      subst (IsKept env) (sym same) result
  kept_client values read after is = cc

  kept_mirror : (values : List Value) → after_line s.declared (statement verb.Mirror values) ≡ Ok d
      → declaring_mirror s d values ≡ accepted report new → IsKept env new
  kept_mirror (Text label ∷ publisher ∷ Named prefix ∷ []) after is =
      let both = mirror_declares s.declared d label publisher prefix after in
      let next : State = record {
        declared = record s.declared { mirrors = s.declared.mirrors ++ label ∷ [] };
        keys = s.keys;
        world = s.world;
        watchers = s.watchers;
        mirrors = s.mirrors
            ++ mirror_begins (length s.keys.members.names) (pattern_for (publisher_number d publisher) prefix) ∷ [];
      } in
      let result : IsKept env next = record {
        ungrouped = kept.ungrouped;
        members = kept.members;
        clients = kept.clients;
        group = kept.group;
        limited = kept.limited;
      } in
      let same : new ≡ next =
      accepted_state report [] new _ is ∙ ap (λ (e : Declared). record next { declared = e }) (sym both.1) in
      subst (IsKept env) (sym same) result
  kept_mirror values after is = cc

  -- ---- events

  kept_event : (stated : Stated) → line_of octets ≡ Ok (Some stated) → after_line s.declared stated ≡ Ok d
      → checking.after_event s.declared stated ≡ Ok d
      → acted_if env s d (stated_event d stated) ≡ accepted report new → IsKept env new
  kept_event stated read after taken is =
      let acts = acted_stated env s d stated report new (stated_event d stated) refl is in
      let e : EventValue = acts.0 in
      let out : Environment = outside_of env s.keys in
      let w : World = found_world env s in
      let event : group.Event = group_event s.keys e in
      let declares = event_line s.declared d stated taken in
      let members : d.members ≡ s.declared.members = ap (λ (x : Declared). x.members) declares.is in
      let clients : d.clients ≡ s.declared.clients = ap (λ (x : Declared). x.clients) declares.is in
      let grouped : d.group ≡ true = ap (λ (x : Declared). x.group) declares.is ∙ declares.grouped in
      let count : length d.members ≡ length s.declared.members = ap length members in
      let fits = event_fits octets s.declared d stated e read after acts.1 in
      let named : NamesThose w event = named_ready (length d.members) w s.keys e (sound.many ∙ sym count) fits.0 in
      let ready : refusals.EventIsTaken out w event = record { named = named; taken = acts.2.taken } in
      let brings : BringsWithin event =
      brings_within s.keys (length d.members) e fits.0 (valid_event octets d stated e read acts.1) in
      let next : State = record {
        declared = d;
        keys = s.keys;
        world = Some (after_event out w event);
        watchers = s.watchers;
        mirrors = mirrors_after (after_event out w event) e s.mirrors;
      } in
      let result : IsKept env next = record {
        ungrouped = λ h. absurd (true≢false (sym grouped ∙ h));
        members = ap (map party_node) members ∙ kept.members;
        clients = ap (map party_node) clients ∙ kept.clients;
        group = λ h. kept.group declares.grouped;
        limited = λ h. limited_after s.keys out w event brings ready (kept.limited declares.grouped);
      } in
      subst (IsKept env) (sym acts.2.next) result

  kept_watched : (stated : Stated) → checking.after_event s.declared stated ≡ Ok d → IsWatched env s d new
      → IsKept env new
  kept_watched stated taken watched =
      let declares = event_line s.declared d stated taken in
      let members : d.members ≡ s.declared.members = ap (λ (x : Declared). x.members) declares.is in
      let clients : d.clients ≡ s.declared.clients = ap (λ (x : Declared). x.clients) declares.is in
      let grouped : d.group ≡ true = ap (λ (x : Declared). x.group) declares.is ∙ declares.grouped in
      let result : IsKept env (with_watchers (found_world env s) s d watched.m
      (after_watch_call watched.call (watchers_at s watched.m))) = record {
        ungrouped = λ h. absurd (true≢false (sym grouped ∙ h));
        members = ap (map party_node) members ∙ kept.members;
        clients = ap (map party_node) clients ∙ kept.clients;
        group = λ h. kept.group declares.grouped;
        limited = λ h. kept.limited declares.grouped;
      } in
      subst (IsKept env) (sym watched.next) result

  kept_mirrored : (stated : Stated) → checking.after_event s.declared stated ≡ Ok d → IsMirrored env s d new
      → IsKept env new
  kept_mirrored stated taken mirrored =
      let declares = event_line s.declared d stated taken in
      let members : d.members ≡ s.declared.members = ap (λ (x : Declared). x.members) declares.is in
      let clients : d.clients ≡ s.declared.clients = ap (λ (x : Declared). x.clients) declares.is in
      let grouped : d.group ≡ true = ap (λ (x : Declared). x.group) declares.is ∙ declares.grouped in
      let result : IsKept env (with_mirrors (found_world env s) s d mirrored.mirrors) = record {
        ungrouped = λ h. absurd (true≢false (sym grouped ∙ h));
        members = ap (map party_node) members ∙ kept.members;
        clients = ap (map party_node) clients ∙ kept.clients;
        group = λ h. kept.group declares.grouped;
        limited = λ h. kept.limited declares.grouped;
      } in
      subst (IsKept env) (sym mirrored.next) result

  kept_stated : (form_verb : Verb) (values : List Value) → line_of octets ≡ Ok (Some (statement form_verb values))
      → after_line s.declared (statement form_verb values) ≡ Ok d
      → taken_by form_verb env s d (statement form_verb values) ≡ accepted report new → IsKept env new
  unfolding acted_by
  kept_stated verb.Group values read after is = kept_group values read after is
  kept_stated verb.Member values read after is = kept_member values read after is
  kept_stated verb.Client values read after is = kept_client values read after is
  kept_stated verb.Mirror values read after is = kept_mirror values after is
  kept_stated verb.Watch values read after is =
      kept_watched (statement verb.Watch values) after (watched_so env s d values report new is)
  kept_stated verb.Told values read after is =
      kept_watched (statement verb.Told values) after (reported_so env s d values report new is)
  kept_stated verb.Mdeliver values read after is =
      kept_mirrored (statement verb.Mdeliver values) after (heard_so env s d values report new is)
  kept_stated verb.Mfetch values read after is =
      kept_mirrored (statement verb.Mfetch values) after (fetched_so env s d values report new is)
  kept_stated verb.Mcatalogue values read after is =
      kept_mirrored (statement verb.Mcatalogue values) after (listed_so env s d values report new is)
  kept_stated form_verb values read after is = kept_event (statement form_verb values) read after after is

-- ---- lines

kept_line : (env : RunEnvironment) (s : State) (line report : List ℕ) (new : State) → LineTaken env s line report new
    → IsSoundState env s → IsKept env s → IsKept env new
kept_line env s line report new (nothing read same) sound kept = subst (IsKept env) (sym same) kept
kept_line env s line report new (stating stated d read after is) sound kept =
    kept_stated env s sound kept line d report new stated.verb stated.values read after is

kept_lines : (env : RunEnvironment) (r : Reached) (lines reports : List (List ℕ)) (last : Reached)
    → LinesAreTaken env r lines reports last → IsSoundState env r.state → IsKept env r.state
    → IsKept env last.state
kept_lines env r [] [] last taken sound kept = subst (λ (x : Reached). IsKept env x.state) (sym taken) kept
kept_lines env r [] (report ∷ reports) last taken sound kept = absurd taken
kept_lines env r (line ∷ lines) [] last taken sound kept = absurd taken
kept_lines env r (line ∷ lines) (report ∷ reports) last taken sound kept =
    let next : Reached = taken.0 in
    let it = taken_line env r line report next taken.1 in
    kept_lines env next lines reports last taken.2 (sound_line env r.state line report next.state it sound)
    (kept_line env r.state line report next.state it sound kept)

pub kept_from_start : (env : RunEnvironment) (lines reports : List (List ℕ)) (r : Reached)
    → AreTakenFirst env lines reports r
    → IsKept env r.state
kept_from_start env lines reports r taken =
    kept_lines env nothing_reached lines reports r taken (sound_beginning env) (kept_beginning env)

pub reach_sound : ReachSoundGroups
reach_sound env lines reports r taken =
    let s : IsSoundState env r.state = sound_from_start env lines reports r taken in
    let count : length (map party_label r.state.declared.members) ≡ length r.state.declared.members =
    length-map r.state.declared.members party_label in
    record {
      sound = s.sound;
      members = s.many ∙ sym count;
      names = s.names ∙ sym count;
      labels = s.labels;
      published = λ is. ((kept_from_start env lines reports r taken).limited is).are;
    }
