-- The report of a line that is taken names only members that lines declared.
use Rattle.std.proofs.Common.{◌≡◌, ◌∙◌, ℕ, ◌+◌, ◌<◌, Bool, true, false, nat_le, List, [], ◌∷◌, length, map}
use Rattle.std.proofs.Common.{filter, Option, Some, None, Result, Ok, Err, refl, sym, ap, subst, arith, if◌then◌else◌}
use Rattle.std.specs.Prelude.{is_some}
use Rattle.std.specs.List.{All}
use Rattle.std.proofs.lemmas.List.{length-map}
use Rattle.std.proofs.lemmas.List.Elements.{All-filter, All-nil}
use Rattle.repo_catalog.specs.declared.entry.Entry.{Entry}
use Rattle.repo_catalog.specs.Entries.{publication_of}
use Rattle.repo_watch.specs.Watching.{Watching, after_add, after_take, is_news, news_of, watch_of}
use Rattle.sorted_lists.proofs.Sets.{In, from_map}
use Rattle.sorted_lists.proofs.Members.{in_filtered}
use Rattle.group_model.specs.Publications.{Publication, published, published_entry}
use Rattle.group_model.specs.World.{Environment, World, catalogue_at, logs}
use Rattle.group_model.specs.Refusals as group
use Rattle.group_model.proofs.Parts.{in_published, in_range}
use Rattle.bench_world.specs.EventValues.{EventValue, event_report}
use Rattle.bench_world.specs.Steps.{NamesInRange}
use Rattle.bench_world.proofs.Names.{names_all}
use Rattle.bench_world.proofs.NextParts.{all_from_in}
use Rattle.script_lang.specs.declared.line_fault.LineFault.{LineFault}
use Rattle.script_lang.specs.declared.line_fault.LineFault.TheVariants as line_fault
use Rattle.script_lang.specs.declared.check_fault.CheckFault.{CheckFault}
use Rattle.script_lang.specs.declared.verb.Verb.{Verb}
use Rattle.script_lang.specs.declared.verb.Verb.TheVariants as verb
use Rattle.script_lang.specs.Kinds.{Value, Text, Number, Named, Octets}
use Rattle.script_lang.specs.Forms.{Stated}
use Rattle.script_lang.specs.Lines.{line_of}
use Rattle.script_lang.specs.Checking as checking
use Rattle.script_lang.specs.Checking.{Declared, Party, after_by, after_line, are_known_by, are_members, has_label}
use Rattle.script_lang.specs.Checking.{are_mirrors, is_mirror, labels_in, party_label}
use Rattle.script_lang.proofs.Conditions.{and_left}
use Rattle.script_report.specs.Texts.{watch_text}
use Rattle.script_report.specs.declared.refusal.Refusal.TheVariants as refusal
use Rattle.script_report.specs.Labels.{label_at}
use Rattle.script_story.specs.Mirrors.{Mirroring, is_listed_by, mirror_of, mirrored_entries}
use Rattle.script_story.specs.StatedEvents.{mirror_number, party_number, pattern_for, publisher_number, stated_event}
use Rattle.script_story.specs.InformedMembers.{NamesOnlyMembers, ReportsNameOnlyMembers, mirror_fetches, mirror_hears}
use Rattle.script_story.specs.InformedMembers.{mirror_lists}
use Rattle.script_story.specs.InformedMembers.{silent, tells, reports_news, watches}
use Rattle.script_story.specs.ReportTexts.{news_in, news_text}
use Rattle.script_story.specs.Evaluation.{RunEnvironment, State, acted_by, acted_if, checked, found_world, evaluated}
use Rattle.script_story.specs.Evaluation.{evaluated_line}
use Rattle.script_story.specs.Evaluation.{line_taken, outside_of, read, accepted, taken_by, with_client, with_group}
use Rattle.script_story.specs.Evaluation.{declaring_member, declaring_mirror, fetched_by, heard_by, listed_by, refused}
use Rattle.script_story.specs.Evaluation.{told_by, watched_by, watchers_at, with_watchers}
use Rattle.script_story.specs.ScriptRun.{nothing_reached}
use Rattle.script_story.proofs.Fitting.{event_fits, number_within}
use Rattle.script_story.proofs.HeadlineLines.{judged_by}
use Rattle.script_story.proofs.HeadlineTaken.{heard_if_so, accepted_report, accepted_state}
use Rattle.script_story.proofs.HeadlineGroups.{IsSoundState, event_line, sound_beginning}
use Rattle.script_story.proofs.HeadlineGroups.{sound_lines}
use Rattle.script_story.proofs.LinesTaken.{acted_stated, not_checked}

abbrev Tells : State → List ℕ → Type 0
Tells new report = NamesOnlyMembers (map party_label new.declared.members) new.declared.mirrors report

-- What holds of all entries holds of those that are news.
pub news_among : (P : Entry → Type 0) (o : Option Watching) (entries : List Entry) → All P entries
    → All P (news_in o entries)
news_among P None entries all = All-nil P
news_among P (Some watching) entries all = All-filter (is_news watching) P entries all

pub news_pairs : (o : Option Watching) (entries : List Entry)
    → news_of o entries ≡ map publication_of (news_in o entries)
news_pairs None entries = refl
news_pairs (Some watching) entries = refl

-- The entries of a mirror are of members.
of_members : (w : World) (m : Mirroring) → All (λ (e : Entry). e.publisher < length (logs w)) (mirrored_entries w m)
of_members w m = all_from_in (λ (e : Entry). e.publisher < length (logs w)) (mirrored_entries w m) (λ e i.
    let listed : List Publication = filter (is_listed_by (published (logs w)) m) (published (logs w)) in
    let q : (p : Publication) × In p listed × (e ≡ published_entry p) = from_map published_entry listed e i in
    let there =
    in_published (logs w) q.0
    (in_filtered (is_listed_by (published (logs w)) m) (published (logs w)) q.0 q.1).0 in
    subst (λ (x : Entry). x.publisher < length (logs w)) (sym q.2)
    (in_range (logs w) q.0.publisher q.0.seq there.there.from_one there.there.to_last))

-- ---- declarations

module _ (s : State) (d : Declared) (report : List ℕ) (new : State) where
  group_silent : (values : List Value) → with_group s d values ≡ accepted report new → Tells new report
  group_silent (Named name ∷ []) is = silent (accepted_report report [] new _ is)
  group_silent values is = cc

  member_silent : (values : List Value) → declaring_member s d values ≡ accepted report new → Tells new report
  member_silent (Text label ∷ Named node ∷ Octets key ∷ []) is = silent (accepted_report report [] new _ is)
  member_silent values is = cc

  client_silent : (values : List Value) → with_client s d values ≡ accepted report new → Tells new report
  client_silent (Text label ∷ Named node ∷ Octets key ∷ []) is = silent (accepted_report report [] new _ is)
  client_silent values is = cc

  mirror_silent : (values : List Value) → declaring_mirror s d values ≡ accepted report new → Tells new report
  mirror_silent (Text label ∷ publisher ∷ Named prefix ∷ []) is = silent (accepted_report report [] new _ is)
  mirror_silent values is = cc

-- ---- events

module _ (env : RunEnvironment) (s : State) (sound : IsSoundState env s) (line : List ℕ) (stated : Stated)
    (d : Declared)
    (report : List ℕ) (new : State) (read_as : line_of line ≡ Ok (Some stated))
    (after : after_line s.declared stated ≡ Ok d) where
  event_reports : checking.after_event s.declared stated ≡ Ok d
      → acted_if env s d (stated_event d stated) ≡ accepted report new → Tells new report
  event_reports taken is =
      let acts = acted_stated env s d stated report new (stated_event d stated) refl is in
      let e : EventValue = acts.0 in
      let out : Environment = outside_of env s.keys in
      let w : World = found_world env s in
      let declares = event_line s.declared d stated taken in
      let count : length d.members ≡ length s.declared.members =
      ap (λ (x : Declared). length x.members) declares.is in
      let fits = event_fits line s.declared d stated e read_as after acts.1 in
      let all : NamesInRange (length d.members) (event_report s.keys out w e) =
      names_all (length d.members) s.keys out w (sound.names ∙ sym count) (sound.many ∙ sym count) sound.sound e
      fits.0 in
      let labelled : NamesInRange (length (map party_label d.members)) (event_report s.keys out w e) =
      subst (λ (n : ℕ). NamesInRange n (event_report s.keys out w e)) (sym (length-map d.members party_label)) all in
      subst (λ (x : State). Tells x report) (sym acts.2.next)
      (tells (event_report s.keys out w e) acts.2.text labelled)

  same_members : checking.after_event s.declared stated ≡ Ok d → d.members ≡ s.declared.members
  same_members taken = ap (λ (x : Declared). x.members) (event_line s.declared d stated taken).is

  as_many : length (map party_label d.members) ≡ length d.members
  as_many = length-map d.members party_label

  watch_reports : (values : List Value) → watched_by (found_world env s) s d values ≡ accepted report new
      → are_members s.declared (labels_in values) ≡ true → d.members ≡ s.declared.members → Tells new report
  watch_reports (Text m ∷ publisher ∷ Named prefix ∷ []) is known same =
      go (nat_le 16 (length (watchers_at s (party_number m d.members)))) is where
        labels : List (List ℕ)
        labels = map party_label d.members

        number : ℕ
        number = party_number m d.members

        there : number < length d.members
        there = number_within m s.declared.members d.members same (and_left (has_label m s.declared.members) _ known)

        go : (full : Bool) → (if full then refused refusal.Limit
            else accepted (watch_text (label_at labels number) (length (watchers_at s number) + 1))
            (with_watchers (found_world env s) s d number (after_add
            (pattern_for (publisher_number d publisher) prefix) (catalogue_at (found_world env s) number)
            (watchers_at s number)))) ≡ accepted report new → Tells new report
        go true k = cc
        go false k =
            subst (λ (x : State). Tells x report) (sym (accepted_state report _ new _ k))
            (watches number (length (watchers_at s number) + 1) (accepted_report report _ new _ k)
            (omega (arith, there, as_many)))
  watch_reports values is known same = cc

  news_tell : (values : List Value) → told_by (found_world env s) s d values ≡ accepted report new
      → are_members s.declared (labels_in values) ≡ true → d.members ≡ s.declared.members → Tells new report
  news_tell (Text m ∷ Number n ∷ []) is known same =
      go (is_some (watch_of n (watchers_at s (party_number m d.members)))) is where
        labels : List (List ℕ)
        labels = map party_label d.members

        number : ℕ
        number = party_number m d.members

        w : World
        w = found_world env s

        there : number < length d.members
        there = number_within m s.declared.members d.members same (and_left (has_label m s.declared.members) _ known)

        news : List Entry
        news = news_in (watch_of n (watchers_at s number)) (catalogue_at w number)

        count : length d.members ≡ length s.declared.members
        count = ap (λ (ps : List Party). length ps) same

        publishers : All (λ (e : Entry). e.publisher < length labels) (catalogue_at w number)
        publishers =
            subst (λ (k : ℕ). All (λ (e : Entry). e.publisher < k) (catalogue_at w number)) (sym as_many)
            (names_all (length d.members) s.keys (outside_of env s.keys) w (sound.names ∙ sym count)
            (sound.many ∙ sym count) sound.sound (EventValue.Catalogue number) there).1

        go : (found : Bool) → (if found then accepted (news_text labels number n news)
            (with_watchers w s d number (after_take n (catalogue_at w number) (watchers_at s number)))
            else refused refusal.NoSuchWatch) ≡ accepted report new → Tells new report
        go false k = cc
        go true k =
            subst (λ (x : State). Tells x report) (sym (accepted_state report _ new _ k))
            (reports_news number n news (accepted_report report _ new _ k) (omega (arith, there, as_many))
            (news_among (λ (e : Entry). e.publisher < length labels) (watch_of n (watchers_at s number))
            (catalogue_at w number) publishers))
  news_tell values is known same = cc

  same_mirrors : checking.after_event s.declared stated ≡ Ok d → d.mirrors ≡ s.declared.mirrors
  same_mirrors taken = ap (λ (x : Declared). x.mirrors) (event_line s.declared d stated taken).is

  -- The label is a mirror's after the line too.
  mirror_known : (label : List ℕ) (rest : List (List ℕ)) → are_mirrors s.declared (label ∷ rest) ≡ true
      → d.mirrors ≡ s.declared.mirrors → is_mirror label d.mirrors ≡ true
  mirror_known label rest known same =
      ap (is_mirror label) same ∙ and_left (is_mirror label s.declared.mirrors) _ known

  heard_reports : (values : List Value) → heard_by (found_world env s) s d values ≡ accepted report new
      → are_mirrors s.declared (labels_in values) ≡ true → d.mirrors ≡ s.declared.mirrors → Tells new report
  heard_reports (Number k ∷ Text l ∷ []) is known same =
      let i : ℕ = mirror_number l d.mirrors in
      let heard = heard_if_so env s d (group.unless_sent (found_world env s) k) k i l report new is in
      subst (λ (x : State). Tells x report) (sym heard.mirrored.next)
      (mirror_hears k l heard.text (mirror_known l [] known same))
  heard_reports values is known same = cc

  fetched_reports : (values : List Value) → fetched_by env (found_world env s) s d values ≡ accepted report new
      → are_mirrors s.declared (labels_in values) ≡ true → d.mirrors ≡ s.declared.mirrors → Tells new report
  fetched_reports (Text l ∷ Number workers ∷ Number tries ∷ Number loss ∷ []) is known same =
      subst (λ (x : State). Tells x report) (sym (accepted_state report _ new _ is))
      (mirror_fetches l _ _ _ (accepted_report report _ new _ is) (mirror_known l [] known same))
  fetched_reports values is known same = cc

  listed_reports : (values : List Value) → listed_by (found_world env s) s d values ≡ accepted report new
      → are_mirrors s.declared (labels_in values) ≡ true → d.members ≡ s.declared.members
      → d.mirrors ≡ s.declared.mirrors → Tells new report
  listed_reports (Text l ∷ []) is known members same =
      let w : World = found_world env s in
      let m : Mirroring = mirror_of s.mirrors (mirror_number l d.mirrors) in
      let count : length d.members ≡ length s.declared.members = ap (λ (ps : List Party). length ps) members in
      let many : length (logs w) ≡ length (map party_label d.members) =
      length-map w.members _ ∙ sound.many ∙ sym count ∙ sym as_many in
      subst (λ (x : State). Tells x report) (sym (accepted_state report _ new _ is))
      (mirror_lists l (mirrored_entries w m) (accepted_report report _ new _ is) (mirror_known l [] known same)
      (subst (λ (n : ℕ). All (λ (e : Entry). e.publisher < n) (mirrored_entries w m)) many (of_members w m)))
  listed_reports values is known members same = cc

  known_as : (form : Verb) → stated.verb ≡ form → checking.after_event s.declared stated ≡ Ok d
      → are_known_by form s.declared (labels_in stated.values) ≡ true
  known_as form same taken =
      subst (λ (f : Verb). are_known_by f s.declared (labels_in stated.values) ≡ true) same
      (event_line s.declared d stated taken).known

  stated_reports : (form : Verb) → stated.verb ≡ form → after_by s.declared stated form stated.values ≡ Ok d
      → taken_by form env s d stated ≡ accepted report new → Tells new report
  unfolding acted_by
  stated_reports verb.Group same taken is = group_silent s d report new stated.values is
  stated_reports verb.Member same taken is = member_silent s d report new stated.values is
  stated_reports verb.Client same taken is = client_silent s d report new stated.values is
  stated_reports verb.Mirror same taken is = mirror_silent s d report new stated.values is
  stated_reports verb.Watch same taken is =
      watch_reports stated.values is (known_as verb.Watch same taken) (same_members taken)
  stated_reports verb.Told same taken is =
      news_tell stated.values is (known_as verb.Told same taken) (same_members taken)
  stated_reports verb.Mdeliver same taken is =
      heard_reports stated.values is (known_as verb.Mdeliver same taken) (same_mirrors taken)
  stated_reports verb.Mfetch same taken is =
      fetched_reports stated.values is (known_as verb.Mfetch same taken) (same_mirrors taken)
  stated_reports verb.Mcatalogue same taken is =
      listed_reports stated.values is (known_as verb.Mcatalogue same taken) (same_members taken) (same_mirrors taken)
  stated_reports form same taken is = event_reports taken is

-- ---- lines

line_reports : (env : RunEnvironment) (s : State) (line report : List ℕ) (new : State) → IsSoundState env s
    → evaluated env s line ≡ accepted report new → Tells new report
unfolding evaluated evaluated_line line_taken
line_reports env s line report new sound h = go (line_of line) refl h where
  by_check : (stated : Stated) → line_of line ≡ Ok (Some stated) → (r : Result Declared CheckFault)
      → after_line s.declared stated ≡ r → checked env s stated r ≡ accepted report new → Tells new report
  by_check stated is (Ok d) after k =
      stated_reports env s sound line stated d report new is after stated.verb refl after k
  by_check stated is (Err fault) after k = absurd (not_checked fault report new k)

  go : (r : Result (Option Stated) LineFault) → line_of line ≡ r → read env s r ≡ accepted report new → Tells new report
  go (Ok (Some stated)) is k = by_check stated is (after_line s.declared stated) refl k
  go (Ok None) is k = silent (accepted_report report [] new s k)
  go (Err line_fault.Syntax) is k = cc
  go (Err line_fault.Limit) is k = cc
  go (Err line_fault.NoMemory) is k = cc

pub reports_name_only_members : ReportsNameOnlyMembers
reports_name_only_members env lines reports r taken line report new it =
    line_reports env r.state line report new.state
    (sound_lines env nothing_reached lines reports r taken (sound_beginning env))
    (judged_by env r line report new.state it.verdict)
