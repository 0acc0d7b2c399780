-- What lines of watchers do to the state that is kept.
use Rattle.std.proofs.Common.{◌≡◌, ◌∙◌, inl, inr, ℕ, ◌+◌, ◌<◌, Bool, true, not, nat_le, List, [], ◌∷◌}
use Rattle.std.proofs.Common.{length, map, get_or, Option, Some, None, String, Global, refl, sym, ap, subst}
use Rattle.std.proofs.Common.{arith, if◌then◌else◌, suc, zero}
use Rattle.std.specs.Prelude.{is_some}
use Rattle.std.specs.List.{All}
use Rattle.std.proofs.lemmas.Bool.{not-true}
use Rattle.std.proofs.lemmas.List.{length-map}
use Rattle.std.proofs.lemmas.List.Elements.{All-cons, All-nil}
use Rattle.ndn_name.specs.Names.{Component}
use Rattle.repo_plan.specs.Parts.{Pair}
use Rattle.sorted_lists.proofs.Sets.{In}
use Rattle.sorted_lists.proofs.Members.{in_filtered}
use Rattle.repo_catalog.specs.declared.entry.Entry.{Entry}
use Rattle.repo_catalog.specs.Entries.{IsCatalogue, entry_of, lists, publication_of}
use Rattle.repo_catalog.proofs.NamedLemmas.{listed_in}
use Rattle.repo_watch.specs.declared.pattern.Pattern.{Pattern}
use Rattle.repo_watch.specs.Watching.{Watching, after_add, after_take, is_news, news_of, watch_of}
use Rattle.group_model.specs.World.{World, catalogue_at, logs, member}
use Rattle.group_model.specs.Sound.{IsSoundGroup}
use Rattle.group_model.proofs.PublicLaws.{lists_in_order}
use Rattle.repo_member.specs.InGroup.{in_group}
use Rattle.bench_world.specs.EventValues.{EventValue}
use Rattle.bench_world.specs.Worlds.{GroupState, drawing, world_of}
use Rattle.bench_world.proofs.Names.{names_all}
use Rattle.script_lang.specs.declared.verb.Verb.TheVariants as verb
use Rattle.script_lang.specs.Kinds.{Value, Text, Number, Named}
use Rattle.script_lang.specs.Forms.{Stated, publisher_value, statement}
use Rattle.script_lang.specs.Checking.{Declared, are_members, has_label, labels_in, party_label}
use Rattle.script_lang.proofs.Conditions.{and_left, and_right}
use Rattle.script_report.specs.Texts.{watch_text}
use Rattle.script_lines.specs.declared.run_state.RunState.{RunState}
use Rattle.script_report.specs.declared.refusal.Refusal.TheVariants as refusal
use Rattle.script_lines.specs.declared.error.LineError.{LineError}
use Rattle.script_lines.specs.declared.error.LineError.TheVariants as error
use Rattle.script_report.specs.Labels.{label_at}
use Rattle.script_story.specs.StatedEvents.{party_number}
use Rattle.script_story.specs.ReportTexts.{news_in, news_text}
use Rattle.script_story.specs.Evaluation.{RunEnvironment, State, found_world, line_taken, refused, accepted, told_at}
use Rattle.script_story.specs.Evaluation.{told_by}
use Rattle.script_story.specs.Evaluation.{watched, watched_by, watchers_at, watchers_of, with_watchers}
use Rattle.script_lines.specs.RunStates.{IsAtEvent, IsLineError, IsStopWhere, LineIsChecked}
use Rattle.script_story.proofs.Fitting.{number_within}
use Rattle.script_story.proofs.Declarations.{IsEvent, event_after}
use Rattle.script_lines.proofs.RunStateLemmas.{at_event}
use Rattle.script_story.proofs.HeadlineNames.{news_among, news_pairs}

-- ---- what is known of the line

-- The line names a member, and what is kept is there.
pub record OfMember (p : RunState) (label : List ℕ) : Type 0 where
  pub known : has_label label p.words.members ≡ true
  pub there : party_number label p.words.members < length p.words.members
  pub at : IsAtEvent p

of_member : (p : RunState) (s : Stated) (label : List ℕ) (c : LineIsChecked p s) → IsEvent c.before p.words s
    → has_label label p.words.members ≡ true → OfMember p label
of_member p s label c event known = record {
  known = known;
  there = number_within label p.words.members p.words.members refl known;
  at = at_event p s c event;
}

pub announced_checked : (p : RunState) (label : List ℕ) (number : ℕ)
    → LineIsChecked p (statement verb.Told (Text label ∷ Number number ∷ [])) → OfMember p label
announced_checked p label number checked =
    let line : Stated = statement verb.Told (Text label ∷ Number number ∷ []) in
    let event = event_after checked.before p.words line checked.after in
    of_member p line label checked event (and_left (has_label label p.words.members) _ event.known)

-- A watcher is of a publisher that is declared, or of every one.
pub record OfWatch (p : RunState) (label : List ℕ) (publisher : Value) : Type 0 where
  pub of : OfMember p label
  pub asked : are_members p.words (labels_in (publisher ∷ [])) ≡ true

publisher_known : (e : Declared) (p : Option (String Global)) (prefix : List Component)
    → are_members e (labels_in (publisher_value p ∷ Named prefix ∷ [])) ≡ true
    → are_members e (labels_in (publisher_value p ∷ [])) ≡ true
publisher_known e None prefix known = refl
publisher_known e (Some label) prefix known = known

pub watch_checked : (p : RunState) (label : List ℕ) (publisher : Option (String Global)) (prefix : List Component)
    → LineIsChecked p (statement verb.Watch (Text label ∷ publisher_value publisher ∷ Named prefix ∷ []))
    → OfWatch p label (publisher_value publisher)
watch_checked p label publisher prefix checked =
    let line : Stated = statement verb.Watch (Text label ∷ publisher_value publisher ∷ Named prefix ∷ []) in
    let event = event_after checked.before p.words line checked.after in
    record {
      of = of_member p line label checked event (and_left (has_label label p.words.members) _ event.known);
      asked = publisher_known p.words publisher prefix (and_right (has_label label p.words.members) _ event.known);
    }

-- ---- what it comes to

watch_says : (env : RunEnvironment) (s : State) (d : Declared) (values : List Value)
    → line_taken env s d (statement verb.Watch values) ≡ watched_by (found_world env s) s d values
unfolding line_taken
watch_says env s d values = refl

announced_says : (env : RunEnvironment) (s : State) (d : Declared) (values : List Value)
    → line_taken env s d (statement verb.Told values) ≡ told_by (found_world env s) s d values
unfolding line_taken
announced_says env s d values = refl

pub watch_taken : (env : RunEnvironment) (s : State) (d : Declared) (line : Stated) (values : List Value)
    → line ≡ statement verb.Watch values → line_taken env s d line ≡ watched_by (found_world env s) s d values
watch_taken env s d line values is = ap (line_taken env s d) is ∙ watch_says env s d values

pub announced_taken : (env : RunEnvironment) (s : State) (d : Declared) (line : Stated) (values : List Value)
    → line ≡ statement verb.Told values → line_taken env s d line ≡ told_by (found_world env s) s d values
announced_taken env s d line values is = ap (line_taken env s d) is ∙ announced_says env s d values

-- A member and a pattern are the same by their names.
pub watched_same : (w : World) (s : State) (d : Declared) (m n : ℕ) (pattern asked : Pattern) → m ≡ n
    → pattern ≡ asked → watched w s d m pattern ≡ watched w s d n asked
watched_same w s d m n pattern asked p q = λ i. watched w s d (p i) (q i)

pub reported_same : (w : World) (s : State) (d : Declared) (m n number : ℕ) → m ≡ n
    → told_at w s d m number ≡ told_at w s d n number
reported_same w s d m n number p = λ i. told_at w s d (p i) number

-- ---- stops

pub watched_stops : (w : World) (s : State) (d : Declared) (m : ℕ) (pattern : Pattern) (error : LineError)
    → IsStopWhere (nat_le 16 (length (watchers_at s m))) refusal.Limit error
    → IsLineError (watched w s d m pattern) error
watched_stops w s d m pattern error.NoMemory h = tt
watched_stops w s d m pattern (error.Refused why) h =
    ap (λ (full : Bool). if full then refused refusal.Limit
    else accepted (watch_text (label_at (map party_label d.members) m) (length (watchers_at s m) + 1))
    (with_watchers w s d m (after_add pattern (catalogue_at w m) (watchers_at s m)))) h.0 ∙ ap refused (sym h.1)
watched_stops w s d m pattern error.Foreign h = absurd h

pub announced_stops : (w : World) (s : State) (d : Declared) (m number : ℕ) (error : LineError)
    → IsStopWhere (not (is_some (watch_of number (watchers_at s m)))) refusal.NoSuchWatch error
    → IsLineError (told_at w s d m number) error
announced_stops w s d m number error.NoMemory h = tt
announced_stops w s d m number (error.Refused why) h =
    ap (λ (found : Bool). if found
    then accepted (news_text (map party_label d.members) m number
    (news_in (watch_of number (watchers_at s m)) (catalogue_at w m)))
    (with_watchers w s d m (after_take number (catalogue_at w m) (watchers_at s m)))
    else refused refusal.NoSuchWatch) (not-true (is_some (watch_of number (watchers_at s m))) h.0)
    ∙ ap refused (sym h.1)
announced_stops w s d m number error.Foreign h = absurd h

-- ---- the entries of the news

found_again : (entries : List Entry) → IsCatalogue entries → (es : List Entry) → ((e : Entry) → In e es → In e entries)
    → map (λ pair. entry_of pair entries) (map publication_of es) ≡ map Some es
found_again entries r [] among = refl
found_again entries r (e ∷ es) among = λ i.
    listed_in entries e r (among e (inl refl)) i ∷ found_again entries r es (λ f j. among f (inr j)) i

all_listed : (entries : List Entry) → IsCatalogue entries → (es : List Entry) → ((e : Entry) → In e es → In e entries)
    → All (λ pair. lists pair entries ≡ true) (map publication_of es)
all_listed entries r [] among = All-nil (λ pair. lists pair entries ≡ true)
all_listed entries r (e ∷ es) among =
    All-cons (λ pair. lists pair entries ≡ true) (publication_of e) (map publication_of es)
    (ap is_some (listed_in entries e r (among e (inl refl)))) (all_listed entries r es (λ f j. among f (inr j)))

same_each : (xs ys : List Entry) → map Some xs ≡ map Some ys → xs ≡ ys
same_each [] [] h = refl
same_each [] (y ∷ ys) h = cc
same_each (x ∷ xs) [] h = cc
same_each (x ∷ xs) (y ∷ ys) h =
    let first : x ≡ y = cc in
    let others : map Some xs ≡ map Some ys = cc in
    λ i. first i ∷ same_each xs ys others i

among_all : (o : Option Watching) (entries : List Entry) (e : Entry) → In e (news_in o entries) → In e entries
among_all None entries e i = absurd i
among_all (Some watching) entries e i = (in_filtered (is_news watching) entries e i).0

pub news_listed : (o : Option Watching) (entries : List Entry) (pairs : List Pair) → IsCatalogue entries
    → pairs ≡ news_of o entries → All (λ pair. lists pair entries ≡ true) pairs
news_listed o entries pairs r are =
    subst (λ ps. All (λ pair. lists pair entries ≡ true) ps) (sym (are ∙ news_pairs o entries))
    (all_listed entries r (news_in o entries) (among_all o entries))

pub news_copied : (o : Option Watching) (entries copies : List Entry) (pairs : List Pair) → IsCatalogue entries
    → pairs ≡ news_of o entries → map Some copies ≡ map (λ pair. entry_of pair entries) pairs
    → copies ≡ news_in o entries
news_copied o entries copies pairs r are copied =
    same_each copies (news_in o entries)
    (copied ∙ ap (map (λ pair. entry_of pair entries)) (are ∙ news_pairs o entries)
    ∙ found_again entries r (news_in o entries) (among_all o entries))

-- ---- of a world

module _ (state : GroupState) (m : ℕ) (entries : List Entry)
    (are : entries ≡ catalogue_at (world_of state) m) where
  in_order : IsCatalogue entries
  in_order = subst IsCatalogue (sym are) (lists_in_order (logs (world_of state)) (member (world_of state) m))

  pub all_there : (o : Option Watching) (pairs : List Pair) → pairs ≡ news_of o entries
      → All (λ pair. lists pair entries ≡ true) pairs
  all_there o pairs printed = news_listed o entries pairs in_order printed

  pub copies_are : (o : Option Watching) (copies : List Entry) (pairs : List Pair) → pairs ≡ news_of o entries
      → map Some copies ≡ map (λ pair. entry_of pair entries) pairs
      → copies ≡ news_in o (catalogue_at (world_of state) m)
  copies_are o copies pairs printed copied =
      news_copied o entries copies pairs in_order printed copied ∙ ap (news_in o) are

  pub publishers_are : (n : ℕ) (o : Option Watching) (copies : List Entry)
      → length state.members ≡ length state.keys.members.names → IsSoundGroup (world_of state)
      → n ≡ length state.keys.members.names → m < length state.keys.members.names
      → copies ≡ news_in o (catalogue_at (world_of state) m) → All (λ (e : Entry). e.publisher < n) copies
  publishers_are n o copies many sound count there copied =
      subst (λ (es : List Entry). All (λ (e : Entry). e.publisher < n) es) (sym copied)
      (subst (λ (k : ℕ). All (λ (e : Entry). e.publisher < k) (news_in o (catalogue_at (world_of state) m))) (sym count)
      (news_among (λ (e : Entry). e.publisher < length state.keys.members.names) o (catalogue_at (world_of state) m)
      (names_all (length state.keys.members.names) state.keys (drawing (λ _ _. 0)) (world_of state) refl
      (length-map state.members in_group ∙ many) sound (EventValue.Catalogue m) there).1))

-- A member that is there has the same watchers, whatever the default is.
pub same_at : (ws : List (List Watching)) (m : ℕ) (d : List Watching) → m < length ws → get_or ws m d ≡ watchers_of ws m
same_at [] m d there = absurd (omega (arith, there))
same_at (w ∷ ws) zero d there = refl
same_at (w ∷ ws) (suc m) d there = same_at ws m d (omega (arith, there))
