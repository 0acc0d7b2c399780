-- What counts as reported to a watcher was printed for it, or was listed when it was made.
use Rattle.std.proofs.Common.{◌≡◌, ◌∙◌, ◌⊎◌, inl, inr, ℕ, zero, suc, Bool, true, false, ◌||◌, List, [], ◌∷◌, ◌++◌}
use Rattle.std.proofs.Common.{map, get_or, set, Some, None, Ok, refl, sym, ap, subst}
use Rattle.repo_plan.specs.Parts.{Pair, pair_cmp}
use Rattle.repo_plan.proofs.Orders.{exact_pairs}
use Rattle.sorted_lists.specs.SortedList.{contains, insert_keys}
use Rattle.sorted_lists.proofs.Sets.{contains-insert_keys}
use Rattle.repo_catalog.specs.declared.entry.Entry.{Entry}
use Rattle.repo_watch.specs.declared.pattern.Pattern.{Pattern}
use Rattle.repo_watch.specs.Watching.{Watching, after_add, after_take, news, news_of, watch_of, watching}
use Rattle.repo_watch.specs.Laws.{was_announced}
use Rattle.group_model.specs.World.{catalogue_at}
use Rattle.script_lang.specs.declared.verb.Verb.{Verb}
use Rattle.script_lang.specs.declared.verb.Verb.TheVariants as verb
use Rattle.script_lang.specs.Kinds.{Value, Text, Number, Named, Octets}
use Rattle.script_lang.specs.Forms.{Stated, statement}
use Rattle.script_lang.specs.Lines.{line_of}
use Rattle.script_lang.specs.Checking as checking
use Rattle.script_lang.specs.Checking.{Declared, Party, after_by, are_known, has_label, party_label}
use Rattle.script_lang.proofs.Conditions.{and_left}
use Rattle.script_report.specs.Labels.{label_at}
use Rattle.script_story.specs.StatedEvents.{party_number, stated_event}
use Rattle.script_story.specs.ReportTexts.{labelled_news, news_in, news_text}
use Rattle.script_story.specs.Evaluation.{RunEnvironment, State, accepted, acted_by, declaring_member, declaring_mirror}
use Rattle.script_story.specs.Evaluation.{found_world, taken_by, told_by, watched_by, watchers_at, with_client}
use Rattle.script_story.specs.Evaluation.{with_group}
use Rattle.script_story.specs.ScriptRun.{Reached}
use Rattle.script_story.specs.Headline.{Says, group_at}
use Rattle.script_story.specs.Watchers.{IsAmongAnnounced, IsListedAtFirst, PrintsFor, ReportedIsPrinted}
use Rattle.script_story.proofs.HeadlineCatalogues.{IsNumberOf, named_by}
use Rattle.script_story.proofs.HeadlineEvents.{IsSetAt, itself, other, set_at}
use Rattle.script_story.proofs.HeadlineGroups.{event_line}
use Rattle.script_story.proofs.HeadlineTaken.{accepted_state, added_so, fetched_so, heard_so, listed_so, printed_at_so}
use Rattle.script_story.proofs.HeadlineWatchers.{contains_news, listed_among}
use Rattle.script_story.proofs.LinesTaken.{LineTaken, acted_stated, nothing, stating, taken_line}

-- ---- what a call counts as reported

module _ (pair : Pair) where
  -- The publication counts as reported to the watcher of a number.
  abbrev Counts : ℕ → List Watching → Type 0
  Counts n ws = was_announced (watch_of n ws) pair ≡ true

  gained : (pairs announced : List Pair) → contains pair_cmp (insert_keys pair_cmp pairs announced) pair ≡ true
      → (contains pair_cmp announced pair ≡ true) ⊎ (contains pair_cmp pairs pair ≡ true)
  gained pairs announced h =
      go (contains pair_cmp pairs pair) refl (sym (contains-insert_keys exact_pairs pairs announced pair) ∙ h) where
        go : (b : Bool) → contains pair_cmp pairs pair ≡ b → (b || contains pair_cmp announced pair) ≡ true
            → (contains pair_cmp announced pair ≡ true) ⊎ (contains pair_cmp pairs pair ≡ true)
        go true is k = inr is
        go false is k = inl k

  -- The take reports it to its watcher.
  abbrev IsTold : ℕ → ℕ → List Entry → List Watching → Type 0
  IsTold n m entries ws = (n ≡ m) × (contains pair_cmp (news_of (watch_of m ws) entries) pair ≡ true)

  taken_counts : (ws : List Watching) (n m : ℕ) (entries : List Entry) → Counts n (after_take m entries ws)
      → Counts n ws ⊎ IsTold n m entries ws
  taken_counts [] n m entries h = inl h
  taken_counts (w ∷ ws) n zero entries h = inl h
  taken_counts (w ∷ ws) zero (suc zero) entries h = inl h
  taken_counts (w ∷ ws) (suc zero) (suc zero) entries h = elim (gained (news w entries) w.announced h) [
    | inl before ↦ inl before
    | inr now ↦ inr (refl, now)
  ]
  taken_counts (w ∷ ws) (suc (suc n)) (suc zero) entries h = inl h
  taken_counts (w ∷ ws) zero (suc (suc m)) entries h = inl h
  taken_counts (w ∷ ws) (suc zero) (suc (suc m)) entries h = inl h
  taken_counts (w ∷ ws) (suc (suc n)) (suc (suc m)) entries h = elim (taken_counts ws (suc n) (suc m) entries h) [
    | inl before ↦ inl before
    | inr now ↦ inr (ap suc now.0, now.1)
  ]

  added_counts : (ws : List Watching) (w : Watching) (n : ℕ) → Counts n (ws ++ w ∷ [])
      → Counts n ws ⊎ ((watch_of n ws ≡ None) × (contains pair_cmp w.announced pair ≡ true))
  added_counts [] w zero h = inl h
  added_counts [] w (suc zero) h = inr (refl, h)
  added_counts [] w (suc (suc n)) h = inl h
  added_counts (v ∷ ws) w zero h = inl h
  added_counts (v ∷ ws) w (suc zero) h = inl h
  added_counts (v ∷ ws) w (suc (suc n)) h = added_counts ws w (suc n) h

-- ---- what a line does to watchers

-- No watchers change; or one is made; or the line is a `told` line, which prints what it reports to its watcher.
data ChangesWatchers (env : RunEnvironment) (s : State) (line report : List ℕ) (new : State) : Type 0 where
  leaves : ((m : ℕ) → watchers_at new m ≡ watchers_at s m) → ChangesWatchers env s line report new
  adds : (k : ℕ) (pattern : Pattern)
      → new.watchers
      ≡ set s.watchers k (after_add pattern (catalogue_at (found_world env s) k) (watchers_at s k))
      → ChangesWatchers env s line report new
  takes : (label : List ℕ) (number k : ℕ) → Says line (statement verb.Told (Text label ∷ Number number ∷ []))
      → label_at (map party_label s.declared.members) k ≡ label
      → report ≡ labelled_news (map party_label s.declared.members) label number
      (news_in (watch_of number (watchers_at s k)) (catalogue_at (found_world env s) k))
      → new.watchers
      ≡ set s.watchers k (after_take number (catalogue_at (found_world env s) k) (watchers_at s k))
      → ChangesWatchers env s line report new

-- A member more has no watchers.
none_more : (ws : List (List Watching)) (m : ℕ) → get_or (ws ++ [] ∷ []) m [] ≡ get_or ws m []
none_more [] zero = refl
none_more [] (suc m) = refl
none_more (w ∷ ws) zero = refl
none_more (w ∷ ws) (suc m) = none_more ws m

module _ (env : RunEnvironment) (s : State) (line : List ℕ) (stated : Stated) (d : Declared) (report : List ℕ)
    (new : State) (read_as : line_of line ≡ Ok (Some stated)) where
  same_all : new.watchers ≡ s.watchers → ChangesWatchers env s line report new
  same_all same = leaves (λ m. ap (λ (ws : List (List Watching)). get_or ws m []) same)

  group_changes : (values : List Value) → with_group s d values ≡ accepted report new
      → ChangesWatchers env s line report new
  group_changes (Named name ∷ []) is = same_all (ap (λ (x : State). x.watchers) (accepted_state report [] new _ is))
  group_changes values is = cc

  member_changes : (values : List Value) → declaring_member s d values ≡ accepted report new
      → ChangesWatchers env s line report new
  member_changes (Text label ∷ Named node ∷ Octets key ∷ []) is = leaves (λ m.
      ap (λ (x : State). watchers_at x m) (accepted_state report [] new _ is) ∙ none_more s.watchers m)
  member_changes values is = cc

  client_changes : (values : List Value) → with_client s d values ≡ accepted report new
      → ChangesWatchers env s line report new
  client_changes (Text label ∷ Named node ∷ Octets key ∷ []) is =
      same_all (ap (λ (x : State). x.watchers) (accepted_state report [] new _ is))
  client_changes values is = cc

  mirror_changes : (values : List Value) → declaring_mirror s d values ≡ accepted report new
      → ChangesWatchers env s line report new
  mirror_changes (Text label ∷ publisher ∷ Named prefix ∷ []) is =
      same_all (ap (λ (x : State). x.watchers) (accepted_state report [] new _ is))
  mirror_changes values is = cc

  watch_changes : watched_by (found_world env s) s d stated.values ≡ accepted report new
      → ChangesWatchers env s line report new
  watch_changes is =
      let added = added_so env s d stated.values report new is in
      adds added.m added.pattern (ap (λ (x : State). x.watchers) added.next)

  told_changes : (values : List Value) → stated ≡ statement verb.Told values
      → checking.after_event s.declared stated ≡ Ok d → told_by (found_world env s) s d values ≡ accepted report new
      → ChangesWatchers env s line report new
  told_changes (Text label ∷ Number number ∷ []) says taken is =
      let event = event_line s.declared d stated taken in
      let same : d.members ≡ s.declared.members = ap (λ (x : Declared). x.members) event.is in
      let known : are_known s.declared (statement verb.Told (Text label ∷ Number number ∷ [])) ≡ true =
      subst (λ (x : Stated). are_known s.declared x ≡ true) says event.known in
      let named : IsNumberOf label s.declared.members (party_number label s.declared.members) =
      named_by label s.declared.members (and_left (has_label label s.declared.members) _ known) in
      let printed = printed_at_so env s d (party_number label d.members) number report new is in
      let news : ℕ → List Entry = λ k. news_in (watch_of number (watchers_at s k)) (catalogue_at (found_world env s) k)
      in
      let told : ℕ → List Watching = λ k. after_take number (catalogue_at (found_world env s) k) (watchers_at s k) in
      takes label number (party_number label s.declared.members) (read_as ∙ ap (λ (x : Stated). Ok (Some x)) says)
      named.labelled
      (printed.text
      ∙ ap (λ (ps : List Party). news_text (map party_label ps) (party_number label ps) number
      (news (party_number label ps))) same
      ∙ ap (λ (l : List ℕ). labelled_news (map party_label s.declared.members) l number
      (news (party_number label s.declared.members))) named.labelled)
      (ap (λ (x : State). x.watchers) printed.next
      ∙ ap (λ (ps : List Party). set s.watchers (party_number label ps) (told (party_number label ps))) same)
  told_changes values says taken is = cc

  stated_changes : (form : Verb) → stated.verb ≡ form → after_by s.declared stated form stated.values ≡ Ok d
      → taken_by form env s d stated ≡ accepted report new → ChangesWatchers env s line report new
  unfolding acted_by
  stated_changes verb.Group form taken is = group_changes stated.values is
  stated_changes verb.Member form taken is = member_changes stated.values is
  stated_changes verb.Client form taken is = client_changes stated.values is
  stated_changes verb.Mirror form taken is = mirror_changes stated.values is
  stated_changes verb.Watch form taken is = watch_changes is
  stated_changes verb.Told form taken is =
      told_changes stated.values (ap (λ (v : Verb). statement v stated.values) form) taken is
  stated_changes verb.Mdeliver form taken is =
      same_all (ap (λ (x : State). x.watchers) (heard_so env s d stated.values report new is).next)
  stated_changes verb.Mfetch form taken is =
      same_all (ap (λ (x : State). x.watchers) (fetched_so env s d stated.values report new is).next)
  stated_changes verb.Mcatalogue form taken is =
      same_all (ap (λ (x : State). x.watchers) (listed_so env s d stated.values report new is).next)
  stated_changes verb form taken is =
      let acts = acted_stated env s d stated report new (stated_event d stated) refl is in
      same_all (ap (λ (x : State). x.watchers) acts.2.next)

line_changes : (env : RunEnvironment) (s : State) (line report : List ℕ) (new : State)
    → LineTaken env s line report new → ChangesWatchers env s line report new
line_changes env s line report new (nothing read same) =
    leaves (λ m. ap (λ (x : State). watchers_at x m) same)
line_changes env s line report new (stating stated d read after is) =
    stated_changes env s line stated d report new read stated.verb refl after is

-- ---- the law

module _ (env : RunEnvironment) (r : Reached) (line report : List ℕ) (new : Reached) (m number : ℕ) (pair : Pair)
    (now : IsAmongAnnounced new m number pair) where
  abbrev IsExplained : Type 0
  IsExplained = IsAmongAnnounced r m number pair
      ⊎ (PrintsFor r line report m number pair ⊎ IsListedAtFirst env r m number pair)

  -- The watchers of the member are as they were.
  unchanged : watchers_at new.state m ≡ watchers_at r.state m → IsExplained
  unchanged same = inl (ap (λ (ws : List Watching). was_announced (watch_of number ws) pair) (sym same) ∙ now)

  counted : (ws : List Watching) → watchers_at new.state m ≡ ws → was_announced (watch_of number ws) pair ≡ true
  counted ws same = ap (λ (xs : List Watching). was_announced (watch_of number xs) pair) (sym same) ∙ now

  place_of : (k : ℕ) (x : List Watching) → new.state.watchers ≡ set r.state.watchers k x
      → watchers_at new.state m ≡ get_or (set r.state.watchers k x) m []
  place_of k x is = ap (λ (ws : List (List Watching)). get_or ws m []) is

  explained : ChangesWatchers env r.state line report new.state → IsExplained
  explained (leaves same) = unchanged (same m)
  explained (adds k pattern is) = go (set_at r.state.watchers k m after) where
    entries : List Entry
    entries = catalogue_at (group_at env r) k

    after : List Watching
    after = after_add pattern entries (watchers_at r.state k)

    listed : m ≡ k
        → (watch_of number (watchers_at r.state k) ≡ None)
        × (contains pair_cmp (watching pattern entries).announced pair ≡ true)
        → IsListedAtFirst env r m number pair
    listed at both = subst (λ (n : ℕ). IsListedAtFirst env r n number pair) (sym at)
        (record { none = both.0; listed = sym (listed_among entries pair) ∙ both.1 })

    go : IsSetAt r.state.watchers k m after → IsExplained
    go (other same) = unchanged (place_of k after is ∙ same)
    go (itself at same) =
        elim (added_counts pair (watchers_at r.state k) (watching pattern entries) number
        (counted after (place_of k after is ∙ same))) [
          | inl before ↦ inl (subst (λ (n : ℕ). IsAmongAnnounced r n number pair) (sym at) before)
          | inr both ↦ inr (inr (listed at both))
        ]
  explained (takes label n k says named text is) = go (set_at r.state.watchers k m after) where
    ws : List Watching
    ws = watchers_at r.state k

    entries : List Entry
    entries = catalogue_at (group_at env r) k

    after : List Watching
    after = after_take n entries ws

    printed : m ≡ k → IsTold pair number n entries ws → PrintsFor r line report m number pair
    printed at told =
        subst (λ (i : ℕ). PrintsFor r line report m i pair) (sym told.0)
        (subst (λ (i : ℕ). PrintsFor r line report i n pair) (sym at)
        (record {
          label = label;
          stated = says;
          named = named;
          entries = news_in (watch_of n ws) entries;
          text = text;
          listed = sym (contains_news (watch_of n ws) entries pair) ∙ told.1;
        }))

    go : IsSetAt r.state.watchers k m after → IsExplained
    go (other same) = unchanged (place_of k after is ∙ same)
    go (itself at same) =
        elim (taken_counts pair ws number n entries (counted after (place_of k after is ∙ same))) [
          | inl before ↦ inl (subst (λ (i : ℕ). IsAmongAnnounced r i number pair) (sym at) before)
          | inr told ↦ inr (inl (printed at told))
        ]

pub reported_is_printed : ReportedIsPrinted
reported_is_printed env lines reports r taken line report new t m number pair now =
    explained env r line report new m number pair now
    (line_changes env r.state line report new.state (taken_line env r line report new t))
