-- What watchers are given over whole runs.
use Rattle.std.proofs.Common.{◌≡◌, ◌∙◌, ℕ, ◌<◌, Bool, true, false, ◌||◌, cond, List, [], ◌∷◌, ◌++◌, length, map, Option}
use Rattle.std.proofs.Common.{Some, refl, sym, ap, subst, arith, get_or-set_same}
use Rattle.std.specs.Prelude.{is_some}
use Rattle.std.specs.List.{filter}
use Rattle.std.proofs.lemmas.List.{length-map}
use Rattle.repo_plan.specs.Parts.{Pair, pair_cmp}
use Rattle.sorted_lists.specs.SortedList.{contains}
use Rattle.repo_catalog.specs.declared.entry.Entry.{Entry}
use Rattle.repo_catalog.specs.Entries.{entry_of, is_of, lists, publication_of}
use Rattle.repo_watch.specs.Watching.{Watching, after_take, is_for, news_of, watch_of}
use Rattle.repo_watch.specs.Laws.{after_watch_calls, tells, was_announced}
use Rattle.repo_watch.proofs.LawLemmas.{all_announced, announced_once}
use Rattle.group_model.specs.World.{catalogue_at}
use Rattle.group_model.specs.Laws.{AllJoined}
use Rattle.script_lang.specs.declared.verb.Verb.TheVariants as verb
use Rattle.script_lang.specs.Kinds.{Text, Number}
use Rattle.script_lang.specs.Forms.{Stated, statement}
use Rattle.script_lang.specs.Checking.{Declared, Party, has_label, party_label}
use Rattle.script_lang.proofs.Conditions.{and_left}
use Rattle.script_report.specs.Labels.{label_at}
use Rattle.script_story.specs.StatedEvents.{party_number}
use Rattle.script_story.specs.ReportTexts.{labelled_news, news_in}
use Rattle.script_story.specs.Evaluation.{RunEnvironment, State, watchers_at}
use Rattle.script_story.specs.ScriptRun.{Reached}
use Rattle.script_story.specs.Headline.{group_at, labels_at}
use Rattle.script_story.specs.Watchers.{IsAnnouncingLine, SettledAreAnnounced, NewsIsAnnouncedWhole}
use Rattle.script_story.specs.Watchers.{NewsIsAnnouncedOnce}
use Rattle.script_story.proofs.HeadlineCatalogues.{IsNumberOf, named_by}
use Rattle.script_story.proofs.HeadlineEvents.{lines_ask, lines_run}
use Rattle.script_story.proofs.HeadlineGroups.{IsSoundState, event_line, sound_from_start, sound_lines}
use Rattle.script_story.proofs.LinesTaken.{stated_taken, taken_line}
use Rattle.script_story.proofs.HeadlineTaken.{printed_at_so}
use Rattle.script_story.proofs.HeadlineListings.{number_of}
use Rattle.script_story.proofs.HeadlineShown.{joined_after}
use Rattle.script_story.proofs.HeadlineNames.{news_pairs}

-- ---- one line

-- After a `told` line the watcher was given the news of the member with the label.
record IsPrintedSo (env : RunEnvironment) (r : Reached) (label : List ℕ) (number : ℕ) (report : List ℕ)
    (new : Reached) : Type 0 where
  m : ℕ
  is : m ≡ party_number label r.state.declared.members
  there : m < length r.state.declared.members
  text : report ≡ labelled_news (labels_at r) label number
      (news_in (watch_of number (watchers_at r.state m)) (catalogue_at (group_at env r) m))
  watchers : watchers_at new.state m
      ≡ after_take number (catalogue_at (group_at env r) m) (watchers_at r.state m)
  begun : new.state.declared.events ≡ true
  members : new.state.declared.members ≡ r.state.declared.members

printed_line : (env : RunEnvironment) (r : Reached) (label : List ℕ) (number : ℕ) (report : List ℕ) (new : Reached)
    → IsSoundState env r.state → IsAnnouncingLine env r label number report new
    → IsPrintedSo env r label number report new
printed_line env r label number report new sound l =
    let s : State = r.state in
    let stated : Stated = statement verb.Told (Text label ∷ Number number ∷ []) in
    let t = stated_taken env s l.line report new.state stated l.stated
    (taken_line env r l.line report new l.taken) in
    let event = event_line s.declared t.d stated t.after in
    let same : t.d.members ≡ s.declared.members = ap (λ (x : Declared). x.members) event.is in
    let m : ℕ = party_number label t.d.members in
    let is : m ≡ party_number label s.declared.members = ap (party_number label) same in
    let named : IsNumberOf label s.declared.members (party_number label s.declared.members) =
    named_by label s.declared.members (and_left (has_label label s.declared.members) _ event.known) in
    let there : m < length s.declared.members =
    subst (λ (n : ℕ). n < length s.declared.members) (sym is) named.there in
    let entries : List Entry = catalogue_at (group_at env r) m in
    let news : List Entry = news_in (watch_of number (watchers_at s m)) entries in
    let printed = printed_at_so env s t.d m number report new.state t.is in
    record {
      m = m;
      is = is;
      there = there;
      text = printed.text
          ∙ (λ i. labelled_news (map party_label (same i)) (label_at (map party_label (same i)) (is i)) number news)
          ∙ ap (λ (l : List ℕ). labelled_news (labels_at r) l number news) named.labelled;
      watchers = ap (λ (x : State). watchers_at x m) printed.next
          ∙ get_or-set_same s.watchers m (after_take number entries (watchers_at s m)) []
          (omega (arith, there, sound.watched));
      begun = ap (λ (x : State). x.declared.events) printed.next ∙ ap (λ (x : Declared). x.events) event.is;
      members = ap (λ (x : State). x.declared.members) printed.next ∙ same;
    }

-- ---- publications of entries

pub listed_among : (entries : List Entry) (pair : Pair) → contains pair_cmp (map publication_of entries) pair
    ≡ lists pair entries
listed_among [] pair = refl
listed_among (e ∷ es) pair = go (is_of pair e) (listed_among es pair) where
  go : (b : Bool) → contains pair_cmp (map publication_of es) pair ≡ lists pair es
      → (b || contains pair_cmp (map publication_of es) pair) ≡ is_some (cond b (Some e) (entry_of pair es))
  go true rest = refl
  go false rest = rest

pub contains_news : (o : Option Watching) (entries : List Entry) (pair : Pair)
    → contains pair_cmp (news_of o entries) pair ≡ lists pair (news_in o entries)
contains_news o entries pair =
    ap (λ (ps : List Pair). contains pair_cmp ps pair) (news_pairs o entries) ∙ listed_among (news_in o entries) pair

-- ---- the laws

pub news_is_announced_once : NewsIsAnnouncedOnce
news_is_announced_once env lines reports r taken label number first new l between printed here after later last k =
    let sound : IsSoundState env r.state = sound_from_start env lines reports r taken in
    let sound_new : IsSoundState env new.state =
    sound_lines env r (l.line ∷ []) (first ∷ []) new (new, l.taken, refl) sound in
    let sound_here : IsSoundState env here.state = sound_lines env new between printed here after sound_new in
    let a = printed_line env r label number first new sound l in
    let b = printed_line env here label number later last sound_here k in
    let run = lines_run env new between printed here after sound_new a.begun in
    let members : here.state.declared.members ≡ r.state.declared.members = run.members ∙ a.members in
    let same : b.m ≡ a.m = b.is ∙ ap (party_number label) members ∙ sym a.is in
    let asked = lines_ask env new between printed here after sound_new a.begun a.m in
    let ws : List Watching = watchers_at r.state a.m in
    let es : List Entry = catalogue_at (group_at env r) a.m in
    let fs : List Entry = catalogue_at (group_at env here) b.m in
    let now : watchers_at here.state b.m ≡ after_watch_calls asked.calls (after_take number es ws) =
    ap (λ (n : ℕ). watchers_at here.state n) same ∙ asked.are ∙ ap (after_watch_calls asked.calls) a.watchers in
    record {
      entries = news_in (watch_of number ws) es;
      others = news_in (watch_of number (watchers_at here.state b.m)) fs;
      first_is = a.text;
      later_is = b.text ∙ ap (λ (ps : List Party). labelled_news (map party_label ps) label number
          (news_in (watch_of number (watchers_at here.state b.m)) fs)) members;
      apart = λ pair listed.
          sym (contains_news (watch_of number (watchers_at here.state b.m)) fs pair)
          ∙ ap (λ (xs : List Watching). contains pair_cmp (tells number fs xs) pair) now
          ∙ announced_once ws number es asked.calls fs pair (contains_news (watch_of number ws) es pair ∙ listed);
    }

pub news_is_announced_whole : NewsIsAnnouncedWhole
news_is_announced_whole env lines reports r taken m number watching report new t pair listed others printed last after =
    let sound : IsSoundState env r.state = sound_from_start env lines reports r taken in
    let sound_new : IsSoundState env new.state =
    sound_lines env r (t.line.line ∷ []) (report ∷ []) new (new, t.line.taken, refl) sound in
    let parties : List Party = r.state.declared.members in
    let a = printed_line env r t.label number report new sound t.line in
    let there : m < length parties = omega (arith, t.there, length-map parties party_label) in
    let same : a.m ≡ m =
    a.is ∙ ap (λ (l : List ℕ). party_number l parties) (sym t.named) ∙ number_of parties m sound.labels there in
    let es : List Entry = catalogue_at (group_at env r) m in
    let taken_it : watchers_at new.state m ≡ after_take number es (watchers_at r.state m) =
    subst (λ (n : ℕ). watchers_at new.state n
    ≡ after_take number (catalogue_at (group_at env r) n) (watchers_at r.state n)) same a.watchers in
    let asked = lines_ask env new others printed last after sound_new a.begun m in
    ap (λ (ws : List Watching). was_announced (watch_of number ws) pair)
    (asked.are ∙ ap (after_watch_calls asked.calls) taken_it)
    ∙ all_announced (watchers_at r.state m) number es asked.calls watching pair t.watcher
    (listed_among (filter (is_for watching.pattern) es) pair ∙ listed)

pub settled_are_announced : SettledAreAnnounced
settled_are_announced env before settle workers between reports r taken kept settles changes m number watching report
    new
    t
    pair listed =
    let sound : IsSoundState env r.state = sound_from_start env (before ++ settle ∷ between) reports r taken in
    let all : AllJoined (group_at env r) =
    joined_after env before settle workers between reports r taken kept settles changes in
    let there : m < length (group_at env r).members =
    omega (arith, t.there, length-map r.state.declared.members party_label, sound.many) in
    news_is_announced_whole env (before ++ settle ∷ between) reports r taken m number watching report new t pair
    (ap (λ (es : List Entry). lists pair (filter (is_for watching.pattern) es)) (all m there) ∙ listed) [] [] new refl
