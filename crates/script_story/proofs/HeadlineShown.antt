-- What the text of a script that is done shows for its `catalogue` lines.
use Rattle.std.proofs.Common.{◌≡◌, ◌∙◌, ℕ, ◌+◌, true, not, List, [], ◌∷◌, ◌++◌, append_assoc, refl}
use Rattle.std.proofs.Common.{sym}
use Rattle.std.proofs.Common.{ap, subst, Option, Some, None, Result, Ok, Err}
use Rattle.std.specs.List.{concat, list_all}
use Rattle.std.proofs.lemmas.Bool.{and_from}
use Rattle.std.proofs.lemmas.List.{append-nil}
use Rattle.std.proofs.lemmas.List.Folds.{concat-append}
use Rattle.group_model.specs.Laws.{AllJoined, NothingDeleted}
use Rattle.script_lang.specs.declared.line_fault.LineFault.{LineFault}
use Rattle.script_lang.specs.declared.verb.Verb.{Verb}
use Rattle.script_lang.specs.declared.verb.Verb.TheVariants as verb
use Rattle.script_lang.specs.Kinds.{Number}
use Rattle.script_lang.specs.Forms.{Stated, statement}
use Rattle.script_lang.specs.Lines.{line_of}
use Rattle.script_lang.proofs.Conditions.{and_left, and_right}
use Rattle.script_story.specs.declared.ending.Ending.{Ending}
use Rattle.script_story.specs.declared.ending.Ending.TheVariants.{Done}
use Rattle.repo_io.specs.Lines.{lines}
use Rattle.script_story.specs.Evaluation.{RunEnvironment, Verdict, accepted, foreign, not_evaluated}
use Rattle.script_story.specs.Evaluation as verdict
use Rattle.script_story.specs.ScriptRun.{Reached, ScriptRun, evaluated_next, nothing_reached, run_of}
use Rattle.script_story.specs.Headline.{LinesAreTaken, AreTakenFirst, EndsBy, EndsWith, IsCatalogueLine, IsJoined}
use Rattle.script_story.specs.Headline.{IsSameGroup, IsReportOf, Says, changes_nothing, deletes, deletes_nothing}
use Rattle.script_story.specs.Headline.{group_at, only_prints}
use Rattle.script_story.specs.ShownCatalogues.{CatalogueLinesShow, SettleLinesShow, ShowsCatalogue}
use Rattle.script_story.proofs.HeadlineLines.{each_is_taken, held_shapes}
use Rattle.script_story.proofs.HeadlineCatalogues.{prints_catalogues}
use Rattle.script_story.proofs.HeadlineDeletions.{hides_by_deletion_alone}
use Rattle.script_story.proofs.HeadlineSettles.{lines_tell, settles_join}
use Rattle.script_story.proofs.HeadlineChecks.{members_hold_checked}

-- ---- a script that is done

-- All lines of the script are taken, and the text is their reports.
record AllTaken (env : RunEnvironment) (script : List (List ℕ)) (text : List ℕ) : Type 0 where
  reports : List (List ℕ)
  last : Reached
  taken : AreTakenFirst env script reports last
  text_is : text ≡ concat reports

not_done : (number : ℕ) (v : Verdict) (text : List ℕ) (ending : Ending) → EndsBy number v text ending → ending ≡ Done
    → ⊥
not_done number (accepted report next) text ending ends done = ends
not_done number (verdict.refused why) text ending ends done = let one = sym ends.1 ∙ done in cc
not_done number foreign text ending ends done = let one = sym ends.1 ∙ done in cc
not_done number not_evaluated text ending ends done = ends

done_taken : (env : RunEnvironment) (script : List (List ℕ)) (s : ScriptRun) → IsReportOf env nothing_reached script s
    → s.ending ≡ Done → AllTaken env script s.text
done_taken env script s printed done = go printed.others printed.lines printed.ends where
  go : (others : List (List ℕ)) → script ≡ printed.first ++ others
      → EndsWith env printed.last others printed.end s.ending → AllTaken env script s.text
  go [] cut ends =
      let whole : script ≡ printed.first = cut ∙ append-nil printed.first in
      record {
        reports = printed.reports;
        last = printed.last;
        taken = subst (λ (ls : List (List ℕ)). AreTakenFirst env ls printed.reports printed.last) (sym whole)
            printed.taken;
        text_is = printed.text ∙ ap (λ (end : List ℕ). concat printed.reports ++ end) ends.0
            ∙ append-nil (concat printed.reports);
      }
  go (line ∷ others) cut ends =
      absurd (not_done (printed.last.lines + 1) (evaluated_next env printed.last line) printed.end s.ending ends done)

pub catalogue_lines_show : CatalogueLinesShow
catalogue_lines_show env input before line others label done cut stated =
    let s : ScriptRun = run_of env input in
    let all = done_taken env (lines input) s (held_shapes env nothing_reached (lines input)) done in
    let taken : LinesAreTaken env nothing_reached (before ++ line ∷ others) all.reports all.last =
    subst (λ (ls : List (List ℕ)). LinesAreTaken env nothing_reached ls all.reports all.last) cut all.taken in
    let amid = each_is_taken env nothing_reached before line others all.reports all.last taken in
    let it : IsCatalogueLine env amid.here label amid.report amid.new =
    record { line = line; stated = stated; taken = amid.it } in
    let shown = prints_catalogues env before amid.printed amid.here amid.before_it label amid.report amid.new it in
    record {
      here = amid.here;
      reports = amid.printed;
      taken = amid.before_it;
      report = amid.report;
      rest = concat amid.later;
      text_is = all.text_is ∙ ap (λ (rs : List (List ℕ)). concat rs) amid.reports_are
          ∙ concat-append amid.printed (amid.report ∷ amid.later);
      shown = shown;
      checked = members_hold_checked env before amid.printed amid.here amid.before_it shown.number shown.there;
    }

-- ---- a settle

-- What changes nothing deletes nothing.
reports_or_deletes : (form : Verb) → only_prints form ≡ true → not (deletes form) ≡ true
reports_or_deletes verb.Delete only = cc
reports_or_deletes verb.Order only = cc
reports_or_deletes form only = refl

spares : (r : Result (Option Stated) LineFault) → changes_nothing r ≡ true → deletes_nothing r ≡ true
spares (Ok None) h = refl
spares (Ok (Some stated)) h = reports_or_deletes stated.verb h
spares (Err fault) h = refl

all_spare : (ls : List (List ℕ)) → list_all (λ l. changes_nothing (line_of l)) ls ≡ true
    → list_all (λ l. deletes_nothing (line_of l)) ls ≡ true
all_spare [] h = refl
all_spare (l ∷ ls) h =
    and_from (deletes_nothing (line_of l)) _ (spares (line_of l) (and_left (changes_nothing (line_of l)) _ h))
    (all_spare ls (and_right (changes_nothing (line_of l)) _ h))

all_both : (cs bs : List (List ℕ)) → list_all (λ l. deletes_nothing (line_of l)) cs ≡ true
    → list_all (λ l. deletes_nothing (line_of l)) bs ≡ true
    → list_all (λ l. deletes_nothing (line_of l)) (cs ++ bs) ≡ true
all_both [] bs h k = k
all_both (a ∷ cs) bs h k =
    and_from (deletes_nothing (line_of a)) _ (and_left (deletes_nothing (line_of a)) _ h)
    (all_both cs bs (and_right (deletes_nothing (line_of a)) _ h) k)

settle_spares : (settle : List ℕ) (workers : ℕ) → Says settle (statement verb.Settle (Number workers ∷ []))
    → deletes_nothing (line_of settle) ≡ true
settle_spares settle workers stated = ap deletes_nothing stated

-- Right after a `settle` line, where nothing can have been deleted, the catalogues are joined.
pub joined_after : (env : RunEnvironment) (before : List (List ℕ)) (settle : List ℕ) (workers : ℕ)
    (between reports : List (List ℕ)) (r : Reached) → AreTakenFirst env (before ++ settle ∷ between) reports r
    → list_all (λ l. deletes_nothing (line_of l)) before ≡ true
    → Says settle (statement verb.Settle (Number workers ∷ []))
    → list_all (λ l. changes_nothing (line_of l)) between ≡ true → AllJoined (group_at env r)
joined_after env before settle workers between reports r taken kept settles between_reports =
    let amid = each_is_taken env nothing_reached before settle between reports r taken in
    let tells : IsSameGroup env amid.new r =
    lines_tell env amid.new between amid.later r amid.after_it between_reports in
    let no_deletion : list_all (λ l. deletes_nothing (line_of l)) (before ++ settle ∷ between) ≡ true =
    all_both before (settle ∷ between) kept
    (and_from (deletes_nothing (line_of settle)) _ (settle_spares settle workers settles)
    (all_spare between between_reports)) in
    let hidden : NothingDeleted (group_at env amid.new) =
    subst NothingDeleted tells.group
    (hides_by_deletion_alone env (before ++ settle ∷ between) reports r taken no_deletion) in
    let joined : IsJoined env amid.new =
    settles_join env before amid.printed amid.here amid.before_it amid.report amid.new
    (record { line = settle; workers = workers; stated = settles; taken = amid.it }) hidden in
    subst AllJoined (sym tells.group) joined.all

pub settle_lines_show : SettleLinesShow
settle_lines_show env input before settle workers between line others label done cut kept settles between_reports
    stated =
    let first : List (List ℕ) = before ++ settle ∷ between in
    let same : first ++ line ∷ others ≡ before ++ settle ∷ (between ++ line ∷ others) =
    append_assoc before (settle ∷ between) (line ∷ others) in
    let c : ShowsCatalogue env first label (run_of env input).text =
    catalogue_lines_show env input first line others label done (cut ∙ sym same) stated in
    let all : AllJoined (group_at env c.here) =
    joined_after env before settle workers between c.reports c.here c.taken kept settles between_reports in
    record { catalogue = c; joined = all c.shown.number c.shown.there }
