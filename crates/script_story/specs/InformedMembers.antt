-- Which members and mirrors a report names.
use Rattle.std.specs.Prelude.{ℕ, ◌≡◌, ◌<◌, true, List, [], length, map}
use Rattle.std.specs.List.{All}
use Rattle.script_lang.specs.Checking.{is_mirror, party_label}
use Rattle.script_report.specs.Texts.{mdeliver_text, mfetch_text, watch_text}
use Rattle.repo_catalog.specs.declared.entry.Entry.{Entry}
use Rattle.bench_world.specs.EventValues.{ReportValue}
use Rattle.bench_world.specs.Steps.{NamesInRange}
use Rattle.script_report.specs.Labels.{label_at}
use Rattle.script_story.specs.ReportTexts.{listing_text, news_text, report_text}
use Rattle.script_story.specs.Evaluation.{RunEnvironment}
use Rattle.script_story.specs.ScriptRun.{Reached}
use Rattle.script_story.specs.Headline.{AreTakenFirst, LineIsTaken}

-- A report is empty, or each member that it names has one of `labels`, and each mirror one of `mirrors`. Members are
-- named in the reports of events, of new watchers and of watchers' news. Mirrors are named where a report says what
-- they hear, fetch or list; what they list only members published.
pub data NamesOnlyMembers (labels mirrors : List (List ℕ)) (report : List ℕ) : Type 0 where
  silent : report ≡ [] → NamesOnlyMembers labels mirrors report
  tells : (printed : ReportValue) → report ≡ report_text labels printed → NamesInRange (length labels) printed
      → NamesOnlyMembers labels mirrors report
  watches : (m number : ℕ) → report ≡ watch_text (label_at labels m) number → m < length labels
      → NamesOnlyMembers labels mirrors report
  reports_news : (m number : ℕ) (entries : List Entry) → report ≡ news_text labels m number entries → m < length labels
      → All (λ e. e.publisher < length labels) entries → NamesOnlyMembers labels mirrors report
  mirror_hears : (k : ℕ) (label : List ℕ) → report ≡ mdeliver_text k label → is_mirror label mirrors ≡ true
      → NamesOnlyMembers labels mirrors report
  mirror_fetches : (label : List ℕ) (planned kept attempts : ℕ) → report ≡ mfetch_text label planned kept attempts
      → is_mirror label mirrors ≡ true → NamesOnlyMembers labels mirrors report
  mirror_lists : (label : List ℕ) (entries : List Entry) → report ≡ listing_text labels label entries
      → is_mirror label mirrors ≡ true → All (λ e. e.publisher < length labels) entries
      → NamesOnlyMembers labels mirrors report

-- The report of each line that is taken names only members and mirrors that lines declared.
abbrev pub ReportsNameOnlyMembers : Type 0
ReportsNameOnlyMembers = (env : RunEnvironment) (lines reports : List (List ℕ)) (r : Reached)
    → AreTakenFirst env lines reports r → (line report : List ℕ) (new : Reached)
    → LineIsTaken env r line report new
    → NamesOnlyMembers (map party_label new.state.declared.members) new.state.declared.mirrors report
