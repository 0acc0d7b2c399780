-- What watchers are given over whole runs.
use Rattle.std.specs.Prelude.{ℕ, ◌≡◌, ◌<◌, ◌⊎◌, true, false, List, [], ◌∷◌, ◌++◌, length, Some, None}
use Rattle.std.specs.List.{filter, list_all}
use Rattle.repo_plan.specs.Parts.{Pair}
use Rattle.repo_catalog.specs.declared.entry.Entry.{Entry}
use Rattle.repo_catalog.specs.Entries.{lists}
use Rattle.repo_watch.specs.Watching.{Watching, is_for, watch_of}
use Rattle.repo_watch.specs.Laws.{was_announced}
use Rattle.group_model.specs.Publications.{join_of}
use Rattle.group_model.specs.World.{catalogue_at, logs}
use Rattle.script_lang.specs.declared.verb.Verb.TheVariants as verb
use Rattle.script_lang.specs.Kinds.{Text, Number}
use Rattle.script_lang.specs.Forms.{statement}
use Rattle.script_lang.specs.Lines.{line_of}
use Rattle.script_report.specs.Labels.{label_at}
use Rattle.script_story.specs.ReportTexts.{labelled_news}
use Rattle.script_story.specs.Evaluation.{RunEnvironment, watchers_at}
use Rattle.script_story.specs.ScriptRun.{Reached}
use Rattle.script_story.specs.Headline.{AreTakenFirst, LineIsTaken, LinesAreTaken, Says, changes_nothing}
use Rattle.script_story.specs.Headline.{deletes_nothing, group_at, labels_at}

-- A `told` line of this label and number that is taken.
pub record IsAnnouncingLine (env : RunEnvironment) (r : Reached) (label : List ℕ) (number : ℕ) (report : List ℕ)
    (new : Reached) : Type 0 where
  pub line : List ℕ
  pub stated : Says line (statement verb.Told (Text label ∷ Number number ∷ []))
  pub taken : LineIsTaken env r line report new

-- Two reports announce entries to the watcher of this number, and no publication has an entry in both.
pub record TellApart (labels : List (List ℕ)) (label : List ℕ) (number : ℕ) (first later : List ℕ) : Type 0 where
  pub entries : List Entry
  pub others : List Entry
  pub first_is : first ≡ labelled_news labels label number entries
  pub later_is : later ≡ labelled_news labels label number others
  pub apart : (pair : Pair) → lists pair entries ≡ true → lists pair others ≡ false

-- No two `told` lines of a watcher report entries of one publication, whatever lines stand between them.
abbrev pub NewsIsAnnouncedOnce : Type 0
NewsIsAnnouncedOnce = (env : RunEnvironment) (lines reports : List (List ℕ)) (r : Reached)
    → AreTakenFirst env lines reports r → (label : List ℕ) (number : ℕ) (first : List ℕ) (new : Reached)
    → IsAnnouncingLine env r label number first new → (between printed : List (List ℕ)) (here : Reached)
    → LinesAreTaken env new between printed here → (later : List ℕ) (last : Reached)
    → IsAnnouncingLine env here label number later last → TellApart (labels_at r) label number first later

-- A `told` line of the watcher `number` of member `m`, which is `watching` before the line.
pub record IsAnnouncedTo (env : RunEnvironment) (r : Reached) (m number : ℕ) (watching : Watching) (report : List ℕ)
    (new : Reached) : Type 0 where
  pub label : List ℕ
  pub line : IsAnnouncingLine env r label number report new
  pub there : m < length (labels_at r)
  pub named : label_at (labels_at r) m ≡ label
  pub watcher : watch_of number (watchers_at r.state m) ≡ Some watching

-- The watcher of a member was given the publication, or counts it as reported.
abbrev pub IsAmongAnnounced : Reached → ℕ → ℕ → Pair → Type 0
IsAmongAnnounced r m number pair = was_announced (watch_of number (watchers_at r.state m)) pair ≡ true

-- After a `told` line everything in the member's catalogue that the watcher asks for is reported, and stays so.
abbrev pub NewsIsAnnouncedWhole : Type 0
NewsIsAnnouncedWhole = (env : RunEnvironment) (lines reports : List (List ℕ)) (r : Reached)
    → AreTakenFirst env lines reports r → (m number : ℕ) (watching : Watching) (report : List ℕ) (new : Reached)
    → IsAnnouncedTo env r m number watching report new
    → (pair : Pair) → lists pair (filter (is_for watching.pattern) (catalogue_at (group_at env r) m)) ≡ true
    → (others printed : List (List ℕ)) (last : Reached) → LinesAreTaken env new others printed last
    → IsAmongAnnounced last m number pair

-- The line is a `told` line of the watcher `number` of member `m`, and its report prints an entry of the publication.
pub record PrintsFor (r : Reached) (line report : List ℕ) (m number : ℕ) (pair : Pair) : Type 0 where
  pub label : List ℕ
  pub stated : Says line (statement verb.Told (Text label ∷ Number number ∷ []))
  pub named : label_at (labels_at r) m ≡ label
  pub entries : List Entry
  pub text : report ≡ labelled_news (labels_at r) label number entries
  pub listed : lists pair entries ≡ true

-- There was no such watcher before the line, and the member lists the publication.
pub record IsListedAtFirst (env : RunEnvironment) (r : Reached) (m number : ℕ) (pair : Pair) : Type 0 where
  pub none : watch_of number (watchers_at r.state m) ≡ None
  pub listed : lists pair (catalogue_at (group_at env r) m) ≡ true

-- What counts as reported to a watcher after a line counted so before it; or the line printed it for the watcher; or
-- the line made the watcher, and the member listed it.
abbrev pub ReportedIsPrinted : Type 0
ReportedIsPrinted = (env : RunEnvironment) (lines reports : List (List ℕ)) (r : Reached)
    → AreTakenFirst env lines reports r → (line report : List ℕ) (new : Reached) → LineIsTaken env r line report new
    → (m number : ℕ) (pair : Pair) → IsAmongAnnounced new m number pair
    → IsAmongAnnounced r m number pair
    ⊎ (PrintsFor r line report m number pair ⊎ IsListedAtFirst env r m number pair)

-- Where a `told` line stands after a `settle` line, no line before the `settle` line can have deleted anything, and the
-- lines between change nothing, everything in the join of all publications that the watcher asks for is reported.
abbrev pub SettledAreAnnounced : Type 0
SettledAreAnnounced = (env : RunEnvironment) (before : List (List ℕ)) (settle : List ℕ) (workers : ℕ)
    (between reports : List (List ℕ)) (r : Reached)
    → AreTakenFirst env (before ++ settle ∷ between) reports r
    → list_all (λ line. deletes_nothing (line_of line)) before ≡ true
    → Says settle (statement verb.Settle (Number workers ∷ []))
    → list_all (λ line. changes_nothing (line_of line)) between ≡ true
    → (m number : ℕ) (watching : Watching) (report : List ℕ) (new : Reached)
    → IsAnnouncedTo env r m number watching report new
    → (pair : Pair) → lists pair (filter (is_for watching.pattern) (join_of (logs (group_at env r)))) ≡ true
    → IsAmongAnnounced new m number pair
