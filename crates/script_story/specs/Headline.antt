-- What the report of a script says of its group. A run is defined by the lines that are taken, each with its own
-- report. What stands in the report of a `catalogue` line is said in the words of the group that the lines before it
-- reach: its members, what they published, hold and have deleted.
use Rattle.std.specs.Prelude.{ℕ, ◌+◌, ◌≡◌, ◌≤◌, ◌<◌, ◌⊎◌, ◌↔◌, Bool, true, false, not, List, [], ◌∷◌, ◌++◌, map, length}
use Rattle.std.specs.Prelude.{Option, Some, None, is_some, Result, Ok, Err}
use Rattle.std.specs.List.{All, IsDistinct, concat, list_all}
use Rattle.std.specs.Str.{bytes_eq}
use Rattle.repo_plan.specs.Parts.{Pair, part_of}
use Rattle.repo_object.specs.Objects.{offered}
use Rattle.repo_catalog.specs.declared.entry.Entry.{Entry}
use Rattle.repo_catalog.specs.Entries.{IsCatalogue, lists, publication_of}
use Rattle.group_model.specs.Publications.{Logs, Publication, count, join_of, post_at, published_entry}
use Rattle.group_model.specs.Member.{member_holds, has_deleted}
use Rattle.group_model.specs.World.{World, catalogue_at, logs, member}
use Rattle.group_model.specs.Sound.{IsPublished, IsSoundGroup}
use Rattle.group_model.specs.Catalogues.{HoldsNoWithdrawal}
use Rattle.group_model.specs.Laws.{AllJoined, NothingDeleted}
use Rattle.repo_member.specs.InGroup.{AreLogs}
use Rattle.script_lang.specs.declared.line_fault.LineFault.{LineFault}
use Rattle.script_lang.specs.declared.verb.Verb.{Verb}
use Rattle.script_lang.specs.declared.verb.Verb.TheVariants as verb
use Rattle.script_lang.specs.Kinds.{Text, Number}
use Rattle.script_lang.specs.Forms.{Stated, statement}
use Rattle.script_lang.specs.Lines.{line_of}
use Rattle.script_lang.specs.Checking.{party_label}
use Rattle.script_report.specs.Texts.{catalogue_text, foreign_text}
use Rattle.script_story.specs.declared.ending.Ending.{Ending}
use Rattle.script_story.specs.declared.ending.Ending.TheVariants.{Done, Refused, Foreign}
use Rattle.script_report.specs.Refusals.{refusal_number, refusal_text}
use Rattle.script_report.specs.Labels.{label_at, publisher_label}
use Rattle.script_story.specs.Evaluation.{RunEnvironment, Verdict, accepted, foreign, not_evaluated, found_world}
use Rattle.script_story.specs.Evaluation as verdict
use Rattle.script_story.specs.ScriptRun.{Reached, ScriptRun, reached_after, after_text, evaluated_next, nothing_reached}
use Rattle.script_story.specs.ScriptRun.{run_from}

-- ---- lines that are taken

-- A line is taken: it has this report, and this is reached after it.
pub record LineIsTaken (env : RunEnvironment) (r : Reached) (line report : List ℕ) (new : Reached) : Type 0 where
  pub verdict : evaluated_next env r line ≡ accepted report new.state
  pub reached : new ≡ reached_after r line report new.state

-- Lines are taken one after the other: these are their reports, line by line, and this is reached after the last.
abbrev pub LinesAreTaken : RunEnvironment → Reached → List (List ℕ) → List (List ℕ) → Reached → Type 0
LinesAreTaken env r [] [] last = last ≡ r
LinesAreTaken env r (line ∷ lines) (report ∷ reports) last =
    (next : Reached) × LineIsTaken env r line report next × LinesAreTaken env next lines reports last
LinesAreTaken env r lines reports last = ⊥

-- The first lines of a script are taken one after the other, with these reports, and `last` is reached after them.
abbrev pub AreTakenFirst : RunEnvironment → List (List ℕ) → List (List ℕ) → Reached → Type 0
AreTakenFirst env lines reports last = LinesAreTaken env nothing_reached lines reports last

-- One line amid those that are taken: what was reached and reported before it, and what follows it.
pub record IsTakenAmid (env : RunEnvironment) (r : Reached) (before : List (List ℕ)) (line : List ℕ)
    (others reports : List (List ℕ)) (last : Reached) : Type 0 where
  pub here : Reached
  pub new : Reached
  pub printed : List (List ℕ)
  pub report : List ℕ
  pub later : List (List ℕ)
  pub reports_are : reports ≡ printed ++ report ∷ later
  pub before_it : LinesAreTaken env r before printed here
  pub it : LineIsTaken env here line report new
  pub after_it : LinesAreTaken env new others later last

-- ---- runs

-- How a run ends after a line of this number with this verdict: an accepted line ends none, and each line is evaluated.
abbrev pub EndsBy : ℕ → Verdict → List ℕ → Ending → Type 0
EndsBy number (accepted report next) text ending = ⊥
EndsBy number (verdict.refused why) text ending =
    (text ≡ refusal_text number why) × (ending ≡ Refused number (refusal_number why))
EndsBy number foreign text ending = (text ≡ foreign_text number) × (ending ≡ Foreign number)
EndsBy number not_evaluated text ending = ⊥

-- How a run ends where these lines are not taken: there are none, or the first of them is refused or foreign, and its
-- number is written.
abbrev pub EndsWith : RunEnvironment → Reached → List (List ℕ) → List ℕ → Ending → Type 0
EndsWith env r [] text ending = (text ≡ []) × (ending ≡ Done)
EndsWith env r (line ∷ others) text ending = EndsBy (r.lines + 1) (evaluated_next env r line) text ending

-- A run, by its lines: the first ones are taken, and the text is their reports and what is written of the next
-- line, which is refused or foreign. The names, keys, world and mirrors are those after the last line that is taken.
pub record IsReportOf (env : RunEnvironment) (r : Reached) (script : List (List ℕ)) (s : ScriptRun) : Type 0 where
  pub first : List (List ℕ)
  pub others : List (List ℕ)
  pub reports : List (List ℕ)
  pub last : Reached
  pub end : List ℕ
  pub lines : script ≡ first ++ others
  pub taken : LinesAreTaken env r first reports last
  pub number : last.lines ≡ r.lines + length first
  pub ends : EndsWith env last others end s.ending
  pub text : s.text ≡ concat reports ++ end
  pub keys : s.keys ≡ last.state.keys
  pub world : s.world ≡ last.state.world
  pub mirrors : s.mirrors ≡ last.state.mirrors

-- ---- the group that is reached

-- The group that is reached. Before the first event its members have nothing.
abbrev pub group_at : RunEnvironment → Reached → World
group_at env r = found_world env r.state

-- The labels of the members, in the order of their numbers.
abbrev pub labels_at : Reached → List (List ℕ)
labels_at r = map party_label r.state.declared.members

-- A sound group of the declared members, no two under one label. After the group's line, what they published is what
-- members of that group can publish: objects within the limits, and withdrawals of earlier numbers.
pub record IsGroupOfLines (env : RunEnvironment) (r : Reached) : Type 0 where
  pub sound : IsSoundGroup (group_at env r)
  pub members : length (group_at env r).members ≡ length (labels_at r)
  pub names : length r.state.keys.members.names ≡ length (labels_at r)
  pub labels : IsDistinct bytes_eq (labels_at r)
  pub published : r.state.declared.group ≡ true → AreLogs r.state.keys (logs (group_at env r))

-- ---- catalogues

-- The octets are a line that states this.
abbrev pub Says : List ℕ → Stated → Type 0
Says line stated = line_of line ≡ Ok (Some stated)

-- The publication of a publisher and a number.
abbrev pub publication_at : Logs → Pair → Publication
publication_at logs pair = record { publisher = pair.0; seq = pair.1; post = post_at logs pair }

-- The member holds every part of the publication.
abbrev pub HoldsAllOf : World → ℕ → Pair → Type 0
HoldsAllOf w m pair = (x : ℕ) → x ≤ count (logs w) pair → member_holds (member w m) (part_of pair x) ≡ true

-- What a member's catalogue is to list: an object that was published, that the member hasn't deleted, that it published
-- itself or holds whole, and of whose withdrawals it holds no record.
pub record IsToBeListed (w : World) (m : ℕ) (pair : Pair) : Type 0 where
  pub published : IsPublished (logs w) pair
  pub object : is_some (offered (post_at (logs w) pair)) ≡ true
  pub undeleted : has_deleted (member w m) pair ≡ false
  pub had : (pair.0 ≡ m) ⊎ HoldsAllOf w m pair
  pub not_withdrawn : HoldsNoWithdrawal (logs w) (member w m) pair

-- The entries list exactly the objects that the catalogue of member `m` is to list, each once under its publisher and
-- number, in order; and each entry is that of its object.
pub record ListExactly (w : World) (m : ℕ) (entries : List Entry) : Type 0 where
  pub exactly : (pair : Pair) → (lists pair entries ≡ true) ↔ IsToBeListed w m pair
  pub in_order : IsCatalogue entries
  pub printed : All (λ e. e ≡ published_entry (publication_at (logs w) (publication_of e))) entries

-- Entries are printed under the label of a member, each with the label of its publisher.
abbrev pub printed_entries : List (List ℕ) → List ℕ → List Entry → List ℕ
printed_entries labels label entries =
    catalogue_text label (length entries) (map (publisher_label labels) entries) entries

-- The report is the catalogue of the member with this label.
pub record IsCatalogueOf (w : World) (labels : List (List ℕ)) (label report : List ℕ) : Type 0 where
  pub number : ℕ
  pub there : number < length w.members
  pub named : label_at labels number ≡ label
  pub text : report ≡ printed_entries labels label (catalogue_at w number)
  pub rightly : ListExactly w number (catalogue_at w number)

-- ---- forms of line

-- A `catalogue` line of this label that is taken.
pub record IsCatalogueLine (env : RunEnvironment) (r : Reached) (label report : List ℕ) (new : Reached) : Type 0 where
  pub line : List ℕ
  pub stated : Says line (statement verb.Catalogue (Text label ∷ []))
  pub taken : LineIsTaken env r line report new

-- A `settle` line that is taken.
pub record IsSettleLine (env : RunEnvironment) (r : Reached) (report : List ℕ) (new : Reached) : Type 0 where
  pub line : List ℕ
  pub workers : ℕ
  pub stated : Says line (statement verb.Settle (Number workers ∷ []))
  pub taken : LineIsTaken env r line report new

-- These forms change nothing of the group: they say what there is, or they are of watchers or of mirrors.
abbrev pub only_prints : Verb → Bool
only_prints verb.Sync = true
only_prints verb.Vector = true
only_prints verb.Catalogue = true
only_prints verb.Dump = true
only_prints verb.Ask = true
only_prints verb.Watch = true
only_prints verb.Told = true
only_prints verb.Mdeliver = true
only_prints verb.Mfetch = true
only_prints verb.Mcatalogue = true
only_prints verb.Summary = true
only_prints verb.Traffic = true
only_prints other = false

-- The line changes nothing of the group: it states nothing, or `only_prints` is true of its verb.
abbrev pub changes_nothing : Result (Option Stated) LineFault → Bool
changes_nothing (Ok None) = true
changes_nothing (Ok (Some stated)) = only_prints stated.verb
changes_nothing (Err fault) = false

-- The group is the same, and so are the labels.
pub record IsSameGroup (env : RunEnvironment) (r new : Reached) : Type 0 where
  pub group : group_at env new ≡ group_at env r
  pub labels : labels_at new ≡ labels_at r

-- These forms can delete: an `order` line may bring a command to delete.
abbrev pub deletes : Verb → Bool
deletes verb.Delete = true
deletes verb.Order = true
deletes other = false

-- The line can delete nothing.
abbrev pub deletes_nothing : Result (Option Stated) LineFault → Bool
deletes_nothing (Ok None) = true
deletes_nothing (Ok (Some stated)) = not (deletes stated.verb)
deletes_nothing (Err fault) = true

-- ---- what is promised

-- Where the first lines of a script are taken, its run begins with their reports.
abbrev pub BeginsWithReports : Type 0
BeginsWithReports = (env : RunEnvironment) (first others reports : List (List ℕ)) (r : Reached)
    → AreTakenFirst env first reports r
    → run_from env nothing_reached (first ++ others) ≡ after_text (concat reports) (run_from env r others)

-- Each of the lines that are taken has its report at its place.
abbrev pub EachIsTaken : Type 0
EachIsTaken = (env : RunEnvironment) (r : Reached) (before : List (List ℕ)) (line : List ℕ)
    (others reports : List (List ℕ))
    (last : Reached) → LinesAreTaken env r (before ++ line ∷ others) reports last
    → IsTakenAmid env r before line others reports last

-- Whatever lines are taken, the group is sound then.
abbrev pub ReachSoundGroups : Type 0
ReachSoundGroups = (env : RunEnvironment) (lines reports : List (List ℕ)) (r : Reached)
    → AreTakenFirst env lines reports r
    → IsGroupOfLines env r

-- The lines that change nothing leave the group as it is.
abbrev pub ReportChangesNothing : Type 0
ReportChangesNothing = (env : RunEnvironment) (r : Reached) (line report : List ℕ) (new : Reached)
    → LineIsTaken env r line report new → changes_nothing (line_of line) ≡ true → IsSameGroup env r new

-- A `catalogue` line prints exactly the objects that the member published or holds whole, undeleted and not known
-- withdrawn.
abbrev pub PrintsCatalogues : Type 0
PrintsCatalogues = (env : RunEnvironment) (lines reports : List (List ℕ)) (r : Reached)
    → AreTakenFirst env lines reports r
    → (label report : List ℕ) (new : Reached) → IsCatalogueLine env r label report new
    → IsCatalogueOf (group_at env r) (labels_at r) label report

-- After any lines that change nothing a `catalogue` line prints the catalogue as it was before them.
abbrev pub PrintsLater : Type 0
PrintsLater = (env : RunEnvironment) (lines reports : List (List ℕ)) (r : Reached) → AreTakenFirst env lines reports r
    → (between printed : List (List ℕ)) (later : Reached) → LinesAreTaken env r between printed later
    → list_all (λ line. changes_nothing (line_of line)) between ≡ true
    → (label report : List ℕ) (new : Reached) → IsCatalogueLine env later label report new
    → IsCatalogueOf (group_at env r) (labels_at r) label report

-- Each member's catalogue is the join of all publications, which is every object that none of them withdraws; and that
-- is what `catalogue` lines print, after any lines that change nothing.
pub record IsJoined (env : RunEnvironment) (r : Reached) : Type 0 where
  pub all : AllJoined (group_at env r)
  pub shown : (lines reports : List (List ℕ)) (later : Reached) → LinesAreTaken env r lines reports later
      → list_all (λ line. changes_nothing (line_of line)) lines ≡ true
      → (label report : List ℕ) (new : Reached) → IsCatalogueLine env later label report new
      → report ≡ printed_entries (labels_at r) label (join_of (logs (group_at env r)))

-- Right after a `settle` line, where nothing is deleted, each member's catalogue is the join of all publications, and
-- `catalogue` lines print it.
abbrev pub SettlesJoin : Type 0
SettlesJoin = (env : RunEnvironment) (lines reports : List (List ℕ)) (r : Reached) → AreTakenFirst env lines reports r
    → (report : List ℕ) (new : Reached) → IsSettleLine env r report new → NothingDeleted (group_at env new)
    → IsJoined env new

-- Nothing is deleted where no line can have deleted anything.
abbrev pub HidesByDeletionAlone : Type 0
HidesByDeletionAlone = (env : RunEnvironment) (lines reports : List (List ℕ)) (r : Reached)
    → AreTakenFirst env lines reports r → list_all (λ line. deletes_nothing (line_of line)) lines ≡ true
    → NothingDeleted (group_at env r)
