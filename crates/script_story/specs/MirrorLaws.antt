-- What `mcatalogue` lines print, over whole runs.
use Rattle.std.specs.Prelude.{ℕ, ◌≡◌, ◌<◌, Bool, true, false, List, [], ◌∷◌, ◌++◌, length, filter, slice_get, Option}
use Rattle.std.specs.Prelude.{Some, None, Result, Ok, Err}
use Rattle.std.specs.List.{list_all}
use Rattle.script_lang.specs.declared.line_fault.LineFault.{LineFault}
use Rattle.script_lang.specs.declared.verb.Verb.{Verb}
use Rattle.script_lang.specs.declared.verb.Verb.TheVariants as verb
use Rattle.script_lang.specs.Kinds.{Text, Number}
use Rattle.script_lang.specs.Forms.{Stated, statement}
use Rattle.script_lang.specs.Lines.{line_of}
use Rattle.repo_catalog.specs.declared.entry.Entry.{Entry}
use Rattle.group_model.specs.Publications.{join_of}
use Rattle.group_model.specs.Laws.{NothingDeleted}
use Rattle.group_model.specs.World.{logs}
use Rattle.repo_mirror.specs.Mirrors.{is_entry_accepted}
use Rattle.script_story.specs.Mirrors.{Mirroring, mirror_of, mirrored_entries}
use Rattle.script_story.specs.ReportTexts.{listing_text}
use Rattle.script_story.specs.Evaluation.{RunEnvironment}
use Rattle.script_story.specs.ScriptRun.{Reached}
use Rattle.script_story.specs.Headline.{AreTakenFirst, LineIsTaken, Says, group_at, labels_at, only_prints}

-- An `mcatalogue` line of this label that is taken.
pub record IsMirrorLine (env : RunEnvironment) (r : Reached) (label report : List ℕ) (new : Reached) : Type 0 where
  pub line : List ℕ
  pub stated : Says line (statement verb.Mcatalogue (Text label ∷ []))
  pub taken : LineIsTaken env r line report new

-- The report lists these entries, which depend on the mirror with this label.
pub record ListsOfMirror (r : Reached) (label report : List ℕ) (entries : Mirroring → List Entry) : Type 0 where
  pub number : ℕ
  pub there : number < length r.state.mirrors
  pub named : slice_get r.state.declared.mirrors number ≡ Some label
  pub text : report ≡ listing_text (labels_at r) label (entries (mirror_of r.state.mirrors number))

-- An `mcatalogue` line prints exactly the objects that the mirror's pattern accepts and of which it holds every part,
-- and no withdrawal.
abbrev pub MirrorsAreListed : Type 0
MirrorsAreListed = (env : RunEnvironment) (lines reports : List (List ℕ)) (r : Reached)
    → AreTakenFirst env lines reports r
    → (label report : List ℕ) (new : Reached) → IsMirrorLine env r label report new
    → ListsOfMirror r label report (mirrored_entries (group_at env r))

-- These forms change nothing of the group, and nothing of its mirrors.
abbrev pub only_shows : Verb → Bool
only_shows verb.Mdeliver = false
only_shows verb.Mfetch = false
only_shows form = only_prints form

-- The line changes nothing of the group and its mirrors: it states nothing, or `only_shows` is true of its verb.
abbrev pub shows_alone : Result (Option Stated) LineFault → Bool
shows_alone (Ok None) = true
shows_alone (Ok (Some stated)) = only_shows stated.verb
shows_alone (Err fault) = false

-- After a `settle` line, where nothing is deleted and the lines between change nothing of group and mirrors, an
-- `mcatalogue` line prints exactly the objects of the join of all publications that the mirror's pattern accepts.
abbrev pub MirrorsListTheirJoin : Type 0
MirrorsListTheirJoin = (env : RunEnvironment) (before : List (List ℕ)) (settle : List ℕ) (workers : ℕ)
    (between reports : List (List ℕ)) (r : Reached) → AreTakenFirst env (before ++ settle ∷ between) reports r
    → NothingDeleted (group_at env r) → Says settle (statement verb.Settle (Number workers ∷ []))
    → list_all (λ line. shows_alone (line_of line)) between ≡ true
    → (label report : List ℕ) (new : Reached) → IsMirrorLine env r label report new
    → ListsOfMirror r label report
    (λ (m : Mirroring). filter (is_entry_accepted m.pattern) (join_of (logs (group_at env r))))
