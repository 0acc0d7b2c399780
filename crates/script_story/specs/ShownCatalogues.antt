-- What the text of a script that is done shows for its `catalogue` lines.
use Rattle.std.specs.Prelude.{ℕ, ◌≡◌, true, List, [], ◌∷◌, ◌++◌}
use Rattle.std.specs.List.{concat, list_all}
use Rattle.script_lang.specs.declared.verb.Verb.TheVariants as verb
use Rattle.script_lang.specs.Kinds.{Text, Number}
use Rattle.script_lang.specs.Forms.{statement}
use Rattle.script_lang.specs.Lines.{line_of}
use Rattle.group_model.specs.Publications.{join_of}
use Rattle.group_model.specs.World.{catalogue_at, logs}
use Rattle.script_story.specs.declared.ending.Ending.TheVariants.{Done}
use Rattle.repo_io.specs.Lines.{lines}
use Rattle.script_story.specs.Evaluation.{RunEnvironment}
use Rattle.script_story.specs.ScriptRun.{Reached, run_of}
use Rattle.script_story.specs.Headline.{AreTakenFirst, IsCatalogueOf, Says, changes_nothing, deletes_nothing, group_at}
use Rattle.script_story.specs.Headline.{labels_at}
use Rattle.script_story.specs.HeldPackets.{HoldsChecked}

-- A text shows the catalogue of the member with this label, as it is after these lines: first come their reports, then
-- that catalogue, and then the rest. It lists exactly the objects that the member published or holds whole, undeleted
-- and not known withdrawn, and what the member holds passed its checks.
pub record ShowsCatalogue (env : RunEnvironment) (before : List (List ℕ)) (label text : List ℕ) : Type 0 where
  pub here : Reached
  pub reports : List (List ℕ)
  pub taken : AreTakenFirst env before reports here
  pub report : List ℕ
  pub rest : List ℕ
  pub text_is : text ≡ concat reports ++ (report ++ rest)
  pub shown : IsCatalogueOf (group_at env here) (labels_at here) label report
  pub checked : HoldsChecked here.state.keys (group_at env here) shown.number

-- The catalogue that it shows is the join of all publications: every object that none of them withdraws.
pub record ShowsJoin (env : RunEnvironment) (before : List (List ℕ)) (label text : List ℕ) : Type 0 where
  pub catalogue : ShowsCatalogue env before label text
  pub joined : catalogue_at (group_at env catalogue.here) catalogue.shown.number
      ≡ join_of (logs (group_at env catalogue.here))

-- Where the run of an input is done and one of its lines says `catalogue` and a label, the text shows that member's
-- catalogue there.
abbrev pub CatalogueLinesShow : Type 0
CatalogueLinesShow = (env : RunEnvironment) (input : List ℕ) (before : List (List ℕ)) (line : List ℕ)
    (others : List (List ℕ))
    (label : List ℕ) → (run_of env input).ending ≡ Done → lines input ≡ before ++ line ∷ others
    → Says line (statement verb.Catalogue (Text label ∷ [])) → ShowsCatalogue env before label (run_of env input).text

-- Where the `catalogue` line stands after a `settle` line, no line before the `settle` line can have deleted anything,
-- and the lines between them change nothing, the catalogue is the join.
abbrev pub SettleLinesShow : Type 0
SettleLinesShow = (env : RunEnvironment) (input : List ℕ) (before : List (List ℕ)) (settle : List ℕ) (workers : ℕ)
    (between : List (List ℕ)) (line : List ℕ) (others : List (List ℕ)) (label : List ℕ)
    → (run_of env input).ending ≡ Done → lines input ≡ before ++ settle ∷ (between ++ line ∷ others)
    → list_all (λ l. deletes_nothing (line_of l)) before ≡ true
    → Says settle (statement verb.Settle (Number workers ∷ []))
    → list_all (λ l. changes_nothing (line_of l)) between ≡ true
    → Says line (statement verb.Catalogue (Text label ∷ []))
    → ShowsJoin env (before ++ settle ∷ between) label (run_of env input).text
