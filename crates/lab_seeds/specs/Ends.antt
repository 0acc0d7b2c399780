-- How the run of a seed ended, as it is kept, and what is written of it.
use Rattle.std.specs.Prelude.{ℕ, ◌+◌, Bool, true, false, List, [], ◌∷◌, ◌++◌}
use Rattle.script_report.specs.Refusals.{refusal_number, refusal_word}
use Rattle.lab_seeds.specs.declared.end.SeedEnd.{SeedEnd}
use Rattle.lab_seeds.specs.declared.end.SeedEnd.TheVariants.{Done, Refused, Foreign}
use Rattle.lab_seeds.specs.declared.figures.Figures.{Figures}
use Rattle.lab_seeds.specs.Texts.{done_text, foreign_text, refused_text}

-- What is written of a seed.
abbrev pub end_text : ℕ → SeedEnd → List ℕ
end_text seed (Done f) = done_text seed f
end_text seed (Refused line why) = refused_text seed line (refusal_number why) (refusal_word why)
end_text seed (Foreign line) = foreign_text seed line

-- All lines of the script were taken under the seed.
abbrev pub end_is_done : SeedEnd → Bool
end_is_done (Done f) = true
end_is_done (Refused line why) = false
end_is_done (Foreign line) = false

-- What was counted under the seed, if all lines were taken.
abbrev pub end_figures : SeedEnd → List Figures
end_figures (Done f) = f ∷ []
end_figures (Refused line why) = []
end_figures (Foreign line) = []

-- What is written of the seeds from `first` on, one after the other.
abbrev pub ends_text : ℕ → List SeedEnd → List ℕ
ends_text first [] = []
ends_text first (e ∷ ends) = end_text first e ++ ends_text (first + 1) ends
