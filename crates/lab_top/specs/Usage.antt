-- What is written where the words are no form of the lab.
use Rattle.std.specs.Prelude.{ℕ, List, [], ◌∷◌, ◌++◌, codes}
use Rattle.std.specs.List.{flat_map}

-- The words of each form: capitals stand for numbers, and what is in brackets may be left out.
abbrev pub usage_lines : List (List ℕ)
usage_lines =
    codes "ndnlab transcript [SEED]" ∷ codes "ndnlab trace [SEED]" ∷ codes "ndnlab check [SEED]"
    ∷ codes "ndnlab lint" ∷ codes "ndnlab seeds FIRST LAST WORKERS" ∷ codes "ndnlab capture [SEED]"
    ∷ codes "ndnlab draw [SEED]" ∷ []

-- The words of each form, on a line of their own.
abbrev pub usage_text : List ℕ
usage_text = flat_map (λ line. line ++ 10 ∷ []) usage_lines
