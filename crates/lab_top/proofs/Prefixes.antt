-- What was written of a text, whether all of it was taken or not, is a prefix of it.
use Rattle.std.proofs.Common.{◌<◌, ℕ, List, length, take, Option, Result, Ok, Err, IfErr, OnOk}
use Rattle.repo_io.specs.Outside.{GainsPrefix, GainsText}
use Rattle.repo_io.proofs.Outputs.{prefix_taken, prefix_whole}

pub written_prefix : {A E Short : Type 0} (a b : Option (List ℕ)) (text : List ℕ) (written : E → ℕ) (r : Result A E)
    → (Short → ⊥) → OnOk r (GainsText a b text) → IfErr r (λ e. GainsText a b (take (written e) text))
    → IfErr r (λ e. written e < length text) → GainsPrefix a b text Short
written_prefix a b text written (Ok x) never whole prefix missing = prefix_whole a b text never whole
written_prefix a b text written (Err e) never whole prefix missing = prefix_taken a b (written e) text missing prefix
