-- Words that are no span of seeds.
use Rattle.std.proofs.Common.{◌≡◌, ◌≢◌, ℕ, List, [], ◌∷◌, length, None, refl}
use Rattle.lab_top.specs.Forms.{span_of}

pub no_span : (words : List (List ℕ)) → length words ≢ 3 → span_of words ≡ None
no_span [] other = refl
no_span (a ∷ []) other = refl
no_span (a ∷ b ∷ []) other = refl
no_span (a ∷ b ∷ c ∷ []) other = absurd (other refl)
no_span (a ∷ b ∷ c ∷ d ∷ others) other = refl
