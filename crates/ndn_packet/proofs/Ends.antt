-- The end of a list.
use Rattle.std.proofs.Common.{◌≡◌, List, [], ◌∷◌, ◌++◌, length, Some, slice_get, refl}

pub slice_get-push : {A : Type 0} (xs : List A) (last : A) → slice_get (xs ++ last ∷ []) (length xs) ≡ Some last
slice_get-push [] last = refl
slice_get-push (x ∷ xs) last = slice_get-push xs last
