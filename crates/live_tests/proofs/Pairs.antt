-- Lists of two.
use Rattle.std.proofs.Common.{◌≡◌, ℕ, zero, suc, List, [], ◌∷◌, map, get_or, sym, ap, ◌∙◌, arith}
use Rattle.std.specs.List.{All, remove}

pub all_two : {X : Type 0} (P : X → Type 0) (a b : X) → P a → P b → All P (a ∷ b ∷ [])
all_two P a b here there zero d less = here
all_two P a b here there (suc zero) d less = there
all_two P a b here there (suc (suc k)) d less = absurd (omega arith)

-- The first of two is taken out, and then the first of what is left.
pub taken_out : {X Y : Type 0} (f : X → Y) (xs rest : List X) (a b x y : X) → xs ≡ a ∷ b ∷ [] → x ≡ get_or xs 0 x
    → rest ≡ remove xs 0 → y ≡ get_or rest 0 y → map f xs ≡ f x ∷ f y ∷ []
taken_out f xs rest a b x y made first left second =
    let s : x ≡ a = first ∙ ap (λ l. get_or l 0 x) made in
    let r : rest ≡ b ∷ [] = left ∙ ap (λ l. remove l 0) made in
    let t : y ≡ b = second ∙ ap (λ l. get_or l 0 y) r in
    ap (map f) made ∙ (λ i. f (sym s i) ∷ f (sym t i) ∷ [])
