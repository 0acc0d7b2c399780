-- Numbers of joined vectors have 16 bits at most.
use Rattle.std.proofs.Common.{arith, ◌<◌, ◌^◌, ℕ, max, List, [], ◌∷◌}
use Rattle.std.proofs.lemmas.List.Elements.{All-head, All-tail, All-cons}
use Rattle.svs_vector.specs.Vectors.{AreNumbers, join}

max_number : (n m : ℕ) → n < 2 ^ 16 → m < 2 ^ 16 → max n m < 2 ^ 16
max_number n m a b = omega arith

pub join_numbers : (v w : List ℕ) → AreNumbers v → AreNumbers w → AreNumbers (join v w)
unfolding join
join_numbers [] w v_are w_are = w_are
join_numbers (n ∷ v) [] v_are w_are = v_are
join_numbers (n ∷ v) (m ∷ w) v_are w_are =
    let P : ℕ → Type 0 = λ k. k < 2 ^ 16 in
    All-cons P (max n m) (join v w) (max_number n m (All-head P n v v_are) (All-head P m w w_are))
    (join_numbers v w (All-tail P n v v_are) (All-tail P m w w_are))
