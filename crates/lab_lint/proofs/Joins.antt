-- Texts that are appended one after another.
use Rattle.std.proofs.Common.{◌≡◌, List, ℕ, ◌++◌, Result, Ok, Err, OnOk, ap, ◌∙◌, append_assoc}

pub two_on : {E : Type 0} (r : Result (Unit {0}) E) (old a b m n : List ℕ) → m ≡ old ++ a → OnOk r (n ≡ m ++ b)
    → OnOk r (n ≡ old ++ (a ++ b))
two_on (Ok x) old a b m n e f = f ∙ ap (λ (t : List ℕ). t ++ b) e ∙ append_assoc old a b
two_on (Err x) old a b m n e f = f

pub three_on : {E : Type 0} (r : Result (Unit {0}) E) (old a b c l m n : List ℕ) → l ≡ old ++ a → m ≡ l ++ b
    → OnOk r (n ≡ m ++ c) → OnOk r (n ≡ old ++ (a ++ (b ++ c)))
three_on (Ok x) old a b c l m n e f g =
    g ∙ ap (λ (t : List ℕ). t ++ c) f ∙ ap (λ (t : List ℕ). (t ++ b) ++ c) e
    ∙ append_assoc (old ++ a) b c ∙ append_assoc old a (b ++ c)
three_on (Err x) old a b c l m n e f g = g
