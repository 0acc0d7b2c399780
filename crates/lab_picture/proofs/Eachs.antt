-- Texts of numbers, one after the other, and pieces that were put down one after the other.
use Rattle.std.proofs.Common.{◌≡◌, ◌+◌, ◌++◌, ℕ, suc, List, [], Result, Ok, Err, refl, sym, ap, ◌∙◌, arith}
use Rattle.std.proofs.lemmas.List.{append_assoc, append-nil}
use Rattle.std.specs.Result.{OnOk}
use Rattle.std.specs.declared.alloc.AllocError.{AllocError}
use Rattle.lab_picture.specs.Svg.{each}

each_none : (text : ℕ → List ℕ) → each 0 text ≡ []
unfolding each
each_none text = refl

each_more : (n : ℕ) (text : ℕ → List ℕ) → each (n + 1) text ≡ each n text ++ text n
unfolding each
each_more n text = let e : n + 1 ≡ suc n = omega arith in ap (λ (m : ℕ). each m text) e

-- No text is put down yet.
pub each_begins : (before : List ℕ) (text : ℕ → List ℕ) → before ≡ before ++ each 0 text
each_begins before text =
    sym (append-nil before) ∙ ap (λ (t : List ℕ). before ++ t) (sym (each_none text))

-- One more text is put down.
pub each_goes_on : (before so_far now : List ℕ) (n : ℕ) (text : ℕ → List ℕ) → so_far ≡ before ++ each n text
    → now ≡ so_far ++ text n → now ≡ before ++ each (n + 1) text
each_goes_on before so_far now n text e more =
    more ∙ ap (λ (t : List ℕ). t ++ text n) e ∙ append_assoc before (each n text) (text n)
    ∙ ap (λ (t : List ℕ). before ++ t) (sym (each_more n text))

two : (a b c p q : List ℕ) → b ≡ a ++ p → c ≡ b ++ q → c ≡ a ++ (p ++ q)
two a b c p q d e = e ∙ ap (λ (t : List ℕ). t ++ q) d ∙ append_assoc a p q

-- Four pieces were put down one after the other, or five.
pub four : (a b c d e p q r s : List ℕ) → b ≡ a ++ p → c ≡ b ++ q → d ≡ c ++ r
    → (result : Result (Unit {0}) AllocError) → OnOk result (e ≡ d ++ s)
    → OnOk result (e ≡ a ++ (p ++ (q ++ (r ++ s))))
four a b c d e p q r s f g h (Ok x) i = two a b e p (q ++ (r ++ s)) f (two b c e q (r ++ s) g (two c d e r s h i))
four a b c d e p q r s f g h (Err x) i = i

pub five : (a b c d e k p q r s t : List ℕ) → b ≡ a ++ p → c ≡ b ++ q → d ≡ c ++ r → e ≡ d ++ s
    → (result : Result (Unit {0}) AllocError) → OnOk result (k ≡ e ++ t)
    → OnOk result (k ≡ a ++ (p ++ (q ++ (r ++ (s ++ t)))))
five a b c d e k p q r s t f g h i (Ok x) j =
    two a b k p (q ++ (r ++ (s ++ t))) f (two b c k q (r ++ (s ++ t)) g (two c d k r (s ++ t) h (two d e k s t i j)))
five a b c d e k p q r s t f g h i (Err x) j = j
