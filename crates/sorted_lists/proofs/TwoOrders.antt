-- Two orders, one after the other, and the order of numbers.
use Rattle.std.proofs.Common.{◌≡◌, ◌≢◌, ℕ, ◌<◌, ◌≤◌, true, refl, ap, sym, ◌∙◌, arith}
use Rattle.std.specs.Ordering.{nat_cmp, ordering_then, is_le}
use Rattle.std.specs.declared.cmp.Ordering.{Ordering}
use Rattle.std.specs.declared.cmp.Ordering.TheVariants.{Less, Equal, Greater}
use Rattle.std.proofs.lemmas.Bool.Decides.{nat_tests}
use Rattle.sorted_lists.proofs.Orders.{nat_itself}

pub first_le : (x y : Ordering) → is_le (ordering_then x y) ≡ true → is_le x ≡ true
first_le Less y h = h
first_le Equal y h = refl
first_le Greater y h = h

pub second_le : (x y : Ordering) → x ≡ Equal → is_le (ordering_then x y) ≡ true → is_le y ≡ true
second_le x y e h = ap (λ (o : Ordering). is_le (ordering_then o y)) (sym e) ∙ h

pub then_le : (x y : Ordering) → is_le x ≡ true → is_le y ≡ true → is_le (ordering_then x y) ≡ true
then_le Less y h k = refl
then_le Equal y h k = k
then_le Greater y h k = h

pub first_before : (x y : Ordering) → ordering_then x y ≡ Less → y ≢ Less → x ≡ Less
first_before Less y h n = refl
first_before Equal y h n = absurd (n h)
first_before Greater y h n = absurd cc

pub then_then : (x y z : Ordering) → ordering_then x (ordering_then y z) ≡ ordering_then (ordering_then x y) z
then_then Less y z = refl
then_then Equal y z = refl
then_then Greater y z = refl

pub nat_le : (a b : ℕ) → a ≤ b → is_le (nat_cmp a b) ≡ true
nat_le a b h = grind (arith, nat_tests)

pub less_nat : (a b : ℕ) → nat_cmp a b ≡ Less → a < b
less_nat a b h = grind (arith, nat_tests)

pub nat_tied : (a b : ℕ) → a ≡ b → nat_cmp a b ≡ Equal
nat_tied a b e = ap (nat_cmp a) (sym e) ∙ nat_itself a
