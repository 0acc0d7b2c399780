-- Comparisons that go both ways.
use Rattle.std.proofs.Common.{◌≡◌, ℕ, ◌<◌, true, refl, ap, ◌∙◌, arith}
use Rattle.std.specs.Cmp.{IsTotalOrder}
use Rattle.std.specs.Ordering.{is_eq, nat_cmp, ordering_then, ordering_reverse}
use Rattle.std.specs.declared.cmp.Ordering.{Ordering}
use Rattle.std.specs.declared.cmp.Ordering.TheVariants.{Less, Equal, Greater}
use Rattle.std.proofs.lemmas.Cmp.{nat_cmp_total, tied_itself}
use Rattle.std.proofs.lemmas.Bool.Decides.{nat_tests}
use Rattle.sorted_lists.specs.SortedList.{IsExact}

module _ {K : Type 0} {R : K → K → Ordering} (o : IsTotalOrder R) where
  pub less_back : (x y : K) → R x y ≡ Less → R y x ≡ Greater
  less_back x y h = o.antisymm y x ∙ ap ordering_reverse h

  pub greater_back : (x y : K) → R x y ≡ Greater → R y x ≡ Less
  greater_back x y h = o.antisymm y x ∙ ap ordering_reverse h

  pub equal_back : (x y : K) → R x y ≡ Equal → R y x ≡ Equal
  equal_back x y h = o.antisymm y x ∙ ap ordering_reverse h

pub equal_from_is_eq : (x : Ordering) → is_eq x ≡ true → x ≡ Equal
equal_from_is_eq Less h = absurd cc
equal_from_is_eq Equal h = refl
equal_from_is_eq Greater h = absurd cc

-- only a key itself ties with it
pub record Exact {K : Type 0} (R : K → K → Ordering) : Type 0 where
  pub total : IsTotalOrder R
  pub same : (x y : K) → R x y ≡ Equal → x ≡ y
  pub itself : (x : K) → R x x ≡ Equal

pub nat_less : (a b : ℕ) → a < b → nat_cmp a b ≡ Less
nat_less a b h = grind (arith, nat_tests)

pub nat_same : (a b : ℕ) → nat_cmp a b ≡ Equal → a ≡ b
nat_same a b e = grind (arith, nat_tests)

pub nat_itself : (a : ℕ) → nat_cmp a a ≡ Equal
nat_itself a = grind (arith, nat_tests)

pub exact_numbers : Exact nat_cmp
exact_numbers = record { total = nat_cmp_total; same = nat_same; itself = nat_itself }

pub then_equal : (x y : Ordering) → ordering_then x y ≡ Equal → (x ≡ Equal) × (y ≡ Equal)
then_equal Less y e = absurd cc
then_equal Equal y e = (refl, e)
then_equal Greater y e = absurd cc

-- the first decides, or else the second
pub first_less : (x y : Ordering) → x ≡ Less → ordering_then x y ≡ Less
first_less x y p = ap (λ (o : Ordering). ordering_then o y) p

pub then_second : (x y : Ordering) → x ≡ Equal → ordering_then x y ≡ y
then_second x y p = ap (λ (o : Ordering). ordering_then o y) p

-- an order in which only a key itself ties with it
pub exact_of : {K : Type 0} {R : K → K → Ordering} → IsTotalOrder R → IsExact R → Exact R
exact_of o exact = record { total = o; same = exact; itself = tied_itself o }
