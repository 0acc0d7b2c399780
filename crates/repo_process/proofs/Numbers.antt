-- Numbers as keys.
use Rattle.std.proofs.Common.{◌≡◌, ℕ, suc, ◌+◌, ◌<◌, true, false, sym, ap, arith}
use Rattle.std.specs.Ordering.{nat_cmp, eq_by_cmp, is_eq}
use Rattle.std.specs.Cmp.{nat_cmp_is}
use Rattle.std.specs.declared.cmp.Ordering.TheVariants.{Greater}
use Rattle.sorted_lists.proofs.Orders.{nat_less, nat_itself}

pub nat_greater : (a b : ℕ) → b < a → nat_cmp a b ≡ Greater
nat_greater a b more = sym (nat_cmp_is a b Greater more)

pub same_key : (a : ℕ) → eq_by_cmp nat_cmp a a ≡ true
same_key a = ap is_eq (nat_itself a)

pub key_below : (a b : ℕ) → a < b → eq_by_cmp nat_cmp a b ≡ false
key_below a b less = ap is_eq (nat_less a b less)

pub key_above : (a b : ℕ) → b < a → eq_by_cmp nat_cmp a b ≡ false
key_above a b more = ap is_eq (nat_greater a b more)

-- ---- one number after another

pub here : (first : ℕ) → first + 0 ≡ first
here first = omega arith

pub next : (first i : ℕ) → first + suc i ≡ (first + 1) + i
next first i = omega arith
