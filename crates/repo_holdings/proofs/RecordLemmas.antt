-- The records among stored packets, as a map in order of their publications.
use Rattle.std.proofs.Common.{◌≡◌, ℕ, Bool, true, false, cond, List, [], ◌∷◌, refl, sym, ap, ◌∙◌, Some, ◌==◌}
use Rattle.std.proofs.lemmas.Bool.{eqb-true}
use Rattle.std.specs.Ordering.{nat_cmp, ordering_then, eq_by_cmp, is_eq}
use Rattle.std.specs.declared.cmp.Ordering.{Ordering}
use Rattle.std.specs.declared.cmp.Ordering.TheVariants.{Less, Equal, Greater}
use Rattle.repo_plan.specs.declared.part.Part.{Part}
use Rattle.sorted_lists.specs.SortedList.{keys, IsBefore, Rises, value_of}
use Rattle.repo_plan.specs.Parts.{Pair, pair_cmp, part_cmp, pair_of, part_of}
use Rattle.repo_plan.proofs.Orders.{exact_parts}
use Rattle.sorted_lists.proofs.Sets.{eq_same}
use Rattle.repo_holdings.specs.Records.{Packet, records_in}

-- two records stand as their publications do
pub record_order : (t u : Part) → t.part ≡ 0 → u.part ≡ 0 → part_cmp t u ≡ pair_cmp (pair_of t) (pair_of u)
record_order t u a b = rw (a, b) (flat (nat_cmp t.publisher u.publisher) (nat_cmp t.seq u.seq)) where
  flat : (x y : Ordering) → ordering_then x (ordering_then y Equal) ≡ ordering_then x y
  flat Less y = refl
  flat Greater y = refl
  flat Equal Less = refl
  flat Equal Equal = refl
  flat Equal Greater = refl

before_records : (t : Part) (es : List Packet) → t.part ≡ 0 → IsBefore part_cmp t (keys es)
    → IsBefore pair_cmp (pair_of t) (keys (records_in es))
before_records t [] is b = tt
before_records t (e ∷ es) is b = go (e.0.part == 0) refl (before_records t es is b.1) where
  go : (c : Bool) → (e.0.part == 0) ≡ c → IsBefore pair_cmp (pair_of t) (keys (records_in es))
      → IsBefore pair_cmp (pair_of t) (keys (cond c ((pair_of e.0, e.1) ∷ records_in es) (records_in es)))
  go true p h = (sym (record_order t e.0 is (eqb-true e.0.part 0 p)) ∙ b.0, h)
  go false p h = h

pub rises_records : (es : List Packet) → Rises part_cmp (keys es) → Rises pair_cmp (keys (records_in es))
rises_records [] r = tt
rises_records (e ∷ es) r = go (e.0.part == 0) refl (rises_records es r.1) where
  go : (c : Bool) → (e.0.part == 0) ≡ c → Rises pair_cmp (keys (records_in es))
      → Rises pair_cmp (keys (cond c ((pair_of e.0, e.1) ∷ records_in es) (records_in es)))
  go true p h = (before_records e.0 es (eqb-true e.0.part 0 p) r.0, h)
  go false p h = h

-- the record of a publication
pub value_of-records : (es : List Packet) (pair : Pair)
    → value_of pair_cmp (records_in es) pair ≡ value_of part_cmp es (part_of pair 0)
value_of-records [] pair = refl
value_of-records (e ∷ es) pair = go (value_of-records es pair) (e.0.part == 0) refl where
  same : e.0.part ≡ 0 → eq_by_cmp pair_cmp pair (pair_of e.0) ≡ eq_by_cmp part_cmp (part_of pair 0) e.0
  same is = ap is_eq (sym (record_order (part_of pair 0) e.0 refl is))

  other : (c : Bool) → eq_by_cmp part_cmp (part_of pair 0) e.0 ≡ c → (e.0.part == 0) ≡ false → c ≡ false
  other true h p = let is : part_of pair 0 ≡ e.0 = eq_same exact_parts (part_of pair 0) e.0 h in
      let zero : 0 ≡ e.0.part = ap (λ (t : Part). t.part) is in
      let p' : (0 == 0) ≡ false = ap (λ (n : ℕ). n == 0) zero ∙ p in cc
  other false h p = refl

  go : value_of pair_cmp (records_in es) pair ≡ value_of part_cmp es (part_of pair 0) → (c : Bool) → (e.0.part == 0) ≡ c
      → value_of pair_cmp (cond c ((pair_of e.0, e.1) ∷ records_in es) (records_in es)) pair
      ≡ value_of part_cmp (e ∷ es) (part_of pair 0)
  go h true p = rw (h, same (eqb-true e.0.part 0 p)) refl
  go h false p =
      h
      ∙ ap (λ (c : Bool). cond c (Some e.1) (value_of part_cmp es (part_of pair 0)))
      (sym (other (eq_by_cmp part_cmp (part_of pair 0) e.0) refl p))
