-- Records that list segments, and those that list index packets.
use Rattle.std.proofs.Common.{◌≡◌, ℕ, ◌+◌, ◌-◌, ◌*◌, ◌/◌, ◌<◌, ◌≤◌, eqb, Bool, true, false, not, cond, refl, ap}
use Rattle.std.proofs.Common.{inl, inr, arith}
use Rattle.std.proofs.lemmas.Bool.{cases_lt, le-leb, lt-leb, ne_eqb}
use Rattle.repo_plan.specs.Parts.{index_packets}
use Rattle.repo_object.specs.Publication.{is_indexed, count_listed}

index_of_few : (n : ℕ) → n ≤ 200 → index_packets n ≡ 0
index_of_few n few = rw (le-leb n 200 few) refl

index_of_many : (n : ℕ) → 200 < n → index_packets n ≡ (n + 200 - 1) / 200
index_of_many n many = rw (lt-leb n 200 many) refl

few_kind : (n : ℕ) → n ≤ 200 → is_indexed n ≡ false
few_kind n few = ap (λ (k : ℕ). not (eqb k 0)) (index_of_few n few)

pub many_kind : (n : ℕ) → 200 < n → is_indexed n ≡ true
many_kind n many =
    ap not (ne_eqb (index_packets n) 0 (λ none. absurd (omega (arith, none, index_of_many n many))))

-- an object of at most 20,000 segments has at most 100 index packets
pub index_few : (n : ℕ) → n ≤ 20000 → index_packets n ≤ 100
index_few n few =
    elim (cases_lt 200 n) [
      | inl many ↦ omega (arith, index_of_many n many)
      | inr at_most ↦ omega (arith, index_of_few n at_most)
    ]

-- where there are index packets, each lists some
pub index_lists : (n k : ℕ) → k < index_packets n → k * 200 < n
index_lists n k low =
    elim (cases_lt 200 n) [
      | inl many ↦ omega (arith, low, index_of_many n many)
      | inr at_most ↦ absurd (omega (arith, low, index_of_few n at_most))
    ]

-- where there are index packets, there are more than 200 segments
pub index_many : (n : ℕ) → 0 < index_packets n → 200 < n
index_many n some =
    elim (cases_lt 200 n) [ inl many ↦ many | inr at_most ↦ absurd (omega (arith, some, index_of_few n at_most)) ]

pub indexed_some : (n : ℕ) → 0 < index_packets n → is_indexed n ≡ true
indexed_some n some = many_kind n (index_many n some)

pub listed_few : (n : ℕ) → n ≤ 20000 → count_listed n ≤ 200
listed_few n few =
    elim (cases_lt 200 n) [
      | inl many ↦
          let is : count_listed n ≡ index_packets n = ap (λ (b : Bool). cond b (index_packets n) n) (many_kind n
          many) in
          omega (arith, is, index_few n few)
      | inr at_most ↦
          let is : count_listed n ≡ n = ap (λ (b : Bool). cond b (index_packets n) n) (few_kind n at_most) in
          omega (arith, is, at_most)
    ]
