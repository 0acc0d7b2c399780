-- Which part lists which.
use Rattle.std.proofs.Common.{◌≡◌, ℕ, ◌+◌, ◌-◌, ◌*◌, ◌/◌, ◌≤◌, ◌<◌, Bool, true, false, cond, ◌||◌, refl, ap, ◌∙◌}
use Rattle.std.proofs.Common.{arith}
use Rattle.std.proofs.lemmas.Bool.{or_left, or_right, or_parts, le-leb, lt-leb, leb-false, eq-eqb, eqb-true, eqb-false}
use Rattle.std.specs.Prelude.{nat_le, ◌==◌, ◌↔◌}
use Rattle.repo_plan.specs.Parts.{Shape, IsShape, ListsInTurn, most_listed, last_part, parent_number}

-- what lists a part, by whether it is the record
abbrev listed_by : Shape → ℕ → Bool → ℕ
listed_by shape x b = cond b 0 (1 + (x - shape.index - 1) / most_listed)

-- the record lists the index packets, and itself
pub by_record : (shape : Shape) (x : ℕ) → x ≤ shape.index → parent_number shape x ≡ 0
by_record shape x l = ap (listed_by shape x) (or_right (shape.index == 0) _ (le-leb x shape.index l))

without_index : (shape : Shape) → shape.index ≡ 0 → (x : ℕ) → parent_number shape x ≡ 0
without_index shape e x = ap (listed_by shape x) (or_left (shape.index == 0) _ (eq-eqb shape.index 0 e))

-- a segment after index packets is listed by the one of its place
pub by_place : (shape : Shape) (i : ℕ) → 1 ≤ shape.index
    → parent_number shape (shape.index + 1 + i) ≡ 1 + i / most_listed
by_place shape i some = ap (listed_by shape (shape.index + 1 + i)) (following (shape.index == 0) refl) ∙ place where
  following : (b : Bool) → (shape.index == 0) ≡ b → (b || nat_le (shape.index + 1 + i) shape.index) ≡ false
  following true e = absurd (omega (arith, eqb-true shape.index 0 e))
  following false e = lt-leb (shape.index + 1 + i) shape.index (omega arith)

  place : 1 + (shape.index + 1 + i - shape.index - 1) / most_listed ≡ 1 + i / most_listed
  place = omega arith

by_index : (shape : Shape) (k i : ℕ) → 1 ≤ k → k ≤ shape.index
    → (parent_number shape (shape.index + 1 + i) ≡ k) ↔ ((most_listed * (k - 1) ≤ i) × (i < most_listed * k))
by_index shape k i from to =
    let place = by_place shape i (omega arith) in
    (λ e. (omega (arith, place, e), omega (arith, place, e)), λ h. omega (arith, place, h.0, h.1))

-- the segments of a shape fill all its index packets but the last, and no further one
module _ (shape : Shape) (is : IsShape shape) (some : 1 ≤ shape.index) where
  filled : (most_listed * (shape.index - 1) < shape.segments) × (shape.segments ≤ most_listed * shape.index)
  filled = go (nat_le shape.segments most_listed) refl where
    go : (b : Bool) → nat_le shape.segments most_listed ≡ b
        → (most_listed * (shape.index - 1) < shape.segments) × (shape.segments ≤ most_listed * shape.index)
    go true h =
        let none : shape.index ≡ 0 =
        is.index ∙ ap (λ (b : Bool). cond b 0 ((shape.segments + most_listed - 1) / most_listed)) h in
        absurd (omega (arith, none))
    go false h =
        let many : shape.index ≡ (shape.segments + most_listed - 1) / most_listed =
        is.index ∙ ap (λ (b : Bool). cond b 0 ((shape.segments + most_listed - 1) / most_listed)) h in
        let following : most_listed < shape.segments = leb-false shape.segments most_listed h in
        (omega (arith, many, following), omega (arith, many, following))

listed : (shape : Shape) → IsShape shape → (x : ℕ) → x ≤ last_part shape → parent_number shape x ≤ shape.index
listed shape is x l = go (shape.index == 0 || nat_le x shape.index) refl where
  go : (b : Bool) → (shape.index == 0 || nat_le x shape.index) ≡ b → listed_by shape x b ≤ shape.index
  go true h = omega arith
  go false h =
      let apart = or_parts (shape.index == 0) (nat_le x shape.index) h in
      let some : 1 ≤ shape.index = go_some (shape.index == 0) refl apart.0 in
      omega (arith, l, some, (filled shape is some).1) where
        go_some : (b : Bool) → (shape.index == 0) ≡ b → b ≡ false → 1 ≤ shape.index
        go_some b e f = omega (arith, eqb-false shape.index 0 (e ∙ f))

pub lists_in_turn : (shape : Shape) → IsShape shape → ListsInTurn shape
lists_in_turn shape is = record {
  by_record = by_record shape;
  without_index = without_index shape;
  by_index = by_index shape;
  some = λ k from to. omega (arith, (filled shape is (omega arith)).0);
  listed = listed shape is;
}
