-- How many parts a part lists.
use Rattle.std.proofs.Common.{◌≡◌, inl, inr, ℕ, ◌+◌, ◌-◌, ◌*◌, ◌≤◌, ◌<◌, min, Bool, ap, ◌∙◌, arith}
use Rattle.std.proofs.lemmas.Bool.{eq-eqb, eqb-true, false_from_ne_true, cases_lt}
use Rattle.std.specs.Prelude.{◌==◌}
use Rattle.repo_plan.specs.Counts.{how_many}
use Rattle.repo_plan.specs.Parts.{Shape, IsShape, ListsInTurn, most_listed, last_part, parent_number}
use Rattle.repo_plan.proofs.Counts.{none_until, all_until, none_left, every}
use Rattle.repo_plan.proofs.Parents.{by_place, lists_in_turn}

module _ (shape : Shape) (is : IsShape shape) where
  -- whether it lists the other
  abbrev lists : ℕ → ℕ → Bool
  lists k x = parent_number shape x == k

  turn : ListsInTurn shape
  turn = lists_in_turn shape is

  from_one : last_part shape ≡ last_part shape + 1 - 1
  from_one = omega arith

  -- a part after the index packets
  place : (x : ℕ) → shape.index < x
      → parent_number shape x ≡ parent_number shape (shape.index + 1 + (x - shape.index - 1))
  place x l = let e : x ≡ shape.index + 1 + (x - shape.index - 1) = omega (arith, l) in ap (parent_number shape) e

  -- a segment lists none
  pub by_segment : (k : ℕ) → shape.index < k → how_many (lists k) 1 (last_part shape) ≡ 0
  by_segment k l =
      ap (how_many (lists k) 1) from_one
      ∙ none_left (lists k) 1 (last_part shape + 1) (λ x a b.
      false_from_ne_true (lists k x)
      (λ h. omega (arith, eqb-true (parent_number shape x) k h, turn.listed x (omega (arith, b)), l)))

  -- the record, where there are no index packets
  pub by_record_alone : shape.index ≡ 0 → how_many (lists 0) 1 (last_part shape) ≡ shape.segments
  by_record_alone e =
      let all = every (lists 0) 1 (last_part shape)
      (λ x a b. eq-eqb (parent_number shape x) 0 (turn.without_index e x)) in
      omega (arith, all, e)

  -- the record, where there are some
  pub by_record_of : 1 ≤ shape.index → how_many (lists 0) 1 (last_part shape) ≡ shape.index
  by_record_of some =
      let all = all_until (lists 0) 1 (shape.index + 1) (last_part shape + 1) (omega arith) (omega arith)
      (λ x a b. eq-eqb (parent_number shape x) 0 (turn.by_record x (omega (arith, b)))) in
      let none = none_left (lists 0) (shape.index + 1) (last_part shape + 1) (λ x a b.
      false_from_ne_true (lists 0 x) (λ h.
      omega (
        arith,
        eqb-true (parent_number shape x) 0 h,
        place x (omega (arith, a)),
        by_place shape (x - shape.index - 1) some,
      ))) in
      omega (arith, ap (how_many (lists 0) 1) from_one, all, none)

  -- an index packet
  module _ (k : ℕ) (from : 1 ≤ k) (to : k ≤ shape.index) where
    -- where its segments begin
    abbrev start : ℕ
    start = shape.index + 1 + most_listed * (k - 1)

    lists_at : (x : ℕ) → shape.index < x → parent_number shape x ≡ k
        → (most_listed * (k - 1) ≤ x - shape.index - 1) × (x - shape.index - 1 < most_listed * k)
    lists_at x l e =
        let here : parent_number shape (shape.index + 1 + (x - shape.index - 1)) ≡ k =
        omega (arith, place x l, e) in
        (turn.by_index k (x - shape.index - 1) from to).0 here

    pub by_packet : how_many (lists k) 1 (last_part shape) ≡ min (shape.segments - most_listed * (k - 1)) most_listed
    by_packet =
        let some = turn.some k from to in
        let end = min (start + most_listed) (last_part shape + 1) in
        let before = none_until (lists k) 1 start (last_part shape + 1) (omega arith) (omega (arith, some)) (λ x a b.
        false_from_ne_true (lists k x) (λ h.
        let e = eqb-true (parent_number shape x) k h in
        elim (cases_lt shape.index x) [
          | inl l ↦ omega (arith, (lists_at x l e).0, l, b)
          | inr m ↦ omega (arith, e, turn.by_record x m, from)
        ])) in
        let here = all_until (lists k) start end (last_part shape + 1) (omega (arith, some)) (omega arith) (λ x a b.
        eq-eqb (parent_number shape x) k
        (let l : shape.index < x = omega (arith, a) in
        place x l
        ∙ (turn.by_index k (x - shape.index - 1) from to).1 (omega (arith, a, l), omega (arith, a, b, l)))) in
        let later = none_left (lists k) end (last_part shape + 1) (λ x a b.
        false_from_ne_true (lists k x) (λ h.
        let l : shape.index < x = omega (arith, a, some) in
        omega (arith, (lists_at x l (eqb-true (parent_number shape x) k h)).1, l, a, b))) in
        omega (arith, ap (how_many (lists k) 1) from_one, before, here, later, some)
