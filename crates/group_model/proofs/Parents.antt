-- Parts that list others.
use Rattle.std.proofs.Common.{◌≡◌, ℕ, ◌+◌, ◌-◌, ◌/◌, ◌≤◌, ◌<◌, Bool, true, false, cond, ◌||◌, refl, sym, ap, ◌∙◌, arith}
use Rattle.std.proofs.lemmas.Bool.{or_parts, leb-false, eqb-false}
use Rattle.std.specs.Prelude.{nat_le, ◌==◌}
use Rattle.repo_plan.specs.declared.part.Part.{Part}
use Rattle.repo_plan.specs.Parts.{most_listed, index_packets, shape_of_segments, last_part, parent_number, parent}
use Rattle.repo_plan.specs.Parts.{pair_of, part_of}
use Rattle.repo_plan.specs.declared.shape.Shape.{Shape}
use Rattle.repo_plan.proofs.Parents.{by_record}

pub record_lists_itself : (shape : Shape) (t : Part) → t.part ≡ 0 → parent shape t ≡ t
record_lists_itself shape t e =
    let zero_at : parent_number shape t.part ≡ t.part = by_record shape t.part (omega (arith, e)) ∙ sym e in
    ap (part_of (pair_of t)) zero_at

bounded : (index segments x : ℕ) → index ≡ index_packets segments → x ≤ index + segments → (index == 0) ≡ false
    → 1 + (x - index - 1) / most_listed ≤ index
bounded index segments x e l some = go (nat_le segments most_listed) refl where
  go : (b : Bool) → nat_le segments most_listed ≡ b → 1 + (x - index - 1) / most_listed ≤ index
  go true h =
      let none : index ≡ 0 = e ∙ ap (λ (b : Bool). cond b 0 ((segments + most_listed - 1) / most_listed)) h in
      absurd (eqb-false index 0 some none)
  go false h =
      let many : index ≡ (segments + 200 - 1) / 200 =
      e ∙ ap (λ (b : Bool). cond b 0 ((segments + most_listed - 1) / most_listed)) h in
      let after : 200 < segments = leb-false segments 200 h in omega (arith, many, l, after)

-- what lists a part is a record or an index packet
parent_before : (segments x : ℕ) → x ≤ last_part (shape_of_segments segments)
    → parent_number (shape_of_segments segments) x ≤ index_packets segments
parent_before segments x l = go (index_packets segments == 0 || nat_le x (index_packets segments)) refl where
  go : (b : Bool) → (index_packets segments == 0 || nat_le x (index_packets segments)) ≡ b
      → cond b 0 (1 + (x - index_packets segments - 1) / most_listed) ≤ index_packets segments
  go true h = omega arith
  go false h =
      bounded (index_packets segments) segments x refl l
      (or_parts (index_packets segments == 0) (nat_le x (index_packets segments)) h).0

-- and so one of the publication's parts
pub parent_within : (segments x : ℕ) → x ≤ last_part (shape_of_segments segments)
    → parent_number (shape_of_segments segments) x ≤ last_part (shape_of_segments segments)
parent_within segments x l =
    let few : parent_number (shape_of_segments segments) x ≤ index_packets segments = parent_before segments x l in
    omega (arith, few)

-- what lists a part is listed by the record
pub parent_of_parent : (segments x : ℕ) → x ≤ last_part (shape_of_segments segments)
    → parent_number (shape_of_segments segments) (parent_number (shape_of_segments segments) x) ≡ 0
parent_of_parent segments x l =
    by_record (shape_of_segments segments) (parent_number (shape_of_segments segments) x)
    (parent_before segments x l)
