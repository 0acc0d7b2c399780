use Rattle.std.proofs.Common.{◌≡◌, ℕ, sym, ap, ◌∙◌, arith}
use Rattle.std.specs.Prelude.{◌==◌}
use Rattle.repo_plan.specs.Counts.{how_many}
use Rattle.repo_plan.specs.Parts.{last_part, parent_number}
use Rattle.repo_plan.proofs.Lists.{by_segment, by_packet, by_record_of, by_record_alone}
use Rattle.repo_plan.proofs.shape.Shape.lists.Goals as goal

pub returns-then-part-self : goal.returns-then-part-self
returns-then-part-self c = sym (by_segment c.args.self c.requires c.args.part c.if-part-self.true)

pub returns-then-part-gt0 : goal.returns-then-part-gt0
returns-then-part-gt0 c =
    let most = by_packet c.args.self c.requires c.args.part (omega (arith, c.if-part-gt0.true))
    (omega (arith, c.if-part-self.false)) in
    omega (arith, most, c.min.ensures)

pub returns-then-self-gt0 : goal.returns-then-self-gt0
returns-then-self-gt0 c =
    let shape = c.args.self in
    let record_number : 0 ≡ c.args.part = omega (arith, c.if-part-gt0.false) in
    sym (by_record_of shape c.requires (omega (arith, c.if-self-gt0.true)))
    ∙ ap (λ (k : ℕ). how_many (λ x. parent_number shape x == k) 1 (last_part shape)) record_number

pub returns-else-self-gt0 : goal.returns-else-self-gt0
returns-else-self-gt0 c =
    let shape = c.args.self in
    let record_number : 0 ≡ c.args.part = omega (arith, c.if-part-gt0.false) in
    sym (by_record_alone shape c.requires (omega (arith, c.if-self-gt0.false)))
    ∙ ap (λ (k : ℕ). how_many (λ x. parent_number shape x == k) 1 (last_part shape)) record_number
