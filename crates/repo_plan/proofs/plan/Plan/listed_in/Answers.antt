use Rattle.std.proofs.Common.{◌≡◌, ℕ, ◌+◌, true, false, sym, ap, ◌∙◌, arith}
use Rattle.std.specs.Prelude.{is_some}
use Rattle.repo_plan.specs.Parts.{part_of, last_part, parent_number}
use Rattle.repo_plan.specs.Plan.{holds, may_be_asked_for}
use Rattle.repo_plan.proofs.Counts.{none_until, all_until, none_left}
use Rattle.repo_plan.proofs.Known.{listed_asked, unlisted}
use Rattle.repo_plan.proofs.plan.Plan.listed_in.Goals as goal

pub is_listed-requires : goal.is_listed-requires
is_listed-requires c =
    record { «record» = sym (c.cite_soundness.ensures.shapes c.args.publication) ∙ ap is_some c.requires.shape }

pub loop-passed-preserved-then-is_listed : goal.loop-passed-preserved-then-is_listed
loop-passed-preserved-then-is_listed c =
    let now = c.args.self.now in
    let pair = c.args.publication in
    let shape = c.args.shape in
    let passed = c.loop-passed.passed in
    let end = c.end_of_list-end.result in
    let held : holds now (part_of pair (parent_number shape passed)) ≡ true =
    sym c.is_listed.ensures ∙ c.if-is_listed.true in
    let here = all_until (λ x. may_be_asked_for now (part_of pair x)) passed end (last_part shape + 1)
    (omega (arith, c.end_of_list-end.ensures.following)) c.end_of_list-end.ensures.within (λ x a b.
    listed_asked now pair shape x c.requires.known c.requires.shape
    (omega (arith, b, c.end_of_list-end.ensures.within))
    (ap (λ (n : ℕ). holds now (part_of pair n)) (c.end_of_list-end.ensures.same x a b) ∙ held)) in
    record {
      whole = omega (arith, c.loop-passed.invariant.whole, here, c.end_of_list-end.ensures.following);
      few = omega (arith, c.loop-passed.invariant.few, c.end_of_list-end.ensures.following);
    }

pub loop-passed-preserved : goal.loop-passed-preserved
loop-passed-preserved c =
    let now = c.args.self.now in
    let pair = c.args.publication in
    let shape = c.args.shape in
    let passed = c.loop-passed.passed in
    let end = c.end_of_list-end.result in
    let lacks : holds now (part_of pair (parent_number shape passed)) ≡ false =
    sym c.is_listed.ensures ∙ c.if-is_listed.false in
    let here = none_until (λ x. may_be_asked_for now (part_of pair x)) passed end (last_part shape + 1)
    (omega (arith, c.end_of_list-end.ensures.following)) c.end_of_list-end.ensures.within (λ x a b.
    unlisted now c.cite_soundness.ensures pair shape x c.requires.shape
    (ap (λ (n : ℕ). holds now (part_of pair n)) (c.end_of_list-end.ensures.same x a b) ∙ lacks)) in
    record {
      whole = omega (arith, c.loop-passed.invariant.whole, here);
      few = omega (arith, c.loop-passed.invariant.few, c.end_of_list-end.ensures.following);
    }

pub returns : goal.returns
returns c =
    let none = none_left (λ x. may_be_asked_for c.args.self.now (part_of c.args.publication x)) c.loop-passed.passed
    (last_part c.args.shape + 1)
    (λ x a b. absurd (omega (arith, a, b, c.loop-passed-test.false, c.last_part-last_number.ensures))) in
    omega (arith, c.loop-passed.invariant.whole, none)
