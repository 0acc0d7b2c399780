use Rattle.std.proofs.Common.{◌≡◌, ℕ, ◌≤◌, ◌<◌, true, false, sym, ap, ◌∙◌, subst, arith}
use Rattle.repo_plan.specs.Parts.{part_of, last_known_part, parent_number}
use Rattle.repo_plan.specs.Plan.{PlanState, holds, is_done, shape_of}
use Rattle.repo_plan.specs.Sound.{PlanIsSound}
use Rattle.repo_plan.proofs.Known.{listed_asked, unlisted}
use Rattle.repo_plan.proofs.Scans.{not_next}
use Rattle.repo_plan.proofs.Gaps.{none_until, found_gap, none_held, none_more, none_asked}
use Rattle.repo_plan.proofs.Views.{gap_open}
use Rattle.repo_plan.proofs.plan.Plan.next_listed.Goals as goal

pub loop-passed-init : goal.loop-passed-init
loop-passed-init c x l =
    not_next c.args.self.now c.args.after (part_of c.args.publication x) (c.passed_parts-passed.ensures x l)

pub returns-then-x-last_number : goal.returns-then-x-last_number
returns-then-x-last_number c =
    let now = c.args.self.now in
    let pair = c.args.publication in
    let last_number : c.last_part-last_number.result ≡ last_known_part (shape_of now pair) =
    c.last_part-last_number.ensures ∙ sym (ap last_known_part c.requires.shape) in
    let held : (m : ℕ) → c.loop-passed.passed ≤ m → m < c.gap_from-x.result → holds now (part_of pair m) ≡ true =
    λ m a b.
    subst (λ (p : PlanState). holds p (part_of pair m) ≡ true) c.self.view_is
    (c.self.invariant.all_held (pair, m) (c.gap_from-x.ensures.none_before m a b)) in
    let below = none_held now c.args.after pair c.loop-passed.passed c.gap_from-x.result c.loop-passed.invariant held in
    sym (none_until now c.args.after pair c.gap_from-x.result below
    (omega (arith, last_number, c.if-x-last_number.true)))

pub loop-passed-preserved-then-not-is_listed : goal.loop-passed-preserved-then-not-is_listed
loop-passed-preserved-then-not-is_listed c =
    let now = c.args.self.now in
    let pair = c.args.publication in
    let held : (m : ℕ) → c.loop-passed.passed ≤ m → m < c.gap_from-x.result → holds now (part_of pair m) ≡ true =
    λ m a b.
    subst (λ (p : PlanState). holds p (part_of pair m) ≡ true) c.self.view_is
    (c.self.invariant.all_held (pair, m) (c.gap_from-x.ensures.none_before m a b)) in
    let below = none_held now c.args.after pair c.loop-passed.passed c.gap_from-x.result c.loop-passed.invariant held in
    let lacks : holds now (part_of pair (parent_number c.args.shape c.gap_from-x.result)) ≡ false =
    sym c.is_listed.ensures ∙ c.if-not-is_listed.true in
    none_asked now c.args.after pair c.gap_from-x.result c.after_listed_with-passed.result below (λ m a b.
    let same = c.after_listed_with-passed.ensures.same m a b in
    unlisted now (subst PlanIsSound c.self.view_is c.self.invariant.sound) pair c.args.shape m c.requires.shape
    (ap (λ (n : ℕ). holds now (part_of pair n)) same ∙ lacks))

pub is_next-requires-clause-asked : goal.is_next-requires-clause-asked
is_next-requires-clause-asked c =
    let now = c.args.self.now in
    let pair = c.args.publication in
    let listed : holds now (part_of pair (parent_number c.args.shape c.gap_from-x.result)) ≡ true =
    sym c.is_listed.ensures ∙ c.if-not-is_listed.false in
    listed_asked now pair c.args.shape c.gap_from-x.result c.requires.known c.requires.shape
    (omega (arith, c.last_part-last_number.ensures, c.if-x-last_number.false)) listed

pub is_next-requires-clause-not_held : goal.is_next-requires-clause-not_held
is_next-requires-clause-not_held c =
    let pair = c.args.publication in
    let undone = ap (λ (p : PlanState). is_done p pair) c.self.view_is ∙ c.requires.undone in
    ap (λ (p : PlanState). holds p (part_of pair c.gap_from-x.result)) (sym c.self.view_is)
    ∙ gap_open c.self.inside c.self.invariant pair c.gap_from-x.result undone c.gap_from-x.ensures.gap

pub returns-then-is_next : goal.returns-then-is_next
returns-then-is_next c =
    let now = c.args.self.now in
    let pair = c.args.publication in
    let last_number : c.last_part-last_number.result ≡ last_known_part (shape_of now pair) =
    c.last_part-last_number.ensures ∙ sym (ap last_known_part c.requires.shape) in
    let held : (m : ℕ) → c.loop-passed.passed ≤ m → m < c.gap_from-x.result → holds now (part_of pair m) ≡ true =
    λ m a b.
    subst (λ (p : PlanState). holds p (part_of pair m) ≡ true) c.self.view_is
    (c.self.invariant.all_held (pair, m) (c.gap_from-x.ensures.none_before m a b)) in
    let below = none_held now c.args.after pair c.loop-passed.passed c.gap_from-x.result c.loop-passed.invariant held in
    sym (found_gap now c.args.after pair c.gap_from-x.result below
    (omega (arith, last_number, c.if-x-last_number.false))
    (sym c.is_next.ensures ∙ c.if-is_next.true))

pub loop-passed-preserved : goal.loop-passed-preserved
loop-passed-preserved c =
    let now = c.args.self.now in
    let pair = c.args.publication in
    let held : (m : ℕ) → c.loop-passed.passed ≤ m → m < c.gap_from-x.result → holds now (part_of pair m) ≡ true =
    λ m a b.
    subst (λ (p : PlanState). holds p (part_of pair m) ≡ true) c.self.view_is
    (c.self.invariant.all_held (pair, m) (c.gap_from-x.ensures.none_before m a b)) in
    let below = none_held now c.args.after pair c.loop-passed.passed c.gap_from-x.result c.loop-passed.invariant held in
    none_more now c.args.after pair c.gap_from-x.result below
    (sym c.is_next.ensures ∙ c.if-is_next.false)

pub returns : goal.returns
returns c =
    let now = c.args.self.now in
    let pair = c.args.publication in
    let last_number : c.last_part-last_number.result ≡ last_known_part (shape_of now pair) =
    c.last_part-last_number.ensures ∙ sym (ap last_known_part c.requires.shape) in
    sym (none_until now c.args.after pair c.loop-passed.passed c.loop-passed.invariant
    (omega (arith, last_number, c.loop-passed-test.false)))
