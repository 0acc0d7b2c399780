use Rattle.std.proofs.Common.{◌≡◌, sym, ap, ◌∙◌, arith}
use Rattle.repo_process.specs.Processes.{Process, present, missing}
use Rattle.repo_process.specs.Fields.{contents_of}
use Rattle.repo_process.proofs.ProcessLemmas.{present-counted, present-published, missing-counted}
use Rattle.repo_process.proofs.InsideLemmas.{opened}
use Rattle.repo_process.proofs.insertion.Insertion.status.Goals as goal

pub returns-then-self-clause-present : goal.returns-then-self-clause-present
returns-then-self-clause-present c =
    let m = c.self.inside in
    let p = c.args.self.now in
    let first : m.first ≡ p.first = ap (λ (q : Process). q.first) c.self.view_is in
    let last : m.last ≡ p.last = ap (λ (q : Process). q.last) c.self.view_is in
    omega (
      arith,
      first,
      last,
      c.self.invariant.order,
      present-published p (sym (ap (λ (q : Process). q.published) c.self.view_is) ∙ c.if-self.true),
    )

pub overflow_sub-result : goal.overflow_sub-result
overflow_sub-result c =
    let m = c.self.inside in
    let o =
    opened m c.args.self.now c.self.invariant c.self.view_is
    (sym (ap (λ (q : Process). q.published) c.self.view_is) ∙ c.if-self.false) in
    let missed = missing-counted m.name m.first m.last (contents_of m) o.long in
    omega (
      arith,
      c.missing.ensures.count,
      ap missing o.same,
      missed,
      present-counted m.name m.first m.last (contents_of m) o.long,
      o.long,
      c.self.invariant.order,
    )

pub returns-clause-present : goal.returns-clause-present
returns-clause-present c =
    let m = c.self.inside in
    let o =
    opened m c.args.self.now c.self.invariant c.self.view_is
    (sym (ap (λ (q : Process). q.published) c.self.view_is) ∙ c.if-self.false) in
    let missed = missing-counted m.name m.first m.last (contents_of m) o.long in
    omega (
      arith,
      c.missing.ensures.count,
      ap missing o.same,
      ap present o.same,
      missed,
      present-counted m.name m.first m.last (contents_of m) o.long,
      o.long,
      c.self.invariant.order,
    )
