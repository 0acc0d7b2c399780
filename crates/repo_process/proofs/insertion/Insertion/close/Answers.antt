use Rattle.std.proofs.Common.{map, sym, ap, ◌∙◌}
use Rattle.repo_process.specs.Processes.{object_of}
use Rattle.repo_process.specs.Fields.{contents_of}
use Rattle.repo_process.proofs.ProcessLemmas.{object-contents}
use Rattle.repo_process.proofs.InsideLemmas.{items, opened}
use Rattle.repo_process.proofs.insertion.Insertion.close.Goals as goal

pub returns-clause-blocks : goal.returns-clause-blocks
returns-clause-blocks c =
    let m = c.self.inside in
    let o = opened m c.args.self.now c.self.invariant c.self.view_is c.requires.open in
    ap (λ v. map items v.items) c.replace.ensures.value
    ∙ sym (object-contents m.name m.first m.last (contents_of m) o.long)
    ∙ ap (λ p. (object_of p).contents) (sym o.same)
