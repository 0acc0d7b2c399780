use Rattle.std.proofs.Common.{◌+◌, ◌-◌, map, sym, ap, ◌∙◌}
use Rattle.repo_process.proofs.InsideLemmas.{items}
use Rattle.repo_process.proofs.ProcessLemmas.{of_contents, starting-contents}
use Rattle.repo_process.proofs.insertion.Insertion.new.Goals as goal

pub returns : goal.returns
returns c =
    let name = c.args.name.now in
    let first = c.args.first in
    let last = c.args.last in
    ap (λ n. of_contents n first last (map items c.in_ok-no_blocks.field-0.items)) c.in_ok-clone.ensures.cases
    ∙ ap (of_contents name first last) c.in_ok-no_blocks.ensures
    ∙ sym (starting-contents name first last (last - first + 1))
