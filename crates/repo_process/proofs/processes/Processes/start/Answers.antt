use Rattle.std.proofs.Common.{ℕ, ◌+◌, List, ap, ◌∙◌, nat_cmp}
use Rattle.sorted_lists.specs.SortedList.{with_value}
use Rattle.repo_process.specs.Processes.{Process, starting}
use Rattle.repo_process.specs.Insertions.{Insertions}
use Rattle.repo_process.proofs.PlaceLemmas.{pushed}
use Rattle.repo_process.proofs.processes.Processes.start.Goals as goal

abbrev made : List (ℕ × Process) → ℕ → Insertions
made ps next = record { processes = ps; next_process = next }

pub returns-clause-ok : goal.returns-clause-ok
returns-clause-ok c =
    let m = c.self.inside in
    let i = c.args.self.now in
    let next = ap (λ (j : Insertions). j.next_process + 1) c.self.view_is in
    ap (λ ps. made ps (m.next + 1))
    (pushed m i c.in_ok-insertion.insertion c.push.new.self.items c.self.invariant c.self.view_is
    c.in_ok-push.ensures.items)
    ∙ ap (λ p. made (with_value nat_cmp i.next_process p i.processes) (m.next + 1)) c.in_ok-insertion.ensures
    ∙ ap (made (with_value nat_cmp i.next_process (starting c.args.name.now c.args.first c.args.last) i.processes)) next
