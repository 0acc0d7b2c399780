use Rattle.std.proofs.Common.{◌≡◌, map, take}
use Rattle.repo_process.proofs.processes.Processes.object.Given as goal

abbrev pub invariant-loop-content : goal.invariant-loop-content
invariant-loop-content l = map (λ c. c.items) l.copies.items ≡ map (λ c. c.items) (take l.content-index l.contents)
