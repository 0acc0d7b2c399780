use Rattle.std.proofs.Common.{◌≡◌, map, take}
use Rattle.repo_object.proofs.object.Object.new.Given as goal

abbrev pub invariant-loop-content : goal.invariant-loop-content
invariant-loop-content l = map (λ c. c.items) l.copies.items ≡ map (λ c. c.items) (take l.content-index l.contents)
