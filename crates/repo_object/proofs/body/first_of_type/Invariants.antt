use Rattle.std.proofs.Common.{◌≡◌, length}
use Rattle.repo_object.specs.Bodies.{first_of_type}
use Rattle.repo_object.proofs.body.first_of_type.Given as goal

abbrev pub invariant-loop-element : goal.invariant-loop-element
invariant-loop-element l = first_of_type l.typ l.rest.items ≡ first_of_type l.typ l.fn.elements.items

abbrev pub decreases-loop-element : goal.decreases-loop-element
decreases-loop-element l = length l.rest.items
