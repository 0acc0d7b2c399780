use Rattle.std.proofs.Common.{◌≡◌, ◌<◌, ◌++◌, length}
use Rattle.std.specs.Prelude.{IfSome}
use Rattle.std.specs.List.{filter}
use Rattle.repo_plan.specs.Plan.{is_after}
use Rattle.lab_capture.proofs.held.HeldParts.of.Given as goal

abbrev pub ghost-next_held : goal.ghost-next_held
ghost-next_held g a = g.held

abbrev pub invariant-loop-part : goal.invariant-loop-part
invariant-loop-part g l = record {
  all : l.parts.items ++ filter (is_after l.last) g.held ≡ g.held;
  small : IfSome l.last (λ t. t.part < 65535);
}

abbrev pub decreases-loop-part : goal.decreases-loop-part
decreases-loop-part g l = length (filter (is_after l.last) g.held)
