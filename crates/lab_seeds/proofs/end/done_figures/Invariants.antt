use Rattle.std.proofs.Common.{◌≡◌, ◌++◌, drop}
use Rattle.std.specs.List.{flat_map}
use Rattle.lab_seeds.specs.Ends.{end_figures}
use Rattle.lab_seeds.proofs.end.done_figures.Given as goal

abbrev pub invariant-loop-end : goal.invariant-loop-end
invariant-loop-end l = l.done.items ++ flat_map end_figures (drop l.end-index l.ends) ≡ flat_map end_figures l.ends
