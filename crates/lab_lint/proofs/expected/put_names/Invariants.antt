use Rattle.std.proofs.Common.{◌≡◌, ◌++◌, map, length}
use Rattle.std.specs.List.{flat_map}
use Rattle.script_lang.specs.WordPlaces.{place_name}
use Rattle.lab_lint.specs.Expected.{spaced_name}
use Rattle.lab_lint.proofs.expected.put_names.Given as goal

abbrev pub invariant-loop-rest : goal.invariant-loop-rest
invariant-loop-rest l = l.out.items ++ flat_map spaced_name (map place_name l.rest)
    ≡ l.fn.out.items ++ flat_map spaced_name (map place_name l.places)

abbrev pub decreases-loop-rest : goal.decreases-loop-rest
decreases-loop-rest l = length l.rest
