-- The parts that a member holds, as a list.
use Rattle.std.specs.Prelude.{◌≡◌, ◌<◌, Bool, true, List}
use Rattle.sorted_lists.specs.SortedList.{Rises, contains}
use Rattle.repo_plan.specs.declared.part.Part.{Part}
use Rattle.repo_plan.specs.Parts.{part_cmp}

-- `held` has the parts for which `has` is true, in order, each once. None of them has the greatest part number, 65535.
pub record AreHeld (has : Part → Bool) (held : List Part) : Type 0 where
  pub in_order : Rises part_cmp held
  pub same : (t : Part) → has t ≡ contains part_cmp held t
  pub small : (t : Part) → contains part_cmp held t ≡ true → t.part < 65535
