-- How many octets the packets of parts have.
use Rattle.std.specs.Prelude.{ℕ, [], length, unwrap_or, if◌then◌else◌}
use Rattle.repo_plan.specs.declared.part.Part.{Part}
use Rattle.sorted_lists.specs.SortedList.{contains}
use Rattle.repo_plan.specs.Parts.{part_cmp}
use Rattle.group_model.specs.Publications.{Logs, all_parts}
use Rattle.repo_member.specs.Groups.{GroupKeys}
use Rattle.repo_member.specs.InGroup.{published_packet}

-- How many octets the packet of the part `t` has, or 0 if there is no such part.
abbrev pub size_of : GroupKeys → Logs → Part → ℕ
size_of g logs t = if contains part_cmp (all_parts logs) t then length (unwrap_or (published_packet g logs t) []) else 0
