use Rattle.std.proofs.Common.{◌≡◌, ◌+◌, ◌*◌, ◌≤◌, take, drop}
use Rattle.std.specs.List.{All, sum_by}
use Rattle.repo_object.specs.Objects.{IsObject}
use Rattle.live_member.specs.Meanings.{part_count}
use Rattle.live_member.proofs.limits.count_in_list.Given as goal

abbrev pub invariant-loop-object : goal.invariant-loop-object
invariant-loop-object l = record {
  parts : l.parts + sum_by part_count (drop l.object-index l.list) ≡ sum_by part_count l.list;
  few : l.parts ≤ l.object-index * 131071;
  objects : All IsObject (take l.object-index l.list);
}
