use Rattle.std.proofs.Common.{◌≡◌, ◌+◌, ◌*◌, ◌≤◌, length, take, drop}
use Rattle.std.specs.List.{All, sum_by}
use Rattle.repo_object.specs.Objects.{IsObject}
use Rattle.live_member.specs.Meanings.{part_count}
use Rattle.live_member.proofs.limits.count_parts.Given as goal

abbrev pub invariant-loop-list : goal.invariant-loop-list
invariant-loop-list l = record {
  parts : l.parts + sum_by (λ x. sum_by part_count x.items) (drop l.list-index l.lists)
      ≡ sum_by (λ x. sum_by part_count x.items) l.lists;
  few : l.parts + sum_by (λ x. length x.items) (drop l.list-index l.lists) * 131071
      ≤ sum_by (λ x. length x.items) l.lists * 131071;
  objects : All (λ x. All IsObject x.items) (take l.list-index l.lists);
}
