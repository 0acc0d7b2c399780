use Rattle.std.proofs.Common.{◌≡◌, ◌<◌, ◌++◌, length}
use Rattle.std.specs.Prelude.{IfSome}
use Rattle.std.specs.List.{filter, flat_map}
use Rattle.sorted_lists.specs.SortedList.{keys}
use Rattle.repo_plan.specs.Plan.{is_after}
use Rattle.group_model.specs.World.{member}
use Rattle.bench_world.specs.Worlds.{world_of}
use Rattle.lab_capture.specs.Frames.{frames_text, new_part}
use Rattle.lab_capture.proofs.gains.put_all_new.Given as goal

abbrev pub ghost-next_held : goal.ghost-next_held
ghost-next_held a = keys a.holder.now.store

abbrev pub invariant-loop-part : goal.invariant-loop-part
invariant-loop-part l = record {
  all : l.out.items ++ frames_text (flat_map (new_part l.world.keys (world_of l.world) l.m l.held)
      (filter (is_after l.last) (member (world_of l.world) l.m).held))
      ≡ l.fn.out.items ++ frames_text (flat_map (new_part l.world.keys (world_of l.world) l.m l.held)
      (member (world_of l.world) l.m).held);
  small : IfSome l.last (λ t. t.part < 65535);
}

abbrev pub decreases-loop-part : goal.decreases-loop-part
decreases-loop-part l = length (filter (is_after l.last) (member (world_of l.world) l.m).held)
