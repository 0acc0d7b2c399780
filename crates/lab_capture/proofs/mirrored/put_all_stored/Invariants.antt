use Rattle.std.proofs.Common.{◌≡◌, ◌<◌, ◌++◌, length, map}
use Rattle.std.specs.Prelude.{IfSome}
use Rattle.std.specs.List.{filter, flat_map}
use Rattle.sorted_lists.specs.SortedList.{keys}
use Rattle.repo_plan.specs.Plan.{is_after}
use Rattle.script_story.specs.Mirrors.{mirror_as, mirror_of}
use Rattle.bench_world.specs.Worlds.{world_of}
use Rattle.lab_capture.specs.Frames.{frames_text, mirror_part, stored_by}
use Rattle.lab_capture.proofs.mirrored.put_all_stored.Given as goal

abbrev pub ghost-next_held : goal.ghost-next_held
ghost-next_held a = keys a.holder.now.store

abbrev pub invariant-loop-part : goal.invariant-loop-part
invariant-loop-part l = record {
  all : l.out.items ++ frames_text (flat_map (mirror_part l.world.keys (world_of l.world)
      (mirror_of (map mirror_as l.world.mirrors) l.i) l.i l.held)
      (filter (is_after l.last) (stored_by (world_of l.world) (mirror_of (map mirror_as l.world.mirrors) l.i))))
      ≡ l.fn.out.items ++ frames_text (flat_map (mirror_part l.world.keys (world_of l.world)
      (mirror_of (map mirror_as l.world.mirrors) l.i) l.i l.held)
      (stored_by (world_of l.world) (mirror_of (map mirror_as l.world.mirrors) l.i)));
  small : IfSome l.last (λ t. t.part < 65535);
}

abbrev pub decreases-loop-part : goal.decreases-loop-part
decreases-loop-part l =
    length (filter (is_after l.last) (stored_by (world_of l.world) (mirror_of (map mirror_as l.world.mirrors) l.i)))
