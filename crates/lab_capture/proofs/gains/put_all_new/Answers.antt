use Rattle.std.proofs.Common.{◌≡◌, ◌∙◌, ◌++◌, Bool, Some, List, ap, sym}
use Rattle.std.specs.List.{filter, flat_map}
use Rattle.sorted_lists.specs.SortedList.{keys}
use Rattle.repo_plan.specs.declared.part.Part.{Part}
use Rattle.repo_plan.specs.Plan.{first, holds, is_after}
use Rattle.repo_plan.proofs.Scans.{after_none}
use Rattle.group_model.specs.World.{member}
use Rattle.repo_member.specs.MemberState.{MemberState, member_plan}
use Rattle.bench_world.specs.Worlds.{state_at, world_of}
use Rattle.lab_capture.specs.Frames.{frames_text, new_part}
use Rattle.lab_capture.proofs.HeldLists.{fewer_left, next_one, next_small}
use Rattle.lab_capture.proofs.Texts.{passed_text}
use Rattle.lab_capture.proofs.Worlds.{held_in_order, held_is}
use Rattle.lab_capture.proofs.gains.put_all_new.Goals as goal

pub loop-part-init : goal.loop-part-init
loop-part-init c =
    let s = c.args.world.now in
    record {
      all = ap (λ (ts : List Part). c.args.out.now.items ++ frames_text (flat_map
          (new_part s.keys (world_of s) c.args.m c.args.held.now) ts)) (after_none (member (world_of s) c.args.m).held);
      small = tt;
    }

pub loop-part-smaller : goal.loop-part-smaller
loop-part-smaller c =
    let s = c.args.world.now in
    let a = state_at s.members c.args.m in
    let held = (member (world_of s) c.args.m).held in
    let stored : keys c.member.result.now.store ≡ held =
    ap (λ (x : MemberState). keys x.store) c.member.ensures.same
    ∙ sym (held_is s c.cite_soundness.ensures.consistent c.args.m c.requires) in
    fewer_left (λ t. holds (member_plan a) t) held
    (held_in_order s c.cite_soundness.ensures.consistent c.args.m c.requires) c.loop-part.last c.in-Some.part
    (c.in-Some.ensures ∙ ap (λ (ts : List Part). first (filter (is_after c.loop-part.last) ts)) stored)

pub loop-part-preserved : goal.loop-part-preserved
loop-part-preserved c =
    let s = c.args.world.now in
    let a = state_at s.members c.args.m in
    let held = (member (world_of s) c.args.m).held in
    let stored : keys c.member.result.now.store ≡ held =
    ap (λ (x : MemberState). keys x.store) c.member.ensures.same
    ∙ sym (held_is s c.cite_soundness.ensures.consistent c.args.m c.requires) in
    let has : Part → Bool = λ t. holds (member_plan a) t in
    let are = held_in_order s c.cite_soundness.ensures.consistent c.args.m c.requires in
    let e = c.in-Some.ensures ∙ ap (λ (ts : List Part). first (filter (is_after c.loop-part.last) ts)) stored in
    let f = new_part s.keys (world_of s) c.args.m c.args.held.now in
    record {
      all = passed_text f (filter (is_after c.loop-part.last) held) (filter (is_after (Some c.in-Some.part)) held)
          c.in-Some.part c.loop-part.out.items c.put_new_part.new.out.items
          (c.args.out.now.items ++ frames_text (flat_map f held))
          (next_one has held are c.loop-part.last c.in-Some.part e) c.loop-part.invariant.all
          c.in_ok-put_new_part.ensures;
      small = next_small has held are c.loop-part.last c.in-Some.part e;
    }
