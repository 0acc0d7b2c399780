use Rattle.std.proofs.Common.{◌≡◌, ◌∙◌, ◌++◌, Bool, Some, List, ap, map}
use Rattle.std.specs.List.{filter, flat_map}
use Rattle.sorted_lists.specs.SortedList.{keys}
use Rattle.repo_plan.specs.declared.part.Part.{Part}
use Rattle.repo_plan.specs.Plan.{first, holds, is_after}
use Rattle.repo_plan.proofs.Scans.{after_none}
use Rattle.script_story.specs.Mirrors.{mirror_as, mirror_of}
use Rattle.repo_mirror.specs.MirrorState.{MirrorState, fetch_plan}
use Rattle.bench_world.specs.Worlds.{world_of}
use Rattle.bench_world.specs.MirrorSteps.{mirror_at}
use Rattle.lab_capture.specs.Frames.{frames_text, mirror_part, stored_by}
use Rattle.lab_capture.proofs.HeldLists.{fewer_left, next_one, next_small, none_left}
use Rattle.lab_capture.proofs.Texts.{passed_all, passed_text}
use Rattle.lab_capture.proofs.Mirrors.{held_stored, stored_are_held}
use Rattle.lab_capture.proofs.mirrored.put_all_stored.Goals as goal

pub loop-part-init : goal.loop-part-init
loop-part-init c =
    let s = c.args.world.now in
    let m = mirror_of (map mirror_as s.mirrors) c.args.i in
    let f = mirror_part s.keys (world_of s) m c.args.i c.args.held.now in
    record {
      all = ap (λ (ts : List Part). c.args.out.now.items ++ frames_text (flat_map f ts))
          (after_none (stored_by (world_of s) m));
      small = tt;
    }

pub loop-part-smaller : goal.loop-part-smaller
loop-part-smaller c =
    let s = c.args.world.now in
    let a = mirror_at s.mirrors c.args.i in
    let held = stored_by (world_of s) (mirror_of (map mirror_as s.mirrors) c.args.i) in
    let stored : keys c.mirror.result.now.store ≡ held =
    ap (λ (x : MirrorState). keys x.store) c.mirror.ensures
    ∙ (held_stored s c.cite_soundness.ensures.consistent c.args.i c.requires) in
    fewer_left (λ t. holds (fetch_plan a) t) held
    (stored_are_held s c.cite_soundness.ensures.consistent c.args.i c.requires) c.loop-part.last c.in-Some.part
    (c.in-Some.ensures ∙ ap (λ (ts : List Part). first (filter (is_after c.loop-part.last) ts)) stored)

pub loop-part-preserved : goal.loop-part-preserved
loop-part-preserved c =
    let s = c.args.world.now in
    let a = mirror_at s.mirrors c.args.i in
    let held = stored_by (world_of s) (mirror_of (map mirror_as s.mirrors) c.args.i) in
    let stored : keys c.mirror.result.now.store ≡ held =
    ap (λ (x : MirrorState). keys x.store) c.mirror.ensures
    ∙ (held_stored s c.cite_soundness.ensures.consistent c.args.i c.requires) in
    let has : Part → Bool = λ t. holds (fetch_plan a) t in
    let are = stored_are_held s c.cite_soundness.ensures.consistent c.args.i c.requires in
    let e = c.in-Some.ensures ∙ ap (λ (ts : List Part). first (filter (is_after c.loop-part.last) ts)) stored in
    let f = mirror_part s.keys (world_of s) (mirror_of (map mirror_as s.mirrors) c.args.i) c.args.i c.args.held.now in
    record {
      all = passed_text f (filter (is_after c.loop-part.last) held) (filter (is_after (Some c.in-Some.part)) held)
          c.in-Some.part c.loop-part.out.items c.put_stored.new.out.items
          (c.args.out.now.items ++ frames_text (flat_map f held))
          (next_one has held are c.loop-part.last c.in-Some.part e) c.loop-part.invariant.all
          c.in_ok-put_stored.ensures;
      small = next_small has held are c.loop-part.last c.in-Some.part e;
    }

pub returns : goal.returns
returns c =
    let s = c.args.world.now in
    let m = mirror_at s.mirrors c.args.i in
    let held = stored_by (world_of s) (mirror_of (map mirror_as s.mirrors) c.args.i) in
    let stored : keys c.mirror.result.now.store ≡ held =
    ap (λ (x : MirrorState). keys x.store) c.mirror.ensures
    ∙ held_stored s c.cite_soundness.ensures.consistent c.args.i c.requires in
    let f = mirror_part s.keys (world_of s) (mirror_of (map mirror_as s.mirrors) c.args.i) c.args.i
    c.args.held.now in
    passed_all f (filter (is_after c.loop-part.last) held) c.loop-part.out.items
    (c.args.out.now.items ++ frames_text (flat_map f held))
    (none_left (λ t. holds (fetch_plan m) t) held
    (stored_are_held s c.cite_soundness.ensures.consistent c.args.i c.requires) c.loop-part.last
    (c.in_default.ensures ∙ ap (λ (ts : List Part). first (filter (is_after c.loop-part.last) ts)) stored))
    c.loop-part.invariant.all
