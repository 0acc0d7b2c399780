use Rattle.std.proofs.Common.{rules, ℕ, ◌+◌, ◌<◌, length, sym, ap, ◌∙◌, subst, arith}
use Rattle.group_model.specs.World.{someone_holds}
use Rattle.repo_mirror.specs.MirrorState.{MirrorState, mirror_holdings}
use Rattle.bench_world.specs.MirrorSteps.{mirror_at}
use Rattle.bench_world.specs.MirrorSettles.{held_by}
use Rattle.bench_world.specs.Truth.{TriedFew}
use Rattle.bench_world.specs.Unsettled.{MirrorLacksNone}
use Rattle.bench_world.specs.Worlds.{in_groups, only_members}
use Rattle.bench_world.proofs.MirrorSettling.{settled_none, one_more}
use Rattle.bench_world.proofs.mirror_fetches.fetch_all_for_mirrors.Goals as goal

pub loop-i-init : goal.loop-i-init
loop-i-init g c =
    let can = c.requires in
    record {
      so_far = settled_none c.args.g.now (only_members c.args.members.now) c.args.mirrors.now.items can.consistent;
      parts = omega arith;
      few = omega arith;
    }

pub fetch_all_for-requires : goal.fetch_all_for-requires
fetch_all_for-requires g c =
    let can = c.requires in
    let so_far = c.loop-i.invariant.so_far in
    let inside : c.loop-i.i < length c.loop-i.mirrors.items =
    omega (arith, c.loop-i-test.true, c.len-count.ensures, c.loop-i.invariant.so_far.len, c.args.mirrors.now.ok) in
    let begun : c.loop-i.i < length c.args.mirrors.now.items =
    omega (arith, inside, c.loop-i.invariant.so_far.len) in
    let few = can.few in (
      c.type_bounds.sync-R,
      record {
        workers = can.workers;
        there = inside;
        few = omega (arith, begun, few);
        logs = can.logs;
        sound = can.sound;
        others = can.others;
        known = can.known;
        consistent = so_far.consistent c.loop-i.i inside;
        tried =
            subst (λ (m : MirrorState). TriedFew (mirror_holdings m)) (sym (so_far.still c.loop-i.i (omega arith)))
            (can.tried c.loop-i.i begun);
        lacks =
            subst (MirrorLacksNone c.args.touched.now (someone_holds (in_groups c.args.members.now)))
            (sym (so_far.still c.loop-i.i (omega arith))) (can.lacks c.loop-i.i begun);
      },
    )

pub returns-in_err-came : goal.returns-in_err-came
returns-in_err-came g c =
    let inside : c.loop-i.i < length c.loop-i.mirrors.items =
    omega (arith, c.loop-i-test.true, c.len-count.ensures, c.loop-i.invariant.so_far.len, c.args.mirrors.now.ok) in
    let more =
    one_more c.args.g.now (only_members c.args.members.now) c.args.mirrors.now.items c.loop-i.i c.loop-i.mirrors.items
    c.loop-i.invariant.so_far inside c.fetch_all_for.new.mirrors.items c.fetch_all_for.ensures.others
    c.fetch_all_for.ensures.consistent c.fetch_all_for.ensures.partly in
    record {
      len = more.len;
      consistent = more.consistent;
      settled = search rules;
      parts = search rules;
      partly = more.partly;
    }

pub loop-i-preserved : goal.loop-i-preserved
loop-i-preserved g c =
    let inside : c.loop-i.i < length c.loop-i.mirrors.items =
    omega (arith, c.loop-i-test.true, c.len-count.ensures, c.loop-i.invariant.so_far.len, c.args.mirrors.now.ok) in
    let more =
    one_more c.args.g.now (only_members c.args.members.now) c.args.mirrors.now.items c.loop-i.i c.loop-i.mirrors.items
    c.loop-i.invariant.so_far inside c.fetch_all_for.new.mirrors.items c.fetch_all_for.ensures.others
    c.fetch_all_for.ensures.consistent c.fetch_all_for.ensures.partly in
    record {
      so_far = more.settled c.in_ok-came.ensures.settled;
      parts =
          more.held c.loop-i.parts c.from-parts.result c.loop-i.invariant.parts
          (ap (λ (n : ℕ). n + held_by (mirror_at c.loop-i.mirrors.items c.loop-i.i)) c.from-parts.ensures
          ∙ c.in_ok-came.ensures.parts);
      few = omega (arith, c.loop-i.invariant.few, c.from-parts.ensures);
    }

pub returns-clause-settled : goal.returns-clause-settled
returns-clause-settled g c = λ i l.
    c.loop-i.invariant.so_far.done i
    (omega (arith, l, c.loop-i-test.false, c.loop-i.auto.i-end, c.len-count.ensures, c.args.mirrors.now.ok))
