use Rattle.std.proofs.Common.{rules, refl}
use Rattle.std.proofs.lemmas.Result.{on_ok_weaker, IfOk-weaker}
use Rattle.bench_world.specs.Worlds.{logs_around}
use Rattle.bench_world.proofs.MirrorSettling.{gains_of}
use Rattle.bench_world.proofs.MirrorGathering.{as_wide, consistently_learnt, few_learnt, lacks_touched, gathered}
use Rattle.bench_world.proofs.mirror_fetches.fetch_all_for.Goals as goal

pub learn-requires : goal.learn-requires
learn-requires g c =
    as_wide c.args.g.now c.args.workers c.args.i c.args.members.now c.args.touched.now c.args.known.now
    c.args.mirrors.now.items c.requires c.remove-mirror.result c.remove-mirror.ensures.value

pub fetch_from_all-came-requires : goal.fetch_from_all-came-requires
fetch_from_all-came-requires g c κs =
    let can = c.requires in
    let ms = c.args.mirrors.now.items in (
      search rules,
      (
        record { shared = c.type_bounds.sync-R.shared },
        record {
          workers = can.workers;
          logs = can.logs;
          others = can.others;
          loss = refl;
          consistent =
              consistently_learnt c.args.g.now c.args.workers c.args.i c.args.members.now c.args.touched.now
              c.args.known.now ms can c.remove-mirror.result c.remove-mirror.ensures.value c.learn.new.self
              c.learn.ensures;
          tried =
              few_learnt c.args.g.now c.args.workers c.args.i c.args.members.now c.args.touched.now
              c.args.known.now ms can c.remove-mirror.result c.remove-mirror.ensures.value c.learn.new.self
              c.learn.ensures;
          lacks =
              lacks_touched c.args.g.now c.args.workers c.args.i c.args.members.now c.args.touched.now
              c.args.known.now ms can c.remove-mirror.result c.remove-mirror.ensures.value c.learn.new.self
              c.learn.ensures;
        },
      ),
    )

pub returns : goal.returns
returns g c =
    let done =
    gathered c.args.g.now c.args.workers c.args.i c.args.members.now c.args.touched.now c.args.known.now
    c.args.mirrors.now.items c.requires c.remove-mirror.result c.remove-mirror.ensures.value c.learn.new.self
    c.learn.ensures c.remove-mirror.new.self.items c.put_back.new.row.items c.fetch_from_all-came.new.holder.mirror
    c.remove-mirror.ensures.items c.put_back.ensures
    (gains_of c.args.g.now (logs_around c.args.members.now) c.args.members.now _ c.fetch_from_all-came.new.holder
    c.fetch_from_all-came.ensures.gains) in
    record {
      others = done.others;
      consistent = done.consistent;
      settled = on_ok_weaker c.fetch_from_all-came.result done.settled c.fetch_from_all-came.ensures.left;
      parts =
          IfOk-weaker c.fetch_from_all-came.result _ _ (λ parts came. done.held parts came)
          c.fetch_from_all-came.ensures.parts;
      partly = done.partly;
    }
