use Rattle.std.proofs.Common.{rules, ◌≡◌, ◌+◌, ◌<◌, length, take, refl, subst, ap, ◌∙◌, arith}
use Rattle.group_model.specs.World.{logs}
use Rattle.bench_world.specs.MemberWords.{member_words}
use Rattle.bench_world.specs.MembersHold.{members_hold}
use Rattle.bench_world.specs.Gathering.{one_each, held_sum, Counts}
use Rattle.bench_world.specs.Settling.{new_parts_sum, FetchedSoFar}
use Rattle.bench_world.specs.Sizes.{size_of}
use Rattle.bench_world.specs.Worlds.{state_at}
use Rattle.bench_world.proofs.Rounds.{few_held, few_octets}
use Rattle.bench_world.proofs.AllGathering.{gathered_none, gathered_part, gathered_more, gathered_all, sum_more}
use Rattle.bench_world.proofs.AllGathering.{all_sum, sum_ones, partly_all, few_all, lacks_at}
use Rattle.bench_world.proofs.EitherAnswer.{where_err}
use Rattle.bench_world.proofs.Bounded.{condition, passed_on}
use Rattle.bench_world.proofs.member_fetches.fetch_all_for_members.Goals as goal

pub loop-j-init : goal.loop-j-init
loop-j-init g c =
    let can = condition c.requires in
    record {
      so_far =
          gathered_none c.args.g.now g.begun can.sound can.logs.are c.args.members.now.items
          can.learnt can.consistent can.numbers
          can.tried;
      parts = refl;
      octets = refl;
      few = omega arith;
      few_octets = omega arith;
    }

pub fetch_all_at-requires : goal.fetch_all_at-requires
fetch_all_at-requires g c κs within =
    let can = condition c.requires in
    passed_on within c.requires
    (record {
      workers = can.workers;
      there = omega (
        arith,
        c.loop-j-test.true,
        c.len-count.ensures,
        c.loop-j.invariant.so_far.all.len,
        c.args.members.now.ok,
      );
      logs = can.logs;
      members = c.loop-j.invariant.so_far.all.consistent;
      tried = c.loop-j.invariant.so_far.all.tried;
      lacks =
          lacks_at c.args.g.now g.begun can.sound can.logs.are c.args.members.now.items can.learnt c.args.touched.now
          can.lacks c.loop-j.j c.loop-j.members.items c.loop-j.invariant.so_far
          (omega (
            arith,
            c.loop-j-test.true,
            c.len-count.ensures,
            c.loop-j.invariant.so_far.all.len,
            c.args.members.now.ok,
          ));
    })

pub returns-in_err-came : goal.returns-in_err-came
returns-in_err-came g c =
    let can = condition c.requires in
    let inside : c.loop-j.j < length c.loop-j.members.items =
    omega (arith, c.loop-j-test.true, c.len-count.ensures, c.loop-j.invariant.so_far.all.len, c.args.members.now.ok) in
    let part =
    gathered_part c.args.g.now g.begun can.sound can.logs.are c.args.members.now.items can.learnt
    c.loop-j.j c.loop-j.members.items c.loop-j.invariant.so_far inside c.fetch_all_at.new.members.items
    c.fetch_all_at.ensures.others c.fetch_all_at.ensures.gains in
    record {
      parts = search rules;
      octets = search rules;
      members = search rules;
      stay =
          record { len = part.len; consistent = part.consistent; numbers = part.numbers; counts = part.counts };
      err =
          where_err c.from_residual.result
          (partly_all c.args.g.now g.begun can.sound can.logs.are c.args.members.now.items can.learnt
          c.fetch_all_at.new.members.items part);
    }

pub overflow_add-octets : goal.overflow_add-octets
overflow_add-octets g c =
    let can = condition c.requires in
    let inside : c.loop-j.j < length c.loop-j.members.items =
    omega (arith, c.loop-j-test.true, c.len-count.ensures, c.loop-j.invariant.so_far.all.len, c.args.members.now.ok) in
    let sixteen =
    few_all c.args.g.now g.begun can.sound can.logs.are c.args.members.now.items
    can.learnt in
    let most =
    few_octets member_words members_hold c.args.g.now (logs g.begun) can.logs.are
    (state_at c.fetch_all_at.new.members.items c.loop-j.j) c.fetch_all_at.ensures.gains.consistent in
    let few = can.logs.few in
    let came = c.in_ok-came.ensures.octets in
    omega (arith, inside, sixteen, most, few, came, c.loop-j.invariant.few_octets, c.loop-j.invariant.so_far.all.len)

pub loop-j-preserved : goal.loop-j-preserved
loop-j-preserved g c =
    let can = condition c.requires in
    let inside : c.loop-j.j < length c.loop-j.members.items =
    omega (arith, c.loop-j-test.true, c.len-count.ensures, c.loop-j.invariant.so_far.all.len, c.args.members.now.ok) in
    let many : Counts member_words one_each c.from-parts.result (state_at c.loop-j.members.items c.loop-j.j)
    (state_at c.fetch_all_at.new.members.items c.loop-j.j) =
    ap (λ n. n + held_sum member_words one_each (state_at c.loop-j.members.items c.loop-j.j)) c.from-parts.ensures
    ∙ c.in_ok-came.ensures.parts in
    let most =
    few_held member_words members_hold c.args.g.now (logs g.begun) can.logs.are
    (state_at c.fetch_all_at.new.members.items c.loop-j.j) c.fetch_all_at.ensures.gains.consistent in
    let most_octets =
    few_octets member_words members_hold c.args.g.now (logs g.begun) can.logs.are
    (state_at c.fetch_all_at.new.members.items c.loop-j.j) c.fetch_all_at.ensures.gains.consistent in
    let few = can.logs.few in
    record {
      so_far =
          gathered_more c.args.g.now g.begun can.sound can.logs.are
          c.args.members.now.items can.learnt
          c.loop-j.j c.loop-j.members.items c.loop-j.invariant.so_far inside c.fetch_all_at.new.members.items
          c.fetch_all_at.ensures.others c.fetch_all_at.ensures.gains c.in_ok-came.ensures.left;
      parts =
          sum_more c.args.g.now g.begun can.sound can.logs.are c.args.members.now.items can.learnt
          c.loop-j.j c.loop-j.members.items c.loop-j.invariant.so_far inside c.fetch_all_at.new.members.items
          c.fetch_all_at.ensures.others c.fetch_all_at.ensures.gains c.in_ok-came.ensures.left
          one_each c.loop-j.parts c.from-parts.result c.loop-j.invariant.parts many;
      octets =
          sum_more c.args.g.now g.begun can.sound can.logs.are c.args.members.now.items can.learnt
          c.loop-j.j c.loop-j.members.items c.loop-j.invariant.so_far inside c.fetch_all_at.new.members.items
          c.fetch_all_at.ensures.others c.fetch_all_at.ensures.gains c.in_ok-came.ensures.left
          (size_of c.args.g.now (logs g.begun)) c.loop-j.octets c.in_ok-came.came.octets c.loop-j.invariant.octets
          c.in_ok-came.ensures.octets;
      few = omega (arith, c.loop-j.invariant.few, many, most, few);
      few_octets =
          let came = c.in_ok-came.ensures.octets in
          omega (arith, c.loop-j.invariant.few_octets, came, most_octets, few);
    }

pub returns : goal.returns
returns g c =
    let can = condition c.requires in
    let ms = c.args.members.now.items in
    let so_far = c.loop-j.invariant.so_far in
    let all : c.loop-j.j ≡ length ms =
    omega (arith, c.loop-j-test.false, c.loop-j.auto.j-end, c.len-count.ensures, c.args.members.now.ok) in
    record {
      parts =
          all_sum c.args.g.now g.begun can.sound can.logs.are ms can.learnt one_each c.loop-j.parts
          (c.loop-j.invariant.parts ∙ ap (λ n. new_parts_sum one_each g.begun (take n g.begun.members)) all)
          ∙ sum_ones g.begun;
      octets =
          all_sum c.args.g.now g.begun can.sound can.logs.are ms can.learnt (size_of c.args.g.now (logs g.begun))
          c.loop-j.octets
          (c.loop-j.invariant.octets
          ∙ ap (λ n. new_parts_sum (size_of c.args.g.now (logs g.begun)) g.begun (take n g.begun.members)) all);
      members =
          gathered_all c.args.g.now g.begun can.sound can.logs.are ms can.learnt c.loop-j.members.items
          (subst (λ n. FetchedSoFar c.args.g.now g.begun ms n c.loop-j.members.items) all so_far);
      stay =
          record {
            len = so_far.all.len;
            consistent = so_far.all.consistent;
            numbers = so_far.all.numbers;
            counts = so_far.all.counts;
          };
      err = tt;
    }
