use Rattle.std.proofs.Common.{◌≡◌, List, length, refl, ap, sym, ◌∙◌, subst, arith}
use Rattle.svs_vector.specs.Vectors.{join_all}
use Rattle.group_model.specs.World.{logs}
use Rattle.repo_member.specs.MemberState.{MemberState}
use Rattle.bench_world.specs.Touching.{NoneLacks}
use Rattle.bench_world.proofs.Lacking.{learnt_lacks}
use Rattle.bench_world.proofs.KnownByAll.{knowns, joined_short}
use Rattle.bench_world.proofs.EitherAnswer.{where_err}
use Rattle.bench_world.proofs.Learnt.{few_members, widths, own_known, all_width, have_learnt, stay_then}
use Rattle.bench_world.proofs.Learnt.{partly_none}
use Rattle.bench_world.proofs.Bounded.{condition, passed_on}
use Rattle.bench_world.proofs.settling.settle_members.Goals as goal

pub returns-in_err-syncs-clause-err : goal.returns-in_err-syncs-clause-err
returns-in_err-syncs-clause-err g c =
    let can = condition c.requires in
    where_err c.from_residual.result
    (partly_none c.args.g.now g.begun can.logs.are can.sound c.args.members.now.items can.begun can.consistent)

pub returns-in_err-known-clause-err : goal.returns-in_err-known-clause-err
returns-in_err-known-clause-err g c =
    let can = condition c.requires in
    where_err c.from_residual-in_err-known.result
    (partly_none c.args.g.now g.begun can.logs.are can.sound c.args.members.now.items can.begun can.consistent)

pub returns-in_err-syncs-clause-stay : goal.returns-in_err-syncs-clause-stay
returns-in_err-syncs-clause-stay g c =
    let can = condition c.requires in
    record {
      len = refl;
      consistent = can.consistent;
      numbers = can.numbers;
      counts = λ j. record { machine = refl; attempts = refl };
    }

pub returns-in_err-known-clause-stay : goal.returns-in_err-known-clause-stay
returns-in_err-known-clause-stay g c =
    let can = condition c.requires in
    record {
      len = refl;
      consistent = can.consistent;
      numbers = can.numbers;
      counts = λ j. record { machine = refl; attempts = refl };
    }

pub learn_all-requires : goal.learn_all-requires
learn_all-requires g c =
    let can = condition c.requires in
    let ms = c.args.members.now.items in
    let all : c.in_ok-known.known ≡ join_all (knowns ms) =
    c.in_ok-known.ensures ∙ ap (λ (as_ : List MemberState). join_all (knowns as_)) c.as_slice-2.ensures.value in
    let long : length c.in_ok-known.known ≡ length (join_all (knowns ms)) = ap length all in
    let wide = widths c.args.g.now g.begun can.logs.are can.sound ms can.begun can.consistent in
    let short = joined_short ms wide in
    let few = few_members c.args.g.now g.begun can.logs.are can.sound ms can.begun can.consistent in
    record {
      few = omega (arith, long, short, few);
      width = λ j l.
          wide j l
          ∙ sym (all_width c.args.g.now g.begun can.logs.are can.sound ms can.begun can.consistent c.in_ok-known.known
          all
          j l);
      own = own_known c.args.g.now g.begun can.logs.are can.sound ms can.begun can.consistent c.in_ok-known.known all;
    }

pub fetch_all_for_members-requires : goal.fetch_all_for_members-requires
fetch_all_for_members-requires g c κs within =
    let can = condition c.requires in
    let ms = c.args.members.now.items in
    let all : c.in_ok-known.known ≡ join_all (knowns ms) =
    c.in_ok-known.ensures ∙ ap (λ (as_ : List MemberState). join_all (knowns as_)) c.as_slice-2.ensures.value in
    let done =
    have_learnt c.args.g.now g.begun can.logs.are can.sound ms can.begun can.consistent c.in_ok-known.known all
    c.learn_all.new.members.items c.learn_all.ensures.len c.learn_all.ensures.each in
    passed_on within c.requires
    (record {
      workers = can.workers;
      logs = can.logs;
      sound = can.sound;
      learnt = done.learnt;
      consistent = done.consistent;
      numbers = done.numbers can.numbers;
      tried = done.tried can.tried;
      lacks =
          subst (NoneLacks c.args.touched.now) (sym done.learnt)
          (learnt_lacks g.begun c.args.touched.now g.begun.members
          (subst (NoneLacks c.args.touched.now) can.begun can.lacks));
    })

pub returns-clause-stay : goal.returns-clause-stay
returns-clause-stay g c =
    let can = condition c.requires in
    let ms = c.args.members.now.items in
    let all : c.in_ok-known.known ≡ join_all (knowns ms) =
    c.in_ok-known.ensures ∙ ap (λ (as_ : List MemberState). join_all (knowns as_)) c.as_slice-2.ensures.value in
    let done =
    have_learnt c.args.g.now g.begun can.logs.are can.sound ms can.begun can.consistent c.in_ok-known.known all
    c.learn_all.new.members.items c.learn_all.ensures.len c.learn_all.ensures.each in
    stay_then c.args.g.now (logs g.begun) ms c.learn_all.new.members.items c.fetch_all_for_members.new.members.items
    c.learn_all.ensures.len done.counts c.fetch_all_for_members.ensures.stay

pub returns-in_err-parts-clause-stay : goal.returns-in_err-parts-clause-stay
returns-in_err-parts-clause-stay g c =
    let can = condition c.requires in
    let ms = c.args.members.now.items in
    let all : c.in_ok-known.known ≡ join_all (knowns ms) =
    c.in_ok-known.ensures ∙ ap (λ (as_ : List MemberState). join_all (knowns as_)) c.as_slice-2.ensures.value in
    let done =
    have_learnt c.args.g.now g.begun can.logs.are can.sound ms can.begun can.consistent c.in_ok-known.known all
    c.learn_all.new.members.items c.learn_all.ensures.len c.learn_all.ensures.each in
    stay_then c.args.g.now (logs g.begun) ms c.learn_all.new.members.items c.fetch_all_for_members.new.members.items
    c.learn_all.ensures.len done.counts c.fetch_all_for_members.ensures.stay
