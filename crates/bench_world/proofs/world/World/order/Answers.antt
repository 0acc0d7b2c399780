use Rattle.std.proofs.Common.{◌≡◌, ◌<◌, ◌+◌, ℕ, None, length, set, refl, sym, ap, ◌∙◌, subst}
use Rattle.std.proofs.lemmas.Result.{err_from_is_err_and}
use Rattle.group_model.specs.Refusals.{if_unissued}
use Rattle.group_model.specs.World.{World}
use Rattle.group_model.specs.Steps.{after_order, order_answer}
use Rattle.repo_member.specs.Commanded as commanded
use Rattle.bench_world.specs.EventValues.{order_report}
use Rattle.bench_world.specs.Kept.{world_state}
use Rattle.bench_world.specs.Steps.{IsFaultOf}
use Rattle.bench_world.specs.Worlds.{GroupState, world_of}
use Rattle.bench_world.proofs.States.{number_is}
use Rattle.bench_world.proofs.IssuedLemmas.{may_taken, order_fault}
use Rattle.bench_world.proofs.Orders.{obeyed_world, obeyed_state, order_answered, order_range}
use Rattle.bench_world.proofs.Spreading.{order_spreads}
use Rattle.bench_world.proofs.NobodyLacking.{inside_too, nothing_lacks}
use Rattle.bench_world.proofs.world.World.order.Goals as goal

pub command_checked-requires-clause-verdict : goal.command_checked-requires-clause-verdict
command_checked-requires-clause-verdict c =
    let s = world_state c.self.inside in
    let there = subst (λ (x : GroupState). c.args.m < length x.members) (sym c.self.view_is) c.requires.there in
    let old = c.index_mut-member.result.now in
    let number = number_is s c.self.invariant.consistent c.args.m there old c.index_mut-member.ensures.value in
    c.in_ok-verdict.ensures.verdict ∙ ap (λ (k : ℕ). commanded.order_of s.keys k c.args.octets.now) (sym number)

pub invariant_of-self-2 : goal.invariant_of-self-2
invariant_of-self-2 c =
    let s = world_state c.self.inside in
    let there = subst (λ (x : GroupState). c.args.m < length x.members) (sym c.self.view_is) c.requires.there in
    let few = subst (λ (x : GroupState). x.steps < 100000) (sym c.self.view_is) c.requires.few in
    let old = c.index_mut-member.result.now in
    let number = number_is s c.self.invariant.consistent c.args.m there old c.index_mut-member.ensures.value in
    let b_is =
    c.in_ok-answered.ensures.ok
    ∙ ap (λ (k : ℕ). commanded.member_after_order (commanded.order_of s.keys k c.args.octets.now) old) number in
    record {
      consistent =
          obeyed_state s c.self.invariant.consistent c.args.m there old c.index_mut-member.ensures.value
          (commanded.order_of s.keys c.args.m c.args.octets.now) c.command_checked.new.self b_is few
          (order_range s.keys c.args.m c.args.octets.now);
      nobody_lacks =
          nothing_lacks s c.args.m there c.self.inside.unsettled c.self.invariant.nobody_lacks
          (set s.members c.args.m c.command_checked.new.self)
          (after_order (world_of s) c.args.m (commanded.order_of s.keys c.args.m c.args.octets.now))
          (ap (λ (w : World). w.members)
          (obeyed_world s c.self.invariant.consistent c.args.m there old c.index_mut-member.ensures.value
          (commanded.order_of s.keys c.args.m c.args.octets.now) c.command_checked.new.self b_is))
          (λ n. order_spreads n (world_of s) c.args.m (inside_too s c.args.m there)
          (commanded.order_of s.keys c.args.m c.args.octets.now));
    }

pub returns : goal.returns
returns c =
    let s = world_state c.self.inside in
    let there = subst (λ (x : GroupState). c.args.m < length x.members) (sym c.self.view_is) c.requires.there in
    let old = c.index_mut-member.result.now in
    let number = number_is s c.self.invariant.consistent c.args.m there old c.index_mut-member.ensures.value in
    let b_is =
    c.in_ok-answered.ensures.ok
    ∙ ap (λ (k : ℕ). commanded.member_after_order (commanded.order_of s.keys k c.args.octets.now) old) number in
    let may = c.in_ok-verdict.ensures.issued in
    record {
      taken =
          subst (λ (x : GroupState).
          if_unissued (world_of x) c.args.m (commanded.order_of x.keys c.args.m c.args.octets.now) ≡ None)
          c.self.view_is
          (may_taken (world_of s) c.args.m (commanded.order_of s.keys c.args.m c.args.octets.now) may);
      world =
          obeyed_world s c.self.invariant.consistent c.args.m there old c.index_mut-member.ensures.value
          (commanded.order_of s.keys c.args.m c.args.octets.now) c.command_checked.new.self b_is
          ∙ ap (λ (x : GroupState). after_order (world_of x) c.args.m
          (commanded.order_of x.keys c.args.m c.args.octets.now))
          c.self.view_is;
      report =
          c.ordered.ensures
          ∙ ap (order_report c.args.m)
          (c.in_ok-answered.ensures.answer.answer
          ∙ ap (λ (k : ℕ). commanded.member_order_answer (commanded.order_of s.keys k c.args.octets.now) old) number
          ∙ order_answered s c.self.invariant.consistent c.args.m there old c.index_mut-member.ensures.value
          (commanded.order_of s.keys c.args.m c.args.octets.now))
          ∙ ap (λ (x : GroupState).
          order_report c.args.m (order_answer (world_of x) c.args.m
          (commanded.order_of x.keys c.args.m c.args.octets.now)))
          c.self.view_is;
      joined = tt;
      steps = ap (λ (x : GroupState). x.steps + 1) c.self.view_is;
      keys = ap (λ (x : GroupState). x.keys) c.self.view_is;
      mirrors = ap (λ (x : GroupState). x.mirrors) c.self.view_is;
      refused = tt;
      err = tt;
    }

pub returns-in_err-verdict : goal.returns-in_err-verdict
returns-in_err-verdict c =
    let s = world_state c.self.inside in
    let order = commanded.order_of s.keys c.args.m c.args.octets.now in
    let p = err_from_is_err_and c.from_residual.result c.from_residual.ensures.1 in
    rw (p.1, p.2) record {
      taken = tt;
      world = tt;
      report = tt;
      joined = tt;
      steps = tt;
      keys = refl;
      mirrors = refl;
      refused =
          subst (λ (x : GroupState).
          IsFaultOf (if_unissued (world_of x) c.args.m (commanded.order_of x.keys c.args.m c.args.octets.now))
          c.in_err-verdict.field-0.0)
          c.self.view_is
          (order_fault (world_of s) c.args.m order c.in_err-verdict.field-0.0 c.in_err-verdict.ensures.refused);
      err = refl;
    }
