use Rattle.std.proofs.Common.{◌<◌, length, refl, sym, ap, ◌∙◌, subst, arith, ◌+◌}
use Rattle.group_model.specs.Steps.{planned_parts, fetched_parts, attempts_made, after_fetch}
use Rattle.bench_world.specs.Serving.{environment}
use Rattle.bench_world.specs.EventValues.{ReportValue}
use Rattle.bench_world.specs.Worlds.{GroupState, world_of, only_members}
use Rattle.bench_world.specs.Kept.{world_state}
use Rattle.bench_world.proofs.States.{few_logs, tried_few}
use Rattle.bench_world.proofs.FetchesAndSettles.{fetch_fits, fetch_world, fetch_state}
use Rattle.bench_world.proofs.Spreading.{fetch_spreads}
use Rattle.bench_world.proofs.NobodyLacking.{inside_too, nothing_lacks}
use Rattle.bench_world.proofs.world.World.fetch.Goals as goal

pub fetch_at-fetched-requires : goal.fetch_at-fetched-requires
fetch_at-fetched-requires g c κs within =
    let s = world_state c.self.inside in
    let there = subst (λ (x : GroupState). c.args.m < length x.members) (sym c.self.view_is) c.requires.there in (
      within.0,
      (
        within.1,
        (
          c.type_bounds.sync-N,
          (
            c.type_bounds.sync-R,
            record {
              workers = c.requires.workers;
              tries = c.requires.tries;
              there = there;
              logs = few_logs s c.self.invariant.consistent;
              begun = refl;
              numbers = c.self.invariant.consistent.numbers;
              consistent = c.self.invariant.consistent.members;
              tried = tried_few s c.self.invariant.consistent;
            },
          ),
        ),
      ),
    )

pub overflow_add-self : goal.overflow_add-self
overflow_add-self g c =
    let s = world_state c.self.inside in
    let few = subst (λ (x : GroupState). x.steps < 100000) (sym c.self.view_is) c.requires.few in
    let fits =
    fetch_fits s c.self.invariant.consistent few (g.N.Net.passes c.args.net.now) c.args.m c.args.tries c.args.loss
    c.requires.tries.1 c.in-Ok.counts.attempts c.in-Ok.counts.kept.parts c.in-Ok.counts.kept.octets
    c.in-Ok.ensures.counts.attempts c.in-Ok.ensures.counts.parts c.in-Ok.ensures.counts.octets in
    omega (arith, fits.0)

pub overflow_add-self-3 : goal.overflow_add-self-3
overflow_add-self-3 g c =
    let s = world_state c.self.inside in
    let few = subst (λ (x : GroupState). x.steps < 100000) (sym c.self.view_is) c.requires.few in
    let fits =
    fetch_fits s c.self.invariant.consistent few (g.N.Net.passes c.args.net.now) c.args.m c.args.tries c.args.loss
    c.requires.tries.1 c.in-Ok.counts.attempts c.in-Ok.counts.kept.parts c.in-Ok.counts.kept.octets
    c.in-Ok.ensures.counts.attempts c.in-Ok.ensures.counts.parts c.in-Ok.ensures.counts.octets in
    omega (arith, fits.2)

pub invariant_of-self-2 : goal.invariant_of-self-2
invariant_of-self-2 g c =
    let s = world_state c.self.inside in
    let few = subst (λ (x : GroupState). x.steps < 100000) (sym c.self.view_is) c.requires.few in
    let there = subst (λ (x : GroupState). c.args.m < length x.members) (sym c.self.view_is) c.requires.there in
    let env = environment s.keys (λ _ _. 0) (g.N.Net.passes c.args.net.now) in
    record {
      consistent =
          fetch_state s c.self.invariant.consistent few (g.N.Net.passes c.args.net.now) c.args.m c.args.tries
          c.args.loss
          c.requires.tries.1 c.in-Ok.counts.attempts c.from.result c.in-Ok.counts.kept.octets
          c.in-Ok.ensures.counts.attempts (c.from.ensures ∙ c.in-Ok.ensures.counts.parts)
          c.in-Ok.ensures.counts.octets
          c.fetch_at-fetched.new.members.items c.in-Ok.ensures.members c.fetch_at-fetched.ensures.len
          c.fetch_at-fetched.ensures.numbers c.fetch_at-fetched.ensures.consistent;
      nobody_lacks =
          nothing_lacks s c.args.m there c.self.inside.unsettled c.self.invariant.nobody_lacks
          c.fetch_at-fetched.new.members.items
          (after_fetch env (only_members s.members) c.args.m c.args.tries c.args.loss)
          c.in-Ok.ensures.members
          (λ n. fetch_spreads n (only_members s.members) c.args.m (inside_too s c.args.m there) env
          c.args.tries c.args.loss);
    }

pub returns : goal.returns
returns g c =
    let s = world_state c.self.inside in
    let few = subst (λ (x : GroupState). x.steps < 100000) (sym c.self.view_is) c.requires.few in
    record {
      taken = refl;
      world =
          fetch_world s c.self.invariant.consistent few (g.N.Net.passes c.args.net.now) c.args.m c.args.tries
          c.args.loss
          c.requires.tries.1 c.in-Ok.counts.attempts c.from.result c.in-Ok.counts.kept.octets
          c.in-Ok.ensures.counts.attempts (c.from.ensures ∙ c.in-Ok.ensures.counts.parts)
          c.in-Ok.ensures.counts.octets
          c.fetch_at-fetched.new.members.items c.in-Ok.ensures.members
          ∙ ap (λ (x : GroupState). after_fetch (environment x.keys (λ _ _. 0) (g.N.Net.passes c.args.net.now))
          (world_of x)
          c.args.m c.args.tries c.args.loss) c.self.view_is;
      report =
          (λ i. ReportValue.Fetch c.args.m (c.in-Ok.ensures.counts.planned i)
          ((c.from-2.ensures ∙ c.in-Ok.ensures.counts.parts) i)
          (c.in-Ok.ensures.counts.attempts i))
          ∙ ap (λ (x : GroupState). ReportValue.Fetch c.args.m (length (planned_parts (world_of x) c.args.m))
          (length (fetched_parts (environment x.keys (λ _ _. 0) (g.N.Net.passes c.args.net.now)) (world_of x) c.args.m
          c.args.tries c.args.loss))
          (attempts_made (environment x.keys (λ _ _. 0) (g.N.Net.passes c.args.net.now)) (world_of x) c.args.m
          c.args.tries
          c.args.loss)) c.self.view_is;
      joined = tt;
      steps = ap (λ (x : GroupState). x.steps + 1) c.self.view_is;
      keys = ap (λ (x : GroupState). x.keys) c.self.view_is;
      mirrors = ap (λ (x : GroupState). x.mirrors) c.self.view_is;
      refused = tt;
      err = tt;
    }
