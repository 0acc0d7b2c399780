use Rattle.std.proofs.Common.{◌≡◌, ◌+◌, ◌<◌, List, length, map, set, refl, sym, ap, ◌∙◌, subst, arith}
use Rattle.std.specs.Prelude.{slice_set, sum, sum_by}
use Rattle.std.proofs.lemmas.List.{get_or_default, get_or-set_same}
use Rattle.repo_holdings.specs.Taking.{Fetched}
use Rattle.repo_member.specs.MemberState.{MemberState}
use Rattle.repo_member.specs.InGroup.{parts_fetched}
use Rattle.repo_mirror.specs.MirrorState.{MirrorState}
use Rattle.bench_world.specs.Conditions.{CanFetchFor}
use Rattle.bench_world.specs.MirrorSteps.{no_mirror, mirror_at, mirror_fetched, mirror_fetches}
use Rattle.bench_world.specs.MirrorFetching.{mirror_asks, mirror_gets, mirror_attempts, HasFetched}
use Rattle.bench_world.specs.Unsettled.{MirrorsLackNone}
use Rattle.bench_world.specs.Worlds.{GroupState, IsConsistentState, in_groups, world_of}
use Rattle.bench_world.specs.Kept.{world_state}
use Rattle.bench_world.proofs.States.{few_logs}
use Rattle.bench_world.proofs.MirrorAsks.{asks_are, gets_are, attempts_are, has_fetched}
use Rattle.bench_world.proofs.MirrorsLacking.{fetched_mirror_lacks}
use Rattle.bench_world.proofs.MirrorStates.{mirror_tried, fetched_mirror}
use Rattle.bench_world.proofs.world.World.mirror_fetch.Goals as goal

pub fetch_for-requires : goal.fetch_for-requires
fetch_for-requires g c =
    let s = world_state c.self.inside in
    let there = subst (λ (x : GroupState). c.args.i < length x.mirrors) (sym c.self.view_is) c.requires.there in
    let few = c.self.invariant.consistent.mirrors_few in (
      c.type_bounds.sync-N,
      (
        c.type_bounds.sync-R,
        subst (λ (as_ : List MemberState). CanFetchFor s.keys c.args.workers c.args.tries c.args.i as_ s.mirrors)
            (sym c.as_slice.ensures.value)
            (record {
              workers = c.requires.workers;
              tries = c.requires.tries;
              there = there;
              few = omega (arith, there, few);
              logs = few_logs s c.self.invariant.consistent;
              others = c.self.invariant.consistent.members;
              consistent = c.self.invariant.consistent.mirrors c.args.i no_mirror there;
              tried =
                  mirror_tried s c.self.invariant.consistent c.args.i there (mirror_at s.mirrors c.args.i)
                  (get_or_default s.mirrors c.args.i no_mirror (mirror_at s.mirrors c.args.i) there);
            }),
      ),
    )

pub invariant_of-self : goal.invariant_of-self
invariant_of-self g c =
    let s = world_state c.self.inside in
    record {
      consistent =
          subst (λ (ms : List MirrorState). IsConsistentState (record s { mirrors = ms }))
          (sym c.in_err-counts.ensures.err)
          c.self.invariant.consistent;
      nobody_lacks =
          record {
            members = c.self.invariant.nobody_lacks.members;
            mirrors =
                subst (MirrorsLackNone c.self.inside.unsettled.mirrors (in_groups s.members))
                (sym c.in_err-counts.ensures.err) c.self.invariant.nobody_lacks.mirrors;
          };
    }

pub invariant_of-self-2 : goal.invariant_of-self-2
invariant_of-self-2 g c =
    let s = world_state c.self.inside in
    let there = subst (λ (x : GroupState). c.args.i < length x.mirrors) (sym c.self.view_is) c.requires.there in
    let few = subst (λ (x : GroupState). x.steps < 100000) (sym c.self.view_is) c.requires.few in
    record {
      consistent =
          fetched_mirror s c.self.invariant.consistent c.args.i there (mirror_at s.mirrors c.args.i)
          (get_or_default s.mirrors c.args.i no_mirror (mirror_at s.mirrors c.args.i) there) few
          (g.N.Net.passes c.args.net.now) c.args.tries c.args.loss
          c.requires.tries.1 c.fetch_for.new.mirrors.items
          (c.in_ok-counts.ensures.ok
          ∙ ap (λ (as_ : List MemberState). set s.mirrors c.args.i
          (mirror_fetches (g.N.Net.passes c.args.net.now) as_ c.args.i c.args.tries c.args.loss
          (mirror_at s.mirrors c.args.i)))
          c.as_slice.ensures.value);
      nobody_lacks =
          record {
            members = c.self.invariant.nobody_lacks.members;
            mirrors =
                fetched_mirror_lacks c.self.inside.unsettled.mirrors (in_groups s.members) s.mirrors c.args.i there
                (g.N.Net.passes c.args.net.now) (world_of s) s.members c.args.tries c.args.loss
                (has_fetched (g.N.Net.passes c.args.net.now) s.keys (world_of s) c.self.invariant.consistent.are
                s.members refl (mirror_at s.mirrors c.args.i)
                (c.self.invariant.consistent.mirrors c.args.i no_mirror there) c.args.i c.args.tries c.args.loss
                c.self.invariant.consistent.members)
                c.fetch_for.new.mirrors.items
                (c.in_ok-counts.ensures.ok
                ∙ ap (λ (as_ : List MemberState). set s.mirrors c.args.i
                (mirror_fetches (g.N.Net.passes c.args.net.now) as_ c.args.i c.args.tries c.args.loss
                (mirror_at s.mirrors c.args.i)))
                c.as_slice.ensures.value)
                c.self.invariant.nobody_lacks.mirrors;
          };
    }

pub returns-clause-ok : goal.returns-clause-ok
returns-clause-ok g c =
    let s = world_state c.self.inside in
    ap (λ (ms : List MirrorState). let x : GroupState = record s { mirrors = ms; steps = s.steps + 1 } in x)
    (c.in_ok-counts.ensures.ok
    ∙ ap (λ (as_ : List MemberState). set s.mirrors c.args.i
    (mirror_fetches (g.N.Net.passes c.args.net.now) as_ c.args.i c.args.tries c.args.loss
    (mirror_at s.mirrors c.args.i)))
    c.as_slice.ensures.value)
    ∙ ap (λ (x : GroupState). let y : GroupState = record x {
      mirrors =
          slice_set x.mirrors c.args.i
          (mirror_fetches (g.N.Net.passes c.args.net.now) x.members c.args.i c.args.tries c.args.loss
          (mirror_at x.mirrors c.args.i));
      steps = x.steps + 1;
    } in y) c.self.view_is

pub returns-clause-fetched : goal.returns-clause-fetched
returns-clause-fetched g c =
    let s = world_state c.self.inside in
    let there = subst (λ (x : GroupState). c.args.i < length x.mirrors) (sym c.self.view_is) c.requires.there in
    let m : MirrorState = mirror_at s.mirrors c.args.i in
    let made : MirrorState =
    mirror_fetches (g.N.Net.passes c.args.net.now) s.members c.args.i c.args.tries c.args.loss m in
    let now : mirror_at c.fetch_for.new.mirrors.items c.args.i ≡ made =
    ap (λ (ms : List MirrorState). mirror_at ms c.args.i)
    (c.in_ok-counts.ensures.ok
    ∙ ap (λ (as_ : List MemberState). set s.mirrors c.args.i
    (mirror_fetches (g.N.Net.passes c.args.net.now) as_ c.args.i c.args.tries c.args.loss m)) c.as_slice.ensures.value)
    ∙ get_or-set_same s.mirrors c.args.i made no_mirror there in
    subst (λ (x : GroupState). HasFetched (g.N.Net.passes c.args.net.now) (world_of x) c.args.i c.args.tries c.args.loss
    (mirror_at x.mirrors c.args.i) (mirror_at c.fetch_for.new.mirrors.items c.args.i)) c.self.view_is
    (subst (HasFetched (g.N.Net.passes c.args.net.now) (world_of s) c.args.i c.args.tries c.args.loss m) (sym now)
    (has_fetched (g.N.Net.passes c.args.net.now) s.keys (world_of s) c.self.invariant.consistent.are s.members refl m
    (c.self.invariant.consistent.mirrors c.args.i no_mirror there) c.args.i c.args.tries c.args.loss
    c.self.invariant.consistent.members))

pub returns-clause-counts : goal.returns-clause-counts
returns-clause-counts g c =
    let s = world_state c.self.inside in
    let there = subst (λ (x : GroupState). c.args.i < length x.mirrors) (sym c.self.view_is) c.requires.there in
    let m : MirrorState = mirror_at s.mirrors c.args.i in
    let consistent = c.self.invariant.consistent.mirrors c.args.i no_mirror there in
    record {
      planned =
          c.in_ok-counts.ensures.planned
          ∙ ap length
          (asks_are (g.N.Net.passes c.args.net.now) s.keys (world_of s) c.self.invariant.consistent.are s.members refl m
          consistent c.args.i c.args.tries c.args.loss)
          ∙ ap (λ (x : GroupState). length (mirror_asks (world_of x) (mirror_at x.mirrors c.args.i))) c.self.view_is;
      kept =
          c.in_ok-counts.ensures.parts
          ∙ ap (λ (as_ : List MemberState). length
          (parts_fetched (mirror_fetched (g.N.Net.passes c.args.net.now) as_ c.args.i c.args.tries c.args.loss m)))
          c.as_slice.ensures.value
          ∙ ap length
          (gets_are (g.N.Net.passes c.args.net.now) s.keys (world_of s) c.self.invariant.consistent.are s.members refl m
          consistent c.args.i c.args.tries c.args.loss)
          ∙ ap (λ (x : GroupState). length (mirror_gets (g.N.Net.passes c.args.net.now) (world_of x) c.args.i
          c.args.tries c.args.loss (mirror_at x.mirrors c.args.i))) c.self.view_is;
      attempts =
          c.in_ok-counts.ensures.attempts
          ∙ ap (λ (as_ : List MemberState). sum (map (λ (x : Fetched). x.attempts)
          (mirror_fetched (g.N.Net.passes c.args.net.now) as_ c.args.i c.args.tries c.args.loss m)))
          c.as_slice.ensures.value
          ∙ attempts_are (g.N.Net.passes c.args.net.now) s.keys (world_of s) c.self.invariant.consistent.are s.members
          refl m consistent c.args.i c.args.tries c.args.loss
          ∙ ap (λ (x : GroupState). sum_by
          (mirror_attempts (g.N.Net.passes c.args.net.now) (world_of x) c.args.i c.args.tries c.args.loss
          (mirror_at x.mirrors c.args.i)) (mirror_asks (world_of x) (mirror_at x.mirrors c.args.i))) c.self.view_is;
    }
