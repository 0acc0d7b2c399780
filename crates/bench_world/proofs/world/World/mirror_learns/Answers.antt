use Rattle.std.proofs.Common.{◌≡◌, ◌<◌, length, Some, None, set, sym, ap, ◌∙◌, subst}
use Rattle.std.specs.Prelude.{slice_set}
use Rattle.bench_net.specs.SentList.{SentPacket}
use Rattle.group_model.specs.World.{sent_at}
use Rattle.group_model.specs.Refusals.{unless_sent}
use Rattle.group_model.specs.Refusals.Refusal.{NoSuchPacket}
use Rattle.repo_mirror.specs.MirrorState.{MirrorState}
use Rattle.bench_world.specs.MirrorSteps.{mirror_at, mirror_learns}
use Rattle.bench_world.specs.Worlds.{GroupState, in_groups, world_of}
use Rattle.bench_world.specs.Kept.{world_state}
use Rattle.bench_world.proofs.Deliveries.{there, not_refused, few_numbers, sent_is}
use Rattle.bench_world.proofs.MirrorsLacking.{learnt_mirror_lacks}
use Rattle.bench_world.proofs.MirrorStates.{mirror_is, as_many_received, reported_mirror}
use Rattle.bench_world.proofs.world.World.mirror_learns.Goals as goal

pub vector_of-requires : goal.vector_of-requires
vector_of-requires c =
    let s = world_state c.self.inside in
    let at = there (λ (p : SentPacket). p.vector) s.sent c.args.k c.in-Some.numbers.now c.in-Some.ensures in
    few_numbers s c.self.invariant.consistent c.args.k at.first at.last c.in-Some.numbers.now at.same

pub learn-requires : goal.learn-requires
learn-requires c =
    let s = world_state c.self.inside in
    let inside = subst (λ (x : GroupState). c.args.i < length x.mirrors) (sym c.self.view_is) c.requires.there in
    let at = there (λ (p : SentPacket). p.vector) s.sent c.args.k c.in-Some.numbers.now c.in-Some.ensures in
    as_many_received s c.self.invariant.consistent c.args.i inside c.index_mut-mirror.result.now
    c.index_mut-mirror.ensures.value
    c.args.k at.first at.last c.in_ok-received.received (c.in_ok-received.ensures ∙ at.same)

pub invariant_of-self : goal.invariant_of-self
invariant_of-self c =
    let s = world_state c.self.inside in
    let inside = subst (λ (x : GroupState). c.args.i < length x.mirrors) (sym c.self.view_is) c.requires.there in
    let at = there (λ (p : SentPacket). p.vector) s.sent c.args.k c.in-Some.numbers.now c.in-Some.ensures in
    let old = c.index_mut-mirror.result.now in
    record {
      consistent =
          reported_mirror s c.self.invariant.consistent c.args.i inside old c.index_mut-mirror.ensures.value c.args.k
          at.first at.last
          (set s.mirrors c.args.i c.learn.new.self)
          (ap (set s.mirrors c.args.i)
          (c.learn.ensures ∙ ap (λ v. mirror_learns v old) (c.in_ok-received.ensures ∙ at.same)));
      nobody_lacks =
          record {
            members = c.self.invariant.nobody_lacks.members;
            mirrors =
                learnt_mirror_lacks c.self.inside.unsettled.mirrors (in_groups s.members) s.mirrors c.args.i inside
                c.in_ok-received.received old c.learn.new.self
                (mirror_is s c.self.invariant.consistent c.args.i inside old c.index_mut-mirror.ensures.value)
                c.learn.ensures c.self.invariant.nobody_lacks.mirrors;
          };
    }

pub returns-clause-sent : goal.returns-clause-sent
returns-clause-sent c =
    let s = world_state c.self.inside in
    let at = there (λ (p : SentPacket). p.vector) s.sent c.args.k c.in-Some.numbers.now c.in-Some.ensures in
    subst (λ (x : GroupState). unless_sent (world_of x) c.args.k ≡ None) c.self.view_is
    (not_refused s c.args.k at.first at.last)

pub returns-clause-ok : goal.returns-clause-ok
returns-clause-ok c =
    let s = world_state c.self.inside in
    let inside = subst (λ (x : GroupState). c.args.i < length x.mirrors) (sym c.self.view_is) c.requires.there in
    let at = there (λ (p : SentPacket). p.vector) s.sent c.args.k c.in-Some.numbers.now c.in-Some.ensures in
    let old = c.index_mut-mirror.result.now in
    let received : c.in_ok-received.received ≡ (sent_at (world_of s) c.args.k).vector =
    c.in_ok-received.ensures ∙ at.same
    ∙ sym (ap (λ p. p.vector) (sent_is s c.self.invariant.consistent c.args.k at.first at.last)) in
    ap (λ (m : MirrorState). let x : GroupState = record s { mirrors = set s.mirrors c.args.i m } in x)
    (c.learn.ensures
    ∙ ap (λ v. mirror_learns v old) received
    ∙ ap (mirror_learns (sent_at (world_of s) c.args.k).vector)
    (mirror_is s c.self.invariant.consistent c.args.i inside old c.index_mut-mirror.ensures.value))
    ∙ ap (λ (x : GroupState). let y : GroupState = record x {
      mirrors = slice_set x.mirrors c.args.i
          (mirror_learns (sent_at (world_of x) c.args.k).vector (mirror_at x.mirrors c.args.i));
    } in y) c.self.view_is

pub returns-clause-unsent : goal.returns-clause-unsent
returns-clause-unsent c =
    let s = world_state c.self.inside in
    let at = there (λ (p : SentPacket). p.vector) s.sent c.args.k c.in-Some.numbers.now c.in-Some.ensures in
    let taken : unless_sent (world_of c.args.self.now) c.args.k ≡ None =
    subst (λ (x : GroupState). unless_sent (world_of x) c.args.k ≡ None) c.self.view_is
    (not_refused s c.args.k at.first at.last) in
    (λ h. absurd cc, λ h. absurd (let bad : None ≡ Some NoSuchPacket = sym taken ∙ h in cc))
