use Rattle.std.proofs.Common.{rules, ◌≡◌, ◌<◌, None, refl, sym, ap, ◌∙◌, subst, arith, ◌+◌}
use Rattle.bench_net.specs.SentList.{SentPacket}
use Rattle.group_model.specs.Events.{Event}
use Rattle.group_model.specs.World.{sent_at}
use Rattle.group_model.specs.Refusals.{unless_sent}
use Rattle.repo_member.specs.Verdicts.{sync_of}
use Rattle.bench_world.specs.EventValues.{ReportValue}
use Rattle.bench_world.specs.Worlds.{GroupState, world_of, drawing}
use Rattle.bench_world.specs.Kept.{world_state}
use Rattle.bench_world.proofs.States.{stepped}
use Rattle.bench_world.proofs.Deliveries.{there, not_refused, octets_are}
use Rattle.bench_world.proofs.world.World.sync.Goals as goal

pub invariant_of-self : goal.invariant_of-self
invariant_of-self c =
    let s = world_state c.self.inside in
    record {
      consistent =
          stepped s c.self.invariant.consistent
          (subst (λ (x : GroupState). x.steps < 100000) (sym c.self.view_is) c.requires.few)
          (drawing (λ _ _. 0)) (λ t. omega arith) (Event.Sync c.args.k) tt s.members s.sent s.time s.tally refl
          c.self.invariant.consistent.numbers c.self.invariant.consistent.members c.self.invariant.consistent.sent refl;
      nobody_lacks =
          c.self.invariant.nobody_lacks;
    }

pub returns : goal.returns
returns c =
    let s = world_state c.self.inside in
    let at = there (λ (p : SentPacket). p.octets) s.sent c.args.k c.in-Some.octets.now c.in-Some.ensures in
    record {
      taken =
          subst (λ (x : GroupState). unless_sent (world_of x) c.args.k ≡ None) c.self.view_is
          (not_refused s c.args.k at.first at.last);
      world = search rules;
      report =
          ap (λ k. ReportValue.Sync k c.in_ok-octets.octets.items) c.from.ensures
          ∙ ap (ReportValue.Sync c.args.k)
          (c.in_ok-octets.ensures.items_if_clones_equal (λ x y e. e) ∙ at.same
          ∙ octets_are s c.self.invariant.consistent c.args.k at.first at.last)
          ∙ ap (λ (x : GroupState).
          ReportValue.Sync c.args.k (sync_of x.keys (sent_at (world_of x) c.args.k).sender
          (sent_at (world_of x) c.args.k).vector))
          c.self.view_is;
      joined = tt;
      steps = ap (λ (x : GroupState). x.steps + 1) c.self.view_is;
      keys = ap (λ (x : GroupState). x.keys) c.self.view_is;
      mirrors = ap (λ (x : GroupState). x.mirrors) c.self.view_is;
      refused = tt;
      err = tt;
    }
