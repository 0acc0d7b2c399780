use Rattle.std.proofs.Common.{rules, arith, ℕ, ◌≡◌, ◌<◌, length, None, sym, ap, ◌∙◌, subst, ◌+◌}
use Rattle.std.proofs.lemmas.Result.{err_from_is_err_and}
use Rattle.std.proofs.lemmas.Grind.{common_steps}
use Rattle.std.proofs.lemmas.List.{get_or_default}
use Rattle.svs_sync.specs.declared.sync_refusal.SyncRefusal.{SyncRefusal}
use Rattle.group_model.specs.Refusals.{if_unsent}
use Rattle.group_model.specs.Steps.{after_hear}
use Rattle.repo_member.specs.MemberState.{MemberState}
use Rattle.repo_member.specs.Verdicts.{group_verdict}
use Rattle.repo_member.specs.declared.refusals.HearRefusal.TheVariants as hear
use Rattle.bench_world.specs.EventValues.{ReportValue}
use Rattle.bench_world.specs.Hearing.{accepted_sync}
use Rattle.bench_world.specs.Readings.{read_as}
use Rattle.bench_world.specs.Steps.{IsFaultOf}
use Rattle.bench_world.specs.Worlds.{GroupState, nobody, world_of, drawing}
use Rattle.bench_world.specs.Kept.{world_state}
use Rattle.bench_world.proofs.States.{few_draws}
use Rattle.bench_world.proofs.Hearings.{hears_received, refused_so, foreign_so, sent_taken, heard_world, heard_state}
use Rattle.bench_world.proofs.Hearings.{heard_received}
use Rattle.bench_world.proofs.NobodyLacking.{same_lacks}
use Rattle.bench_world.proofs.world.World.hear.Goals as goal

sync_apart : (refusal : SyncRefusal) → hear.Sync refusal ≡ hear.NoMemory → ⊥
sync_apart refusal h = cc

ahead_apart : (own received : ℕ) → hear.OwnNumberAhead own received ≡ hear.NoMemory → ⊥
ahead_apart own received h = cc

pub returns-in-Err-Sync : goal.returns-in-Err-Sync
returns-in-Err-Sync g c =
    let s = world_state c.self.inside in
    let there = subst (λ (x : GroupState). c.args.m < length x.members) (sym c.self.view_is) c.requires.there in
    let r = group_verdict s.keys c.args.octets.now in
    let all =
    refused_so s c.self.invariant.consistent c.args.m there c.index.result.now c.index.ensures r
    (g.D.Draws.draw c.args.draws.now)
    c.in-Err-Sync.field-0 c.in-Err-Sync.ensures.refused
    (λ memory. sync_apart c.in-Err-Sync.refusal (sym c.in-Err-Sync.field-0-is ∙ memory)) in
    record {
      taken =
          subst
          (λ (x : GroupState). if_unsent (world_of x) c.args.m (read_as (group_verdict x.keys c.args.octets.now))
          ≡ None)
          c.self.view_is all.0;
      world =
          c.count.ensures.world
          ∙ subst (λ (x : GroupState). world_of x
          ≡ after_hear (drawing (g.D.Draws.draw c.args.draws.now)) (world_of x) c.args.m
          (read_as (group_verdict x.keys c.args.octets.now))) c.self.view_is (sym all.1);
      report =
          ap (ReportValue.HearRefused c.args.m) (sym c.in-Err-Sync.field-0-is)
          ∙ subst (λ (x : GroupState). ReportValue.HearRefused c.args.m c.in-Err-Sync.field-0
          ≡ hears_received (drawing (g.D.Draws.draw c.args.draws.now)) (world_of x) c.args.m
          (group_verdict x.keys c.args.octets.now)) c.self.view_is (sym all.2);
      joined = tt;
      steps = c.count.ensures.steps;
      keys = c.count.ensures.keys;
      mirrors = c.count.ensures.mirrors;
      refused = tt;
      err = tt;
    }

pub returns-in-Err-OwnNumberAhead : goal.returns-in-Err-OwnNumberAhead
returns-in-Err-OwnNumberAhead g c =
    let s = world_state c.self.inside in
    let there = subst (λ (x : GroupState). c.args.m < length x.members) (sym c.self.view_is) c.requires.there in
    let r = group_verdict s.keys c.args.octets.now in
    let all =
    refused_so s c.self.invariant.consistent c.args.m there c.index.result.now c.index.ensures r
    (g.D.Draws.draw c.args.draws.now)
    c.in-Err-OwnNumberAhead.field-0 c.in-Err-OwnNumberAhead.ensures.refused
    (λ memory. ahead_apart c.in-Err-OwnNumberAhead.own c.in-Err-OwnNumberAhead.told
    (sym c.in-Err-OwnNumberAhead.field-0-is ∙ memory)) in
    record {
      taken =
          subst
          (λ (x : GroupState). if_unsent (world_of x) c.args.m (read_as (group_verdict x.keys c.args.octets.now))
          ≡ None)
          c.self.view_is all.0;
      world =
          c.count-in-Err-OwnNumberAhead.ensures.world
          ∙ subst (λ (x : GroupState). world_of x
          ≡ after_hear (drawing (g.D.Draws.draw c.args.draws.now)) (world_of x) c.args.m
          (read_as (group_verdict x.keys c.args.octets.now))) c.self.view_is (sym all.1);
      report =
          ap (ReportValue.HearRefused c.args.m) (sym c.in-Err-OwnNumberAhead.field-0-is)
          ∙ subst (λ (x : GroupState). ReportValue.HearRefused c.args.m c.in-Err-OwnNumberAhead.field-0
          ≡ hears_received (drawing (g.D.Draws.draw c.args.draws.now)) (world_of x) c.args.m
          (group_verdict x.keys c.args.octets.now)) c.self.view_is (sym all.2);
      joined = tt;
      steps = c.count-in-Err-OwnNumberAhead.ensures.steps;
      keys = c.count-in-Err-OwnNumberAhead.ensures.keys;
      mirrors = c.count-in-Err-OwnNumberAhead.ensures.mirrors;
      refused = tt;
      err = tt;
    }

pub hear_sent-requires-clause-vector : goal.hear_sent-requires-clause-vector
hear_sent-requires-clause-vector g c = record {
  own = first_of (search rules, grind (arith, common_steps));
  width = first_of (search rules, grind (arith, common_steps));
  members = first_of (search rules, grind (arith, common_steps));
}

pub hear_sent-requires-clause-few : goal.hear_sent-requires-clause-few
hear_sent-requires-clause-few g c =
    let s = world_state c.self.inside in
    let there = subst (λ (x : GroupState). c.args.m < length x.members) (sym c.self.view_is) c.requires.there in
    few_draws s c.self.invariant.consistent c.args.m there c.index_mut-member.result.now
    c.index_mut-member.ensures.value

pub returns-in_err-mode : goal.returns-in_err-mode
returns-in_err-mode g c =
    let s = world_state c.self.inside in
    let there = subst (λ (x : GroupState). c.args.m < length x.members) (sym c.self.view_is) c.requires.there in
    let r = group_verdict s.keys c.args.octets.now in
    let old = c.index_mut-member.result.now in
    let same : c.index.result.now ≡ c.index_mut-member.result.now =
    c.index.ensures
    ∙ get_or_default s.members c.args.m c.index.result.now nobody there
    ∙ sym
    (c.index_mut-member.ensures.value ∙ get_or_default s.members c.args.m c.index_mut-member.result.now nobody there) in
    let received = ap (λ (a : MemberState). accepted_sync (length a.log) c.args.m r) (sym same)
    ∙ c.in-Ok.ensures.received in
    let p = err_from_is_err_and c.from_residual.result c.from_residual.ensures.1 in
    rw (p.1, p.2) record {
      taken = tt;
      world = tt;
      report = tt;
      joined = tt;
      steps = tt;
      keys = search rules;
      mirrors = search rules;
      refused =
          subst (λ (x : GroupState).
          IsFaultOf (if_unsent (world_of x) c.args.m (read_as (group_verdict x.keys c.args.octets.now)))
          c.in_err-mode.field-0.0)
          c.self.view_is
          (foreign_so s c.self.invariant.consistent c.args.m there old c.index_mut-member.ensures.value r
          c.in-Ok.received.0
          c.in-Ok.received.1
          received c.in_err-mode.field-0.0 c.in_err-mode.ensures.foreign);
      err = grind (arith, common_steps);
    }

pub invariant_of-self-2 : goal.invariant_of-self-2
invariant_of-self-2 g c =
    let s = world_state c.self.inside in
    let there = subst (λ (x : GroupState). c.args.m < length x.members) (sym c.self.view_is) c.requires.there in
    let r = group_verdict s.keys c.args.octets.now in
    let old = c.index_mut-member.result.now in
    let same : c.index.result.now ≡ c.index_mut-member.result.now =
    c.index.ensures
    ∙ get_or_default s.members c.args.m c.index.result.now nobody there
    ∙ sym
    (c.index_mut-member.ensures.value ∙ get_or_default s.members c.args.m c.index_mut-member.result.now nobody there) in
    let received = ap (λ (a : MemberState). accepted_sync (length a.log) c.args.m r) (sym same)
    ∙ c.in-Ok.ensures.received in
    let drawn = c.draw-draw.ensures ∙ ap (g.D.Draws.draw c.args.draws.now c.args.m) c.next_draw.ensures in
    record {
      consistent =
          heard_state s c.self.invariant.consistent c.args.m there old c.index_mut-member.ensures.value r
          c.in-Ok.received.0
          c.in-Ok.received.1
          received c.in_ok-mode.ensures.sent (g.D.Draws.draw c.args.draws.now) c.hear_sent.new.member c.draw-draw.result
          c.in_ok-mode.ensures.ok drawn
          (subst (λ (x : GroupState). x.steps < 100000) (sym c.self.view_is) c.requires.few);
      nobody_lacks =
          same_lacks c.self.inside.unsettled s.mirrors s.members c.args.m there c.index_mut-member.result.now
          c.index_mut-member.ensures.value c.hear_sent.new.member
          (ap (λ (a : MemberState). a.store) c.in_ok-mode.ensures.ok)
          (ap (λ (a : MemberState). a.hidden) c.in_ok-mode.ensures.ok) c.self.invariant.nobody_lacks;
    }

pub returns : goal.returns
returns g c =
    let s = world_state c.self.inside in
    let there = subst (λ (x : GroupState). c.args.m < length x.members) (sym c.self.view_is) c.requires.there in
    let r = group_verdict s.keys c.args.octets.now in
    let old = c.index_mut-member.result.now in
    let same : c.index.result.now ≡ c.index_mut-member.result.now =
    c.index.ensures
    ∙ get_or_default s.members c.args.m c.index.result.now nobody there
    ∙ sym
    (c.index_mut-member.ensures.value ∙ get_or_default s.members c.args.m c.index_mut-member.result.now nobody there) in
    let received = ap (λ (a : MemberState). accepted_sync (length a.log) c.args.m r) (sym same)
    ∙ c.in-Ok.ensures.received in
    let drawn = c.draw-draw.ensures ∙ ap (g.D.Draws.draw c.args.draws.now c.args.m) c.next_draw.ensures in
    record {
      taken =
          subst
          (λ (x : GroupState). if_unsent (world_of x) c.args.m (read_as (group_verdict x.keys c.args.octets.now))
          ≡ None)
          c.self.view_is
          (sent_taken s c.self.invariant.consistent c.args.m there old c.index_mut-member.ensures.value r
          c.in-Ok.received.0
          c.in-Ok.received.1
          received c.in_ok-mode.ensures.sent);
      world =
          heard_world s c.self.invariant.consistent c.args.m there old c.index_mut-member.ensures.value r
          c.in-Ok.received.0
          c.in-Ok.received.1
          received c.in_ok-mode.ensures.sent (g.D.Draws.draw c.args.draws.now) c.hear_sent.new.member
          c.draw-draw.result
          c.in_ok-mode.ensures.ok drawn
          ∙ ap (λ (x : GroupState). after_hear (drawing (g.D.Draws.draw c.args.draws.now)) (world_of x) c.args.m
          (read_as (group_verdict x.keys c.args.octets.now))) c.self.view_is;
      report =
          c.heard.ensures
          ∙ heard_received s c.self.invariant.consistent c.args.m there old c.index_mut-member.ensures.value r
          c.in-Ok.received.0
          c.in-Ok.received.1
          received c.in_ok-mode.ensures.sent (g.D.Draws.draw c.args.draws.now) c.hear_sent.new.member
          c.draw-draw.result
          c.in_ok-mode.ensures.ok drawn c.in_ok-mode.mode c.in_ok-mode.ensures.mode
          ∙ ap (λ (x : GroupState). hears_received (drawing (g.D.Draws.draw c.args.draws.now)) (world_of x) c.args.m
          (group_verdict x.keys c.args.octets.now)) c.self.view_is;
      joined = tt;
      steps = ap (λ (x : GroupState). x.steps + 1) c.self.view_is;
      keys = ap (λ (x : GroupState). x.keys) c.self.view_is;
      mirrors = ap (λ (x : GroupState). x.mirrors) c.self.view_is;
      refused = tt;
      err = tt;
    }
