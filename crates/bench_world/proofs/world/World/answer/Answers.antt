use Rattle.std.proofs.Common.{arith, rules, ◌≡◌, ◌<◌, ◌+◌, None, length, sym, ap, ◌∙◌, subst}
use Rattle.std.proofs.lemmas.Result.{err_from_is_err_and}
use Rattle.std.proofs.lemmas.List.{get_or_default}
use Rattle.repo_plan.specs.Plan.{claim_of}
use Rattle.repo_member.specs.MemberState.{MemberState, member_plan}
use Rattle.group_model.specs.Events.{Event}
use Rattle.group_model.specs.World.{World, Tally}
use Rattle.group_model.specs.Refusals.{refusal}
use Rattle.group_model.specs.Steps.{after_event, claim_at, response_from, passes_checks}
use Rattle.bench_world.specs.Serving.{lossless}
use Rattle.bench_world.specs.EventValues.{answer_report}
use Rattle.bench_world.specs.Steps.{IsFaultOf}
use Rattle.bench_world.specs.Answering.{claim_in, holder_response}
use Rattle.bench_world.specs.Worlds.{GroupState, IsConsistentState, nobody, world_of, logs_around}
use Rattle.bench_world.specs.Kept.{world_state}
use Rattle.bench_world.proofs.AnswersAndFeeds.{answer_refusal, answer_taken, answer_passes, answer_world, answer_state}
use Rattle.bench_world.proofs.AnswersAndFeeds.{answer_fits, fault_by, claim_same}
use Rattle.bench_world.proofs.NobodyLacking.{came_lacks}
use Rattle.bench_world.proofs.world.World.answer.Goals as goal

pub returns-in_err-kept : goal.returns-in_err-kept
returns-in_err-kept c =
    let s = world_state c.self.inside in
    let there = subst (λ (x : GroupState). c.args.m < length x.members) (sym c.self.view_is) c.requires.there in
    let p = err_from_is_err_and c.from_residual.result c.from_residual.ensures.1 in
    rw (p.1, p.2) record {
      taken = tt;
      world = tt;
      report = tt;
      joined = tt;
      steps = tt;
      keys = search rules;
      mirrors = search rules;
      refused =
          subst (λ (x : GroupState).
          IsFaultOf (refusal (lossless x.keys) (world_of x) (Event.Answer c.args.m c.args.f c.args.q))
          c.in_err-kept.field-0.0)
          c.self.view_is
          (subst (λ r. IsFaultOf r c.in_err-kept.field-0.0)
          (answer_refusal s c.self.invariant.consistent c.args.m there c.args.f c.args.q)
          (fault_by s.keys (logs_around s.members) (claim_in s.members c.args.m c.args.f)
          (holder_response s.keys (logs_around s.members) s.members c.args.q (claim_in s.members c.args.m c.args.f))
          c.in_err-kept.field-0.0
          c.in_err-kept.ensures.refused));
      err = search rules;
    }

pub overflow_add-self-2 : goal.overflow_add-self-2
overflow_add-self-2 c =
    let s = world_state c.self.inside in
    let there = subst (λ (x : GroupState). c.args.m < length x.members) (sym c.self.view_is) c.requires.there in
    let fits =
    answer_fits s c.self.invariant.consistent c.args.m there c.args.f c.args.q c.in_ok-kept.kept
    c.in_ok-kept.ensures.kept
    c.answer.new.members.items c.in_ok-kept.ensures.members
    (subst (λ (x : GroupState). x.steps < 100000) (sym c.self.view_is) c.requires.few) in
    let more = c.parts_of.ensures in
    omega (arith, fits.parts, more)

pub overflow_add-self-3 : goal.overflow_add-self-3
overflow_add-self-3 c =
    let s = world_state c.self.inside in
    let there = subst (λ (x : GroupState). c.args.m < length x.members) (sym c.self.view_is) c.requires.there in
    let fits =
    answer_fits s c.self.invariant.consistent c.args.m there c.args.f c.args.q c.in_ok-kept.kept
    c.in_ok-kept.ensures.kept
    c.answer.new.members.items c.in_ok-kept.ensures.members
    (subst (λ (x : GroupState). x.steps < 100000) (sym c.self.view_is) c.requires.few) in
    let more = c.unwrap_or.ensures in
    omega (arith, fits.octets, more)

pub invariant_of-self-2 : goal.invariant_of-self-2
invariant_of-self-2 c =
    let s = world_state c.self.inside in
    let there = subst (λ (x : GroupState). c.args.m < length x.members) (sym c.self.view_is) c.requires.there in
    let one = c.parts_of.ensures in
    let claimed =
    c.claimed-claimed.ensures
    ∙ ap (λ (a : MemberState). claim_of (member_plan a) c.args.f)
    (c.index.ensures ∙ get_or_default s.members c.args.m c.index.result.now nobody there)
    ∙ sym (claim_same s c.self.invariant.consistent c.args.m there c.args.f) in
    record {
      consistent =
          subst (λ (t : Tally).
          IsConsistentState (record s { members = c.answer.new.members.items; tally = t; steps = s.steps + 1 }))
          (λ i. record s.tally {
            attempts = s.tally.attempts + 1;
            parts = s.tally.parts + sym one i;
            octets = s.tally.octets + sym c.unwrap_or.ensures i;
          })
          (answer_state s c.self.invariant.consistent c.args.m there c.args.f c.args.q c.in_ok-kept.kept
          c.in_ok-kept.ensures.kept
          c.answer.new.members.items c.in_ok-kept.ensures.members
          (subst (λ (x : GroupState). x.steps < 100000) (sym c.self.view_is) c.requires.few));
      nobody_lacks =
          came_lacks s c.args.m there c.self.inside.unsettled c.self.invariant.nobody_lacks c.answer.new.members.items
          c.note_claimed.new.self c.claimed-claimed.result c.note_claimed.ensures c.args.f (lossless s.keys)
          (record s.tally { attempts = s.tally.attempts + 1 }) (claim_at (world_of s) c.args.m c.args.f)
          (response_from (lossless s.keys) (world_of s) c.args.q (claim_at (world_of s) c.args.m c.args.f)) claimed
          (ap (λ (w : World). w.members)
          (answer_world s c.self.invariant.consistent c.args.m there c.args.f c.args.q c.in_ok-kept.kept
          c.in_ok-kept.ensures.kept c.answer.new.members.items c.in_ok-kept.ensures.members));
    }

pub returns : goal.returns
returns c =
    let s = world_state c.self.inside in
    let there = subst (λ (x : GroupState). c.args.m < length x.members) (sym c.self.view_is) c.requires.there in
    let one = c.parts_of.ensures in
    record {
      taken =
          subst (λ (x : GroupState). refusal (lossless x.keys) (world_of x) (Event.Answer c.args.m c.args.f c.args.q)
          ≡ None)
          c.self.view_is
          (answer_taken s c.self.invariant.consistent c.args.m there c.args.f c.args.q c.in_ok-kept.kept
          c.in_ok-kept.ensures.kept);
      world =
          ap (λ (t : Tally).
          world_of (record s { members = c.answer.new.members.items; tally = t; steps = s.steps + 1 }))
          (λ i. record s.tally {
            attempts = s.tally.attempts + 1;
            parts = s.tally.parts + one i;
            octets = s.tally.octets + c.unwrap_or.ensures i;
          })
          ∙ answer_world s c.self.invariant.consistent c.args.m there c.args.f c.args.q c.in_ok-kept.kept
          c.in_ok-kept.ensures.kept
          c.answer.new.members.items c.in_ok-kept.ensures.members
          ∙ ap (λ (x : GroupState).
          after_event (lossless x.keys) (world_of x) (Event.Answer c.args.m c.args.f c.args.q))
          c.self.view_is;
      report =
          c.answered.ensures ∙ (λ i. answer_report c.args.m (c.from.ensures i) (c.is_some.ensures i))
          ∙ ap (answer_report c.args.m c.args.f)
          (answer_passes s c.self.invariant.consistent c.args.m there c.args.f c.args.q c.in_ok-kept.kept
          c.in_ok-kept.ensures.kept)
          ∙ ap (λ (x : GroupState). answer_report c.args.m c.args.f
          (passes_checks (response_from (lossless x.keys) (world_of x) c.args.q
          (claim_at (world_of x) c.args.m c.args.f))))
          c.self.view_is;
      joined = tt;
      steps = ap (λ (x : GroupState). x.steps + 1) c.self.view_is;
      keys = ap (λ (x : GroupState). x.keys) c.self.view_is;
      mirrors = ap (λ (x : GroupState). x.mirrors) c.self.view_is;
      refused = tt;
      err = tt;
    }
