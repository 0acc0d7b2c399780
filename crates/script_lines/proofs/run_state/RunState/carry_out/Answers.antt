use Rattle.std.proofs.Common.{◌∙◌, map, length, sym, ap}
use Rattle.std.specs.String.{string_bytes}
use Rattle.repo_member.specs.Groups.{GroupKeys}
use Rattle.bench_world.specs.EventValues.{event_value}
use Rattle.script_story.specs.Evaluation.{acted, env_by}
use Rattle.script_lines.specs.RunStates.{IsLineError, phase_keys, state_of_run}
use Rattle.script_lines.proofs.MirrorLines.{stands_after}
use Rattle.script_lang.proofs.Stops.{stops_so}
use Rattle.script_lines.proofs.RunStateLemmas.{as_many, carried_says, carried_stops}
use Rattle.script_lines.proofs.run_state.RunState.carry_out.Goals as goal

pub step-requires-clause-labels : goal.step-requires-clause-labels
step-requires-clause-labels g c κs within =
    let many = as_many string_bytes c.args.self.now.labels.items (phase_keys c.args.self.now.phase)
    c.args.self.now.words c.requires.at.declared.named in
    let keys = c.in_ok-world.ensures.keys ∙ ap phase_keys c.replace-phase.ensures.value in
    ap (λ xs. length xs) c.deref.ensures.value ∙ many ∙ ap (λ (k : GroupKeys). length k.members.names) (sym keys)

pub returns-in_err-step-clause-stopped : goal.returns-in_err-step-clause-stopped
returns-in_err-step-clause-stopped g c =
    stops_so c.from_residual-in_err-step.result
    (IsLineError (acted (env_by (g.D.Draws.draw c.args.draws.now) (g.N.Net.passes c.args.net.now))
    (state_of_run c.args.self.now) c.args.self.now.words (event_value c.args.event.now)))
    c.in_err-step.field-0.0 c.from_residual-in_err-step.ensures.1
    (carried_stops (env_by (g.D.Draws.draw c.args.draws.now) (g.N.Net.passes c.args.net.now)) c.args.self.now.phase
    c.replace-phase.result c.args.self.now.watchers.items c.args.self.now.words (event_value c.args.event.now)
    c.in_ok-world.world c.replace-phase.ensures.value c.in_ok-world.ensures.keys c.in_ok-world.ensures.world
    c.in_err-step.field-0.0 c.in_err-step.ensures.stopped)

pub returns-clause-taken : goal.returns-clause-taken
returns-clause-taken g c = carried_says (env_by (g.D.Draws.draw c.args.draws.now) (g.N.Net.passes c.args.net.now))
    c.args.self.now.phase c.replace-phase.result c.args.self.now.watchers.items c.args.self.now.words
    (event_value c.args.event.now) c.in_ok-world.world c.replace-phase.ensures.value c.in_ok-world.ensures.keys
    c.in_ok-world.ensures.world _ c.step.new.report.items c.step.new.world c.in_ok-step.ensures.stepped
    c.in_ok-step.ensures.report (ap (map string_bytes) c.deref.ensures.value ∙ c.requires.at.declared.named.labels)
    c.in_ok-world.ensures.mirrors

pub returns-clause-is : goal.returns-clause-is
returns-clause-is g c =
    stands_after c.args.self.now c.replace-phase.result c.in_ok-world.world c.step.new.world
    (event_value c.args.event.now) c.replace-phase.ensures.value c.in_ok-world.ensures.keys
    c.in_ok-step.ensures.stepped.keys c.in_ok-world.ensures.mirrors c.in_ok-step.ensures.stepped.mirrors c.requires.at
