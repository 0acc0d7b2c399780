use Rattle.std.proofs.Common.{◌≡◌, ◌∙◌, sym, ap, subst}
use Rattle.std.specs.Prelude.{OnOk, IfErr}
use Rattle.std.specs.Option.{option_map}
use Rattle.script_lang.specs.Forms.{stated}
use Rattle.bench_world.specs.EventValues.{event_value}
use Rattle.script_story.specs.Evaluation.{Verdict, env_by, accepted}
use Rattle.script_lines.specs.RunStates.{IsLineError, state_of_run}
use Rattle.script_lines.proofs.Judgings.{acts, states_some}
use Rattle.script_lines.proofs.run_state.RunState.act.Goals as goal

pub unreachable-requires : goal.unreachable-requires
unreachable-requires g c =
    states_some c.args.self.now.words c.args.line c.requires.states.event
    (ap (option_map event_value) (sym c.in_default.is) ∙ c.event_of_line.ensures)

pub returns-clause-taken : goal.returns-clause-taken
returns-clause-taken g c =
    subst (λ (v : Verdict). OnOk c.carry_out.result
    (v ≡ accepted c.carry_out.new.report.items (state_of_run c.carry_out.new.self)))
    (sym (acts (env_by (g.D.Draws.draw c.args.draws.now) (g.N.Net.passes c.args.net.now))
    (state_of_run c.args.self.now)
    c.args.self.now.words
    (stated c.args.line) (event_value c.in-Some.event) c.in-Some.ensures)) c.carry_out.ensures.taken

pub returns-clause-stopped : goal.returns-clause-stopped
returns-clause-stopped g c =
    subst (λ (v : Verdict). IfErr c.carry_out.result (IsLineError v))
    (sym (acts (env_by (g.D.Draws.draw c.args.draws.now) (g.N.Net.passes c.args.net.now))
    (state_of_run c.args.self.now)
    c.args.self.now.words
    (stated c.args.line) (event_value c.in-Some.event) c.in-Some.ensures)) c.carry_out.ensures.stopped
