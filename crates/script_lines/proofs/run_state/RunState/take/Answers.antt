use Rattle.std.proofs.Common.{◌≡◌, ◌∙◌, ℕ, List, Some, None, sym, ap, subst}
use Rattle.std.specs.Prelude.{OnOk, IfErr}
use Rattle.script_story.specs.Evaluation.{Verdict, env_by, evaluated, accepted}
use Rattle.script_lines.specs.RunStates.{IsLineError, state_of_run}
use Rattle.script_lines.specs.LineErrors.{line_fault_error}
use Rattle.script_lines.proofs.Judgings.{evaluated_fault, evaluated_read}
use Rattle.script_lang.proofs.Stops.{stops_so}
use Rattle.script_lines.proofs.run_state.RunState.take.Goals as goal

pub returns-in_err-line-clause-stopped : goal.returns-in_err-line-clause-stopped
returns-in_err-line-clause-stopped g c =
    stops_so c.from_residual.result (IsLineError (evaluated (env_by (g.D.Draws.draw c.args.draws.now) (g.N.Net.passes
    c.args.net.now)) (state_of_run c.args.self.now) c.args.line.now))
    (line_fault_error c.in_err-line.field-0.0) c.from_residual.ensures.1
    (evaluated_fault (env_by (g.D.Draws.draw c.args.draws.now) (g.N.Net.passes c.args.net.now))
    (state_of_run c.args.self.now)
    c.args.line.now c.in_err-line.field-0.0 c.in_err-line.ensures)

pub returns-in-Some-clause-taken : goal.returns-in-Some-clause-taken
returns-in-Some-clause-taken g c =
    subst (λ (v : Verdict). OnOk c.take_line.result
    (v ≡ accepted c.take_line.new.report.items (state_of_run c.take_line.new.self)))
    (sym (evaluated_read (env_by (g.D.Draws.draw c.args.draws.now) (g.N.Net.passes c.args.net.now)) (state_of_run
    c.args.self.now)
    c.args.line.now c.in_ok-line.field-0 (Some c.in-Some.line) c.in_ok-line.ensures c.in-Some.is))
    c.take_line.ensures.taken

pub returns-in-Some-clause-stopped : goal.returns-in-Some-clause-stopped
returns-in-Some-clause-stopped g c =
    subst (λ (v : Verdict). IfErr c.take_line.result (IsLineError v)) (sym (evaluated_read (env_by (g.D.Draws.draw
    c.args.draws.now) (g.N.Net.passes c.args.net.now)) (state_of_run c.args.self.now)
    c.args.line.now c.in_ok-line.field-0 (Some c.in-Some.line) c.in_ok-line.ensures c.in-Some.is))
    c.take_line.ensures.stopped

pub returns-in-None-clause-taken : goal.returns-in-None-clause-taken
returns-in-None-clause-taken g c =
    evaluated_read (env_by (g.D.Draws.draw c.args.draws.now) (g.N.Net.passes c.args.net.now))
    (state_of_run c.args.self.now)
    c.args.line.now
    c.in_ok-line.field-0 None c.in_ok-line.ensures c.in-None.is
    ∙ ap (λ (report : List ℕ). accepted report (state_of_run c.args.self.now)) (sym c.requires.empty)
