use Rattle.std.proofs.Common.{◌≡◌, sym, subst}
use Rattle.std.specs.Prelude.{OnOk, IfErr}
use Rattle.script_lang.specs.Forms.{stated}
use Rattle.script_story.specs.Evaluation.{Verdict, env_by, evaluated_line, accepted}
use Rattle.script_lines.specs.RunStates.{IsLineError, state_of_run}
use Rattle.script_lines.specs.LineErrors.{check_line_error}
use Rattle.script_lines.proofs.Judgings.{refused_line}
use Rattle.script_lang.proofs.Stops.{stops_so}
use Rattle.script_lines.proofs.RunStateLemmas.{line_is_taken}
use Rattle.script_lines.proofs.run_state.RunState.take_line.Goals as goal

pub returns-in_err-check-clause-stopped : goal.returns-in_err-check-clause-stopped
returns-in_err-check-clause-stopped g c =
    stops_so c.from_residual.result
    (IsLineError (evaluated_line (env_by (g.D.Draws.draw c.args.draws.now) (g.N.Net.passes c.args.net.now))
    (state_of_run
    c.args.self.now) (stated c.args.line)))
    (check_line_error c.in_err-check.field-0.0) c.from_residual.ensures.1
    (refused_line (env_by (g.D.Draws.draw c.args.draws.now) (g.N.Net.passes c.args.net.now))
    (state_of_run c.args.self.now)
    (stated c.args.line) c.in_err-check.field-0.0 c.in_err-check.ensures.refused)

pub returns-clause-taken : goal.returns-clause-taken
returns-clause-taken g c =
    subst (λ (v : Verdict). OnOk c.follow.result (v ≡ accepted c.follow.new.report.items
    (state_of_run c.follow.new.self)))
    (sym (line_is_taken (env_by (g.D.Draws.draw c.args.draws.now) (g.N.Net.passes c.args.net.now))
    c.args.self.now.phase c.args.self.now.watchers.items
    c.args.self.now.words c.check.new.self (stated c.args.line) c.in_ok-check.ensures.ok)) c.follow.ensures.taken

pub returns-clause-stopped : goal.returns-clause-stopped
returns-clause-stopped g c =
    subst (λ (v : Verdict). IfErr c.follow.result (IsLineError v))
    (sym (line_is_taken (env_by (g.D.Draws.draw c.args.draws.now) (g.N.Net.passes c.args.net.now))
    c.args.self.now.phase c.args.self.now.watchers.items
    c.args.self.now.words c.check.new.self (stated c.args.line) c.in_ok-check.ensures.ok)) c.follow.ensures.stopped
