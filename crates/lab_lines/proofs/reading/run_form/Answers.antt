use Rattle.std.specs.Option.{option_map}
use Rattle.script_story.specs.Evaluation.{env_by}
use Rattle.lab_text.specs.declared.status.LabStatus.TheVariants.{NoMemory}
use Rattle.lab_lines.specs.Carrying.{RunEnds}
use Rattle.lab_lines.specs.Folding.{form_outcome}
use Rattle.lab_lines.specs.Written.{WritesLines}
use Rattle.lab_lines.proofs.Carryings.{failing_lines}
use Rattle.lab_lines.proofs.Ends.{has_cause, known_map, known_same, outcome_written, unwritten}
use Rattle.lab_lines.proofs.reading.run_form.Goals as goal

pub returns-in_default : goal.returns-in_default
returns-in_default g c =
    let f = g.F.Form.form in
    let env = env_by (g.D.Draws.draw c.args.draws.now) (g.N.Net.passes c.args.net.now) in
    let left = g.S.Source.left c.args.source.now in
    let out = g.K.Sink.out c.args.sink.now in
    let script_run = option_map (form_outcome f env c.args.form.now) left in
    record {
      writes = unwritten script_run out;
      causes =
          has_cause script_run out out NoMemory (λ e. absurd cc) (λ e. absurd cc) (λ e. cc) (unwritten script_run out);
      never_usage = λ e. cc;
      lines =
          known_same (WritesLines f env c.args.form.now out out NoMemory)
          (λ input. failing_lines f env c.args.form.now out out NoMemory input input (λ e. cc) (λ e. e)) left;
    }

pub returns : goal.returns
returns g c =
    let f = g.F.Form.form in
    let env = env_by (g.D.Draws.draw c.args.draws.now) (g.N.Net.passes c.args.net.now) in
    let left = g.S.Source.left c.args.source.now in
    let rest = g.S.Source.left c.run_lines.new.source in
    let out = g.K.Sink.out c.args.sink.now in
    let after = g.K.Sink.out c.run_lines.new.sink in
    let runs = RunEnds f env c.args.form.now out after c.run_lines.result in
    let writes = outcome_written (form_outcome f env c.args.form.now) runs left rest out after c.run_lines.result
    (λ input rest run. run.ends) c.run_lines.ensures.runs in
    record {
      writes = writes;
      causes =
          has_cause (option_map (form_outcome f env c.args.form.now) left) out after c.run_lines.result
          c.run_lines.ensures.read_fault c.run_lines.ensures.write_fault c.run_lines.ensures.never_usage writes;
      never_usage = c.run_lines.ensures.never_usage;
      lines =
          known_map runs (WritesLines f env c.args.form.now out after c.run_lines.result) (λ input rest run. run.lines)
          left rest c.run_lines.ensures.runs;
    }
