use Rattle.repo_io.proofs.Outputs.{prefix_taken}
use Rattle.lab_lines.proofs.carrying.write_text.Goals as goal

pub returns-in-Err-clause-writes : goal.returns-in-Err-clause-writes
returns-in-Err-clause-writes g c = record {
  failing = tt;
  prefix = prefix_taken (g.K.Sink.out c.args.sink.now) (g.K.Sink.out c.write_whole.new.sink) c.in-Err.field-0.written
      c.args.text.now c.in-Err.ensures.missing c.in-Err.ensures.prefix;
}
