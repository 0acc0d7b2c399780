use Rattle.std.proofs.Common.{sym}
use Rattle.script_lines.proofs.Readings.{kept_after}
use Rattle.script_lines.proofs.line_reader.read_after.Goals as goal

pub returns-clause-kept : goal.returns-clause-kept
returns-clause-kept g c =
    let halves = c.split_at_mut-free.ensures in
    kept_after (g.S.Source.left c.args.source.now) (g.S.Source.left c.read.new.self) c.args.held c.args.room.now
    c.split_at_mut-free.result.0.now c.read.new.buf c.read.result halves.front_len (sym halves.front)
    c.read.ensures.taken
