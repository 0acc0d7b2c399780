use Rattle.std.proofs.Common.{◌≡◌, rules}
use Rattle.lab_lint.specs.Linting.{outcome_in}
use Rattle.lab_lint.proofs.Wholes.{end_is_sound, written_short, written_whole}
use Rattle.lab_lint.proofs.linting.write_lint.Goals as goal

pub returns-in-Ok-write_whole-clause-writes : goal.returns-in-Ok-write_whole-clause-writes
returns-in-Ok-write_whole-clause-writes g c =
    let same : c.deref.result.now ≡ (outcome_in c.args.octets.now).text = search rules in
    written_whole (outcome_in c.args.octets.now) c.in-Ok.status (g.K.Sink.out c.args.sink.now)
    (g.K.Sink.out c.write_whole.new.sink) c.deref.result.now same c.in-Ok.ensures.status
    (rw c.in-Ok.ensures.status (end_is_sound _)) c.in-Ok-write_whole.ensures.whole

pub returns-clause-writes : goal.returns-clause-writes
returns-clause-writes g c =
    let same : c.deref.result.now ≡ (outcome_in c.args.octets.now).text = search rules in
    written_short (outcome_in c.args.octets.now) (g.K.Sink.out c.args.sink.now) (g.K.Sink.out c.write_whole.new.sink)
    c.deref.result.now c.in-Err.field-0.written same c.in-Err.ensures.missing c.in-Err.ensures.prefix
