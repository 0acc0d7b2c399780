use Rattle.std.proofs.Common.{Err, ap}
use Rattle.live_top.proofs.Reading.{halted_at, halts_unread, read_whole}
use Rattle.live_top.proofs.input.read_script.Goals as goal

pub returns-clause-read : goal.returns-clause-read
returns-clause-read g c =
    read_whole (g.S.Source.left c.args.source.now) (g.S.Source.left c.read_up_to.new.source)
    c.in_ok-input.input.items c.script_of.result c.in_ok-input.ensures.taken c.in_ok-input.ensures.whole
    (rw c.deref.ensures.value at c.script_of.ensures.taken)

pub returns-clause-halted : goal.returns-clause-halted
returns-clause-halted g c =
    halted_at (g.S.Source.left c.args.source.now) (g.S.Source.left c.read_up_to.new.source) _ _
    c.in_ok-input.input.items c.script_of.result c.in_ok-input.ensures.taken c.in_ok-input.ensures.most
    c.in_ok-input.ensures.whole (rw c.deref.ensures.value at c.script_of.ensures.halted)

pub returns-in_err-input-clause-halted : goal.returns-in_err-input-clause-halted
returns-in_err-input-clause-halted g c =
    halts_unread _ _ _ c.from_residual.result c.in_err-input.field-0.0
    (λ e. c.in_err-input.ensures.risen (ap Err e))
    c.from_residual.ensures.1
