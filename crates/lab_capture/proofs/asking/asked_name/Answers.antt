use Rattle.lab_capture.specs.Frames.{asked_digest}
use Rattle.lab_capture.proofs.AskedNames.{asked_longer}
use Rattle.lab_capture.proofs.asking.asked_name.Goals as goal

pub returns-in-Err-clause-too_long : goal.returns-in-Err-clause-too_long
returns-in-Err-clause-too_long c = λ e.
    asked_longer c.args.name.now (asked_digest c.args.part c.args.packet.now) (c.in-Err.ensures.too_long.0 e)
