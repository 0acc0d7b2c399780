use Rattle.std.proofs.Common.{arith, sym}
use Rattle.lab_capture.proofs.Worlds.{few_senders}
use Rattle.lab_capture.proofs.frames.sender_at.Goals as goal

pub overflow_cast-result : goal.overflow_cast-result
overflow_cast-result c =
    omega (
      arith,
      few_senders c.args.world.now c.cite_soundness.ensures.consistent c.args.k c.in-Some.m
          (sym c.in-Some.ensures),
    )

pub returns-in-Some-clause-station : goal.returns-in-Some-clause-station
returns-in-Some-clause-station c =
    omega (
      arith,
      few_senders c.args.world.now c.cite_soundness.ensures.consistent c.args.k c.in-Some.m
          (sym c.in-Some.ensures),
    )
