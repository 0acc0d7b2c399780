use Rattle.std.proofs.Common.{sym}
use Rattle.lab_capture.proofs.Joined.{record_joined}
use Rattle.lab_capture.proofs.reading.first_frame.Goals as goal

pub returns-clause-spelled : goal.returns-clause-spelled
returns-clause-spelled c =
    record_joined (record {
      seconds = c.in_ok-seconds.seconds;
      micros = c.in_ok-micros.micros;
      source = c.in_ok-source.source;
      destination = c.in_ok-destination.destination;
      packet = c.in_ok-packet.packet.now;
    }) c.in_ok-captured.captured c.in_ok-count.count c.args.octets.now c.in_ok-seconds.rest.now c.in_ok-micros.rest.now
    c.in_ok-captured.rest.now c.in_ok-count.rest.now c.in_ok-destination.rest.now c.in_ok-source.rest.now
    c.in_ok-rest.rest.now c.in_ok-packet.rest.now c.in_ok-seconds.ensures.spelled c.in_ok-micros.ensures.spelled
    c.in_ok-captured.ensures.spelled c.in_ok-count.ensures.spelled c.in_ok-destination.ensures.spelled
    c.in_ok-source.ensures.spelled c.in_ok-rest.ensures.spelled c.in_ok-packet.ensures.spelled
    (sym c.if-not-is_size.ensures) c.in_ok-packet.ensures.len
