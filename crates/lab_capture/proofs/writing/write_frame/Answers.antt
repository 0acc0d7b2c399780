use Rattle.std.proofs.lemmas.Result.{on_ok_weaker}
use Rattle.lab_capture.specs.Captures.{framed}
use Rattle.lab_capture.proofs.Joined.{record_written}
use Rattle.lab_capture.proofs.writing.write_frame.Goals as goal

pub returns-clause-ok : goal.returns-clause-ok
returns-clause-ok c =
    on_ok_weaker c.write_octets-2.result
    (record_written (framed c.args.frame.now) c.frame_len-len.result c.args.out.now.items c.write_number.new.out.items
    c.write_number-2.new.out.items c.write_number-3.new.out.items c.write_number-4.new.out.items
    c.write_address.new.out.items c.write_address-2.new.out.items c.write_octets.new.out.items
    c.write_octets-2.new.out.items c.frame_len-len.ensures c.in_ok-write_number.ensures.ok
    c.in_ok-write_number-2.ensures.ok c.in_ok-write_number-3.ensures.ok c.in_ok-write_number-4.ensures.ok
    c.in_ok-write_address.ensures.ok c.in_ok-write_address-2.ensures.ok c.in_ok-write_octets.ensures.ok)
    c.write_octets-2.ensures.ok
