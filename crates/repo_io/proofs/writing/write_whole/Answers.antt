use Rattle.std.proofs.Common.{◌+◌, ◌≤◌, length, arith}
use Rattle.std.proofs.lemmas.List.{length-drop}
use Rattle.repo_io.proofs.Outputs.{more_gained, piece_is}
use Rattle.repo_io.proofs.writing.write_whole.Goals as goal

pub loop-written-preserved : goal.loop-written-preserved
loop-written-preserved g c =
    let place = c.loop-written.written in
    let n = c.in-Ok.taken in
    let text = c.args.text.now in
    let room : place + n ≤ length text =
    omega (arith, rw (piece_is text place) at c.in-Ok.ensures.count, length-drop place text) in
    record {
      room = room;
      so_far = more_gained (g.K.Sink.out c.args.sink.now) (g.K.Sink.out c.loop-written.sink)
          (g.K.Sink.out c.write.new.self) text place n c.loop-written.invariant.so_far c.in-Ok.ensures.given;
      faults = omega (arith, c.in-Ok.ensures.faults, c.loop-written.invariant.faults);
    }
