use Rattle.std.proofs.Common.{arith, length, ap}
use Rattle.sorted_lists.specs.BlockMap.{above_half}
use Rattle.sorted_lists.proofs.Rooms.{room_is, over_above}
use Rattle.sorted_lists.proofs.block_map.BlockMap.reserve.Goals as goal

pub returns-clause-room : goal.returns-clause-room
returns-clause-room g c =
    let begun = c.begin.new.self in
    let new = c.add_spare.new.self in
    let some = c.in_ok-begin.ensures.block in
    let same = ap length c.in_ok-add_spare.ensures.blocks in
    let is = room_is new.blocks.items new.spare.len (omega (arith, some, same, begun.blocks.ok.0)) in
    omega (
      arith,
      is,
      over_above new.blocks.items,
      c.in_ok-add_spare.ensures.room,
      c.min-wanted.ensures,
      ap above_half c.in_ok-add_spare.ensures.blocks,
      c.above_half.ensures.number,
    )
