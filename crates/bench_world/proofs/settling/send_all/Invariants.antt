use Rattle.std.proofs.Common.{◌≡◌, ◌+◌, ◌++◌, ◌≤◌, ◌<◌, length, map}
use Rattle.std.specs.Vec.Iter.{into_iter_items}
use Rattle.bench_world.specs.Settling.{sent_sync}
use Rattle.bench_world.proofs.settling.send_all.Given as goal

abbrev pub invariant-loop-one : goal.invariant-loop-one
invariant-loop-one l =
    let rest = into_iter_items l.one-iterator in record {
      sent : l.sent.packets ++ map sent_sync rest ≡ l.initial.sent.packets ++ map sent_sync l.fn.syncs.items;
      room : length rest ≤ l.sent.spare;
      few : length l.sent.packets + length rest < 4294967295;
    }
