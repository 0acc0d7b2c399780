use Rattle.std.proofs.Common.{◌≡◌, map, take}
use Rattle.bench_world.specs.Worlds.{tells}
use Rattle.bench_world.specs.Settling.{sent_sync}
use Rattle.bench_world.proofs.sync_exchange.tell_all.Given as goal

abbrev pub invariant-loop-member : goal.invariant-loop-member
invariant-loop-member g l = record {
  syncs : map sent_sync l.syncs.items ≡ map (tells l.g) (take l.member-index l.members);
  sender : l.sender ≡ l.member-index;
}
