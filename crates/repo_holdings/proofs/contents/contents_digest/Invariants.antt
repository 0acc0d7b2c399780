use Rattle.std.proofs.Common.{◌≡◌, ◌≤◌, ◌+◌, ◌*◌, length}
use Rattle.sha2.specs.Hashers.{Holds256}
use Rattle.repo_holdings.specs.Listed.{contents_from}
use Rattle.repo_holdings.proofs.contents.contents_digest.Given as goal

abbrev pub invariant-loop-x : goal.invariant-loop-x
invariant-loop-x l = record {
  octets : l.octets ≡ length (contents_from l.store.packets (l.publisher, l.seq) (l.shape.index + 1) l.x);
  digest : Holds256 l.digest (contents_from l.store.packets (l.publisher, l.seq) (l.shape.index + 1) l.x);
  small : l.octets ≤ 8800 * l.x;
}
