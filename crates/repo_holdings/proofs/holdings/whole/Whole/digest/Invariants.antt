use Rattle.std.proofs.Common.{◌≡◌, ◌-◌, ◌^◌, length, min, take}
use Rattle.sha2.specs.Hashers.{Holds256}
use Rattle.repo_holdings.specs.WholeContents.{joined}
use Rattle.repo_holdings.proofs.holdings.whole.Whole.digest.Given as goal

abbrev pub invariant-loop-content : goal.invariant-loop-content
invariant-loop-content l =
    let prefix = joined (take l.content-index l.content-items) in record {
      octets : l.octets ≡ min (2 ^ 64 - 1) (length prefix);
      digest : Holds256 l.digest prefix;
    }
