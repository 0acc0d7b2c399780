use Rattle.std.proofs.Common.{◌≡◌, ◌++◌, drop}
use Rattle.std.specs.List.{flat_map}
use Rattle.ndn_tlv.specs.Spelling.{element}
use Rattle.repo_object.proofs.contents.put_digests.Given as goal

abbrev pub invariant-loop-digest : goal.invariant-loop-digest
invariant-loop-digest l =
    l.writer ++ flat_map (element l.typ) (drop l.digest-index l.digests)
    ≡ l.initial.writer ++ flat_map (element l.typ) l.digests
