use Rattle.std.proofs.Common.{◌≡◌, ◌++◌, bit_xor, map, take, drop}
use Rattle.ndn_sign.proofs.hashing.masked.Given as goal

abbrev pub invariant-loop-octet : goal.invariant-loop-octet
invariant-loop-octet l =
    l.octet-items
    ≡ map (λ octet. bit_xor octet l.mask) (take l.octet-index l.initial.octet-items)
    ++ drop l.octet-index l.initial.octet-items
