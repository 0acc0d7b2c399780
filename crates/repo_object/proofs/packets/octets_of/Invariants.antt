use Rattle.std.proofs.Common.{◌≡◌, map, take}
use Rattle.repo_object.proofs.packets.octets_of.Given as goal

abbrev pub invariant-loop-packet : goal.invariant-loop-packet
invariant-loop-packet l = map (λ octets. octets.items) l.copied.items ≡ take l.packet-index l.packets
