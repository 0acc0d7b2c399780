use Rattle.std.proofs.Common.{arith}
use Rattle.repo_object.proofs.PlaceLemmas.{is_packet}
use Rattle.repo_object.proofs.packet.is_packet.Goals as goal

pub returns : goal.returns
returns c = is_packet c.args.octets.now (λ i. omega (arith, c.type_inv.octets i)) c.requires
