-- What the name and the content of a packet are.
use Rattle.std.proofs.Common.{◌≡◌, ℕ, List, Result, Ok, ap}
use Rattle.ndn_name.specs.declared.fault.PacketFault.{PacketFault}
use Rattle.ndn_name.specs.Names.{encoding}
use Rattle.ndn_data.specs.Data.{Data, data_of}
use Rattle.repo_object.specs.Packets.{name_octets, packet_name, content_octets, packet_content}

pub name_of-read : (octets : List ℕ) (d : Data) → data_of octets ≡ Ok d → packet_name octets ≡ encoding d.name
unfolding packet_name
name_of-read octets d e = ap (λ (r : Result Data PacketFault). name_octets r) e

pub content_of-read : (octets : List ℕ) (d : Data) → data_of octets ≡ Ok d → packet_content octets ≡ d.content
unfolding packet_content
content_of-read octets d e = ap (λ (r : Result Data PacketFault). content_octets r) e
