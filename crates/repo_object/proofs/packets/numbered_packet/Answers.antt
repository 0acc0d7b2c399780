use Rattle.std.proofs.Common.{ℕ, List, Some, length, ap, ◌∙◌, arith}
use Rattle.ndn_name.specs.Names.{Component}
use Rattle.ndn_data.specs.WrittenData.{written_data}
use Rattle.repo_object.specs.Objects.{segment_name}
use Rattle.repo_object.proofs.PacketSizes.{segment-size}
use Rattle.repo_object.proofs.packets.numbered_packet.Goals as goal

pub write_packet-requires : goal.write_packet-requires
write_packet-requires c =
    let name =
    c.in_ok-name.ensures ∙ ap (λ (n : List Component). segment_name n c.args.i) c.in_ok-clone.ensures.cases in
    let named =
    ap (λ (n : List Component).
    length (written_data n (Some c.from.result) c.args.content.now c.args.key_name.now c.args.key.now)) name in
    let last =
    ap (λ (m : ℕ).
    length (written_data (segment_name c.args.name.now c.args.i) (Some m) c.args.content.now c.args.key_name.now
    c.args.key.now)) c.from.ensures in
    omega (
      arith,
      named,
      last,
      segment-size c.args.key_name.now c.args.key.now c.args.name.now c.args.last c.args.i c.args.content.now
          c.requires.key_name c.requires.name (omega arith) (omega arith) c.requires.content,
    )
