use Rattle.std.proofs.Common.{List, ℕ, None, length, ap, ◌∙◌, arith}
use Rattle.ndn_name.specs.Names.{Component, encoding}
use Rattle.ndn_data.specs.WrittenData.{written_data}
use Rattle.repo_object.proofs.PacketSizes.{key_name-size, record_name-size, withdrawal_packet-size}
use Rattle.repo_object.proofs.packets.withdrawal_packet.Goals as goal

pub write_packet-requires : goal.write_packet-requires
write_packet-requires c =
    let content = c.deref.ensures.value ∙ c.in_ok-content.ensures in
    let filled =
    ap (λ (o : List ℕ). length (written_data c.in_ok-name.name None o c.in_ok-key_name.key_name c.args.key.now))
    content in
    let size : List Component → ℕ = λ n. length (encoding n) in
    omega (
      arith,
      filled,
      withdrawal_packet-size c.in_ok-name.name c.args.withdrawn c.in_ok-key_name.key_name c.args.key.now
          (omega (
            arith,
            ap size c.in_ok-name.ensures,
            record_name-size c.args.node.now c.args.group.now c.args.seq c.requires.node c.requires.group (omega arith),
          ))
          (omega (arith, ap size c.in_ok-key_name.ensures, key_name-size c.args.node.now c.requires.node))
          (omega arith),
    )
