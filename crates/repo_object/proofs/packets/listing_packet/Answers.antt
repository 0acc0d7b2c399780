use Rattle.std.proofs.Common.{List, ℕ, None, length, ap, subst, ◌∙◌, arith}
use Rattle.std.proofs.lemmas.List.{get_or_default}
use Rattle.ndn_data.specs.WrittenData.{written_data}
use Rattle.repo_object.specs.Publication.{Listed}
use Rattle.repo_object.specs.Formats.{IsDigest}
use Rattle.repo_object.proofs.PacketSizes.{listing_packet-size}
use Rattle.repo_object.proofs.packets.listing_packet.Goals as goal

pub write_packet-requires : goal.write_packet-requires
write_packet-requires c =
    let digests = c.args.digests.now in
    let l : Listed = record { name = c.args.object.now; segments = c.args.segments; digests = digests } in
    let content = c.deref.ensures.value ∙ c.in_ok-content.ensures in
    let filled =
    ap (λ (o : List ℕ). length (written_data c.args.name.now None o c.args.key_name.now c.args.key.now)) content in
    omega (
      arith,
      filled,
      listing_packet-size c.args.name.now l c.args.key_name.now c.args.key.now c.requires.name c.requires.key_name
          c.requires.object c.requires.few c.requires.count
          (λ k d inside. subst IsDigest (get_or_default digests k _ d inside) (c.told-digests k inside)),
    )
