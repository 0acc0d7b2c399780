use Rattle.std.proofs.Common.{List, ℕ, map, length, ap, ◌∙◌, arith}
use Rattle.std.proofs.lemmas.List.{length-map}
use Rattle.std.proofs.lemmas.List.Elements.{All-map}
use Rattle.sha2.specs.Sha256.{sha256}
use Rattle.sha2.proofs.Facts256.{length-sha256}
use Rattle.repo_object.specs.Publication.{index_content}
use Rattle.repo_object.specs.Formats.{IsDigest}
use Rattle.repo_object.proofs.PacketSizes.{index-size}
use Rattle.repo_object.proofs.packets.index_packet.Goals as goal

pub index_content-requires : goal.index_content-requires
index_content-requires c =
    omega (
      arith,
      ap (λ (ds : List (List ℕ)). length ds) (c.deref.ensures.value ∙ c.in_ok-digests.ensures),
      length-map c.args.listed.now sha256,
      c.requires.few,
    )

pub numbered_packet-requires-clause-content : goal.numbered_packet-requires-clause-content
numbered_packet-requires-clause-content c =
    let listed = c.args.listed.now in
    let digests = c.deref.ensures.value ∙ c.in_ok-digests.ensures in
    omega (
      arith,
      ap (λ (o : List ℕ). length o) (c.deref-2.ensures.value ∙ c.in_ok-content.ensures ∙ ap index_content digests),
      index-size (map sha256 listed) (All-map IsDigest sha256 listed (λ i d h. length-sha256 _))
          (omega (arith, length-map listed sha256, c.requires.few)),
    )
