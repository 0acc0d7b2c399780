use Rattle.std.proofs.Common.{◌≡◌, ℕ, ◌-◌, ◌<◌, List, length, map, slice_get, Option, Some, option_map, sym, ap, subst}
use Rattle.std.proofs.Common.{◌∙◌, arith}
use Rattle.std.specs.Prelude.{IfOk}
use Rattle.std.proofs.lemmas.List.{length-map}
use Rattle.sha2.specs.Sha256.{sha256}
use Rattle.ndn_name.specs.Names.{Component, encoding}
use Rattle.repo_plan.specs.declared.shape.Shape.{Shape}
use Rattle.repo_plan.specs.Parts.{index_packets}
use Rattle.repo_object.specs.Objects.{Publisher, publisher, key_name, record_name}
use Rattle.repo_object.specs.Publication.{index_content, segment_packet, packets_under, listed_by}
use Rattle.repo_object.proofs.PacketSizes.{key_name-size, record_name-size}
use Rattle.repo_object.proofs.Packing.{items, index_packet_at, segment_packet_at, index_made}
use Rattle.repo_object.proofs.packets.packet_of.Goals as goal

pub index_alone-requires-clause-name : goal.index_alone-requires-clause-name
index_alone-requires-clause-name c =
    omega (
      arith,
      ap (λ (n : List Component). length (encoding n)) c.in_ok-name.ensures,
      record_name-size c.args.node.now c.args.group.now c.args.seq c.requires.node c.requires.group (omega arith),
    )

pub index_alone-requires-clause-key_name : goal.index_alone-requires-clause-key_name
index_alone-requires-clause-key_name c =
    omega (
      arith,
      ap (λ (n : List Component). length (encoding n)) c.in_ok-key_name.ensures,
      key_name-size c.args.node.now c.requires.node,
    )

pub segment_alone-requires : goal.segment_alone-requires
segment_alone-requires c =
    omega (
      arith,
      ap (λ (n : List Component). length (encoding n)) c.in_ok-key_name.ensures,
      key_name-size c.args.node.now c.requires.node,
    )

pub returns-in_default-checked_sub : goal.returns-in_default-checked_sub
returns-in_default-checked_sub c =
    let who : Publisher = publisher c.args.node.now c.args.group.now c.args.key.now in
    let object = c.args.object.now in
    let key = c.args.key.now in
    let name = record_name c.args.node.now c.args.group.now c.args.seq in
    let k = c.in-Some.after in
    let last = c.of-shape.result.index - 1 in
    let count : length c.contents.result.now ≡ length object.contents =
    sym (length-map c.contents.result.now items) ∙ ap (λ (cs : List (List ℕ)). length cs) c.contents.ensures.same in
    let index : c.of-shape.result.index ≡ index_packets (length object.contents) =
    ap (λ (s : Shape). s.index) c.of-shape.ensures.shape ∙ ap index_packets count in
    let content : List Component → List ℕ =
    λ n. index_content (map sha256 (listed_by (packets_under n key object.name object.contents) k)) in
    let low : k < index_packets (length object.contents) = omega (arith, index) in
    ap (λ (p : List ℕ). Some p)
    (c.in_ok-packet.ensures
    ∙ ap (λ (n : List Component). segment_packet n key c.in_ok-name.name last k (content n)) c.in_ok-key_name.ensures
    ∙ ap (λ (n : List Component). segment_packet (key_name who.node) key n last k (content (key_name who.node)))
    c.in_ok-name.ensures)
    ∙ sym (index_packet_at who c.args.seq object c.args.part k (omega arith) low
    ∙ index_made who c.args.seq object k last low (omega (arith, index)))

pub returns : goal.returns
returns c =
    let who : Publisher = publisher c.args.node.now c.args.group.now c.args.key.now in
    let object = c.args.object.now in
    let key = c.args.key.now in
    let i = c.in-Some-checked_sub.i in
    let count : length c.contents.result.now ≡ length object.contents =
    sym (length-map c.contents.result.now items) ∙ ap (λ (cs : List (List ℕ)). length cs) c.contents.ensures.same in
    let index : c.of-shape.result.index ≡ index_packets (length object.contents) =
    ap (λ (s : Shape). s.index) c.of-shape.ensures.shape ∙ ap index_packets count in
    let at =
    ap (λ (n : List Component). slice_get (packets_under n key object.name object.contents) i) c.in_ok-key_name.ensures
    ∙ sym (segment_packet_at who c.args.seq object c.args.part i (omega (arith, index))) in
    let P : Option (List ℕ) → Type 0 =
    λ o. IfOk c.segment_alone.result (λ packet. option_map (λ p. p.items) packet ≡ o) in
    subst P at c.segment_alone.ensures
