use Rattle.std.proofs.Common.{◌≡◌, ℕ, cond, List, length, map, None, sym, ap, ◌∙◌, arith}
use Rattle.std.proofs.lemmas.List.{length-map}
use Rattle.ndn_name.specs.Names.{Component, encoding}
use Rattle.ndn_data.specs.WrittenData.{written_data}
use Rattle.repo_object.specs.Objects.{Publisher, publisher}
use Rattle.repo_object.specs.Publication.{is_indexed, record_content, index_contents, packets_under}
use Rattle.repo_object.specs.Records.{listed_record}
use Rattle.repo_object.proofs.PacketSizes.{key_name-size, record_name-size}
use Rattle.repo_object.proofs.Packing.{items, packets_made}
use Rattle.repo_object.proofs.packets.made.Goals as goal

pub segments_from-requires-clause-key_name : goal.segments_from-requires-clause-key_name
segments_from-requires-clause-key_name c =
    omega (
      arith,
      ap (λ (n : List Component). length (encoding n)) c.in_ok-key_name.ensures,
      key_name-size c.args.node.now c.requires.node,
    )

pub index_packets-requires-clause-name : goal.index_packets-requires-clause-name
index_packets-requires-clause-name c =
    omega (
      arith,
      ap (λ (n : List Component). length (encoding n)) c.in_ok-name.ensures,
      record_name-size c.args.node.now c.args.group.now c.args.seq c.requires.node c.requires.group (omega arith),
    )

pub index_packets-requires-clause-key_name : goal.index_packets-requires-clause-key_name
index_packets-requires-clause-key_name c =
    omega (
      arith,
      ap (λ (n : List Component). length (encoding n)) c.in_ok-key_name.ensures,
      key_name-size c.args.node.now c.requires.node,
    )

pub listing_packet-requires-clause-name : goal.listing_packet-requires-clause-name
listing_packet-requires-clause-name c =
    omega (
      arith,
      ap (λ (n : List Component). length (encoding n)) c.in_ok-name.ensures,
      record_name-size c.args.node.now c.args.group.now c.args.seq c.requires.node c.requires.group (omega arith),
    )

pub listing_packet-requires-clause-key_name : goal.listing_packet-requires-clause-key_name
listing_packet-requires-clause-key_name c =
    omega (
      arith,
      ap (λ (n : List Component). length (encoding n)) c.in_ok-key_name.ensures,
      key_name-size c.args.node.now c.requires.node,
    )

pub returns-clause-made : goal.returns-clause-made
returns-clause-made c =
    let who : Publisher = publisher c.args.node.now c.args.group.now c.args.key.now in
    let object = c.args.object.now in
    let keyed = c.in_ok-key_name.key_name in
    let key = c.args.key.now in
    let name = c.in_ok-name.name in
    let contents = c.contents-contents.result.now in
    let segments = c.in_ok-segments.segments.items in
    let indexes = c.in_ok-indexes.indexes.items in
    let listed = c.listed.result.now in
    let count : length contents ≡ length object.contents =
    sym (length-map contents items) ∙ ap (λ (cs : List (List ℕ)). length cs) c.contents-contents.ensures.same in
    let digests = c.deref-4.ensures.value ∙ c.in_ok-digests.ensures in
    packets_made who c.args.seq object keyed name c.name.result.now c.saturating_sub-last.result (length contents)
    (map items contents) segments indexes listed c.in_ok-record.record.items c.in_ok-key_name.ensures
    c.in_ok-name.ensures c.name.ensures.same c.contents-contents.ensures.same
    (omega (arith, c.saturating_sub-last.ensures, count)) count c.in_ok-segments.ensures.made
    (c.in_ok-indexes.ensures.made
    ∙ ap (λ (ps : List (List ℕ)). packets_under keyed key name (index_contents ps)) c.deref.ensures.value)
    (c.listed.ensures.same
    ∙ ap (λ (ps : List (List ℕ)). cond (is_indexed (length ps)) c.deref-3.result.now ps) c.deref-2.ensures.value
    ∙ ap (λ (ps : List (List ℕ)). cond (is_indexed (length segments)) ps segments) c.deref-3.ensures.value)
    (c.in_ok-record.ensures.written
    ∙ ap (λ (n : List Component).
    written_data name None (record_content (listed_record n (length contents) c.deref-4.result.now)) keyed key)
    (c.name-3.ensures.same ∙ sym c.name.ensures.same)
    ∙ ap (λ (ds : List (List ℕ)).
    written_data name None (record_content (listed_record c.name.result.now (length contents) ds)) keyed key) digests)
