use Rattle.std.proofs.Common.{◌≡◌, ℕ, ◌+◌, List, [], ◌∷◌, ◌++◌, length, map, drop, ap, ◌∙◌, arith}
use Rattle.std.proofs.lemmas.List.{length-map}
use Rattle.repo_object.specs.Publication.{segment_packet, segment_packets_from}
use Rattle.repo_object.proofs.Packing.{items, content_is, segments_more, segments_end, segments-length}
use Rattle.repo_object.proofs.packets.segments_from.Goals as goal

pub numbered_packet-requires-clause-content : goal.numbered_packet-requires-clause-content
numbered_packet-requires-clause-content c =
    let content = c.index-contents-i.result in
    let small = c.requires.contents c.loop-i.i content (omega arith) in
    omega (
      arith,
      ap (λ (o : List ℕ). length o) c.deref.ensures.value,
      ap (λ o. length (items o)) c.index-contents-i.is,
      small.1,
    )

pub loop-i-preserved : goal.loop-i-preserved
loop-i-preserved c =
    let contents = map items c.args.contents.now in
    let content = c.index-contents-i.result in
    let first = c.args.first in
    let i = c.loop-i.i in
    let last = c.args.last in
    let keyed = c.args.key_name.now in
    let key = c.args.key.now in
    let name = c.args.name.now in
    let made = c.loop-i.packets.items in
    let packet = c.in_ok-packet.packet in
    let at = content_is c.args.contents.now i content (omega arith) c.index-contents-i.is in
    let written =
    c.in_ok-packet.ensures
    ∙ c.in_ok-octets.ensures.written
    ∙ ap (segment_packet keyed key name last (first + i)) c.deref.ensures.value in
    let more =
    segments_more keyed key name last contents made (segment_packets_from keyed key name last first contents) (first
    + i) i
    content.items packet (omega (arith, length-map c.args.contents.now items)) at written c.loop-i.invariant in
    let next : first + (i + 1) ≡ first + i + 1 = omega arith in
    ap (λ (ps : List (List ℕ)). ps ++ segment_packets_from keyed key name last (first + (i + 1)) (drop (i + 1)
    contents))
    c.in_ok-push.ensures.items
    ∙ ap (λ (n : ℕ). (made ++ packet ∷ []) ++ segment_packets_from keyed key name last n (drop (i + 1) contents)) next
    ∙ more

pub returns-clause-made : goal.returns-clause-made
returns-clause-made c =
    let contents = map items c.args.contents.now in
    segments_end c.args.key_name.now c.args.key.now c.args.name.now c.args.last contents c.loop-i.packets.items
    (segment_packets_from c.args.key_name.now c.args.key.now c.args.name.now c.args.last c.args.first contents)
    (c.args.first + c.loop-i.i) c.loop-i.i (omega (arith, length-map c.args.contents.now items)) c.loop-i.invariant

pub returns-clause-count : goal.returns-clause-count
returns-clause-count c =
    let contents = map items c.args.contents.now in
    ap length
    (segments_end c.args.key_name.now c.args.key.now c.args.name.now c.args.last contents c.loop-i.packets.items
    (segment_packets_from c.args.key_name.now c.args.key.now c.args.name.now c.args.last c.args.first contents)
    (c.args.first + c.loop-i.i) c.loop-i.i (omega (arith, length-map c.args.contents.now items)) c.loop-i.invariant)
    ∙ segments-length c.args.key_name.now c.args.key.now c.args.name.now c.args.last c.args.first contents
    ∙ length-map c.args.contents.now items
