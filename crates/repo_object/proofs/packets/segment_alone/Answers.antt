use Rattle.std.proofs.Common.{◌≡◌, ℕ, ◌+◌, ◌-◌, ◌≤◌, List, Some, option_map, length, refl, ap, sym, subst, ◌∙◌}
use Rattle.std.proofs.Common.{arith}
use Rattle.std.specs.List.{All, slice_get}
use Rattle.std.proofs.lemmas.Option.{slice_get-map, slice_get_past, slice_get_read}
use Rattle.std.proofs.lemmas.List.{length-map}
use Rattle.ndn_name.specs.Names.{Component}
use Rattle.repo_object.specs.Objects.{IsContent}
use Rattle.repo_object.specs.Publication.{segment_packet, packets_under}
use Rattle.repo_object.proofs.Packing.{items, content_at, segment_at, segments-length}
use Rattle.repo_object.proofs.packets.segment_alone.Goals as goal

pub returns-in_default : goal.returns-in_default
returns-in_default c =
    let object = c.args.object.now in
    let keyed = c.args.key_name.now in
    let key = c.args.key.now in
    let past : length object.contents ≤ c.args.i =
    omega (
      arith,
      c.in_default.ensures.lookup.3,
      c.from.ensures,
      ap (λ l. length l) c.contents-contents.ensures.same,
      length-map c.contents-contents.result.now items,
    ) in
    sym (slice_get_past (packets_under keyed key object.name object.contents) c.args.i
    (omega (arith, past, segments-length keyed key object.name (length object.contents - 1) 0 object.contents)))

pub numbered_packet-requires-clause-content : goal.numbered_packet-requires-clause-content
numbered_packet-requires-clause-content c =
    let contents = c.contents-contents.result.now in
    let all =
    subst (All IsContent) (sym c.contents-contents.ensures.same) c.contents-contents.ensures.within.contents in
    let small =
    content_at contents c.from.result c.in-Some.content.now c.in-Some.ensures.lookup.3.0 c.in-Some.ensures.lookup.1
    all in
    omega (arith, ap (λ (o : List ℕ). length o) c.deref.ensures.value, small.1)

pub returns : goal.returns
returns c =
    let object = c.args.object.now in
    let keyed = c.args.key_name.now in
    let key = c.args.key.now in
    let contents = c.contents-contents.result.now in
    let content = c.in-Some.content.now in
    let i = c.args.i in
    let last = length object.contents - 1 in
    let long = ap (λ l. length l) c.contents-contents.ensures.same in
    let at : slice_get object.contents i ≡ Some content.items =
    ap (λ (cs : List (List ℕ)). slice_get cs i) (sym c.contents-contents.ensures.same) ∙ slice_get-map items contents i
    ∙ ap (option_map items)
    (ap (slice_get contents) (sym c.from.ensures)
    ∙ slice_get_read contents (length contents) c.from.result content refl c.in-Some.ensures.lookup.3.0
    c.in-Some.ensures.lookup.1) in
    let same_last : length contents - 1 ≡ last = omega (arith, long, length-map contents items) in
    let none : 0 + i ≡ i = omega arith in
    let made =
    c.in_ok-packet.ensures.written
    ∙ ap (λ (n : List Component). segment_packet keyed key n (length contents - 1) i c.deref.result.now)
    c.name.ensures.same
    ∙ ap (λ (n : ℕ). segment_packet keyed key object.name n i c.deref.result.now) same_last
    ∙ ap (segment_packet keyed key object.name last i) c.deref.ensures.value in
    ap (λ (p : List ℕ). Some p) made
    ∙ sym (segment_at keyed key object.name last 0 object.contents i
    ∙ ap (option_map (segment_packet keyed key object.name last (0 + i))) at
    ∙ ap (λ (n : ℕ). Some (segment_packet keyed key object.name last n content.items)) none)
