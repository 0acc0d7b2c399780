use Rattle.std.proofs.Common.{◌≡◌, ℕ, ◌-◌, ◌*◌, List, length, map, drop, Vec, Global, sym, ap, subst, ◌∙◌, arith}
use Rattle.std.specs.Prelude.{IfOk}
use Rattle.std.specs.List.{All}
use Rattle.std.proofs.lemmas.List.{length-map, length-take, length-drop}
use Rattle.sha2.specs.Sha256.{sha256}
use Rattle.ndn_name.specs.Names.{Component}
use Rattle.repo_plan.specs.declared.shape.Shape.{Shape}
use Rattle.repo_object.specs.Objects.{IsContent}
use Rattle.repo_object.specs.Publication.{index_content, segment_packet, segment_packets_from, listed_by}
use Rattle.repo_object.proofs.IndexLemmas.{index_lists}
use Rattle.repo_object.proofs.Packing.{items, all_listed, listed-map, segments_listed}
use Rattle.repo_object.proofs.packets.index_alone.Goals as goal

pub segments_from-requires-clause-contents : goal.segments_from-requires-clause-contents
segments_from-requires-clause-contents c =
    let P : List (Vec ℕ Global) → Type 0 = All (λ v. IsContent v.items) in
    subst P (sym c.listed_by-contents.ensures.same)
    (all_listed (λ v. IsContent v.items) c.contents.result.now c.args.k c.contents.ensures.contents)

pub segments_from-requires-clause-numbers : goal.segments_from-requires-clause-numbers
segments_from-requires-clause-numbers c =
    let contents = c.contents.result.now in
    let k = c.args.k in
    omega (
      arith,
      ap (λ l. length l) c.listed_by-contents.ensures.same,
      length-take 200 (drop (k * 200) contents),
      length-drop (k * 200) contents,
      c.contents.ensures.few,
      index_lists (length c.args.object.now.contents) k (omega (arith, ap (λ (s : Shape). s.index) c.requires.shape)),
      ap (λ l. length l) c.contents.ensures.same,
      length-map contents items,
    )

pub index_packet-requires-clause-few : goal.index_packet-requires-clause-few
index_packet-requires-clause-few c =
    omega (
      arith,
      c.deref.ensures.len,
      ap (λ l. length l) c.deref.ensures.value,
      c.in_ok-segments.ensures.count,
      c.listed_by-contents.ensures.few,
    )

pub returns : goal.returns
returns c =
    let object = c.args.object.now in
    let keyed = c.args.key_name.now in
    let key = c.args.key.now in
    let k = c.args.k in
    let last = length object.contents - 1 in
    let contents =
    ap (map items) c.listed_by-contents.ensures.same
    ∙ listed-map c.contents.result.now k
    ∙ ap (λ (cs : List (List ℕ)). listed_by cs k) c.contents.ensures.same in
    let segments =
    c.deref.ensures.value
    ∙ c.in_ok-segments.ensures.made
    ∙ ap (λ (n : List Component). segment_packets_from keyed key n (c.args.shape.segments - 1) (k * 200)
    (map items c.listed_by-contents.result.now)) c.name.ensures.same
    ∙ ap (λ (s : Shape). segment_packets_from keyed key object.name (s.segments - 1) (k * 200)
    (map items c.listed_by-contents.result.now)) c.requires.shape
    ∙ ap (segment_packets_from keyed key object.name last (k * 200)) contents
    ∙ segments_listed keyed key object.name last object.contents k in
    let P : List (List ℕ) → Type 0 =
    λ ds. IfOk c.index_packet.result (λ packet.
    packet.items ≡ segment_packet keyed key c.args.name.now (c.args.shape.index - 1) k (index_content (map sha256
    ds))) in
    subst P segments c.index_packet.ensures.written
