use Rattle.std.proofs.Common.{◌≡◌, ℕ, ◌+◌, ◌-◌, ◌<◌, ◌++◌, List, Some, length, map, drop, ap, sym, ◌∙◌, arith}
use Rattle.std.proofs.lemmas.Option.{get_or_from_slice_get}
use Rattle.sha2.specs.Sha256.{sha256}
use Rattle.repo_plan.specs.Parts.{index_packets}
use Rattle.repo_plan.specs.declared.shape.Shape.{Shape}
use Rattle.repo_object.specs.Publication.{index_content, index_contents, segment_packets_from}
use Rattle.repo_object.proofs.Packing.{segments_more, segments_end, segments-length, index-count, index_at}
use Rattle.repo_object.proofs.packets.index_packets.Goals as goal

pub loop-k-preserved : goal.loop-k-preserved
loop-k-preserved c =
    let segments = c.args.segments.now in
    let contents = index_contents segments in
    let k = c.loop-k.k in
    let keyed = c.args.key_name.now in
    let key = c.args.key.now in
    let name = c.args.name.now in
    let last = c.saturating_sub-last.result in
    let content = index_content (map sha256 c.listed_by.result.now) in
    let count = ap (λ (s : Shape). s.index) c.of-count.ensures.shape in
    let low : k < index_packets (length segments) = omega (arith, count, c.loop-k-test.true) in
    let at =
    get_or_from_slice_get contents k content content
    (index_at segments k low
    ∙ ap (λ (ps : List (List ℕ)). Some (index_content (map sha256 ps))) (sym c.listed_by.ensures.same)) in
    let more =
    segments_more keyed key name last contents c.loop-k.packets.items
    (segment_packets_from keyed key name last 0 contents) k k content c.in_ok-packet.packet
    (omega (arith, low, index-count segments)) at (c.in_ok-packet.ensures ∙ c.in_ok-octets.ensures.written)
    c.loop-k.invariant in
    ap (λ (ps : List (List ℕ)). ps ++ segment_packets_from keyed key name last (k + 1) (drop (k + 1) contents))
    c.in_ok-push.ensures.items
    ∙ more

pub returns-clause-made : goal.returns-clause-made
returns-clause-made c =
    let segments = c.args.segments.now in
    let contents = index_contents segments in
    let keyed = c.args.key_name.now in
    let key = c.args.key.now in
    let name = c.args.name.now in
    let last = c.saturating_sub-last.result in
    let count = ap (λ (s : Shape). s.index) c.of-count.ensures.shape in
    let done =
    segments_end keyed key name last contents c.loop-k.packets.items (segment_packets_from keyed key name last 0
    contents)
    c.loop-k.k c.loop-k.k (omega (arith, count, index-count segments)) c.loop-k.invariant in
    let same : last ≡ length contents - 1 =
    omega (arith, count, index-count segments, c.saturating_sub-last.ensures) in
    done ∙ ap (λ (n : ℕ). segment_packets_from keyed key name n 0 contents) same

pub returns-clause-count : goal.returns-clause-count
returns-clause-count c =
    let segments = c.args.segments.now in
    let contents = index_contents segments in
    let keyed = c.args.key_name.now in
    let key = c.args.key.now in
    let name = c.args.name.now in
    let last = c.saturating_sub-last.result in
    let count = ap (λ (s : Shape). s.index) c.of-count.ensures.shape in
    let done =
    segments_end keyed key name last contents c.loop-k.packets.items (segment_packets_from keyed key name last 0
    contents)
    c.loop-k.k c.loop-k.k (omega (arith, count, index-count segments)) c.loop-k.invariant in
    ap length done ∙ segments-length keyed key name last 0 contents ∙ index-count segments
