use Rattle.std.proofs.Common.{◌++◌, ◌∷◌, [], List, ℕ, length, min, map, ap, sym, ◌∙◌, ◌≡◌}
use Rattle.std.specs.Slice.Iter.{chunks_rest}
use Rattle.std.proofs.lemmas.List.{map-append}
use Rattle.repo_object.specs.Cuts.{pieces}
use Rattle.repo_object.proofs.CutLemmas.{cut_more, cut_done, cut_count, cut_sizes}
use Rattle.repo_object.proofs.Packing.{items}
use Rattle.repo_object.proofs.cutting.cut_into.Goals as goal

pub loop-piece-preserved : goal.loop-piece-preserved
loop-piece-preserved c =
    let inv = c.loop-piece.invariant in
    let steps = c.in-Some.ensures.steps in
    let size = c.args.size in
    let rest = chunks_rest c.loop-piece.piece-iterator in
    let made = map items c.loop-piece.pieces.items in
    let copy = c.in_ok-to_vec.ensures.items_if_clones_equal (λ x y e. e) in
    let long : length c.in-Some.piece.now ≡ min size (length rest) =
    steps.1.1 ∙ ap (λ n. min n (length rest)) inv.size in
    let more =
    cut_more size made rest c.in-Some.piece.now (chunks_rest c.next.new.self) (pieces size c.args.content.now)
    c.requires.size steps.1.2 steps.1.0 long inv.whole in
    let pushed =
    ap (map items) c.in_ok-push.ensures.items
    ∙ map-append items c.loop-piece.pieces.items (c.in_ok-to_vec.field-0 ∷ [])
    ∙ ap (λ (p : List ℕ). made ++ p ∷ []) copy in
    record {
      whole = ap (λ (m : List (List ℕ)). m ++ pieces size (chunks_rest c.next.new.self)) pushed ∙ more;
      size = steps.0 ∙ inv.size;
    }

pub returns-clause-count : goal.returns-clause-count
returns-clause-count c =
    let rest = chunks_rest c.loop-piece.piece-iterator in
    let done =
    cut_done c.args.size (map items c.loop-piece.pieces.items) rest (pieces c.args.size c.args.content.now)
    c.requires.size c.in-None.ensures.steps.1.0 c.loop-piece.invariant.whole in
    cut_count c.args.size c.args.content.now c.loop-piece.pieces.items done ∙ sym c.requires.count

pub returns-clause-sizes : goal.returns-clause-sizes
returns-clause-sizes c =
    let rest = chunks_rest c.loop-piece.piece-iterator in
    let done =
    cut_done c.args.size (map items c.loop-piece.pieces.items) rest (pieces c.args.size c.args.content.now)
    c.requires.size c.in-None.ensures.steps.1.0 c.loop-piece.invariant.whole in
    cut_sizes c.args.size c.args.content.now c.loop-piece.pieces.items done c.requires.size
