use Rattle.std.proofs.Common.{◌≡◌, ◌++◌, map}
use Rattle.std.specs.Slice.Iter.{chunks_rest, chunks_size}
use Rattle.repo_object.specs.Cuts.{pieces}
use Rattle.repo_object.proofs.cutting.cut_into.Given as goal

abbrev pub invariant-loop-piece : goal.invariant-loop-piece
invariant-loop-piece l = record {
  whole : map (λ piece. piece.items) l.pieces.items ++ pieces l.size (chunks_rest l.piece-iterator)
      ≡ pieces l.size l.content;
  size : chunks_size l.piece-iterator ≡ l.size;
}
