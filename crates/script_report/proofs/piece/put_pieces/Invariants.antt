use Rattle.std.proofs.Common.{◌≡◌, ◌++◌, take}
use Rattle.script_report.specs.Texts.{after_spaces}
use Rattle.script_report.specs.Pieces.{KeepsPrefix, words_in}
use Rattle.script_report.proofs.piece.put_pieces.Given as goal

abbrev pub invariant-loop-piece : goal.invariant-loop-piece
invariant-loop-piece l = record {
  written : l.out.items ≡ l.fn.out.items ++ after_spaces (words_in (take l.piece-index l.pieces));
  kept : KeepsPrefix l.fn.out.items l.out.items;
}
