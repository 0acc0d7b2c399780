use Rattle.std.proofs.Common.{arith}
use Rattle.lab_picture.proofs.WordReads.{no_word_before, word_later}
use Rattle.lab_picture.proofs.words.word.Goals as goal

pub loop-left-preserved : goal.loop-left-preserved
loop-left-preserved c = let e = word_later c.loop-left.left c.loop-left.rest.now (omega arith) in cc

pub returns : goal.returns
returns c = let e = no_word_before c.loop-left.left c.loop-left.rest.now (omega arith) in cc
