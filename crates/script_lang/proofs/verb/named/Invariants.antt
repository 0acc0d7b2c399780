use Rattle.std.proofs.Common.{◌≡◌, map, length}
use Rattle.script_lang.specs.Lines.{verb_named}
use Rattle.script_lang.proofs.verb.named.Given as goal

abbrev pub invariant-loop-rest : goal.invariant-loop-rest
invariant-loop-rest l = verb_named (map (λ row. (row.0.now, row.1)) l.rest) l.word ≡ verb_named
    (map (λ row. (row.0.now, row.1)) l.rows) l.word

abbrev pub decreases-loop-rest : goal.decreases-loop-rest
decreases-loop-rest l = length l.rest
