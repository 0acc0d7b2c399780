use Rattle.std.proofs.Common.{bit_xor, get_or, arith}
use Rattle.std.proofs.lemmas.List.Edits.{map_over_more}
use Rattle.std.proofs.lemmas.Grind.{common_steps}
use Rattle.ndn_sign.proofs.hashing.masked.Goals as goal

pub loop-octet-preserved : goal.loop-octet-preserved
loop-octet-preserved c =
    let i = c.loop-octet.octet-index in
    let items = c.loop-octet.octet-items in
    map_over_more (λ octet. bit_xor octet c.args.mask) c.args.block items i (get_or items i 0) (omega arith)
    c.loop-octet.invariant (grind (arith, common_steps))
