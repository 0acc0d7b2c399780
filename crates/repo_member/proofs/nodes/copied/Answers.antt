use Rattle.std.proofs.Common.{◌++◌, ◌∷◌, [], sym, ap, ◌∙◌, arith}
use Rattle.ndn_sign.specs.Ring.{pair}
use Rattle.repo_member.proofs.GroupLemmas.{take-pair}
use Rattle.repo_member.proofs.nodes.copied.Goals as goal

pub loop-number-preserved : goal.loop-number-preserved
loop-number-preserved c =
    let more =
    take-pair c.args.ring.now c.loop-number.number c.name.result.now c.key.result.now (omega arith) c.name.ensures
    c.key.ensures in
    c.in_ok-add_pair.ensures.ok
    ∙ ap (λ ring. ring ++ pair c.name.result.now c.key.result.now ∷ []) c.loop-number.invariant
    ∙ sym more
