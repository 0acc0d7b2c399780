use Rattle.std.proofs.Common.{sym}
use Rattle.ndn_name.proofs.SizeLemmas.{number-fails, number-size, number-short}
use Rattle.ndn_name.proofs.uri_size.number_len.Goals as goal

pub returns-in-Ok-clause-exact : goal.returns-in-Ok-clause-exact
returns-in-Ok-clause-exact c = rw c.width_of.ensures (sym (number-size c.in-Ok.n c.args.text.now c.in-Ok.ensures.read))

pub returns-in-Ok-clause-small : goal.returns-in-Ok-clause-small
returns-in-Ok-clause-small c =
    rw c.width_of.ensures (number-short c.in-Ok.n c.args.text.now c.in-Ok.ensures.read)

pub returns-in-Err-clause-exact : goal.returns-in-Err-clause-exact
returns-in-Err-clause-exact c =
    sym (number-fails c.args.text.now c.in-Err.field-0 c.in-Err.ensures.not_memory c.in-Err.ensures.read)
