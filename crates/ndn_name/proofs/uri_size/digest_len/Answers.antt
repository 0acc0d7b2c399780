use Rattle.std.proofs.Common.{sym}
use Rattle.ndn_name.proofs.SizeLemmas.{digest-fails, digest-short, digest-size}
use Rattle.ndn_name.proofs.uri_size.digest_len.Goals as goal

pub returns-in-Ok-clause-exact : goal.returns-in-Ok-clause-exact
returns-in-Ok-clause-exact c = sym (digest-size c.in-Ok.digest c.args.text.now c.in-Ok.ensures.read)

pub returns-in-Ok-clause-small : goal.returns-in-Ok-clause-small
returns-in-Ok-clause-small c = digest-short c.in-Ok.digest c.args.text.now c.in-Ok.ensures.read

pub returns-in-Err-clause-exact : goal.returns-in-Err-clause-exact
returns-in-Err-clause-exact c =
    sym (digest-fails c.args.text.now c.in-Err.field-0 c.in-Err.ensures.not_memory c.in-Err.ensures.read)
