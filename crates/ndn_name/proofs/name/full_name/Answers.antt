use Rattle.std.proofs.Common.{length, length-append, ap, arith}
use Rattle.std.proofs.lemmas.Result.{err_from_is_err_and}
use Rattle.ndn_tlv.specs.Spelling.{element}
use Rattle.ndn_name.specs.Names.{encoding}
use Rattle.ndn_name.proofs.Encodings.{encoding-push}
use Rattle.ndn_name.proofs.name.full_name.Goals as goal

pub returns-in_err-full-clause-too_long : goal.returns-in_err-full-clause-too_long
returns-in_err-full-clause-too_long c =
    let p = err_from_is_err_and c.from_residual.result c.from_residual.ensures.1 in
    let name = c.args.name.now in
    let digest = c.args.digest.now in
    rw (p.1, p.2) (λ e.
    let long = c.in_err-full.ensures.too_long.0 e in
    omega (
      arith,
      long,
      ap (λ n. length (encoding n)) c.view.ensures,
      ap length (encoding-push name (1, digest)),
      length-append (encoding name) (element 1 digest),
    ))
