use Rattle.std.proofs.Common.{ℕ, List, map, sym, subst, arith}
use Rattle.std.specs.Prelude.{codes}
use Rattle.ndn_name.specs.UriReading.{BeginsWithAnother, BreaksOff, uri_part}
use Rattle.ndn_name.proofs.PathTexts.{scheme-reads, scheme-fails, plain-reads}
use Rattle.ndn_name.proofs.uri_read.read_uri.Goals as goal

-- nothing of the scheme
not_begun : (text : List ℕ) → BreaksOff (codes "ndn:") text 0 → BeginsWithAnother 110 text
not_begun text b = let P : List ℕ → Type 0 = λ t. BeginsWithAnother 110 t in subst P (sym b.1) b.3

pub returns-in-Ok : goal.returns-in-Ok
returns-in-Ok c =
    scheme-reads (λ v. map uri_part v.items) c.in-Ok.path.now c.args.text.now c.read_rooted.result c.in-Ok.ensures
    c.read_rooted.ensures

pub returns-in-Err-eq0 : goal.returns-in-Err-eq0
returns-in-Err-eq0 c =
    let P : ℕ → Type 0 = λ n. BreaksOff (codes "ndn:") c.args.text.now n in
    plain-reads (λ v. map uri_part v.items) c.args.text.now c.read_rooted-in-Err-eq0.result
    (not_begun c.args.text.now (subst P c.in-Err-eq0.field-0-test c.in-Err-eq0.ensures))
    c.read_rooted-in-Err-eq0.ensures

pub returns-in-Err : goal.returns-in-Err
returns-in-Err c =
    (c.in-Err.place, omega arith, scheme-fails c.args.text.now c.in-Err.place (omega arith) c.in-Err.ensures)
