use Rattle.std.proofs.Common.{◌≡◌, ℕ, ◌+◌, ◌-◌, ◌<◌, List, [], ◌∷◌, ◌++◌, length, length-append, Err, sym, ap, subst}
use Rattle.std.proofs.Common.{◌∙◌, append_assoc, arith, rules}
use Rattle.std.proofs.lemmas.Result.{err_from_is_err_and}
use Rattle.ndn_name.specs.declared.name_fault.NameFault.{NameFault}
use Rattle.ndn_name.specs.Uri.{IsEscaped}
use Rattle.ndn_name.specs.UriReading.{octet_at, FailsIn}
use Rattle.ndn_name.proofs.Escapes.{FailsAt, IsEscapedText, octet-leaves, octet-takes, escaped-append, escaped-one}
use Rattle.ndn_name.proofs.Escapes.{escaped-leaves}
use Rattle.ndn_name.proofs.uri_value.unescape.Goals as goal

octet_fault : (at : ℕ) (rest : List ℕ) (f : NameFault) → 0 < length rest → octet_at at rest ≡ Err f
    → FailsAt IsEscapedText at rest f
octet_fault at [] f some e = absurd (omega arith)
octet_fault at (c ∷ rest) f some e = octet-leaves at c rest f e

fails : (at : ℕ) (a prefix rest text : List ℕ) (f : NameFault) → IsEscaped a prefix → prefix ++ rest ≡ text
    → 0 < length rest → octet_at (at + (length text - length rest)) rest ≡ Err f → FailsIn IsEscaped at text f
fails at a prefix rest text f read split some e =
    let p = octet_fault (at + (length text - length rest)) rest f some e in
    let there : at + (length text - length rest) + p.place ≡ at + (length prefix + p.place) =
    omega (arith, ap length split, length-append prefix rest) in
    let P : NameFault → Type 0 = λ x. FailsIn IsEscaped at text x in
    subst P p.fault (length prefix + p.place, there, escaped-leaves a prefix rest text p.place read split p.leaves)

pub returns-in_err-octet : goal.returns-in_err-octet
returns-in_err-octet c =
    let q = err_from_is_err_and c.from_residual.result c.from_residual.ensures.1 in
    let inv = c.loop-rest.invariant in
    rw (q.1, q.2)
    (fails c.args.at c.loop-rest.octets.items inv.prefix c.loop-rest.rest.now c.args.text.now c.in_err-octet.field-0.0
    inv.read inv.split (search rules) c.in_err-octet.ensures)

pub loop-rest-smaller : goal.loop-rest-smaller
loop-rest-smaller c =
    let t = octet-takes _ c.loop-rest.rest.now (c.in_ok-octet.octet, c.in_ok-octet.following.now)
    c.in_ok-octet.ensures in
    omega (arith, t.some, ap length t.split, length-append t.first c.in_ok-octet.following.now)

pub loop-rest-preserved : goal.loop-rest-preserved
loop-rest-preserved c =
    let inv = c.loop-rest.invariant in
    let following = c.in_ok-octet.following.now in
    let t = octet-takes _ c.loop-rest.rest.now (c.in_ok-octet.octet, following) c.in_ok-octet.ensures in
    let P : List ℕ → Type 0 = λ v. IsEscaped v (inv.prefix ++ t.first) in
    record {
      prefix = inv.prefix ++ t.first;
      split = append_assoc inv.prefix t.first following ∙ ap (λ (x : List ℕ). inv.prefix ++ x) (sym t.split)
          ∙ inv.split;
      read =
          subst P (sym c.in_ok-push.ensures.items)
          (escaped-append c.loop-rest.octets.items (c.in_ok-octet.octet ∷ []) inv.prefix t.first inv.read
          (escaped-one c.in_ok-octet.octet t.first t.is));
    }
