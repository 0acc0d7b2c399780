use Rattle.std.proofs.Common.{ℕ, List, refl, sym, subst}
use Rattle.std.proofs.lemmas.Result.{err_from_is_err_and}
use Rattle.ndn_tlv.specs.NumberField.{number_field}
use Rattle.ndn_name.specs.declared.name_fault.NameFault.{NameFault}
use Rattle.ndn_name.specs.declared.uri_form.Form.{Form}
use Rattle.ndn_name.specs.declared.uri_form.Form.TheVariants.{Digest, Number, Escaped}
use Rattle.ndn_name.specs.Uri.{IsDecimal, IsDigestText, IsValueText}
use Rattle.ndn_name.specs.UriReading.{FailsIn, IsTail}
use Rattle.ndn_name.proofs.LeavesLemmas.{fails-same}
use Rattle.ndn_name.proofs.uri_component.read_tail.Goals as goal

digest : (typ at : ℕ) (tail : List ℕ) (f : NameFault) → FailsIn IsDigestText at tail f
    → FailsIn (IsTail (Digest typ)) at tail f
digest typ at tail f =
    fails-same IsDigestText (IsTail (Digest typ)) at tail f (λ t m. ((typ, m.0), (refl, m.1))) (λ t m. (m.0.1, m.1.1))

number : (typ at : ℕ) (tail : List ℕ) (f : NameFault) → FailsIn (IsDecimal 18446744073709551615) at tail f
    → FailsIn (IsTail (Number typ)) at tail f
number typ at tail f =
    fails-same (IsDecimal 18446744073709551615) (IsTail (Number typ)) at tail f
    (λ t m. ((typ, number_field m.0), (refl, (m.0, refl, m.1)))) (λ t m. (m.1.1.0, m.1.1.2))

value : (typ at : ℕ) (tail : List ℕ) (f : NameFault) → FailsIn IsValueText at tail f
    → FailsIn (IsTail (Escaped typ)) at tail f
value typ at tail f =
    fails-same IsValueText (IsTail (Escaped typ)) at tail f (λ t m. ((typ, m.0), (refl, m.1))) (λ t m. (m.0.1, m.1.1))

pub returns-in_err-digest-in-Digest : goal.returns-in_err-digest-in-Digest
returns-in_err-digest-in-Digest c =
    let p = err_from_is_err_and c.from_residual.result c.from_residual.ensures.1 in
    let f = c.in_err-digest-in-Digest.field-0.0 in
    let P : Form → Type 0 = λ x. FailsIn (IsTail x) c.args.at c.args.tail.now f in
    rw (p.1, p.2)
    (subst P (sym c.in-Digest.is)
    (digest c.in-Digest.typ c.args.at c.args.tail.now f c.in_err-digest-in-Digest.ensures.read))

pub returns-in_err-read_decimal-in-Number : goal.returns-in_err-read_decimal-in-Number
returns-in_err-read_decimal-in-Number c =
    let p =
    err_from_is_err_and c.from_residual-in_err-read_decimal-in-Number.result
    c.from_residual-in_err-read_decimal-in-Number.ensures.1 in
    let f = c.in_err-read_decimal-in-Number.field-0.0 in
    let P : Form → Type 0 = λ x. FailsIn (IsTail x) c.args.at c.args.tail.now f in
    rw (p.1, p.2)
    (subst P (sym c.in-Number.is)
    (number c.in-Number.typ c.args.at c.args.tail.now f c.in_err-read_decimal-in-Number.ensures.read))

pub returns-in_err-read_value-in-Escaped : goal.returns-in_err-read_value-in-Escaped
returns-in_err-read_value-in-Escaped c =
    let p =
    err_from_is_err_and c.from_residual-in_err-read_value-in-Escaped.result
    c.from_residual-in_err-read_value-in-Escaped.ensures.1 in
    let f = c.in_err-read_value-in-Escaped.field-0.0 in
    let P : Form → Type 0 = λ x. FailsIn (IsTail x) c.args.at c.args.tail.now f in
    rw (p.1, p.2)
    (subst P (sym c.in-Escaped.is)
    (value c.in-Escaped.typ c.args.at c.args.tail.now f c.in_err-read_value-in-Escaped.ensures))
