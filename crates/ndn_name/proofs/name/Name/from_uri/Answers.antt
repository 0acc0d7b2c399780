use Rattle.std.proofs.Common.{◌≡◌, ℕ, List, map, None, Result, Err, sym, ap, subst, ◌∙◌, arith}
use Rattle.std.specs.List.{AllByRecursion}
use Rattle.std.proofs.lemmas.Grind.{common_steps}
use Rattle.std.proofs.lemmas.Result.{err_from_is_err_and}
use Rattle.ndn_name.specs.declared.name.Name.{Name}
use Rattle.ndn_name.specs.declared.name_fault.NameFault.{NameFault}
use Rattle.ndn_name.specs.declared.name_fault.NameFault.TheVariants.{BadDigestLength, NoMemory}
use Rattle.ndn_name.specs.declared.uri_form.UriPart.{UriPart}
use Rattle.ndn_name.specs.Uri.{IsUri, name_of_parts}
use Rattle.ndn_name.specs.UriVerdict.{IsUriVerdict, first_bad_digest}
use Rattle.ndn_name.specs.UriReading.{FailsIn, MayBeAppended, uri_part}
use Rattle.ndn_name.proofs.PlainTexts.{plain-answered}
use Rattle.ndn_name.proofs.Verdicts.{answer-fails, uri-sound}
use Rattle.ndn_name.proofs.name.Name.from_uri.Goals as goal

abbrev failed : NameFault → Result Name NameFault
failed f = Err f

pub returns-in_err-parts : goal.returns-in_err-parts
returns-in_err-parts c =
    let p = err_from_is_err_and c.from_residual.result c.from_residual.ensures.1 in
    let P : List ℕ → Type 0 = λ t. FailsIn IsUri 0 t c.in_err-parts.field-0.0 in
    let fault = c.in_err-parts.field-0.0 in
    let text = c.args.text.now in
    let read = subst P c.as_bytes.ensures.value c.in_err-parts.ensures in
    let answer : (failed fault ≡ failed NoMemory → ⊥) → IsUriVerdict text (Err fault) =
    λ other. answer-fails text fault (λ e. other (ap failed e)) read in
    rw (p.1, p.2) (record { answer = answer; plain = plain-answered text (Err fault) answer })

pub name_of_parts-requires : goal.name_of_parts-requires
name_of_parts-requires c =
    let parts = c.in_ok-parts.parts.items in
    let none : first_bad_digest (map uri_part parts) ≡ None =
    ap (λ (ps : List UriPart). first_bad_digest (map uri_part ps)) (sym c.deref.ensures.value)
    ∙ sym c.first_bad_digest.ensures
    ∙ c.in_default.is in
    let P : List UriPart → Type 0 = λ ps. AllByRecursion MayBeAppended (name_of_parts (map uri_part ps)) in
    subst P (sym c.deref-2.ensures.value)
    (uri-sound (map uri_part parts) c.as_bytes.result.now c.in_ok-parts.ensures none)

pub returns-in-Some-clause-plain : goal.returns-in-Some-clause-plain
returns-in-Some-clause-plain c =
    let text = c.args.text.now in
    let fault = BadDigestLength c.in-Some.at in
    let answer : (failed fault ≡ failed NoMemory → ⊥) → IsUriVerdict text (Err fault) = grind (arith, common_steps) in
    plain-answered text (Err fault) answer

pub returns-clause-plain : goal.returns-clause-plain
returns-clause-plain c =
    let text = c.args.text.now in
    let result = c.name_of_parts.result in
    let answer : (result ≡ failed NoMemory → ⊥) → IsUriVerdict text result = grind (arith, common_steps) in
    plain-answered text result answer
