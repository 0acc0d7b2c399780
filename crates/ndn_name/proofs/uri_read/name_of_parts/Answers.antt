use Rattle.std.proofs.Common.{◌≡◌, suc, ◌+◌, ◌<◌, ◌≤◌, ℕ, List, [], ◌∷◌, ◌++◌, length, length-append, map, drop, get_or}
use Rattle.std.proofs.Common.{add-one, Result, Err, sym, ap, subst, ◌∙◌, append_assoc, arith}
use Rattle.std.specs.List.{AllByRecursion}
use Rattle.std.proofs.Math.Seq.{drop-cons}
use Rattle.std.proofs.lemmas.List.{append-nil, drop_all}
use Rattle.std.proofs.lemmas.Result.{err_from_is_err_and}
use Rattle.ndn_name.specs.declared.name_fault.NameFault.{NameFault}
use Rattle.ndn_name.specs.declared.name_fault.NameFault.TheVariants.{NameTooLong}
use Rattle.ndn_name.specs.declared.uri_form.UriPart.{UriPart}
use Rattle.ndn_name.specs.Names.{Component, encoding}
use Rattle.ndn_name.specs.Uri.{name_of_parts}
use Rattle.ndn_name.specs.UriReading.{MayBeAppended, uri_part}
use Rattle.ndn_name.proofs.Encodings.{encoding-nil, encoding-append}
use Rattle.ndn_name.proofs.Limits.{in_limit}
use Rattle.ndn_name.proofs.uri_read.name_of_parts.Goals as goal

abbrev failed : NameFault → Result (Unit {0}) NameFault
failed f = Err f

abbrev names : List UriPart → List Component
names parts = name_of_parts (map uri_part parts)

-- the part at an index, and those after it
at_index : (parts : List UriPart) (i : ℕ) (d : UriPart) → i < length parts → d ≡ get_or parts i d
    → names (drop i parts) ≡ (uri_part d).1 ∷ names (drop (i + 1) parts)
at_index parts i d lt is =
    rw (add-one)
    (ap names (drop-cons parts i d lt) ∙ ap (λ (x : UriPart). (uri_part x).1 ∷ names (drop (suc i) parts)) (sym is))

longer : (prefix : List Component) (c : Component) (rest whole : List Component) → prefix ++ c ∷ rest ≡ whole
    → length (encoding (prefix ++ c ∷ [])) ≤ length (encoding whole)
longer prefix c rest whole e =
    let split : whole ≡ (prefix ++ c ∷ []) ++ rest = sym e ∙ sym (append_assoc prefix (c ∷ []) rest) in
    omega (
      arith,
      ap length (ap encoding split ∙ encoding-append (prefix ++ c ∷ []) rest),
      length-append (encoding (prefix ++ c ∷ [])) (encoding rest),
    )

pub loop-part-init : goal.loop-part-init
loop-part-init c = record {
  so_far = ap (λ (n : List Component). n ++ names c.args.parts.now) c.new-name.ensures;
  sound = c.requires;
  fits = omega (arith, ap length (ap encoding c.new-name.ensures ∙ encoding-nil));
}

pub push_part-requires : goal.push_part-requires
push_part-requires c =
    let P : List Component → Type 0 = λ n. AllByRecursion MayBeAppended n in
    (subst P (at_index c.args.parts.now c.loop-part.part-index c.part-item.result c.loop-part-test.true c.part-item.is)
    c.loop-part.invariant.sound).0

pub returns-in_err-push_part-clause-too_long : goal.returns-in_err-push_part-clause-too_long
returns-in_err-push_part-clause-too_long c =
    let p = err_from_is_err_and c.from_residual.result c.from_residual.ensures.1 in
    let parts = c.args.parts.now in
    let i = c.loop-part.part-index in
    let one = (uri_part c.part-item.result).1 in
    let whole =
    ap (λ (n : List Component). c.loop-part.name ++ n)
    (sym (at_index parts i c.part-item.result c.loop-part-test.true c.part-item.is))
    ∙ c.loop-part.invariant.so_far in
    rw (p.1, p.2) (λ e.
    let f : c.in_err-push_part.field-0.0 ≡ NameTooLong = cc in
    let long = c.in_err-push_part.ensures.too_long.0 (ap failed f) in
    omega (arith, long, longer c.loop-part.name one (names (drop (i + 1) parts)) (names parts) whole))

pub loop-part-preserved : goal.loop-part-preserved
loop-part-preserved c =
    let parts = c.args.parts.now in
    let i = c.loop-part.part-index in
    let one = (uri_part c.part-item.result).1 in
    let here = at_index parts i c.part-item.result c.loop-part-test.true c.part-item.is in
    let P : List Component → Type 0 = λ n. AllByRecursion MayBeAppended n in
    let Q : List Component → Type 0 = λ n. length (encoding n) ≤ 1000 in
    record {
      so_far =
          ap (λ (n : List Component). n ++ names (drop (i + 1) parts)) c.in_ok-push_part.ensures.ok
          ∙ append_assoc c.loop-part.name (one ∷ []) (names (drop (i + 1) parts))
          ∙ ap (λ (n : List Component). c.loop-part.name ++ n) (sym here)
          ∙ c.loop-part.invariant.so_far;
      sound = (subst P here c.loop-part.invariant.sound).1;
      fits =
          subst Q (sym c.in_ok-push_part.ensures.ok)
          (in_limit (length (encoding (c.loop-part.name ++ one ∷ []))) c.in_ok-push_part.ensures.too_long);
    }

at_end : (parts : List UriPart) (i : ℕ) (name : List Component) → length parts ≤ i
    → name ++ names (drop i parts) ≡ names parts → name ≡ names parts
at_end parts i name le e =
    sym (append-nil name) ∙ ap (λ (x : List UriPart). name ++ names x) (sym (drop_all i parts le)) ∙ e

pub returns-clause-ok : goal.returns-clause-ok
returns-clause-ok c =
    at_end c.args.parts.now c.loop-part.part-index c.loop-part.name c.loop-part-test.false c.loop-part.invariant.so_far

pub returns-clause-fits : goal.returns-clause-fits
returns-clause-fits c =
    let P : List Component → Type 0 = λ n. length (encoding n) ≤ 1000 in
    subst P (at_end c.args.parts.now c.loop-part.part-index c.loop-part.name c.loop-part-test.false
    c.loop-part.invariant.so_far) c.loop-part.invariant.fits
