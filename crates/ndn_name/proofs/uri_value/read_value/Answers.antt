use Rattle.std.proofs.Common.{◌≡◌, ◌-◌, ℕ, List, length, take, refl, sym, ap, subst, ◌∙◌, arith}
use Rattle.std.proofs.lemmas.Result.{err_from_is_err_and}
use Rattle.ndn_name.specs.Uri.{IsValueText}
use Rattle.ndn_name.proofs.Values.{value-fails, value-other, value-periods, value-short}
use Rattle.ndn_name.proofs.uri_value.read_value.Goals as goal

pub returns-in_err-value : goal.returns-in_err-value
returns-in_err-value c =
    let p = err_from_is_err_and c.from_residual.result c.from_residual.ensures.1 in
    rw (p.1, p.2) (value-fails c.args.at c.args.text.now c.in_err-value.field-0.0 c.in_err-value.ensures)

pub returns-then-not-are_periods : goal.returns-then-not-are_periods
returns-then-not-are_periods c =
    value-other c.in_ok-value.value.items c.args.text.now c.in_ok-value.ensures (grind (arith))

pub returns-then-len-lt3 : goal.returns-then-len-lt3
returns-then-len-lt3 c = (
  length c.args.text.now,
  refl,
  value-short c.in_ok-value.value.items c.args.text.now c.in_ok-value.ensures (grind arith) (omega arith),
)

pub returns : goal.returns
returns c =
    let octets = c.in_ok-value.value.items in
    let count : c.len-2.result - 3 ≡ length octets - 3 = omega arith in
    let P : List ℕ → Type 0 = λ v. IsValueText v c.args.text.now in
    subst P (sym (c.truncate.ensures.items ∙ ap (λ (n : ℕ). take n octets) count))
    (value-periods octets c.args.text.now c.in_ok-value.ensures (grind arith) (omega arith))
