use Rattle.std.proofs.Common.{◌≡◌, ◌+◌, ◌-◌, ◌<◌, ℕ, List, [], ◌∷◌, ◌++◌, length, length-append, map, Option, Some}
use Rattle.std.proofs.Common.{None, sym, ap, subst, ◌∙◌, arith}
use Rattle.std.specs.Option.{option_copied, option_map_or}
use Rattle.std.proofs.lemmas.List.{map-append}
use Rattle.std.proofs.lemmas.Result.{err_from_is_err_and}
use Rattle.ndn_name.specs.declared.uri_form.UriPart.{UriPart}
use Rattle.ndn_name.specs.Uri.{Part}
use Rattle.ndn_name.specs.UriReading.{Splits, uri_part, value_octets}
use Rattle.ndn_name.proofs.PathTexts.{PathSoFar, path-step, after_first, component-path_fails}
use Rattle.ndn_name.proofs.uri_read.read_path.Goals as goal

-- how long what is left is
left_size : (prefix text path : List ℕ) → prefix ++ 47 ∷ text ≡ 47 ∷ path → length prefix + length text ≡ length path
left_size prefix text path e = omega (arith, ap length e, length-append prefix (47 ∷ text))

shrinks : (text first : List ℕ) (following : Option (List ℕ)) → Splits 47 text first following
    → option_map_or (λ t. length t + 1) following 0 < length text + 1
shrinks text first None s = omega arith
shrinks text first (Some rest) s = omega (arith, ap length s.0, length-append first (47 ∷ rest))

pub overflow_sub-at : goal.overflow_sub-at
overflow_sub-at c =
    let so_far = rw c.in-Some.is at c.loop-left.invariant in
    omega (arith, left_size so_far.0 c.in-Some.text.now c.args.path.now so_far.2)

pub read_component-requires : goal.read_component-requires
read_component-requires c =
    let so_far = rw c.in-Some.is at c.loop-left.invariant in
    let first = c.split_once.result.0.now in
    let a = after_first c.in-Some.text.now first (option_copied c.split_once.result.1) c.split_once.ensures in
    omega (
      arith,
      c.requires,
      left_size so_far.0 c.in-Some.text.now c.args.path.now so_far.2,
      ap length a.1,
      length-append first a.0,
    )

pub returns-in_err-typ : goal.returns-in_err-typ
returns-in_err-typ c =
    let p = err_from_is_err_and c.from_residual.result c.from_residual.ensures.1 in
    let so_far = rw c.in-Some.is at c.loop-left.invariant in
    let text = c.in-Some.text.now in
    let path = c.args.path.now in
    let first = c.split_once.result.0.now in
    let a = after_first text first (option_copied c.split_once.result.1) c.split_once.ensures in
    let place = c.args.at + 1 + (length path - length text) in
    let here : place ≡ c.args.at + length so_far.0 + 1 = omega (arith, left_size so_far.0 text path so_far.2) in
    let split = ap (λ (t : List ℕ). so_far.0 ++ 47 ∷ t) (sym a.1) ∙ so_far.2 in
    rw (p.1, p.2)
    (component-path_fails c.args.at place (map uri_part c.loop-left.parts.items) so_far.0 first a.0 path
    c.in_err-typ.field-0.0 here so_far.1 split a.3 a.2 c.in_err-typ.ensures)

pub loop-left-smaller : goal.loop-left-smaller
loop-left-smaller c =
    rw c.in-Some.is
    (shrinks c.in-Some.text.now c.split_once.result.0.now (option_copied c.split_once.result.1) c.split_once.ensures)

pub loop-left-preserved : goal.loop-left-preserved
loop-left-preserved c =
    let so_far = rw c.in-Some.is at c.loop-left.invariant in
    let text = c.in-Some.text.now in
    let path = c.args.path.now in
    let first = c.split_once.result.0.now in
    let place = c.args.at + 1 + (length path - length text) in
    let here : place ≡ c.args.at + length so_far.0 + 1 = omega (arith, left_size so_far.0 text path so_far.2) in
    let value = c.in_ok-typ.value in
    let one : UriPart = record { at = place; typ = c.in_ok-typ.typ; value = value } in
    let parts = c.loop-left.parts.items in
    let items : map uri_part c.push.new.self.items ≡ map uri_part parts ++ uri_part one ∷ [] =
    ap (map uri_part) c.in_ok-push.ensures.items ∙ map-append uri_part parts (one ∷ []) in
    let P : List Part → Type 0 = λ ps. PathSoFar c.args.at ps path (option_copied c.split_once.result.1) in
    subst P (sym items)
    (path-step c.args.at (map uri_part parts) path text so_far.0 place (c.in_ok-typ.typ, value_octets value) first
    (option_copied c.split_once.result.1) here so_far.1 so_far.2 c.in_ok-typ.ensures c.split_once.ensures)
