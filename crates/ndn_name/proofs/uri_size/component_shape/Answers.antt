use Rattle.std.proofs.Common.{◌≡◌, ℕ, List, ◌∷◌, ◌+◌, ◌*◌, ◌≤◌, Option, Some, None, length, length-append, sym, ap, ◌∙◌}
use Rattle.std.proofs.Common.{arith}
use Rattle.std.specs.Option.{option_map, IfSome}
use Rattle.ndn_tlv.specs.Spelling.{head}
use Rattle.ndn_name.specs.UriReading.{HasNoHead, shape}
use Rattle.ndn_name.specs.UriText.{component_of_text, value_of_text}
use Rattle.ndn_name.proofs.ComputedNames.{headed-text, headless-text}
use Rattle.ndn_name.proofs.SizeLemmas.{head-some, shape-value, small_head-short}
use Rattle.ndn_name.proofs.uri_size.component_shape.Goals as goal

headless : (text : List ℕ) (len : Option ℕ) → HasNoHead text → len ≡ option_map length (value_of_text text)
    → option_map (λ n. (8, n)) len ≡ option_map shape (component_of_text text)
headless text len none e =
    ap (option_map (λ (n : ℕ). (8, n))) e ∙ sym (shape-value 8 (value_of_text text))
    ∙ ap (option_map shape) (sym (headless-text text none))

pub returns-in_err-value_len-in-None-clause-exact : goal.returns-in_err-value_len-in-None-clause-exact
returns-in_err-value_len-in-None-clause-exact c =
    rw c.from_residual.ensures
    (headless c.args.text.now None c.in-None.ensures.none c.in_err-value_len-in-None.ensures.exact)

pub returns-in-Some-clause-exact : goal.returns-in-Some-clause-exact
returns-in-Some-clause-exact c =
    let h = c.in-Some.ensures.some in
    let text = c.args.text.now in
    c.tail_shape.ensures.exact
    ∙ ap (option_map shape) (sym (headed-text c.in-Some.form c.in-Some.field-0-1.now c.in-Some.tail.now text h.0 h.1))

wider : (o : Option (ℕ × ℕ)) (tail text : ℕ) → tail + 2 ≤ text
    → IfSome o (λ x. length (head x.0 x.1) + x.1 ≤ 2 * tail + 6)
    → IfSome o (λ x. length (head x.0 x.1) + x.1 ≤ 2 * text + 2)
wider None tail text le h = h
wider (Some x) tail text le h = omega (arith, h)

pub returns-in-Some-clause-small : goal.returns-in-Some-clause-small
returns-in-Some-clause-small c =
    let h = c.in-Some.ensures.some in
    let word = c.in-Some.field-0-1.now in
    let tail = c.in-Some.tail.now in
    let some = head-some c.in-Some.form word h.0 in
    let room : length tail + 2 ≤ length c.args.text.now =
    omega (arith, some, ap length h.1, length-append word (61 ∷ tail)) in
    wider c.tail_shape.result (length tail) (length c.args.text.now) room c.tail_shape.ensures.small

pub returns-in_ok-value_len-in-None-clause-exact : goal.returns-in_ok-value_len-in-None-clause-exact
returns-in_ok-value_len-in-None-clause-exact c =
    let len = c.in_ok-value_len-in-None.field-0 in
    headless c.args.text.now (Some len) c.in-None.ensures.none c.in_ok-value_len-in-None.ensures.exact

pub returns-in_ok-value_len-in-None-clause-small : goal.returns-in_ok-value_len-in-None-clause-small
returns-in_ok-value_len-in-None-clause-small c =
    let len = c.in_ok-value_len-in-None.field-0 in
    omega (arith, small_head-short 8 len (omega arith), c.in_ok-value_len-in-None.ensures.small)
