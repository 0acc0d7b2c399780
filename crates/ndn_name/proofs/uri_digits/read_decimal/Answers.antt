use Rattle.std.proofs.Common.{◌≡◌, ◌+◌, ◌<◌, ℕ, List, [], ◌∷◌, ◌++◌, length, take, drop, get_or, Option, Some, refl}
use Rattle.std.proofs.Common.{sym, subst, ◌∙◌, add-one, arith}
use Rattle.std.proofs.lemmas.List.{take_more, take_all, take-append-drop, length-take-le}
use Rattle.std.proofs.Math.Seq.{drop-cons}
use Rattle.ndn_name.specs.UriVerdict.{LeavesLanguage}
use Rattle.ndn_name.proofs.Decimals.{SoFar, IsSomeDecimal, longer-some, longer-none, decimal-empty}
use Rattle.ndn_name.proofs.uri_digits.read_decimal.Goals as goal

split_at : (text : List ℕ) (i : ℕ) → i < length text → take i text ++ get_or text i 0 ∷ drop (i + 1) text ≡ text
split_at text i h = rw (add-one, ← drop-cons text i 0 h) (take-append-drop i text)

pub returns-in_default-clause-read : goal.returns-in_default-clause-read
returns-in_default-clause-read c =
    let text = c.args.text.now in
    let i = c.loop-i.i in
    let octet = get_or text i 0 in
    let leaves =
    longer-none c.args.most c.loop-i.number (take i text) octet (drop (i + 1) text) (omega arith) c.loop-i.invariant
    (sym c.with_digit.ensures ∙ c.in_default.is) in
    let P : List ℕ → Type 0 = λ t. LeavesLanguage (IsSomeDecimal c.args.most) t (length (take i text)) in
    let Q : ℕ → Type 0 = λ k. LeavesLanguage (IsSomeDecimal c.args.most) text k in
    (i, refl, subst Q (length-take-le i text (omega arith)) (subst P (split_at text i c.loop-i-test.true) leaves))

pub loop-i-preserved : goal.loop-i-preserved
loop-i-preserved c =
    let text = c.args.text.now in
    let i = c.loop-i.i in
    let octet = get_or text i 0 in
    let P : List ℕ → Type 0 = λ t. SoFar c.args.most (Some c.in-Some.longer) t in
    subst P (sym (take_more text i 0 c.loop-i-test.true))
    (longer-some c.args.most c.loop-i.number (take i text) octet c.in-Some.longer (omega arith) c.requires.digit
    c.loop-i.invariant (sym c.with_digit.ensures ∙ c.in-Some.is))

pub returns-in-None-clause-read : goal.returns-in-None-clause-read
returns-in-None-clause-read c =
    let text = c.args.text.now in
    let P : Option ℕ → Type 0 = λ n. SoFar c.args.most n (take c.loop-i.i text) in
    let read : take c.loop-i.i text ≡ [] = subst P c.in-None.is c.loop-i.invariant in (
      0,
      omega arith,
      decimal-empty c.args.most text (omega arith) (sym (take_all c.loop-i.i text c.loop-i-test.false) ∙ read),
    )
