-- What stays in front when something is appended, whole or in part.
use Rattle.std.proofs.Common.{◌≡◌, ℕ, ◌≤◌, List, ◌++◌, length, length-append, take, sym, ap, ◌∙◌, arith}
use Rattle.std.proofs.lemmas.List.{length-take, take-append-le, take-take}
use Rattle.std.proofs.Math.Seq.{take-append_seam}

pub prefix-kept : (old text mid new : List ℕ) → mid ≡ old ++ text → take (length mid) new ≡ mid
    → take (length old) new ≡ old
prefix-kept old text mid new e h =
    let within : length old ≤ length mid = omega (arith, ap length e, length-append old text) in
    sym (take-take (length old) (length mid) new within) ∙ ap (take (length old)) h ∙ ap (take (length old)) e
    ∙ take-append_seam old text

pub prefix-longer : (old mid new : List ℕ) → take (length old) mid ≡ old → take (length mid) new ≡ mid
    → take (length old) new ≡ old
prefix-longer old mid new e h =
    let within : length old ≤ length mid = omega (arith, ap length e, length-take (length old) mid) in
    sym (take-take (length old) (length mid) new within) ∙ ap (take (length old)) h ∙ e

pub prefix-more : (old mid new text : List ℕ) → take (length old) mid ≡ old → new ≡ mid ++ text
    → take (length old) new ≡ old
prefix-more old mid new text e h =
    let within : length old ≤ length mid = omega (arith, ap length e, length-take (length old) mid) in
    ap (take (length old)) h ∙ take-append-le (length old) mid text within ∙ e
