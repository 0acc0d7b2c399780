-- The first line of an input, and the outcome of the lines after it.
use Rattle.std.proofs.Common.{◌≡◌, ◌≢◌, ◌∙◌, ℕ, zero, suc, ◌+◌, ◌<◌, true, false, eqb, List, []}
use Rattle.std.proofs.Common.{◌∷◌, length, take, drop}
use Rattle.std.proofs.Common.{get_or, Some, None, position, refl, sym, arith}
use Rattle.std.proofs.lemmas.List.{drop_all, take_all}
use Rattle.std.proofs.lemmas.List.Quantifiers.{position-Some}
use Rattle.repo_io.specs.Lines.{lines}
use Rattle.repo_io.proofs.LineLaws.{no_feed_found, open_line}
use Rattle.live_script.specs.declared.error.LineError.{LineError}
use Rattle.live_script.specs.declared.error.LineError.TheVariants as error
use Rattle.live_script.specs.LineErrors.{IsLineError}
use Rattle.live_top.specs.Inputs.{Stops, halt_at}
use Rattle.live_script.specs.Evaluation.{Reached, evaluated, takes}
use Rattle.live_top.specs.Outcomes.{Outcome, Taken, outcome_from}

-- ---- the first line

first_feed : (octets : List ℕ) (at : ℕ) → at < length octets → eqb (get_or octets at 0) 10 ≡ true
    → ((k : ℕ) → k < at → eqb (get_or octets k 0) 10 ≡ false)
    → lines octets ≡ take (suc at) octets ∷ lines (drop (suc at) octets)
unfolding lines
first_feed [] at there feed none = absurd (omega arith)
first_feed (b ∷ bs) zero there feed none = rw feed refl
first_feed (b ∷ bs) (suc at) there feed none =
    let other : eqb b 10 ≡ false = none 0 (omega arith) in
    let after = first_feed bs at (omega (arith, there)) feed (λ k lt. none (suc k) (omega (arith, lt))) in
    rw (other, after) refl

pub line_found : (octets : List ℕ) (at : ℕ) → Some at ≡ position (λ octet. eqb octet 10) octets
    → lines octets ≡ take (at + 1) octets ∷ lines (drop (at + 1) octets)
line_found octets at is =
    let facts = position-Some (λ octet. eqb octet 10) octets at 0 (sym is) in
    let one : at + 1 ≡ suc at = omega arith in
    rw one (first_feed octets at facts.0 facts.1 facts.2)

pub last_line : (octets : List ℕ) → octets ≢ [] → None ≡ position (λ octet. eqb octet 10) octets
    → lines octets ≡ octets ∷ lines []
unfolding lines
last_line octets some is = open_line octets some (no_feed_found octets (sym is))

pub whole_line : (octets prefix back : List ℕ) → prefix ≡ take (length octets) octets → back
    ≡ drop (length octets) octets
    → lines octets ≡ octets ∷ lines [] → lines octets ≡ prefix ∷ lines back
whole_line octets prefix back f b is =
    let all : prefix ≡ octets = f ∙ take_all (length octets) octets (omega arith) in
    let none : back ≡ [] = b ∙ drop_all (length octets) octets (omega arith) in
    rw (all, none) is

-- ---- the outcome of lines

pub taken_on : (o : Outcome) (r next : Reached) (octets line after : List ℕ) → o ≡ outcome_from r (lines octets)
    → lines octets ≡ line ∷ lines after → evaluated r line ≡ takes next → o ≡ outcome_from next (lines after)
unfolding outcome_from
taken_on o r next octets line after so_far cut is = so_far ∙ rw (cut, is) refl

pub stops_at : (o : Outcome) (r : Reached) (octets line after : List ℕ) (s : LineError)
    → o ≡ outcome_from r (lines octets) → lines octets ≡ line ∷ lines after → IsLineError (evaluated r line) s
    → Stops o (halt_at (r.lines + 1) s)
unfolding outcome_from
stops_at o r octets line after (error.Refused why) so_far cut is = so_far ∙ rw (cut, is) refl
stops_at o r octets line after error.NoMemory so_far cut is = tt

pub all_taken : (o : Outcome) (r : Reached) (octets : List ℕ) → o ≡ outcome_from r (lines octets) → octets ≡ []
    → o ≡ Taken r
unfolding outcome_from lines
all_taken o r octets so_far none = so_far ∙ rw none refl
