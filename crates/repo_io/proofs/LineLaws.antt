-- Lines: joined they are the input, and there is one way to cut it.
use Rattle.std.proofs.Common.{◌≡◌, ◌≢◌, ℕ, ◌≤◌, Bool, true, false, cond, eqb, List, [], ◌∷◌, ◌++◌, length, Some, None}
use Rattle.std.proofs.Common.{position, refl, sym, ap, ◌∙◌, arith, append_assoc, inl, inr}
use Rattle.std.specs.List.{concat, position_or_len}
use Rattle.std.proofs.lemmas.Bool.{ltb-false, or_parts, or_from}
use Rattle.std.proofs.lemmas.Bool.Decides.{eqb_tells}
use Rattle.std.proofs.lemmas.List.{append-nil}
use Rattle.repo_io.specs.Lines.{AreLines, IsOpen, IsWhole, has_feed, octet_before, lines}

-- ---- joined

joined_before : (b : ℕ) (ends : Bool) (others : List (List ℕ))
    → concat (octet_before b ends others) ≡ b ∷ concat others
joined_before b true others = refl
joined_before b false [] = refl
joined_before b false (line ∷ others) = refl

pub lines_joined : (input : List ℕ) → concat (lines input) ≡ input
unfolding lines
lines_joined [] = refl
lines_joined (b ∷ bs) = joined_before b (eqb b 10) (lines bs) ∙ ap (λ (t : List ℕ). b ∷ t) (lines_joined bs)

-- ---- each is a line

free_more : (b : ℕ) (octets : List ℕ) → b ≢ 10 → has_feed octets ≡ false → has_feed (b ∷ octets) ≡ false
free_more b octets other free = or_from (eqb b 10) (has_feed octets)
    (elim (eqb_tells b 10) [ inl same ↦ absurd (other same.1) | inr else ↦ else.0 ]) free

whole_more : (b : ℕ) (line : List ℕ) → b ≢ 10 → IsWhole line → IsWhole (b ∷ line)
whole_more b line other w = record {
  prefix = b ∷ w.prefix;
  free = free_more b w.prefix other w.free;
  is = ap (λ (t : List ℕ). b ∷ t) w.is;
}

open_more : (b : ℕ) (line : List ℕ) → b ≢ 10 → has_feed line ≡ false → IsOpen (b ∷ line)
open_more b line other free = record { some = λ e. cc; free = free_more b line other free }

lines_before : (b : ℕ) (ends : Bool) (others : List (List ℕ)) → (ends ≡ true → b ≡ 10) → (ends ≡ false → b ≢ 10)
    → AreLines others → AreLines (octet_before b ends others)
lines_before b true others feed other are = after others are where
  first : IsWhole (b ∷ [])
  first = record { prefix = []; free = refl; is = ap (λ (t : ℕ). t ∷ []) (feed refl) }

  after : (more : List (List ℕ)) → AreLines more → AreLines ((b ∷ []) ∷ more)
  after [] a = inl first
  after (line ∷ more) a = (first, a)
lines_before b false [] feed other are = inr (open_more b [] (other refl) refl)
lines_before b false (line ∷ []) feed other (inl w) = inl (whole_more b line (other refl) w)
lines_before b false (line ∷ []) feed other (inr o) = inr (open_more b line (other refl) o.free)
lines_before b false (line ∷ next ∷ others) feed other are = (whole_more b line (other refl) are.0, are.1)

pub lines_are_lines : (input : List ℕ) → AreLines (lines input)
unfolding lines
lines_are_lines [] = tt
lines_are_lines (b ∷ bs) =
    elim (eqb_tells b 10) [
      | inl same ↦ lines_before b (eqb b 10) (lines bs) (λ _. same.1) (λ e. absurd cc) (lines_are_lines bs)
      | inr else ↦ lines_before b (eqb b 10) (lines bs) (λ e. absurd cc) (λ _. else.1) (lines_are_lines bs)
    ]

-- ---- the first line

-- octets before a line feed, and it, are a line
pub first_line : (prefix more : List ℕ) → has_feed prefix ≡ false
    → lines (prefix ++ 10 ∷ more) ≡ (prefix ++ 10 ∷ []) ∷ lines more
unfolding lines
first_line [] more free = refl
first_line (b ∷ bs) more free =
    let parts = or_parts (eqb b 10) (has_feed bs) free in
    rw (parts.0, first_line bs more parts.1) refl

-- lines of which the first has this prefix
pub record Begins (prefix : List ℕ) (ls : List (List ℕ)) : Type 0 where
  pub rest : List ℕ
  pub others : List (List ℕ)
  pub is : ls ≡ (prefix ++ rest) ∷ others

begins_one : (b : ℕ) (ls : List (List ℕ)) → eqb b 10 ≡ false → Begins (b ∷ []) (octet_before b (eqb b 10) ls)
begins_one b [] test = record { rest = []; others = []; is = rw test refl }
begins_one b (line ∷ others) test = record { rest = line; others = others; is = rw test refl }

begins_more : (b : ℕ) (prefix : List ℕ) (ls : List (List ℕ)) → eqb b 10 ≡ false → Begins prefix ls
    → Begins (b ∷ prefix) (octet_before b (eqb b 10) ls)
begins_more b prefix ls test f = record { rest = f.rest; others = f.others; is = rw (test, f.is) refl }

-- octets without a line feed are at the start of the first line, whatever follows
pub long_line : (prefix more : List ℕ) → prefix ≢ [] → has_feed prefix ≡ false → Begins prefix (lines (prefix ++ more))
unfolding lines
long_line [] more some free = absurd (some refl)
long_line (b ∷ []) more some free = begins_one b (lines more) (or_parts (eqb b 10) false free).0
long_line (b ∷ d ∷ bs) more some free =
    let parts = or_parts (eqb b 10) (has_feed (d ∷ bs)) free in
    begins_more b (d ∷ bs) (lines (d ∷ bs ++ more)) parts.0 (long_line (d ∷ bs) more (λ e. cc) parts.1)

-- octets without a line feed are one line, or none
pub open_line : (octets : List ℕ) → octets ≢ [] → has_feed octets ≡ false → lines octets ≡ octets ∷ []
unfolding lines
open_line [] some free = absurd (some refl)
open_line (b ∷ []) some free = let parts = or_parts (eqb b 10) false free in rw parts.0 refl
open_line (b ∷ d ∷ bs) some free =
    let parts = or_parts (eqb b 10) (has_feed (d ∷ bs)) free in
    rw (parts.0, open_line (d ∷ bs) (λ e. cc) parts.1) refl

pub whole_first : (line more : List ℕ) → IsWhole line → lines (line ++ more) ≡ line ∷ lines more
whole_first line more w =
    ap lines (ap (λ (t : List ℕ). t ++ more) w.is ∙ append_assoc w.prefix (10 ∷ []) more)
    ∙ first_line w.prefix more w.free ∙ ap (λ (t : List ℕ). t ∷ lines more) (sym w.is)

-- ---- one way to cut

pub only_lines : (cut : List (List ℕ)) → AreLines cut → lines (concat cut) ≡ cut
unfolding lines
only_lines [] are = refl
only_lines (line ∷ []) (inl w) = whole_first line [] w
only_lines (line ∷ []) (inr o) = ap lines (append-nil line) ∙ open_line line o.some o.free
only_lines (line ∷ next ∷ others) are =
    whole_first line (concat (next ∷ others)) are.0 ∙ ap (λ (t : List (List ℕ)). line ∷ t)
    (only_lines (next ∷ others) are.1)

-- ---- no line feed

pub no_feed_before : (octets : List ℕ) → length octets ≤ position_or_len (λ octet. eqb octet 10) octets
    → has_feed octets ≡ false
no_feed_before [] le = refl
no_feed_before (b ∷ bs) le = elim (eqb_tells b 10) [
  | inl same ↦ let none = rw same.0 at le in absurd (omega (arith, none))
  | inr other ↦ let more = rw other.0 at le in or_from (eqb b 10) (has_feed bs) other.0
      (no_feed_before bs (omega (arith, more)))
]

pub no_feed_found : (octets : List ℕ) → position (λ octet. eqb octet 10) octets ≡ None → has_feed octets ≡ false
no_feed_found octets e = no_feed_before octets (ltb-false _ _ (by_test _ _ e)) where
  by_test : (test : Bool) (at : ℕ) → cond test (Some at) None ≡ None → test ≡ false
  by_test true at e = absurd cc
  by_test false at e = refl
