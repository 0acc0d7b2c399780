-- Lines of which the first octets alone are known.
use Rattle.std.proofs.Common.{◌≡◌, ◌≢◌, ℕ, ◌+◌, ◌-◌, ◌≤◌, true, false, not, eqb, leb, ltb, List, [], ◌∷◌}
use Rattle.std.proofs.Common.{◌++◌, ◌&&◌}
use Rattle.std.proofs.Common.{length, take, get_or, refl, sym, ap, ◌∙◌, append_assoc}
use Rattle.std.proofs.Common.{length-append, arith}
use Rattle.std.proofs.Common.{inl, inr}
use Rattle.std.proofs.lemmas.Bool.{and_from, and_right, both_ways, cases_Bool, eqb-true, lt-leb, lt-ltb, ne_eqb}
use Rattle.std.proofs.lemmas.Bool.{or_left, or_parts, or_right}
use Rattle.std.proofs.lemmas.List.{append-nil, take-append-le}
use Rattle.std.proofs.lemmas.List.Folds.{list_any-append, list_any_at}
use Rattle.std.proofs.Math.Seq.{get_or-append_seam, take-append-add}
use Rattle.script_lang.specs.Lines.{ends_with}
use Rattle.repo_io.specs.Lines.{IsWhole, has_feed, lines}
use Rattle.repo_io.proofs.LineLaws.{first_line, open_line}
use Rattle.script_lines.specs.Reading.{IsTooLong}
use Rattle.lab_text.specs.LineTexts.{without_feed}
use Rattle.lab_text.specs.Transcripts.{shown_text}
use Rattle.lab_lines.specs.Carrying.{after_feed, through_feed}
use Rattle.lab_lines.specs.Folding.{fits}
use Rattle.lab_lines.specs.Written.{can_be_evaluated}

-- ---- up to a line feed

one_free : (octet : ℕ) → eqb octet 10 ≡ false → has_feed (octet ∷ []) ≡ false
one_free octet other = rw other refl

pub free_joined : (prefix more : List ℕ) → has_feed prefix ≡ false → has_feed more ≡ false
    → has_feed (prefix ++ more) ≡ false
free_joined prefix more free others =
    list_any-append (λ octet. eqb octet 10) prefix more ∙ rw (free, others) refl

-- the first line begins with octets that have no line feed, and goes on up to the next one
pub first_of : (prefix more : List ℕ) → prefix ≢ [] → has_feed prefix ≡ false
    → lines (prefix ++ more) ≡ (prefix ++ through_feed more) ∷ lines (after_feed more)
unfolding lines through_feed after_feed
first_of prefix [] some free =
    let all : prefix ++ [] ≡ prefix = append-nil prefix in
    rw all (open_line prefix some free)
first_of prefix (octet ∷ octets) some free = elim (cases_Bool (eqb octet 10)) [
  | inl feed ↦
      let is : octet ≡ 10 = eqb-true octet 10 feed in
      rw (feed, is) (first_line prefix octets free)
  | inr other ↦
      let more : prefix ++ (octet ∷ []) ≢ [] = λ e. let none = ap length e in
      omega (arith, none, length-append prefix (octet ∷ [])) in
      let so_far = first_of (prefix ++ octet ∷ []) octets more
      (free_joined prefix (octet ∷ []) free (one_free octet other)) in
      rw other (ap lines (sym (append_assoc prefix (octet ∷ []) octets)) ∙ so_far
      ∙ ap (λ (t : List ℕ). t ∷ lines (after_feed octets)) (append_assoc prefix (octet ∷ []) (through_feed octets)))
]

-- octets and what follows their first line feed
pub feed_parts : (octets : List ℕ) → octets ≡ through_feed octets ++ after_feed octets
unfolding through_feed after_feed
feed_parts [] = refl
feed_parts (octet ∷ octets) = elim (cases_Bool (eqb octet 10)) [
  | inl feed ↦ rw feed refl
  | inr other ↦ rw other (ap (λ (t : List ℕ). octet ∷ t) (feed_parts octets))
]

-- octets without a line feed are passed first
pub free_cut : (prefix more : List ℕ) → has_feed prefix ≡ false
    → (through_feed (prefix ++ more) ≡ prefix ++ through_feed more) × (after_feed (prefix ++ more) ≡ after_feed more)
unfolding through_feed after_feed
free_cut [] more free = (refl, refl)
free_cut (octet ∷ octets) more free =
    let parts = or_parts (eqb octet 10) (has_feed octets) free in
    let rest = free_cut octets more parts.1 in
    (rw parts.0 (ap (λ (t : List ℕ). octet ∷ t) rest.0), rw parts.0 rest.1)

-- a line with its line feed is passed whole
pub whole_cut : (line more : List ℕ) → IsWhole line
    → (through_feed (line ++ more) ≡ line) × (after_feed (line ++ more) ≡ more)
unfolding through_feed after_feed
whole_cut line more w =
    let parts : line ++ more ≡ w.prefix ++ 10 ∷ more =
    ap (λ (t : List ℕ). t ++ more) w.is ∙ append_assoc w.prefix (10 ∷ []) more in
    let cut = free_cut w.prefix (10 ∷ more) w.free in
    (ap through_feed parts ∙ cut.0 ∙ sym w.is, ap after_feed parts ∙ cut.1)

-- octets without a line feed are passed to their end
pub open_cut : (octets : List ℕ) → has_feed octets ≡ false
    → (through_feed octets ≡ octets) × (after_feed octets ≡ [])
unfolding through_feed after_feed
open_cut octets free =
    let all = sym (append-nil octets) in
    let cut = free_cut octets [] free in
    (ap through_feed all ∙ cut.0 ∙ append-nil octets, ap after_feed all ∙ cut.1)

-- ---- without the line feed

-- octets without a line feed don't end with one
pub not_ended : (octets : List ℕ) → has_feed octets ≡ false → ends_with 10 octets ≡ false
not_ended [] free = refl
not_ended (b ∷ bs) free = elim (cases_Bool (eqb (get_or (b ∷ bs) (length (b ∷ bs) - 1) 0) 10)) [
  | inr other ↦ and_right (not (eqb (length (b ∷ bs)) 0)) (eqb (get_or (b ∷ bs) (length (b ∷ bs) - 1) 0) 10) other
  | inl feed ↦ absurd (both_ways (has_feed (b ∷ bs)) free
      (list_any_at (λ octet. eqb octet 10) (b ∷ bs) (length (b ∷ bs) - 1) 0 (omega arith) feed))
]

-- the octets without their line feed begin with `prefix`
pub record WithoutFeed (prefix more : List ℕ) : Type 0 where
  pub rest : List ℕ
  pub is : without_feed (prefix ++ more) ≡ prefix ++ rest

pub feed_taken : (prefix more : List ℕ) → has_feed prefix ≡ false → WithoutFeed prefix more
feed_taken prefix [] free = record {
  rest = [];
  is =
      let all : prefix ++ [] ≡ prefix = append-nil prefix in
      rw (all, not_ended prefix free) refl;
}
feed_taken prefix (b ∷ bs) free = elim (cases_Bool (ends_with 10 (prefix ++ b ∷ bs))) [
  | inl ended ↦ record {
    rest = take (length (b ∷ bs) - 1) (b ∷ bs);
    is =
        let size : length (prefix ++ b ∷ bs) - 1 ≡ length prefix + (length (b ∷ bs) - 1) =
        omega (arith, length-append prefix (b ∷ bs)) in
        rw ended (ap (λ (n : ℕ). take n (prefix ++ b ∷ bs)) size
        ∙ take-append-add prefix (b ∷ bs) (length (b ∷ bs) - 1));
  }
  | inr open_ ↦ record { rest = b ∷ bs; is = rw open_ refl }
]

-- ---- a line that is too long

module _ (prefix : List ℕ) (long : IsTooLong prefix) where
  pub long_some : prefix ≢ []
  long_some e = let none = ap length e in omega (arith, none, long.long)

  -- a line that is too long is beyond the limits, whatever follows
  pub long_beyond : (passed octets : ℕ) (more : List ℕ) → fits passed octets (prefix ++ more) ≡ false
  long_beyond passed octets more =
      let t = feed_taken prefix more long.free in
      let test : leb (length (without_feed (prefix ++ more))) 32768 ≡ false =
      lt-leb (length (without_feed (prefix ++ more))) 32768
      (omega (arith, ap length t.is, length-append prefix t.rest, long.long)) in
      let small = leb (octets + length (prefix ++ more)) 300000000 in
      let short = leb (length (without_feed (prefix ++ more))) 32768 in
      and_right (ltb passed 1000000) (small && short) (and_right small short test)

  -- a line that is too long is shown alike, whatever follows
  pub long_shown : (more : List ℕ) → shown_text (prefix ++ more) ≡ shown_text prefix
  long_shown more =
      let t = feed_taken prefix more long.free in
      let size : 32769 ≤ length prefix = omega (arith, long.long) in
      ap (take 32769) t.is ∙ take-append-le 32769 prefix t.rest size
      ∙ sym (ap (take 32769) (rw (not_ended prefix long.free) refl))

  -- a line that is too long can be evaluated, whatever follows
  pub long_judged : (more : List ℕ) → can_be_evaluated (prefix ++ more) ≡ true
  long_judged more = or_right (has_feed (prefix ++ more)) (ltb 32768 (length (prefix ++ more)))
      (lt-ltb 32768 (length (prefix ++ more)) (omega (arith, length-append prefix more, long.long)))

pub whole_judged : (line : List ℕ) → IsWhole line → can_be_evaluated line ≡ true
whole_judged line w = or_left (has_feed line) (ltb 32768 (length line))
    (ap has_feed w.is ∙ list_any-append (λ octet. eqb octet 10) w.prefix (10 ∷ [])
    ∙ or_right (has_feed w.prefix) true refl)

-- a whole line ends with its line feed
pub whole_ended : (line : List ℕ) → IsWhole line → ends_with 10 line ≡ true
whole_ended line w = rw w.is (ended w.prefix) where
  ended : (prefix : List ℕ) → ends_with 10 (prefix ++ 10 ∷ []) ≡ true
  ended prefix =
      let at : length (prefix ++ 10 ∷ []) - 1 ≡ length prefix = omega (arith, length-append prefix (10 ∷ [])) in
      let last : get_or (prefix ++ 10 ∷ []) (length (prefix ++ 10 ∷ []) - 1) 0 ≡ 10 =
      ap (λ (i : ℕ). get_or (prefix ++ 10 ∷ []) i 0) at ∙ get_or-append_seam prefix 10 [] 0 in
      let some : eqb (length (prefix ++ 10 ∷ [])) 0 ≡ false =
      ne_eqb (length (prefix ++ 10 ∷ [])) 0 (λ e. omega (arith, e, length-append prefix (10 ∷ []))) in
      and_from (not (eqb (length (prefix ++ 10 ∷ [])) 0))
      (eqb (get_or (prefix ++ 10 ∷ []) (length (prefix ++ 10 ∷ []) - 1) 0) 10)
      (ap not some) (ap (λ (b : ℕ). eqb b 10) last)
