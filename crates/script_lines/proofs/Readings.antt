-- What a reader holds: parts of its room, and the line at the start.
use Rattle.std.proofs.Common.{◌≡◌, ◌⊎◌, ℕ, zero, suc, ◌+◌, ◌-◌, ◌<◌, ◌≤◌, true, false, ◌||◌, eqb, ltb, List, []}
use Rattle.std.proofs.Common.{◌∷◌, ◌++◌, length, take, drop, slice_range, get_or, Option, Some, None, Result, Ok, Err}
use Rattle.std.proofs.Common.{IfOk, refl, sym, ap, ◌∙◌, append_assoc, arith, inl, inr, position}
use Rattle.std.specs.Io.KnownBytes.{Consumes, Keeps, prepend_known}
use Rattle.std.proofs.lemmas.Bool.{or_from, or_parts, or_right, true≢false, eqb-true, ltb-true, ltb-false, cases_Bool}
use Rattle.std.specs.Bool.{then_some}
use Rattle.std.specs.Option.{MatchOption}
use Rattle.std.proofs.lemmas.List.{take_more, take-append-drop, drop-take, length-drop, length-take}
use Rattle.std.proofs.lemmas.List.Folds.{list_any-append}
use Rattle.std.proofs.lemmas.List.Quantifiers.{position-Some}
use Rattle.std.proofs.Math.Seq.{take-add, take-append-add, drop-drop}
use Rattle.repo_io.specs.Lines.{IsWhole, has_feed}
use Rattle.repo_io.proofs.LineLaws.{no_feed_found}
use Rattle.script_lines.specs.Reading.{HasLine, IsTooLong, LineIsBegun}

-- ---- octets that are read

-- what was consumed stands after what was held
keeps_read : (a b : Option (List ℕ)) (prefix read : List ℕ) → Consumes a b read
    → Keeps (prepend_known prefix a) (prepend_known (prefix ++ read) b)
keeps_read None b prefix read p = tt
keeps_read (Some x) None prefix read p = absurd p
keeps_read (Some x) (Some y) prefix read p = append_assoc prefix read y ∙ ap (λ (t : List ℕ). prefix ++ t) (sym p)

pub kept_after : {E : Type 0} (a b : Option (List ℕ)) (h : ℕ) (room prefix new : List ℕ) (r : Result ℕ E)
    → length prefix ≡ h → take h room ≡ prefix
    → IfOk r (λ n. Consumes a b (take n new)) → IfOk r (λ n.
    Keeps (prepend_known (take h room) a) (prepend_known (take (h + n) (prefix ++ new)) b))
kept_after a b h room prefix new (Err e) len is p = tt
kept_after a b h room prefix new (Ok n) len is p =
    let taken : take (h + n) (prefix ++ new) ≡ prefix ++ take n new = rw (← len) (take-append-add prefix new n) in
    rw (is, taken) (keeps_read a b prefix (take n new) p)

-- ---- the line at the front

none_before : (xs : List ℕ) (i : ℕ) → ((k : ℕ) → k < i → eqb (get_or xs k 0) 10 ≡ false) → has_feed (take i xs) ≡ false
none_before xs zero none = refl
none_before [] (suc i) none = refl
none_before (b ∷ bs) (suc i) none = or_from (eqb b 10) (has_feed (take i bs)) (none 0 (omega arith))
    (none_before bs i (λ k lt. none (suc k) (omega (arith, lt))))

pub found : (octets : List ℕ) (at : ℕ) → position (λ octet. eqb octet 10) octets ≡ Some at
    → IsWhole (take (at + 1) octets)
found octets at e =
    let facts = position-Some (λ octet. eqb octet 10) octets at 0 e in
    let feed : get_or octets at 0 ≡ 10 = eqb-true (get_or octets at 0) 10 facts.1 in
    record {
      prefix = take at octets;
      free = none_before octets at facts.2;
      is = take_more octets at 0 facts.0 ∙ ap (λ (t : ℕ). take at octets ++ t ∷ []) feed;
    }

-- octets without a line feed and a line after them are one line
pub whole_after : (prefix line : List ℕ) → has_feed prefix ≡ false → IsWhole line → IsWhole (prefix ++ line)
whole_after prefix line free w = record {
  prefix = prefix ++ w.prefix;
  free = list_any-append (λ octet. eqb octet 10) prefix w.prefix
      ∙ or_from (has_feed prefix) (has_feed w.prefix) free w.free;
  is = ap (λ (t : List ℕ). prefix ++ t) w.is ∙ sym (append_assoc prefix w.prefix (10 ∷ []));
}

module _ (held : List ℕ) (searched : ℕ) (within : searched ≤ length held) (free : has_feed (take searched held) ≡ false)
  where
    pub line_found : (at : ℕ) → at < length (drop searched held)
        → position (λ octet. eqb octet 10) (drop searched held) ≡ Some at → HasLine (searched + at + 1) held
    line_found at lt e =
        let count : searched + at + 1 ≡ searched + (at + 1) = omega arith in
        record {
          within = omega (arith, lt, length-drop searched held);
          line = inl (rw (count, take-add searched (at + 1) held)
              (whole_after (take searched held) (take (at + 1) (drop searched held)) free
              (found (drop searched held) at e)));
        }

    pub all_free : position (λ octet. eqb octet 10) (drop searched held) ≡ None → has_feed held ≡ false
    all_free e = ap has_feed (sym (take-append-drop searched held))
        ∙ list_any-append (λ octet. eqb octet 10) (take searched held) (drop searched held)
        ∙ or_from (has_feed (take searched held)) (has_feed (drop searched held)) free
        (no_feed_found (drop searched held) e)

too_long : (held : List ℕ) → has_feed held ≡ false → 32768 < length held → HasLine (length held) held
too_long held free long = record {
  within = omega arith;
  line = inr (record { free = free; long = long }, refl);
}

-- without a line feed octets are too long for a line, or none yet
pub no_line : (held : List ℕ) → has_feed held ≡ false → MatchOption (then_some (ltb 32768 (length held)) (length held))
    (LineIsBegun held) (λ count. HasLine count held)
no_line held free = elim (cases_Bool (ltb 32768 (length held))) [
  | inl long ↦ rw long (too_long held free (ltb-true 32768 (length held) long))
  | inr short ↦ rw short (record { free = free; short = ltb-false 32768 (length held) short })
]

-- octets that begin a line have none at their start
pub no_line_begun : (count : ℕ) (held : List ℕ) → HasLine count held → LineIsBegun held → ⊥
no_line_begun count held has begun = go has.line where
  parts : (has_feed (take count held) || has_feed (drop count held)) ≡ false
  parts =
      sym (list_any-append (λ octet. eqb octet 10) (take count held) (drop count held))
      ∙ ap has_feed (take-append-drop count held)
      ∙ begun.free

  go : IsWhole (take count held) ⊎ (IsTooLong held × (count ≡ length held)) → ⊥
  go (inl whole) =
      let feed : has_feed (take count held) ≡ true =
      ap has_feed whole.is
      ∙ list_any-append (λ octet. eqb octet 10) whole.prefix (10 ∷ [])
      ∙ or_right (has_feed whole.prefix) true refl in
      true≢false (sym feed ∙ (or_parts (has_feed (take count held)) (has_feed (drop count held)) parts).0)
  go (inr long) = omega (arith, long.0.long, begun.short)

-- ---- parts of the room

-- a part without its first elements
pub part_after : (room : List ℕ) (start end count : ℕ) → count ≤ length (slice_range room start end)
    → take (end - (start + count)) (drop (start + count) room) ≡ drop count (take (end - start) (drop start room))
part_after room start end count le =
    let short : count ≤ end - start = omega (arith, le, length-take (end - start) (drop start room)) in
    let size : count + (end - (start + count)) ≡ end - start = omega (arith, short) in
    let parts : drop count (take (count + (end - (start + count))) (drop start room))
    ≡ take (end - (start + count)) (drop count (drop start room)) =
    drop-take count (end - (start + count)) (drop start room) in
    let places : drop count (drop start room) ≡ drop (start + count) room = drop-drop count start room in
    rw (← size) (rw (← places) (sym parts))
