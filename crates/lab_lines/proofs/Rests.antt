-- What a form reads after the line that stops the script.
use Rattle.std.proofs.Common.{◌≡◌, ℕ, ◌+◌, ◌<◌, true, false, List, []}
use Rattle.std.proofs.Common.{◌++◌, length, take, drop, Option, Some, None, Ok, sym, ap, subst, ◌∙◌}
use Rattle.std.proofs.Common.{append_assoc, length-append, arith, ◌⊎◌, inl, inr}
use Rattle.std.specs.Io.KnownBytes.{IsAtEnd, Keeps, prepend_known}
use Rattle.std.proofs.lemmas.Bool.{false≢true, true≢false}
use Rattle.std.proofs.lemmas.List.{append-nil, length-drop, nil_from_length, take_all}
use Rattle.repo_io.specs.Lines.{IsWhole, has_feed}
use Rattle.script_lines.specs.Reading.{IsTooLong, LineIsBegun}
use Rattle.lab_lines.specs.declared.totals.Totals.{Totals}
use Rattle.lab_lines.specs.Carrying.{IsPiece, RestIsPassed, after_feed, through_feed}
use Rattle.lab_text.specs.Limits.{most_octets}
use Rattle.lab_lines.specs.Written.{Known}
use Rattle.lab_lines.proofs.Ends.{known_map}
use Rattle.lab_lines.proofs.LongLines.{free_cut, free_joined, open_cut, whole_cut}
use Rattle.lab_lines.proofs.Runs.{held_parts}

-- ---- a line that is passed to its end

-- the octets `octets` of a line were passed, and none of them is a line feed
pub record Passing (old new : Totals) (entry left before now : List ℕ) : Type 0 where
  pub octets : List ℕ
  pub free : has_feed octets ≡ false
  pub are : entry ++ before ≡ octets ++ (left ++ now)
  pub count : new.octets ≡ old.octets + length octets
  pub lines : new.lines ≡ old.lines

-- a part of a line that goes on has no line feed
pub part_free : (left : List ℕ) (now : Option (List ℕ)) (count : ℕ) → IsPiece left now count false
    → has_feed (take count left) ≡ false
part_free left now count piece = by_kind piece.kind where
  by_kind : (IsWhole (take count left) × (false ≡ true))
      ⊎ ((IsTooLong left × (count ≡ length left) × (false ≡ false))
      ⊎ (LineIsBegun left × (count ≡ length left) × (false ≡ true) × IsAtEnd now)) → has_feed (take count left) ≡ false
  by_kind (inl whole) = absurd (false≢true whole.1)
  by_kind (inr (inl long)) =
      subst (λ (x : List ℕ). has_feed x ≡ false) (sym (take_all count left (omega (arith, long.1)))) long.0.free
  by_kind (inr (inr last)) = absurd (false≢true last.2)

module _ (old t : Totals) (entry left before now : List ℕ) (p : Passing old t entry left before now) where
  pub passing_read : (left' now' : List ℕ) → left' ++ now' ≡ left ++ now → Passing old t entry left' before now'
  passing_read left' now' e = record {
    octets = p.octets;
    free = p.free;
    are = p.are ∙ ap (λ (x : List ℕ). p.octets ++ x) (sym e);
    count = p.count;
    lines = p.lines;
  }

  passed_parts : (count : ℕ) → entry ++ before ≡ (p.octets ++ take count left) ++ (drop count left ++ now)
  passed_parts count = p.are ∙ ap (λ (x : List ℕ). p.octets ++ x) (held_parts left now count)
      ∙ sym (append_assoc p.octets (take count left) (drop count left ++ now))

  module _ (u : Totals) (count : ℕ) (octets : u.octets ≡ t.octets + length (take count left))
      (lines : u.lines ≡ t.lines)
    where
      -- a part without a line feed
      pub passing_part : has_feed (take count left) ≡ false → Passing old u entry (drop count left) before now
      passing_part free = record {
        octets = p.octets ++ take count left;
        free = free_joined p.octets (take count left) p.free free;
        are = passed_parts count;
        count = omega (arith, octets, p.count, length-append p.octets (take count left));
        lines = lines ∙ p.lines;
      }

      passed_so : through_feed (entry ++ before) ≡ p.octets ++ take count left
          → after_feed (entry ++ before) ≡ drop count left ++ now
          → RestIsPassed old u entry (drop count left) (Ok tt) before now
      passed_so through after = record {
        lines = lines ∙ p.lines;
        read = record { octets = p.octets ++ take count left; are = passed_parts count };
        passed = λ ok. inl (
          omega (arith, octets, p.count, ap length through, length-append p.octets (take count left)),
          sym after,
        );
      }

      -- the end of the line is passed
      pub passed_whole : IsWhole (take count left) → RestIsPassed old u entry (drop count left) (Ok tt) before now
      passed_whole whole =
          let parts : entry ++ before ≡ p.octets ++ (take count left ++ (drop count left ++ now)) =
          passed_parts count ∙ append_assoc p.octets (take count left) (drop count left ++ now) in
          let outer = free_cut p.octets (take count left ++ (drop count left ++ now)) p.free in
          let inner = whole_cut (take count left) (drop count left ++ now) whole in
          passed_so (ap through_feed parts ∙ outer.0 ∙ ap (λ (x : List ℕ). p.octets ++ x) inner.0)
          (ap after_feed parts ∙ outer.1 ∙ inner.1)

      -- the end of the input
      pub passed_last : has_feed (take count left) ≡ false → drop count left ++ now ≡ []
          → RestIsPassed old u entry (drop count left) (Ok tt) before now
      passed_last free none =
          let parts : entry ++ before ≡ p.octets ++ take count left =
          passed_parts count ∙ ap (λ (x : List ℕ). (p.octets ++ take count left) ++ x) none
          ∙ append-nil (p.octets ++ take count left) in
          let cut = open_cut (p.octets ++ take count left) (free_joined p.octets (take count left) p.free free) in
          passed_so (ap through_feed parts ∙ cut.0) (ap after_feed parts ∙ cut.1 ∙ sym none)

  -- nothing more is within the limits
  pub passed_over : most_octets < t.octets → RestIsPassed old t entry left (Ok tt) before now
  passed_over over = record {
    lines = p.lines;
    read = record { octets = p.octets; are = p.are };
    passed = λ ok.
        let cut = free_cut p.octets (left ++ now) p.free in
        inr (
          over,
          omega (
            arith,
            p.count,
            ap length (ap through_feed p.are ∙ cut.0),
            length-append p.octets (through_feed (left ++ now)),
          ),
        );
  }

-- ---- the same where the input may not be known

module _ (old t : Totals) (entry : List ℕ) where
  pub known_passing : (left left' : List ℕ) (before now now' : Option (List ℕ))
      → Keeps (prepend_known left now) (prepend_known left' now') → Known before now (Passing old t entry left)
      → Known before now' (Passing old t entry left')
  known_passing left left' None now now' k h = tt
  known_passing left left' (Some input) None now' k h = absurd h
  known_passing left left' (Some input) (Some rest) None k h = absurd k
  known_passing left left' (Some input) (Some rest) (Some rest') k h =
      passing_read old t entry left input rest h left' rest' k

  module _ (left : List ℕ) (u : Totals) (count : ℕ) (octets : u.octets ≡ t.octets + length (take count left))
      (lines : u.lines ≡ t.lines) where
    -- the line goes on
    pub known_part : (before now : Option (List ℕ)) → IsPiece left now count false
        → Known before now (Passing old t entry left) → Known before now (Passing old u entry (drop count left))
    known_part before now piece = known_map (Passing old t entry left) (Passing old u entry (drop count left))
        (λ input rest p. passing_part old t entry left input rest p u count octets lines
        (part_free left now count piece))
        before now

    -- the line ends
    pub known_passed : (before now : Option (List ℕ)) → IsPiece left now count true
        → Known before now (Passing old t entry left)
        → Known before now (RestIsPassed old u entry (drop count left) (Ok tt))
    known_passed None now piece h = tt
    known_passed (Some input) None piece h = absurd h
    known_passed (Some input) (Some rest) piece p = by_kind piece.kind where
      by_kind : (IsWhole (take count left) × (true ≡ true))
          ⊎ ((IsTooLong left × (count ≡ length left) × (true ≡ false))
          ⊎ (LineIsBegun left × (count ≡ length left) × (true ≡ true) × IsAtEnd (Some rest)))
          → RestIsPassed old u entry (drop count left) (Ok tt) input rest
      by_kind (inl whole) = passed_whole old t entry left input rest p u count octets lines whole.0
      by_kind (inr (inl long)) = absurd (true≢false long.2)
      by_kind (inr (inr last)) =
          let none : drop count left ++ rest ≡ [] =
          ap (λ (x : List ℕ). x ++ rest) (nil_from_length (drop count left)
          (omega (arith, last.1, length-drop count left))) ∙ last.3 in
          passed_last old t entry left input rest p u count octets lines
          (subst (λ (x : List ℕ). has_feed x ≡ false) (sym (take_all count left (omega (arith, last.1)))) last.0.free)
          none

  pub known_over : (left : List ℕ) (before now : Option (List ℕ)) → most_octets < t.octets
      → Known before now (Passing old t entry left) → Known before now (RestIsPassed old t entry left (Ok tt))
  known_over left before now over = known_map (Passing old t entry left) (RestIsPassed old t entry left (Ok tt))
      (λ input rest p. passed_over old t entry left input rest p over) before now
