-- The notes after the line that stops the script.
use Rattle.std.proofs.Common.{◌≡◌, ◌≢◌, ℕ, ◌+◌, ◌<◌, Bool, true, false, leb, ltb, List, [], ◌∷◌, ◌++◌}
use Rattle.std.proofs.Common.{length, take, drop, Option, Some, None, Result, Ok, Err, refl, sym, ap, subst, ◌∙◌}
use Rattle.std.proofs.Common.{append_assoc, arith, ◌⊎◌, inl, inr}
use Rattle.std.specs.Prelude.{◌&&◌, if◌then◌else◌}
use Rattle.std.specs.Io.KnownBytes.{IsAtEnd, Keeps, prepend_known}
use Rattle.std.proofs.lemmas.Bool.{and_left, and_parts, and_right, both_ways, cases_Bool, false≢true, lt-leb}
use Rattle.std.proofs.lemmas.List.{append-nil, length-drop, nil_from_length, take_all}
use Rattle.repo_io.specs.declared.failed.Failed.{Failed}
use Rattle.repo_io.specs.Lines.{IsWhole, has_feed, lines}
use Rattle.repo_io.proofs.LineLaws.{open_line, whole_first}
use Rattle.repo_io.proofs.Outputs.{nothing_gained}
use Rattle.script_lang.specs.Lines.{ends_with}
use Rattle.script_lines.specs.Reading.{IsTooLong, LineIsBegun}
use Rattle.script_story.specs.declared.ending.Ending.{Ending}
use Rattle.lab_text.specs.declared.status.LabStatus.{LabStatus}
use Rattle.lab_text.specs.declared.status.LabStatus.TheVariants.{ReadFault}
use Rattle.lab_text.specs.LineTexts.{without_feed}
use Rattle.lab_text.specs.Notes.{after_spaces, is_note}
use Rattle.lab_lines.specs.declared.totals.Totals.{Totals}
use Rattle.lab_lines.specs.Carrying.{Ends, EndsAfter, HasRead, IsPiece, IsSettled, IsUnread, NotesAreRead, RestIsPassed}
use Rattle.lab_lines.specs.Carrying.{RestIsRead, after_feed, after_stop_at, through_feed}
use Rattle.lab_text.specs.Limits.{most_octets}
use Rattle.lab_lines.specs.Folding.{FormOf, after_notes, fits}
use Rattle.lab_lines.specs.Written.{Known}
use Rattle.lab_lines.proofs.Ends.{ends_so_far, known_map, unread_no_end}
use Rattle.lab_lines.proofs.LongLines.{first_of, long_beyond, long_some}
use Rattle.lab_lines.proofs.Runs.{held_parts}

module _ {M : Type 0} (f : FormOf M) where
  -- ---- one line

  note_taken : (l o : ℕ) (n : M) (line : List ℕ) (others : List (List ℕ)) → (fits l o line && is_note line) ≡ true
      → after_notes f l o n (line ∷ others) ≡ after_notes f (l + 1) (o + length line) (f.note n line) others
  unfolding after_notes
  note_taken l o n line others taken = rw taken refl

  note_left : (l o : ℕ) (n : M) (line : List ℕ) (others : List (List ℕ)) → (fits l o line && is_note line) ≡ false
      → after_notes f l o n (line ∷ others) ≡ n
  unfolding after_notes
  note_left l o n line others left = rw left refl

  no_notes : (l o : ℕ) (n : M) → after_notes f l o n [] ≡ n
  unfolding after_notes
  no_notes l o n = refl

  -- nothing is within the limits
  over_notes : (l o : ℕ) (n : M) (ls : List (List ℕ)) → most_octets < o → after_notes f l o n ls ≡ n
  over_notes l o n [] over = no_notes l o n
  over_notes l o n (line ∷ others) over =
      let test : leb (o + length line) 300000000 ≡ false = lt-leb (o + length line) 300000000 (omega (arith, over)) in
      let short = leb (length (without_feed line)) 32768 in
      note_left l o n line others (and_left (fits l o line) (is_note line)
      (and_right (ltb l 1000000) (leb (o + length line) 300000000 && short)
      (and_left (leb (o + length line) 300000000) short test)))

empty_no_note : is_note [] ≡ false
unfolding after_spaces
empty_no_note = refl

lines_none : lines [] ≡ []
unfolding lines
lines_none = refl

-- ---- notes that were taken

pub record NotesSoFar {M : Type 0} (f : FormOf M) (old t : Totals) (m n : M) (entry left before now : List ℕ)
    : Type 0 where
  pub read : HasRead (entry ++ before) (left ++ now)
  pub goes : after_notes f old.lines old.octets m (lines (entry ++ before))
      ≡ after_notes f t.lines t.octets n (lines (left ++ now))

module _ {M : Type 0} (f : FormOf M) (old : Totals) (m : M) (entry : List ℕ) where
  pub no_notes_yet : (before : Option (List ℕ)) → Known before before (NotesSoFar f old old m m entry entry)
  no_notes_yet None = tt
  no_notes_yet (Some input) = record { read = record { octets = []; are = refl }; goes = refl }

  module _ (t : Totals) (n : M) where
    pub notes_kept : (left left' : List ℕ) (before now now' : Option (List ℕ))
        → Keeps (prepend_known left now) (prepend_known left' now')
        → Known before now (NotesSoFar f old t m n entry left)
        → Known before now' (NotesSoFar f old t m n entry left')
    notes_kept left left' None now now' k h = tt
    notes_kept left left' (Some input) None now' k h = absurd h
    notes_kept left left' (Some input) (Some rest) None k h = absurd k
    notes_kept left left' (Some input) (Some rest) (Some rest') k h =
        let P : List ℕ → Type 0 = λ x. HasRead (entry ++ input) x in
        record {
          read = subst P (sym k) h.read;
          goes = h.goes ∙ ap (λ (x : List ℕ). after_notes f t.lines t.octets n (lines x)) (sym k);
        }

    module _ (left rest : List ℕ) (count : ℕ) (ended : Bool) where
      at_end : count ≡ length left → rest ≡ [] → left ++ rest ≡ take count left
      at_end all none = ap (λ (x : List ℕ). left ++ x) none ∙ append-nil left
          ∙ sym (take_all count left (omega (arith, all)))

      none_after : count ≡ length left → rest ≡ [] → drop count left ++ rest ≡ []
      none_after all none = ap (λ (x : List ℕ). drop count left ++ x) none ∙ append-nil (drop count left)
          ∙ nil_from_length (drop count left) (omega (arith, all, length-drop count left))

      long_part : IsTooLong left → count ≡ length left → IsTooLong (take count left)
      long_part long all = subst IsTooLong (sym (take_all count left (omega (arith, all)))) long

      part_beyond : IsTooLong left → count ≡ length left → fits t.lines t.octets (take count left) ≡ false
      part_beyond long all =
          let test = long_beyond (take count left) (long_part long all) t.lines t.octets [] in
          subst (λ (x : List ℕ). fits t.lines t.octets x ≡ false) (append-nil (take count left)) test

      -- a note is taken
      note_step : IsPiece left (Some rest) count ended
          → (fits t.lines t.octets (take count left) && is_note (take count left)) ≡ true
          → after_notes f t.lines t.octets n (lines (left ++ rest))
          ≡ after_notes f (t.lines + 1) (t.octets + length (take count left)) (f.note n (take count left))
          (lines (drop count left ++ rest))
      note_step piece taken = by_kind piece.kind where
        parts : (fits t.lines t.octets (take count left) ≡ true) × (is_note (take count left) ≡ true)
        parts = and_parts (fits t.lines t.octets (take count left)) (is_note (take count left)) taken

        some : take count left ≢ []
        some e = both_ways (is_note []) empty_no_note (subst (λ (x : List ℕ). is_note x ≡ true) e parts.1)

        by_kind : (IsWhole (take count left) × (ended ≡ true))
            ⊎ ((IsTooLong left × (count ≡ length left) × (ended ≡ false))
            ⊎ (LineIsBegun left × (count ≡ length left) × (ended ≡ true) × IsAtEnd (Some rest)))
            → after_notes f t.lines t.octets n (lines (left ++ rest))
            ≡ after_notes f (t.lines + 1) (t.octets + length (take count left)) (f.note n (take count left))
            (lines (drop count left ++ rest))
        by_kind (inl whole) =
            let go : List ℕ → M = λ x. after_notes f t.lines t.octets n (lines x) in
            ap go (held_parts left rest count)
            ∙ ap (λ (ls : List (List ℕ)). after_notes f t.lines t.octets n ls)
            (whole_first (take count left) (drop count left ++ rest) whole.0)
            ∙ note_taken f t.lines t.octets n (take count left) (lines (drop count left ++ rest)) taken
        by_kind (inr (inl long)) =
            absurd (both_ways (fits t.lines t.octets (take count left)) (part_beyond long.0 long.1) parts.0)
        by_kind (inr (inr last)) =
            let free : has_feed (take count left) ≡ false = subst (λ (x : List ℕ). has_feed x ≡ false)
            (sym (take_all count left (omega (arith, last.1)))) last.0.free in
            let go : List ℕ → M = λ x. after_notes f t.lines t.octets n (lines x) in
            ap go (at_end last.1 last.3)
            ∙ ap (λ (ls : List (List ℕ)). after_notes f t.lines t.octets n ls) (open_line (take count left) some free)
            ∙ note_taken f t.lines t.octets n (take count left) [] taken
            ∙ ap (λ (ls : List (List ℕ)). after_notes f (t.lines + 1) (t.octets + length (take count left))
            (f.note n (take count left)) ls) (sym (ap lines (none_after last.1 last.3) ∙ lines_none))

      -- what follows is no note within the limits
      note_stop : IsPiece left (Some rest) count ended
          → (fits t.lines t.octets (take count left) && is_note (take count left)) ≡ false
          → after_notes f t.lines t.octets n (lines (left ++ rest)) ≡ n
      note_stop piece other = by_kind piece.kind where
        by_last : (x : List ℕ) → take count left ≡ x → has_feed (take count left) ≡ false
            → after_notes f t.lines t.octets n (lines (take count left)) ≡ n
        by_last [] e free =
            let go : List ℕ → M = λ x. after_notes f t.lines t.octets n (lines x) in
            ap go e ∙ ap (λ (ls : List (List ℕ)). after_notes f t.lines t.octets n ls) lines_none
            ∙ no_notes f t.lines t.octets n
        by_last (octet ∷ octets) e free =
            ap (λ (ls : List (List ℕ)). after_notes f t.lines t.octets n ls)
            (open_line (take count left) (λ none. let h : octet ∷ octets ≡ [] = sym e ∙ none in cc) free)
            ∙ note_left f t.lines t.octets n (take count left) [] other

        by_kind : (IsWhole (take count left) × (ended ≡ true))
            ⊎ ((IsTooLong left × (count ≡ length left) × (ended ≡ false))
            ⊎ (LineIsBegun left × (count ≡ length left) × (ended ≡ true) × IsAtEnd (Some rest)))
            → after_notes f t.lines t.octets n (lines (left ++ rest)) ≡ n
        by_kind (inl whole) =
            let go : List ℕ → M = λ x. after_notes f t.lines t.octets n (lines x) in
            ap go (held_parts left rest count)
            ∙ ap (λ (ls : List (List ℕ)). after_notes f t.lines t.octets n ls)
            (whole_first (take count left) (drop count left ++ rest) whole.0)
            ∙ note_left f t.lines t.octets n (take count left) (lines (drop count left ++ rest)) other
        by_kind (inr (inl long)) =
            let tail = through_feed rest in
            ap (λ (ls : List (List ℕ)). after_notes f t.lines t.octets n ls)
            (first_of left rest (long_some left long.0) long.0.free)
            ∙ note_left f t.lines t.octets n (left ++ tail) (lines (after_feed rest))
            (and_left (fits t.lines t.octets (left ++ tail)) (is_note (left ++ tail))
            (long_beyond left long.0 t.lines t.octets tail))
        by_kind (inr (inr last)) =
            let free : has_feed (take count left) ≡ false = subst (λ (x : List ℕ). has_feed x ≡ false)
            (sym (take_all count left (omega (arith, last.1)))) last.0.free in
            let go : List ℕ → M = λ x. after_notes f t.lines t.octets n (lines x) in
            ap go (at_end last.1 last.3) ∙ by_last (take count left) refl free

    module _ (left : List ℕ) (count : ℕ) (ended : Bool) where
      pub known_note : (u : Totals) (n' : M) (before now : Option (List ℕ)) → IsPiece left now count ended
          → (fits t.lines t.octets (take count left) && is_note (take count left)) ≡ true → u.lines ≡ t.lines + 1
          → u.octets ≡ t.octets + length (take count left) → n' ≡ f.note n (take count left)
          → Known before now (NotesSoFar f old t m n entry left)
          → Known before now (NotesSoFar f old u m n' entry (drop count left))
      known_note u n' None now piece taken lines octets kept h = tt
      known_note u n' (Some input) None piece taken lines octets kept h = absurd h
      known_note u n' (Some input) (Some rest) piece taken by_lines by_octets kept h =
          let go : ℕ → ℕ → M → M = λ l o x. after_notes f l o x (lines (drop count left ++ rest)) in
          let from_lines : ℕ → M = λ l. go l (t.octets + length (take count left)) (f.note n (take count left)) in
          let from_octets : ℕ → M = λ o. go u.lines o (f.note n (take count left)) in
          let from_form : M → M = λ x. go u.lines u.octets x in
          record {
            read = record {
              octets = h.read.octets ++ take count left;
              are = h.read.are ∙ ap (λ (x : List ℕ). h.read.octets ++ x) (held_parts left rest count)
                  ∙ sym (append_assoc h.read.octets (take count left) (drop count left ++ rest));
            };
            goes = h.goes ∙ note_step left rest count ended piece taken ∙ ap from_lines (sym by_lines)
                ∙ ap from_octets (sym by_octets) ∙ ap from_form (sym kept);
          }

      pub known_notes : (before now : Option (List ℕ)) → IsPiece left now count ended
          → (fits t.lines t.octets (take count left) && is_note (take count left)) ≡ false
          → Known before now (NotesSoFar f old t m n entry left)
          → Known before now (NotesAreRead f old m n entry (Ok tt))
      known_notes None now piece other h = tt
      known_notes (Some input) None piece other h = absurd h
      known_notes (Some input) (Some rest) piece other h = record {
        read = record {
          octets = h.read.octets ++ left;
          are = h.read.are ∙ sym (append_assoc h.read.octets left rest);
        };
        notes = λ ok. sym (h.goes ∙ note_stop left rest count ended piece other);
      }

    pub known_unread : (left : List ℕ) (status : LabStatus) (n' : M) (before now : Option (List ℕ))
        → Known before now (NotesSoFar f old t m n entry left)
        → Known before now (NotesAreRead f old m n' entry (Err status))
    known_unread left status n' before now = known_map (NotesSoFar f old t m n entry left)
        (NotesAreRead f old m n' entry (Err status))
        (λ input rest h. record {
          read = record {
            octets = h.read.octets ++ left;
            are = h.read.are ∙ sym (append_assoc h.read.octets left rest);
          };
          notes = λ ok. absurd (false≢true ok);
        }) before now

-- ---- after the line

module _ {M : Type 0} (f : FormOf M) (totals : Totals) (m n : M) (entry : List ℕ) (result : Result (Unit {0}) LabStatus)
  where
    pub read_whole : (before now : Option (List ℕ)) → Known before now (NotesAreRead f totals m n entry result)
        → Known before now (RestIsRead f true totals m n entry result)
    read_whole before now = known_map (NotesAreRead f totals m n entry result)
        (RestIsRead f true totals m n entry result)
        (λ input rest h. record { read = h.read; notes = h.notes }) before now

    rest_read : (u : Totals) (left input mid rest : List ℕ) → RestIsPassed totals u entry left (Ok tt) input mid
        → NotesAreRead f u m n left result mid rest → RestIsRead f false totals m n entry result input rest
    rest_read u left input mid rest p h = record {
      read = record {
        octets = p.read.octets ++ h.read.octets;
        are = p.read.are ∙ ap (λ (x : List ℕ). p.read.octets ++ x) h.read.are
            ∙ sym (append_assoc p.read.octets h.read.octets rest);
      };
      notes = λ ok. h.notes ok ∙ elim (p.passed refl) [
        | inl at ↦
            let from_lines : ℕ → M = λ l. after_notes f l u.octets m (lines (left ++ mid)) in
            let from_octets : ℕ → M = λ o. after_notes f totals.lines o m (lines (left ++ mid)) in
            let from_rest : List ℕ → M = λ x.
            after_notes f totals.lines (totals.octets + length (through_feed (entry ++ input))) m (lines x) in
            ap from_lines p.lines ∙ ap from_octets at.0 ∙ ap from_rest at.1
        | inr over ↦ over_notes f u.lines u.octets m (lines (left ++ mid)) over.0
            ∙ sym (over_notes f totals.lines (totals.octets + length (through_feed (entry ++ input))) m
            (lines (after_feed (entry ++ input))) (omega (arith, over.0, over.1)))
      ];
    }

    pub read_rest : (u : Totals) (left : List ℕ) (before mid now : Option (List ℕ))
        → Known before mid (RestIsPassed totals u entry left (Ok tt)) → Known mid now (NotesAreRead f u m n left result)
        → Known before now (RestIsRead f false totals m n entry result)
    read_rest u left None mid now p h = tt
    read_rest u left (Some input) None now p h = absurd p
    read_rest u left (Some input) (Some x) None p h = absurd h
    read_rest u left (Some input) (Some x) (Some rest) p h = rest_read u left input x rest p h

pub rest_unread : {M : Type 0} (f : FormOf M) (totals u : Totals) (m : M) (entry left : List ℕ) (e : Failed)
    (before now : Option (List ℕ)) → Known before now (RestIsPassed totals u entry left (Err e))
    → Known before now (RestIsRead f false totals m m entry (Err ReadFault))
rest_unread f totals u m entry left e before now = known_map (RestIsPassed totals u entry left (Err e))
    (RestIsRead f false totals m m entry (Err ReadFault))
    (λ input rest p. record {
      read = record {
        octets = p.read.octets ++ left;
        are = p.read.are ∙ sym (append_assoc p.read.octets left rest);
      };
      notes = λ ok. absurd (false≢true ok);
    }) before now

module _ {M : Type 0} (f : FormOf M) (ending : Ending) (totals : Totals) (m : M) (line held : List ℕ)
    (a b : Option (List ℕ)) where
  off_is : f.reads_on ≡ false → (more : List ℕ) → after_stop_at f totals.lines totals.octets m line more ≡ m
  off_is off more = elim (cases_Bool (ends_with 10 line)) [
    | inl ended ↦ rw (ended, off) refl
    | inr open_ ↦ rw (open_, off) refl
  ]

  on_is : f.reads_on ≡ true → (ended : Bool) → ended ≡ ends_with 10 line → (more : List ℕ) → (
      if ended then after_notes f totals.lines totals.octets m (lines more)
      else after_notes f totals.lines (totals.octets + length (through_feed more)) m (lines (after_feed more)))
      ≡ after_stop_at f totals.lines totals.octets m line more
  on_is on true same more = rw (sym same, on) refl
  on_is on false same more = rw (sym same, on) refl

  no_fault : (status : LabStatus) → IsSettled status → status ≡ ReadFault → ⊥
  no_fault status settled e = subst IsSettled e settled

  pub after_off : (status : LabStatus) → f.reads_on ≡ false → IsSettled status → Ends (f.end m ending) a b status
      → (before : Option (List ℕ))
      → Known before before (EndsAfter f ending totals.lines totals.octets m line held a b status)
  after_off status off settled ends None = tt
  after_off status off settled ends (Some input) = record {
    ends = subst (λ (x : M). Ends (f.end x ending) a b status) (sym (off_is off (held ++ input))) ends;
    unread = λ e. absurd (no_fault status settled e);
    read = record { octets = held; are = refl };
    unread_rest = λ e. refl;
  }

  pub after_on : (status : LabStatus) (ended : Bool) (n : M) → f.reads_on ≡ true → ended ≡ ends_with 10 line
      → IsSettled status → Ends (f.end n ending) a b status → (before now : Option (List ℕ))
      → Known before now (RestIsRead f ended totals m n held (Ok tt))
      → Known before now (EndsAfter f ending totals.lines totals.octets m line held a b status)
  after_on status ended n on same settled ends before now = known_map (RestIsRead f ended totals m n held (Ok tt))
      (EndsAfter f ending totals.lines totals.octets m line held a b status)
      (λ input rest h.
      let kept : n ≡ after_stop_at f totals.lines totals.octets m line (held ++ input) =
      h.notes refl ∙ on_is on ended same (held ++ input) in
      record {
        ends = subst (λ (x : M). Ends (f.end x ending) a b status) kept ends;
        unread = λ e. absurd (no_fault status settled e);
        read = h.read;
        unread_rest = λ off. absurd (both_ways f.reads_on off on);
      }) before now

pub after_unread : {M : Type 0} (f : FormOf M) (ending : Ending) (totals : Totals) (m n : M) (line held : List ℕ)
    (a : Option (List ℕ)) (status : LabStatus) (ended : Bool) → f.reads_on ≡ true → IsUnread status
    → (before now : Option (List ℕ)) → Known before now (RestIsRead f ended totals m n held (Err status))
    → Known before now (EndsAfter f ending totals.lines totals.octets m line held a a status)
after_unread f ending totals m n line held a status ended on unread before now =
    known_map (RestIsRead f ended totals m n held (Err status))
    (EndsAfter f ending totals.lines totals.octets m line held a a status)
    (λ input rest h.
    let whole = f.end (after_stop_at f totals.lines totals.octets m line (held ++ input)) ending in
    record {
      ends = ends_so_far whole a a [] whole.text status refl (unread_no_end status unread)
          (λ e. subst IsUnread e unread) (nothing_gained a);
      unread = λ e. nothing_gained a;
      read = h.read;
      unread_rest = λ off. absurd (both_ways f.reads_on off on);
    }) before now
