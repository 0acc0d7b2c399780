-- How a script is read line by line.
use Rattle.std.proofs.Common.{◌≡◌, ◌≢◌, ℕ, ◌+◌, ◌-◌, ◌≤◌, Bool, true, false, not, cond, eqb, leb, ltb, ◌&&◌, ◌||◌, List}
use Rattle.std.proofs.Common.{[]}
use Rattle.std.proofs.Common.{◌∷◌, ◌++◌, length, take, drop, get_or, Option, Some, None, refl, sym, ap, subst, ◌∙◌}
use Rattle.std.proofs.Common.{append_assoc, length-append, arith, ◌⊎◌, inl, inr}
use Rattle.std.specs.Io.KnownBytes.{Keeps, prepend_known}
use Rattle.std.proofs.lemmas.Bool.{and_left, and_right, both_ways, cases_Bool, lt-leb}
use Rattle.std.proofs.lemmas.List.{append-nil, length-take, take-append-drop, take_all}
use Rattle.std.proofs.lemmas.List.Folds.{list_any_at}
use Rattle.repo_io.specs.Lines.{IsWhole, has_feed, lines}
use Rattle.repo_io.proofs.LineLaws.{long_line, open_line, whole_first}
use Rattle.script_lang.specs.Lines.{ends_with}
use Rattle.script_lines.specs.Reading.{HasLine, IsTooLong, LineIsBegun}
use Rattle.lab_text.specs.LineTexts.{without_feed}
use Rattle.lab_text.specs.Notes.{is_note}
use Rattle.lab_seeds.specs.declared.input.ScriptLines.{ScriptLines as Kept}
use Rattle.lab_seeds.specs.declared.input.SoFar.{SoFar}
use Rattle.lab_seeds.specs.declared.input.Totals.{Totals}
use Rattle.lab_seeds.specs.Inputs.{ScriptLines, fits, fits_input, fits_script, script_from, script_lines_are}
use Rattle.lab_seeds.specs.Inputs.{script_of, with_line}
use Rattle.lab_seeds.specs.Reading.{IsRead, Known, Takes, kept_line, lines_before, lines_read, octets_of}

-- ---- lines that are too long

-- octets without a line feed don't end with one
not_ended : (octets : List ℕ) → has_feed octets ≡ false → ends_with 10 octets ≡ false
not_ended [] free = refl
not_ended (b ∷ bs) free = elim (cases_Bool (eqb (get_or (b ∷ bs) (length (b ∷ bs) - 1) 0) 10)) [
  | inr other ↦ and_right (not (eqb (length (b ∷ bs)) 0)) (eqb (get_or (b ∷ bs) (length (b ∷ bs) - 1) 0) 10) other
  | inl feed ↦ absurd (both_ways (has_feed (b ∷ bs)) free
      (list_any_at (λ octet. eqb octet 10) (b ∷ bs) (length (b ∷ bs) - 1) 0 (omega arith) feed))
]

-- without its line feed a line is at least as long as octets before it
left_long : (prefix more : List ℕ) → has_feed prefix ≡ false → length prefix ≤ length (without_feed (prefix ++ more))
left_long prefix [] free =
    let all : prefix ++ [] ≡ prefix = append-nil prefix in
    rw (all, not_ended prefix free) (omega arith)
left_long prefix (b ∷ bs) free = elim (cases_Bool (ends_with 10 (prefix ++ b ∷ bs))) [
  | inl ended ↦
      let size = length-take (length (prefix ++ b ∷ bs) - 1) (prefix ++ b ∷ bs) in
      rw ended (omega (arith, size, length-append prefix (b ∷ bs)))
  | inr open_ ↦ rw open_ (omega (arith, length-append prefix (b ∷ bs)))
]

module _ (prefix : List ℕ) (long : IsTooLong prefix) where
  long_some : prefix ≢ []
  long_some e = let none = ap length e in omega (arith, none, long.long)

  long_beyond : (t : Totals) (more : List ℕ) → fits t (prefix ++ more) ≡ false
  long_beyond t more =
      let line = prefix ++ more in
      let test : leb (length (without_feed line)) 32768 ≡ false =
      lt-leb (length (without_feed line)) 32768 (omega (arith, left_long prefix more long.free, long.long)) in
      and_left (fits_input t line) (is_note line || fits_script t line)
      (and_left (leb (length (without_feed line)) 32768 && ltb t.lines 1000000) (leb (t.octets + length line) 300000000)
      (and_left (leb (length (without_feed line)) 32768) (ltb t.lines 1000000) test))

-- ---- the first line

module _ (t : Totals) (line : List ℕ) (others : List (List ℕ)) where
  first_taken : fits t line ≡ true
      → script_from t (line ∷ others) ≡ lines_before (kept_line line) (script_from (with_line t line) others)
  unfolding script_from
  first_taken e = rw e (by_note (is_note line)) where
    by_note : (note : Bool)
        → cond note (script_from (with_line t line) others)
        (script_lines_are (line ∷ (script_from (with_line t line) others).lines)
        (script_from (with_line t line) others).cut)
        ≡ lines_before (cond note [] (line ∷ [])) (script_from (with_line t line) others)
    by_note true = refl
    by_note false = refl

  first_cut : fits t line ≡ false → script_from t (line ∷ others) ≡ script_lines_are [] true
  unfolding script_from
  first_cut e = rw e refl

no_lines : (t : Totals) → script_from t [] ≡ script_lines_are [] false
unfolding script_from
no_lines t = refl

before_before : (a b : List (List ℕ)) (s : ScriptLines) → lines_before a (lines_before b s) ≡ lines_before (a ++ b) s
before_before a b s =
    ap (λ (ls : List (List ℕ)). script_lines_are ls s.cut) (sym (append_assoc a b s.lines))

-- ---- what is read

-- The lines `prefix` of the script were read with the totals `t`, and `held` and `rest` are the octets that follow
-- them.
pub record Reads (held : List ℕ) (prefix : List (List ℕ)) (t : Totals) (input rest : List ℕ) : Type 0 where
  pub script : script_of input ≡ lines_before prefix (script_from t (lines (held ++ rest)))

reads_read : (held held' : List ℕ) (prefix : List (List ℕ)) (t : Totals) (input rest rest' : List ℕ)
    → held' ++ rest' ≡ held ++ rest → Reads held prefix t input rest → Reads held' prefix t input rest'
reads_read held held' prefix t input rest rest' e r = record {
  script = r.script ∙ ap (λ (octets : List ℕ). lines_before prefix (script_from t (lines octets))) (sym e);
}

module _ (held : List ℕ) (prefix : List (List ℕ)) (t : Totals) (input rest : List ℕ) (count : ℕ)
    (h : HasLine count held) (r : Reads held prefix t input rest) where
  by_whole : IsWhole (take count held)
      → lines (held ++ rest) ≡ take count held ∷ lines (drop count held ++ rest)
  by_whole whole =
      let parts : held ++ rest ≡ take count held ++ (drop count held ++ rest) =
      ap (λ (octets : List ℕ). octets ++ rest) (sym (take-append-drop count held))
      ∙ append_assoc (take count held) (drop count held) rest in
      ap lines parts ∙ whole_first (take count held) (drop count held ++ rest) whole

  held_whole : IsTooLong held × (count ≡ length held) → take count held ≡ held
  held_whole long = take_all count held (omega (arith, long.1))

  long_not_taken : IsTooLong held × (count ≡ length held) → fits t (take count held) ≡ true → ⊥
  long_not_taken long e =
      let all : take count held ≡ held ++ [] = held_whole long ∙ sym (append-nil held) in
      both_ways (fits t (held ++ [])) (long_beyond held long.0 t []) (subst (λ (l : List ℕ). fits t l ≡ true) all e)

  reads_line : fits t (take count held) ≡ true
      → Reads (drop count held) (prefix ++ kept_line (take count held)) (with_line t (take count held)) input rest
  reads_line e = by_line h.line where
    by_line : (IsWhole (take count held) ⊎ (IsTooLong held × (count ≡ length held)))
        → Reads (drop count held) (prefix ++ kept_line (take count held)) (with_line t (take count held)) input rest
    by_line (inl whole) = record {
      script = r.script ∙ ap (λ (ls : List (List ℕ)). lines_before prefix (script_from t ls)) (by_whole whole)
          ∙ ap (lines_before prefix) (first_taken t (take count held) (lines (drop count held ++ rest)) e)
          ∙ before_before prefix (kept_line (take count held))
          (script_from (with_line t (take count held)) (lines (drop count held ++ rest)));
    }
    by_line (inr long) = absurd (long_not_taken long e)

  reads_cut : fits t (take count held) ≡ false → script_of input ≡ script_lines_are prefix true
  reads_cut e = by_line h.line where
    cut : (line : List ℕ) (others : List (List ℕ)) → lines (held ++ rest) ≡ line ∷ others → fits t line ≡ false
        → script_of input ≡ script_lines_are prefix true
    cut line others is beyond = r.script
        ∙ ap (λ (ls : List (List ℕ)). lines_before prefix (script_from t ls)) is
        ∙ ap (lines_before prefix) (first_cut t line others beyond)
        ∙ ap (λ (ls : List (List ℕ)). script_lines_are ls true) (append-nil prefix)

    by_line : (IsWhole (take count held) ⊎ (IsTooLong held × (count ≡ length held)))
        → script_of input ≡ script_lines_are prefix true
    by_line (inl whole) = cut (take count held) (lines (drop count held ++ rest)) (by_whole whole) e
    by_line (inr long) =
        let b = long_line held rest (long_some held long.0) long.0.free in
        cut (held ++ b.rest) b.others b.is (long_beyond held long.0 t b.rest)

-- ---- the octets after the last line feed

pub last_none : (t : Totals) (prefix : List (List ℕ)) (held : List ℕ) → held ≡ []
    → script_lines_are prefix false ≡ lines_before prefix (script_from t (lines held))
unfolding lines
last_none t prefix held none =
    sym (ap (λ (octets : List ℕ). lines_before prefix (script_from t (lines octets))) none
    ∙ ap (lines_before prefix) (no_lines t) ∙ ap (λ (ls : List (List ℕ)). script_lines_are ls false)
    (append-nil prefix))

module _ (t : Totals) (prefix : List (List ℕ)) (held : List ℕ) (begun : LineIsBegun held) (some : held ≢ []) where
  pub last_taken : fits t held ≡ true
      → script_lines_are (prefix ++ kept_line held) false ≡ lines_before prefix (script_from t (lines held))
  last_taken e =
      sym (ap (λ (ls : List (List ℕ)). lines_before prefix (script_from t ls)) (open_line held some begun.free)
      ∙ ap (lines_before prefix) (first_taken t held [] e
      ∙ ap (lines_before (kept_line held)) (no_lines (with_line t held)))
      ∙ before_before prefix (kept_line held) (script_lines_are [] false)
      ∙ ap (λ (ls : List (List ℕ)). script_lines_are ls false) (append-nil (prefix ++ kept_line held)))

  pub last_cut : fits t held ≡ false
      → script_lines_are prefix true ≡ lines_before prefix (script_from t (lines held))
  last_cut e =
      sym (ap (λ (ls : List (List ℕ)). lines_before prefix (script_from t ls)) (open_line held some begun.free)
      ∙ ap (lines_before prefix) (first_cut t held [] e)
      ∙ ap (λ (ls : List (List ℕ)). script_lines_are ls true) (append-nil prefix))

-- ---- where the input is known

known_map : (P Q : List ℕ → List ℕ → Type 0) → ((input rest : List ℕ) → P input rest → Q input rest)
    → (before now : Option (List ℕ)) → Known before now P → Known before now Q
known_map P Q f None now h = tt
known_map P Q f (Some input) None h = absurd h
known_map P Q f (Some input) (Some rest) h = f input rest h

pub known_read : (held held' : List ℕ) (prefix : List (List ℕ)) (t : Totals) (before now now' : Option (List ℕ))
    → Keeps (prepend_known held now) (prepend_known held' now') → Known before now (Reads held prefix t)
    → Known before now' (Reads held' prefix t)
known_read held held' prefix t None now now' k h = tt
known_read held held' prefix t (Some input) None now' k h = absurd h
known_read held held' prefix t (Some input) (Some rest) None k h = absurd k
known_read held held' prefix t (Some input) (Some rest) (Some rest') k h =
    reads_read held held' prefix t input rest rest' k h

module _ (held : List ℕ) (before now : Option (List ℕ)) (count : ℕ) (h : HasLine count held) where
  pub known_taken : (old new : SoFar) → Takes old (take count held) new
      → Known before now (Reads held (octets_of old.lines.items) old.totals)
      → Known before now (Reads (drop count held) (octets_of new.lines.items) new.totals)
  known_taken old new takes known = known_map (Reads held (octets_of old.lines.items) old.totals)
      (Reads (drop count held) (octets_of new.lines.items) new.totals)
      (λ input rest r. renamed input rest
      (reads_line held (octets_of old.lines.items) old.totals input rest count h r takes.fits)) before now known where
        renamed : (input rest : List ℕ)
            → Reads (drop count held) (octets_of old.lines.items ++ kept_line (take count held))
            (with_line old.totals (take count held)) input rest
            → Reads (drop count held) (octets_of new.lines.items) new.totals input rest
        renamed input rest r =
            subst (λ (ls : List (List ℕ)). Reads (drop count held) ls new.totals input rest) (sym takes.lines)
            (subst (λ (t : Totals). Reads (drop count held)
            (octets_of old.lines.items ++ kept_line (take count held)) t input rest) (sym takes.totals) r)

  pub known_cut : (prefix : List (List ℕ)) (t : Totals) (s : Kept) → fits t (take count held) ≡ false
      → lines_read s ≡ script_lines_are prefix true → Known before now (Reads held prefix t)
      → Known before now (IsRead s)
  known_cut prefix t s beyond is = known_map (Reads held prefix t) (IsRead s)
      (λ input rest r. record {
        whole = reads_cut held prefix t input rest count h r beyond ∙ sym is;
        ended = λ whole. absurd (both_ways s.cut whole (ap (λ (l : ScriptLines). l.cut) is));
      }) before now
