-- A form over a transcript: each line is evaluated as it was, and the notes after it are its report.
use Rattle.std.proofs.Common.{◌≡◌, ℕ, ◌+◌, ◌<◌, ◌≤◌, true, false, not, leb, ltb, List, [], ◌∷◌, ◌++◌, map}
use Rattle.std.proofs.Common.{length, take}
use Rattle.std.proofs.Common.{Some, None, refl, sym, ap, subst, ◌∙◌, length-append, arith, inl}
use Rattle.std.proofs.Common.{inr}
use Rattle.std.specs.Prelude.{◌&&◌, ◌||◌}
use Rattle.std.specs.List.{concat}
use Rattle.std.proofs.lemmas.Bool.{and_from, and_parts, and_right, both_ways, cases_Bool, le-leb}
use Rattle.std.proofs.lemmas.Bool.{leb-false, leb-true}
use Rattle.std.proofs.lemmas.Bool.{lt-leb, lt-ltb}
use Rattle.std.proofs.lemmas.List.{append-nil, length-take, take_all}
use Rattle.repo_io.specs.Lines.{IsWhole, has_feed, lines}
use Rattle.script_report.specs.Refusals.{refusal_number, refusal_text}
use Rattle.script_report.specs.Texts.{foreign_text}
use Rattle.script_report.specs.declared.refusal.Refusal.TheVariants.{Limit}
use Rattle.script_story.specs.declared.ending.Ending.{Ending}
use Rattle.script_story.specs.declared.ending.Ending.TheVariants as an_ending
use Rattle.script_story.specs.Evaluation.{RunEnvironment, State, Verdict, foreign, refused, accepted, not_evaluated}
use Rattle.script_story.specs.ScriptRun.{Reached, evaluated_next, reached_after}
use Rattle.lab_text.specs.LineTexts.{is_one_line, line_texts, without_feed}
use Rattle.lab_text.specs.Notes.{is_note}
use Rattle.lab_text.specs.Transcripts.{line_with_report, report_note, shown_line, shown_text}
use Rattle.lab_text.proofs.Feeds.{feed_gone, free_take}
use Rattle.lab_text.proofs.NoteTexts.{is_a_note, shown_of_whole}
use Rattle.lab_text.proofs.TranscriptLaws.{lines_of_both}
use Rattle.lab_text.specs.Limits.{most_lines, most_octets}
use Rattle.lab_lines.specs.Folding.{FormOf, Lined, NextLine, Passed, Ran, after_line, after_note, after_notes}
use Rattle.lab_lines.specs.Folding.{after_stop}
use Rattle.lab_lines.specs.Folding.{fits, lined, looked, next_line, noted, ran_from}
use Rattle.lab_lines.specs.Folding.{scripted}
use Rattle.lab_lines.specs.Folding.{stopping_line, stops, taken_line, with_text}
use Rattle.lab_lines.specs.Transcript.{transcript_form}
use Rattle.lab_lines.specs.Laws.{notes_fit}
use Rattle.lab_lines.proofs.LongLines.{not_ended}
use Rattle.lab_lines.proofs.Folds.{by_next, evaluated_line, line_beyond, noted_line}

-- ---- what fits

-- after `passed` lines and `size` octets these lines may follow
pub record Room (passed size : ℕ) (ls : List (List ℕ)) : Type 0 where
  pub lines : passed + length ls ≤ most_lines
  pub octets : size + length (concat ls) ≤ most_octets

room_more : (passed octets : ℕ) (line : List ℕ) (ls : List (List ℕ)) → Room passed octets (line ∷ ls)
    → Room (passed + 1) (octets + length line) ls
room_more passed octets line ls room = record {
  lines = omega (arith, room.lines);
  octets = omega (arith, room.octets, length-append line (concat ls));
}

short_fits : (passed octets : ℕ) (line : List ℕ) (ls : List (List ℕ)) → Room passed octets (line ∷ ls)
    → length (without_feed line) ≤ 32768 → fits passed octets line ≡ true
short_fits passed octets line ls room short =
    let few : ltb passed 1000000 ≡ true = lt-ltb passed 1000000 (omega (arith, room.lines)) in
    let small : leb (octets + length line) 300000000 ≡ true =
    le-leb (octets + length line) 300000000 (omega (arith, room.octets, length-append line (concat ls))) in
    and_from (ltb passed 1000000) (leb (octets + length line) 300000000 && leb (length (without_feed line)) 32768) few
    (and_from (leb (octets + length line) 300000000) (leb (length (without_feed line)) 32768) small
    (le-leb (length (without_feed line)) 32768 short))

long_beyond : (passed octets : ℕ) (line : List ℕ) → 32768 < length (without_feed line)
    → fits passed octets line ≡ false
long_beyond passed octets line long =
    let small = leb (octets + length line) 300000000 in
    let short = leb (length (without_feed line)) 32768 in
    and_right (ltb passed 1000000) (small && short)
    (and_right small short (lt-leb (length (without_feed line)) 32768 long))

fits_short : (passed octets : ℕ) (line : List ℕ) → fits passed octets line ≡ true
    → length (without_feed line) ≤ 32768
fits_short passed octets line fit =
    let small = leb (octets + length line) 300000000 in
    let short = leb (length (without_feed line)) 32768 in
    leb-true (length (without_feed line)) 32768
    (and_parts small short (and_parts (ltb passed 1000000) (small && short) fit).1).1

beyond_long : (passed octets : ℕ) (line : List ℕ) (ls : List (List ℕ)) → Room passed octets (line ∷ ls)
    → fits passed octets line ≡ false → 32768 < length (without_feed line)
beyond_long passed octets line ls room beyond = elim (cases_Bool (leb (length (without_feed line)) 32768)) [
  | inl short ↦ absurd (both_ways (fits passed octets line) beyond
      (short_fits passed octets line ls room (leb-true (length (without_feed line)) 32768 short)))
  | inr long ↦ leb-false (length (without_feed line)) 32768 long
]

note_fits : (passed octets : ℕ) (line : List ℕ) (ls : List (List ℕ)) → Room passed octets (line ∷ ls)
    → notes_fit (line ∷ ls) ≡ true → is_note line ≡ true → fits passed octets line ≡ true
note_fits passed octets line ls room notes note =
    let short = leb (length (without_feed line)) 32768 in
    let first = (and_parts (not (is_note line) || short) (notes_fit ls) notes).0 in
    let test : short ≡ true = rw note at first in
    short_fits passed octets line ls room (leb-true (length (without_feed line)) 32768 test)

notes_more : (line : List ℕ) (ls : List (List ℕ)) → notes_fit (line ∷ ls) ≡ true → notes_fit ls ≡ true
notes_more line ls notes =
    (and_parts (not (is_note line) || leb (length (without_feed line)) 32768) (notes_fit ls) notes).1

-- ---- the notes of a report

passed_notes : Passed → List (List ℕ) → Passed
passed_notes q [] = q
passed_notes q (t ∷ ts) = passed_notes (after_note q (report_note t)) ts

-- what a form keeps after notes
unfoldable pub with_notes : {M : Type 0} → FormOf M → M → List (List ℕ) → M
with_notes g n [] = n
with_notes g n (t ∷ ts) = with_notes g (g.note n (report_note t)) ts

-- the lines `ls` that follow the notes `ts`, and what was passed before them
record AfterNotes (q : Passed) (ts ls : List (List ℕ)) : Type 0 where
  same : (passed_notes q ts).reached ≡ q.reached
  room : Room (passed_notes q ts).lines (passed_notes q ts).octets ls
  notes : notes_fit ls ≡ true

after_them : (q : Passed) (ts ls : List (List ℕ)) → Room q.lines q.octets (map report_note ts ++ ls)
    → notes_fit (map report_note ts ++ ls) ≡ true → AfterNotes q ts ls
unfolding passed_notes
after_them q [] ls room notes = record { same = refl; room = room; notes = notes }
after_them q (t ∷ ts) ls room notes =
    let others = map report_note ts ++ ls in
    let rest = after_them (after_note q (report_note t)) ts ls
    (room_more q.lines q.octets (report_note t) others room) (notes_more (report_note t) others notes) in
    record { same = rest.same; room = rest.room; notes = rest.notes }

module _ {M : Type 0} (g : FormOf M) (env : RunEnvironment) where
  notes_pass : (q : Passed) (n : M) (ts ls : List (List ℕ)) → Room q.lines q.octets (map report_note ts ++ ls)
      → notes_fit (map report_note ts ++ ls) ≡ true → ran_from g env q n (map report_note ts ++ ls)
      ≡ ran_from g env (passed_notes q ts) (with_notes g n ts) ls
  unfolding passed_notes with_notes
  notes_pass q n [] ls room notes = refl
  notes_pass q n (t ∷ ts) ls room notes =
      let others = map report_note ts ++ ls in
      let fit = note_fits q.lines q.octets (report_note t) others room notes (is_a_note t) in
      by_next g env q n (report_note t) noted (noted_line g env q n (report_note t) fit (is_a_note t)) others
      ∙ notes_pass (after_note q (report_note t)) (g.note n (report_note t)) ts ls
      (room_more q.lines q.octets (report_note t) others room) (notes_more (report_note t) others notes)

module _ {M : Type 0} (g : FormOf M) where
  -- what a form keeps after the notes at the end, after the line that stops the script
  pub notes_end : (passed octets : ℕ) (n : M) (ts : List (List ℕ)) → Room passed octets (map report_note ts)
      → notes_fit (map report_note ts) ≡ true → after_notes g passed octets n (map report_note ts) ≡ with_notes g n ts
  unfolding after_notes with_notes
  notes_end passed octets n [] room notes = refl
  notes_end passed octets n (t ∷ ts) room notes =
      let others = map report_note ts in
      let fit = note_fits passed octets (report_note t) others room notes (is_a_note t) in
      rw (fit, is_a_note t) (notes_end (passed + 1) (octets + length (report_note t)) (g.note n (report_note t)) ts
      (room_more passed octets (report_note t) others room) (notes_more (report_note t) others notes))

-- ---- a form that finds in the notes what was reported

-- The form keeps a value for which `Q` holds, and writes of a line what `kept` gives of its text in the transcript.
pub record ReadsAgain {M : Type 0} (g : FormOf M) (kept : List ℕ → List ℕ) (Q : M → Type 0) : Type 0 where
  pub none : kept [] ≡ []
  pub joined : (x y : List ℕ) → kept (x ++ y) ≡ kept x ++ kept y
  pub look : (n : M) (state : State) (line : List ℕ) → Q n → Q (g.before n state line)
  pub text : (n : M) (at : Lined) → Q n → g.text n at ≡ kept (line_with_report at.line at.report)
  pub next : (n : M) (at : Lined) → Q n → Q (with_notes g (g.line n at) (line_texts at.report))
  pub last : (n : M) (at : Lined) → Q n → (passed octets : ℕ)
      → Room passed octets (map report_note (line_texts at.report))
      → notes_fit (map report_note (line_texts at.report)) ≡ true
      → Q (after_stop g passed octets (g.line n at) (map report_note (line_texts at.report)))

-- each line ends with its line feed
pub data AreWhole : List (List ℕ) → Type 0 where
  none_whole : AreWhole []
  one_whole : (line : List ℕ) (ls : List (List ℕ)) → IsWhole line → AreWhole ls → AreWhole (line ∷ ls)

abbrev transcribed : RunEnvironment → Passed → List (List ℕ) → Ran (Unit {0})
transcribed env p ls = ran_from transcript_form env p (tt {0}) ls

-- a form over the transcript of lines has the same ending
pub record SameEnd {M : Type 0} (kept : List ℕ → List ℕ) (Q : M → Type 0) (was : Ran (Unit {0})) (now : Ran M)
    : Type 0 where
  pub text : now.text ≡ kept was.text
  pub ending : now.ending ≡ was.ending
  pub form : Q now.form

-- ---- a line that is shown

abbrev shown_again_line : List ℕ → List ℕ
shown_again_line line = shown_line (shown_text line)

module _ (line : List ℕ) (w : IsWhole line) where
  text_is : without_feed line ≡ w.prefix
  text_is = ap without_feed w.is ∙ feed_gone w.prefix

  shown_free : has_feed (shown_text line) ≡ false
  shown_free = rw text_is (free_take 32769 w.prefix w.free)

  open_text : without_feed (shown_text line) ≡ shown_text line
  open_text = rw (not_ended (shown_text line) shown_free) refl

  one_line : is_one_line (shown_text line) ≡ true
  one_line = ap (λ (t : List ℕ). not (has_feed t)) open_text ∙ ap not shown_free

  within : length (shown_text line) ≤ 32769
  within = omega (arith, length-take 32769 (without_feed line))

  shown_twice : shown_text (shown_text line) ≡ shown_text line
  shown_twice = ap (take 32769) open_text ∙ take_all 32769 (shown_text line) within

  again_is : shown_again_line line ≡ shown_line line
  again_is = ap (λ (t : List ℕ). t ++ 10 ∷ []) shown_twice

  feed_again : without_feed (shown_again_line line) ≡ shown_text line
  feed_again = feed_gone (shown_text (shown_text line)) ∙ shown_twice

  shown_of_again : shown_text (shown_again_line line) ≡ shown_text line
  shown_of_again = ap (take 32769) feed_again ∙ take_all 32769 (shown_text line) within

  short_again : length (without_feed line) ≤ 32768 → shown_again_line line ≡ line
  short_again short = again_is ∙ shown_of_whole line w (omega (arith, short))

  -- the line of the transcript is evaluated as the line was
  module _ (env : RunEnvironment) (p q : Passed) (same : q.reached ≡ p.reached) (ls more : List (List ℕ))
      (room : Room p.lines p.octets (line ∷ ls)) (again : Room q.lines q.octets (shown_again_line line ∷ more)) where
    long_again : 32768 < length (without_feed line) → 32768 < length (without_feed (shown_again_line line))
    long_again long = omega (arith, ap length feed_again, length-take 32769 (without_feed line), long)

    judged_short : (verdict : Verdict) → next_line env p line ≡ scripted verdict
        → fits p.lines p.octets line ≡ true → is_note line ≡ false
        → next_line env q (shown_again_line line) ≡ scripted verdict
    judged_short verdict e fit other =
        let short = fits_short p.lines p.octets line fit in
        let is = short_again short in
        let here : fits q.lines q.octets line ≡ true =
        short_fits q.lines q.octets line more
        (subst (λ (l : List ℕ). Room q.lines q.octets (l ∷ more)) is again) short in
        ap (next_line env q) is ∙ evaluated_line {M = Unit {0}} transcript_form env q (tt {0}) line here other
        ∙ ap (λ (r : Reached). scripted (evaluated_next env r line)) same
        ∙ sym (evaluated_line {M = Unit {0}} transcript_form env p (tt {0}) line fit other) ∙ e

    judged_again : (verdict : Verdict) → next_line env p line ≡ scripted verdict
        → next_line env q (shown_again_line line) ≡ scripted verdict
    judged_again verdict e = elim (cases_Bool (fits p.lines p.octets line)) [
      | inl fit ↦ elim (cases_Bool (is_note line)) [
        | inl note ↦
            let h : noted ≡ scripted verdict =
            sym (noted_line {M = Unit {0}} transcript_form env p (tt {0}) line fit note) ∙ e in
            absurd cc
        | inr other ↦ judged_short verdict e fit other
      ]
      | inr beyond ↦
          line_beyond {M = Unit {0}} transcript_form env q (tt {0}) (shown_again_line line)
          (long_beyond q.lines q.octets (shown_again_line line)
          (long_again (beyond_long p.lines p.octets line ls room beyond)))
          ∙ sym (line_beyond {M = Unit {0}} transcript_form env p (tt {0}) line beyond) ∙ e
    ]

    -- a line that is taken is shown as it stands
    taken_same : (report : List ℕ) (next : State) → next_line env p line ≡ scripted (accepted report next)
        → shown_again_line line ≡ line
    taken_same report next e = elim (cases_Bool (fits p.lines p.octets line)) [
      | inl fit ↦ short_again (fits_short p.lines p.octets line fit)
      | inr beyond ↦
          let h : scripted (accepted report next) ≡ scripted (refused Limit) =
          sym e ∙ line_beyond {M = Unit {0}} transcript_form env p (tt {0}) line beyond in
          absurd cc
    ]

-- ---- a transcript

module _ (env : RunEnvironment) {M : Type 0} (g : FormOf M) (kept : List ℕ → List ℕ) (Q : M → Type 0)
    (r : ReadsAgain g kept Q) where
  -- lines of which the first is whole
  module _ (p q : Passed) (n : M) (same : q.reached ≡ p.reached) (held : Q n) (line : List ℕ) (w : IsWhole line)
      (ls : List (List ℕ)) (room : Room p.lines p.octets (line ∷ ls)) where
    number_is : q.reached.lines + 1 ≡ p.reached.lines + 1
    number_is = ap (λ (x : Reached). x.lines + 1) same

    abbrev Again : Ran (Unit {0}) → Type 0
    Again was = Room q.lines q.octets (lines was.text) → notes_fit (lines was.text) ≡ true
        → SameEnd kept Q was (ran_from g env q n (lines was.text))

    -- the script stops at the first line
    module _ (verdict : Verdict) (e : next_line env p line ≡ scripted verdict) (report : ℕ → List ℕ)
        (end : ℕ → Ending) (goes : (x : Passed) (y : M) (l : List ℕ) (others : List (List ℕ))
        → next_line env x l ≡ scripted verdict → ran_from g env x y (l ∷ others)
        ≡ stops g x (looked g x y l) l others (stopping_line x l (report (x.reached.lines + 1)))
        (end (x.reached.lines + 1))) where
      text : List ℕ
      text = line_with_report (shown_text line) (report (p.reached.lines + 1))

      stopped_lines : lines text
          ≡ shown_again_line line ∷ map report_note (line_texts (report (p.reached.lines + 1)))
      unfolding text lines
      stopped_lines =
          let rep = report (p.reached.lines + 1) in
          ap lines (sym (append-nil text)) ∙ lines_of_both (shown_text line) rep [] (one_line line w)
          ∙ ap (λ (t : List (List ℕ)). shown_again_line line ∷ t) (append-nil (map report_note (line_texts rep)))

      stop_again : Again (stops transcript_form p (tt {0}) line ls
          (stopping_line p line (report (p.reached.lines + 1))) (end (p.reached.lines + 1)))
      unfolding text
      stop_again all notes =
          let number = p.reached.lines + 1 in
          let others = map report_note (line_texts (report number)) in
          let shown = shown_again_line line in
          let here = subst (Room q.lines q.octets) stopped_lines all in
          let fit = subst (λ (t : List (List ℕ)). notes_fit t ≡ true) stopped_lines notes in
          let at = lined number (shown_text line) (report number) None in
          let at_is : stopping_line q shown (report (q.reached.lines + 1)) ≡ at =
          ap (λ (k : ℕ). lined k (shown_text shown) (report k) None) number_is
          ∙ ap (λ (t : List ℕ). lined number t (report number) None) (shown_of_again line w) in
          let k = looked g q n shown in
          let seen = r.look n q.reached.state (shown_text shown) held in
          let is : ran_from g env q n (lines text) ≡ stops g q k shown others at (end number) =
          ap (ran_from g env q n) stopped_lines
          ∙ goes q n shown others (judged_again line w env p q same ls others room here verdict e)
          ∙ ap (λ (x : Lined). stops g q k shown others x (end (q.reached.lines + 1))) at_is
          ∙ ap (λ (i : ℕ). stops g q k shown others at (end i)) number_is in
          let kept_room = room_more q.lines q.octets shown others here in
          let P : Ran M → Type 0 = λ x. SameEnd kept Q (stops transcript_form p (tt {0}) line ls
          (stopping_line p line (report number)) (end number)) x in
          subst P (sym is) (record {
            text = r.text k at seen;
            ending = refl;
            form = r.last k at seen (q.lines + 1) (q.octets + length shown) kept_room (notes_more shown others fit);
          })

    -- the first line is taken
    module _ (report : List ℕ) (next : State) (e : next_line env p line ≡ scripted (accepted report next))
        (rest : (x y : Passed) (k : M) → y.reached ≡ x.reached → Q k → Room x.lines x.octets ls
        → Room y.lines y.octets (lines (transcribed env x ls).text)
        → notes_fit (lines (transcribed env x ls).text) ≡ true
        → SameEnd kept Q (transcribed env x ls) (ran_from g env y k (lines (transcribed env x ls).text))) where
      abbrev after_it : Ran (Unit {0})
      after_it = transcribed env (after_line p line report next) ls

      taken_lines : lines (line_with_report (shown_text line) report ++ after_it.text)
          ≡ shown_again_line line ∷ (map report_note (line_texts report) ++ lines after_it.text)
      taken_lines = lines_of_both (shown_text line) report after_it.text (one_line line w)

      taken_again : Again (with_text (line_with_report (shown_text line) report) after_it)
      taken_again all notes =
          let ts = line_texts report in
          let more = lines after_it.text in
          let others = map report_note ts ++ more in
          let shown = shown_again_line line in
          let here = subst (Room q.lines q.octets) taken_lines all in
          let fit = subst (λ (t : List (List ℕ)). notes_fit t ≡ true) taken_lines notes in
          let at = taken_line p line report next in
          let at_is : taken_line q shown report next ≡ at =
          ap (λ (k : ℕ). lined k (shown_text shown) report (Some next)) number_is
          ∙ ap (λ (t : List ℕ). lined (p.reached.lines + 1) t report (Some next)) (shown_of_again line w) in
          let line_is = taken_same line w env p q same ls others room here report next e in
          let y = after_line q shown report next in
          let y_room = room_more q.lines q.octets shown others here in
          let y_fit = notes_more shown others fit in
          let left = after_them y ts more y_room y_fit in
          let reached_is : (passed_notes y ts).reached ≡ reached_after p.reached line report next =
          left.same ∙ ap (λ (x : Reached). reached_after x shown report next) same
          ∙ ap (λ (t : List ℕ). reached_after p.reached t report next) line_is in
          let k = looked g q n shown in
          let seen = r.look n q.reached.state (shown_text shown) held in
          let m = with_notes g (g.line k at) ts in
          let last = rest (after_line p line report next) (passed_notes y ts) m reached_is (r.next k at seen)
          (room_more p.lines p.octets line ls room) left.room left.notes in
          let final = ran_from g env (passed_notes y ts) m more in
          let is : ran_from g env q n (lines (line_with_report (shown_text line) report ++ after_it.text))
          ≡ with_text (g.text k at) final =
          ap (ran_from g env q n) taken_lines
          ∙ by_next g env q n shown (scripted (accepted report next))
          (judged_again line w env p q same ls others room here (accepted report next) e) others
          ∙ ap (λ (x : Lined). with_text (g.text k x) (ran_from g env y (g.line k x) others)) at_is
          ∙ ap (with_text (g.text k at)) (notes_pass g env y (g.line k at) ts more y_room y_fit) in
          let P : Ran M → Type 0 = λ x.
          SameEnd kept Q (with_text (line_with_report (shown_text line) report) after_it) x in
          subst P (sym is) (record {
            text = ap (λ (t : List ℕ). t ++ final.text) (r.text k at seen)
                ∙ ap (λ (t : List ℕ). kept (line_with_report (shown_text line) report) ++ t) last.text
                ∙ sym (r.joined (line_with_report (shown_text line) report) after_it.text);
            ending = last.ending;
            form = last.form;
          })

  -- the form over the transcript of whole lines has the same ending
  pub read_again : (ls : List (List ℕ)) (p q : Passed) (n : M) → q.reached ≡ p.reached → Q n → AreWhole ls
      → Room p.lines p.octets ls → Room q.lines q.octets (lines (transcribed env p ls).text)
      → notes_fit (lines (transcribed env p ls).text) ≡ true
      → SameEnd kept Q (transcribed env p ls) (ran_from g env q n (lines (transcribed env p ls).text))
  unfolding ran_from lines
  read_again [] p q n same held whole room again notes =
      record { text = sym r.none; ending = refl; form = held }
  read_again (line ∷ ls) p q n same held (one_whole l others w whole) room again notes =
      by_line (λ x y k. read_again ls x y k) (next_line env p line) refl again notes where
        by_line : ((x y : Passed) (k : M) → y.reached ≡ x.reached → Q k → AreWhole ls → Room x.lines x.octets ls
            → Room y.lines y.octets (lines (transcribed env x ls).text)
            → notes_fit (lines (transcribed env x ls).text) ≡ true
            → SameEnd kept Q (transcribed env x ls) (ran_from g env y k (lines (transcribed env x ls).text)))
            → (next : NextLine) → next_line env p line ≡ next
            → Room q.lines q.octets (lines (transcribed env p (line ∷ ls)).text)
            → notes_fit (lines (transcribed env p (line ∷ ls)).text) ≡ true
            → SameEnd kept Q (transcribed env p (line ∷ ls))
            (ran_from g env q n (lines (transcribed env p (line ∷ ls)).text))
        by_line rest noted e =
            let is = by_next transcript_form env p (tt {0}) line noted e ls in
            subst (Again p q n same held line w ls room) (sym is)
            (rest (after_note p line) q n same held whole (room_more p.lines p.octets line ls room))
        by_line rest (scripted (accepted report next)) e =
            let is = by_next transcript_form env p (tt {0}) line (scripted (accepted report next)) e ls in
            subst (Again p q n same held line w ls room) (sym is)
            (taken_again p q n same held line w ls room report next e (λ x y k s h. rest x y k s h whole))
        by_line rest (scripted (refused why)) e =
            let is = by_next transcript_form env p (tt {0}) line (scripted (refused why)) e ls in
            subst (Again p q n same held line w ls room) (sym is)
            (stop_again p q n same held line w ls room (refused why) e (λ k. refusal_text k why)
            (λ k. an_ending.Refused k (refusal_number why))
            (λ x y l others h. by_next g env x y l (scripted (refused why)) h others))
        by_line rest (scripted foreign) e =
            let is = by_next transcript_form env p (tt {0}) line (scripted foreign) e ls in
            subst (Again p q n same held line w ls room) (sym is)
            (stop_again p q n same held line w ls room foreign e foreign_text (λ k. an_ending.Foreign k)
            (λ x y l others h. by_next g env x y l (scripted foreign) h others))
        by_line rest (scripted not_evaluated) e =
            let is = by_next transcript_form env p (tt {0}) line (scripted not_evaluated) e ls in
            subst (Again p q n same held line w ls room) (sym is)
            (stop_again p q n same held line w ls room not_evaluated e (λ k. []) (λ k. an_ending.Refused k 0)
            (λ x y l others h. by_next g env x y l (scripted not_evaluated) h others))
