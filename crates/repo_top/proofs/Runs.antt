-- A run: lines that were carried out, and how it may end.
use Rattle.std.proofs.Common.{◌≡◌, ◌≢◌, ℕ, zero, suc, ◌+◌, ◌-◌, ◌<◌, ◌≤◌, true, false, eqb, ltb, List, [], ◌∷◌, ◌++◌}
use Rattle.std.proofs.Common.{length, take, drop, Option, Some, None, IfSome, refl, sym, ap, subst, ◌∙◌, append_assoc}
use Rattle.std.proofs.Common.{length-append, arith, ◌⊎◌, inl, inr}
use Rattle.std.specs.List.{concat, filter}
use Rattle.std.proofs.KnownBytes.{Appends-trans}
use Rattle.std.proofs.lemmas.Bool.{or_from, or_left, or_right, le-ltb, lt-ltb}
use Rattle.std.proofs.lemmas.Bool.Decides.{leb_tells}
use Rattle.std.proofs.lemmas.List.{append-nil, nil_from_length, take-append-drop, take-append-le, take_all}
use Rattle.std.proofs.lemmas.List.Elements.{filter-append}
use Rattle.std.proofs.lemmas.List.Folds.{concat-append, list_any-append}
use Rattle.std.proofs.Math.Numerals.{suc-eq-add-one}
use Rattle.std.proofs.Math.Seq.{take-append_seam, take-append-add}
use Rattle.script_story.specs.declared.ending.Ending.TheVariants as ending
use Rattle.repo_io.specs.declared.status.Status.{Status}
use Rattle.repo_io.specs.declared.status.Status.TheVariants.{Done, ReadFault, WriteFault}
use Rattle.script_report.specs.declared.refusal.Refusal.TheVariants.{Limit}
use Rattle.repo_io.specs.Outside.{GainsText, GainsPrefix}
use Rattle.repo_io.specs.Lines.{IsWhole, has_feed, lines}
use Rattle.bench_world.specs.Worlds.{GroupState}
use Rattle.script_story.specs.Evaluation.{RunEnvironment, Verdict, foreign, refused, accepted, not_evaluated}
use Rattle.script_lines.specs.Reading.{HasLine, LineIsBegun, IsTooLong}
use Rattle.script_story.specs.ScriptRun.{Reached, ScriptRun, reached_after, after_text, ended, evaluated_next}
use Rattle.script_story.specs.ScriptRun.{nothing_reached}
use Rattle.script_story.specs.ScriptRun.{run_from, run_of}
use Rattle.repo_top.specs.Taken.{FallsShortNear, IsTakenNear, LacksText, can_be_evaluated, end_of_line, lines_so_far}
use Rattle.repo_top.specs.Taken.{lines_taken, report_of, report_through, taken}
use Rattle.repo_top.specs.Carrying.{Carried, Finishes, IsStopping, LeavesWorld, Ran, Stops, IsStatusOf, Took}
use Rattle.repo_io.proofs.LineLaws.{open_line, whole_first}
use Rattle.repo_io.proofs.Outputs.{prefix_after, prefix_so_far, prefix_whole, nothing_gained}
use Rattle.repo_top.proofs.ScriptRuns.{after_after, first_line_run, goes_on, long_refused, no_lines, refused_run}

-- ---- what a status says of a run

pub reports_after : (s : ScriptRun) (a b d : Option (List ℕ)) (text : List ℕ) (status : Status) → GainsText a b text
    → IsStatusOf s b d status → IsStatusOf (after_text text s) a d status
reports_after s a b d text status p t = record {
  ending = t.ending;
  text = λ printed. Appends-trans a b d text s.text p (t.text printed);
  prefix = prefix_after a b d text s.text p t.prefix;
}

-- ---- lines that were carried out

module _ (env : RunEnvironment) (held : List ℕ) (r : Reached) (a b : Option (List ℕ)) (input rest : List ℕ)
    (so_far : Carried env held r a b input rest) where
  -- octets were read
  pub carried_read : (held' rest' : List ℕ) → held' ++ rest' ≡ held ++ rest → Carried env held' r a b input rest'
  carried_read held' rest' e = record {
    done = so_far.done;
    octets = so_far.octets;
    text = so_far.text;
    parts = so_far.parts ∙ ap (λ (t : List ℕ). so_far.octets ++ t) (sym e);
    cut = so_far.cut;
    joined = so_far.joined;
    count = so_far.count;
    evaluated = so_far.evaluated;
    goes = so_far.goes;
    gained = so_far.gained;
  }

  run_is : run_of env input ≡ after_text so_far.text (run_from env r (lines (held ++ rest)))
  run_is = ap (run_of env) so_far.parts ∙ ap (run_from env nothing_reached) (so_far.cut (held ++ rest))
      ∙ so_far.goes (lines (held ++ rest))

  taken_is : taken input rest ≡ so_far.octets ++ held
  taken_is =
      let prefix = so_far.octets ++ held in
      let whole : input ≡ prefix ++ rest = so_far.parts ∙ sym (append_assoc so_far.octets held rest) in
      let size : length input - length rest ≡ length prefix = omega
      (arith, ap length whole, length-append prefix rest) in
      rw (size, whole) (take-append_seam prefix rest)

  so_far_is : lines_so_far (taken input rest) ≡ so_far.done ++ filter can_be_evaluated (lines held)
  so_far_is = rw taken_is (ap (filter can_be_evaluated) (so_far.cut held)
      ∙ filter-append can_be_evaluated so_far.done (lines held)
      ∙ ap (λ (t : List (List ℕ)). t ++ filter can_be_evaluated (lines held)) so_far.evaluated)

-- ---- a line is carried out

judged_whole : (line : List ℕ) → IsWhole line → can_be_evaluated line ≡ true
judged_whole line w = or_left (has_feed line) (ltb 32768 (length line))
    (ap has_feed w.is ∙ list_any-append (λ octet. eqb octet 10) w.prefix (10 ∷ [])
    ∙ or_right (has_feed w.prefix) true refl)

module _ (env : RunEnvironment) (held : List ℕ) (r next : Reached) (a b d : Option (List ℕ)) (input rest : List ℕ)
    (count : ℕ)
    (so_far : Carried env held r a b input rest) (took : Took env r (take count held) next b d) where
  with_line : IsWhole (take count held) → Carried env (drop count held) next a d input rest
  with_line whole =
      let line = take count held in
      record {
        done = so_far.done ++ line ∷ [];
        octets = so_far.octets ++ line;
        text = so_far.text ++ took.report;
        parts = so_far.parts ∙ ap (λ (t : List ℕ). so_far.octets ++ (t ++ rest)) (sym (take-append-drop count held))
            ∙ simp append_assoc;
        cut = λ more. ap lines (append_assoc so_far.octets line more) ∙ so_far.cut (line ++ more)
            ∙ ap (λ (t : List (List ℕ)). so_far.done ++ t) (whole_first line more whole)
            ∙ sym (append_assoc so_far.done (line ∷ []) (lines more));
        joined = concat-append so_far.done (line ∷ []) ∙ ap (λ (t : List ℕ). t ++ (line ++ [])) so_far.joined
            ∙ ap (λ (t : List ℕ). so_far.octets ++ t) (append-nil line);
        count = omega (
          arith,
          ap (λ (t : Reached). t.lines) took.then,
          so_far.count,
          length-append so_far.done (line ∷ []),
        );
        evaluated = filter-append can_be_evaluated so_far.done (line ∷ [])
            ∙ rw (so_far.evaluated, judged_whole line whole) refl;
        goes = λ others. ap (run_from env nothing_reached) (append_assoc so_far.done (line ∷ []) others)
            ∙ so_far.goes (line ∷ others) ∙ ap (after_text so_far.text) (goes_on env r line next b d took others)
            ∙ after_after so_far.text took.report (run_from env next others);
        gained = Appends-trans a b d so_far.text took.report so_far.gained took.gained;
      }

  pub carried_line : HasLine count held → Carried env (drop count held) next a d input rest
  carried_line h = by_line h.line where
    by_line : IsWhole (take count held) ⊎ (IsTooLong held × (count ≡ length held))
        → Carried env (drop count held) next a d input rest
    by_line (inl whole) = with_line whole
    by_line (inr long) =
        let all : take count held ≡ held ++ [] = take_all count held (omega (arith, long.1)) ∙ sym (append-nil held) in
        let why : accepted took.report next.state ≡ refused Limit = sym took.verdict ∙ ap (evaluated_next env r) all
        ∙ long_refused env r held [] long.0 in
        absurd cc

-- ---- fronts of lines

-- fewer lines have no longer report
fewer_lines : (env : RunEnvironment) (r : Reached) (prefix others : List (List ℕ))
    → length (run_from env r prefix).text ≤ length (run_from env r (prefix ++ others)).text
fewer_lines env r [] others = let none = ap (λ (s : ScriptRun). length s.text) (no_lines env r) in omega (arith, none)
fewer_lines env r (line ∷ prefix) others =
    by_verdict (λ next. fewer_lines env next prefix others) (evaluated_next env r line) refl where
      by_verdict : ((next : Reached)
          → length (run_from env next prefix).text ≤ length (run_from env next (prefix ++ others)).text)
          → (v : Verdict) → evaluated_next env r line ≡ v
          → length (run_from env r (line ∷ prefix)).text
          ≤ length (run_from env r (line ∷ (prefix ++ others))).text
      by_verdict fewer (accepted report next) e =
          let after_line = reached_after r line report next in
          rw (
            refused_run env r line (accepted report next) prefix e,
            refused_run env r line (accepted report next) (prefix ++ others) e,
          )
          (omega (
            arith,
            fewer after_line,
            length-append report (run_from env after_line prefix).text,
            length-append report (run_from env after_line (prefix ++ others)).text,
          ))
      by_verdict fewer (refused why) e =
          rw (
            refused_run env r line (refused why) prefix e,
            refused_run env r line (refused why) (prefix ++ others) e,
          ) (omega arith)
      by_verdict fewer foreign e =
          rw (refused_run env r line foreign prefix e, refused_run env r line foreign (prefix ++ others) e)
          (omega arith)
      by_verdict fewer not_evaluated e =
          rw (refused_run env r line not_evaluated prefix e, refused_run env r line not_evaluated (prefix ++ others) e)
          (omega arith)

-- ---- how a run ends

begun_judged : (held : List ℕ) → LineIsBegun held → filter can_be_evaluated (lines held) ≡ []
unfolding lines
begun_judged [] h = refl
begun_judged (o ∷ os) h =
    let one : lines (o ∷ os) ≡ (o ∷ os) ∷ [] = open_line (o ∷ os) (λ e. cc) h.free in
    let not_yet : can_be_evaluated (o ∷ os) ≡ false = or_from (has_feed (o ∷ os)) (ltb 32768 (length (o ∷ os))) h.free
    (le-ltb 32768 (length (o ∷ os)) h.short) in
    ap (filter can_be_evaluated) one ∙ rw not_yet refl

-- the first line that can be evaluated, and those after it
pub record Evaluated (line : List ℕ) (ls : List (List ℕ)) : Type 0 where
  pub others : List (List ℕ)
  pub are : ls ≡ line ∷ others

first_judged : (held : List ℕ) (count : ℕ) → HasLine count held
    → Evaluated (take count held) (filter can_be_evaluated (lines held))
first_judged held count h = by_line h.line where
  by_line : IsWhole (take count held) ⊎ (IsTooLong held × (count ≡ length held))
      → Evaluated (take count held) (filter can_be_evaluated (lines held))
  by_line (inl whole) = record {
    others = filter can_be_evaluated (lines (drop count held));
    are = ap (λ (t : List ℕ). filter can_be_evaluated (lines t)) (sym (take-append-drop count held))
        ∙ ap (filter can_be_evaluated) (whole_first (take count held) (drop count held) whole)
        ∙ rw (judged_whole (take count held) whole) refl;
  }
  by_line (inr long) =
      let all : take count held ≡ held = take_all count held (omega (arith, long.1)) in
      let some : held ≢ [] = λ e. let none = ap length e in omega (arith, none, long.0.long) in
      let now : can_be_evaluated held ≡ true = or_right (has_feed held) (ltb 32768 (length held))
      (lt-ltb 32768 (length held) long.0.long) in
      record {
        others = [];
        are = ap (filter can_be_evaluated) (open_line held some long.0.free)
            ∙ rw now (ap (λ (t : List ℕ). t ∷ []) (sym all));
      }

longer : {Short : Type 0} (a b d : Option (List ℕ)) (text report more : List ℕ) → GainsText a b text
    → GainsPrefix b d more Short → length report ≤ length text → LacksText a d report → ⊥
longer None b d text report more p f le h = h
longer (Some x) None d text report more p f le h = p
longer (Some x) (Some y) None text report more p f le h = h
longer (Some x) (Some y) (Some z) text report more p f le h =
    omega (arith, h, le, ap length p, ap length f.gained, length-append x text, length-append y f.written)

-- a text that was cut short is lacking
short_lacks : {Short : Type 0} (a d : Option (List ℕ)) (text : List ℕ) → GainsPrefix a d text Short → Short
    → IfSome a (λ _. LacksText a d text)
short_lacks None d text f short = tt
short_lacks (Some x) None text f short = absurd f.gained
short_lacks (Some x) (Some y) text f short =
    let some : 0 < length f.rest = elim (leb_tells (length f.rest) 0) [
      | inl none ↦ absurd (f.short short (nil_from_length f.rest (omega (arith, none.1))))
      | inr more ↦ more.1
    ] in
    omega (
      arith,
      some,
      ap length f.gained,
      length-append x f.written,
      ap length f.parts,
      length-append f.written f.rest,
    )

-- ---- the line of the first octet that is lacking

-- the output lacks nothing of the report of the first `before` lines, and something of that of one line more
record FirstLack (env : RunEnvironment) (x y input : List ℕ) : Type 0 where
  pub before : ℕ
  pub there : LacksText (Some x) (Some y) (report_through env before input) → ⊥
  pub lacks : LacksText (Some x) (Some y) (report_through env (before + 1) input)

first_lack : (env : RunEnvironment) (x y input : List ℕ) (n : ℕ) → length x ≤ length y
    → LacksText (Some x) (Some y) (report_through env n input) → FirstLack env x y input
first_lack env x y input zero le h =
    let none : length (report_through env 0 input) ≡ 0 =
    ap (λ (s : ScriptRun). length s.text) (no_lines env nothing_reached) in
    absurd (omega (arith, le, h, none))
first_lack env x y input (suc n) le h =
    elim (leb_tells (length x + length (report_through env n input)) (length y)) [
      | inl there ↦ record {
        before = n;
        there = λ l. omega (arith, l, there.1);
        lacks = subst (λ (i : ℕ). LacksText (Some x) (Some y) (report_through env i input)) (suc-eq-add-one n) h;
      }
      | inr lacks ↦ first_lack env x y input n le (omega (arith, lacks.1))
    ]

falls_short : {Short : Type 0} (env : RunEnvironment) (a d : Option (List ℕ)) (input rest : List ℕ)
    → ((n : ℕ) → LacksText a d (report_through env n input) → IsTakenNear n input rest)
    → GainsPrefix a d (run_of env input).text Short → Short
    → IfSome a (λ _. FallsShortNear env a d input rest)
falls_short env None d input rest near f short = tt
falls_short env (Some x) None input rest near f short = absurd f.gained
falls_short env (Some x) (Some y) input rest near f short =
    let all = length (lines input) in
    let whole : report_through env all input ≡ (run_of env input).text =
    ap (report_of env) (take_all all (lines input) (omega arith)) in
    let lacks = subst (LacksText (Some x) (Some y)) (sym whole)
    (short_lacks (Some x) (Some y) (run_of env input).text f short) in
    let first = first_lack env x y input all (omega (arith, ap length f.gained, length-append x f.written)) lacks in
    record {
      before = first.before;
      there = first.there;
      lacks = first.lacks;
      near = near (first.before + 1) first.lacks;
    }

module _ (env : RunEnvironment) (held : List ℕ) (r : Reached) (a b d : Option (List ℕ)) (input rest : List ℕ)
    (so_far : Carried env held r a b input rest) where
  lines_are : lines input ≡ so_far.done ++ lines (held ++ rest)
  lines_are = ap lines so_far.parts ∙ so_far.cut (held ++ rest)

  octets_within : (n : ℕ) → r.lines ≤ n → length so_far.octets ≤ end_of_line n input
  octets_within n le =
      let count : length so_far.done ≤ n = omega (arith, le, so_far.count) in
      let more = take (n - length so_far.done) (lines (held ++ rest)) in
      let size : n ≡ length so_far.done + (n - length so_far.done) = omega arith in
      let first : take n (lines input) ≡ so_far.done ++ more = ap (take n) lines_are
      ∙ ap (λ (i : ℕ). take i (so_far.done ++ lines (held ++ rest))) size
      ∙ take-append-add so_far.done (lines (held ++ rest)) (n - length so_far.done) in
      let all : concat (take n (lines input)) ≡ so_far.octets ++ concat more = ap concat first
      ∙ concat-append so_far.done more ∙ ap (λ (t : List ℕ). t ++ concat more) so_far.joined in
      omega (arith, ap length all, length-append so_far.octets (concat more))

  near : (n : ℕ) → r.lines ≤ n → length held ≤ 65536 → IsTakenNear n input rest
  near n le few =
      omega (
        arith,
        octets_within n le,
        few,
        ap length so_far.parts,
        length-append so_far.octets (held ++ rest),
        length-append held rest,
      )

  few_printed : (n : ℕ) → n ≤ r.lines → length (report_through env n input) ≤ length so_far.text
  few_printed n le =
      let count : n ≤ length so_far.done = omega (arith, le, so_far.count) in
      let first : take n (lines input) ≡ take n so_far.done = ap (take n) lines_are
      ∙ take-append-le n so_far.done (lines (held ++ rest)) count in
      let fewer = fewer_lines env nothing_reached (take n so_far.done) (drop n so_far.done) in
      let all : report_of env (take n so_far.done ++ drop n so_far.done) ≡ so_far.text ++ [] =
      ap (report_of env) (take-append-drop n so_far.done ∙ sym (append-nil so_far.done))
      ∙ ap (λ (s : ScriptRun). s.text) (so_far.goes [] ∙ ap (after_text so_far.text) (no_lines env r)) in
      omega (
        arith,
        fewer,
        ap length all,
        length-append {A = ℕ} so_far.text [],
        ap (λ (t : List (List ℕ)). length (report_of env t)) first,
      )

  near_fault : {Short : Type 0} (more : List ℕ) → GainsPrefix b d more Short → length held ≤ 65536 → (n : ℕ)
      → LacksText a d (report_through env n input) → IsTakenNear n input rest
  near_fault more f few n lacks = elim (leb_tells r.lines n) [
    | inl le ↦ near n le.1 few
    | inr lt ↦ absurd (longer a b d so_far.text (report_through env n input) more so_far.gained f
        (few_printed n (omega (arith, lt.1))) lacks)
  ]

  prefix_so_far_is : {Short : Type 0} (others : List (List ℕ)) → filter can_be_evaluated (lines held) ≡ others
      → GainsPrefix b d (run_from env r others).text Short
      → GainsPrefix a d (report_of env (lines_so_far (taken input rest))) Short
  prefix_so_far_is {Short} others e f =
      let text : report_of env (lines_so_far (taken input rest)) ≡ so_far.text ++ (run_from env r others).text =
      ap (report_of env) (so_far_is env held r a b input rest so_far
      ∙ ap (λ (t : List (List ℕ)). so_far.done ++ t) e) ∙ ap (λ (s : ScriptRun). s.text) (so_far.goes others) in
      let P : List ℕ → Type 0 = λ t. GainsPrefix a d t Short in
      subst P (sym text) (prefix_after a b d so_far.text (run_from env r others).text so_far.gained f)

-- what was written is a prefix of what is reported of the lines that were taken
prefix_taken : {Short : Type 0} (env : RunEnvironment) (a d : Option (List ℕ)) (input rest : List ℕ)
    → GainsPrefix a d (run_of env input).text Short
    → GainsPrefix a d (report_of env (lines_so_far (taken input rest))) Short
    → GainsPrefix a d (report_of env (lines_taken input rest)) Short
prefix_taken env a d input [] whole part = whole
prefix_taken env a d input (o ∷ os) whole part = part

-- the source failed
pub ran_unread : (end : Option GroupState) (env : RunEnvironment) (held : List ℕ) (r : Reached) (a b : Option (List ℕ))
    (input rest : List ℕ) → Carried env held r a b input rest → LineIsBegun held
    → Ran env a b ReadFault end input rest
ran_unread end env held r a b input rest so_far begun =
    let script_run = run_is env held r a b input rest so_far in
    let prefix : GainsPrefix a b (run_of env input).text (ReadFault ≡ WriteFault) =
    prefix_so_far a b so_far.text (run_from env r (lines (held ++ rest))).text (run_of env input).text
    (ap (λ (s : ScriptRun). s.text) script_run) (λ e. absurd cc) so_far.gained in
    let lines_are_done : lines_so_far (taken input rest) ≡ so_far.done ++ [] =
    so_far_is env held r a b input rest so_far ∙ ap (λ (t : List (List ℕ)). so_far.done ++ t)
    (begun_judged held begun) in
    let text : report_of env (lines_so_far (taken input rest)) ≡ so_far.text =
    ap (report_of env) lines_are_done ∙ ap (λ (s : ScriptRun). s.text)
    (so_far.goes [] ∙ ap (after_text so_far.text) (no_lines env r)) ∙ append-nil so_far.text in
    let P : List ℕ → Type 0 = λ t. GainsText a b t in
    let exact : GainsText a b (report_of env (lines_so_far (taken input rest))) = subst P (sym text) so_far.gained in
    record {
      tells = record { ending = λ printed. absurd printed; text = λ printed. absurd printed; prefix = prefix };
      read_to_end = λ e. absurd cc;
      lines = record {
        prefix_of_taken = prefix_taken env a b input rest prefix
            (prefix_whole a b (report_of env (lines_so_far (taken input rest))) (λ e. cc) exact);
        exact_after_read_fault = λ e. exact;
        bounded_after_refusal = λ line at. absurd at;
        bounded_after_write_fault = λ e. absurd cc;
      };
      last = λ e. absurd cc;
    }

-- the run stopped at a line
module _ (env : RunEnvironment) (held : List ℕ) (r : Reached) (a b d : Option (List ℕ)) (input rest : List ℕ)
    (count : ℕ)
    (status : Status) (so_far : Carried env held r a b input rest) (h : HasLine count held)
    (few : length held ≤ 65536) (stops : Stops env r (take count held) b d status) where
  never : (other : Status) → (IsStopping other → ⊥) → status ≡ other → ⊥
  never other not_so e = not_so (subst IsStopping e stops.stops)

  pub ran_stopped : (end : Option GroupState) → Ran env a d status end input rest
  ran_stopped end =
      let line = take count held in
      let after_line = lines (drop count held ++ rest) in
      let script_run : run_of env input ≡ after_text so_far.text (run_from env r (line ∷ after_line)) =
      run_is env held r a b input rest so_far ∙ ap (after_text so_far.text)
      (first_line_run env r held rest count h) in
      let Q : ScriptRun → Type 0 = λ s. IsStatusOf s a d status in
      let tells = subst Q (sym script_run) (reports_after (run_from env r (line ∷ after_line)) a b d so_far.text status
      so_far.gained (stops.tells after_line)) in
      let first = first_judged held count h in
      let prefixes = stops.tells first.others in
      record {
        tells = tells;
        read_to_end = λ e. absurd (never Done (λ x. x) e);
        lines = record {
          prefix_of_taken = prefix_taken env a d input rest tells.prefix
              (prefix_so_far_is env held r a b d input rest so_far (line ∷ first.others) first.are prefixes.prefix);
          exact_after_read_fault = λ e. absurd (never ReadFault (λ x. x) e);
          bounded_after_refusal = λ n at. near env held r a b d input rest so_far n
              (omega (arith, stops.at n at)) few;
          bounded_after_write_fault = falls_short env a d input rest (near_fault env held r a b d input rest so_far
              (run_from env r (line ∷ after_line)).text (stops.tells after_line).prefix few) tells.prefix;
        };
        last = λ e. absurd (never Done (λ x. x) e);
      }

-- the run reached the end of its input
pub ran_finished : (env : RunEnvironment) (held : List ℕ) (r : Reached) (a b d : Option (List ℕ)) (input rest : List ℕ)
    (end : Option GroupState) (status : Status) → Carried env held r a b input rest → rest ≡ []
    → length held ≤ 65536 → Finishes env r (lines held) end b d status → Ran env a d status end input rest
ran_finished env held r a b d input rest end status so_far none few f =
    let script_run : run_of env input ≡ after_text so_far.text (run_from env r (lines held)) =
    run_is env held r a b input rest so_far ∙ ap (λ (t : List ℕ).
    after_text so_far.text (run_from env r (lines t)))
    (ap (λ (t : List ℕ). held ++ t) none ∙ append-nil held) in
    let Q : ScriptRun → Type 0 = λ s. IsStatusOf s a d status in
    let tells = subst Q (sym script_run) (reports_after (run_from env r (lines held)) a b d so_far.text status
    so_far.gained f.tells) in
    record {
      tells = tells;
      read_to_end = λ e. none;
      lines = record {
        prefix_of_taken = subst (λ (t : List ℕ). GainsPrefix a d (report_of env (lines_taken input t))
            (status ≡ WriteFault)) (sym none) tells.prefix;
        exact_after_read_fault = λ e. absurd (f.read e);
        bounded_after_refusal = λ n at. near env held r a b d input rest so_far n (omega (arith, f.at n at)) few;
        bounded_after_write_fault = falls_short env a d input rest (near_fault env held r a b d input rest so_far
            (run_from env r (lines held)).text f.tells.prefix few) tells.prefix;
      };
      last = λ e. let ends = f.last e in
          subst (LeavesWorld end) (sym script_run)
          (record { world = ends.world; keys = ends.keys; mirrors = ends.mirrors });
    }

-- ---- the last line

pub finishes_none : (env : RunEnvironment) (r : Reached) (a : Option (List ℕ)) (last : List ℕ) (end : Option GroupState)
    → last ≡ [] → LeavesWorld end (ended r.state [] ending.Done) → Finishes env r (lines last) end a a Done
unfolding lines
finishes_none env r a last end none leaves =
    let F : List ℕ → Type 0 = λ t. Finishes env r (lines t) end a a Done in
    let ends = no_lines env r in
    let T : ScriptRun → Type 0 = λ s. IsStatusOf s a a Done in
    subst F (sym none) (record {
      tells = subst T (sym ends) (record {
        ending = λ printed. refl;
        text = λ printed. nothing_gained a;
        prefix = prefix_whole a a [] (λ e. cc) (nothing_gained a);
      });
      at = λ number at. absurd at;
      read = λ e. cc;
      last = λ e. subst (LeavesWorld end) (sym ends) leaves;
    })

module _ (env : RunEnvironment) (r : Reached) (a b : Option (List ℕ)) (last : List ℕ) (end : Option GroupState)
    (some : last ≢ []) (begun : LineIsBegun last) where
  one_line : lines last ≡ last ∷ []
  one_line = open_line last some begun.free

  pub finishes_line : (next : Reached) → Took env r last next a b → LeavesWorld end (ended next.state [] ending.Done)
      → Finishes env r (lines last) end a b Done
  finishes_line next took leaves =
      let script_run : run_from env r (lines last) ≡ after_text took.report (ended next.state [] ending.Done) =
      ap (run_from env r) one_line ∙ goes_on env r last next a b took []
      ∙ ap (after_text took.report) (no_lines env next) in
      let all : took.report ≡ took.report ++ [] = sym (append-nil took.report) in
      let gained = subst (GainsText a b) all took.gained in
      let T : ScriptRun → Type 0 = λ s. IsStatusOf s a b Done in
      record {
        tells = subst T (sym script_run) (record {
          ending = λ printed. refl;
          text = λ printed. gained;
          prefix = prefix_whole a b (took.report ++ []) (λ e. cc) gained;
        });
        at = λ number at. absurd at;
        read = λ e. cc;
        last = λ e. subst (LeavesWorld end) (sym script_run)
            (record { world = leaves.world; keys = leaves.keys; mirrors = leaves.mirrors });
      }

  pub finishes_stopped : (status : Status) → Stops env r last a b status
      → Finishes env r (lines last) end a b status
  finishes_stopped status stops =
      let never : (other : Status) → (IsStopping other → ⊥) → status ≡ other
      → ⊥ = λ other not_so e. not_so (subst IsStopping e stops.stops) in
      let T : List (List ℕ) → Type 0 = λ ls. IsStatusOf (run_from env r ls) a b status in
      record {
        tells = subst T (sym one_line) (stops.tells []);
        at = stops.at;
        read = λ e. never ReadFault (λ x. x) e;
        last = λ e. absurd (never Done (λ x. x) e);
      }
