-- How many octets the lines that are taken have, and the outcome of an input that is too long.
use Rattle.std.proofs.Common.{◌≡◌, ◌∙◌, ℕ, ◌+◌, ◌<◌, ◌≤◌, Bool, true, false, nat_lt, List, [], ◌∷◌, ◌++◌}
use Rattle.std.proofs.Common.{length}
use Rattle.std.proofs.Common.{Option, Some, None, Result, Ok, Err, refl, ap, subst, append_assoc, length-append}
use Rattle.std.proofs.Common.{arith, inl, inr}
use Rattle.std.proofs.Common.{if◌then◌else◌}
use Rattle.std.specs.List.{concat}
use Rattle.std.proofs.lemmas.Bool.{and_parts}
use Rattle.std.proofs.lemmas.List.{append-nil}
use Rattle.script_lang.proofs.Conditions.{le_tested}
use Rattle.repo_io.specs.Lines.{AreLines, lines}
use Rattle.repo_io.proofs.LineLaws.{Begins, lines_are_lines, lines_joined, long_line, whole_first}
use Rattle.script_lang.specs.declared.verb.Verb.{Verb}
use Rattle.script_lang.specs.declared.verb.Verb.TheVariants as verb
use Rattle.script_lang.specs.declared.line_fault.LineFault.{LineFault}
use Rattle.script_lang.specs.declared.line_fault.LineFault.TheVariants as line_fault
use Rattle.script_lang.specs.declared.check_fault.CheckFault.{CheckFault}
use Rattle.script_lang.specs.declared.check_fault.CheckFault.TheVariants as check_fault
use Rattle.script_lang.specs.Kinds.{Value, Text, Number, Named, Octets}
use Rattle.script_lang.specs.Forms.{Stated}
use Rattle.script_lang.specs.Lines.{line_of}
use Rattle.script_lang.specs.Checking.{Declared, after_line}
use Rattle.script_report.specs.declared.refusal.Refusal.{Refusal}
use Rattle.script_report.specs.declared.refusal.Refusal.TheVariants as refusal
use Rattle.live_script.specs.Evaluation.{Reached, Verdict, check_refused, checked, counted, cut_object, is_few}
use Rattle.live_script.specs.Evaluation.{is_within_input}
use Rattle.live_script.specs.Evaluation.{evaluated, evaluated_line, evaluated_read, may_stand, member_number, refused}
use Rattle.live_script.specs.Evaluation.{taken_by}
use Rattle.live_script.specs.Evaluation.{takes}
use Rattle.live_script.specs.Evaluation.{not_evaluated, with_object}
use Rattle.live_top.specs.Outcomes.{Refused, Taken, outcome_after, outcome_from, outcome_of}

-- ---- octets that are taken

-- Where the line is taken, its octets are counted.
abbrev Counts : Reached → List ℕ → Verdict → Type 0
Counts r line (refused why) = Unit {0}
Counts r line (takes next) = next.octets ≡ r.octets + length line
Counts r line not_evaluated = Unit {0}

few_counts : (b : Bool) (r : Reached) (line : List ℕ) (next : Reached) → next.octets ≡ r.octets
    → Counts r line (if b then counted line next else refused refusal.TooLarge)
few_counts true r line next same = ap (λ n. n + length line) same
few_counts false r line next same = tt

taken_counts : (v : Verb) (r : Reached) (line : List ℕ) (d : Declared) (values : List Value)
    → Counts r line (taken_by v r line d values)
taken_counts verb.Group r line d (Named name ∷ []) = refl
taken_counts verb.Member r line d (Text label ∷ Named node ∷ Octets key ∷ []) = refl
taken_counts verb.Publish r line d (Text m ∷ Named name ∷ Number size ∷ Octets content ∷ []) =
    few_counts (is_few d (with_object (member_number m d.members) (cut_object name size content) r.lists)) r line _ refl
taken_counts v r line d values = tt

check_counts : (r : Reached) (line : List ℕ) (fault : CheckFault) → Counts r line (check_refused fault)
check_counts r line check_fault.NoGroup = tt
check_counts r line check_fault.Late = tt
check_counts r line check_fault.UnknownLabel = tt
check_counts r line check_fault.Duplicate = tt
check_counts r line check_fault.Limit = tt
check_counts r line check_fault.TooLarge = tt
check_counts r line check_fault.NoMemory = tt

line_counts : (r : Reached) (line : List ℕ) (s : Stated) → Counts r line (evaluated_line r line s)
unfolding evaluated_line
line_counts r line s = by_verb (may_stand s.verb) where
  by_check : (c : Result Declared CheckFault) → Counts r line (checked r line s c)
  by_check (Ok d) = taken_counts s.verb r line d s.values
  by_check (Err fault) = check_counts r line fault

  by_verb : (b : Bool)
      → Counts r line (if b then checked r line s (after_line r.declared s) else refused refusal.NotLive)
  by_verb true = by_check (after_line r.declared s)
  by_verb false = tt

read_counts : (r : Reached) (line : List ℕ) (l : Result (Option Stated) LineFault)
    → Counts r line (evaluated_read r line l)
read_counts r line (Ok (Some s)) = line_counts r line s
read_counts r line (Ok None) = refl
read_counts r line (Err line_fault.Syntax) = tt
read_counts r line (Err line_fault.Limit) = tt
read_counts r line (Err line_fault.NoMemory) = tt

-- A line that is taken is within the input's limits, and counted.
record IsCounted (r : Reached) (line : List ℕ) (next : Reached) : Type 0 where
  octets : next.octets ≡ r.octets + length line
  within : r.octets + length line ≤ 16777216

counted_line : (r : Reached) (line : List ℕ) (next : Reached) → evaluated r line ≡ takes next → IsCounted r line next
counted_line r line next is = go (is_within_input r line) refl is where
  go : (b : Bool) → is_within_input r line ≡ b
      → (if b then evaluated_read r line (line_of line) else refused refusal.Limit) ≡ takes next → IsCounted r line next
  go true fits h = record {
    octets = subst (Counts r line) h (read_counts r line (line_of line));
    within = le_tested (r.octets + length line) 16777216 (and_parts (nat_lt r.lines 100000) _ fits).1;
  }
  go false fits h = absurd cc

-- A line that goes beyond the limit is refused for it.
too_long : (r : Reached) (line : List ℕ) → 16777216 < r.octets + length line → evaluated r line ≡ refused refusal.Limit
too_long r line more = go (is_within_input r line) refl where
  go : (b : Bool) → is_within_input r line ≡ b
      → (if b then evaluated_read r line (line_of line) else refused refusal.Limit) ≡ refused refusal.Limit
  go true fits =
      let few = le_tested (r.octets + length line) 16777216 (and_parts (nat_lt r.lines 100000) _ fits).1 in
      absurd (omega (arith, few, more))
  go false fits = refl

-- ---- all lines

taken_within : (r : Reached) (ls : List (List ℕ)) (end : Reached) → outcome_from r ls ≡ Taken end
    → r.octets ≤ 16777216 → r.octets + length (concat ls) ≤ 16777216
unfolding outcome_from
taken_within r [] end is few = omega (arith, few)
taken_within r (line ∷ ls) end is few =
    go (evaluated r line) refl is (λ next h less. taken_within next ls end h less) where
      go : (v : Verdict) → evaluated r line ≡ v
          → outcome_after (λ next. outcome_from next ls) (r.lines + 1) v ≡ Taken end
          → ((next : Reached) → outcome_from next ls ≡ Taken end → next.octets ≤ 16777216
          → next.octets + length (concat ls) ≤ 16777216)
          → r.octets + length (line ++ concat ls) ≤ 16777216
      go (refused why) j h others = absurd cc
      go (takes next) j h others =
          let one = counted_line r line next j in
          let rest = others next h (omega (arith, one.octets, one.within)) in
          omega (arith, rest, one.octets, length-append line (concat ls))
      go not_evaluated j h others = absurd cc

pub input_within : (input : List ℕ) (end : Reached) → outcome_of input ≡ Taken end → length input ≤ 16777216
input_within input end is =
    let all = taken_within _ (lines input) end is (omega arith) in
    omega (arith, all, ap length (lines_joined input))

-- ---- more octets behind an input that is too long already

refused_alike : (r : Reached) (line longer : List ℕ) (ls others : List (List ℕ)) → 16777216 < r.octets + length line
    → length line ≤ length longer → outcome_from r (longer ∷ others) ≡ outcome_from r (line ∷ ls)
unfolding outcome_from
refused_alike r line longer ls others more wide =
    rw (too_long r line more, too_long r longer (omega (arith, more, wide))) refl

refused_longer : (r : Reached) (ls : List (List ℕ)) (after : List ℕ) (n : ℕ) (why : Refusal) → AreLines ls
    → 16777216 < r.octets + length (concat ls) → outcome_from r ls ≡ Refused n why
    → outcome_from r (lines (concat ls ++ after)) ≡ Refused n why
unfolding outcome_from
refused_longer r [] after n why are more is = absurd cc
refused_longer r (line ∷ []) after n why (inl whole) more is =
    let joined : line ++ [] ≡ line = append-nil line in
    let long : 16777216 < r.octets + length line = omega (arith, more, ap length joined) in
    rw (joined, whole_first line after whole)
    (refused_alike r line line [] (lines after) long (omega arith) ∙ is)
refused_longer r (line ∷ []) after n why (inr unended) more is =
    let joined : line ++ [] ≡ line = append-nil line in
    let long : 16777216 < r.octets + length line = omega (arith, more, ap length joined) in
    let first : Begins line (lines (line ++ after)) = long_line line after unended.some unended.free in
    rw (joined, first.is)
    (refused_alike r line (line ++ first.rest) [] first.others long
    (omega (arith, length-append line first.rest)) ∙ is)
refused_longer r (line ∷ next ∷ ls) after n why are more is =
    let cut : lines ((line ++ concat (next ∷ ls)) ++ after) ≡ line ∷ lines (concat (next ∷ ls) ++ after) =
    ap lines (append_assoc line (concat (next ∷ ls)) after) ∙ whole_first line (concat (next ∷ ls) ++ after) are.0 in
    rw cut (go (evaluated r line) refl is (λ m long h. refused_longer m (next ∷ ls) after n why are.1 long h)) where
      go : (v : Verdict) → evaluated r line ≡ v
          → outcome_after (λ m. outcome_from m (next ∷ ls)) (r.lines + 1) v ≡ Refused n why
          → ((m : Reached) → 16777216 < m.octets + length (concat (next ∷ ls))
          → outcome_from m (next ∷ ls) ≡ Refused n why
          → outcome_from m (lines (concat (next ∷ ls) ++ after)) ≡ Refused n why)
          → outcome_after (λ m. outcome_from m (lines (concat (next ∷ ls) ++ after))) (r.lines + 1) v ≡ Refused n why
      go (refused w) j h others = h
      go (takes m) j h others =
          let one = counted_line r line m j in
          others m (omega (arith, more, one.octets, length-append line (concat (next ∷ ls)))) h
      go not_evaluated j h others = absurd cc

-- An input that is longer than the limit and refused is refused in the same way whatever octets follow it.
pub refused_whole : (input after : List ℕ) (n : ℕ) (why : Refusal) → 16777216 < length input
    → outcome_of input ≡ Refused n why → outcome_of (input ++ after) ≡ Refused n why
refused_whole input after n why more is =
    let joined : concat (lines input) ≡ input = lines_joined input in
    subst (λ (octets : List ℕ). outcome_of (octets ++ after) ≡ Refused n why) joined
    (refused_longer _ (lines input) after n why (lines_are_lines input) (omega (arith, more, ap length joined)) is)
