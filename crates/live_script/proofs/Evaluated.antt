-- Each line of an input is taken, or refused for a reason that a live group's input has.
use Rattle.std.proofs.Common.{◌≡◌, ◌≢◌, ℕ, Bool, true, false, List, [], ◌∷◌, Option, Some, None, Result, Ok, Err}
use Rattle.std.proofs.Common.{refl, if◌then◌else◌}
use Rattle.std.specs.Prelude.{IfErr}
use Rattle.script_lang.specs.declared.verb.Verb.{Verb}
use Rattle.script_lang.specs.declared.verb.Verb.TheVariants as verb
use Rattle.script_lang.specs.declared.line_fault.LineFault.{LineFault}
use Rattle.script_lang.specs.declared.line_fault.LineFault.TheVariants as line_fault
use Rattle.script_lang.specs.declared.check_fault.CheckFault.{CheckFault}
use Rattle.script_lang.specs.declared.check_fault.CheckFault.TheVariants as check_fault
use Rattle.script_lang.specs.Kinds.{Value, Text, Anyone, Number, Named, Octets}
use Rattle.script_lang.specs.Forms.{Stated, AreShaped, form}
use Rattle.script_lang.specs.Lines.{line_of}
use Rattle.script_lang.specs.Checking.{Declared, after_line}
use Rattle.script_lang.proofs.RefusalLemmas.{checked_for_a_cause, read_for_a_cause}
use Rattle.script_lang.proofs.StatedForms.{read_in_its_form}
use Rattle.live_script.specs.Evaluation.{Reached, refused, counted, taken_by, may_stand, checked}
use Rattle.live_script.specs.Evaluation.{check_refused, evaluated_line, evaluated_read, is_within_input, is_few}
use Rattle.live_script.specs.Evaluation.{with_object, member_number, cut_object, IsEvaluated, EachLineIsEvaluated}
use Rattle.script_report.specs.declared.refusal.Refusal.TheVariants as refusal

counted_or_large : (b : Bool) (line : List ℕ) (next : Reached)
    → IsEvaluated (if b then counted line next else refused refusal.TooLarge)
counted_or_large true line next = tt
counted_or_large false line next = refl

-- ---- the three forms that may stand there

-- What such a form states is evaluated, whatever its values are.
abbrev FormIsJudged : Verb → Type 0
FormIsJudged v = (r : Reached) (line : List ℕ) (d : Declared) (values : List Value) → AreShaped (form v).kinds values
    → IsEvaluated (taken_by v r line d values)

group_judged : FormIsJudged verb.Group
group_judged r line d (Named name ∷ []) shaped = tt
group_judged r line d [] shaped = absurd shaped
group_judged r line d (Text other ∷ values) shaped = absurd shaped.0
group_judged r line d (Anyone ∷ values) shaped = absurd shaped.0
group_judged r line d (Number other ∷ values) shaped = absurd shaped.0
group_judged r line d (Octets other ∷ values) shaped = absurd shaped.0
group_judged r line d (Named name ∷ value ∷ values) shaped = absurd shaped.1

member_judged : FormIsJudged verb.Member
member_judged r line d (Text label ∷ Named node ∷ Octets key ∷ []) shaped = tt
member_judged r line d [] shaped = absurd shaped
member_judged r line d (Anyone ∷ values) shaped = absurd shaped.0
member_judged r line d (Number other ∷ values) shaped = absurd shaped.0
member_judged r line d (Named other ∷ values) shaped = absurd shaped.0
member_judged r line d (Octets other ∷ values) shaped = absurd shaped.0
member_judged r line d (Text label ∷ []) shaped = absurd shaped.1
member_judged r line d (Text label ∷ Text other ∷ values) shaped = absurd shaped.1.0
member_judged r line d (Text label ∷ Anyone ∷ values) shaped = absurd shaped.1.0
member_judged r line d (Text label ∷ Number other ∷ values) shaped = absurd shaped.1.0
member_judged r line d (Text label ∷ Octets other ∷ values) shaped = absurd shaped.1.0
member_judged r line d (Text label ∷ Named node ∷ []) shaped = absurd shaped.1.1
member_judged r line d (Text label ∷ Named node ∷ Text other ∷ values) shaped = absurd shaped.1.1.0
member_judged r line d (Text label ∷ Named node ∷ Anyone ∷ values) shaped = absurd shaped.1.1.0
member_judged r line d (Text label ∷ Named node ∷ Number other ∷ values) shaped = absurd shaped.1.1.0
member_judged r line d (Text label ∷ Named node ∷ Named other ∷ values) shaped = absurd shaped.1.1.0
member_judged r line d (Text label ∷ Named node ∷ Octets key ∷ value ∷ values) shaped = absurd shaped.1.1.1

publish_judged : FormIsJudged verb.Publish
publish_judged r line d (Text m ∷ Named name ∷ Number size ∷ Octets content ∷ []) shaped =
    let lists = with_object (member_number m d.members) (cut_object name size content) r.lists in
    counted_or_large (is_few d lists) line _
publish_judged r line d [] shaped = absurd shaped
publish_judged r line d (Anyone ∷ values) shaped = absurd shaped.0
publish_judged r line d (Number other ∷ values) shaped = absurd shaped.0
publish_judged r line d (Named other ∷ values) shaped = absurd shaped.0
publish_judged r line d (Octets other ∷ values) shaped = absurd shaped.0
publish_judged r line d (Text m ∷ []) shaped = absurd shaped.1
publish_judged r line d (Text m ∷ Text other ∷ values) shaped = absurd shaped.1.0
publish_judged r line d (Text m ∷ Anyone ∷ values) shaped = absurd shaped.1.0
publish_judged r line d (Text m ∷ Number other ∷ values) shaped = absurd shaped.1.0
publish_judged r line d (Text m ∷ Octets other ∷ values) shaped = absurd shaped.1.0
publish_judged r line d (Text m ∷ Named name ∷ []) shaped = absurd shaped.1.1
publish_judged r line d (Text m ∷ Named name ∷ Text other ∷ values) shaped = absurd shaped.1.1.0
publish_judged r line d (Text m ∷ Named name ∷ Anyone ∷ values) shaped = absurd shaped.1.1.0
publish_judged r line d (Text m ∷ Named name ∷ Named other ∷ values) shaped = absurd shaped.1.1.0
publish_judged r line d (Text m ∷ Named name ∷ Octets other ∷ values) shaped = absurd shaped.1.1.0
publish_judged r line d (Text m ∷ Named name ∷ Number size ∷ []) shaped = absurd shaped.1.1.1
publish_judged r line d (Text m ∷ Named name ∷ Number size ∷ Text other ∷ values) shaped = absurd shaped.1.1.1.0
publish_judged r line d (Text m ∷ Named name ∷ Number size ∷ Anyone ∷ values) shaped = absurd shaped.1.1.1.0
publish_judged r line d (Text m ∷ Named name ∷ Number size ∷ Number other ∷ values) shaped = absurd shaped.1.1.1.0
publish_judged r line d (Text m ∷ Named name ∷ Number size ∷ Named other ∷ values) shaped = absurd shaped.1.1.1.0
publish_judged r line d (Text m ∷ Named name ∷ Number size ∷ Octets content ∷ value ∷ values) shaped =
    absurd shaped.1.1.1.1

taken_judged : (v : Verb) → may_stand v ≡ true → FormIsJudged v
taken_judged verb.Group may = group_judged
taken_judged verb.Member may = member_judged
taken_judged verb.Publish may = publish_judged
taken_judged v may = absurd cc

check_judged : (fault : CheckFault) → fault ≢ check_fault.NoMemory → IsEvaluated (check_refused fault)
check_judged check_fault.NoGroup cause = refl
check_judged check_fault.Late cause = refl
check_judged check_fault.UnknownLabel cause = refl
check_judged check_fault.Duplicate cause = refl
check_judged check_fault.Limit cause = refl
check_judged check_fault.TooLarge cause = refl
check_judged check_fault.NoMemory cause = absurd (cause refl)

-- ---- any line

line_judged : (r : Reached) (octets : List ℕ) (s : Stated) → line_of octets ≡ Ok (Some s)
    → IsEvaluated (evaluated_line r octets s)
unfolding evaluated_line
line_judged r octets s is = by_verb (may_stand s.verb) refl where
  shaped : AreShaped (form s.verb).kinds s.values
  shaped = read_in_its_form octets s is

  by_check : may_stand s.verb ≡ true → (c : Result Declared CheckFault) → IfErr c (λ f. f ≢ check_fault.NoMemory)
      → IsEvaluated (checked r octets s c)
  by_check may (Ok d) cause = taken_judged s.verb may r octets d s.values shaped
  by_check may (Err fault) cause = check_judged fault cause

  by_verb : (b : Bool) → may_stand s.verb ≡ b
      → IsEvaluated (if b then checked r octets s (after_line r.declared s) else refused refusal.NotLive)
  by_verb true may = by_check may (after_line r.declared s) (checked_for_a_cause r.declared s shaped)
  by_verb false may = refl

read_judged : (r : Reached) (octets : List ℕ) → IsEvaluated (evaluated_read r octets (line_of octets))
read_judged r octets = go (line_of octets) refl (read_for_a_cause octets) where
  go : (l : Result (Option Stated) LineFault) → line_of octets ≡ l → IfErr l (λ f. f ≢ line_fault.NoMemory)
      → IsEvaluated (evaluated_read r octets l)
  go (Ok (Some s)) is cause = line_judged r octets s is
  go (Ok None) is cause = tt
  go (Err line_fault.Syntax) is cause = refl
  go (Err line_fault.Limit) is cause = refl
  go (Err line_fault.NoMemory) is cause = absurd (cause refl)

pub each_line_is_evaluated : EachLineIsEvaluated
each_line_is_evaluated r octets = go (is_within_input r octets) where
  go : (b : Bool) → IsEvaluated (if b then evaluated_read r octets (line_of octets) else refused refusal.Limit)
  go true = read_judged r octets
  go false = refl
