-- What a line that is taken does, by what it states.
use Rattle.std.proofs.Common.{◌≡◌, ℕ, List, [], map, Option, Some, None, Result, Ok, Err, refl, subst}
use Rattle.group_model.specs.World.{Environment, World}
use Rattle.group_model.specs.Steps.{after_event}
use Rattle.group_model.specs.Refusals as refusals
use Rattle.bench_world.specs.EventValues.{EventValue, group_event, event_report}
use Rattle.script_lang.specs.declared.line_fault.LineFault.{LineFault}
use Rattle.script_lang.specs.declared.line_fault.LineFault.TheVariants as line_fault
use Rattle.script_lang.specs.declared.check_fault.CheckFault.{CheckFault}
use Rattle.script_lang.specs.declared.check_fault.CheckFault.TheVariants as check_fault
use Rattle.script_lang.specs.Forms.{Stated}
use Rattle.script_lang.specs.Lines.{line_of}
use Rattle.script_lang.specs.Checking.{Declared, after_line, party_label}
use Rattle.script_story.specs.StatedEvents.{stated_event}
use Rattle.script_story.specs.ReportTexts.{report_text}
use Rattle.script_story.specs.Evaluation.{RunEnvironment, State, acted, acted_if, check_refused, checked, event_refused}
use Rattle.script_story.specs.Evaluation.{found_world, evaluated, evaluated_line, line_taken, mirrors_after, outside_of}
use Rattle.script_story.specs.Evaluation.{read}
use Rattle.script_story.specs.Evaluation.{accepted}
use Rattle.script_story.specs.Evaluation.{stepped, taken_by}
use Rattle.script_story.specs.ScriptRun.{Reached}
use Rattle.script_story.specs.Headline.{LineIsTaken}
use Rattle.script_story.proofs.HeadlineLines.{judged_by}
use Rattle.script_story.proofs.HeadlineTaken.{accepted_report, accepted_state}

-- An event was carried out.
pub record IsActed (env : RunEnvironment) (s : State) (d : Declared) (e : EventValue) (report : List ℕ)
    (new : State) : Type 0 where
  pub taken : refusals.refusal (outside_of env s.keys) (found_world env s) (group_event s.keys e) ≡ None
  pub text : report ≡ report_text (map party_label d.members)
      (event_report s.keys (outside_of env s.keys) (found_world env s) e)
  pub next : new ≡ record {
    declared = d;
    keys = s.keys;
    world = Some (after_event (outside_of env s.keys) (found_world env s) (group_event s.keys e));
    watchers = s.watchers;
    mirrors = mirrors_after (after_event (outside_of env s.keys) (found_world env s) (group_event s.keys e)) e
        s.mirrors;
  }

not_stated : (why : refusals.Refusal) (report : List ℕ) (new : State) → event_refused why ≡ accepted report new → ⊥
not_stated refusals.Refusal.NoSuchPacket report new h = cc
not_stated refusals.Refusal.FetcherBusy report new h = cc
not_stated refusals.Refusal.FetcherIdle report new h = cc
not_stated refusals.Refusal.NumbersSpent report new h = cc
not_stated refusals.Refusal.Foreign report new h = cc
not_stated refusals.Refusal.NoSuchNumber report new h = cc

pub acts_so : (env : RunEnvironment) (s : State) (d : Declared) (e : EventValue) (report : List ℕ) (new : State)
    → acted env s d e ≡ accepted report new → IsActed env s d e report new
unfolding acted
acts_so env s d e report new h = go (refusals.refusal out w (group_event s.keys e)) refl h where
  out : Environment
  out = outside_of env s.keys

  w : World
  w = found_world env s

  go : (o : Option refusals.Refusal) → refusals.refusal out w (group_event s.keys e) ≡ o
      → stepped out s d w e o ≡ accepted report new → IsActed env s d e report new
  go (Some why) is k = absurd (not_stated why report new k)
  go None is k = record {
    taken = is;
    text = accepted_report report _ new _ k;
    next = accepted_state report _ new _ k;
  }

-- A line states nothing, or it states what is taken after the lines before it.
pub data LineTaken (env : RunEnvironment) (s : State) (line report : List ℕ) (new : State) : Type 0 where
  nothing : line_of line ≡ Ok None → new ≡ s → LineTaken env s line report new
  stating : (stated : Stated) (d : Declared) → line_of line ≡ Ok (Some stated) → after_line s.declared stated ≡ Ok d
      → taken_by stated.verb env s d stated ≡ accepted report new → LineTaken env s line report new

pub not_checked : (fault : CheckFault) (report : List ℕ) (new : State) → check_refused fault ≡ accepted report new → ⊥
not_checked check_fault.NoGroup report new h = cc
not_checked check_fault.Late report new h = cc
not_checked check_fault.UnknownLabel report new h = cc
not_checked check_fault.Duplicate report new h = cc
not_checked check_fault.Limit report new h = cc
not_checked check_fault.TooLarge report new h = cc
not_checked check_fault.NoMemory report new h = cc

says_line : (env : RunEnvironment) (s : State) (line report : List ℕ) (new : State) → evaluated env s line
    ≡ accepted report new
    → LineTaken env s line report new
unfolding evaluated evaluated_line line_taken
says_line env s line report new h = go (line_of line) refl h where
  by_check : (stated : Stated) → line_of line ≡ Ok (Some stated) → (r : Result Declared CheckFault)
      → after_line s.declared stated ≡ r → checked env s stated r ≡ accepted report new
      → LineTaken env s line report new
  by_check stated is (Ok d) after k = stating stated d is after k
  by_check stated is (Err fault) after k = absurd (not_checked fault report new k)

  go : (r : Result (Option Stated) LineFault) → line_of line ≡ r → read env s r ≡ accepted report new
      → LineTaken env s line report new
  go (Ok (Some stated)) is k = by_check stated is (after_line s.declared stated) refl k
  go (Ok None) is k = nothing is (accepted_state report [] new s k)
  go (Err line_fault.Syntax) is k = cc
  go (Err line_fault.Limit) is k = cc
  go (Err line_fault.NoMemory) is k = cc

pub taken_line : (env : RunEnvironment) (r : Reached) (line report : List ℕ) (new : Reached)
    → LineIsTaken env r line report new
    → LineTaken env r.state line report new.state
taken_line env r line report new t =
    says_line env r.state line report new.state (judged_by env r line report new.state t.verdict)

none_or_stated : (r : Result (Option Stated) LineFault) (stated : Stated) → r ≡ Ok None → r ≡ Ok (Some stated) → ⊥
none_or_stated r stated none some = cc

one_stated : (r : Result (Option Stated) LineFault) (a b : Stated) → r ≡ Ok (Some a) → r ≡ Ok (Some b) → a ≡ b
one_stated r a b first second = cc

-- What a line states, where it is taken.
pub record StatedTaken (env : RunEnvironment) (s : State) (stated : Stated) (report : List ℕ) (new : State) : Type
    0 where
  pub d : Declared
  pub after : after_line s.declared stated ≡ Ok d
  pub is : taken_by stated.verb env s d stated ≡ accepted report new

pub stated_taken : (env : RunEnvironment) (s : State) (line report : List ℕ) (new : State) (stated : Stated)
    → line_of line ≡ Ok (Some stated) → LineTaken env s line report new → StatedTaken env s stated report new
stated_taken env s line report new stated is (nothing none same) =
    absurd (none_or_stated (line_of line) stated none is)
stated_taken env s line report new stated is (stating other d read after taken) =
    subst (λ (x : Stated). StatedTaken env s x report new) (one_stated (line_of line) other stated read is)
    (record { d = d; after = after; is = taken })

-- The event of a line that is taken was carried out.
pub acted_stated : (env : RunEnvironment) (s : State) (d : Declared) (stated : Stated) (report : List ℕ) (new : State)
    → (o : Option EventValue) → stated_event d stated ≡ o → acted_if env s d o ≡ accepted report new
    → (e : EventValue) × (stated_event d stated ≡ Some e) × IsActed env s d e report new
acted_stated env s d stated report new (Some e) is h = (e, is, acts_so env s d e report new h)
acted_stated env s d stated report new None is h = cc
