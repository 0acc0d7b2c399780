-- The verdicts on lines, case by case.
use Rattle.std.proofs.Common.{◌≡◌, ◌∙◌, ℕ, List, [], ◌∷◌, ◌++◌, length, map}
use Rattle.std.proofs.Common.{Option}
use Rattle.std.proofs.Common.{Some, None, Ok, Err, ◌⊎◌, inl, inr, refl, sym, ap, subst}
use Rattle.std.specs.Option.{option_map}
use Rattle.ndn_name.specs.Names.{Component}
use Rattle.script_lang.specs.declared.line.Line.{Line}
use Rattle.script_lang.specs.declared.line.Line.TheVariants as line
use Rattle.script_lang.specs.declared.verb.Verb.TheVariants as verb
use Rattle.script_lang.specs.declared.line_fault.LineFault.{LineFault}
use Rattle.script_lang.specs.declared.line_fault.LineFault.TheVariants as line_fault
use Rattle.script_lang.specs.declared.check_fault.CheckFault.{CheckFault}
use Rattle.script_lang.specs.declared.check_fault.CheckFault.TheVariants as check_fault
use Rattle.script_lang.specs.Kinds.{Value, Text, Named, Octets}
use Rattle.script_lang.specs.Forms.{Stated, statement, stated}
use Rattle.script_lang.specs.Lines.{line_of}
use Rattle.script_lang.specs.Reading.{IsReadFault}
use Rattle.script_lang.specs.Checking.{Declared, after_line}
use Rattle.script_lang.specs.Checking.{party_label}
use Rattle.group_model.specs.World.{Environment, World}
use Rattle.group_model.specs.Steps.{after_event as after_group_event}
use Rattle.group_model.specs.Refusals as group
use Rattle.bench_world.specs.EventValues.{EventValue, group_event, event_report}
use Rattle.script_story.specs.Mirrors.{mirror_begins}
use Rattle.script_story.specs.StatedEvents.{pattern_for, publisher_number, stated_event}
use Rattle.script_story.specs.ReportTexts.{report_text}
use Rattle.script_story.specs.Evaluation.{RunEnvironment, State, accepted, acted, acted_by, found_world, group_named}
use Rattle.script_story.specs.Evaluation.{evaluated}
use Rattle.script_story.specs.Evaluation.{evaluated_line, line_taken, mirrors_begin, mirrors_after, outside_of, read}
use Rattle.script_story.specs.Evaluation.{stepped}
use Rattle.script_story.specs.Evaluation.{with_client_too, with_member_too}
use Rattle.script_lines.specs.declared.error.LineError.{LineError}
use Rattle.script_lines.specs.declared.error.LineError.TheVariants as error
use Rattle.script_lines.specs.RunStates.{IsEventLine, IsLineError, IsLineErrorOf}
use Rattle.script_lines.specs.LineErrors.{check_line_error, line_fault_error}
use Rattle.script_story.proofs.Declarations.{IsEvent, event_after}

-- ---- octets

pub evaluated_read : (env : RunEnvironment) (s : State) (octets : List ℕ) (found one : Option Line)
    → line_of octets ≡ Ok (option_map stated found) → found ≡ one
    → evaluated env s octets ≡ read env s (Ok (option_map stated one))
unfolding evaluated
evaluated_read env s octets found one h is =
    ap (read env s) h ∙ ap (λ (o : Option Line). read env s (Ok (option_map stated o))) is

pub evaluated_fault : (env : RunEnvironment) (s : State) (octets : List ℕ) (fault : LineFault)
    → IsReadFault fault (line_of octets)
    → IsLineError (evaluated env s octets) (line_fault_error fault)
unfolding evaluated
evaluated_fault env s octets line_fault.Syntax h = rw h refl
evaluated_fault env s octets line_fault.Limit h = rw h refl
evaluated_fault env s octets line_fault.NoMemory h = tt

-- ---- lines that are refused

stops_at : (env : RunEnvironment) (s : State) (l : Stated) (fault : CheckFault) → after_line s.declared l ≡ Err fault
    → IsLineError (evaluated_line env s l) (check_line_error fault)
unfolding evaluated_line
stops_at env s l check_fault.NoGroup h = rw h refl
stops_at env s l check_fault.Late h = rw h refl
stops_at env s l check_fault.UnknownLabel h = rw h refl
stops_at env s l check_fault.Duplicate h = rw h refl
stops_at env s l check_fault.Limit h = rw h refl
stops_at env s l check_fault.TooLarge h = rw h refl
stops_at env s l check_fault.NoMemory h = tt

pub refused_line : (env : RunEnvironment) (s : State) (l : Stated) (fault : CheckFault)
    → (fault ≡ check_fault.NoMemory) ⊎ (after_line s.declared l ≡ Err fault)
    → IsLineError (evaluated_line env s l) (check_line_error fault)
refused_line env s l fault (inl out) =
    subst (λ (f : CheckFault). IsLineError (evaluated_line env s l) (check_line_error f)) (sym out) tt
refused_line env s l fault (inr h) = stops_at env s l fault h

-- ---- lines that are taken

pub taken_line : (env : RunEnvironment) (s : State) (d : Declared) (l : Stated) → after_line s.declared l ≡ Ok d
    → evaluated_line env s l ≡ line_taken env s d l
unfolding evaluated_line
taken_line env s d l h = rw h refl

pub group_says : (env : RunEnvironment) (s : State) (d : Declared) (name : List Component)
    → line_taken env s d (statement verb.Group (Named name ∷ []))
    ≡ accepted [] (record {
      declared = d;
      keys = group_named name;
      world = s.world;
      watchers = s.watchers;
      mirrors = s.mirrors;
    })
unfolding line_taken
group_says env s d name = refl

pub member_says : (env : RunEnvironment) (s : State) (d : Declared) (label : List ℕ) (node : List Component)
    (key : List ℕ)
    → line_taken env s d (statement verb.Member (Text label ∷ Named node ∷ Octets key ∷ []))
    ≡ accepted [] (record {
      declared = d;
      keys = with_member_too node key s.keys;
      world = s.world;
      watchers = s.watchers ++ [] ∷ [];
      mirrors = mirrors_begin (with_member_too node key s.keys) s.mirrors;
    })
unfolding line_taken
member_says env s d label node key = refl

pub client_says : (env : RunEnvironment) (s : State) (d : Declared) (label : List ℕ) (node : List Component)
    (key : List ℕ)
    → line_taken env s d (statement verb.Client (Text label ∷ Named node ∷ Octets key ∷ []))
    ≡ accepted [] (record {
      declared = d;
      keys = with_client_too node key s.keys;
      world = s.world;
      watchers = s.watchers;
      mirrors = s.mirrors;
    })
unfolding line_taken
client_says env s d label node key = refl

pub mirror_says : (env : RunEnvironment) (s : State) (d : Declared) (label : List ℕ) (publisher : Value)
    (prefix : List Component)
    → line_taken env s d (statement verb.Mirror (Text label ∷ publisher ∷ Named prefix ∷ []))
    ≡ accepted [] (record {
      declared = d;
      keys = s.keys;
      world = s.world;
      watchers = s.watchers;
      mirrors = s.mirrors
          ++ mirror_begins (length s.keys.members.names) (pattern_for (publisher_number d publisher) prefix) ∷ [];
    })
unfolding line_taken
mirror_says env s d label publisher prefix = refl

pub event_says : (env : RunEnvironment) (s : State) (d : Declared) (l : Line) → IsEventLine l
    → line_taken env s d (stated l) ≡ acted_by env s d (stated l)
unfolding line_taken
event_says env s d (line.Group name) is = absurd is
event_says env s d (line.Member label name key) is = absurd is
event_says env s d (line.Client label name key) is = absurd is
event_says env s d (line.Watch m p name) is = absurd is
event_says env s d (line.Mirror label p name) is = absurd is
event_says env s d (line.Told m w) is = absurd is
event_says env s d (line.Mdeliver k l) is = absurd is
event_says env s d (line.Mfetch l workers tries loss) is = absurd is
event_says env s d (line.Mcatalogue l) is = absurd is
event_says env s d l is = refl

pub event_declares : (d e : Declared) (l : Line) → IsEventLine l → after_line d (stated l) ≡ Ok e
    → IsEvent d e (stated l)
event_declares d e (line.Group name) is h = absurd is
event_declares d e (line.Member label name key) is h = absurd is
event_declares d e (line.Client label name key) is h = absurd is
event_declares d e (line.Mirror label p name) is h = absurd is
event_declares d e l is h = event_after d e (stated l) h

pub acts : (env : RunEnvironment) (s : State) (d : Declared) (l : Stated) (e : EventValue) → Some e ≡ stated_event d l
    → acted_by env s d l ≡ acted env s d e
unfolding acted_by
acts env s d l e h = rw (sym h) refl

-- A line that is no declaration states an event.
pub states_some : (d : Declared) (l : Line) → IsEventLine l → None ≡ stated_event d (stated l) → ⊥
states_some d (line.Group name) is h = absurd is
states_some d (line.Member label name key) is h = absurd is
states_some d (line.Client label name key) is h = absurd is
states_some d (line.Watch m p name) is h = absurd is
states_some d (line.Mirror label p name) is h = absurd is
states_some d (line.Told m w) is h = absurd is
states_some d (line.Mdeliver k l) is h = absurd is
states_some d (line.Mfetch l workers tries loss) is h = absurd is
states_some d (line.Mcatalogue l) is h = absurd is
states_some d l is h = cc

pub acted_says : (env : RunEnvironment) (s : State) (d : Declared) (e : EventValue)
    → group.refusal (outside_of env s.keys) (found_world env s) (group_event s.keys e) ≡ None
    → acted env s d e ≡ accepted (report_text (map party_label d.members)
    (event_report s.keys (outside_of env s.keys) (found_world env s) e))
    (record {
      declared = d;
      keys = s.keys;
      world = Some (after_group_event (outside_of env s.keys) (found_world env s) (group_event s.keys e));
      watchers = s.watchers;
      mirrors = mirrors_after
          (after_group_event (outside_of env s.keys) (found_world env s) (group_event s.keys e)) e s.mirrors;
    })
unfolding acted
acted_says env s d e h = rw h refl

stepped_stops : (out : Environment) (s : State) (d : Declared) (w : World) (e : EventValue)
    (why : Option group.Refusal) (error : LineError) → IsLineErrorOf why error
    → IsLineError (stepped out s d w e why) error
stepped_stops out s d w e why error.NoMemory h = tt
stepped_stops out s d w e None (error.Refused r) h = absurd h
stepped_stops out s d w e None error.Foreign h = absurd h
stepped_stops out s d w e (Some why) (error.Refused r) h = h
stepped_stops out s d w e (Some why) error.Foreign h = h

pub acted_stops : (env : RunEnvironment) (s : State) (d : Declared) (e : EventValue) (error : LineError)
    → IsLineErrorOf (group.refusal (outside_of env s.keys) (found_world env s) (group_event s.keys e)) error
    → IsLineError (acted env s d e) error
unfolding acted
acted_stops env s d e error h = stepped_stops (outside_of env s.keys) s d (found_world env s) e
    (group.refusal (outside_of env s.keys) (found_world env s) (group_event s.keys e)) error h
