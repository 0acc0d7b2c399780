-- Each line is evaluated, and only those that the grammar refuses are reported as Syntax.
use Rattle.std.proofs.Common.{◌≡◌, ◌∙◌, ◌⊎◌, inl, inr, ℕ, Bool, true, false, nat_le, List, [], ◌∷◌, length, Option}
use Rattle.std.proofs.Common.{Some, None, Result, Ok, Err, refl, sym, ap, subst, if◌then◌else◌}
use Rattle.std.specs.Prelude.{◌≢◌, IfErr, is_some}
use Rattle.ndn_name.specs.Names.{Component}
use Rattle.group_model.specs.World.{World}
use Rattle.group_model.specs.Refusals as group
use Rattle.script_lang.specs.declared.check_fault.CheckFault.{CheckFault}
use Rattle.script_lang.specs.declared.check_fault.CheckFault.TheVariants as check_fault
use Rattle.script_lang.specs.declared.line_fault.LineFault.{LineFault}
use Rattle.script_lang.specs.declared.line_fault.LineFault.TheVariants as line_fault
use Rattle.script_lang.specs.declared.verb.Verb.{Verb}
use Rattle.script_lang.specs.declared.verb.Verb.TheVariants as verb
use Rattle.script_lang.specs.Kinds.{Kind, LABEL, PUBLISHER, N, URI, HEX, CONTENT, Value, Text, Anyone, Number, Named}
use Rattle.script_lang.specs.Kinds.{Octets}
use Rattle.script_lang.specs.Forms.{Stated, form, statement}
use Rattle.script_lang.specs.Lines.{line_of}
use Rattle.script_lang.specs.Texts.{AreOf, IsLineText}
use Rattle.script_lang.specs.Checking.{Declared, after_line}
use Rattle.script_lang.proofs.LineTexts.{line_texts}
use Rattle.script_lang.proofs.RefusalLemmas.{checked_for_a_cause, read_for_a_cause}
use Rattle.script_lang.proofs.StatedForms.{read_in_its_form}
use Rattle.repo_watch.specs.Watching.{watch_of}
use Rattle.bench_world.specs.EventValues.{EventValue, group_event}
use Rattle.script_report.specs.declared.refusal.Refusal.TheVariants as refusal
use Rattle.script_story.specs.Evaluation.{EachLineIsEvaluated, RunEnvironment, State, SyntaxIsOfTheGrammar, Verdict}
use Rattle.script_story.specs.Evaluation.{acted}
use Rattle.script_story.specs.Evaluation.{acted_by}
use Rattle.script_story.specs.Evaluation.{checked, check_refused, event_refused, foreign, found_world, heard_if}
use Rattle.script_story.specs.Evaluation.{evaluated}
use Rattle.script_story.specs.Evaluation.{evaluated_line}
use Rattle.script_story.specs.Evaluation.{line_taken, outside_of, read, refused, accepted, stepped, taken_by}
use Rattle.script_story.specs.Evaluation.{not_evaluated}
use Rattle.script_story.specs.Evaluation.{watchers_at}
use Rattle.script_story.specs.StatedEvents.{mirror_number, party_number}

-- ---- values by their kinds

-- What the words of these kinds stand for, each kind with its own.
abbrev Typed : List Kind → Type 0
Typed [] = Unit {0}
Typed (LABEL ∷ kinds) = List ℕ × Typed kinds
Typed (PUBLISHER ∷ kinds) = Option (List ℕ) × Typed kinds
Typed (N least most ∷ kinds) = ℕ × Typed kinds
Typed (URI least most ∷ kinds) = List Component × Typed kinds
Typed (HEX most ∷ kinds) = List ℕ × Typed kinds
Typed (CONTENT least most ∷ kinds) = List ℕ × Typed kinds

abbrev named_or_all : Option (List ℕ) → Value
named_or_all None = Anyone
named_or_all (Some label) = Text label

abbrev untyped : (kinds : List Kind) → Typed kinds → List Value
untyped [] t = []
untyped (LABEL ∷ kinds) t = Text t.0 ∷ untyped kinds t.1
untyped (PUBLISHER ∷ kinds) t = named_or_all t.0 ∷ untyped kinds t.1
untyped (N least most ∷ kinds) t = Number t.0 ∷ untyped kinds t.1
untyped (URI least most ∷ kinds) t = Named t.0 ∷ untyped kinds t.1
untyped (HEX most ∷ kinds) t = Octets t.0 ∷ untyped kinds t.1
untyped (CONTENT least most ∷ kinds) t = Octets t.0 ∷ untyped kinds t.1

record IsTyped (kinds : List Kind) (values : List Value) : Type 0 where
  typed : Typed kinds
  is : untyped kinds typed ≡ values

in_prefix : (value : Value) (xs ys : List Value) → xs ≡ ys → value ∷ xs ≡ value ∷ ys
in_prefix value xs ys e = ap (λ (vs : List Value). value ∷ vs) e

typed_of : (kinds : List Kind) (values : List Value) → AreOf kinds values → IsTyped kinds values
typed_of [] [] of = record { typed = tt; is = refl }
typed_of [] (value ∷ values) of = absurd of
typed_of (kind ∷ kinds) [] of = absurd of
typed_of (LABEL ∷ kinds) (Text label ∷ values) of =
    let t = typed_of kinds values of.1 in
    record { typed = (label, t.typed); is = in_prefix (Text label) _ _ t.is }
typed_of (PUBLISHER ∷ kinds) (Text label ∷ values) of =
    let t = typed_of kinds values of.1 in
    record { typed = (Some label, t.typed); is = in_prefix (Text label) _ _ t.is }
typed_of (PUBLISHER ∷ kinds) (Anyone ∷ values) of =
    let t = typed_of kinds values of.1 in
    record { typed = (None, t.typed); is = in_prefix Anyone _ _ t.is }
typed_of (N least most ∷ kinds) (Number n ∷ values) of =
    let t = typed_of kinds values of.1 in
    record { typed = (n, t.typed); is = in_prefix (Number n) _ _ t.is }
typed_of (URI least most ∷ kinds) (Named name ∷ values) of =
    let t = typed_of kinds values of.1 in
    record { typed = (name, t.typed); is = in_prefix (Named name) _ _ t.is }
typed_of (HEX most ∷ kinds) (Octets octets ∷ values) of =
    let t = typed_of kinds values of.1 in
    record { typed = (octets, t.typed); is = in_prefix (Octets octets) _ _ t.is }
typed_of (CONTENT least most ∷ kinds) (Octets octets ∷ values) of =
    let t = typed_of kinds values of.1 in
    record { typed = (octets, t.typed); is = in_prefix (Octets octets) _ _ t.is }
typed_of (kind ∷ kinds) (value ∷ values) of = absurd of.0

-- ---- what a line that is read comes to

-- The line is evaluated, and not refused as Syntax.
abbrev IsBeyondGrammar : Verdict → Type 0
IsBeyondGrammar (refused refusal.Syntax) = ⊥
IsBeyondGrammar (refused why) = Unit {0}
IsBeyondGrammar foreign = Unit {0}
IsBeyondGrammar (accepted report next) = Unit {0}
IsBeyondGrammar not_evaluated = ⊥

event_beyond : (why : group.Refusal) → IsBeyondGrammar (event_refused why)
event_beyond group.Refusal.NoSuchPacket = tt
event_beyond group.Refusal.FetcherBusy = tt
event_beyond group.Refusal.FetcherIdle = tt
event_beyond group.Refusal.NoSuchNumber = tt
event_beyond group.Refusal.NumbersSpent = tt
event_beyond group.Refusal.Foreign = tt

acted_beyond : (env : RunEnvironment) (s : State) (d : Declared) (e : EventValue) → IsBeyondGrammar (acted env s d e)
unfolding acted
acted_beyond env s d e =
    go (group.refusal (outside_of env s.keys) (found_world env s) (group_event s.keys e)) where
      go : (o : Option group.Refusal)
          → IsBeyondGrammar (stepped (outside_of env s.keys) s d (found_world env s) e o)
      go (Some why) = event_beyond why
      go None = tt

full_or_stated : (b : Bool) (report : List ℕ) (next : State)
    → IsBeyondGrammar (if b then refused refusal.Limit else accepted report next)
full_or_stated true report next = tt
full_or_stated false report next = tt

stated_or_missing : (b : Bool) (report : List ℕ) (next : State)
    → IsBeyondGrammar (if b then accepted report next else refused refusal.NoSuchWatch)
stated_or_missing true report next = tt
stated_or_missing false report next = tt

heard_or_not : (o : Option group.Refusal) (w : World) (s : State) (d : Declared) (k i : ℕ) (label : List ℕ)
    → IsBeyondGrammar (heard_if o w s d k i label)
heard_or_not (Some why) w s d k i label = event_beyond why
heard_or_not None w s d k i label = tt

typed_beyond : (env : RunEnvironment) (s : State) (d : Declared) (form_verb : Verb) (t : Typed (form form_verb).kinds)
    → IsBeyondGrammar (taken_by form_verb env s d (statement form_verb (untyped (form form_verb).kinds t)))
unfolding acted_by
typed_beyond env s d verb.Group t = tt
typed_beyond env s d verb.Member t = tt
typed_beyond env s d verb.Client t = tt
typed_beyond env s d verb.Mirror t = tt
typed_beyond env s d verb.Watch t =
    full_or_stated (nat_le 16 (length (watchers_at s (party_number t.0 d.members)))) _ _
typed_beyond env s d verb.Told t =
    stated_or_missing (is_some (watch_of t.1.0 (watchers_at s (party_number t.0 d.members)))) _ _
typed_beyond env s d verb.Mdeliver t =
    heard_or_not (group.unless_sent (found_world env s) t.0) (found_world env s) s d t.0
    (mirror_number t.1.0 d.mirrors) t.1.0
typed_beyond env s d verb.Mfetch t = tt
typed_beyond env s d verb.Mcatalogue t = tt
typed_beyond env s d form_verb t = acted_beyond env s d _

taken_beyond : (env : RunEnvironment) (s : State) (d : Declared) (form_verb : Verb) (values : List Value)
    → AreOf (form form_verb).kinds values → IsBeyondGrammar (line_taken env s d (statement form_verb values))
unfolding line_taken
taken_beyond env s d form_verb values of =
    let t = typed_of (form form_verb).kinds values of in
    subst (λ (vs : List Value). IsBeyondGrammar (taken_by form_verb env s d (statement form_verb vs))) t.is
    (typed_beyond env s d form_verb t.typed)

check_beyond : (fault : CheckFault) → fault ≢ check_fault.NoMemory → IsBeyondGrammar (check_refused fault)
check_beyond check_fault.NoGroup cause = tt
check_beyond check_fault.Late cause = tt
check_beyond check_fault.UnknownLabel cause = tt
check_beyond check_fault.Duplicate cause = tt
check_beyond check_fault.Limit cause = tt
check_beyond check_fault.TooLarge cause = tt
check_beyond check_fault.NoMemory cause = absurd (cause refl)

line_beyond : (env : RunEnvironment) (s : State) (octets : List ℕ) (line : Stated) → line_of octets ≡ Ok (Some line)
    → IsBeyondGrammar (evaluated_line env s line)
unfolding evaluated_line
line_beyond env s octets line is =
    go (after_line s.declared line) (checked_for_a_cause s.declared line (read_in_its_form octets line is)) where
      text : IsLineText line octets
      text = (line_texts line octets).0 is

      go : (r : Result Declared CheckFault) → IfErr r (λ f. f ≢ check_fault.NoMemory)
          → IsBeyondGrammar (checked env s line r)
      go (Ok d) cause = taken_beyond env s d line.verb line.values text.ranges
      go (Err fault) cause = check_beyond fault cause

-- ---- any line

-- A line is refused as Syntax where the grammar refuses it, or its verdict is another.
either_way : (env : RunEnvironment) (s : State) (octets : List ℕ)
    → ((line_of octets ≡ Err line_fault.Syntax) × (evaluated env s octets ≡ refused refusal.Syntax))
    ⊎ IsBeyondGrammar (evaluated env s octets)
unfolding evaluated
either_way env s octets = go (line_of octets) refl (read_for_a_cause octets) where
  go : (r : Result (Option Stated) LineFault) → line_of octets ≡ r → IfErr r (λ f. f ≢ line_fault.NoMemory)
      → ((line_of octets ≡ Err line_fault.Syntax) × (read env s (line_of octets) ≡ refused refusal.Syntax))
      ⊎ IsBeyondGrammar (read env s (line_of octets))
  go (Ok (Some line)) is cause =
      inr (subst (λ x. IsBeyondGrammar (read env s x)) (sym is) (line_beyond env s octets line is))
  go (Ok None) is cause = inr (subst (λ x. IsBeyondGrammar (read env s x)) (sym is) tt)
  go (Err line_fault.Syntax) is cause = inl (is, ap (read env s) is)
  go (Err line_fault.Limit) is cause = inr (subst (λ x. IsBeyondGrammar (read env s x)) (sym is) tt)
  go (Err line_fault.NoMemory) is cause = absurd (cause refl)

pub is_evaluated : EachLineIsEvaluated
is_evaluated env s octets none = elim (either_way env s octets) [
  | inl syntax ↦ let two = sym syntax.1 ∙ none in cc
  | inr beyond ↦ subst IsBeyondGrammar none beyond
]

read_so : (env : RunEnvironment) (s : State) (octets : List ℕ) → line_of octets ≡ Err line_fault.Syntax
    → evaluated env s octets ≡ refused refusal.Syntax
unfolding evaluated
read_so env s octets is = ap (read env s) is

pub syntax_is : SyntaxIsOfTheGrammar
syntax_is env s octets = (to, read_so env s octets) where
  to : evaluated env s octets ≡ refused refusal.Syntax → line_of octets ≡ Err line_fault.Syntax
  to printed = elim (either_way env s octets) [
    | inl syntax ↦ syntax.0
    | inr beyond ↦ absurd (subst IsBeyondGrammar printed beyond)
  ]
