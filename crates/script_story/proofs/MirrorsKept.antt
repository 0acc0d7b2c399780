-- Lines that change nothing of mirrors.
use Rattle.std.proofs.Common.{◌≡◌, ◌∙◌, ℕ, true, List, [], ◌∷◌, Option, Some, None, Result, Ok, Err, refl, ap}
use Rattle.std.proofs.Common.{subst}
use Rattle.std.specs.List.{list_all}
use Rattle.std.proofs.lemmas.Bool.{and_from}
use Rattle.group_model.specs.World.{World}
use Rattle.group_model.specs.Steps.{after_event}
use Rattle.script_lang.specs.declared.line_fault.LineFault.{LineFault}
use Rattle.script_lang.specs.declared.verb.Verb.{Verb}
use Rattle.script_lang.specs.declared.verb.Verb.TheVariants as verb
use Rattle.script_lang.specs.Kinds.{Value, Text, Number, Octets}
use Rattle.script_lang.specs.Forms.{Stated}
use Rattle.script_lang.specs.Lines.{line_of}
use Rattle.script_lang.specs.Checking.{Declared}
use Rattle.script_lang.proofs.Conditions.{and_left, and_right}
use Rattle.bench_world.specs.EventValues.{EventValue, group_event}
use Rattle.script_story.specs.Mirrors.{Mirroring}
use Rattle.script_story.specs.StatedEvents.{party_number, stated_by, stated_event}
use Rattle.script_story.specs.Evaluation.{RunEnvironment, State, acted_by, found_world, listed_by, mirrors_after}
use Rattle.script_story.specs.Evaluation.{outside_of, accepted}
use Rattle.script_story.specs.Evaluation.{taken_by}
use Rattle.script_story.specs.ScriptRun.{Reached}
use Rattle.script_story.specs.Headline.{LinesAreTaken, changes_nothing, only_prints}
use Rattle.script_story.specs.MirrorLaws.{only_shows, shows_alone}
use Rattle.script_story.proofs.HeadlineTaken.{accepted_state, reported_so, watched_so}
use Rattle.script_story.proofs.LinesTaken.{LineTaken, acted_stated, nothing, stating, taken_line}

-- ---- one line

-- An event of such a form leaves the mirrors as they are.
kept : (w : World) (mirrors : List Mirroring) (stated_value e : EventValue)
    → (let o : Option EventValue = Some stated_value in o) ≡ Some e → mirrors_after w stated_value mirrors ≡ mirrors
    → mirrors_after w e mirrors ≡ mirrors
kept w mirrors stated_value e is same =
    let one : stated_value ≡ e = cc in
    subst (λ (v : EventValue). mirrors_after w v mirrors ≡ mirrors) one same

keeps : (w : World) (mirrors : List Mirroring) (form : Verb) (d : Declared) (values : List Value) (e : EventValue)
    → only_shows form ≡ true → stated_by form d values ≡ Some e → mirrors_after w e mirrors ≡ mirrors
keeps w mirrors verb.Sync d (Number k ∷ []) e only is = kept w mirrors (EventValue.Sync k) e is refl
keeps w mirrors verb.Vector d (Text m ∷ []) e only is =
    kept w mirrors (EventValue.Vector (party_number m d.members)) e is refl
keeps w mirrors verb.Catalogue d (Text m ∷ []) e only is =
    kept w mirrors (EventValue.Catalogue (party_number m d.members)) e is refl
keeps w mirrors verb.Dump d (Text m ∷ Text p ∷ Number s ∷ Number x ∷ []) e only is =
    kept w mirrors (EventValue.Dump (party_number m d.members) (party_number p d.members) s x) e is refl
keeps w mirrors verb.Ask d (Text m ∷ Octets octets ∷ []) e only is =
    kept w mirrors (EventValue.Ask (party_number m d.members) octets) e is refl
keeps w mirrors verb.Summary d [] e only is = kept w mirrors EventValue.Summary e is refl
keeps w mirrors verb.Traffic d [] e only is = kept w mirrors EventValue.Traffic e is refl
keeps w mirrors form d values e only is = cc

listed_keeps : (env : RunEnvironment) (s : State) (d : Declared) (values : List Value) (report : List ℕ) (new : State)
    → listed_by (found_world env s) s d values ≡ accepted report new → new.mirrors ≡ s.mirrors
listed_keeps env s d (Text l ∷ []) report new h = ap (λ (x : State). x.mirrors) (accepted_state report _ new _ h)
listed_keeps env s d values report new h = cc

form_keeps : (env : RunEnvironment) (s : State) (stated : Stated) (d : Declared) (report : List ℕ) (new : State)
    → only_shows stated.verb ≡ true → (form : Verb) → only_shows form ≡ true
    → taken_by form env s d stated ≡ accepted report new → new.mirrors ≡ s.mirrors
unfolding acted_by
form_keeps env s stated d report new only verb.Group shows is = cc
form_keeps env s stated d report new only verb.Member shows is = cc
form_keeps env s stated d report new only verb.Client shows is = cc
form_keeps env s stated d report new only verb.Mirror shows is = cc
form_keeps env s stated d report new only verb.Mdeliver shows is = cc
form_keeps env s stated d report new only verb.Mfetch shows is = cc
form_keeps env s stated d report new only verb.Watch shows is =
    ap (λ (x : State). x.mirrors) (watched_so env s d stated.values report new is).next
form_keeps env s stated d report new only verb.Told shows is =
    ap (λ (x : State). x.mirrors) (reported_so env s d stated.values report new is).next
form_keeps env s stated d report new only verb.Mcatalogue shows is =
    listed_keeps env s d stated.values report new is
form_keeps env s stated d report new only form shows is =
    let acts = acted_stated env s d stated report new (stated_event d stated) refl is in
    let w : World = after_event (outside_of env s.keys) (found_world env s) (group_event s.keys acts.0) in
    ap (λ (x : State). x.mirrors) acts.2.next ∙ keeps w s.mirrors stated.verb d stated.values acts.0 only acts.1

line_keeps : (env : RunEnvironment) (s : State) (line report : List ℕ) (new : State) → LineTaken env s line report new
    → shows_alone (line_of line) ≡ true → new.mirrors ≡ s.mirrors
line_keeps env s line report new (nothing is same) shows = ap (λ (x : State). x.mirrors) same
line_keeps env s line report new (stating stated d is after taken) shows =
    let only : only_shows stated.verb ≡ true = subst (λ x. shows_alone x ≡ true) is shows in
    form_keeps env s stated d report new only stated.verb only taken

-- ---- any lines

pub lines_keep : (env : RunEnvironment) (r : Reached) (lines reports : List (List ℕ)) (later : Reached)
    → LinesAreTaken env r lines reports later → list_all (λ line. shows_alone (line_of line)) lines ≡ true
    → later.state.mirrors ≡ r.state.mirrors
lines_keep env r [] [] later taken shows = ap (λ (x : Reached). x.state.mirrors) taken
lines_keep env r [] (report ∷ reports) later taken shows = absurd taken
lines_keep env r (line ∷ lines) [] later taken shows = absurd taken
lines_keep env r (line ∷ lines) (report ∷ reports) later taken shows =
    lines_keep env taken.0 lines reports later taken.2 (and_right (shows_alone (line_of line)) _ shows)
    ∙ line_keeps env r.state line report taken.0.state (taken_line env r line report taken.0 taken.1)
    (and_left (shows_alone (line_of line)) _ shows)

-- They change nothing of the group either.
form_reports : (form : Verb) → only_shows form ≡ true → only_prints form ≡ true
form_reports verb.Mdeliver shows = refl
form_reports verb.Mfetch shows = refl
form_reports form shows = shows

line_reports : (r : Result (Option Stated) LineFault) → shows_alone r ≡ true → changes_nothing r ≡ true
line_reports (Ok None) shows = refl
line_reports (Ok (Some stated)) shows = form_reports stated.verb shows
line_reports (Err fault) shows = shows

pub all_tell : (ls : List (List ℕ)) → list_all (λ l. shows_alone (line_of l)) ls ≡ true
    → list_all (λ l. changes_nothing (line_of l)) ls ≡ true
all_tell [] shows = refl
all_tell (l ∷ ls) shows =
    and_from (changes_nothing (line_of l)) _ (line_reports (line_of l) (and_left (shows_alone (line_of l)) _ shows))
    (all_tell ls (and_right (shows_alone (line_of l)) _ shows))
