-- Catalogues right after a settle.
use Rattle.std.proofs.Common.{◌≡◌, ◌∙◌, ℕ, true, List, [], ◌∷◌, map, Option, Some, Result, Ok, refl, sym}
use Rattle.std.proofs.Common.{ap, subst}
use Rattle.std.specs.List.{list_all}
use Rattle.group_model.specs.World.{Environment, World}
use Rattle.group_model.specs.Events as group
use Rattle.group_model.specs.Steps.{after_event}
use Rattle.group_model.specs.Laws.{AllJoined, NothingDeleted}
use Rattle.group_model.proofs.PublicLaws.{settle_joins}
use Rattle.repo_member.specs.Groups.{GroupKeys}
use Rattle.script_lang.specs.declared.line_fault.LineFault.{LineFault}
use Rattle.script_lang.specs.declared.verb.Verb.{Verb}
use Rattle.script_lang.specs.declared.verb.Verb.TheVariants as verb
use Rattle.script_lang.specs.Kinds.{Value, Text, Number, Octets}
use Rattle.script_lang.specs.Forms.{Stated, statement}
use Rattle.script_lang.specs.Lines.{line_of}
use Rattle.script_lang.specs.Checking as checking
use Rattle.script_lang.specs.Checking.{Declared, after_by, party_label}
use Rattle.script_lang.proofs.Conditions.{and_left, and_right}
use Rattle.bench_world.specs.EventValues.{EventValue, group_event}
use Rattle.script_story.specs.StatedEvents.{party_number, stated_by, stated_event}
use Rattle.script_story.specs.Evaluation.{RunEnvironment, State, acted_by, acted_if, found_world, outside_of, accepted}
use Rattle.script_story.specs.Evaluation.{taken_by}
use Rattle.script_story.specs.ScriptRun.{Reached}
use Rattle.script_story.specs.Headline.{LinesAreTaken, IsCatalogueLine, IsCatalogueOf, IsJoined, IsSameGroup}
use Rattle.script_story.specs.Headline.{IsSettleLine, PrintsLater, SettlesJoin}
use Rattle.script_story.specs.Headline.{ReportChangesNothing, changes_nothing, group_at, labels_at, only_prints}
use Rattle.script_story.specs.Headline.{printed_entries}
use Rattle.script_story.proofs.HeadlineTaken.{IsMirrored, IsWatched, fetched_so, heard_so, listed_so, reported_so}
use Rattle.script_story.proofs.HeadlineTaken.{watched_so}
use Rattle.script_story.proofs.HeadlineGroups.{IsSoundState}
use Rattle.script_story.proofs.HeadlineGroups.{event_line, sound_from_start, sound_lines}
use Rattle.script_story.proofs.LinesTaken.{IsActed, LineTaken, acts_so, acted_stated}
use Rattle.script_story.proofs.LinesTaken.{nothing, stated_taken, stating, taken_line}
use Rattle.script_story.proofs.HeadlineCatalogues.{catalogue_line}

-- ---- the settle

-- The group is what a settle makes of it.
pub settled_group : (env : RunEnvironment) (r : Reached) (report : List ℕ) (new : Reached)
    → IsSettleLine env r report new
    → group_at env new ≡ after_event (outside_of env r.state.keys) (group_at env r) group.Event.Settle
unfolding acted_by
settled_group env r report new l =
    let s : State = r.state in
    let t = stated_taken env s l.line report new.state (statement verb.Settle (Number l.workers ∷ [])) l.stated
    (taken_line env r l.line report new l.taken) in
    let acts : IsActed env s t.d (EventValue.Settle l.workers) report new.state =
    acts_so env s t.d (EventValue.Settle l.workers) report new.state t.is in
    ap (found_world env) acts.next

joined : (env : RunEnvironment) (r : Reached) (report : List ℕ) (new : Reached) → IsSoundState env r.state
    → IsSettleLine env r report new → NothingDeleted (group_at env new) → AllJoined (group_at env new)
joined env r report new sound l nothing_deleted =
    let out : Environment = outside_of env r.state.keys in
    let settled : group_at env new ≡ after_event out (group_at env r) group.Event.Settle =
    settled_group env r report new l in
    subst AllJoined (sym settled)
    (settle_joins out (group_at env r) sound.sound (subst NothingDeleted settled nothing_deleted))

-- ---- lines that only tell

-- An event of such a form leaves the group as it is.
leaves : (out : Environment) (w : World) (g : GroupKeys) (stated_value e : EventValue)
    → (let o : Option EventValue = Some stated_value in o) ≡ Some e
    → after_event out w (group_event g stated_value) ≡ w → after_event out w (group_event g e) ≡ w
leaves out w g stated_value e is same =
    let one : stated_value ≡ e = cc in
    subst (λ (v : EventValue). after_event out w (group_event g v) ≡ w) one same

tells : (out : Environment) (w : World) (g : GroupKeys) (form : Verb) (d : Declared) (values : List Value)
    (e : EventValue)
    → only_prints form ≡ true → stated_by form d values ≡ Some e → after_event out w (group_event g e) ≡ w
tells out w g verb.Sync d (Number k ∷ []) e only is = leaves out w g (EventValue.Sync k) e is refl
tells out w g verb.Vector d (Text m ∷ []) e only is =
    leaves out w g (EventValue.Vector (party_number m d.members)) e is refl
tells out w g verb.Catalogue d (Text m ∷ []) e only is =
    leaves out w g (EventValue.Catalogue (party_number m d.members)) e is refl
tells out w g verb.Dump d (Text m ∷ Text p ∷ Number s ∷ Number x ∷ []) e only is =
    leaves out w g (EventValue.Dump (party_number m d.members) (party_number p d.members) s x) e is refl
tells out w g verb.Ask d (Text m ∷ Octets octets ∷ []) e only is =
    leaves out w g (EventValue.Ask (party_number m d.members) octets) e is refl
tells out w g verb.Summary d [] e only is = leaves out w g EventValue.Summary e is refl
tells out w g verb.Traffic d [] e only is = leaves out w g EventValue.Traffic e is refl
tells out w g form d values e only is = cc

event_reports : (env : RunEnvironment) (r : Reached) (stated : Stated) (d : Declared) (report : List ℕ) (new : Reached)
    → only_prints stated.verb ≡ true → checking.after_event r.state.declared stated ≡ Ok d
    → acted_if env r.state d (stated_event d stated) ≡ accepted report new.state → IsSameGroup env r new
event_reports env r stated d report new only after is =
    let s : State = r.state in
    let acts = acted_stated env s d stated report new.state (stated_event d stated) refl is in
    let out : Environment = outside_of env s.keys in
    let w : World = found_world env s in
    let line = event_line s.declared d stated after in
    record {
      group = ap (found_world env) acts.2.next ∙ tells out w s.keys stated.verb d stated.values acts.0 only acts.1;
      labels = ap (λ (x : State). map party_label x.declared.members) acts.2.next
          ∙ ap (λ (x : Declared). map party_label x.members) line.is;
    }

watch_reports : (env : RunEnvironment) (r : Reached) (stated : Stated) (d : Declared) (new : Reached)
    → checking.after_event r.state.declared stated ≡ Ok d → IsWatched env r.state d new.state
    → IsSameGroup env r new
watch_reports env r stated d new after watched = record {
  group = ap (found_world env) watched.next;
  labels = ap (λ (x : State). map party_label x.declared.members) watched.next
      ∙ ap (λ (x : Declared). map party_label x.members) (event_line r.state.declared d stated after).is;
}

mirror_reports : (env : RunEnvironment) (r : Reached) (stated : Stated) (d : Declared) (new : Reached)
    → checking.after_event r.state.declared stated ≡ Ok d → IsMirrored env r.state d new.state
    → IsSameGroup env r new
mirror_reports env r stated d new after mirrored = record {
  group = ap (found_world env) mirrored.next;
  labels = ap (λ (x : State). map party_label x.declared.members) mirrored.next
      ∙ ap (λ (x : Declared). map party_label x.members) (event_line r.state.declared d stated after).is;
}

form_reports : (env : RunEnvironment) (r : Reached) (stated : Stated) (d : Declared) (report : List ℕ) (new : Reached)
    → only_prints stated.verb ≡ true → (form : Verb) → only_prints form ≡ true
    → after_by r.state.declared stated form stated.values ≡ Ok d
    → taken_by form env r.state d stated ≡ accepted report new.state → IsSameGroup env r new
unfolding acted_by
form_reports env r stated d report new only verb.Group tell after is = cc
form_reports env r stated d report new only verb.Member tell after is = cc
form_reports env r stated d report new only verb.Client tell after is = cc
form_reports env r stated d report new only verb.Mirror tell after is = cc
form_reports env r stated d report new only verb.Watch tell after is =
    watch_reports env r stated d new after (watched_so env r.state d stated.values report new.state is)
form_reports env r stated d report new only verb.Told tell after is =
    watch_reports env r stated d new after (reported_so env r.state d stated.values report new.state is)
form_reports env r stated d report new only verb.Mdeliver tell after is =
    mirror_reports env r stated d new after (heard_so env r.state d stated.values report new.state is)
form_reports env r stated d report new only verb.Mfetch tell after is =
    mirror_reports env r stated d new after (fetched_so env r.state d stated.values report new.state is)
form_reports env r stated d report new only verb.Mcatalogue tell after is =
    mirror_reports env r stated d new after (listed_so env r.state d stated.values report new.state is)
form_reports env r stated d report new only form tell after is =
    event_reports env r stated d report new only after is

stated_reports : (r : Result (Option Stated) LineFault) (stated : Stated) → r ≡ Ok (Some stated)
    → changes_nothing r ≡ true → only_prints stated.verb ≡ true
stated_reports r stated is tell = subst (λ x. changes_nothing x ≡ true) is tell

line_reports : (env : RunEnvironment) (r : Reached) (line report : List ℕ) (new : Reached)
    → LineTaken env r.state line report new.state → changes_nothing (line_of line) ≡ true → IsSameGroup env r new
line_reports env r line report new (nothing is same) tell = record {
  group = ap (found_world env) same;
  labels = ap (λ (x : State). map party_label x.declared.members) same;
}
line_reports env r line report new (stating stated d is after taken) tell =
    let only : only_prints stated.verb ≡ true = stated_reports (line_of line) stated is tell in
    form_reports env r stated d report new only stated.verb only after taken

pub report_changes_nothing : ReportChangesNothing
report_changes_nothing env r line report new taken tell =
    line_reports env r line report new (taken_line env r line report new taken) tell

pub lines_tell : (env : RunEnvironment) (r : Reached) (lines reports : List (List ℕ)) (later : Reached)
    → LinesAreTaken env r lines reports later → list_all (λ line. changes_nothing (line_of line)) lines ≡ true
    → IsSameGroup env r later
lines_tell env r [] [] later taken tell =
    record { group = ap (group_at env) taken; labels = ap labels_at taken }
lines_tell env r [] (report ∷ reports) later taken tell = absurd taken
lines_tell env r (line ∷ lines) [] later taken tell = absurd taken
lines_tell env r (line ∷ lines) (report ∷ reports) later taken tell =
    let next : Reached = taken.0 in
    let here = report_changes_nothing env r line report next taken.1
    (and_left (changes_nothing (line_of line)) _ tell) in
    let after = lines_tell env next lines reports later taken.2
    (and_right (changes_nothing (line_of line)) _ tell) in
    record { group = after.group ∙ here.group; labels = after.labels ∙ here.labels }

-- ---- what is printed

-- Where the group is the same, so is what is printed of it.
same_printed : (env : RunEnvironment) (r later : Reached) (label report : List ℕ) → IsSameGroup env r later
    → IsCatalogueOf (group_at env later) (labels_at later) label report
    → IsCatalogueOf (group_at env r) (labels_at r) label report
same_printed env r later label report same c =
    subst (λ (x : World × List (List ℕ)). IsCatalogueOf x.0 x.1 label report) (λ i. (same.group i, same.labels i)) c

later_catalogue : (env : RunEnvironment) (r : Reached) → IsSoundState env r.state → (between so_far : List (List ℕ))
    (later : Reached) → LinesAreTaken env r between so_far later
    → list_all (λ line. changes_nothing (line_of line)) between ≡ true → (label report : List ℕ) (new : Reached)
    → IsCatalogueLine env later label report new → IsCatalogueOf (group_at env r) (labels_at r) label report
later_catalogue env r sound between so_far later go_on tell label report new c =
    same_printed env r later label report (lines_tell env r between so_far later go_on tell)
    (catalogue_line env later (sound_lines env r between so_far later go_on sound) label report new c)

pub prints_later : PrintsLater
prints_later env lines reports r taken = later_catalogue env r (sound_from_start env lines reports r taken)

-- Where the catalogues are joined `catalogue` lines print the join.
pub shows_join : (env : RunEnvironment) (r : Reached) → IsSoundState env r.state → AllJoined (group_at env r)
    → IsJoined env r
shows_join env r sound all = record {
  all = all;
  shown = λ between so_far later go_on tell label text last c.
      let printed : IsCatalogueOf (group_at env r) (labels_at r) label text =
      later_catalogue env r sound between so_far later go_on tell label text last c in
      printed.text ∙ ap (printed_entries (labels_at r) label) (all printed.number printed.there);
}

pub settles_join : SettlesJoin
settles_join env lines reports r taken report new l nothing_deleted =
    let sound : IsSoundState env r.state = sound_from_start env lines reports r taken in
    let after : IsSoundState env new.state =
    sound_lines env r (l.line ∷ []) (report ∷ []) new (new, l.taken, refl) sound in
    shows_join env new after (joined env r report new sound l nothing_deleted)
