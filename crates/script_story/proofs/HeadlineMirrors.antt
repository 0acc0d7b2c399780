-- What `mcatalogue` lines print over whole runs.
use Rattle.std.proofs.Common.{◌≡◌, ◌∙◌, ℕ, zero, suc, ◌<◌, true, List, [], ◌∷◌, ◌++◌, length, map, filter, Some, refl}
use Rattle.std.proofs.Common.{sym, ap, subst, arith}
use Rattle.std.proofs.lemmas.List.{length-map}
use Rattle.script_lang.specs.declared.verb.Verb.TheVariants as verb
use Rattle.script_lang.specs.Kinds.{Text, Number}
use Rattle.script_lang.specs.Forms.{Stated, statement}
use Rattle.script_lang.specs.Checking.{Declared, is_mirror, party_label}
use Rattle.script_lang.proofs.Conditions.{and_left}
use Rattle.script_lang.proofs.Parties.{mirror-tells}
use Rattle.group_model.specs.Publications.{join_of}
use Rattle.group_model.specs.World.{World, logs}
use Rattle.group_model.specs.Steps.{after_event}
use Rattle.group_model.specs.Laws.{NothingDeleted}
use Rattle.repo_mirror.specs.Mirrors.{is_entry_accepted}
use Rattle.bench_world.specs.EventValues.{EventValue, group_event}
use Rattle.script_story.specs.Mirrors.{Mirroring, mirror_of, mirror_settles, mirrored_entries}
use Rattle.script_story.specs.MirrorLaws.{ListsOfMirror, MirrorsAreListed, MirrorsListTheirJoin}
use Rattle.script_story.specs.StatedEvents.{mirror_number}
use Rattle.script_story.specs.ReportTexts.{listing_text}
use Rattle.script_story.specs.Evaluation.{RunEnvironment, State, acted_by, found_world, outside_of}
use Rattle.script_story.specs.ScriptRun.{Reached, nothing_reached}
use Rattle.script_story.specs.Headline.{IsSameGroup, LineIsTaken, Says, group_at, labels_at}
use Rattle.script_story.proofs.Fitting.{mirror_placed, mirror_within}
use Rattle.script_story.proofs.HeadlineLines.{each_is_taken}
use Rattle.script_story.proofs.HeadlineTaken.{accepted_report}
use Rattle.script_story.proofs.LinesTaken.{IsActed, StatedTaken, acts_so, stated_taken, taken_line}
use Rattle.script_story.proofs.HeadlineGroups.{IsSoundState, event_line, sound_from_start}
use Rattle.script_story.proofs.HeadlineSettles.{lines_tell}
use Rattle.script_story.proofs.MirrorsKept.{all_tell, lines_keep}
use Rattle.script_story.proofs.MirrorJoins.{settled_joins}

-- ---- one line

pub mirrors_are_listed : MirrorsAreListed
mirrors_are_listed env lines reports r taken label report new l =
    let s : State = r.state in
    let sound : IsSoundState env s = sound_from_start env lines reports r taken in
    let stated : Stated = statement verb.Mcatalogue (Text label ∷ []) in
    let t : StatedTaken env s stated report new.state =
    stated_taken env s l.line report new.state stated l.stated (taken_line env r l.line report new l.taken) in
    let event = event_line s.declared t.d stated t.after in
    let members : t.d.members ≡ s.declared.members = ap (λ (x : Declared). x.members) event.is in
    let mirrors : t.d.mirrors ≡ s.declared.mirrors = ap (λ (x : Declared). x.mirrors) event.is in
    let known : is_mirror label s.declared.mirrors ≡ true =
    and_left (is_mirror label s.declared.mirrors) _ event.known in
    let there = mirror_within label s.declared.mirrors known in
    record {
      number = mirror_number label s.declared.mirrors;
      there = omega (arith, there, sound.mirrored);
      named = mirror-tells label s.declared.mirrors (Some (mirror_number label s.declared.mirrors))
          (sym (mirror_placed label s.declared.mirrors known));
      text = accepted_report report _ new.state _ t.is
          ∙ (λ i. listing_text (map party_label (members i)) label
          (mirrored_entries (group_at env r) (mirror_of s.mirrors (mirror_number label (mirrors i)))));
    }

-- ---- behind a settle

settled_at : (f : Mirroring → Mirroring) (mirrors : List Mirroring) (i : ℕ) → i < length mirrors
    → mirror_of (map f mirrors) i ≡ f (mirror_of mirrors i)
settled_at f [] i there = absurd (omega (arith, there))
settled_at f (m ∷ mirrors) zero there = refl
settled_at f (m ∷ mirrors) (suc i) there = settled_at f mirrors i (omega (arith, there))

-- After a `settle` line each mirror has settled in the group that is reached.
settles_mirrors : (env : RunEnvironment) (r : Reached) (settle : List ℕ) (workers : ℕ) (report : List ℕ) (new : Reached)
    → Says settle (statement verb.Settle (Number workers ∷ [])) → LineIsTaken env r settle report new
    → new.state.mirrors ≡ map (mirror_settles (group_at env new)) r.state.mirrors
unfolding acted_by
settles_mirrors env r settle workers report new stated taken =
    let s : State = r.state in
    let t =
    stated_taken env s settle report new.state (statement verb.Settle (Number workers ∷ [])) stated
    (taken_line env r settle report new taken) in
    let e : EventValue = EventValue.Settle workers in
    let w : World = after_event (outside_of env s.keys) (found_world env s) (group_event s.keys e) in
    let acted : IsActed env s t.d e report new.state = acts_so env s t.d e report new.state t.is in
    let group : group_at env new ≡ w = ap (found_world env) acted.next in
    ap (λ (x : State). x.mirrors) acted.next ∙ ap (λ (x : World). map (mirror_settles x) s.mirrors) (sym group)

joined_at : (env : RunEnvironment) (r here : Reached) (number : ℕ) → r.state.mirrors
    ≡ map (mirror_settles (group_at env r)) here.state.mirrors → number < length r.state.mirrors
    → IsSoundState env r.state → NothingDeleted (group_at env r)
    → mirrored_entries (group_at env r) (mirror_of r.state.mirrors number)
    ≡ filter (is_entry_accepted (mirror_of r.state.mirrors number).pattern) (join_of (logs (group_at env r)))
joined_at env r here number settled there sound clear =
    let w : World = group_at env r in
    let old : Mirroring = mirror_of here.state.mirrors number in
    let many : length r.state.mirrors ≡ length here.state.mirrors =
    ap (λ (ms : List Mirroring). length ms) settled ∙ length-map here.state.mirrors (mirror_settles w) in
    let is : mirror_of r.state.mirrors number ≡ mirror_settles w old =
    ap (λ (ms : List Mirroring). mirror_of ms number) settled
    ∙ settled_at (mirror_settles w) here.state.mirrors number (omega (arith, there, many)) in
    subst (λ (m : Mirroring). mirrored_entries w m ≡ filter (is_entry_accepted m.pattern) (join_of (logs w))) (sym is)
    (settled_joins w old sound.sound clear)

pub mirrors_list_their_join : MirrorsListTheirJoin
mirrors_list_their_join env before settle workers between reports r taken clear settles shows label report new l =
    let lines : List (List ℕ) = before ++ settle ∷ between in
    let listed : ListsOfMirror r label report (mirrored_entries (group_at env r)) =
    mirrors_are_listed env lines reports r taken label report new l in
    let amid = each_is_taken env nothing_reached before settle between reports r taken in
    let same : IsSameGroup env amid.new r =
    lines_tell env amid.new between amid.later r amid.after_it (all_tell between shows) in
    let settled : r.state.mirrors ≡ map (mirror_settles (group_at env r)) amid.here.state.mirrors =
    lines_keep env amid.new between amid.later r amid.after_it shows
    ∙ settles_mirrors env amid.here settle workers amid.report amid.new settles amid.it
    ∙ ap (λ (w : World). map (mirror_settles w) amid.here.state.mirrors) (sym same.group) in
    record {
      number = listed.number;
      there = listed.there;
      named = listed.named;
      text = listed.text ∙ ap (listing_text (labels_at r) label) (joined_at env r amid.here listed.number settled
          listed.there (sound_from_start env lines reports r taken) clear);
    }
