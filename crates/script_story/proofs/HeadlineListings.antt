-- What members list right after a settle, from then on, and where all know of all.
use Rattle.std.proofs.Common.{◌≡◌, ◌∙◌, inl, inr, ℕ, zero, suc, ◌≤◌, ◌<◌, max, true, false, List, []}
use Rattle.std.proofs.Common.{◌∷◌, length, map, get_or, set, refl, sym, ap, subst, arith}
use Rattle.std.specs.Str.{bytes_eq}
use Rattle.std.specs.List.{AllByRecursion, IsDistinct}
use Rattle.std.proofs.lemmas.Bool.{cases_Bool, cases_eq}
use Rattle.std.proofs.lemmas.List.{get_or-set_same, length-map}
use Rattle.std.proofs.lemmas.Slice.Eq.{bytes_eq-Decides}
use Rattle.sorted_lists.specs.Range.{numbers_from}
use Rattle.repo_plan.specs.Parts.{Pair}
use Rattle.repo_catalog.specs.Entries.{lists}
use Rattle.svs_vector.specs.Vectors.{join}
use Rattle.svs_vector.proofs.JoinLemmas.{join-at}
use Rattle.group_model.specs.Events as group
use Rattle.group_model.specs.Publications.{Logs, last_of}
use Rattle.group_model.specs.Member.{Member, has_deleted}
use Rattle.group_model.specs.Changes.{learns}
use Rattle.group_model.specs.World.{Environment, World, catalogue_at, logs, member, no_member, sent_at}
use Rattle.group_model.specs.Steps.{after_deliver, after_event, drawn}
use Rattle.group_model.specs.Sound.{IsPublished}
use Rattle.group_model.specs.Catalogues.{BelongsInJoin, HoldsNoWithdrawal}
use Rattle.group_model.specs.Deletions.{OnlyObjectsDeleted}
use Rattle.group_model.specs.Lasting.{AllLast, StaysListed}
use Rattle.group_model.specs.Laws.{AllJoined}
use Rattle.group_model.proofs.PublicLaws.{begins_with_objects_deleted, entries_stay, joins_by_itself, lists_those}
use Rattle.group_model.proofs.PublicLaws.{lists_what_is_held, lists_what_is_left, nothing_taken_back}
use Rattle.group_model.proofs.PublicLaws.{stays_with_objects_deleted}
use Rattle.group_model.proofs.Runs.{nothing_published}
use Rattle.group_model.proofs.Settles.{logs_settled, member_settled}
use Rattle.script_lang.specs.declared.verb.Verb.TheVariants as verb
use Rattle.script_lang.specs.Kinds.{Text, Number}
use Rattle.script_lang.specs.Forms.{statement}
use Rattle.script_lang.specs.Checking.{Declared, Party, party_label}
use Rattle.bench_world.specs.EventValues.{EventValue}
use Rattle.script_story.specs.StatedEvents.{party_number}
use Rattle.script_report.specs.Labels.{label_at}
use Rattle.script_story.specs.Evaluation.{RunEnvironment, State, acted_by, found_world, outside_of, accepted}
use Rattle.script_story.specs.ScriptRun.{Reached, nothing_reached, reached_after}
use Rattle.script_story.specs.Headline.{AreTakenFirst, IsTakenAmid, LineIsTaken, LinesAreTaken, group_at, labels_at}
use Rattle.script_story.specs.Listings.{IsInformedOfAll, ListedStay, SettledListWhatIsHeld}
use Rattle.script_story.specs.Listings.{SettledListWhatIsLeft, InformedMembersJoin}
use Rattle.script_story.proofs.HeadlineLines.{each_is_taken}
use Rattle.script_story.proofs.HeadlineTaken.{accepted_report, accepted_state}
use Rattle.script_story.proofs.HeadlineGroups.{IsSoundState, event_line, opened}
use Rattle.script_story.proofs.HeadlineGroups.{sound_from_start, sound_lines}
use Rattle.script_story.proofs.LinesTaken.{IsActed, acts_so, stated_taken, taken_line}
use Rattle.script_story.proofs.HeadlineEvents.{RunsTo, lines_run, so_from_start}
use Rattle.script_story.proofs.HeadlineSettles.{settled_group, shows_join}

-- ---- right after a settle

-- A settle deletes nothing and publishes nothing.
module _ (out : Environment) (w after : World) (is : after ≡ after_event out w group.Event.Settle) (m : ℕ) (pair : Pair)
    (there : m < length w.members) where
  hidden_same : has_deleted (member after m) pair ≡ has_deleted (member w m) pair
  hidden_same =
      ap (λ (x : World). has_deleted (member x m) pair) is
      ∙ ap (λ (x : Member). has_deleted x pair) (member_settled out w m there)

  logs_same : logs after ≡ logs w
  logs_same = ap logs is ∙ logs_settled out w 0 w.members

  member_same : member after m ≡ member (after_event out w group.Event.Settle) m
  member_same = ap (λ (x : World). member x m) is

  listed_same : lists pair (catalogue_at after m)
      ≡ lists pair (catalogue_at (after_event out w group.Event.Settle) m)
  listed_same = ap (λ (x : World). lists pair (catalogue_at x m)) is

pub settled_list_held : SettledListWhatIsHeld
settled_list_held env lines reports r taken report new l m pair there =
    let out : Environment = outside_of env r.state.keys in
    let w : World = group_at env r in
    let after : World = group_at env new in
    let is : after ≡ after_event out w group.Event.Settle = settled_group env r report new l in
    let law = lists_what_is_held out w (sound_from_start env lines reports r taken).sound m pair there in (
      λ listed.
          let h = law.0 (sym (listed_same out w after is m pair there) ∙ listed) in
          let kept : HoldsNoWithdrawal (logs w) (member after m) pair =
          subst (λ (x : Member). HoldsNoWithdrawal (logs w) x pair) (sym (member_same out w after is m pair there))
          h.2 in
          record {
            held = h.0;
            undeleted = hidden_same out w after is m pair there ∙ h.1;
            not_withdrawn = subst (λ (ls : Logs). HoldsNoWithdrawal ls (member after m) pair)
                (sym (logs_same out w after is m pair there)) kept;
          },
      λ left.
          let kept : HoldsNoWithdrawal (logs w) (member after m) pair =
          subst (λ (ls : Logs). HoldsNoWithdrawal ls (member after m) pair) (logs_same out w after is m pair there)
          left.not_withdrawn in
          listed_same out w after is m pair there
          ∙ law.1 (
            left.held,
            sym (hidden_same out w after is m pair there) ∙ left.undeleted,
            subst (λ (x : Member). HoldsNoWithdrawal (logs w) x pair) (member_same out w after is m pair there) kept,
          ),
    )

-- Only objects are deleted.
only_objects : (env : RunEnvironment) (lines reports : List (List ℕ)) (r : Reached) → AreTakenFirst env lines reports r
    → OnlyObjectsDeleted (group_at env r)
only_objects env lines reports r taken =
    so_from_start env OnlyObjectsDeleted begins_with_objects_deleted
    (λ out w e sound step so. stays_with_objects_deleted out w sound e step so) lines reports r taken

pub settled_list_left : SettledListWhatIsLeft
settled_list_left env lines reports r taken report new l m pair there =
    let out : Environment = outside_of env r.state.keys in
    let w : World = group_at env r in
    let after : World = group_at env new in
    let is : after ≡ after_event out w group.Event.Settle = settled_group env r report new l in
    let law = lists_what_is_left out w (sound_from_start env lines reports r taken).sound
    (only_objects env lines reports r taken) m pair there in (
      λ listed.
          let h = law.0 (sym (listed_same out w after is m pair there) ∙ listed) in
          record {
            joins = subst (λ (ls : Logs). BelongsInJoin ls pair) (sym (logs_same out w after is m pair there)) h.2;
            held = h.0;
            undeleted = hidden_same out w after is m pair there ∙ h.1;
          },
      λ left.
          listed_same out w after is m pair there
          ∙ law.1 (
            left.held,
            sym (hidden_same out w after is m pair there) ∙ left.undeleted,
            subst (λ (ls : Logs). BelongsInJoin ls pair) (logs_same out w after is m pair there) left.joins,
          ),
    )

-- ---- from then on

-- Before the first event nothing is listed.
none_listed : (env : RunEnvironment) (s : State) → IsSoundState env s → s.declared.events ≡ false
    → (m : ℕ) (pair : Pair)
    → m < length (found_world env s).members → lists pair (catalogue_at (found_world env s) m) ≡ true → ⊥
none_listed env s sound early m pair there listed =
    let w : World = found_world env s in
    let n : ℕ = length s.keys.members.names in
    let published : IsPublished (logs w) pair =
    ((lists_those (outside_of env s.keys) w sound.sound m pair there).exactly.0 listed).published in
    let none : last_of (logs w) pair.0 ≡ 0 =
    ap (λ (x : World). last_of (logs x) pair.0) (opened env s (sound.begun early))
    ∙ nothing_published _ (numbers_from 0 n) pair.0 (λ x. refl) in
    omega (arith, none, published.from_one, published.to_last)

pub listed_stay : ListedStay
listed_stay env before printed r first lines reports last taken m pair there listed =
    elim (cases_Bool r.state.declared.events) [
      | inl begun ↦
          let run : RunsTo env r.state last.state = lines_run env r lines reports last taken sound begun in
          subst (λ (x : World). StaysListed (group_at env r) x m pair) (sym run.group)
          (entries_stay (outside_of env r.state.keys) (group_at env r) sound.sound run.events m pair run.taken there
          listed)
      | inr early ↦ absurd (none_listed env r.state sound early m pair there listed)
    ] where
      sound : IsSoundState env r.state
      sound = sound_from_start env before printed r first

-- ---- what lines reach

-- The state that is reached after a line is unique.
one_after : (env : RunEnvironment) (r : Reached) (line a b : List ℕ) (new other : Reached)
    → LineIsTaken env r line a new
    → LineIsTaken env r line b other → new ≡ other
one_after env r line a b new other is too =
    let same : accepted a new.state ≡ accepted b other.state = sym is.verdict ∙ too.verdict in
    let report : b ≡ a = accepted_report b a other.state new.state same in
    let state : other.state ≡ new.state = accepted_state b a other.state new.state same in
    is.reached ∙ sym (λ i. reached_after r line (report i) (state i)) ∙ sym too.reached

one_reached : (env : RunEnvironment) (r : Reached) (lines a b : List (List ℕ)) (last other : Reached)
    → LinesAreTaken env r lines a last → LinesAreTaken env r lines b other → last ≡ other
one_reached env r [] [] [] last other is too = is ∙ sym too
one_reached env r [] (x ∷ a) b last other is too = absurd is
one_reached env r [] [] (y ∷ b) last other is too = absurd too
one_reached env r (line ∷ lines) [] b last other is too = absurd is
one_reached env r (line ∷ lines) (x ∷ a) [] last other is too = absurd too
one_reached env r (line ∷ lines) (x ∷ a) (y ∷ b) last other is too =
    let same : too.0 ≡ is.0 = one_after env r line y x too.0 is.0 too.1 is.1 in
    one_reached env is.0 lines a b last other is.2
    (subst (λ (next : Reached). LinesAreTaken env next lines b other) same too.2)

-- ---- labels

apart_at : (label : List ℕ) (parties : List Party) (m : ℕ)
    → AllByRecursion (λ (other : List ℕ). bytes_eq label other ≡ false) (map party_label parties)
    → m < length parties → bytes_eq label (label_at (map party_label parties) m) ≡ false
apart_at label [] m apart inside = absurd (omega (arith, inside))
apart_at label (p ∷ ps) zero apart inside = apart.0
apart_at label (p ∷ ps) (suc m) apart inside = apart_at label ps m apart.1 (omega (arith, inside))

-- A label stands for the member that has it.
pub number_of : (parties : List Party) (m : ℕ) → IsDistinct bytes_eq (map party_label parties) → m < length parties
    → party_number (label_at (map party_label parties) m) parties ≡ m
unfolding IsDistinct
number_of [] m distinct inside = absurd (omega (arith, inside))
number_of (p ∷ ps) zero distinct inside = rw ((bytes_eq-Decides p.label p.label).1 refl) refl
number_of (p ∷ ps) (suc m) distinct inside =
    let label : List ℕ = label_at (map party_label ps) m in
    let apart : bytes_eq p.label label ≡ false = apart_at p.label ps m distinct.0 (omega (arith, inside)) in
    rw (apart, number_of ps m distinct.1 (omega (arith, inside))) (omega arith)

-- ---- where all are informed of all

abbrev known_by : World → ℕ → ℕ → ℕ
known_by w m p = get_or (member w m).known p 0

learns_it : (out : Environment) (w : World) (m : ℕ) (printed : List ℕ) (p : ℕ) → m < length w.members
    → get_or printed p 0 ≤ known_by (after_deliver out w m printed) m p
learns_it out w m printed p there =
    let x : Member = learns (drawn out w m) w.time printed (member w m) in
    let at : get_or (set w.members m x) m no_member ≡ x = get_or-set_same w.members m x no_member there in
    let joined : get_or (join (member w m).known printed) p 0
    ≡ max (get_or (member w m).known p 0) (get_or printed p 0) =
    join-at (member w m).known printed p in
    subst (λ (y : Member). get_or printed p 0 ≤ get_or y.known p 0) (sym at) (omega (arith, joined))

module _ (env : RunEnvironment) (lines reports : List (List ℕ)) (r : Reached)
    (taken : AreTakenFirst env lines reports r) where
  sound : IsSoundState env r.state
  sound = sound_from_start env lines reports r taken

  module _ (m p : ℕ) (there : m < length (labels_at r)) (t : IsInformedOfAll env lines r m p) where
    amid : IsTakenAmid env nothing_reached t.before t.line t.others reports r
    amid = each_is_taken env nothing_reached t.before t.line t.others reports r
        (subst (λ (ls : List (List ℕ)). AreTakenFirst env ls reports r) t.lines_are taken)

    abbrev here : Reached
    here = amid.here

    abbrev new : Reached
    new = amid.new

    same_here : here ≡ t.here
    same_here = one_reached env nothing_reached t.before amid.printed t.printed here t.here amid.before_it t.taken

    sound_here : IsSoundState env here.state
    sound_here = sound_from_start env t.before amid.printed here amid.before_it

    sound_new : IsSoundState env new.state
    sound_new = sound_lines env here (t.line ∷ []) (amid.report ∷ []) new (new, amid.it, refl) sound_here

    -- the line's event
    record IsDelivered : Type 0 where
      group : group_at env new
          ≡ after_deliver (outside_of env here.state.keys) (group_at env here) m
          (sent_at (group_at env here) t.sync).vector
      there_then : m < length (group_at env here).members
      run : RunsTo env new.state r.state

    delivered : IsDelivered
    unfolding acted_by
    delivered =
        let s : State = here.state in
        let label : List ℕ = label_at (labels_at r) m in
        let stated = statement verb.Deliver (Number t.sync ∷ Text label ∷ []) in
        let it = stated_taken env s t.line amid.report new.state stated t.stated
        (taken_line env here t.line amid.report new amid.it) in
        let e : EventValue = EventValue.Deliver t.sync (party_number label it.d.members) in
        let acts : IsActed env s it.d e amid.report new.state = acts_so env s it.d e amid.report new.state it.is in
        let declared = event_line s.declared it.d stated it.after in
        let begun : new.state.declared.events ≡ true =
        ap (λ (x : State). x.declared.events) acts.next ∙ ap (λ (x : Declared). x.events) declared.is in
        let run : RunsTo env new.state r.state =
        lines_run env new t.others amid.later r amid.after_it sound_new begun in
        let members : it.d.members ≡ r.state.declared.members =
        sym (run.members ∙ ap (λ (x : State). x.declared.members) acts.next) in
        let were : it.d.members ≡ s.declared.members = ap (λ (x : Declared). x.members) declared.is in
        let count : length (labels_at r) ≡ length r.state.declared.members =
        length-map r.state.declared.members party_label in
        let number : party_number label it.d.members ≡ m =
        ap (party_number label) members
        ∙ number_of r.state.declared.members m sound.labels (omega (arith, there, count)) in
        let w : World = group_at env here in
        record {
          group = ap (found_world env) acts.next
              ∙ ap (λ (n : ℕ). after_deliver (outside_of env s.keys) w n (sent_at w t.sync).vector) number;
          there_then =
              let a : length it.d.members ≡ length s.declared.members = ap length were in
              let b : length it.d.members ≡ length r.state.declared.members = ap length members in
              omega (arith, there, count, a, b, sound_here.many);
          run = run;
        }

    knows_it : last_of (logs (group_at env r)) p ≤ known_by (group_at env r) m p
    knows_it =
        let d : IsDelivered = delivered in
        let out : Environment = outside_of env here.state.keys in
        let w : World = group_at env here in
        let printed : List ℕ = (sent_at w t.sync).vector in
        let tells : get_or printed p 0 ≡ last_of (logs (group_at env r)) p =
        ap (λ (x : Reached). get_or (sent_at (group_at env x) t.sync).vector p 0) same_here ∙ t.tells in
        let learnt : get_or printed p 0 ≤ known_by (group_at env new) m p =
        subst (λ (x : World). get_or printed p 0 ≤ known_by x m p) (sym d.group)
        (learns_it out w m printed p d.there_then) in
        let last : AllLast (group_at env new) (group_at env r) =
        subst (AllLast (group_at env new)) (sym d.run.group)
        (nothing_taken_back (outside_of env new.state.keys) (group_at env new) sound_new.sound d.run.events
        d.run.taken) in
        let count : length (labels_at r) ≡ length r.state.declared.members =
        length-map r.state.declared.members party_label in
        let inside : m < length (group_at env new).members =
        omega (arith, there, count, sound.many, last.width) in
        let lasts : known_by (group_at env new) m p ≤ known_by (group_at env r) m p =
        (last.members m inside).known p in
        omega (arith, tells, learnt, lasts)

pub informed_members_join : InformedMembersJoin
informed_members_join env lines reports r taken printed wants hides =
    let sound_r : IsSoundState env r.state = sound env lines reports r taken in
    let w : World = group_at env r in
    let count : length (labels_at r) ≡ length r.state.declared.members =
    length-map r.state.declared.members party_label in
    let knows : (m p : ℕ) → m < length w.members → last_of (logs w) p ≤ known_by w m p =
    λ m p there.
    elim (cases_eq p m) [
      | inl own ↦
          let all : known_by w m m ≡ last_of (logs w) m = (sound_r.sound.members m there).own in
          subst (λ (q : ℕ). last_of (logs w) q ≤ known_by w m q) (sym own) (omega (arith, all))
      | inr other ↦
          let label_there : m < length (labels_at r) = omega (arith, there, count, sound_r.many) in
          elim (cases_eq (last_of (logs w) p) 0) [
            | inl none ↦ omega (arith, none)
            | inr some ↦
                knows_it env lines reports r taken m p label_there
                (printed m p label_there (λ same. other (sym same)) (omega (arith, some)))
          ]
    ] in
    let all : AllJoined w = λ m there.
    joins_by_itself (logs w) (member w m) (λ p inside. knows m p there) (hides m there) (wants m there) in
    shows_join env r sound_r all
