-- Only deletions hide publications.
use Rattle.std.proofs.Common.{◌≡◌, ◌∙◌, ℕ, zero, suc, ◌<◌, Bool, true, false, cond, not, List, [], ◌∷◌, length}
use Rattle.std.proofs.Common.{get_or, set, map, Option, Some, None, Result, Ok, refl, sym, ap, subst, arith}
use Rattle.std.specs.List.{list_all}
use Rattle.std.specs.Option.{IfSome}
use Rattle.std.proofs.lemmas.Bool.{not-true}
use Rattle.std.proofs.lemmas.List.{length-set}
use Rattle.repo_plan.specs.declared.part.Part.{Part}
use Rattle.svs_sync.specs.declared.fired.Fired.{Fired}
use Rattle.svs_sync.specs.declared.fired.Fired.TheVariants.{Early, Quiet, Send}
use Rattle.repo_object.specs.Objects.Post.{Offers, Withdraws}
use Rattle.repo_process.specs.Processes.{BlockState, closed, object_of}
use Rattle.repo_process.specs.Processes.BlockState.{Unknown, Already, Waiting, Whole}
use Rattle.repo_command.specs.declared.command.Command.{Command}
use Rattle.repo_command.specs.declared.command.Command.TheVariants.{Insert, Check, Delete}
use Rattle.group_model.specs.Member.{Member}
use Rattle.group_model.specs.Changes.{member_starts}
use Rattle.group_model.specs.Events.{SyncInterest, Response, Event}
use Rattle.group_model.specs.Events.Response.{Nothing, Its, Another}
use Rattle.group_model.specs.World.{Environment, World, member, no_member, sent_at}
use Rattle.group_model.specs.World.{with_member as world_with}
use Rattle.group_model.specs.Steps.{after_block, after_response, after_claiming, after_command, after_deliver}
use Rattle.group_model.specs.Steps.{after_event}
use Rattle.group_model.specs.Steps.{after_fire, after_hear, after_publish, block_at, response_read, response_from}
use Rattle.group_model.specs.Steps.{can_start}
use Rattle.group_model.specs.Steps.{claim_at, exceeds_log, timer_at, to_claim, with_process_at}
use Rattle.group_model.specs.Laws.{NothingDeleted}
use Rattle.group_model.proofs.Settles.{member_settled}
use Rattle.sorted_lists.specs.Range.{numbers_from}
use Rattle.repo_member.specs.Groups.{GroupKeys}
use Rattle.script_lang.specs.declared.line_fault.LineFault.{LineFault}
use Rattle.script_lang.specs.declared.verb.Verb.{Verb}
use Rattle.script_lang.specs.declared.verb.Verb.TheVariants as verb
use Rattle.script_lang.specs.Kinds.{Value, Text, Number, Named, Octets}
use Rattle.script_lang.specs.Forms.{Stated}
use Rattle.script_lang.specs.Lines.{line_of}
use Rattle.script_lang.specs.Checking.{Declared}
use Rattle.script_lang.proofs.Conditions.{and_left, and_right}
use Rattle.bench_world.specs.EventValues.{EventValue, group_event}
use Rattle.script_story.specs.StatedEvents.{stated_by, stated_event}
use Rattle.script_story.specs.Evaluation.{RunEnvironment, State, found_world, outside_of}
use Rattle.script_story.specs.ScriptRun.{Reached, nothing_reached}
use Rattle.script_story.specs.Headline.{LinesAreTaken, HidesByDeletionAlone, deletes, deletes_nothing, group_at}
use Rattle.script_story.proofs.HeadlineGroups.{IsSoundState, opened, sound_beginning, sound_line}
use Rattle.script_story.proofs.LinesTaken.{LineTaken, taken_line}
use Rattle.script_story.proofs.HeadlineEvents.{LineSteps, declares, line_steps, mirrors, steps, still, watches}

-- ---- events

-- Each member hides what it hid.
abbrev DeletesAsBefore : World → World → Type 0
DeletesAsBefore w new = (j : ℕ) → j < length w.members → (member new j).hidden ≡ (member w j).hidden

hidden_set : (ms : List Member) (i : ℕ) (m : Member) → m.hidden ≡ (get_or ms i no_member).hidden → (j : ℕ)
    → (get_or (set ms i m) j no_member).hidden ≡ (get_or ms j no_member).hidden
hidden_set [] i m h j = refl
hidden_set (x ∷ xs) zero m h zero = h
hidden_set (x ∷ xs) zero m h (suc j) = refl
hidden_set (x ∷ xs) (suc i) m h zero = refl
hidden_set (x ∷ xs) (suc i) m h (suc j) = hidden_set xs i m h j

-- one member changes, which hides what it hid
one : (w new : World) (i : ℕ) (m : Member) → new.members ≡ set w.members i m → m.hidden ≡ (member w i).hidden
    → DeletesAsBefore w new
one w new i m is h j inside =
    ap (λ (ms : List Member). (get_or ms j no_member).hidden) is ∙ hidden_set w.members i m h j

none_changes : (w new : World) → new.members ≡ w.members → DeletesAsBefore w new
none_changes w new is j inside = ap (λ (ms : List Member). (get_or ms j no_member).hidden) is

claiming : (w : World) (j f : ℕ) (c : Option Part) → DeletesAsBefore w (after_claiming w j f c)
claiming w j f None = none_changes w w refl
claiming w j f (Some t) = one w (after_claiming w j f (Some t)) j _ refl refl

coming : (out : Environment) (w v : World) (j f : ℕ) (c : Option Part) (came : Response) → v.members ≡ w.members
    → DeletesAsBefore w (after_response out v j f c came)
coming out w v j f None came is = none_changes w v is
coming out w v j f (Some t) Nothing is = none_changes w v is
coming out w v j f (Some t) Its is = λ i inside.
    one v (after_response out v j f (Some t) Its) j _ refl refl i
    (subst (λ (ms : List Member). i < length ms) (sym is) inside)
    ∙ none_changes w v is i inside
coming out w v j f (Some t) Another is = λ i inside.
    one v (after_response out v j f (Some t) Another) j _ refl refl i
    (subst (λ (ms : List Member). i < length ms) (sym is) inside)
    ∙ none_changes w v is i inside

firing : (out : Environment) (w : World) (j : ℕ) (f : Fired) → DeletesAsBefore w (after_fire out w j f)
firing out w j Early = none_changes w w refl
firing out w j Quiet = one w (after_fire out w j Quiet) j _ refl refl
firing out w j Send = one w (after_fire out w j Send) j _ refl refl

delivering : (out : Environment) (w : World) (j : ℕ) (printed : List ℕ)
    → DeletesAsBefore w (after_deliver out w j printed)
delivering out w j printed = one w (after_deliver out w j printed) j _ refl refl

hearing : (out : Environment) (w : World) (j : ℕ) (read : Option SyncInterest)
    → DeletesAsBefore w (after_hear out w j read)
hearing out w j None = none_changes w w refl
hearing out w j (Some sync) = go (exceeds_log w j sync) where
  go : (b : Bool) → DeletesAsBefore w (cond b w (after_deliver out w j sync.vector))
  go true = none_changes w w refl
  go false = delivering out w j sync.vector

-- A command that deletes nothing.
abbrev IsNoDeletion : Command → Type 0
IsNoDeletion (Insert name first last) = Unit {0}
IsNoDeletion (Check process) = Unit {0}
IsNoDeletion (Delete name) = ⊥

commanding : (w v : World) (j : ℕ) (command : Command) → v.members ≡ w.members → IsNoDeletion command
    → DeletesAsBefore w (after_command v j command)
commanding w v j (Insert name first last) is spares = go (can_start (member v j)) where
  go : (b : Bool) → DeletesAsBefore w (cond b (world_with v j (member_starts name first last (member v j))) v)
  go true = λ i inside.
      one v (world_with v j (member_starts name first last (member v j))) j _ refl refl i
      (subst (λ (ms : List Member). i < length ms) (sym is) inside)
      ∙ none_changes w v is i inside
  go false = none_changes w v is
commanding w v j (Check process) is spares = none_changes w v is
commanding w v j (Delete name) is spares = absurd spares

blocking : (out : Environment) (w : World) (j process : ℕ) (state : BlockState)
    → DeletesAsBefore w (after_block out w j process state)
blocking out w j process Unknown = none_changes w w refl
blocking out w j process Already = none_changes w w refl
blocking out w j process (Waiting p) = one w (with_process_at w j process p) j _ refl refl
blocking out w j process (Whole p) = λ i inside.
    let v : World = with_process_at w j process (closed p) in
    let kept : length v.members ≡ length w.members = length-set w.members j _ in
    one v (after_publish out v j (Offers (object_of p))) j _ refl refl i (omega (arith, kept, inside))
    ∙ one w v j _ refl refl i inside

-- An event that makes no member delete.
abbrev pub IsNoDeletionEvent : Event → Type 0
IsNoDeletionEvent (Event.Order j read) = ⊥
IsNoDeletionEvent (Event.Issue j client command) = IsNoDeletion command
IsNoDeletionEvent _ = Unit {0}

pub deletes_as_before : (out : Environment) (w : World) (e : Event) → IsNoDeletionEvent e
    → DeletesAsBefore w (after_event out w e)
deletes_as_before out w (Event.Publish j o) spares = one w (after_publish out w j (Offers o)) j _ refl refl
deletes_as_before out w (Event.Withdraw j seq) spares = one w (after_publish out w j (Withdraws seq)) j _ refl refl
deletes_as_before out w (Event.Deliver k j) spares = delivering out w j (sent_at w k).vector
deletes_as_before out w (Event.Sync k) spares = none_changes w w refl
deletes_as_before out w (Event.Advance ms) spares = none_changes w (after_event out w (Event.Advance ms)) refl
deletes_as_before out w (Event.Fire j) spares = firing out w j (timer_at w j)
deletes_as_before out w (Event.Restart j) spares = one w (after_event out w (Event.Restart j)) j _ refl refl
deletes_as_before out w (Event.Vector j) spares = none_changes w w refl
deletes_as_before out w (Event.Catalogue j) spares = none_changes w w refl
deletes_as_before out w (Event.Claim j f) spares = claiming w j f (to_claim w j)
deletes_as_before out w (Event.Lose j f) spares = one w (after_event out w (Event.Lose j f)) j _ refl refl
deletes_as_before out w (Event.Answer j f q) spares =
    coming out w _ j f (claim_at w j f) (response_from out w q (claim_at w j f)) refl
deletes_as_before out w (Event.Fetch j tries loss) spares =
    one w (after_event out w (Event.Fetch j tries loss)) j _ refl refl
deletes_as_before out w Event.Settle spares = λ i inside. ap (λ (m : Member). m.hidden) (member_settled out w i inside)
deletes_as_before out w (Event.Dump j t) spares = none_changes w w refl
deletes_as_before out w (Event.Hear j read) spares = hearing out w j read
deletes_as_before out w (Event.Ask j find) spares = none_changes w w refl
deletes_as_before out w (Event.Feed j f read) spares =
    coming out w w j f (claim_at w j f) (response_read w read (claim_at w j f)) refl
deletes_as_before out w (Event.Order j read) spares = absurd spares
deletes_as_before out w (Event.Issue j client command) spares = commanding w _ j command refl spares
deletes_as_before out w (Event.Block j process index content) spares =
    blocking out w j process (block_at w j process index content)
deletes_as_before out w Event.Summary spares = none_changes w w refl
deletes_as_before out w Event.Traffic spares = none_changes w w refl

-- ---- what lines state

undeleting : (g : GroupKeys) (form : Verb) (d : Declared) (values : List Value) → deletes form ≡ false
    → IfSome (stated_by form d values) (λ e. IsNoDeletionEvent (group_event g e))
undeleting g verb.Delete d values only = cc
undeleting g verb.Order d values only = cc
undeleting g verb.Publish d (Text m ∷ Named name ∷ Number size ∷ Octets content ∷ []) only = tt
undeleting g verb.Withdraw d (Text m ∷ Number s ∷ []) only = tt
undeleting g verb.Deliver d (Number k ∷ Text m ∷ []) only = tt
undeleting g verb.Sync d (Number k ∷ []) only = tt
undeleting g verb.Advance d (Number ms ∷ []) only = tt
undeleting g verb.Fire d (Text m ∷ []) only = tt
undeleting g verb.Restart d (Text m ∷ []) only = tt
undeleting g verb.Vector d (Text m ∷ []) only = tt
undeleting g verb.Catalogue d (Text m ∷ []) only = tt
undeleting g verb.Claim d (Text m ∷ Number f ∷ []) only = tt
undeleting g verb.Lose d (Text m ∷ Number f ∷ []) only = tt
undeleting g verb.Answer d (Text m ∷ Number f ∷ Text q ∷ []) only = tt
undeleting g verb.Fetch d (Text m ∷ Number workers ∷ Number tries ∷ Number loss ∷ []) only = tt
undeleting g verb.Settle d (Number workers ∷ []) only = tt
undeleting g verb.Dump d (Text m ∷ Text p ∷ Number s ∷ Number x ∷ []) only = tt
undeleting g verb.Hear d (Text m ∷ Octets octets ∷ []) only = tt
undeleting g verb.Ask d (Text m ∷ Octets octets ∷ []) only = tt
undeleting g verb.Feed d (Text m ∷ Number f ∷ Octets octets ∷ []) only = tt
undeleting g verb.Insert d (Text m ∷ Text client ∷ Named name ∷ Number first ∷ Number last ∷ []) only = tt
undeleting g verb.Block d (Text m ∷ Number process ∷ Number index ∷ Octets content ∷ []) only = tt
undeleting g verb.Status d (Text m ∷ Text client ∷ Number process ∷ []) only = tt
undeleting g verb.Summary d [] only = tt
undeleting g verb.Traffic d [] only = tt
undeleting g form d values only = tt

undeleting_some : (g : GroupKeys) (o : Option EventValue) (e : EventValue) → o ≡ Some e
    → IfSome o (λ v. IsNoDeletionEvent (group_event g v)) → IsNoDeletionEvent (group_event g e)
undeleting_some g o e is h =
    let P : Option EventValue → Type 0 = λ x. IfSome x (λ v. IsNoDeletionEvent (group_event g v)) in subst P is h

-- ---- lines

-- Members that have nothing hide nothing.
opening_deletes : (f : ℕ → Member) (xs : List ℕ) (j : ℕ) → ((x : ℕ) → (f x).hidden ≡ [])
    → (get_or (map f xs) j no_member).hidden ≡ []
opening_deletes f [] j each = refl
opening_deletes f (x ∷ xs) zero each = each x
opening_deletes f (x ∷ xs) (suc j) each = opening_deletes f xs j each

stated_keeps : (r : Result (Option Stated) LineFault) (stated : Stated) → r ≡ Ok (Some stated)
    → deletes_nothing r ≡ true → deletes stated.verb ≡ false
stated_keeps r stated is keeps =
    let spares : not (deletes stated.verb) ≡ true = subst (λ x. deletes_nothing x ≡ true) is keeps in
    not-true (deletes stated.verb) spares

line_deletes : (env : RunEnvironment) (s : State) (line : List ℕ) (new : State) → IsSoundState env s
    → IsSoundState env new
    → LineSteps env s line new → deletes_nothing (line_of line) ≡ true → NothingDeleted (found_world env s)
    → NothingDeleted (found_world env new)
line_deletes env s line new sound sound_new (still same) keeps nothing_deleted j inside =
    subst (λ (x : State). NothingDeleted (found_world env x)) (sym same) nothing_deleted j inside
line_deletes env s line new sound sound_new (declares early none) keeps nothing_deleted j inside =
    ap (λ (w : World). (member w j).hidden) (opened env new (sound_new.begun none))
    ∙ opening_deletes _ (numbers_from 0 (length new.keys.members.names)) j (λ x. refl)
line_deletes env s line new sound sound_new (watches beside) keeps nothing_deleted j inside =
    subst NothingDeleted (sym beside.leaves.group) nothing_deleted j inside
line_deletes env s line new sound sound_new (mirrors leaves same) keeps nothing_deleted j inside =
    subst NothingDeleted (sym leaves.group) nothing_deleted j inside
line_deletes env s line new sound sound_new (steps stated d e read statement step) keeps nothing_deleted j inside =
    let w : World = found_world env s in
    let count : length new.declared.members ≡ length s.declared.members = ap length step.members in
    let before : j < length w.members = omega (arith, inside, count, sound.many, sound_new.many) in
    let only : deletes stated.verb ≡ false = stated_keeps (line_of line) stated read keeps in
    let spares : IsNoDeletionEvent (group_event s.keys e) =
    undeleting_some s.keys (stated_event d stated) e statement (undeleting s.keys stated.verb d stated.values only) in
    ap (λ (x : World). (member x j).hidden) step.group
    ∙ deletes_as_before (outside_of env s.keys) w (group_event s.keys e) spares j before
    ∙ nothing_deleted j before

lines_delete : (env : RunEnvironment) (r : Reached) (lines reports : List (List ℕ)) (last : Reached)
    → LinesAreTaken env r lines reports last → list_all (λ line. deletes_nothing (line_of line)) lines ≡ true
    → IsSoundState env r.state → NothingDeleted (group_at env r) → NothingDeleted (group_at env last)
lines_delete env r [] [] last taken keep sound nothing_deleted =
    subst (λ (x : Reached). NothingDeleted (group_at env x)) (sym taken) nothing_deleted
lines_delete env r [] (report ∷ reports) last taken keep sound nothing_deleted = absurd taken
lines_delete env r (line ∷ lines) [] last taken keep sound nothing_deleted = absurd taken
lines_delete env r (line ∷ lines) (report ∷ reports) last taken keep sound nothing_deleted =
    let next : Reached = taken.0 in
    let here : LineTaken env r.state line report next.state = taken_line env r line report next taken.1 in
    let sound_next : IsSoundState env next.state =
    sound_line env r.state line report next.state here sound in
    lines_delete env next lines reports last taken.2 (and_right (deletes_nothing (line_of line)) _ keep) sound_next
    (line_deletes env r.state line next.state sound sound_next
    (line_steps env r.state line report next.state here sound) (and_left (deletes_nothing (line_of line)) _ keep)
    nothing_deleted)

pub hides_by_deletion_alone : HidesByDeletionAlone
hides_by_deletion_alone env lines reports r taken keep =
    lines_delete env nothing_reached lines reports r taken keep (sound_beginning env)
    (λ j inside. absurd (omega arith))
