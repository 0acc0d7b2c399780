-- The sync state of each member follows the table of suppression.
use Rattle.std.proofs.Common.{◌≡◌, inl, inr, ℕ, suc, zero, ◌+◌, ◌<◌, Bool, true, false, cond, List, [], ◌∷◌, ◌++◌}
use Rattle.std.proofs.Common.{length, get_or, set, ltb, refl, sym, ap, ◌∙◌, subst, arith, Option, Some, None, Result}
use Rattle.std.proofs.Common.{Ok, Err}
use Rattle.std.proofs.lemmas.Bool.{cases_Bool, eqb-true, eqb-false}
use Rattle.std.proofs.lemmas.List.{length-set, get_or-set_same, get_or-set_other, get_or-map, length-map}
use Rattle.std.specs.Prelude.{◌==◌, replicate}
use Rattle.repo_plan.specs.declared.part.Part.{Part}
use Rattle.sorted_lists.specs.Range.{numbers_from}
use Rattle.sorted_lists.proofs.Ranges.{length-numbers, number_at}
use Rattle.svs_vector.specs.Vectors.{covers}
use Rattle.svs_sync.specs.declared.fired.Fired.{Fired}
use Rattle.svs_sync.specs.declared.fired.Fired.TheVariants.{Early, Quiet, Send}
use Rattle.svs_sync.specs.Suppression.{periodic}
use Rattle.svs_sync.specs.Suppression.SyncEvent.{published, heard, fired, reset}
use Rattle.svs_sync.specs.SyncStates.{SyncState, kept, becomes_steady, when_due, when_fired, state_after_event}
use Rattle.svs_sync.specs.SyncStates.{state_after_events}
use Rattle.svs_sync.proofs.KeptLemmas.{after_all_same, fires_same}
use Rattle.repo_object.specs.Objects.{Post}
use Rattle.repo_object.specs.Objects.Post.{Offers, Withdraws}
use Rattle.group_model.specs.Publications.{Publication, pair_in}
use Rattle.repo_process.specs.Processes.{BlockState, closed, object_of}
use Rattle.repo_process.specs.Processes.BlockState.{Unknown, Already, Waiting, Whole}
use Rattle.repo_command.specs.declared.command.Command.{Command}
use Rattle.repo_command.specs.declared.command.Command.TheVariants.{Insert, Check, Delete}
use Rattle.group_model.specs.Member.{Member, catalogued_under, deletes_publication, deletes_all}
use Rattle.group_model.specs.Changes.{publishes, learns, member_starts}
use Rattle.group_model.specs.Events.{SyncInterest, Response, Event}
use Rattle.group_model.specs.Events.Response.{Nothing, Its, Another}
use Rattle.group_model.specs.World.{Environment, World, no_member, member, with_member, logs, sent_at, initial_world}
use Rattle.group_model.specs.Steps.{drawn, claim_at, to_claim, timer_at, exceeds_log, response_from, response_read}
use Rattle.group_model.specs.Steps.{can_start}
use Rattle.group_model.specs.Steps.{block_at, with_process_at, after_event, after_events, after_hear, after_fire}
use Rattle.group_model.specs.Steps.{after_claiming, after_response, after_settle, after_command, after_order}
use Rattle.group_model.specs.Steps.{after_block}
use Rattle.group_model.specs.Steps.{after_deliver, after_publish}
use Rattle.group_model.specs.Refusals.{EventIsTaken, EventsAreTaken}
use Rattle.group_model.specs.Sound.{IsSoundGroup}
use Rattle.group_model.specs.Reached.{InSoundGroups}
use Rattle.group_model.specs.Machines.{only_at, hears_of, happens_when_read, happens_in_block}
use Rattle.group_model.specs.Machines.{happens_to, happens_over, first_machine}
use Rattle.group_model.specs.Machines.{MachinesFollowTable, MachinesBegin, ReachedMachinesFollowTable}
use Rattle.group_model.proofs.Settles.{member_settled}
use Rattle.group_model.proofs.Worlds.{sound_after}
use Rattle.group_model.proofs.Lasting.{lasts}
use Rattle.group_model.proofs.Runs.{sound_initial}
use Rattle.svs_sync.specs.Suppression

-- what happened to a sync state makes the second of the first
abbrev Makes : List Suppression.SyncEvent → Member → Member → Type 0
Makes es old new = new.machine ≡ state_after_events es old.machine

one : (e : Suppression.SyncEvent) (k : SyncState) → state_after_events (e ∷ []) k ≡ state_after_event e k
unfolding state_after_events
one e k = refl

none : (k : SyncState) → state_after_events [] k ≡ k
unfolding state_after_events
none k = refl

in_turn : (xs ys : List Suppression.SyncEvent) (k : SyncState)
    → state_after_events (xs ++ ys) k ≡ state_after_events ys (state_after_events xs k)
unfolding state_after_events
in_turn [] ys k = refl
in_turn (x ∷ xs) ys k = in_turn xs ys (state_after_event x k)

-- one member changes, by what happened to its sync state
makes_set : (w : World) (i : ℕ) (m : Member) (e : Suppression.SyncEvent) (j : ℕ) → j < length w.members
    → m.machine ≡ state_after_event e (member w i).machine
    → Makes (only_at i j e) (member w j) (get_or (set w.members i m) j no_member)
makes_set w i m e j l h = elim (cases_Bool (i == j)) [
  | inl y ↦
      let same : i ≡ j = eqb-true i j y in
      let there : get_or (set w.members i m) j no_member ≡ m =
      ap (λ (k : ℕ). get_or (set w.members i m) k no_member) (sym same)
      ∙ get_or-set_same w.members i m no_member (subst (λ (k : ℕ). k < length w.members) (sym same) l) in
      ap (λ (x : Member). x.machine) there
      ∙ h
      ∙ ap (λ (k : ℕ). state_after_event e (member w k).machine) same
      ∙ sym (ap (λ (b : Bool). state_after_events (cond b (e ∷ []) []) (member w j).machine) y
      ∙ one e (member w j).machine)
  | inr n ↦
      let other : get_or (set w.members i m) j no_member ≡ member w j =
      get_or-set_other w.members i j m no_member (λ same. eqb-false i j n (sym same)) in
      ap (λ (x : Member). x.machine) other
      ∙ sym (ap (λ (b : Bool). state_after_events (cond b (e ∷ []) []) (member w j).machine) n
      ∙ none (member w j).machine)
]

-- one member changes, and its sync state doesn't
makes_beside : (ms : List Member) (i : ℕ) (m : Member) (j : ℕ) → m.machine ≡ (get_or ms i no_member).machine
    → Makes [] (get_or ms j no_member) (get_or (set ms i m) j no_member)
makes_beside [] i m j h = sym (none no_member.machine)
makes_beside (x ∷ xs) zero m zero h = h ∙ sym (none x.machine)
makes_beside (x ∷ xs) zero m (suc j) h = sym (none (get_or xs j no_member).machine)
makes_beside (x ∷ xs) (suc i) m zero h = sym (none x.machine)
makes_beside (x ∷ xs) (suc i) m (suc j) h = makes_beside xs i m j h

makes_none : (m : Member) → Makes [] m m
makes_none m = sym (none m.machine)

machine_deletes : (ps : List Publication) (m : Member) → (deletes_all ps m).machine ≡ m.machine
machine_deletes [] m = refl
machine_deletes (p ∷ ps) m = machine_deletes ps (deletes_publication (pair_in p) m)

-- ---- each event

makes_claim : (w : World) (i f : ℕ) (c : Option Part) (j : ℕ)
    → Makes [] (member w j) (member (after_claiming w i f c) j)
makes_claim w i f None j = makes_none (member w j)
makes_claim w i f (Some t) j = makes_beside w.members i _ j refl

makes_came : (env : Environment) (w v : World) (i f : ℕ) (c : Option Part) (came : Response) (j : ℕ)
    → v.members ≡ w.members
    → Makes [] (member w j) (member (after_response env v i f c came) j)
makes_came env w v i f None came j e =
    ap (λ (ms : List Member). (get_or ms j no_member).machine) e ∙ makes_none (member w j)
makes_came env w v i f (Some t) Nothing j e =
    ap (λ (ms : List Member). (get_or ms j no_member).machine) e ∙ makes_none (member w j)
makes_came env w v i f (Some t) Its j e =
    makes_beside v.members i _ j refl
    ∙ ap (λ (ms : List Member). state_after_events [] (get_or ms j no_member).machine) e
makes_came env w v i f (Some t) Another j e =
    makes_beside v.members i _ j refl
    ∙ ap (λ (ms : List Member). state_after_events [] (get_or ms j no_member).machine) e

makes_command : (w v : World) (i : ℕ) (command : Command) (j : ℕ) → v.members ≡ w.members
    → Makes [] (member w j) (member (after_command v i command) j)
makes_command w v i (Insert name first last) j e =
    go (can_start (member v i))
    ∙ ap (λ (ms : List Member). state_after_events [] (get_or ms j no_member).machine) e where
      go : (b : Bool)
          → Makes [] (member v j) (member (cond b (with_member v i (member_starts name first last (member v i))) v) j)
      go true = makes_beside v.members i _ j refl
      go false = makes_none (member v j)
makes_command w v i (Check process) j e =
    ap (λ (ms : List Member). (get_or ms j no_member).machine) e ∙ makes_none (member w j)
makes_command w v i (Delete name) j e =
    makes_beside v.members i _ j (machine_deletes (catalogued_under (logs v) (member v i) name) (member v i))
    ∙ ap (λ (ms : List Member). state_after_events [] (get_or ms j no_member).machine) e

makes_order : (w : World) (i : ℕ) (read : Result (ℕ × Command) ℕ) (j : ℕ)
    → Makes [] (member w j) (member (after_order w i read) j)
makes_order w i (Ok order) j = makes_command w w i order.1 j refl
makes_order w i (Err code) j = makes_none (member w j)

makes_publish : (env : Environment) (w : World) (i : ℕ) (o : Post) (j : ℕ) → j < length w.members
    → Makes (only_at i j (published w.time (drawn env w i))) (member w j) (member (after_publish env w i o) j)
unfolding state_after_event
makes_publish env w i o j l =
    makes_set w i (publishes (drawn env w i) w.time i o (member w i)) (published w.time (drawn env w i)) j l refl

makes_deliver : (env : Environment) (w : World) (i : ℕ) (received : List ℕ) (j : ℕ) → j < length w.members
    → Makes (hears_of env w i j received) (member w j) (member (after_deliver env w i received) j)
unfolding state_after_event
makes_deliver env w i received j l =
    makes_set w i (learns (drawn env w i) w.time received (member w i))
    (heard w.time received (member w i).known (drawn env w i)) j l refl

makes_hear : (env : Environment) (w : World) (i : ℕ) (read : Option SyncInterest) (j : ℕ) → j < length w.members
    → Makes (happens_when_read env w i j read) (member w j) (member (after_hear env w i read) j)
makes_hear env w i None j l = makes_none (member w j)
makes_hear env w i (Some sync) j l = go (exceeds_log w i sync) where
  go : (b : Bool)
      → Makes (cond b [] (hears_of env w i j sync.vector)) (member w j)
      (member (cond b w (after_deliver env w i sync.vector)) j)
  go true = makes_none (member w j)
  go false = makes_deliver env w i sync.vector j l

makes_reset : (env : Environment) (w : World) (i : ℕ) (j : ℕ) (m : Member) → j < length w.members
    → m.machine ≡ becomes_steady w.time (drawn env w i) (member w i).machine
    → Makes (only_at i j (reset w.time (drawn env w i))) (member w j) (get_or (set w.members i m) j no_member)
unfolding state_after_event
makes_reset env w i j m l e = makes_set w i m (reset w.time (drawn env w i)) j l e

-- a member stays as it is, which is what happened to its sync state makes of it
makes_same : (w : World) (i : ℕ) (e : Suppression.SyncEvent) (j : ℕ)
    → (member w i).machine ≡ state_after_event e (member w i).machine → Makes (only_at i j e) (member w j) (member w j)
makes_same w i e j h = elim (cases_Bool (i == j)) [
  | inl y ↦
      let same : i ≡ j = eqb-true i j y in
      subst (λ (k : ℕ). (member w k).machine ≡ state_after_event e (member w k).machine) same h
      ∙ sym (ap (λ (b : Bool). state_after_events (cond b (e ∷ []) []) (member w j).machine) y
      ∙ one e (member w j).machine)
  | inr n ↦
      sym (ap (λ (b : Bool). state_after_events (cond b (e ∷ []) []) (member w j).machine) n
      ∙ none (member w j).machine)
]

-- ---- what a timer says is what its sync state makes of it

abbrev IsDue : Fired → Type 0
IsDue Early = ⊥
IsDue Quiet = Unit {0}
IsDue Send = Unit {0}

due : (known : List ℕ) (h : Option (List ℕ)) → IsDue (when_due known h)
due known None = tt
due known (Some v) = either (covers v known) where
  either : (b : Bool) → IsDue (cond b Quiet Send)
  either true = tt
  either false = tt

fired_then : (now : ℕ) (known : List ℕ) (draw : ℕ) (k : SyncState) → ltb now k.deadline ≡ false
    → state_after_event (fired now known draw) k ≡ becomes_steady now draw k
unfolding state_after_event
fired_then now known draw k e = ap (λ (b : Bool). cond b k (becomes_steady now draw k)) e

fired_early : (now : ℕ) (known : List ℕ) (draw : ℕ) (k : SyncState) → ltb now k.deadline ≡ true
    → state_after_event (fired now known draw) k ≡ k
unfolding state_after_event
fired_early now known draw k e = ap (λ (b : Bool). cond b k (becomes_steady now draw k)) e

makes_fire : (env : Environment) (w : World) (i j : ℕ) → j < length w.members
    → Makes (only_at i j (fired w.time (member w i).known (drawn env w i))) (member w j)
    (member (after_fire env w i (timer_at w i)) j)
makes_fire env w i j l =
    go (ltb w.time (member w i).machine.deadline) refl (when_due (member w i).known (member w i).machine.heard)
    (due (member w i).known (member w i).machine.heard) where
      go : (b : Bool) → ltb w.time (member w i).machine.deadline ≡ b → (f : Fired) → IsDue f
          → Makes (only_at i j (fired w.time (member w i).known (drawn env w i))) (member w j)
          (member (after_fire env w i (cond b Early f)) j)
      go true e f d =
          makes_same w i _ j (sym (fired_early w.time (member w i).known (drawn env w i) (member w i).machine e))
      go false e Early d = absurd d
      go false e Quiet d =
          makes_set w i _ _ j l (sym (fired_then w.time (member w i).known (drawn env w i) (member w i).machine e))
      go false e Send d =
          makes_set w i _ _ j l (sym (fired_then w.time (member w i).known (drawn env w i) (member w i).machine e))

makes_block : (env : Environment) (w : World) (i process : ℕ) (state : BlockState) (j : ℕ) → i < length w.members
    → j < length w.members
    → Makes (happens_in_block env w i j state) (member w j) (member (after_block env w i process state) j)
makes_block env w i process Unknown j li l = makes_none (member w j)
makes_block env w i process Already j li l = makes_none (member w j)
makes_block env w i process (Waiting p) j li l = makes_beside w.members i _ j refl
makes_block env w i process (Whole p) j li l =
    let v : World = with_process_at w i process (closed p) in
    let here : (member v i).machine ≡ (member w i).machine =
    ap (λ (m : Member). m.machine) (get_or-set_same w.members i _ no_member li) in
    let there : (member v j).machine ≡ (member w j).machine =
    makes_beside w.members i _ j refl ∙ none (member w j).machine in
    let same : drawn env v i ≡ drawn env w i = ap (λ (k : SyncState). env.draw i k.draws) here in
    makes_publish env v i (Offers (object_of p)) j (subst (λ (n : ℕ). j < n) (sym (length-set w.members i _)) l)
    ∙ ap (λ (d : ℕ). state_after_events (only_at i j (published w.time d)) (member v j).machine) same
    ∙ ap (λ (k : SyncState). state_after_events (only_at i j (published w.time (drawn env w i))) k) there

makes_settle : (env : Environment) (w : World) (j : ℕ) → j < length w.members
    → Makes (reset w.time (drawn env w j) ∷ []) (member w j) (member (after_settle env w) j)
unfolding state_after_events state_after_event
makes_settle env w j l = ap (λ (m : Member). m.machine) (member_settled env w j l)

makes : (env : Environment) (w : World) (e : Event) (j : ℕ) → EventIsTaken env w e → j < length w.members
    → Makes (happens_to env w j e) (member w j) (member (after_event env w e) j)
makes env w (Event.Publish i o) j h l = makes_publish env w i (Offers o) j l
makes env w (Event.Withdraw i seq) j h l = makes_publish env w i (Withdraws seq) j l
makes env w (Event.Deliver k i) j h l = makes_deliver env w i (sent_at w k).vector j l
makes env w (Event.Sync k) j h l = makes_none (member w j)
makes env w (Event.Advance ms) j h l = makes_none (member w j)
makes env w (Event.Fire i) j h l = makes_fire env w i j l
makes env w (Event.Restart i) j h l = makes_reset env w i j _ l refl
makes env w (Event.Vector i) j h l = makes_none (member w j)
makes env w (Event.Catalogue i) j h l = makes_none (member w j)
makes env w (Event.Claim i f) j h l = makes_claim w i f (to_claim w i) j
makes env w (Event.Lose i f) j h l = makes_beside w.members i _ j refl
makes env w (Event.Answer i f q) j h l =
    makes_came env w _ i f (claim_at w i f) (response_from env w q (claim_at w i f)) j refl
makes env w (Event.Fetch i tries loss) j h l = makes_beside w.members i _ j refl
makes env w Event.Settle j h l = makes_settle env w j l
makes env w (Event.Dump i t) j h l = makes_none (member w j)
makes env w (Event.Hear i read) j h l = makes_hear env w i read j l
makes env w (Event.Ask i find) j h l = makes_none (member w j)
makes env w (Event.Feed i f read) j h l =
    makes_came env w w i f (claim_at w i f) (response_read w read (claim_at w i f)) j refl
makes env w (Event.Order i read) j h l = makes_order w i read j
makes env w (Event.Issue i client command) j h l = makes_command w _ i command j refl
makes env w (Event.Block i process index content) j h l =
    makes_block env w i process (block_at w i process index content) j h.named l
makes env w Event.Summary j h l = makes_none (member w j)
makes env w Event.Traffic j h l = makes_none (member w j)

-- ---- whole runs

makes_all : (env : Environment) (es : List Event) (w : World) (j : ℕ) → EventsAreTaken env w es → IsSoundGroup w
    → j < length w.members → Makes (happens_over env w j es) (member w j) (member (after_events env w es) j)
makes_all env [] w j h s l = makes_none (member w j)
makes_all env (e ∷ es) w j h s l =
    let width : length (after_event env w e).members ≡ length w.members = (lasts env w e h.0 s).width in
    makes_all env es (after_event env w e) j h.1 (sound_after env w e h.0 s) (subst (λ (n : ℕ). j < n) (sym width) l)
    ∙ ap (state_after_events (happens_over env (after_event env w e) j es)) (makes env w e j h.0 l)
    ∙ sym (in_turn (happens_to env w j e) (happens_over env (after_event env w e) j es) (member w j).machine)

pub machines_follow_table : InSoundGroups MachinesFollowTable
machines_follow_table env w s es n j first h l e =
    let same : (member (after_events env w es) j).machine
    ≡ kept n (Suppression.after_sync_events (happens_over env w j es) first) =
    makes_all env es w j h s l
    ∙ ap (state_after_events (happens_over env w j es)) e
    ∙ after_all_same n (happens_over env w j es) first in
    record {
      machine = same;
      timer =
          let last : World = after_events env w es in
          ap (when_fired last.time (member last j).known) same
          ∙ fires_same n last.time (member last j).known
          (Suppression.after_sync_events (happens_over env w j es) first);
    }

pub machines_begin : MachinesBegin
machines_begin env n j l =
    let f : ℕ → Member = λ i. record no_member {
      known = replicate n 0;
      machine = record { members = n; heard = None; deadline = periodic (env.draw i 0); draws = 1 };
    } in
    let from_zero : 0 + j ≡ j = omega arith in
    ap (λ (m : Member). m.machine)
    (get_or-map f (numbers_from 0 n) j 0 no_member (subst (λ (k : ℕ). j < k) (sym (length-numbers 0 n)) l))
    ∙ ap (λ (i : ℕ). (f i).machine) (number_at 0 n j l ∙ from_zero)

pub reached_machines : ReachedMachinesFollowTable
reached_machines env n es j h l =
    let f : ℕ → Member = λ i. record no_member {
      known = replicate n 0;
      machine = record { members = n; heard = None; deadline = periodic (env.draw i 0); draws = 1 };
    } in
    let wide : length (initial_world env n).members ≡ n = length-map (numbers_from 0 n) f ∙ length-numbers 0 n in
    machines_follow_table env (initial_world env n) (sound_initial env n) es n j (first_machine env j) h
    (subst (λ (k : ℕ). j < k) (sym wide) l) (machines_begin env n j l)
