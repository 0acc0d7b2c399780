-- What no event takes back, what it publishes, and what it hides.
use Rattle.std.proofs.Common.{◌≡◌, inl, inr, ℕ, ◌-◌, ◌<◌, Bool, true, false, cond, List, [], ◌∷◌, length, refl, sym, ap}
use Rattle.std.proofs.Common.{◌∙◌, subst, arith, Option, Some, None, Result, Ok, Err}
use Rattle.std.proofs.lemmas.List.{length-set}
use Rattle.repo_plan.specs.declared.part.Part.{Part}
use Rattle.repo_plan.specs.Parts.{pair_of}
use Rattle.repo_object.specs.Objects.{Post}
use Rattle.repo_object.specs.Objects.Post.{Offers, Withdraws}
use Rattle.svs_sync.specs.declared.fired.Fired.{Fired}
use Rattle.svs_sync.specs.declared.fired.Fired.TheVariants.{Early, Quiet, Send}
use Rattle.group_model.specs.Publications.{Publication, has_unwithdrawn}
use Rattle.repo_process.specs.Processes.{Process, BlockState, closed, object_of}
use Rattle.repo_process.specs.Processes.BlockState.{Unknown, Already, Waiting, Whole}
use Rattle.repo_command.specs.declared.command.Command.{Command}
use Rattle.repo_command.specs.declared.command.Command.TheVariants.{Insert, Check, Delete}
use Rattle.group_model.specs.Member.{Member, has_deleted, catalogued_under}
use Rattle.group_model.specs.Changes.{publishes, learns, member_starts}
use Rattle.group_model.specs.Events.{SyncInterest, Response, Event}
use Rattle.group_model.specs.Events.Response.{Nothing, Its, Another}
use Rattle.group_model.specs.World.{Environment, World, member, with_member, logs, sent_at}
use Rattle.group_model.specs.Steps.{drawn, claim_at, to_claim, passes_checks, timer_at, exceeds_log, response_from}
use Rattle.group_model.specs.Steps.{response_read, fetched_parts, can_start, block_at, with_process_at, after_event}
use Rattle.group_model.specs.Steps.{after_events, after_publish, after_deliver, after_hear, after_fire, after_claiming}
use Rattle.group_model.specs.Steps.{after_response, after_command, after_order, after_block}
use Rattle.group_model.specs.Refusals.{EventIsTaken, EventsAreTaken, if_idle_or_foreign, Refusal, if_spent}
use Rattle.group_model.specs.Refusals.{if_no_object_or_spent}
use Rattle.group_model.specs.Sound.{IsSoundGroup, IsPublished}
use Rattle.group_model.specs.Lasting.{Lasts, AllLast, NothingTakenBack, PublisherHolds, AnswersAreKept}
use Rattle.group_model.specs.Lasting.{PublisherCanAnswer}
use Rattle.group_model.proofs.Parts.{publisher_within}
use Rattle.group_model.proofs.Plans.{IsWanted, wanted_parts}
use Rattle.group_model.proofs.Members.{join_more, known_published}
use Rattle.group_model.proofs.Gains.{held_too}
use Rattle.group_model.proofs.Settles.{settles, knows_settled, keeps_held, length_settled, member_settled, logs_settled}
use Rattle.group_model.proofs.Worlds.{sound_process, sound_after}
use Rattle.group_model.specs.Replies.{Reply}
use Rattle.group_model.specs.Reached.{InSoundGroups}
use Rattle.group_model.specs.Laws.{IsQuiet, IsNotWhole}
use Rattle.group_model.proofs.Deletions.{same_log_deletes}
use Rattle.group_model.proofs.GoingOn.{CanPost, AllDeleteObjects, GoesOn, Quietly, lasts_with, lasts_same, then_lasts}
use Rattle.group_model.proofs.GoingOn.{moves_with, moves_beside, moves_deletes, quietly, quiet_set, quiet_same}
use Rattle.group_model.proofs.GoingOn.{then_delete, then_quiet, deletes_at, lasts_publish}

-- ---- each event

publish_deletes : (env : Environment) (w : World) (j : ℕ) (o : Post) → AllDeleteObjects w (after_publish env w j o)
publish_deletes env w j o i l =
    deletes_at (logs w) w.members j (publishes (drawn env w j) w.time j o (member w j)) (λ pair h. inl h) i

goes_publish : (env : Environment) (w : World) (j : ℕ) (o : Post) (quiet : Type 0) → (quiet → ⊥) → j < length w.members
    → CanPost (member w j).log o → IsSoundGroup w → GoesOn w (after_publish env w j o) quiet
goes_publish env w j o quiet loud l allowed s = record {
  last = lasts_publish env w j o l s;
  hides = publish_deletes env w j o;
  posted = inr (record {
    before = w.members;
    publisher = j;
    post = o;
    changed = publishes (drawn env w j) w.time j o (member w j);
    loud = loud;
    inside = l;
    allowed = allowed;
    more = refl;
    was = refl;
    is = refl;
  });
}

-- an object is there to withdraw where the event isn't refused
to_withdraw : (w : World) (j seq : ℕ) → if_no_object_or_spent w j seq ≡ None
    → has_unwithdrawn (member w j).log seq ≡ true
to_withdraw w j seq e = go (has_unwithdrawn (member w j).log seq) e where
  go : (b : Bool) → cond b (if_spent w j) (Some Refusal.NoSuchNumber) ≡ None → b ≡ true
  go true e = refl
  go false e = absurd cc

quiet_claim : (w : World) (j f : ℕ) (c : Option Part) → Quietly w (after_claiming w j f c)
quiet_claim w j f None = quiet_same w w refl
quiet_claim w j f (Some t) =
    quiet_set w (after_claiming w j f (Some t)) j _ refl refl (moves_beside (logs w) (member w j) _ refl refl refl refl)

quiet_came : (env : Environment) (w v : World) (j f : ℕ) (c : Option Part) (came : Response) → v.members ≡ w.members
    → Quietly w (after_response env v j f c came)
quiet_came env w v j f None came e = quiet_same w v e
quiet_came env w v j f (Some t) Nothing e = quiet_same w v e
quiet_came env w v j f (Some t) Its e =
    then_quiet w v _ (quiet_same w v e)
    (quiet_set v (after_response env v j f (Some t) Its) j _ refl refl
    (moves_with (logs v) (member v j) _ refl (λ p. omega arith) refl (held_too (t ∷ []) (member v j))))
quiet_came env w v j f (Some t) Another e =
    then_quiet w v _ (quiet_same w v e)
    (quiet_set v (after_response env v j f (Some t) Another) j _ refl refl
    (moves_with (logs v) (member v j) _ refl (λ p. omega arith) refl (held_too (t ∷ []) (member v j))))

quiet_fire : (env : Environment) (w : World) (j : ℕ) (f : Fired) → Quietly w (after_fire env w j f)
quiet_fire env w j Early = quiet_same w w refl
quiet_fire env w j Quiet =
    quiet_set w (after_fire env w j Quiet) j _ refl refl (moves_beside (logs w) (member w j) _ refl refl refl refl)
quiet_fire env w j Send =
    quiet_set w (after_fire env w j Send) j _ refl refl (moves_beside (logs w) (member w j) _ refl refl refl refl)

quiet_deliver : (env : Environment) (w : World) (j : ℕ) (answered : List ℕ) → Quietly w (after_deliver env w j answered)
quiet_deliver env w j answered =
    quiet_set w (after_deliver env w j answered) j _ refl refl
    (moves_with (logs w) (member w j) (learns (drawn env w j) w.time answered (member w j)) refl
    (join_more (member w j).known answered) refl (λ t h. h))

quiet_hear : (env : Environment) (w : World) (j : ℕ) (read : Option SyncInterest) → Quietly w (after_hear env w j read)
quiet_hear env w j None = quiet_same w w refl
quiet_hear env w j (Some sync) = go (exceeds_log w j sync) where
  go : (b : Bool) → Quietly w (cond b w (after_deliver env w j sync.vector))
  go true = quiet_same w w refl
  go false = quiet_deliver env w j sync.vector

quiet_command : (w v : World) (j : ℕ) (command : Command) → v.members ≡ w.members
    → Quietly w (after_command v j command)
quiet_command w v j (Insert name first last) e = then_quiet w v _ (quiet_same w v e) (go (can_start (member v j))) where
  go : (b : Bool) → Quietly v (cond b (with_member v j (member_starts name first last (member v j))) v)
  go true =
      quiet_set v (with_member v j (member_starts name first last (member v j))) j _ refl refl
      (moves_beside (logs v) (member v j) _ refl refl refl refl)
  go false = quiet_same v v refl
quiet_command w v j (Check process) e = quiet_same w v e
quiet_command w v j (Delete name) e =
    let ps : List Publication = catalogued_under (logs v) (member v j) name in
    then_quiet w v _ (quiet_same w v e)
    (quiet_set v (after_command v j (Delete name)) j _ refl (same_log_deletes ps (member v j))
    (moves_deletes (logs v) (member v j) name))

quiet_order : (w : World) (j : ℕ) (read : Result (ℕ × Command) ℕ) → Quietly w (after_order w j read)
quiet_order w j (Ok order) = quiet_command w w j order.1 refl
quiet_order w j (Err code) = quiet_same w w refl

quiet_process : (w : World) (j number : ℕ) (p : Process) → Quietly w (with_process_at w j number p)
quiet_process w j number p =
    quiet_set w (with_process_at w j number p) j _ refl refl (moves_beside (logs w) (member w j) _ refl refl refl refl)

goes_block : (env : Environment) (w : World) (j process : ℕ) (state : BlockState) → j < length w.members
    → IsSoundGroup w
    → GoesOn w (after_block env w j process state) (IsNotWhole state)
goes_block env w j process Unknown l s = quietly (quiet_same w w refl)
goes_block env w j process Already l s = quietly (quiet_same w w refl)
goes_block env w j process (Waiting p) l s = quietly (quiet_process w j process p)
goes_block env w j process (Whole p) l s =
    let v : World = with_process_at w j process (closed p) in
    let q : Quietly w v = quiet_process w j process (closed p) in
    let inside : j < length v.members = subst (λ (n : ℕ). j < n) (sym (length-set w.members j _)) l in
    let o : Post = Offers (object_of p) in
    record {
      last = then_lasts w v _ q.last (lasts_publish env v j o inside (sound_process w j process (closed p) l s));
      hides = then_delete w v (after_publish env v j o) q.last q.hides q.logs (publish_deletes env v j o);
      posted = inr (record {
        before = v.members;
        publisher = j;
        post = o;
        changed = publishes (drawn env v j) v.time j o (member v j);
        loud = λ q. q;
        inside = inside;
        allowed = tt;
        more = refl;
        was = q.logs;
        is = refl;
      });
    }

pub goes_on : (env : Environment) (w : World) (e : Event) → EventIsTaken env w e → IsSoundGroup w
    → GoesOn w (after_event env w e) (IsQuiet w e)
goes_on env w (Event.Publish j o) h s = goes_publish env w j (Offers o) ⊥ (λ q. q) h.named tt s
goes_on env w (Event.Withdraw j seq) h s =
    goes_publish env w j (Withdraws seq) ⊥ (λ q. q) h.named (to_withdraw w j seq h.taken) s
goes_on env w (Event.Deliver k j) h s = quietly (quiet_deliver env w j (sent_at w k).vector)
goes_on env w (Event.Sync k) h s = quietly (quiet_same w w refl)
goes_on env w (Event.Advance ms) h s = quietly (quiet_same w _ refl)
goes_on env w (Event.Fire j) h s = quietly (quiet_fire env w j (timer_at w j))
goes_on env w (Event.Restart j) h s =
    quietly (quiet_set w (after_event env w (Event.Restart j)) j _ refl refl
    (moves_beside (logs w) (member w j) _ refl refl refl refl))
goes_on env w (Event.Vector j) h s = quietly (quiet_same w w refl)
goes_on env w (Event.Catalogue j) h s = quietly (quiet_same w w refl)
goes_on env w (Event.Claim j f) h s = quietly (quiet_claim w j f (to_claim w j))
goes_on env w (Event.Lose j f) h s =
    quietly (quiet_set w (after_event env w (Event.Lose j f)) j _ refl refl
    (moves_beside (logs w) (member w j) _ refl refl refl refl))
goes_on env w (Event.Answer j f q) h s =
    quietly (quiet_came env w _ j f (claim_at w j f) (response_from env w q (claim_at w j f)) refl)
goes_on env w (Event.Fetch j tries loss) h s =
    quietly (quiet_set w (after_event env w (Event.Fetch j tries loss)) j _ refl refl
    (moves_with (logs w) (member w j) _ refl (λ p. omega arith) refl
    (held_too (fetched_parts env w j tries loss) (member w j))))
goes_on env w Event.Settle h s = record {
  last = record {
    width = length_settled env w 0 w.members;
    members =
        λ j l. subst (Lasts (member w j)) (sym (member_settled env w j l))
        (lasts_with (member w j) (settles env w j (member w j)) refl (λ p. knows_settled w s j l j p l) refl
        (keeps_held w s j l));
  };
  hides =
      λ j l pair h.
      inl (ap (λ (m : Member). has_deleted m pair) (sym (member_settled env w j l)) ∙ h);
  posted = inl (logs_settled env w 0 w.members);
}
goes_on env w (Event.Dump j t) h s = quietly (quiet_same w w refl)
goes_on env w (Event.Hear j read) h s = quietly (quiet_hear env w j read)
goes_on env w (Event.Ask j find) h s = quietly (quiet_same w w refl)
goes_on env w (Event.Feed j f read) h s =
    quietly (quiet_came env w w j f (claim_at w j f) (response_read w read (claim_at w j f)) refl)
goes_on env w (Event.Order j read) h s = quietly (quiet_order w j read)
goes_on env w (Event.Issue j client command) h s = quietly (quiet_command w _ j command refl)
goes_on env w (Event.Block j process index content) h s =
    goes_block env w j process (block_at w j process index content) h.named s
goes_on env w Event.Summary h s = quietly (quiet_same w w refl)
goes_on env w Event.Traffic h s = quietly (quiet_same w w refl)

-- ---- what no event takes back

pub lasts : (env : Environment) (w : World) (e : Event) → EventIsTaken env w e → IsSoundGroup w
    → AllLast w (after_event env w e)
lasts env w e h s = (goes_on env w e h s).last

lasts_all : (env : Environment) (es : List Event) (w : World) → EventsAreTaken env w es → IsSoundGroup w
    → AllLast w (after_events env w es)
lasts_all env [] w h s = lasts_same w w refl
lasts_all env (e ∷ es) w h s =
    then_lasts w (after_event env w e) _ (lasts env w e h.0 s)
    (lasts_all env es (after_event env w e) h.1 (sound_after env w e h.0 s))

pub nothing_taken_back : InSoundGroups NothingTakenBack
nothing_taken_back env w s es h = lasts_all env es w h s

-- ---- what is wanted can be had

pub publisher_holds : InSoundGroups PublisherHolds
publisher_holds env w s j t l want =
    let u : IsWanted (logs w) (member w j) t = wanted_parts (logs w) (member w j) t want in
    let there : IsPublished (logs w) (pair_of t) =
    known_published (logs w) (member w j).known (pair_of t) (s.members j l).known u.known in
    elim ((s.members t.publisher (publisher_within w (pair_of t) there)).own_held t.seq there) [
      | inl hidden ↦ inr hidden
      | inr f ↦ inl (f t.part u.counted)
    ]

pub answers_are_kept : (env : Environment) (w : World) → AnswersAreKept env w
answers_are_kept env w j f q t claim gives =
    let came : response_from env w q (claim_at w j f) ≡ Its = ap (response_from env w q) claim ∙ gives in
    record {
      taken =
          ap (λ (c : Option Part). if_idle_or_foreign c (response_from env w q (claim_at w j f))) claim
          ∙ ap (if_idle_or_foreign (Some t)) came;
      answered = ap (λ (c : Response). Reply.Answered (passes_checks c)) came;
    }

pub publisher_can_answer : InSoundGroups PublisherCanAnswer
publisher_can_answer env w s j f t l claim gives =
    elim (publisher_holds env w s j t l ((s.members j l).claimed (f - 1) t claim)) [
      | inl held ↦ inl (answers_are_kept env w j f t.publisher t claim (gives held))
      | inr hidden ↦ inr hidden
    ]
