-- What an event of a group makes of a member by itself.
use Rattle.std.proofs.Common.{◌≡◌, ℕ, ◌-◌, Bool, true, false, cond, ◌||◌, List, [], ◌∷◌, map, length, get_or, set}
use Rattle.std.proofs.Common.{Option, Some, None, refl, sym, ap, ◌∙◌}
use Rattle.std.specs.Prelude.{nat_lt, slice_index}
use Rattle.std.proofs.lemmas.List.{get_or-set_same, set-get_or}
use Rattle.std.proofs.lemmas.List.Elements.{All-head, All-tail}
use Rattle.svs_sync.specs.declared.fired.Fired.{Fired}
use Rattle.svs_sync.specs.declared.fired.Fired.TheVariants.{Early, Quiet, Send}
use Rattle.svs_vector.specs.Vectors.{covers, join_all}
use Rattle.svs_vector.proofs.JoinLemmas.{join-[], join_assoc, join_all_same}
use Rattle.svs_sync.specs.SyncStates.{becomes_steady, when_due, when_fired}
use Rattle.repo_plan.specs.declared.part.Part.{Part}
use Rattle.sorted_lists.specs.SortedList.{keys, contains, Rises}
use Rattle.repo_plan.specs.Parts.{part_cmp}
use Rattle.repo_plan.proofs.Orders.{exact_parts}
use Rattle.repo_plan.specs.Plan.{claim_of, unclaimed, first, no_claims}
use Rattle.group_model.specs.Member.{Member, catalogue, gains, insert_keys, with_each_tried, with_tries}
use Rattle.group_model.specs.Member as group_member
use Rattle.group_model.specs.Changes as group
use Rattle.group_model.specs.Events.{Response}
use Rattle.group_model.specs.Events.Response.{Nothing, Its, Another}
use Rattle.group_model.specs.World.{Environment, World, no_member, member, logs, sent_at}
use Rattle.group_model.specs.Steps.{drawn, timer_at, claim_at, passes_checks, response_from, response_read, tried_once}
use Rattle.group_model.specs.Steps.{planned_parts, attempts_for, fetches, settled_vector, settled_member, new_parts}
use Rattle.group_model.specs.Steps.{after_publish, after_deliver, after_fire, after_claiming, after_response}
use Rattle.group_model.proofs.Lists.{contains-insert_keys, rises_insert_keys}
use Rattle.group_model.proofs.Settles.{member_settled, member_gathered}
use Rattle.group_model.proofs.SortedSets.{same_members}
use Rattle.repo_object.specs.Objects.{Post}
use Rattle.repo_object.specs.Objects.Post.{Offers, Withdraws}
use Rattle.repo_member.specs.Groups.{GroupKeys}
use Rattle.repo_member.specs.MemberState.{MemberState, member_plan, member_publishes, member_learns, member_hears}
use Rattle.repo_member.specs.MemberState.{member_fires}
use Rattle.repo_member.specs.MemberState.{member_claims}
use Rattle.repo_member.specs.MemberState.{member_accepts, member_takes, member_ends_claims}
use Rattle.repo_member.specs.InGroup.{in_group, StoresInOrder, AreTries, parts_fetched, after_timer}
use Rattle.repo_holdings.specs.Taking.{with_all_tries}
use Rattle.repo_holdings.specs.Taking.{Fetched}
use Rattle.repo_member.specs.InEvents.{IsMemberOf, PublishIsEvent, WithdrawIsEvent, DeliverIsEvent, HearIsEvent}
use Rattle.repo_member.specs.InEvents.{FireIsEvent}
use Rattle.repo_member.specs.InEvents.{RestartIsEvent, ClaimIsEvent, LoseIsEvent, AnswerIsEvent, FeedIsEvent}
use Rattle.repo_member.specs.InEvents.{FetchIsEvent, LearnsAtOnce, LearnsWhatAllKnow, IsSettling, GatheringIsEvent}
use Rattle.repo_member.specs.InEvents.{SettleIsEvent, learns_all, OpenPartsAlike, CataloguesAlike}
use Rattle.repo_member.proofs.ChangeLemmas.{publishes_alike, accepts_alike, takes_alike, takes_in_group}
use Rattle.repo_member.proofs.GroupPlans.{plans_alike}
use Rattle.repo_member.proofs.GroupCatalogues.{lists_alike}

module _ (w : World) (j : ℕ) (a : MemberState) (is : IsMemberOf w j a) where
  -- the member after a change of it
  pub changed : (change : Member → Member)
      → get_or (set w.members j (change (member w j))) j no_member ≡ change (in_group a)
  changed change = get_or-set_same w.members j (change (member w j)) no_member is.there ∙ ap change is.same

post_is_event : (env : Environment) (w : World) (j : ℕ) (g : GroupKeys) (post : Post) (a : MemberState)
    → IsMemberOf w j a
    → StoresInOrder a
    → member (after_publish env w j post) j ≡ in_group (member_publishes g post w.time (drawn env w j) a)
post_is_event env w j g post a is r =
    changed w j a is (group.publishes (drawn env w j) w.time j post)
    ∙ ap (λ (n : ℕ). group.publishes (drawn env w j) w.time n post (in_group a)) (sym is.number)
    ∙ sym (publishes_alike g post w.time (drawn env w j) a r)

pub publish_is_event : PublishIsEvent
publish_is_event env w j g object a is r = post_is_event env w j g (Offers object) a is r

pub withdraw_is_event : WithdrawIsEvent
withdraw_is_event env w j seq g a is r = post_is_event env w j g (Withdraws seq) a is r

pub deliver_is_event : DeliverIsEvent
deliver_is_event env w k j a is = changed w j a is (group.learns (drawn env w j) w.time (sent_at w k).vector)

pub hear_is_event : HearIsEvent
hear_is_event env w j sync a is =
    ap (λ (b : Bool). member (cond b w (after_deliver env w j sync.vector)) j) test
    ∙ go (nat_lt (length a.log) (slice_index sync.vector a.number)) where
      test : nat_lt (length (member w j).log) (slice_index sync.vector j)
          ≡ nat_lt (length a.log) (slice_index sync.vector a.number)
      test =
          ap (λ (m : Member). nat_lt (length m.log) (slice_index sync.vector j)) is.same
          ∙ ap (λ (n : ℕ). nat_lt (length a.log) (slice_index sync.vector n)) (sym is.number)

      go : (b : Bool)
          → member (cond b w (after_deliver env w j sync.vector)) j
          ≡ in_group (cond b a (member_hears sync.vector w.time (drawn env w j) a))
      go true = is.same
      go false = changed w j a is (group.learns (drawn env w j) w.time sync.vector)

fires_alike : (time draw : ℕ) (a : MemberState)
    → in_group (member_fires time draw a) ≡ after_timer (when_fired time a.known a.machine) draw time (in_group a)
fires_alike time draw a = go (nat_lt time a.machine.deadline) where
  due : (heard : Option (List ℕ))
      → group.resets draw time (in_group a) ≡ after_timer (when_due a.known heard) draw time (in_group a)
  due None = refl
  due (Some vector) = covered (covers vector a.known) where
    covered : (b : Bool)
        → group.resets draw time (in_group a) ≡ after_timer (cond b Quiet Send) draw time (in_group a)
    covered true = refl
    covered false = refl

  go : (b : Bool)
      → in_group (record a { machine = cond b a.machine (becomes_steady time draw a.machine) })
      ≡ after_timer (cond b Early (when_due a.known a.machine.heard)) draw time (in_group a)
  go true = refl
  go false = due a.machine.heard

pub fire_is_event : FireIsEvent
fire_is_event env w j a is =
    go (timer_at w j)
    ∙ ap (λ (m : Member). after_timer (when_fired w.time m.known m.machine) (drawn env w j) w.time m) is.same
    ∙ sym (fires_alike w.time (drawn env w j) a) where
      go : (x : Fired) → member (after_fire env w j x) j ≡ after_timer x (drawn env w j) w.time (member w j)
      go Early = refl
      go Quiet = get_or-set_same w.members j (group.resets (drawn env w j) w.time (member w j)) no_member is.there
      go Send = get_or-set_same w.members j (group.resets (drawn env w j) w.time (member w j)) no_member is.there

pub restart_is_event : RestartIsEvent
restart_is_event env w j a is = changed w j a is (group.restarts (drawn env w j) w.time)

pub open_parts_alike : OpenPartsAlike
open_parts_alike w j g a is consistent =
    ap (λ (m : Member). unclaimed (group_member.plan_of (logs w) m)) is.same
    ∙ ap unclaimed (sym (plans_alike g (logs w) a consistent.published consistent.stores))

pub catalogues_alike : CataloguesAlike
catalogues_alike w j g a is consistent =
    ap (catalogue (logs w)) is.same ∙ sym (lists_alike g (logs w) a consistent.published consistent.stores)

pub claim_is_event : ClaimIsEvent
claim_is_event env w j f g a is consistent idle =
    ap (λ (ts : List Part). member (after_claiming w j f (first ts)) j) (open_parts_alike w j g a is consistent)
    ∙ go (first (unclaimed (member_plan a))) where
      with_claims : List (Option Part) → Member
      with_claims claims = record (in_group a) { claims = claims }

      go : (x : Option Part) → member (after_claiming w j f x) j ≡ in_group (member_claims f x a)
      go None = is.same ∙ ap with_claims (sym (ap (set a.claims (f - 1)) (sym idle) ∙ set-get_or a.claims (f - 1) None))
      go (Some t) = changed w j a is (group.member_with_claim f (Some t))

pub lose_is_event : LoseIsEvent
lose_is_event env w j f a is = changed w j a is (group.member_with_claim f None)

claimed_alike : (w : World) (j f : ℕ) (t : Part) (a : MemberState) → IsMemberOf w j a → claim_of (member_plan a) f
    ≡ Some t
    → claim_at w j f ≡ Some t
claimed_alike w j f t a is claim = ap (λ (m : Member). get_or m.claims (f - 1) None) is.same ∙ claim

came_is_event : (env : Environment) (w : World) (j f : ℕ) (t : Part) (octets : List ℕ) (a : MemberState)
    (came : Response)
    → IsMemberOf w j a → StoresInOrder a
    → member (after_response env w j f (Some t) came) j
    ≡ in_group (cond (passes_checks came) (member_accepts f t octets a) a)
came_is_event env w j f t octets a Nothing is r = is.same
came_is_event env w j f t octets a Its is r = changed w j a is (group.takes f t) ∙ sym (accepts_alike f t octets a r)
came_is_event env w j f t octets a Another is r =
    changed w j a is (group.takes f t) ∙ sym (accepts_alike f t octets a r)

pub answer_is_event : AnswerIsEvent
answer_is_event env w j f q t octets a is r claim =
    ap (λ (x : Option Part). member (after_response env (tried_once w) j f x (response_from env w q x)) j)
    (claimed_alike w j f t a is claim)
    ∙ came_is_event env (tried_once w) j f t octets a (response_from env w q (Some t))
    (record { there = is.there; number = is.number; same = is.same }) r

pub feed_is_event : FeedIsEvent
feed_is_event env w j f read t octets a is r claim =
    ap (λ (x : Option Part). member (after_response env w j f x (response_read w read x)) j)
    (claimed_alike w j f t a is claim)
    ∙ came_is_event env w j f t octets a (response_read w read (Some t)) is r

pub fetch_is_event : FetchIsEvent
fetch_is_event env w j tries loss xs a is r outcome =
    let after_it : List Part → List Part → Member = λ came asked. record (gains came (in_group a)) {
      attempts = with_each_tried (attempts_for env w j tries loss) asked a.attempts;
    } in
    changed w j a is (fetches env w j tries loss)
    ∙ ap (λ (came : List Part). after_it came (planned_parts w j)) (sym outcome.came)
    ∙ ap (after_it (parts_fetched xs)) (sym outcome.asked)
    ∙ sym (takes_alike (attempts_for env w j tries loss) xs a r outcome.tried)

-- ---- a settle

pub learns_at_once : LearnsAtOnce
unfolding join_all
learns_at_once [] a = ap (λ (v : List ℕ). let b : MemberState = record a { known = v } in b) (sym (join-[] a.known))
learns_at_once (received ∷ vectors) a =
    learns_at_once vectors (member_learns received a)
    ∙ ap (λ (v : List ℕ). let b : MemberState = record a { known = v } in b)
    (join_assoc a.known received (join_all vectors))

pub learns_what_all_know : LearnsWhatAllKnow
learns_what_all_know w a vectors received =
    ap (λ (b : MemberState). b.known) (learns_at_once vectors a)
    ∙ join_all_same (a.known ∷ vectors) (map (λ (m : Member). m.known) w.members) received

none_tried : (xs : List Fetched) (tried : List (Part × ℕ)) → AreTries (λ t. 0) xs → with_all_tries xs tried ≡ tried
none_tried [] tried all = refl
none_tried (x ∷ xs) tried all =
    ap (λ (n : ℕ). with_all_tries xs (with_tries x.part n tried)) (All-head (λ (y : Fetched). y.attempts ≡ 0) x xs all)
    ∙ none_tried xs tried (All-tail (λ (y : Fetched). y.attempts ≡ 0) x xs all)

-- parts that are gained in any order make one list in order
same_gained : (ts us held : List Part) → Rises part_cmp held
    → ((t : Part) → contains part_cmp ts t ≡ contains part_cmp us t) → insert_keys ts held ≡ insert_keys us held
same_gained ts us held r same =
    same_members exact_parts (insert_keys ts held) (insert_keys us held) (rises_insert_keys ts held r)
    (rises_insert_keys us held r)
    (λ t. contains-insert_keys ts held t ∙ ap (λ (b : Bool). b || contains part_cmp held t) (same t)
    ∙ sym (contains-insert_keys us held t))

gathered_alike : (w : World) (j : ℕ) (vectors : List (List ℕ)) (xs : List Fetched) (a : MemberState) → IsMemberOf w j a
    → StoresInOrder a → IsSettling w j a vectors xs
    → settled_member w (member w j) ≡ in_group (member_takes xs (learns_all vectors (member_ends_claims a)))
gathered_alike w j vectors xs a is r settling =
    let gathered : Member → List Part → List ℕ → Member =
    λ m held known. record m { known = known; held = held; claims = no_claims } in
    let ended : MemberState = member_ends_claims a in
    let received : MemberState = record ended { known = (learns_all vectors ended).known } in
    let known : (learns_all vectors ended).known ≡ settled_vector w =
    learns_what_all_know w ended vectors settling.received in
    let learnt : learns_all vectors ended ≡ received =
    learns_at_once vectors ended
    ∙ ap (λ (v : List ℕ). let b : MemberState = record ended { known = v } in b)
    (ap (λ (b : MemberState). b.known) (sym (learns_at_once vectors ended))) in
    let outcome : List (Part × ℕ) → Member = λ attempts.
    record (gathered (in_group a) (insert_keys (parts_fetched xs) (keys a.store)) (learns_all vectors ended).known) {
      attempts = attempts;
    } in
    ap (λ (m : Member). gathered m (insert_keys (new_parts w (member w j)) m.held) (settled_vector w)) is.same
    ∙ ap (λ (held : List Part). gathered (in_group a) held (settled_vector w))
    (sym (same_gained (parts_fetched xs) (new_parts w (member w j)) (keys a.store) r settling.came))
    ∙ ap (gathered (in_group a) (insert_keys (parts_fetched xs) (keys a.store))) (sym known)
    ∙ ap outcome (sym (none_tried xs a.attempts settling.tried))
    ∙ sym (takes_in_group xs received r)
    ∙ ap (λ (b : MemberState). in_group (member_takes xs b)) (sym learnt)

pub gathering_is_event : GatheringIsEvent
gathering_is_event env w j vectors xs a is r settling =
    member_gathered env w j is.there ∙ gathered_alike w j vectors xs a is r settling

pub settle_is_event : SettleIsEvent
settle_is_event env w j vectors xs a is r settling =
    member_settled env w j is.there
    ∙ ap (group.resets (drawn env w j) w.time) (gathered_alike w j vectors xs a is r settling)
