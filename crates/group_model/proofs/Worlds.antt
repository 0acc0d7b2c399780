-- Every event that is taken keeps a group sound.
use Rattle.std.proofs.Common.{◌≡◌, ◌≢◌, inl, inr, ℕ, suc, zero, ◌+◌, ◌-◌, ◌≤◌, ◌<◌, Bool, true, false, cond, not, ◌&&◌}
use Rattle.std.proofs.Common.{List, [], ◌∷◌, map, ◌++◌, length, get_or, set, refl, sym, ap, ◌∙◌, subst, arith, Option}
use Rattle.std.proofs.Common.{Some, None, Result, Ok, Err}
use Rattle.std.proofs.lemmas.Bool.{true≢false, and_parts, or_cases, cases_eq, cases_lt, not-true, leb-true}
use Rattle.std.proofs.lemmas.List.{length-set, get_or-set_same, get_or-set_other, get_or_append_left, get_or_push}
use Rattle.std.proofs.lemmas.List.{get_or-map, length-map, length_push}
use Rattle.std.proofs.lemmas.Slice.Eq.{bytes_eq-Decides}
use Rattle.std.specs.Prelude.{is_some, ◌==◌, nat_le}
use Rattle.std.specs.List.{list_any}
use Rattle.std.specs.Str.{bytes_eq}
use Rattle.repo_plan.specs.declared.part.Part.{Part}
use Rattle.repo_plan.specs.Plan.{no_claims, is_wanted, is_claimed, is_unclaimed, unclaimed}
use Rattle.repo_plan.proofs.Orders.{exact_parts}
use Rattle.sorted_lists.proofs.Sets.{In, contains_in}
use Rattle.sorted_lists.proofs.Members.{in_filtered, in_take}
use Rattle.repo_plan.proofs.Known.{contains-unclaimed}
use Rattle.svs_sync.specs.declared.fired.Fired.{Fired}
use Rattle.svs_sync.specs.declared.fired.Fired.TheVariants.{Early, Quiet, Send}
use Rattle.svs_sync.specs.SyncStates.{becomes_steady}
use Rattle.repo_object.specs.Objects.{Post, shape_in}
use Rattle.repo_object.specs.Objects.Post.{Offers, Withdraws}
use Rattle.group_model.specs.Publications.{Logs, last_of, post_at, no_post}
use Rattle.repo_process.specs.Processes.{Process, BlockState, closed, object_of}
use Rattle.repo_process.specs.Processes.BlockState.{Unknown, Already, Waiting, Whole}
use Rattle.repo_command.specs.declared.command.Command.{Command}
use Rattle.repo_command.specs.declared.command.Command.TheVariants.{Insert, Check, Delete}
use Rattle.group_model.specs.Member.{Member, plan_of, catalogued_under, deletes_all, with_each_tried}
use Rattle.group_model.specs.Changes.{publishes, learns, resets, restarts, takes, member_with_claim}
use Rattle.group_model.specs.Changes.{member_with_process, member_starts}
use Rattle.group_model.specs.Events.{SyncInterest, Response, Event}
use Rattle.group_model.specs.Events.Response.{Nothing, Its, Another}
use Rattle.group_model.specs.World.{Tally, Issued, World, Environment, no_member, no_sync, member, with_member, logs}
use Rattle.group_model.specs.World.{logs_of, sent_at}
use Rattle.group_model.specs.Steps.{drawn, claim_at, unclaimed_at, to_claim, with_sync, timer_at, exceeds_log}
use Rattle.group_model.specs.Steps.{response_from}
use Rattle.group_model.specs.Steps.{response_read, planned_parts, fetched_parts, fetches, attempts_for, attempt}
use Rattle.group_model.specs.Steps.{can_start}
use Rattle.group_model.specs.Steps.{block_at, with_process_at, settled_member, syncs_of, after_event, after_events}
use Rattle.group_model.specs.Steps.{after_publish, after_deliver, after_hear, after_fire, after_reset, after_restart}
use Rattle.group_model.specs.Steps.{after_claiming, after_part, after_response, after_settle, after_fetch}
use Rattle.group_model.specs.Steps.{after_command}
use Rattle.group_model.specs.Steps.{after_order, after_block, tried_once}
use Rattle.group_model.specs.Refusals.{Refusal, EventIsTaken, EventsAreTaken, has_sent, unless, if_unsent}
use Rattle.group_model.specs.Sound.{IsSoundGroup, IsSoundMember, IsConsistentVector}
use Rattle.group_model.specs.Reached.{InSoundGroups}
use Rattle.group_model.specs.Settles.{GatheringStaysSound}
use Rattle.group_model.proofs.Lists.{in_first}
use Rattle.group_model.proofs.Members.{grown, consistent_grown, with_machine, sound_learns, sound_claims, sound_loses}
use Rattle.group_model.proofs.Gains.{Publishes, sound_takes, sound_gains, sound_publishes, rises_each_tried, each_tried}
use Rattle.group_model.proofs.Deletions.{sound_deletes, same_log_deletes}
use Rattle.group_model.proofs.Settles.{settle_each, sound_gathered, sound_settles, logs_settled, logs_gathered}
use Rattle.group_model.proofs.Settles.{length_settled, member_settled, member_gathered, no_claim}

-- ---- a member changes, and what it published stays

pub same_logs : (ms : List Member) (j : ℕ) (m : Member) → m.log ≡ (get_or ms j no_member).log
    → logs_of (set ms j m) ≡ logs_of ms
same_logs [] j m e = refl
same_logs (x ∷ xs) zero m e = ap (λ (l : List Post). let ls : Logs = l ∷ logs_of xs in ls) e
same_logs (x ∷ xs) (suc j) m e = ap (λ (ls : Logs). x.log ∷ ls) (same_logs xs j m e)

abbrev Members : Logs → List Member → Type 0
Members ls ms = (j : ℕ) → j < length ms → IsSoundMember ls j (get_or ms j no_member)

abbrev SentConsistently : Logs → List SyncInterest → Type 0
SentConsistently ls sent = (k : ℕ) → k < length sent → IsConsistentVector ls (get_or sent k no_sync).vector

members_set : (ls : Logs) (ms : List Member) (j : ℕ) (m : Member) → Members ls ms → IsSoundMember ls j m
    → Members ls (set ms j m)
members_set ls ms j m s new i l =
    let within : i < length ms = subst (λ (n : ℕ). i < n) (length-set ms j m) l in
    elim (cases_eq i j) [
      | inl e ↦
          let at : get_or (set ms j m) i no_member ≡ m =
          ap (λ (k : ℕ). get_or (set ms j m) k no_member) e
          ∙ get_or-set_same ms j m no_member (subst (λ (k : ℕ). k < length ms) e within) in
          subst (λ (x : Member). IsSoundMember ls i x) (sym at) (subst (λ (k : ℕ). IsSoundMember ls k m) (sym e) new)
      | inr d ↦ subst (λ (x : Member). IsSoundMember ls i x) (sym (get_or-set_other ms j i m no_member d)) (s i within)
    ]

pub sound_set : (w : World) (j : ℕ) (m : Member) (now : ℕ) (issued : List Issued) (tally : Tally)
    → m.log ≡ (member w j).log → IsSoundMember (logs w) j m → IsSoundGroup w
    → IsSoundGroup (record { members = set w.members j m; sent = w.sent; time = now; issued = issued; tally = tally })
sound_set w j m now issued tally e new s =
    let same : logs_of (set w.members j m) ≡ logs w = same_logs w.members j m e in
    record {
      members =
          subst (λ (ls : Logs). Members ls (set w.members j m)) (sym same)
          (members_set (logs w) w.members j m s.members new);
      sent = subst (λ (ls : Logs). SentConsistently ls w.sent) (sym same) s.sent;
    }

-- the same members, after the same was sent
pub sound_same : (w : World) (now : ℕ) (issued : List Issued) (tally : Tally) → IsSoundGroup w
    → IsSoundGroup (record { members = w.members; sent = w.sent; time = now; issued = issued; tally = tally })
sound_same w now issued tally s = record { members = s.members; sent = s.sent }

sent_more : (ls : Logs) (sent : List SyncInterest) (x : SyncInterest) → SentConsistently ls sent
    → IsConsistentVector ls x.vector
    → SentConsistently ls (sent ++ x ∷ [])
sent_more ls sent x s new k l = elim (cases_lt k (length sent)) [
  | inl h ↦
      subst (λ (y : SyncInterest). IsConsistentVector ls y.vector) (sym (get_or_append_left sent (x ∷ []) no_sync k h))
      (s k h)
  | inr h ↦
      let e : length sent ≡ k = omega (arith, l, h, length_push sent x) in
      subst (λ (y : SyncInterest). IsConsistentVector ls y.vector) (sym (get_or_push sent x no_sync k e)) new
]

pub consistent_vector : (ls : Logs) (j : ℕ) (m : Member) → IsSoundMember ls j m → IsConsistentVector ls m.known
consistent_vector ls j m s = record { width = s.width; no_more = s.known }

sound_sync : (w : World) (j : ℕ) → j < length w.members → IsSoundGroup w → IsSoundGroup (with_sync w j)
sound_sync w j l s = record {
  members = s.members;
  sent =
      sent_more (logs w) w.sent (record { sender = j; vector = (member w j).known }) s.sent
      (consistent_vector (logs w) j (member w j) (s.members j l));
}

-- ---- a publication

pub last_at : (ms : List Member) (j : ℕ) (m : Member) (o : Post) → m.log ≡ (get_or ms j no_member).log ++ o ∷ []
    → (p : ℕ) → last_of (logs_of ms) p ≤ last_of (logs_of (set ms j m)) p
last_at [] j m o e p = omega arith
last_at (x ∷ xs) zero m o e zero =
    let n : length m.log ≡ length x.log + 1 = ap length e ∙ length_push x.log o in omega (arith, n)
last_at (x ∷ xs) zero m o e (suc p) = omega arith
last_at (x ∷ xs) (suc j) m o e zero = omega arith
last_at (x ∷ xs) (suc j) m o e (suc p) = last_at xs j m o e p

pub last_other : (ms : List Member) (j : ℕ) (m : Member) (p : ℕ) → p ≢ j
    → last_of (logs_of (set ms j m)) p ≡ last_of (logs_of ms) p
last_other [] j m p d = refl
last_other (x ∷ xs) zero m zero d = absurd (d refl)
last_other (x ∷ xs) zero m (suc p) d = refl
last_other (x ∷ xs) (suc j) m zero d = refl
last_other (x ∷ xs) (suc j) m (suc p) d = last_other xs j m p (λ e. d (ap suc e))

pub last_own : (ms : List Member) (j : ℕ) (m : Member) → j < length ms → last_of (logs_of (set ms j m)) j ≡ length m.log
last_own [] j m l = absurd (omega arith)
last_own (x ∷ xs) zero m l = refl
last_own (x ∷ xs) (suc j) m l = last_own xs j m (omega arith)

pub post_kept : (ms : List Member) (j : ℕ) (m : Member) (o : Post)
    → m.log ≡ (get_or ms j no_member).log ++ o ∷ [] → (p n : ℕ) → 1 ≤ n → n ≤ last_of (logs_of ms) p
    → post_at (logs_of (set ms j m)) (p, n) ≡ post_at (logs_of ms) (p, n)
post_kept [] j m o e p n a b = refl
post_kept (x ∷ xs) zero m o e zero n a b =
    ap (λ (l : List Post). get_or l (n - 1) no_post) e
    ∙ get_or_append_left x.log (o ∷ []) no_post (n - 1) (omega arith)
post_kept (x ∷ xs) zero m o e (suc p) n a b = refl
post_kept (x ∷ xs) (suc j) m o e zero n a b = refl
post_kept (x ∷ xs) (suc j) m o e (suc p) n a b = post_kept xs j m o e p n a b

pub post_new : (ms : List Member) (j : ℕ) (m : Member) (o : Post) → m.log ≡ (get_or ms j no_member).log ++ o ∷ []
    → j < length ms → post_at (logs_of (set ms j m)) (j, last_of (logs_of ms) j + 1) ≡ o
post_new [] j m o e l = absurd (omega arith)
post_new (x ∷ xs) zero m o e l =
    ap (λ (log : List Post). get_or log (length x.log + 1 - 1) no_post) e
    ∙ get_or_push x.log o no_post (length x.log + 1 - 1) (omega arith)
post_new (x ∷ xs) (suc j) m o e l = post_new xs j m o e (omega arith)

publishes_one : (ms : List Member) (j : ℕ) (m : Member) (o : Post)
    → m.log ≡ (get_or ms j no_member).log ++ o ∷ [] → j < length ms → Publishes (logs_of ms) (logs_of (set ms j m)) j o
publishes_one ms j m o e l =
    let own : last_of (logs_of ms) j ≡ length (get_or ms j no_member).log =
    ap length (get_or-map (λ (x : Member). x.log) ms j no_member [] l) in
    record {
      grows = record {
        width =
            length-map (set ms j m) (λ (x : Member). x.log)
            ∙ length-set ms j m
            ∙ sym (length-map ms (λ (x : Member). x.log));
        last = last_at ms j m o e;
        shapes =
            λ pair p.
            ap shape_in (post_kept ms j m o e pair.0 pair.1 p.from_one p.to_last);
      };
      one_more =
          last_own ms j m l ∙ ap length e ∙ length_push (get_or ms j no_member).log o ∙ ap (λ (n : ℕ). n + 1) (sym own);
      shape = ap shape_in (post_new ms j m o e l);
    }

pub sound_publish : (env : Environment) (w : World) (j : ℕ) (o : Post) → j < length w.members → IsSoundGroup w
    → IsSoundGroup (after_publish env w j o)
sound_publish env w j o l s =
    let m : Member = publishes (drawn env w j) w.time j o (member w j) in
    let p : Publishes (logs w) (logs_of (set w.members j m)) j o = publishes_one w.members j m o refl l in
    let log : length (member w j).log ≡ last_of (logs w) j =
    sym (ap length (get_or-map (λ (x : Member). x.log) w.members j no_member [] l)) in
    let wide : j < length (logs w) = subst (λ (n : ℕ). j < n) (sym (length-map w.members (λ (x : Member). x.log))) l in
    let new : IsSoundMember (logs_of (set w.members j m)) j m =
    sound_publishes (drawn env w j) w.time (logs w) (logs_of (set w.members j m)) j o (member w j) wide log p
    (s.members j l) in
    let others : Members (logs_of (set w.members j m)) (set w.members j m) = λ i li.
    elim (cases_eq i j) [
      | inl e ↦
          let at : get_or (set w.members j m) i no_member ≡ m =
          ap (λ (k : ℕ). get_or (set w.members j m) k no_member) e ∙ get_or-set_same w.members j m no_member l in
          subst (λ (x : Member). IsSoundMember (logs_of (set w.members j m)) i x) (sym at)
          (subst (λ (k : ℕ). IsSoundMember (logs_of (set w.members j m)) k m) (sym e) new)
      | inr d ↦
          subst (λ (x : Member). IsSoundMember (logs_of (set w.members j m)) i x)
          (sym (get_or-set_other w.members j i m no_member d))
          (grown (logs w) (logs_of (set w.members j m)) i (member w i) p.grows (last_other w.members j m i d)
          (s.members i (subst (λ (n : ℕ). i < n) (length-set w.members j m) li)))
    ] in
    sound_sync (with_member w j m) j (subst (λ (n : ℕ). j < n) (sym (length-set w.members j m)) l) (record {
      members = others;
      sent =
          λ k lk.
          consistent_grown (logs w) (logs_of (set w.members j m)) (get_or w.sent k no_sync).vector p.grows
          (s.sent k lk);
    })

-- ---- claims and what is received for them

-- an unclaimed part is wanted, and nobody claims it
pub open_wanted : (w : World) (j : ℕ) (t : Part) → In t (unclaimed_at w j)
    → (is_wanted (plan_of (logs w) (member w j)) t ≡ true) × (is_claimed (plan_of (logs w) (member w j)) t ≡ false)
open_wanted w j t i =
    let p = plan_of (logs w) (member w j) in
    let u : is_unclaimed p t ≡ true = sym (contains-unclaimed p t) ∙ contains_in exact_parts (unclaimed p) t i in
    let r : (is_wanted p t ≡ true) × (not (is_claimed p t) ≡ true) = and_parts (is_wanted p t) _ u in
    (r.0, not-true (is_claimed p t) r.1)

sound_claim : (w : World) (j f : ℕ) (claim : Option Part) → to_claim w j ≡ claim → j < length w.members → IsSoundGroup w
    → IsSoundGroup (after_claiming w j f claim)
sound_claim w j f None e l s = s
sound_claim w j f (Some t) e l s =
    let r = open_wanted w j t (in_first (unclaimed_at w j) t e) in
    sound_set w j (member_with_claim f (Some t) (member w j)) w.time w.issued w.tally refl
    (sound_claims (logs w) j f t (member w j) r.0 r.1 (s.members j l)) s

sound_part : (env : Environment) (w : World) (j f : ℕ) (t : Part) → claim_at w j f ≡ Some t → j < length w.members
    → IsSoundGroup w → IsSoundGroup (after_part env w j f t)
sound_part env w j f t e l s =
    sound_set w j (takes f t (member w j)) w.time w.issued _ refl
    (sound_takes (logs w) j f t (member w j) e (s.members j l)) s

sound_came : (env : Environment) (w : World) (j f : ℕ) (claim : Option Part) (came : Response) → claim_at w j f ≡ claim
    → j < length w.members → IsSoundGroup w → IsSoundGroup (after_response env w j f claim came)
sound_came env w j f None came e l s = s
sound_came env w j f (Some t) Nothing e l s = s
sound_came env w j f (Some t) Its e l s = sound_part env w j f t e l s
sound_came env w j f (Some t) Another e l s = sound_part env w j f t e l s

-- ---- sync

sound_reset : (env : Environment) (w : World) (j : ℕ) → j < length w.members → IsSoundGroup w
    → IsSoundGroup (after_reset env w j)
sound_reset env w j l s =
    let m : Member = member w j in
    sound_set w j (resets (drawn env w j) w.time m) w.time w.issued w.tally refl
    (with_machine (logs w) j m (becomes_steady w.time (drawn env w j) m.machine) m.processes m.next_process
    (s.members j l) tt) s

sound_fire : (env : Environment) (w : World) (j : ℕ) (f : Fired) → j < length w.members → IsSoundGroup w
    → IsSoundGroup (after_fire env w j f)
sound_fire env w j Early l s = s
sound_fire env w j Quiet l s = sound_reset env w j l s
sound_fire env w j Send l s =
    sound_sync (after_reset env w j) j (subst (λ (n : ℕ). j < n) (sym (length-set w.members j _)) l)
    (sound_reset env w j l s)

sound_deliver : (env : Environment) (w : World) (j : ℕ) (received : List ℕ) → IsConsistentVector (logs w) received → j
    < length w.members
    → IsSoundGroup w → IsSoundGroup (after_deliver env w j received)
sound_deliver env w j received t l s =
    sound_set w j (learns (drawn env w j) w.time received (member w j)) w.time w.issued _ refl
    (sound_learns (drawn env w j) w.time (logs w) j received (member w j) t (s.members j l)) s

sound_restart : (env : Environment) (w : World) (j : ℕ) → j < length w.members → IsSoundGroup w
    → IsSoundGroup (after_restart env w j)
sound_restart env w j l s =
    let r : IsSoundMember (logs w) j (member w j) = s.members j l in
    sound_set w j (restarts (drawn env w j) w.time (member w j)) w.time w.issued w.tally refl (record {
      width = r.width;
      fetchers = refl;
      in_order = record {
        held = r.in_order.held;
        hidden = r.in_order.hidden;
        attempts = r.in_order.attempts;
        tried = r.in_order.tried;
      };
      known = r.known;
      own = r.own;
      heard = tt;
      held = r.held;
      hidden = λ pair h. record { known = (r.hidden pair h).known; none_held = (r.hidden pair h).none_held };
      own_held = r.own_held;
      claimed = λ f t e. absurd (let n : get_or no_claims f None ≡ None = no_claim 16 f in cc);
      apart = λ f g t a b. absurd (let n : get_or no_claims f None ≡ None = no_claim 16 f in cc);
    }) s

-- a vector that was sent is a consistent one
sent_consistent : (ls : Logs) (sent : List SyncInterest) (sync : SyncInterest) → SentConsistently ls sent
    → list_any (λ (s : SyncInterest). s.sender == sync.sender && bytes_eq s.vector sync.vector) sent ≡ true
    → IsConsistentVector ls sync.vector
sent_consistent ls [] sync t h = absurd (true≢false (sym h))
sent_consistent ls (x ∷ xs) sync t h = elim (or_cases (x.sender == sync.sender && bytes_eq x.vector sync.vector) _ h) [
  | inl e ↦
      let both : ((x.sender == sync.sender) ≡ true) × (bytes_eq x.vector sync.vector ≡ true) =
      and_parts (x.sender == sync.sender) _ e in
      subst (IsConsistentVector ls) ((bytes_eq-Decides x.vector sync.vector).0 both.1) (t 0 (omega arith))
  | inr r ↦ sent_consistent ls xs sync (λ k l. t (suc k) (omega (arith, l))) r
]

held_unless : (b : Bool) (r : Refusal) → unless b r ≡ None → b ≡ true
held_unless true r e = refl
held_unless false r e = absurd cc

sound_hear : (env : Environment) (w : World) (j : ℕ) (read : Option SyncInterest) → if_unsent w j read ≡ None
    → j < length w.members → IsSoundGroup w → IsSoundGroup (after_hear env w j read)
sound_hear env w j None e l s = s
sound_hear env w j (Some sync) e l s = go (exceeds_log w j sync) e where
  go : (b : Bool) → cond b None (unless (has_sent w sync) Refusal.Foreign) ≡ None
      → IsSoundGroup (cond b w (after_deliver env w j sync.vector))
  go true e = s
  go false e =
      sound_deliver env w j sync.vector
      (sent_consistent (logs w) w.sent sync s.sent (held_unless (has_sent w sync) Refusal.Foreign e)) l s

-- ---- a settle and a fetch

sent_all : (ls : Logs) (sent more : List SyncInterest) → SentConsistently ls sent → SentConsistently ls more
    → SentConsistently ls (sent ++ more)
sent_all ls [] more a b k l = b k l
sent_all ls (x ∷ xs) more a b zero l = a zero (omega arith)
sent_all ls (x ∷ xs) more a b (suc k) l = sent_all ls xs more (λ i h. a (suc i) (omega arith)) b k (omega arith)

syncs_consistent : (ls : Logs) (k : ℕ) (ms : List Member)
    → ((i : ℕ) → i < length ms → IsConsistentVector ls (get_or ms i no_member).known)
    → SentConsistently ls (syncs_of k ms)
syncs_consistent ls k [] each i l = absurd (omega arith)
syncs_consistent ls k (m ∷ ms) each zero l = each zero (omega arith)
syncs_consistent ls k (m ∷ ms) each (suc i) l = syncs_consistent ls (k + 1) ms (λ h e. each (suc h) (omega arith)) i
    (omega arith)

sent_settled : (w : World) → IsSoundGroup w → SentConsistently (logs w) (w.sent ++ syncs_of 0 w.members)
sent_settled w s =
    sent_all (logs w) w.sent (syncs_of 0 w.members) s.sent
    (syncs_consistent (logs w) 0 w.members (λ i l. consistent_vector (logs w) i (member w i) (s.members i l)))

pub gathering_sound : InSoundGroups GatheringStaysSound
gathering_sound env w s = record {
  members =
      subst (λ (ls : Logs). Members ls (map (settled_member w) w.members)) (sym (logs_gathered w w.members)) (λ j l.
      let within : j < length w.members = subst (λ (n : ℕ). j < n) (length-map w.members (settled_member w)) l in
      subst (λ (m : Member). IsSoundMember (logs w) j m) (sym (member_gathered env w j within))
      (sound_gathered w s j within));
  sent =
      subst (λ (ls : Logs). SentConsistently ls (w.sent ++ syncs_of 0 w.members)) (sym (logs_gathered w w.members))
      (sent_settled w s);
}

sound_settle : (env : Environment) (w : World) → IsSoundGroup w → IsSoundGroup (after_settle env w)
sound_settle env w s =
    let same : logs_of (settle_each env w 0 w.members) ≡ logs w = logs_settled env w 0 w.members in
    let each : Members (logs w) (settle_each env w 0 w.members) = λ j l.
    let within : j < length w.members = subst (λ (n : ℕ). j < n) (length_settled env w 0 w.members) l in
    subst (λ (m : Member). IsSoundMember (logs w) j m) (sym (member_settled env w j within))
    (sound_settles w s j within env) in
    let sent : SentConsistently (logs w) (w.sent ++ syncs_of 0 w.members) = sent_settled w s in
    record {
      members = subst (λ (ls : Logs). Members ls (settle_each env w 0 w.members)) (sym same) each;
      sent = subst (λ (ls : Logs). SentConsistently ls (w.sent ++ syncs_of 0 w.members)) (sym same) sent;
    }

sound_fetch : (env : Environment) (w : World) (j tries loss : ℕ) → j < length w.members → IsSoundGroup w
    → IsSoundGroup (after_fetch env w j tries loss)
sound_fetch env w j tries loss l s =
    let m : Member = member w j in
    let ts : List Part = fetched_parts env w j tries loss in
    let more : Part → ℕ = attempts_for env w j tries loss in
    let r : IsSoundMember (logs w) j m = s.members j l in
    let was : (t : Part) → In t ts
    → (is_wanted (plan_of (logs w) m) t ≡ true) × (is_claimed (plan_of (logs w) m) t ≡ false) =
    λ t i.
    let a : In t (planned_parts w j) × (is_some (attempt env w j tries loss t) ≡ true) =
    in_filtered (λ u. is_some (attempt env w j tries loss u)) (planned_parts w j) t i in
    open_wanted w j t (in_take 4096 (unclaimed_at w j) t a.0) in
    sound_set w j (fetches env w j tries loss m) w.time w.issued _ refl
    (sound_gains (logs w) j ts (with_each_tried more (planned_parts w j) m.attempts) m (λ t i. (was t i).0)
    (λ t i. (was t i).1)
    (rises_each_tried more (planned_parts w j) m.attempts r.in_order.attempts)
    (each_tried more (planned_parts w j) m.attempts r.in_order.tried) r) s

-- ---- commands and blocks

sound_command : (w : World) (j : ℕ) (command : Command) → j < length w.members → IsSoundGroup w
    → IsSoundGroup (after_command w j command)
sound_command w j (Insert name first last) l s = go (can_start (member w j)) where
  go : (b : Bool) → IsSoundGroup (cond b (with_member w j (member_starts name first last (member w j))) w)
  go true =
      sound_set w j (member_starts name first last (member w j)) w.time w.issued w.tally refl
      (with_machine (logs w) j (member w j) (member w j).machine _ _ (s.members j l) (s.members j l).heard) s
  go false = s
sound_command w j (Check process) l s = s
sound_command w j (Delete name) l s =
    sound_set w j (deletes_all (catalogued_under (logs w) (member w j) name) (member w j)) w.time w.issued
    w.tally (same_log_deletes (catalogued_under (logs w) (member w j) name) (member w j))
    (sound_deletes (logs w) j name (member w j) (s.members j l)) s

sound_order : (w : World) (j : ℕ) (read : Result (ℕ × Command) ℕ) → j < length w.members → IsSoundGroup w
    → IsSoundGroup (after_order w j read)
sound_order w j (Ok order) l s = sound_command w j order.1 l s
sound_order w j (Err code) l s = s

pub sound_process : (w : World) (j number : ℕ) (p : Process) → j < length w.members → IsSoundGroup w
    → IsSoundGroup (with_process_at w j number p)
sound_process w j number p l s =
    sound_set w j (member_with_process number p (member w j)) w.time w.issued w.tally refl
    (with_machine (logs w) j (member w j) (member w j).machine _ _ (s.members j l) (s.members j l).heard) s

sound_block : (env : Environment) (w : World) (j process : ℕ) (state : BlockState) → j < length w.members
    → IsSoundGroup w
    → IsSoundGroup (after_block env w j process state)
sound_block env w j process Unknown l s = s
sound_block env w j process Already l s = s
sound_block env w j process (Waiting p) l s = sound_process w j process p l s
sound_block env w j process (Whole p) l s =
    sound_publish env (with_process_at w j process (closed p)) j (Offers (object_of p))
    (subst (λ (n : ℕ). j < n) (sym (length-set w.members j _)) l) (sound_process w j process (closed p) l s)

-- ---- any event

sent_within : (w : World) (k : ℕ) → unless (nat_le 1 k && nat_le k (length w.sent)) Refusal.NoSuchPacket ≡ None
    → (1 ≤ k) × (k ≤ length w.sent)
sent_within w k e =
    let r : (nat_le 1 k ≡ true) × (nat_le k (length w.sent) ≡ true) =
    and_parts (nat_le 1 k) (nat_le k (length w.sent)) (held_unless _ _ e) in
    (leb-true 1 k r.0, leb-true k (length w.sent) r.1)

pub sound_after : (env : Environment) (w : World) (e : Event) → EventIsTaken env w e → IsSoundGroup w
    → IsSoundGroup (after_event env w e)
sound_after env w (Event.Publish j o) h s = sound_publish env w j (Offers o) h.named s
sound_after env w (Event.Withdraw j seq) h s = sound_publish env w j (Withdraws seq) h.named s
sound_after env w (Event.Deliver k j) h s =
    let b : (1 ≤ k) × (k ≤ length w.sent) = sent_within w k h.taken in
    sound_deliver env w j (sent_at w k).vector (s.sent (k - 1) (omega (arith, b))) h.named s
sound_after env w (Event.Sync k) h s = s
sound_after env w (Event.Advance ms) h s = sound_same w (w.time + ms) w.issued w.tally s
sound_after env w (Event.Fire j) h s = sound_fire env w j (timer_at w j) h.named s
sound_after env w (Event.Restart j) h s = sound_restart env w j h.named s
sound_after env w (Event.Vector j) h s = s
sound_after env w (Event.Catalogue j) h s = s
sound_after env w (Event.Claim j f) h s = sound_claim w j f (to_claim w j) refl h.named.0 s
sound_after env w (Event.Lose j f) h s =
    sound_set w j (member_with_claim f None (member w j)) w.time w.issued w.tally refl
    (sound_loses (logs w) j f (member w j) (s.members j h.named.0)) s
sound_after env w (Event.Answer j f q) h s =
    sound_came env (tried_once w) j f (claim_at w j f) (response_from env w q (claim_at w j f)) refl h.named.0.0
    (sound_same w w.time w.issued _ s)
sound_after env w (Event.Fetch j tries loss) h s = sound_fetch env w j tries loss h.named s
sound_after env w Event.Settle h s = sound_settle env w s
sound_after env w (Event.Dump j t) h s = s
sound_after env w (Event.Hear j read) h s = sound_hear env w j read h.taken h.named s
sound_after env w (Event.Ask j find) h s = s
sound_after env w (Event.Feed j f read) h s =
    sound_came env w j f (claim_at w j f) (response_read w read (claim_at w j f)) refl h.named.0 s
sound_after env w (Event.Order j read) h s = sound_order w j read h.named s
sound_after env w (Event.Issue j client command) h s =
    sound_command _ j command h.named (sound_same w w.time _ w.tally s)
sound_after env w (Event.Block j process index content) h s =
    sound_block env w j process (block_at w j process index content) h.named s
sound_after env w Event.Summary h s = s
sound_after env w Event.Traffic h s = s

pub sound_after_all : (env : Environment) (es : List Event) (w : World) → EventsAreTaken env w es → IsSoundGroup w
    → IsSoundGroup (after_events env w es)
sound_after_all env [] w h s = s
sound_after_all env (e ∷ es) w h s = sound_after_all env es (after_event env w e) h.1 (sound_after env w e h.0 s)
