-- How far a group's counts can go.
use Rattle.std.proofs.Common.{◌≡◌, ℕ, suc, zero, ◌+◌, ◌-◌, ◌*◌, ◌≤◌, Bool, true, false, cond, List, [], ◌∷◌, ◌++◌, map}
use Rattle.std.proofs.Common.{length, get_or, set, refl, sym, ap, subst, arith, Option, Some, None, Result, Ok, Err}
use Rattle.std.proofs.lemmas.Nat.{mul-le}
use Rattle.std.proofs.lemmas.List.{length-map, length-append, length_push}
use Rattle.std.proofs.lemmas.List.Sums.{sum_by-le}
use Rattle.std.specs.Prelude.{find, sum_by}
use Rattle.std.specs.Ordering.{nat_cmp}
use Rattle.repo_plan.specs.declared.part.Part.{Part}
use Rattle.sorted_lists.specs.SortedList.{value_of, Rises}
use Rattle.repo_plan.specs.Parts.{part_cmp}
use Rattle.sorted_lists.specs.Range.{numbers_from}
use Rattle.sorted_lists.proofs.Ranges.{length-numbers}
use Rattle.repo_plan.proofs.Known.{unclaimed_rises}
use Rattle.svs_sync.specs.declared.fired.Fired.{Fired}
use Rattle.svs_sync.specs.declared.fired.Fired.TheVariants.{Early, Quiet, Send}
use Rattle.svs_sync.specs.SyncStates.{SyncState, becomes_steady, after_hearing}
use Rattle.svs_vector.specs.Vectors.{covers}
use Rattle.repo_object.specs.Objects.{Post, contents_of}
use Rattle.repo_object.specs.Objects.Post.{Offers, Withdraws}
use Rattle.group_model.specs.Publications.{Logs, Publication, no_post, published, pair_in}
use Rattle.repo_process.specs.Processes.{Process, BlockState, indexes, starting, closed, object_of}
use Rattle.repo_process.specs.Processes.BlockState.{Unknown, Already, Waiting, Whole}
use Rattle.repo_command.specs.declared.command.Command.{Command}
use Rattle.repo_command.specs.declared.command.Command.TheVariants.{Insert, Check, Delete}
use Rattle.group_model.specs.Member.{Member, plan_of, tries_of, catalogued_under, deletes_publication, deletes_all}
use Rattle.group_model.specs.Changes.{publishes, learns, resets, restarts, takes, member_with_claim}
use Rattle.group_model.specs.Changes.{member_with_process, member_starts}
use Rattle.group_model.specs.Events.{SyncInterest, Response, Event}
use Rattle.group_model.specs.Events.Response.{Nothing, Its, Another}
use Rattle.group_model.specs.World.{Tally, Issued, World, Environment, no_member, member, with_member, logs, logs_of}
use Rattle.group_model.specs.World.{sent_at}
use Rattle.group_model.specs.Steps.{drawn, claim_at, to_claim, unclaimed_at, timer_at, exceeds_log, response_from}
use Rattle.group_model.specs.Steps.{response_read}
use Rattle.group_model.specs.Steps.{new_parts, settled_member, after_gathering, syncs_of, planned_parts, fetched_parts}
use Rattle.group_model.specs.Steps.{attempts_for, attempts_made, fetches, can_start, block_at, with_process_at}
use Rattle.group_model.specs.Steps.{after_event, after_events, after_publish, after_deliver, after_hear, after_fire}
use Rattle.group_model.specs.Steps.{after_reset, after_claiming, after_part, after_response, after_settle, after_fetch}
use Rattle.group_model.specs.Steps.{after_command, after_order, after_block}
use Rattle.group_model.proofs.PublishedCounts.{HasFew, one_published, few_published, few_new}
use Rattle.group_model.proofs.MemberLimits.{HasFewBlocks, few_in, mem_change, mem_beside, mem_machine, mem_process}
use Rattle.group_model.proofs.MemberLimits.{short_process, mem_more, each_set}
use Rattle.group_model.specs.Limits.{TalliesFit, IsShortInsertion, IsInRange, IsMemberWithin, IsTallyWithin}
use Rattle.group_model.specs.Limits.{IsWithinSteps, HasSmallPackets, StaysWithin, GatheringStaysWithin, MoreIsWithin}
use Rattle.group_model.specs.Limits.{RunsStayWithin}
use Rattle.group_model.proofs.Settles.{settles, settle_each, logs_settled, logs_gathered}
use Rattle.group_model.proofs.Worlds.{same_logs, sound_after}
use Rattle.group_model.proofs.Lasting.{lasts}
use Rattle.group_model.proofs.Tries.{filter_short, take_short, rises_take, each_tried_at, few_attempts}

-- ---- a world

next_square : (s : ℕ) → (s + 1) * (s + 1) ≡ s * s + (s + s + 1)
next_square s = omega arith

tally_more : (old new : ℕ) (t : Tally) → old ≤ new → IsTallyWithin old t → IsTallyWithin new t
tally_more old new t l h = record {
  delivered = let x : t.delivered ≤ old * 240 = h.delivered in omega (arith, x, l);
  attempts = let x : t.attempts ≤ old * 65536 = h.attempts in omega (arith, x, l);
  parts =
      let x : t.parts ≤ old * old * 160808 = h.parts in
      let y : old * old ≤ new * new = mul-le old old new new l l in omega (arith, x, y);
  octets =
      let x : t.octets ≤ old * old * 1415110400 = h.octets in
      let y : old * old ≤ new * new = mul-le old old new new l l in omega (arith, x, y);
}

pub tallies_fit : TalliesFit
tallies_fit steps t l h =
    let squares : steps * steps ≤ 100000 * 100000 = mul-le steps steps 100000 100000 l l in
    record {
      delivered = let x : t.delivered ≤ steps * 240 = h.delivered in omega (arith, x, l);
      attempts = let x : t.attempts ≤ steps * 65536 = h.attempts in omega (arith, x, l);
      parts = let x : t.parts ≤ steps * steps * 160808 = h.parts in omega (arith, x, squares);
      octets = let x : t.octets ≤ steps * steps * 1415110400 = h.octets in omega (arith, x, squares);
    }

-- a member changes, and what it published stays
within_set : (old new : ℕ) (w : World) (j : ℕ) (m : Member) (sent : List SyncInterest) (issued : List Issued)
    (tally : Tally)
    → old ≤ new → m.log ≡ (member w j).log → IsMemberWithin new m → length sent ≤ new * 16 → IsTallyWithin new tally
    → IsWithinSteps old w
    → IsWithinSteps new
    (record { members = set w.members j m; sent = sent; time = w.time; issued = issued; tally = tally })
within_set old new w j m sent issued tally l e h few t s =
    let same : logs_of (set w.members j m) ≡ logs w = same_logs w.members j m e in
    record {
      time = let x : w.time ≤ old * 1000000000 = s.time in omega (arith, x, l);
      sent = few;
      published =
          let x : length (published (logs w)) ≤ old = s.published in
          subst (λ (ls : Logs). length (published ls) ≤ new) (sym same) (omega (arith, x, l));
      segments = subst (λ (ls : Logs). (p k : ℕ) → HasFew (get_or (get_or ls p []) k no_post)) (sym same) s.segments;
      members = each_set new w.members j m (λ i. mem_more old new (member w i) l (s.members i)) h;
      tally = t;
    }

-- the members stay as they are
within_same : (old new : ℕ) (w : World) (time : ℕ) (issued : List Issued) (tally : Tally) → old ≤ new
    → time ≤ new * 1000000000 → IsTallyWithin new tally → IsWithinSteps old w
    → IsWithinSteps new (record { members = w.members; sent = w.sent; time = time; issued = issued; tally = tally })
within_same old new w time issued tally l m t s = record {
  time = m;
  sent = let x : length w.sent ≤ old * 16 = s.sent in omega (arith, x, l);
  published = let x : length (published (logs w)) ≤ old = s.published in omega (arith, x, l);
  segments = s.segments;
  members = λ i. mem_more old new (member w i) l (s.members i);
  tally = t;
}

within_stays : (s : ℕ) (w : World) → IsWithinSteps s w → IsWithinSteps (s + 1) w
within_stays s w h =
    within_same s (s + 1) w w.time w.issued w.tally (omega arith)
    (let x : w.time ≤ s * 1000000000 = h.time in omega (arith, x))
    (tally_more s (s + 1) w.tally (omega arith) h.tally) h

more_sent : (s : ℕ) (w : World) (x : SyncInterest) → IsWithinSteps s w → length (w.sent ++ x ∷ []) ≤ (s + 1) * 16
more_sent s w x h =
    let a : length w.sent ≤ s * 16 = h.sent in
    let b : length (w.sent ++ x ∷ []) ≡ length w.sent + 1 = length_push w.sent x in omega (arith, a, b)

same_sent : (s : ℕ) (w : World) → IsWithinSteps s w → length w.sent ≤ (s + 1) * 16
same_sent s w h = let a : length w.sent ≤ s * 16 = h.sent in omega (arith, a)

more_tally : (s : ℕ) (w : World) → IsWithinSteps s w → IsTallyWithin (s + 1) w.tally
more_tally s w h = tally_more s (s + 1) w.tally (omega arith) h.tally

-- ---- each event

within_publish : (env : Environment) (s : ℕ) (w : World) (j : ℕ) (o : Post) → HasFew o → IsWithinSteps s w
    → IsWithinSteps (s + 1) (after_publish env w j o)
within_publish env s w j o few h =
    let m : Member = publishes (drawn env w j) w.time j o (member w j) in
    record {
      time = let x : w.time ≤ s * 1000000000 = h.time in omega (arith, x);
      sent = more_sent s w _ h;
      published =
          let x : length (published (logs w)) ≤ s = h.published in
          let y : length (published (logs_of (set w.members j m))) ≤ length (published (logs w)) + 1 =
          one_published 0 w.members j m o refl in
          omega (arith, x, y);
      segments = few_published w.members j m o refl few h.segments;
      members =
          each_set (s + 1) w.members j m (λ i. mem_more s (s + 1) (member w i) (omega arith) (h.members i))
          (mem_machine s (member w j) m (omega arith) refl (h.members j).blocks (h.members j));
      tally = more_tally s w h;
    }

within_claim : (s : ℕ) (w : World) (j f : ℕ) (c : Option Part) → IsWithinSteps s w
    → IsWithinSteps (s + 1) (after_claiming w j f c)
within_claim s w j f None h = within_stays s w h
within_claim s w j f (Some t) h =
    within_set s (s + 1) w j (member_with_claim f (Some t) (member w j)) w.sent w.issued w.tally (omega arith) refl
    (mem_beside s (s + 1) (member w j) _ refl refl refl (omega arith) (h.members j)) (same_sent s w h)
    (more_tally s w h) h

-- one part was received, and perhaps one attempt was made
within_part : (env : Environment) (s : ℕ) (w : World) (j f : ℕ) (t : Part) (made : ℕ) → made ≤ 1 → HasSmallPackets env w
    → IsWithinSteps s w
    → IsWithinSteps (s + 1)
    (after_part env (record w { tally = record w.tally { attempts = w.tally.attempts + made } }) j f t)
within_part env s w j f t made one size h =
    within_set s (s + 1) w j (takes f t (member w j)) w.sent w.issued _ (omega arith) refl
    (mem_beside s (s + 1) (member w j) _ refl refl refl (omega arith) (h.members j)) (same_sent s w h) (record {
      delivered = let x : w.tally.delivered ≤ s * 240 = h.tally.delivered in omega (arith, x);
      attempts = let x : w.tally.attempts ≤ s * 65536 = h.tally.attempts in omega (arith, x, one);
      parts = let x : w.tally.parts ≤ s * s * 160808 = h.tally.parts in omega (arith, x, next_square s);
      octets =
          let x : w.tally.octets ≤ s * s * 1415110400 = h.tally.octets in
          let y : env.size (logs w) t ≤ 8800 = size t in omega (arith, x, y, next_square s);
    }) h

within_tried : (s : ℕ) (w : World) (made : ℕ) → made ≤ 1 → IsWithinSteps s w
    → IsWithinSteps (s + 1) (record w { tally = record w.tally { attempts = w.tally.attempts + made } })
within_tried s w made one h =
    within_same s (s + 1) w w.time w.issued _ (omega arith)
    (let x : w.time ≤ s * 1000000000 = h.time in omega (arith, x)) (record {
      delivered = let x : w.tally.delivered ≤ s * 240 = h.tally.delivered in omega (arith, x);
      attempts = let x : w.tally.attempts ≤ s * 65536 = h.tally.attempts in omega (arith, x, one);
      parts = let x : w.tally.parts ≤ s * s * 160808 = h.tally.parts in omega (arith, x, next_square s);
      octets = let x : w.tally.octets ≤ s * s * 1415110400 = h.tally.octets in omega (arith, x, next_square s);
    }) h

within_came : (env : Environment) (s : ℕ) (w : World) (j f : ℕ) (c : Option Part) (came : Response) (made : ℕ)
    → made ≤ 1
    → HasSmallPackets env w → IsWithinSteps s w
    → IsWithinSteps (s + 1)
    (after_response env (record w { tally = record w.tally { attempts = w.tally.attempts + made } }) j f c came)
within_came env s w j f None came made one size h = within_tried s w made one h
within_came env s w j f (Some t) Nothing made one size h = within_tried s w made one h
within_came env s w j f (Some t) Its made one size h = within_part env s w j f t made one size h
within_came env s w j f (Some t) Another made one size h = within_part env s w j f t made one size h

within_reset : (env : Environment) (s : ℕ) (w : World) (j : ℕ) (sent : List SyncInterest) → length sent ≤ (s + 1) * 16
    → IsWithinSteps s w → IsWithinSteps (s + 1) (record (after_reset env w j) { sent = sent })
within_reset env s w j sent few h =
    within_set s (s + 1) w j (resets (drawn env w j) w.time (member w j)) sent w.issued w.tally (omega arith) refl
    (mem_machine s (member w j) _ (omega arith) refl (h.members j).blocks (h.members j)) few (more_tally s w h) h

within_fire : (env : Environment) (s : ℕ) (w : World) (j : ℕ) (f : Fired) → IsWithinSteps s w
    → IsWithinSteps (s + 1) (after_fire env w j f)
within_fire env s w j Early h = within_stays s w h
within_fire env s w j Quiet h = within_reset env s w j w.sent (same_sent s w h) h
within_fire env s w j Send h = within_reset env s w j _ (more_sent s w _ h) h

one_draw : (time : ℕ) (received known : List ℕ) (draw : ℕ) (k : SyncState) (heard : Option (List ℕ))
    → (after_hearing time received known draw k heard).draws ≤ k.draws + 1
one_draw time received known draw k None = go (covers received known) _ where
  go : (b : Bool) (deadline : ℕ)
      → (cond b (becomes_steady time draw k)
      (record k { heard = Some received; deadline = deadline; draws = k.draws + 1 })).draws
      ≤ k.draws + 1
  go true deadline = omega arith
  go false deadline = omega arith
one_draw time received known draw k (Some v) = omega arith

within_deliver : (env : Environment) (s : ℕ) (w : World) (j : ℕ) (received : List ℕ) → IsWithinSteps s w
    → IsWithinSteps (s + 1) (after_deliver env w j received)
within_deliver env s w j received h =
    let m : Member = member w j in
    within_set s (s + 1) w j (learns (drawn env w j) w.time received m) w.sent w.issued _ (omega arith) refl
    (mem_machine s m _ (one_draw w.time received m.known (drawn env w j) m.machine m.machine.heard) refl
    (h.members j).blocks (h.members j)) (same_sent s w h) (record {
      delivered = let x : w.tally.delivered ≤ s * 240 = h.tally.delivered in omega (arith, x);
      attempts = let x : w.tally.attempts ≤ s * 65536 = h.tally.attempts in omega (arith, x);
      parts = let x : w.tally.parts ≤ s * s * 160808 = h.tally.parts in omega (arith, x, next_square s);
      octets = let x : w.tally.octets ≤ s * s * 1415110400 = h.tally.octets in omega (arith, x, next_square s);
    }) h

within_hear : (env : Environment) (s : ℕ) (w : World) (j : ℕ) (read : Option SyncInterest) → IsWithinSteps s w
    → IsWithinSteps (s + 1) (after_hear env w j read)
within_hear env s w j None h = within_stays s w h
within_hear env s w j (Some sync) h = go (exceeds_log w j sync) where
  go : (b : Bool) → IsWithinSteps (s + 1) (cond b w (after_deliver env w j sync.vector))
  go true = within_stays s w h
  go false = within_deliver env s w j sync.vector h

-- ---- insertions

deletes_beside : (ps : List Publication) (m : Member)
    → ((deletes_all ps m).machine ≡ m.machine) × ((deletes_all ps m).attempts ≡ m.attempts)
    × ((deletes_all ps m).processes ≡ m.processes) × ((deletes_all ps m).log ≡ m.log)
deletes_beside [] m = (refl, refl, refl, refl)
deletes_beside (p ∷ ps) m = deletes_beside ps (deletes_publication (pair_in p) m)

within_command : (s : ℕ) (w : World) (issued : List Issued) (j : ℕ) (command : Command) → IsShortInsertion command
    → IsWithinSteps s w → IsWithinSteps (s + 1) (after_command (record w { issued = issued }) j command)
within_command s w issued j (Insert name first last) short h = go (can_start (member w j)) where
  stays : IsWithinSteps (s + 1) (record w { issued = issued })
  stays =
      within_same s (s + 1) w w.time issued w.tally (omega arith)
      (let x : w.time ≤ s * 1000000000 = h.time in omega (arith, x)) (more_tally s w h) h

  few : length (indexes (starting name first last)) ≤ 200
  few =
      let e : length (numbers_from first (last + 1 - first)) ≡ last + 1 - first =
      length-numbers first (last + 1 - first) in
      omega (arith, e, short)

  go : (b : Bool)
      → IsWithinSteps (s + 1)
      (cond b (with_member (record w { issued = issued }) j (member_starts name first last (member w j)))
      (record w { issued = issued }))
  go true =
      within_set s (s + 1) w j (member_starts name first last (member w j)) w.sent issued w.tally (omega arith) refl
      (mem_process s (s + 1) (member w j) _ refl refl
      (short_process (member w j).processes (member w j).next_process (starting name first last) few
      (h.members j).blocks) (omega arith) (h.members j)) (same_sent s w h) (more_tally s w h) h
  go false = stays
within_command s w issued j (Check process) short h =
    within_same s (s + 1) w w.time issued w.tally (omega arith)
    (let x : w.time ≤ s * 1000000000 = h.time in omega (arith, x)) (more_tally s w h) h
within_command s w issued j (Delete name) short h =
    let m : Member = member w j in
    let b = deletes_beside (catalogued_under (logs w) m name) m in
    within_set s (s + 1) w j (deletes_all (catalogued_under (logs w) m name) m) w.sent issued w.tally (omega arith)
    b.3 (mem_beside s (s + 1) m _ b.0 b.1 b.2 (omega arith) (h.members j)) (same_sent s w h) (more_tally s w h) h

within_order : (s : ℕ) (w : World) (j : ℕ) (read : Result (ℕ × Command) ℕ) → IsInRange (Event.Order j read)
    → IsWithinSteps s w → IsWithinSteps (s + 1) (after_order w j read)
within_order s w j (Ok order) r h = within_command s w w.issued j order.1 r h
within_order s w j (Err code) r h = within_stays s w h

within_process : (old new : ℕ) (w : World) (j number : ℕ) (p : Process) → old ≤ new → length (indexes p) ≤ 200
    → IsWithinSteps old w → IsWithinSteps new (with_process_at w j number p)
within_process old new w j number p l few h =
    within_set old new w j (member_with_process number p (member w j)) w.sent w.issued w.tally l refl
    (mem_process old new (member w j) _ refl refl
    (short_process (member w j).processes number p few (h.members j).blocks) l (h.members j))
    (let a : length w.sent ≤ old * 16 = h.sent in omega (arith, a, l)) (tally_more old new w.tally l h.tally) h

within_block : (env : Environment) (s : ℕ) (w : World) (j process : ℕ) (state : BlockState) → HasFewBlocks state
    → IsWithinSteps s w → IsWithinSteps (s + 1) (after_block env w j process state)
within_block env s w j process Unknown few h = within_stays s w h
within_block env s w j process Already few h = within_stays s w h
within_block env s w j process (Waiting p) few h = within_process s (s + 1) w j process p (omega arith) few h
within_block env s w j process (Whole p) few h =
    let size : length (contents_of (Offers (object_of p))) ≡ length (indexes p) = length-map (indexes p) _ in
    within_publish env s (with_process_at w j process (closed p)) j (Offers (object_of p)) (omega (arith, size, few))
    (within_process s s w j process (closed p) (omega arith) few h)

-- ---- a settle and a fetch

sized : {A : Type 0} (f : A → ℕ) (b : ℕ) (xs : List A) → ((x : A) → f x ≤ b) → sum_by f xs ≤ length xs * b
sized f b xs h = sum_by-le f b xs (λ k d l. h (get_or xs k d))

length_syncs : (k : ℕ) (ms : List Member) → length (syncs_of k ms) ≡ length ms
length_syncs k [] = refl
length_syncs k (m ∷ ms) = ap suc (length_syncs (k + 1) ms)

each_settled : (env : Environment) (w : World) (s k : ℕ) (ms : List Member)
    → ((j : ℕ) → IsMemberWithin s (get_or ms j no_member)) → (j : ℕ)
    → IsMemberWithin (s + 1) (get_or (settle_each env w k ms) j no_member)
each_settled env w s k [] each j = mem_more s (s + 1) no_member (omega arith) (each j)
each_settled env w s k (m ∷ ms) each zero =
    mem_machine s m (settles env w k m) (omega arith) refl (each zero).blocks (each zero)
each_settled env w s k (m ∷ ms) each (suc j) = each_settled env w s (k + 1) ms (λ i. each (suc i)) j

at_most : {sum : ℕ} (n b : ℕ) → n ≤ 16 → sum ≤ n * b → sum ≤ 16 * b
at_most n b l h = let a : n * b ≤ 16 * b = mul-le n b 16 b l (omega arith) in omega (arith, a, h)

pairs_of : (n : ℕ) → n ≤ 16 → n * (n - 1) ≤ 240
pairs_of n l = let a : n * (n - 1) ≤ 16 * 15 = mul-le n (n - 1) 16 15 l (omega (arith, l)) in omega (arith, a)

-- after a settle, with sync states that were reset or not
within_settled : (env : Environment) (s : ℕ) (w : World) (ms : List Member) → s ≤ 100000 → length w.members ≤ 16
    → HasSmallPackets env w → IsWithinSteps s w → logs_of ms ≡ logs w
    → ((j : ℕ) → IsMemberWithin (s + 1) (get_or ms j no_member))
    → IsWithinSteps (s + 1) (record (after_gathering env w) { members = ms })
within_settled env s w ms l few size h same each =
    let gained : sum_by (λ m. length (new_parts w m)) w.members ≤ 16 * (s * 20101) =
    at_most (length w.members) (s * 20101) few
    (sized (λ (m : Member). length (new_parts w m)) (s * 20101) w.members (few_new w s h)) in
    let octets_of : (m : Member) → sum_by (env.size (logs w)) (new_parts w m) ≤ s * 176888800 = λ m.
    (let a : sum_by (env.size (logs w)) (new_parts w m) ≤ length (new_parts w m) * 8800 =
    sized (env.size (logs w)) 8800 (new_parts w m) size in
    let b : length (new_parts w m) ≤ s * 20101 = few_new w s h m in omega (arith, a, b)) in
    let octets : sum_by (λ m. sum_by (env.size (logs w)) (new_parts w m)) w.members ≤ 16 * (s * 176888800) =
    at_most (length w.members) (s * 176888800) few
    (sized (λ (m : Member). sum_by (env.size (logs w)) (new_parts w m)) (s * 176888800) w.members octets_of) in
    record {
      time = let x : w.time ≤ s * 1000000000 = h.time in omega (arith, x);
      sent =
          let a : length w.sent ≤ s * 16 = h.sent in
          let b : length (w.sent ++ syncs_of 0 w.members) ≡ length w.sent + length (syncs_of 0 w.members) =
          length-append w.sent (syncs_of 0 w.members) in
          let c : length (syncs_of 0 w.members) ≡ length w.members = length_syncs 0 w.members in
          omega (arith, a, b, c, few);
      published =
          let x : length (published (logs w)) ≤ s = h.published in
          subst (λ (ls : Logs). length (published ls) ≤ s + 1) (sym same) (omega (arith, x));
      segments = subst (λ (ls : Logs). (p k : ℕ) → HasFew (get_or (get_or ls p []) k no_post)) (sym same) h.segments;
      members = each;
      tally = record {
        delivered =
            let x : w.tally.delivered ≤ s * 240 = h.tally.delivered in
            let y : length w.members * (length w.members - 1) ≤ 240 = pairs_of (length w.members) few in
            omega (arith, x, y);
        attempts = let x : w.tally.attempts ≤ s * 65536 = h.tally.attempts in omega (arith, x);
        parts = let x : w.tally.parts ≤ s * s * 160808 = h.tally.parts in omega (arith, x, next_square s, gained);
        octets =
            let x : w.tally.octets ≤ s * s * 1415110400 = h.tally.octets in
            omega (arith, x, next_square s, octets);
      };
    }

within_settle : (env : Environment) (s : ℕ) (w : World) → s ≤ 100000 → length w.members ≤ 16 → HasSmallPackets env w
    → IsWithinSteps s w → IsWithinSteps (s + 1) (after_settle env w)
within_settle env s w l few size h =
    within_settled env s w (settle_each env w 0 w.members) l few size h (logs_settled env w 0 w.members)
    (each_settled env w s 0 w.members h.members)

each_gathered : (w : World) (s : ℕ) (ms : List Member) → ((j : ℕ) → IsMemberWithin s (get_or ms j no_member)) → (j : ℕ)
    → IsMemberWithin (s + 1) (get_or (map (settled_member w) ms) j no_member)
each_gathered w s [] each j = mem_more s (s + 1) no_member (omega arith) (each j)
each_gathered w s (m ∷ ms) each zero =
    mem_beside s (s + 1) m (settled_member w m) refl refl refl (omega arith) (each zero)
each_gathered w s (m ∷ ms) each (suc j) = each_gathered w s ms (λ i. each (suc i)) j

pub gathering_within : GatheringStaysWithin
gathering_within env s w l few size h =
    within_settled env s w (map (settled_member w) w.members) l few size h (logs_gathered w w.members)
    (each_gathered w s w.members h.members)

within_fetch : (env : Environment) (s : ℕ) (w : World) (j tries loss : ℕ) → tries ≤ 16 → HasSmallPackets env w
    → IsWithinSteps s w → IsWithinSteps (s + 1) (after_fetch env w j tries loss)
within_fetch env s w j tries loss l size h =
    let m : Member = member w j in
    let ts : List Part = planned_parts w j in
    let n : Member = fetches env w j tries loss m in
    let some : length ts ≤ 4096 = take_short 4096 (unclaimed_at w j) in
    let came : length (fetched_parts env w j tries loss) ≤ length ts = filter_short _ ts in
    let each : (t : Part) → attempts_for env w j tries loss t ≤ 16 = λ t. few_attempts env w j tries loss t l in
    let made : attempts_made env w j tries loss ≤ length ts * 16 = sized (attempts_for env w j tries loss) 16 ts each in
    let octets : sum_by (env.size (logs w)) (fetched_parts env w j tries loss)
    ≤ length (fetched_parts env w j tries loss) * 8800 =
    sized (env.size (logs w)) 8800 (fetched_parts env w j tries loss) size in
    let rises : Rises part_cmp ts = rises_take 4096 (unclaimed_at w j) (unclaimed_rises (plan_of (logs w) m)) in
    within_set s (s + 1) w j n w.sent w.issued _ (omega arith) refl
    (mem_change s (s + 1) m n (omega arith) (λ t.
    let a : tries_of n.attempts t ≤ tries_of m.attempts t + 16 =
    each_tried_at (attempts_for env w j tries loss) ts m.attempts t rises each in
    omega (arith, a)) (h.members j).blocks (omega arith) (h.members j))
    (same_sent s w h) (record {
      delivered = let x : w.tally.delivered ≤ s * 240 = h.tally.delivered in omega (arith, x);
      attempts = let x : w.tally.attempts ≤ s * 65536 = h.tally.attempts in omega (arith, x, made, some);
      parts = let x : w.tally.parts ≤ s * s * 160808 = h.tally.parts in omega (arith, x, next_square s, came, some);
      octets =
          let x : w.tally.octets ≤ s * s * 1415110400 = h.tally.octets in
          omega (arith, x, next_square s, octets, came, some);
    }) h

-- ---- any event

pub within_after : StaysWithin
within_after env s w (Event.Publish j o) l few size r h = within_publish env s w j (Offers o) r h
within_after env s w (Event.Withdraw j seq) l few size r h = within_publish env s w j (Withdraws seq) (omega arith) h
within_after env s w (Event.Deliver k j) l few size r h = within_deliver env s w j (sent_at w k).vector h
within_after env s w (Event.Sync k) l few size r h = within_stays s w h
within_after env s w (Event.Advance ms) l few size r h =
    within_same s (s + 1) w (w.time + ms) w.issued w.tally (omega arith)
    (let x : w.time ≤ s * 1000000000 = h.time in omega (arith, x, r)) (more_tally s w h) h
within_after env s w (Event.Fire j) l few size r h = within_fire env s w j (timer_at w j) h
within_after env s w (Event.Restart j) l few size r h =
    within_set s (s + 1) w j (restarts (drawn env w j) w.time (member w j)) w.sent w.issued w.tally (omega arith) refl
    (mem_machine s (member w j) _ (omega arith) refl (λ i p e. absurd cc) (h.members j)) (same_sent s w h)
    (more_tally s w h) h
within_after env s w (Event.Vector j) l few size r h = within_stays s w h
within_after env s w (Event.Catalogue j) l few size r h = within_stays s w h
within_after env s w (Event.Claim j f) l few size r h = within_claim s w j f (to_claim w j) h
within_after env s w (Event.Lose j f) l few size r h =
    within_set s (s + 1) w j (member_with_claim f None (member w j)) w.sent w.issued w.tally (omega arith) refl
    (mem_beside s (s + 1) (member w j) _ refl refl refl (omega arith) (h.members j)) (same_sent s w h)
    (more_tally s w h) h
within_after env s w (Event.Answer j f q) l few size r h =
    within_came env s w j f (claim_at w j f) (response_from env w q (claim_at w j f)) 1 (omega arith) size h
within_after env s w (Event.Fetch j tries loss) l few size r h = within_fetch env s w j tries loss r size h
within_after env s w Event.Settle l few size r h = within_settle env s w l few size h
within_after env s w (Event.Dump j t) l few size r h = within_stays s w h
within_after env s w (Event.Hear j read) l few size r h = within_hear env s w j read h
within_after env s w (Event.Ask j find) l few size r h = within_stays s w h
within_after env s w (Event.Feed j f read) l few size r h =
    let none : w.tally.attempts + 0 ≡ w.tally.attempts = omega arith in
    subst (λ (n : ℕ). IsWithinSteps (s + 1)
    (after_response env (record w { tally = record w.tally { attempts = n } }) j f (claim_at w j f)
    (response_read w read (claim_at w j f)))) none
    (within_came env s w j f (claim_at w j f) (response_read w read (claim_at w j f)) 0 (omega arith) size h)
within_after env s w (Event.Order j read) l few size r h = within_order s w j read r h
within_after env s w (Event.Issue j client command) l few size r h = within_command s w _ j command r h
within_after env s w (Event.Block j process index content) l few size r h =
    within_block env s w j process (block_at w j process index content)
    (few_in index content (value_of nat_cmp (member w j).processes process) (λ q e. (h.members j).blocks process q e)) h
within_after env s w Event.Summary l few size r h = within_stays s w h
within_after env s w Event.Traffic l few size r h = within_stays s w h

pub more_within : MoreIsWithin
more_within s more w l h = record {
  time = let x : w.time ≤ s * 1000000000 = h.time in omega (arith, x, l);
  sent = let x : length w.sent ≤ s * 16 = h.sent in omega (arith, x, l);
  published = let x : length (published (logs w)) ≤ s = h.published in omega (arith, x, l);
  segments = h.segments;
  members = λ j. mem_more s more (member w j) l (h.members j);
  tally = tally_more s more w.tally l h.tally;
}

pub within_all : RunsStayWithin
within_all env s w [] sound l few taken r size h =
    let e : s ≡ s + 0 = omega arith in subst (λ (n : ℕ). IsWithinSteps n w) e h
within_all env s w (e ∷ es) sound l few taken r size h =
    let width : length (after_event env w e).members ≡ length w.members = (lasts env w e taken.0 sound).width in
    let later : s + 1 + length es ≡ s + suc (length es) = omega arith in
    subst (λ (n : ℕ). IsWithinSteps n (after_events env (after_event env w e) es)) later
    (within_all env (s + 1) (after_event env w e) es (sound_after env w e taken.0 sound) (omega (arith, l))
    (subst (λ (n : ℕ). n ≤ 16) (sym width) few) taken.1 r.1 size.1
    (within_after env s w e (omega (arith, l)) few size.0 r.0 h))
