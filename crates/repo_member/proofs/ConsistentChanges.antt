-- Which changes leave a member consistent.
use Rattle.std.proofs.Common.{◌≡◌, inl, inr, ℕ, zero, suc, ◌+◌, Bool, true, false, cond, not, List, [], ◌∷◌, ◌++◌}
use Rattle.std.proofs.Common.{length, get_or, set, replicate, Option, Some, None, refl, sym, ap, ◌∙◌, subst, arith}
use Rattle.std.specs.Prelude.{nat_lt, is_some, filter, IfSome}
use Rattle.std.specs.List.{All}
use Rattle.std.proofs.lemmas.Bool.{true≢false, and_parts, not-true}
use Rattle.std.proofs.lemmas.List.{length-set, length-replicate, get_or-set_same, set-get_or, length_push, take_all}
use Rattle.std.proofs.lemmas.List.Elements.{All-head, All-tail, All-weaker}
use Rattle.svs_sync.specs.SyncStates.{SyncState, becomes_steady, state_after_firing, after_hearing}
use Rattle.repo_plan.specs.declared.part.Part.{Part}
use Rattle.sorted_lists.specs.SortedList.{keys, Rises, value_of}
use Rattle.repo_plan.specs.Parts.{Pair, part_cmp}
use Rattle.repo_plan.specs.Plan.{PlanState, is_in, no_claims, is_wanted, is_claimed, unclaimed, is_unclaimed, first}
use Rattle.repo_plan.proofs.Orders.{exact_parts}
use Rattle.sorted_lists.proofs.Sets.{In, contains_in}
use Rattle.repo_plan.proofs.Known.{contains-unclaimed}
use Rattle.repo_object.specs.Objects.{Post, shape_in}
use Rattle.repo_object.specs.Objects.Post.{Offers}
use Rattle.repo_command.specs.declared.command.Command.TheVariants.{Insert, Check, Delete}
use Rattle.repo_process.specs.Processes.{Process, BlockState, object_of, closed}
use Rattle.repo_process.specs.Processes.BlockState.{Unknown, Already, Waiting, Whole}
use Rattle.repo_process.specs.Insertions.{next_number, starts, with_process}
use Rattle.repo_store.specs.StoreList.{packets_outside}
use Rattle.group_model.specs.Publications.{Logs, last_of, shape_at}
use Rattle.group_model.specs.Member.{plan_of, with_tries}
use Rattle.group_model.specs.Changes as group
use Rattle.group_model.specs.Sound.{IsSoundMember, HeardConsistently}
use Rattle.group_model.proofs.Members.{Grows, grown, with_machine, sound_learns, sound_claims, sound_loses}
use Rattle.group_model.proofs.Gains.{Publishes, AreTried, sound_takes, sound_gains, sound_publishes, rises_tried}
use Rattle.group_model.proofs.Gains.{tried_once_more}
use Rattle.group_model.proofs.Deletions.{sound_deletes}
use Rattle.group_model.proofs.Settles.{no_claim}
use Rattle.group_model.proofs.Runs.{zeros, all_zeros}
use Rattle.repo_holdings.specs.Records.{Packet}
use Rattle.repo_member.specs.Deleting.{catalogued_named}
use Rattle.repo_holdings.specs.Hiding.{outside_all}
use Rattle.repo_member.specs.Commanded.{member_state_starts}
use Rattle.repo_member.specs.Blocks.{member_block, member_keeps, after_block}
use Rattle.repo_member.specs.Groups.{GroupKeys}
use Rattle.repo_member.specs.MemberState.{MemberState, member_plan, member_publishes, member_claims, member_takes}
use Rattle.repo_holdings.specs.Taking.{Fetched}
use Rattle.repo_member.specs.MemberState.{member_ends_claims, member_ends_insertions}
use Rattle.repo_member.specs.InGroup.{in_group, AreLogs, GrowInto, AreItsPackets, IsConsistentFetch, asked_for}
use Rattle.repo_member.specs.InGroup.{parts_fetched}
use Rattle.repo_holdings.specs.Taking.{with_all_tries}
use Rattle.repo_member.specs.ConsistentMembers.{IsConsistentMember}
use Rattle.repo_member.specs.ConsistentChanges.{BeginsConsistent, PublishesConsistent, OthersPublish, LogsHaveGrown}
use Rattle.repo_member.specs.ConsistentChanges.{LearnsConsistent}
use Rattle.repo_member.specs.ConsistentChanges.{HearsConsistent, InsertsConsistent, BlocksConsistent, DeletesConsistent}
use Rattle.repo_member.specs.ConsistentChanges.{ObeysConsistent, FiresConsistent}
use Rattle.repo_member.specs.ConsistentChanges.{ResetsConsistent, RestartsConsistent, EndsClaimsConsistent}
use Rattle.repo_member.specs.ConsistentChanges.{ClaimsConsistent, LosesConsistent, AcceptsConsistent}
use Rattle.repo_member.specs.ConsistentChanges.{IsConsistentArrival, TakesConsistent}
use Rattle.repo_member.proofs.CallReach.{fired_wide}
use Rattle.repo_member.proofs.ChangeLemmas.{publishes_alike, accepts_alike, takes_in_group}
use Rattle.repo_member.proofs.DeletionLemmas.{deletes_alike}
use Rattle.repo_member.proofs.GroupPlans.{plans_alike}
use Rattle.repo_holdings.proofs.HidingLemmas.{value_outside}
use Rattle.repo_member.proofs.LastingPackets.{begins_consistently, grown_last, grown_post, grows_consistently}
use Rattle.repo_member.proofs.LastingPackets.{publishes_consistently}
use Rattle.repo_member.proofs.LastingPackets.{published_grows, post_next, accepts_consistently, takes_consistently}
use Rattle.repo_member.proofs.MemberLemmas.{still_wide}
use Rattle.repo_member.proofs.OutcomeLemmas.{members_take_all}
use Rattle.repo_member.proofs.ConsistentMembers.{consistent_stores, wants_published, claimed_wanted}

-- ---- the beginning

nothing_in : (n p : ℕ) → last_of (replicate n []) p ≡ 0
nothing_in zero p = refl
nothing_in (suc n) zero = refl
nothing_in (suc n) (suc p) = nothing_in n p

none_logged : (n p : ℕ) → get_or (replicate n (let l : List Post = [] in l)) p [] ≡ []
none_logged zero p = refl
none_logged (suc n) zero = refl
none_logged (suc n) (suc p) = none_logged n p

pub begins_consistent : BeginsConsistent
begins_consistent g n number time draw inside =
    let logs : Logs = replicate n [] in
    let many : length logs ≡ n = length-replicate n [] in
    record {
      there = omega (arith, inside, many);
      log = none_logged n number;
      sound = record {
        width = length-replicate n 0 ∙ sym many;
        fetchers = refl;
        in_order = record { held = tt; hidden = tt; attempts = tt; tried = λ t k e. absurd cc };
        known = λ p. let z : get_or (zeros n) p 0 ≡ 0 = all_zeros n p in omega (arith, z);
        own = all_zeros n number ∙ sym (nothing_in n number);
        heard = tt;
        held = λ t h. absurd (true≢false (sym h));
        hidden = λ q h. absurd (true≢false (sym h));
        own_held =
            λ s p.
            absurd (let z : last_of logs number ≡ 0 = nothing_in n number in omega (arith, z, p.from_one, p.to_last));
        claimed = λ f t e. absurd (let c : get_or no_claims f None ≡ None = no_claim 16 f in cc);
        apart = λ f h t a b. absurd (let c : get_or no_claims f None ≡ None = no_claim 16 f in cc);
      };
      machine = sym many;
      packets = (begins_consistently g logs n number time draw).packets;
    }

-- ---- what is published

grows_from : (logs later : Logs) → GrowInto logs later → length later ≡ length logs → Grows logs later
grows_from logs later grows wide = record {
  width = wide;
  last = λ p. grown_last logs later p grows;
  shapes = λ pair there. ap shape_in (grown_post logs later pair grows there);
}

pub logs_have_grown : LogsHaveGrown
logs_have_grown logs j post inside = published_grows logs j (get_or logs j []) post inside refl

pub publishes_consistent : PublishesConsistent
publishes_consistent g post time draw logs a t =
    let later : Logs = set logs a.number (a.log ++ post ∷ []) in
    let grows : GrowInto logs later = published_grows logs a.number a.log post t.there t.log in
    let wide : length later ≡ length logs = length-set logs a.number (a.log ++ post ∷ []) in
    let own : get_or later a.number [] ≡ a.log ++ post ∷ [] =
    get_or-set_same logs a.number (a.log ++ post ∷ []) [] t.there in
    let last : last_of logs a.number ≡ length a.log = ap length t.log in
    let one : last_of later a.number ≡ length a.log + 1 = ap length own ∙ length_push a.log post in
    let next : last_of logs a.number + 1 ≡ length a.log + 1 = omega (arith, last) in
    let publishes : Publishes logs later a.number post = record {
      grows = grows_from logs later grows wide;
      one_more = omega (arith, one, last);
      shape =
          ap (λ (s : ℕ). shape_at later (a.number, s)) next
          ∙ ap shape_in (post_next logs a.number a.log post t.there t.log);
    } in
    record {
      there = omega (arith, t.there, wide);
      log = own;
      sound = subst (IsSoundMember later a.number) (sym (publishes_alike g post time draw a t.sound.in_order.held))
          (sound_publishes draw time logs later a.number post (in_group a) t.there (sym last) publishes t.sound);
      machine = t.machine ∙ sym wide;
      packets = (publishes_consistently g post time draw logs a t.there t.log (consistent_stores g logs a t)).packets;
    }

pub others_publish : OthersPublish
others_publish g logs later a grows wide last t =
    record {
      there = omega (arith, t.there, wide);
      log =
          sym (take_all (last_of logs a.number) (get_or later a.number []) (omega (arith, last)))
          ∙ grows a.number
          ∙ t.log;
      sound = grown logs later a.number (in_group a) (grows_from logs later grows wide) last t.sound;
      machine = t.machine ∙ sym wide;
      packets = (grows_consistently g logs later a grows (consistent_stores g logs a t)).packets;
    }

-- ---- what is reported

pub learns_consistent : LearnsConsistent
learns_consistent g logs received a v t = record {
  there = t.there;
  log = t.log;
  sound =
      with_machine logs a.number (group.learns 0 0 received (in_group a)) a.machine a.insertions.processes
      a.insertions.next_process (sound_learns 0 0 logs a.number received (in_group a) v t.sound) t.sound.heard;
  machine = t.machine;
  packets = t.packets;
}

pub hears_consistent : HearsConsistent
hears_consistent g logs received time draw a v t = record {
  there = t.there;
  log = t.log;
  sound = sound_learns draw time logs a.number received (in_group a) v t.sound;
  machine =
      still_wide time received a.known draw a.machine
      (after_hearing time received a.known draw a.machine a.machine.heard)
      refl
      ∙ t.machine;
  packets = t.packets;
}

-- only the sync state changes
machine_consistent : (g : GroupKeys) (logs : Logs) (a : MemberState) (machine : SyncState) → machine.members
    ≡ a.machine.members
    → HeardConsistently logs machine.heard → IsConsistentMember g logs a
    → IsConsistentMember g logs (record a { machine = machine })
machine_consistent g logs a machine wide heard t = record {
  there = t.there;
  log = t.log;
  sound =
      with_machine logs a.number (in_group a) machine a.insertions.processes a.insertions.next_process t.sound heard;
  machine = wide ∙ t.machine;
  packets = t.packets;
}

pub fires_consistent : FiresConsistent
fires_consistent g logs time draw a t =
    machine_consistent g logs a (state_after_firing time draw a.machine) (fired_wide time draw a.machine)
    (go (nat_lt time a.machine.deadline)) t where
      go : (b : Bool) → HeardConsistently logs (cond b a.machine (becomes_steady time draw a.machine)).heard
      go true = t.sound.heard
      go false = tt

pub resets_consistent : ResetsConsistent
resets_consistent g logs time draw a t = machine_consistent g logs a (becomes_steady time draw a.machine) refl tt t

-- ---- commands and blocks

pub inserts_consistent : InsertsConsistent
inserts_consistent g logs insertions a t = record {
  there = t.there;
  log = t.log;
  sound =
      with_machine logs a.number (in_group a) a.machine insertions.processes insertions.next_process t.sound
      t.sound.heard;
  machine = t.machine;
  packets = t.packets;
}

-- where a member's log stays as it is, all logs stay as they are
same_logs : (g : GroupKeys) (logs : Logs) (a b : MemberState) → b.number ≡ a.number → b.log ≡ a.log
    → IsConsistentMember g logs a
    → IsConsistentMember g logs b → IsConsistentMember g (set logs a.number b.log) b
same_logs g logs a b number log t u =
    let same : logs ≡ set logs a.number b.log =
    sym (set-get_or logs a.number []) ∙ ap (set logs a.number) (t.log ∙ sym log) in
    subst (λ (ls : Logs). IsConsistentMember g ls b) same u

pub blocks_consistent : BlocksConsistent
blocks_consistent g process index content time draw logs a t = go (member_block a process index content) where
  kept : (p : Process) → IsConsistentMember g logs (member_keeps process p a)
  kept p = inserts_consistent g logs (with_process process p a.insertions) a t

  publishes : (p : Process) (b : Bool)
      → let later = cond b (member_publishes g (Offers (object_of p)) time draw
      (member_keeps process (closed p) a)) a in
      IsConsistentMember g (set logs a.number later.log) later
  publishes p true =
      publishes_consistent g (Offers (object_of p)) time draw logs (member_keeps process (closed p) a) (kept (closed p))
  publishes p false = same_logs g logs a a refl refl t t

  go : (state : BlockState)
      → let later = after_block g process time draw a state in IsConsistentMember g (set logs a.number later.log) later
  go Unknown = same_logs g logs a a refl refl t t
  go Already = same_logs g logs a a refl refl t t
  go (Waiting p) = same_logs g logs a (member_keeps process p a) refl refl t (kept p)
  go (Whole p) = publishes p (nat_lt (length a.log) 65535)

-- what is stored still was stored before
stored_before : (pairs : List Pair) (packets : List Packet) (t : Part) (octets : List ℕ)
    → value_of part_cmp (outside_all pairs packets) t ≡ Some octets → value_of part_cmp packets t ≡ Some octets
stored_before [] packets t octets h = h
stored_before (pair ∷ pairs) packets t octets h =
    go (is_in pair t)
    (sym (value_outside pair packets t) ∙ stored_before pairs (packets_outside pair packets) t octets h) where
      go : (b : Bool) → cond (not b) (value_of part_cmp packets t) None ≡ Some octets
          → value_of part_cmp packets t ≡ Some octets
      go true k = absurd cc
      go false k = k

pub deletes_consistent : DeletesConsistent
deletes_consistent g logs name a are t = record {
  there = t.there;
  log = t.log;
  sound =
      subst (IsSoundMember logs a.number) (sym (deletes_alike g logs name a are (consistent_stores g logs a t)))
      (sound_deletes logs a.number name (in_group a) t.sound);
  machine = t.machine;
  packets = λ u octets h. t.packets u octets (stored_before (catalogued_named name a) a.store u octets h);
}

pub obeys_consistent : ObeysConsistent
obeys_consistent g logs (Insert name first last) a are t = go (next_number a.insertions) where
  go : (o : Option ℕ) → IsConsistentMember g logs (member_state_starts name first last a o)
  go None = t
  go (Some number) = inserts_consistent g logs (starts name first last a.insertions) a t
obeys_consistent g logs (Check process) a are t = t
obeys_consistent g logs (Delete name) a are t = deletes_consistent g logs name a are t

-- ---- claims

pub ends_claims_consistent : EndsClaimsConsistent
ends_claims_consistent g logs a t = record {
  there = t.there;
  log = t.log;
  sound = record {
    width = t.sound.width;
    fetchers = refl;
    in_order = record {
      held = t.sound.in_order.held;
      hidden = t.sound.in_order.hidden;
      attempts = t.sound.in_order.attempts;
      tried = t.sound.in_order.tried;
    };
    known = t.sound.known;
    own = t.sound.own;
    heard = t.sound.heard;
    held = t.sound.held;
    hidden = λ pair h. record { known = (t.sound.hidden pair h).known; none_held = (t.sound.hidden pair h).none_held };
    own_held = t.sound.own_held;
    claimed = λ f u e. absurd (let n : get_or no_claims f None ≡ None = no_claim 16 f in cc);
    apart = λ f h u x y. absurd (let n : get_or no_claims f None ≡ None = no_claim 16 f in cc);
  };
  machine = t.machine;
  packets = t.packets;
}

pub restarts_consistent : RestartsConsistent
restarts_consistent g logs time draw a t =
    let ended = member_ends_claims a in
    resets_consistent g logs time draw (member_ends_insertions ended)
    (inserts_consistent g logs (record a.insertions { processes = [] }) ended (ends_claims_consistent g logs a t))

pub loses_consistent : LosesConsistent
loses_consistent g logs f a t = record {
  there = t.there;
  log = t.log;
  sound = sound_loses logs a.number f (in_group a) t.sound;
  machine = t.machine;
  packets = t.packets;
}

-- the first of a list stands in it
first_in : (ts : List Part) (t : Part) → first ts ≡ Some t → In t ts
first_in [] t h = absurd cc
first_in (u ∷ us) t h = let same : t ≡ u = cc in inl same

pub claims_consistent : ClaimsConsistent
claims_consistent g logs f a are t = go (first (unclaimed (member_plan a))) refl where
  go : (claim : Option Part) → first (unclaimed (member_plan a)) ≡ claim
      → IsConsistentMember g logs (member_claims f claim a)
  go None e = loses_consistent g logs f a t
  go (Some u) e =
      let free : is_unclaimed (member_plan a) u ≡ true =
      sym (contains-unclaimed (member_plan a) u)
      ∙ contains_in exact_parts (unclaimed (member_plan a)) u (first_in (unclaimed (member_plan a)) u e) in
      let both = and_parts (is_wanted (member_plan a) u) (not (is_claimed (member_plan a) u)) free in
      let plans = plans_alike g logs a are (consistent_stores g logs a t) in
      record {
        there = t.there;
        log = t.log;
        sound = sound_claims logs a.number f u (in_group a)
            (subst (λ (p : PlanState). is_wanted p u ≡ true) plans both.0)
            (subst (λ (p : PlanState). is_claimed p u ≡ false) plans (not-true (is_claimed (member_plan a) u) both.1))
            t.sound;
        machine = t.machine;
        packets = t.packets;
      }

-- ---- what is received

pub accepts_consistent : AcceptsConsistent
accepts_consistent g logs f t octets a are claim its consistent = record {
  there = consistent.there;
  log = consistent.log;
  sound =
      subst (IsSoundMember logs a.number) (sym (accepts_alike f t octets a consistent.sound.in_order.held))
      (sound_takes logs a.number f t (in_group a) claim consistent.sound);
  machine = consistent.machine;
  packets = (accepts_consistently g logs f t octets a (record {
    published = (wants_published g logs a t are consistent (claimed_wanted g logs a are consistent f t claim)).there;
    packet = its;
  }) (consistent_stores g logs a consistent)).packets;
}

rises_all_tried : (xs : List Fetched) (tried : List (Part × ℕ)) → Rises part_cmp (keys tried)
    → Rises part_cmp (keys (with_all_tries xs tried))
rises_all_tried [] tried r = r
rises_all_tried (x ∷ xs) tried r =
    rises_all_tried xs (with_tries x.part x.attempts tried) (rises_tried x.part x.attempts tried r)

all_tried : (xs : List Fetched) (tried : List (Part × ℕ)) → AreTried tried → AreTried (with_all_tries xs tried)
all_tried [] tried h = h
all_tried (x ∷ xs) tried h =
    all_tried xs (with_tries x.part x.attempts tried) (tried_once_more x.part x.attempts tried h)

-- a part that was received
response_from : (xs : List Fetched) (P : Part → Type 0) → All (λ (x : Fetched). IfSome x.packet (λ octets. P x.part)) xs
    → (t : Part) → In t (parts_fetched xs) → P t
response_from [] P all t i = absurd i
response_from (x ∷ xs) P all t i =
    go x.packet (All-head (λ (y : Fetched). IfSome y.packet (λ octets. P y.part)) x xs all) i
    (response_from xs P (All-tail (λ (y : Fetched). IfSome y.packet (λ octets. P y.part)) x xs all) t) where
      go : (o : Option (List ℕ)) → IfSome o (λ octets. P x.part)
          → In t
          (asked_for (cond (is_some o) (x ∷ filter (λ (y : Fetched). is_some y.packet) xs)
          (filter (λ (y : Fetched). is_some y.packet) xs)))
          → (In t (parts_fetched xs) → P t) → P t
      go None h j rest = rest j
      go (Some octets) h (inl same) rest = subst P (sym same) h
      go (Some octets) h (inr j) rest = rest j

module _ (g : GroupKeys) (logs : Logs) (xs : List Fetched) (a : MemberState) (are : AreLogs g logs)
    (consistent : IsConsistentMember g logs a)
    (came : All (λ (x : Fetched). IfSome x.packet (IsConsistentArrival g logs a x.part)) xs) where
  plans : member_plan a ≡ plan_of logs (in_group a)
  plans = plans_alike g logs a are (consistent_stores g logs a consistent)

  is_free : (o : Option (List ℕ)) (t : Part) → IfSome o (IsConsistentArrival g logs a t)
      → IfSome o (λ octets. is_unclaimed (member_plan a) t ≡ true)
  is_free None t h = h
  is_free (Some octets) t h = h.unclaimed

  open_parts : (t : Part) → In t (parts_fetched xs)
      → (is_wanted (member_plan a) t ≡ true) × (is_claimed (member_plan a) t ≡ false)
  open_parts t i =
      let free : is_unclaimed (member_plan a) t ≡ true =
      response_from xs (λ (u : Part). is_unclaimed (member_plan a) u ≡ true)
      (All-weaker (λ (x : Fetched). IfSome x.packet (IsConsistentArrival g logs a x.part))
      (λ (x : Fetched). IfSome x.packet (λ octets. is_unclaimed (member_plan a) x.part ≡ true))
      (λ x h. is_free x.packet x.part h) xs came) t i in
      let both = and_parts (is_wanted (member_plan a) t) (not (is_claimed (member_plan a) t)) free in
      (both.0, not-true (is_claimed (member_plan a) t) both.1)

  is_its : (o : Option (List ℕ)) (t : Part) → IfSome o (IsConsistentArrival g logs a t) → IsConsistentFetch g logs t o
  is_its None t h = tt
  is_its (Some octets) t h = record {
    published =
        (wants_published g logs a t are consistent
        (and_parts (is_wanted (member_plan a) t) (not (is_claimed (member_plan a) t)) h.unclaimed).0).there;
    packet = h.packet;
  }

  pub taken_consistent : IsConsistentMember g logs (member_takes xs a)
  taken_consistent = subst (IsConsistentMember g logs) (sym (members_take_all xs a)) (record {
    there = consistent.there;
    log = consistent.log;
    sound =
        subst (IsSoundMember logs a.number)
        (sym (sym (ap in_group (members_take_all xs a)) ∙ takes_in_group xs a consistent.sound.in_order.held))
        (sound_gains logs a.number (parts_fetched xs) (with_all_tries xs a.attempts) (in_group a)
        (λ t i. subst (λ (p : PlanState). is_wanted p t ≡ true) plans (open_parts t i).0)
        (λ t i. subst (λ (p : PlanState). is_claimed p t ≡ false) plans (open_parts t i).1)
        (rises_all_tried xs a.attempts consistent.sound.in_order.attempts)
        (all_tried xs a.attempts consistent.sound.in_order.tried) consistent.sound);
    machine = consistent.machine;
    packets = subst (AreItsPackets g logs) (members_take_all xs a) (takes_consistently g logs xs a
        (All-weaker (λ (x : Fetched). IfSome x.packet (IsConsistentArrival g logs a x.part))
        (λ (x : Fetched). IsConsistentFetch g logs x.part x.packet) (λ x h. is_its x.packet x.part h) xs came)
        (consistent_stores g logs a consistent)).packets;
  })

pub takes_consistent : TakesConsistent
takes_consistent g logs xs a are came t = taken_consistent g logs xs a are t came
