-- The results of a fetch, taken part after part.
use Rattle.std.proofs.Common.{◌≡◌, ◌⊎◌, inl, inr, ℕ, ◌<◌, Bool, true, cond, not, List, [], ◌∷◌, ◌++◌, map, length}
use Rattle.std.proofs.Common.{append_assoc, refl, sym, ap, ◌∙◌, subst, Option, Some, None, option_map, is_some}
use Rattle.std.proofs.Common.{unwrap_or, count_by, sum_by, take, Result, Ok, Err, arith}
use Rattle.std.specs.Prelude.{IfSome, IfOk, IsOk, IsSome, IsTrue}
use Rattle.std.specs.Option.{option_and_then}
use Rattle.std.specs.List.{All, filter}
use Rattle.std.proofs.lemmas.Bool.{true≢false, and_parts, not-true}
use Rattle.std.proofs.lemmas.List.{map-append, length-map}
use Rattle.std.proofs.lemmas.List.Elements.{All-head, All-tail, All-map, All-weaker, All-take}
use Rattle.std.proofs.lemmas.List.Elements.{All-filter, filter_passes}
use Rattle.std.proofs.lemmas.List.Sums.{sum_by-cons}
use Rattle.ndn_name.specs.declared.fault.PacketFault.{PacketFault}
use Rattle.ndn_name.specs.Names.{Component}
use Rattle.ndn_data.specs.Data.{Data, data_of}
use Rattle.repo_plan.specs.declared.part.Part.{Part}
use Rattle.sorted_lists.specs.SortedList.{Rises}
use Rattle.repo_plan.specs.Parts.{part_cmp, pair_of}
use Rattle.repo_plan.specs.Plan.{PlanState, holds, hides, may_be_asked_for, is_wanted, is_claimed, is_unclaimed}
use Rattle.repo_plan.specs.Plan.{is_after}
use Rattle.repo_plan.specs.Plan.{unclaimed, known_parts, attempts_of}
use Rattle.repo_plan.proofs.Changes.{wanted_parts}
use Rattle.repo_plan.proofs.Known.{unclaimed_rises}
use Rattle.repo_plan.proofs.Orders.{exact_parts}
use Rattle.sorted_lists.proofs.Sets.{rises_filter}
use Rattle.sorted_lists.proofs.SameSets.{not_after}
use Rattle.sorted_lists.proofs.Inserted.{rises_parts}
use Rattle.repo_object.specs.declared.job.Job.{Job}
use Rattle.repo_object.specs.declared.part_refusal.PartRefusal.{PartRefusal}
use Rattle.repo_object.specs.Publication.{RecordSays}
use Rattle.repo_object.specs.Records.{record_of, index_of}
use Rattle.repo_object.specs.Verdict.{CheckedPart, IsChecked, Passes, part_verdict, content_within, stated_in, may_say}
use Rattle.repo_object.proofs.Passing.{passes}
use Rattle.repo_member.specs.Groups.{GroupKeys, HaveKeys}
use Rattle.repo_holdings.specs.Records.{Packet}
use Rattle.group_model.specs.Member.{with_tries}
use Rattle.repo_member.specs.MemberState.{MemberState, member_holdings, member_plan, want_of, member_takes}
use Rattle.repo_holdings.specs.Taking.{Fetched, with_fetched, with_all_fetched, with_fetched_for}
use Rattle.repo_holdings.specs.StoredParents.{lists_at, ListsAsMany}
use Rattle.repo_holdings.specs.Gaining.{IsArrival}
use Rattle.repo_holdings.specs.declared.record_summary.RecordSummary.{RecordSummary}
use Rattle.repo_object.specs.Wants.{WantedPart}
use Rattle.repo_holdings.specs.declared.record_summary.Arrival.{Arrival}
use Rattle.repo_member.specs.Members.{member_state, IsMember}
use Rattle.repo_member.specs.declared.member.Member.TheInside.{Inside}
use Rattle.repo_holdings.specs.declared.holdings.taking.Tried.{Tried}
use Rattle.repo_member.specs.Outcomes.{IsJobOf, AreFetchedOf, WereChecked, HolderJobsArePlanned, RisingJobsArePlanned}
use Rattle.repo_member.specs.Outcomes.{JobsArePlanned, PlannedJobsAreOutcomes, IsOutcome, outcome_of, IsFetched}
use Rattle.repo_member.specs.Outcomes.{AreFetched, HolderJobsAreOutcomes}
use Rattle.repo_member.specs.ConsistentHolders.{MembersTakeAll}
use Rattle.repo_holdings.specs.Taking.{PartsDiffer, CanBeTaken}
use Rattle.repo_holdings.specs.Taking.{AreTakable, came, arrival_octets}
use Rattle.repo_member.specs.Outcomes.{octets_in}
use Rattle.repo_holdings.specs.HoldingsState.{HoldingsState, held_plan}
use Rattle.repo_holdings.specs.Wanting.{want_at, job_at}
use Rattle.repo_holdings.specs.Taking.{after_outcome}
use Rattle.repo_member.proofs.GroupLemmas.{ring_length}
use Rattle.repo_holdings.proofs.AskedLemmas.{asked_member}
use Rattle.repo_member.proofs.MemberLemmas.{plan_is, want_at_part, want_part, want_lists}

-- ---- what is taken in all

pub members_take_all : MembersTakeAll
members_take_all [] a = refl
members_take_all (x ∷ xs) a =
    members_take_all xs
    (record a { store = with_fetched x.part x.packet a.store; attempts = with_tries x.part x.attempts a.attempts })

-- what passed a check lists as many digests as it has to
lists_so : (octets : List ℕ) (d : Data) → data_of octets ≡ Ok d → (o : Option ℕ)
    → IfSome o (λ count. IsSome (index_of d.content count)) → ListsAsMany octets o
lists_so octets d read None h = tt
lists_so octets d read (Some count) h =
    ap (λ (r : Result Data PacketFault). is_some (option_and_then (λ x. index_of x count) (content_within r))) read ∙ h

-- what passed a check passed every check, as the packet that it is
checked_passes : (c : CheckedPart) → IsChecked c → (d : Data) × Passes c.want c.key_name c.key c.octets d
checked_passes c passed = go (part_verdict c.want c.key_name c.key c.octets) refl passed where
  go : (v : Result Data PartRefusal) → part_verdict c.want c.key_name c.key c.octets ≡ v → IsOk v
      → (d : Data) × Passes c.want c.key_name c.key c.octets d
  go (Ok d) p h = (d, passes c.want c.key_name c.key c.octets d p)
  go (Err refusal) p h = absurd (true≢false (sym h))

checked_lists : (c : CheckedPart) → IsChecked c → ListsAsMany c.octets c.want.lists
checked_lists c passed =
    let all = checked_passes c passed in
    lists_so c.octets all.0 all.1.read c.want.lists all.1.listing

-- and what passed for a record says something
stated_so : (seq : ℕ) (octets : List ℕ) (d : Data) → data_of octets ≡ Ok d → IsTrue (may_say seq (record_of d.content))
    → IsSome (stated_in octets)
stated_so seq octets d read may =
    ap (λ (r : Result Data PacketFault). is_some (option_and_then record_of (content_within r))) read
    ∙ some (record_of d.content) may where
      some : (o : Option RecordSays) → IsTrue (may_say seq o) → is_some o ≡ true
      some None h = absurd (true≢false (sym h))
      some (Some says) h = refl

pub checked_says : (c : CheckedPart) → IsChecked c → c.want.part.part ≡ 0 → IsSome (stated_in c.octets)
checked_says c passed zero =
    let all = checked_passes c passed in
    stated_so c.want.part.seq c.octets all.0 all.1.read (all.1.stated zero)

-- so it comes as the part of its want, where it was copied or shared
pub comes_so : {E : Type 0} (c : CheckedPart) (t : Part) (octets : List ℕ) (r : Result Arrival E) → t ≡ c.want.part
    → octets ≡ c.octets → IsChecked c
    → IfOk r (λ a. (packets : List Packet) → ListsAsMany octets (lists_at packets t)
    → IsArrival packets t a.packet a.summary)
    → IfOk r (λ a. (packets : List Packet) → c.want.lists ≡ lists_at packets c.want.part
    → IsArrival packets c.want.part a.packet a.summary)
comes_so c t octets (Err e) part same passed comes = tt
comes_so c t octets (Ok a) part same passed comes = λ packets lists.
    subst (λ (u : Part). IsArrival packets u a.packet a.summary) part
    (comes packets
    (subst (ListsAsMany octets) (lists ∙ ap (lists_at packets) (sym part))
    (subst (λ (o : List ℕ). ListsAsMany o c.want.lists) (sym same) (checked_lists c passed))))

-- a packet that was checked for the member's want of part `t` is an arrival of `t`
pub arrives : (g : GroupKeys) (a : MemberState) (t : Part) (c : CheckedPart) (octets : List ℕ)
    (received : Option RecordSummary)
    → c.want ≡ want_of g a.store t
    → ((packets : List Packet) → c.want.lists ≡ lists_at packets c.want.part
    → IsArrival packets c.want.part octets received)
    → IsArrival a.store t octets received
arrives g a t c octets received same comes =
    let part : c.want.part ≡ t = ap (λ (w : WantedPart). w.part) same ∙ want_part g a.store t in
    let lists : c.want.lists ≡ lists_at a.store c.want.part =
    ap (λ (w : WantedPart). w.lists) same ∙ want_lists g a.store t ∙ ap (lists_at a.store) (sym part) in
    subst (λ (u : Part). IsArrival a.store u octets received) part (comes a.store lists)

-- and lists as many digests as the part has to
pub lists_for : (g : GroupKeys) (a : MemberState) (t : Part) (c : CheckedPart) → IsChecked c → c.want
    ≡ want_of g a.store t
    → ListsAsMany c.octets (lists_at a.store t)
lists_for g a t c passed same =
    subst (ListsAsMany c.octets) (ap (λ (w : WantedPart). w.lists) same ∙ want_lists g a.store t)
    (checked_lists c passed)

-- ---- the results of jobs, one after another

pub nothing_left : (jobs : List Job) (parts : List (Option CheckedPart)) (attempts : List ℕ)
    → (length jobs ≡ 0) ⊎ (length parts ≡ 0) ⊎ (length attempts ≡ 0) → outcome_of jobs parts attempts ≡ []
nothing_left [] parts attempts h = refl
nothing_left (job ∷ jobs) [] attempts h = refl
nothing_left (job ∷ jobs) (part ∷ parts) [] h = refl
nothing_left (job ∷ jobs) (part ∷ parts) (n ∷ ns) (inl h) = absurd (omega (arith, h))
nothing_left (job ∷ jobs) (part ∷ parts) (n ∷ ns) (inr (inl h)) = absurd (omega (arith, h))
nothing_left (job ∷ jobs) (part ∷ parts) (n ∷ ns) (inr (inr h)) = absurd (omega (arith, h))

module _ (g : GroupKeys) (a : MemberState) (job : Job) (part : Option CheckedPart) (n : ℕ) where
  pub first_fetched : (jobs later : List Job) (parts after : List (Option CheckedPart)) (ns rest : List ℕ)
      → jobs ≡ job ∷ later → parts ≡ part ∷ after → ns ≡ n ∷ rest
      → AreFetched g a jobs parts ns → IsFetched g a job part n × AreFetched g a later after rest
  first_fetched jobs later parts after ns rest j p t are = rw (j, p, t) at are

  -- the fetched part of a job, with a copy of its packet
  pub one_more : (x : Tried) (jobs later : List Job) (parts after : List (Option CheckedPart)) (ns rest : List ℕ)
      (xs : List Tried)
      → jobs ≡ job ∷ later → parts ≡ part ∷ after → ns ≡ n ∷ rest
      → x.part ≡ job.want.part
      → option_map (λ (y : Arrival). y.packet) x.arrival ≡ option_map (λ (c : CheckedPart). c.octets) part
      → x.attempts ≡ n
      → map came (xs ++ x ∷ []) ++ outcome_of later after rest ≡ map came xs ++ outcome_of jobs parts ns
  one_more x jobs later parts after ns rest xs j p t same packet tried =
      ap (λ (ys : List Fetched). ys ++ outcome_of later after rest) (map-append came xs (x ∷ []))
      ∙ append_assoc (map came xs) (came x ∷ []) (outcome_of later after rest)
      ∙ rw (j, p, t) (ap (λ (y : Fetched). map came xs ++ y ∷ outcome_of later after rest) is)
    where
      is : came x
          ≡ record { part = job.want.part; packet = option_map (λ (c : CheckedPart). c.octets) part; attempts = n }
      is = λ i. record { part = same i; packet = packet i; attempts = tried i }

  pub fetched_asked : (t : Part) → IsFetched g a job part n → t ≡ job.want.part
      → may_be_asked_for (member_plan a) t ≡ true
  fetched_asked t is same =
      let free =
      and_parts (is_wanted (member_plan a) job.want.part) (not (is_claimed (member_plan a) job.want.part))
      is.unclaimed in
      ap (may_be_asked_for (member_plan a)) same ∙ (wanted_parts (member_plan a) job.want.part free.0).asked

  pub can_be_taken : (x : Tried) → IsFetched g a job part n → x.part ≡ job.want.part → x.attempts ≡ n
      → IfSome x.arrival (λ y. IsArrival a.store x.part y.packet y.summary)
      → CanBeTaken (member_plan a) a.store x
  can_be_taken x is same tried arrived =
      let free =
      and_parts (is_wanted (member_plan a) job.want.part) (not (is_claimed (member_plan a) job.want.part))
      is.unclaimed in
      let wanted = wanted_parts (member_plan a) job.want.part free.0 in
      record {
        asked = fetched_asked x.part is same;
        not_held = ap (holds (member_plan a)) same ∙ wanted.not_held;
        not_hidden = ap (λ (t : Part). hides (member_plan a) (pair_of t)) same ∙ wanted.not_hidden;
        not_claimed = ap (is_claimed (member_plan a)) same ∙ not-true (is_claimed (member_plan a) job.want.part) free.1;
        arrived = arrived;
        few = rw (same, tried) is.few;
      }

-- ---- the outcome as a whole

pub parts_came : (xs : List Tried) → map (λ (x : Tried). x.part) xs ≡ map (λ (y : Fetched). y.part) (map came xs)
parts_came [] = refl
parts_came (x ∷ xs) = ap (λ (ts : List Part). x.part ∷ ts) (parts_came xs)

-- a sum over what is made of each
sum_made : {A B : Type 0} (p : A → ℕ) (q : B → ℕ) (f : A → B) → ((x : A) → p x ≡ q (f x)) → (xs : List A)
    → sum_by p xs ≡ sum_by q (map f xs)
sum_made p q f same [] = refl
sum_made p q f same (x ∷ xs) =
    sum_by-cons p x xs ∙ rw (same x, sum_made p q f same xs) refl ∙ sym (sum_by-cons q (f x) (map f xs))

sum_same : {A : Type 0} (p q : A → ℕ) → ((x : A) → p x ≡ q x) → (xs : List A) → sum_by p xs ≡ sum_by q xs
sum_same p q same xs = sum_made p q (λ x. x) same xs ∙ ap (sum_by q) (map-id xs) where
  map-id : {A : Type 0} (ys : List A) → map (λ (y : A). y) ys ≡ ys
  map-id [] = refl
  map-id (y ∷ ys) = ap (λ rest. y ∷ rest) (map-id ys)

abbrev one_of : Bool → ℕ
one_of b = cond b 1 0

some_made : {A B : Type 0} (f : A → B) (o : Option A) → is_some o ≡ is_some (option_map f o)
some_made f None = refl
some_made f (Some x) = refl

module _ (g : GroupKeys) (a : MemberState) where
  parts_fetched : (jobs : List Job) (parts : List (Option CheckedPart)) (ns : List ℕ) → AreFetched g a jobs parts ns
      → map (λ (y : Fetched). y.part) (outcome_of jobs parts ns) ≡ map (λ (job : Job). job.want.part) jobs
  parts_fetched [] [] [] are = refl
  parts_fetched [] [] (n ∷ ns) are = absurd are
  parts_fetched [] (part ∷ parts) ns are = absurd are
  parts_fetched (job ∷ jobs) [] ns are = absurd are
  parts_fetched (job ∷ jobs) (part ∷ parts) [] are = absurd are
  parts_fetched (job ∷ jobs) (part ∷ parts) (n ∷ ns) are =
      ap (λ (ts : List Part). job.want.part ∷ ts) (parts_fetched jobs parts ns are.1)

  packets_fetched : (jobs : List Job) (parts : List (Option CheckedPart)) (ns : List ℕ) → AreFetched g a jobs parts ns
      → map (λ (y : Fetched). y.packet) (outcome_of jobs parts ns)
      ≡ map (option_map (λ (c : CheckedPart). c.octets)) parts
  packets_fetched [] [] [] are = refl
  packets_fetched [] [] (n ∷ ns) are = absurd are
  packets_fetched [] (part ∷ parts) ns are = absurd are
  packets_fetched (job ∷ jobs) [] ns are = absurd are
  packets_fetched (job ∷ jobs) (part ∷ parts) [] are = absurd are
  packets_fetched (job ∷ jobs) (part ∷ parts) (n ∷ ns) are =
      ap (λ (os : List (Option (List ℕ))). option_map (λ (c : CheckedPart). c.octets) part ∷ os)
      (packets_fetched jobs parts ns are.1)

  -- the packets that are stored with an outcome follow from the parts and their packets alone
  pub stored_alike : (jobs : List Job) (parts : List (Option CheckedPart)) (ns : List ℕ) (stored : List Packet)
      → AreFetched g a jobs parts ns
      → with_fetched_for jobs parts stored ≡ with_all_fetched (outcome_of jobs parts ns) stored
  stored_alike [] [] [] stored are = refl
  stored_alike [] [] (n ∷ ns) stored are = absurd are
  stored_alike [] (part ∷ parts) ns stored are = absurd are
  stored_alike (job ∷ jobs) [] ns stored are = absurd are
  stored_alike (job ∷ jobs) (part ∷ parts) [] stored are = absurd are
  stored_alike (job ∷ jobs) (part ∷ parts) (n ∷ ns) stored are =
      stored_alike jobs parts ns
      (with_fetched job.want.part (option_map (λ (c : CheckedPart). c.octets) part) stored) are.1

  module _ (jobs : List Job) (parts : List (Option CheckedPart)) (ns : List ℕ) (is : IsOutcome g a jobs parts ns)
      (xs : List Tried) (all : map came xs ≡ outcome_of jobs parts ns) where
    pub all_apart : PartsDiffer (map (λ (x : Tried). x.part) xs)
    all_apart =
        subst PartsDiffer
        (sym (parts_came xs ∙ ap (map (λ (y : Fetched). y.part)) all ∙ parts_fetched jobs parts ns is.each)) is.apart

    -- a sum over the result of each job
    came_sum : (q : Option (List ℕ) → ℕ)
        → sum_by (λ (x : Tried). q (came x).packet) xs
        ≡ sum_by (λ (part : Option CheckedPart). q (option_map (λ (c : CheckedPart). c.octets) part)) parts
    came_sum q =
        sum_made (λ (x : Tried). q (came x).packet) (λ (y : Fetched). q y.packet) came (λ x. refl) xs
        ∙ ap (sum_by (λ (y : Fetched). q y.packet)) all
        ∙ sum_made (λ (y : Fetched). q y.packet) q (λ (y : Fetched). y.packet) (λ y. refl) (outcome_of jobs parts ns)
        ∙ ap (sum_by q) (packets_fetched jobs parts ns is.each)
        ∙ sym (sum_made (λ (part : Option CheckedPart). q (option_map (λ (c : CheckedPart). c.octets) part)) q
        (option_map (λ (c : CheckedPart). c.octets)) (λ part. refl) parts)

    pub all_counted : count_by (λ (x : Tried). is_some x.arrival) xs ≡ count_by is_some parts
    all_counted =
        sum_same (λ (x : Tried). one_of (is_some x.arrival)) (λ (x : Tried). one_of (is_some (came x).packet))
        (λ x. ap one_of (some_made (λ (y : Arrival). y.packet) x.arrival)) xs
        ∙ came_sum (λ o. one_of (is_some o))
        ∙ sum_same (λ (part : Option CheckedPart). one_of (is_some (option_map (λ (c : CheckedPart). c.octets) part)))
        (λ (part : Option CheckedPart). one_of (is_some part))
        (λ part. ap one_of (sym (some_made (λ (c : CheckedPart). c.octets) part))) parts

    pub all_tried : length xs ≡ length jobs
    all_tried =
        sym (length-map xs (λ (x : Tried). x.part))
        ∙ ap (λ (ts : List Part). length ts)
        (parts_came xs ∙ ap (map (λ (y : Fetched). y.part)) all ∙ parts_fetched jobs parts ns is.each)
        ∙ length-map jobs (λ (job : Job). job.want.part)

    pub all_octets : sum_by arrival_octets xs ≡ sum_by octets_in parts
    all_octets = came_sum (λ o. length (unwrap_or o []))

module _ (m : Inside) (a : MemberState) (view : member_state m ≡ a) (mid : HoldingsState) (n : ℕ)
    (room : mid ≡ record m.held { spare = n }) where
  pub takable_still : IsMember m → (xs : List Tried) → AreTakable (member_plan a) a.store xs
      → AreTakable (held_plan mid) mid.store xs
  takable_still is xs are =
      let here : AreTakable (member_plan (member_state m)) m.held.store xs =
      subst (λ (x : MemberState). AreTakable (member_plan x) x.store xs) (sym view) are in
      let there : AreTakable (held_plan m.held) m.held.store xs =
      subst (λ (p : PlanState). AreTakable p m.held.store xs) (sym (plan_is m is)) here in
      subst (λ (h : HoldingsState). AreTakable (held_plan h) h.store xs) (sym room) there

  pub stored_still : mid.store ≡ a.store
  stored_still = ap (λ (h : HoldingsState). h.store) room ∙ ap (λ (x : MemberState). x.store) view

  pub taken_is : (after : HoldingsState) (xs : List Fetched) → after ≡ after_outcome xs mid
      → record (member_state m) {
        store = after.store;
        hidden = after.hidden;
        claims = after.claims;
        attempts = after.attempts;
      }
      ≡ member_takes xs a
  taken_is after xs taken =
      ap (λ (h : HoldingsState). record (member_state m) {
        store = h.store;
        hidden = h.hidden;
        claims = h.claims;
        attempts = h.attempts;
      }) (taken ∙ ap (after_outcome xs) room)
      ∙ sym (members_take_all xs (member_state m)) ∙ ap (member_takes xs) view

-- ---- planned jobs can be taken, whatever their results

pub apart_in_order : (ts : List Part) → Rises part_cmp ts → PartsDiffer ts
apart_in_order [] rises = tt
apart_in_order (t ∷ ts) rises = (not_after exact_parts t ts rises.0, apart_in_order ts rises.1)

pub parts_of_jobs : (publishers : List (List Component)) (group : List Component) (h : HoldingsState) (ts : List Part)
    → map (λ (job : Job). job.want.part) (map (job_at publishers group h) ts) ≡ ts
parts_of_jobs publishers group h [] = refl
parts_of_jobs publishers group h (t ∷ ts) =
    λ i. want_at_part publishers group h.store t i ∷ parts_of_jobs publishers group h ts i

-- the next parts are in order, so they differ
next_rises : (h : HoldingsState) (after : Option Part) (most : ℕ)
    → Rises part_cmp (take most (filter (is_after after) (unclaimed (held_plan h))))
next_rises h after most =
    (rises_parts exact_parts most (filter (is_after after) (unclaimed (held_plan h)))
    (rises_filter exact_parts.total (is_after after) (unclaimed (held_plan h)) (unclaimed_rises (held_plan h)))).0

pub next_differ : (h : HoldingsState) (after : Option Part) (most : ℕ)
    → PartsDiffer (take most (filter (is_after after) (unclaimed (held_plan h))))
next_differ h after most =
    apart_in_order (take most (filter (is_after after) (unclaimed (held_plan h)))) (next_rises h after most)

module _ (g : GroupKeys) (h : HoldingsState) where
  planned_job : (t : Part) → HaveKeys g.members → length g.members.names ≡ length h.known
      → is_unclaimed (held_plan h) t ≡ true → IsJobOf g h (job_at g.members.names g.name h t)
  planned_job t have of free =
      let same : (want_at g.members.names g.name h.store t).part ≡ t = want_part g h.store t in
      let wanted : is_wanted (held_plan h) t ≡ true =
      (and_parts (is_wanted (held_plan h) t) (not (is_claimed (held_plan h) t)) free).0 in
      let inside : t.publisher < length h.known =
      asked_member (held_plan h) t (wanted_parts (held_plan h) t wanted).asked in
      let there : t.publisher < length g.members.ring =
      let long = ring_length g.members have in omega (arith, inside, of, long) in
      record {
        unclaimed = ap (is_unclaimed (held_plan h)) same ∙ free;
        publisher = subst (λ (u : Part). u.publisher < length g.members.ring) (sym same) there;
        wanted = ap (want_at g.members.names g.name h.store) (sym same);
        base = ap (attempts_of (held_plan h)) (sym same);
      }

pub rising_jobs_are_planned : RisingJobsArePlanned
rising_jobs_are_planned g h ts have of rises free = record {
  apart = subst PartsDiffer (sym (parts_of_jobs g.members.names g.name h ts)) (apart_in_order ts rises);
  each = All-map (IsJobOf g h) (job_at g.members.names g.name h) ts
      (All-weaker (λ t. is_unclaimed (held_plan h) t ≡ true)
      (λ t. IsJobOf g h (job_at g.members.names g.name h t)) (λ t is. planned_job g h t have of is) ts free);
}

pub holder_jobs_are_planned : HolderJobsArePlanned
holder_jobs_are_planned g h after most have of =
    rising_jobs_are_planned g h (take most (filter (is_after after) (unclaimed (held_plan h)))) have of
    (next_rises h after most)
    (All-take (λ t. is_unclaimed (held_plan h) t ≡ true) most (filter (is_after after) (unclaimed (held_plan h)))
    (All-filter (is_after after) (λ t. is_unclaimed (held_plan h) t ≡ true) (unclaimed (held_plan h))
    (filter_passes (is_unclaimed (held_plan h)) (known_parts (held_plan h)))))

all_fetched : (g : GroupKeys) (h : HoldingsState) (jobs : List Job) (parts : List (Option CheckedPart)) (ns : List ℕ)
    → All (IsJobOf g h) jobs → WereChecked g jobs parts ns → AreFetchedOf g h jobs parts ns
all_fetched g h [] [] [] each were = tt
all_fetched g h [] [] (n ∷ ns) each were = were
all_fetched g h [] (part ∷ parts) ns each were = were
all_fetched g h (job ∷ jobs) [] ns each were = were
all_fetched g h (job ∷ jobs) (part ∷ parts) [] each were = were
all_fetched g h (job ∷ jobs) (part ∷ parts) (n ∷ ns) each were =
    let one : IsJobOf g h job = All-head (IsJobOf g h) job jobs each in (
      record {
        unclaimed = one.unclaimed;
        wanted = one.wanted;
        checked = were.0;
        few = omega (arith, one.base, were.1);
      },
      all_fetched g h jobs parts ns (All-tail (IsJobOf g h) job jobs each) were.2,
    )

pub holder_jobs_are_outcomes : HolderJobsAreOutcomes
holder_jobs_are_outcomes g h jobs parts attempts planned were = record {
  apart = planned.apart;
  each = all_fetched g h jobs parts attempts planned.each were;
}

pub jobs_are_planned : JobsArePlanned
jobs_are_planned g a after most have of = holder_jobs_are_planned g (member_holdings a) after most have of

pub planned_jobs_are_outcomes : PlannedJobsAreOutcomes
planned_jobs_are_outcomes g a jobs parts attempts planned were =
    holder_jobs_are_outcomes g (member_holdings a) jobs parts attempts planned were
