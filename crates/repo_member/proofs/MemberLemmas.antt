-- A member's plan, as its value says it.
use Rattle.std.proofs.Common.{◌≡◌, ℕ, ◌+◌, ◌-◌, ◌≤◌, ◌<◌, Bool, true, false, cond, length, unwrap_or, arith, ◌==◌, []}
use Rattle.std.proofs.Common.{map}
use Rattle.std.proofs.Common.{Option, Some, None, refl, sym, ap, ◌∙◌, subst, List}
use Rattle.std.specs.Prelude.{slice_index, nat_le, Result, Ok, Err, IsOk, IfOk, OnOk, IsErr, ◌↔◌}
use Rattle.std.proofs.lemmas.Bool.{and_parts, and_from, leb-true, le-leb, eqb-false, false_from_ne_true}
use Rattle.repo_plan.specs.declared.part.Part.{Part}
use Rattle.repo_plan.specs.Parts.{Pair, pair_of}
use Rattle.repo_plan.specs.Plan.{may_be_asked_for, knows, claim_of}
use Rattle.repo_plan.specs.Sound.{CanBeHeld}
use Rattle.repo_plan.specs.declared.plan.claims.FetcherIdle.{FetcherIdle}
use Rattle.svs_vector.specs.Vectors.{join, covers}
use Rattle.svs_vector.proofs.JoinLemmas.{length-join, join-at}
use Rattle.svs_sync.specs.Suppression.{suppression}
use Rattle.svs_sync.specs.SyncStates.{SyncState, becomes_steady, after_hearing}
use Rattle.repo_plan.specs.Plan.{PlanState}
use Rattle.repo_member.specs.declared.member.Member.TheInside.{Inside}
use Rattle.repo_holdings.specs.Listed.{listing_at, listed_shape}
use Rattle.repo_holdings.specs.StoredParents.{digest_at, index_count, lists_at}
use Rattle.repo_holdings.specs.HoldingsState.{HoldingsState, held_plan, claims_too}
use Rattle.repo_holdings.specs.Wanting.{AreShortNames, want_after, want_at, job_at}
use Rattle.repo_member.specs.Outcomes.{job_for}
use Rattle.repo_object.specs.Limits.{node_name_limit}
use Rattle.std.specs.List.{slice_get}
use Rattle.std.proofs.lemmas.List.Elements.{All-weaker}
use Rattle.ndn_name.specs.Names.{Component, encoding}
use Rattle.ndn_sign.specs.Ring.{NamedKey}
use Rattle.std.specs.Option.{option_and_then}
use Rattle.repo_object.specs.Publication.{Listed}
use Rattle.repo_object.specs.Wants.{WantedPart, want_record, want_index, want_segment, listed_in}
use Rattle.repo_object.specs.Verdict.{ring_verdict}
use Rattle.repo_holdings.specs.Records.{Packet}
use Rattle.repo_member.specs.Groups.{GroupKeys, HaveKeys, IsGroup, IsPlainNodeName}
use Rattle.repo_member.specs.MemberState.{MemberState, IsOfGroup, member_plan, want_of}
use Rattle.repo_holdings.specs.Wanting.{nothing_listed}
use Rattle.repo_member.specs.Posts.{posts_of}
use Rattle.repo_member.specs.Members.{member_state, IsMember}
use Rattle.repo_holdings.proofs.AskedLemmas.{asked_member}
use Rattle.repo_member.proofs.GroupLemmas.{ring_length}

-- the plan of what is held is that of the member's value
pub plan_is : (m : Inside) → IsMember m → held_plan m.held ≡ member_plan (member_state m)
plan_is m is = λ i. record (member_plan (member_state m)) { known = is.known i }

-- a reading of a member's plan is that of the plan of its value
pub reading : {A : Type 0} (f : PlanState → A) (m : Inside) (a : MemberState) → IsMember m → member_state m ≡ a
    → f (held_plan m.held) ≡ f (member_plan a)
reading f m a is view = ap f (plan_is m is) ∙ ap (λ (x : MemberState). f (member_plan x)) view

-- ---- what is learnt

hears_members : (now : ℕ) (received known : List ℕ) (draw : ℕ) (k : SyncState) (heard : Option (List ℕ))
    → (after_hearing now received known draw k heard).members ≡ k.members
hears_members now received known draw k (Some vector) = refl
hears_members now received known draw k None = go (covers received known) where
  go : (b : Bool)
      → (cond b (becomes_steady now draw k)
      (record k { heard = Some received; deadline = now + suppression draw; draws = k.draws + 1 })).members
      ≡ k.members
  go true = refl
  go false = refl

pub still_wide : (now : ℕ) (received known : List ℕ) (draw : ℕ) (k new : SyncState)
    → new ≡ after_hearing now received known draw k k.heard → new.members ≡ k.members
still_wide now received known draw k new is =
    ap (λ (x : SyncState). x.members) is ∙ hears_members now received known draw k k.heard

-- numbers that grow are known still
pub knows_more : (old new : PlanState) (pair : Pair) → ((p : ℕ) → slice_index old.known p ≤ slice_index new.known p)
    → knows old pair ≡ true → knows new pair ≡ true
knows_more old new pair more h =
    let both = and_parts (nat_le 1 pair.1) (nat_le pair.1 (slice_index old.known pair.0)) h in
    let high = leb-true pair.1 (slice_index old.known pair.0) both.1 in
    let grown = more pair.0 in
    and_from (nat_le 1 pair.1) (nat_le pair.1 (slice_index new.known pair.0)) both.0
    (le-leb pair.1 (slice_index new.known pair.0) (omega (arith, high, grown)))

-- a member that takes a vector, which reports no more publications of it than it made
pub learns_is : (m : Inside) (received vector : List ℕ) (held : HoldingsState) (machine : SyncState) → IsMember m
    → length received ≡ length m.vector → slice_index received m.number ≤ length (posts_of m.log.items)
    → vector ≡ join m.vector received → held ≡ record m.held { known = join m.vector received }
    → machine.members ≡ m.machine.members
    → IsMember (record m { vector = vector; held = held; machine = machine })
learns_is m received vector held machine is width few joined learnt wide =
    let long = length-join m.vector received (sym width) in
    let at = join-at m.vector received in
    let own = is.member_state.own in
    let next : Inside =
    record m {
      vector = join m.vector received;
      held = record m.held { known = join m.vector received };
      machine =
          machine;
    } in
    let made : IsMember next = record {
      member_state = record {
        member = omega (arith, long, is.member_state.member);
        own = at m.number ∙ omega (arith, own, few);
        width = wide ∙ is.member_state.width ∙ sym long;
        in_order = is.member_state.in_order;
        hidden =
            λ pair h. knows_more (member_plan (member_state m)) (member_plan (member_state next)) pair
            (λ p. omega (arith, at p))
            (is.member_state.hidden pair h);
      };
      known = refl;
      log = is.log;
      waiting = is.waiting;
    } in
    rw (joined, learnt) made

-- the part of a want
pub want_at_part : (publishers : List (List Component)) (group : List Component) (packets : List Packet) (t : Part)
    → (want_at publishers group packets t).part ≡ t
want_at_part publishers group packets t = go (t.part == 0) (nat_le t.part (listed_shape l).index) where
  node : List Component
  node = unwrap_or (slice_get publishers t.publisher) []

  l : Listed
  l = unwrap_or (listing_at packets (pair_of t)) nothing_listed

  go : (b c : Bool)
      → (cond b (want_record t node group)
      (cond c (want_index t l node group) (want_segment t (listed_shape l) l.name (digest_at packets t l)))).part
      ≡ t
  go true c = refl
  go false true = refl
  go false false = refl

-- how many digests its packet must list
pub want_at_lists : (publishers : List (List Component)) (group : List Component) (packets : List Packet) (t : Part)
    → (want_at publishers group packets t).lists ≡ lists_at packets t
want_at_lists publishers group packets t = go (t.part == 0) refl (listing_at packets (pair_of t)) where
  node : List Component
  node = unwrap_or (slice_get publishers t.publisher) []

  -- what lies after a record lists none where nothing is listed
  past : (t.part == 0) ≡ false → nat_le t.part 0 ≡ false
  past p = false_from_ne_true (nat_le t.part 0) (λ h. omega (arith, leb-true t.part 0 h, eqb-false t.part 0 p))

  after : Listed → WantedPart
  after l = want_after node group packets t l

  go : (b : Bool) → (t.part == 0) ≡ b → (o : Option Listed)
      → (cond b (want_record t node group) (after (unwrap_or o nothing_listed))).lists
      ≡ option_and_then (index_count t.part) o
  go true p None = refl
  go true p (Some l) = sym (ap (λ (b : Bool). cond b None (counted l)) p) where
    counted : Listed → Option ℕ
    counted l = cond (nat_le t.part (listed_shape l).index) (Some (listed_in l.segments (t.part - 1))) None
  go false p None =
      ap (λ (b : Bool). (cond b (want_index t nothing_listed node group)
      (want_segment t (listed_shape nothing_listed) nothing_listed.name (digest_at packets t nothing_listed))).lists)
      (past p)
  go false p (Some l) =
      at (nat_le t.part (listed_shape l).index)
      ∙ sym (ap (λ (b : Bool). cond b None
      (cond (nat_le t.part (listed_shape l).index) (Some (listed_in l.segments (t.part - 1))) None)) p) where
        at : (c : Bool)
            → (cond c (want_index t l node group)
            (want_segment t (listed_shape l) l.name (digest_at packets t l))).lists
            ≡ cond c (Some (listed_in l.segments (t.part - 1))) None
        at true = refl
        at false = refl

pub want_lists : (g : GroupKeys) (packets : List Packet) (t : Part) → (want_of g packets t).lists ≡ lists_at packets t
want_lists g packets t = want_at_lists g.members.names g.name packets t

pub want_part : (g : GroupKeys) (packets : List Packet) (t : Part) → (want_of g packets t).part ≡ t
want_part g packets t = want_at_part g.members.names g.name packets t

-- ---- the names of a group, as they are lent

module _ (g : GroupKeys) (publishers : List (List Component)) (group : List Component)
    (names : publishers ≡ g.members.names) (name : group ≡ g.name) where
  pub short_names : IsGroup g → AreShortNames publishers group
  short_names is = rw (names, name) (record {
    publishers =
        All-weaker IsPlainNodeName (λ (n : List Component). length (encoding n) ≤ node_name_limit)
        (λ n plain. plain.short) g.members.names is.members.node_names;
    group = is.name.short;
  })

  module _ (m : Inside) (a : MemberState) (is : IsMember m) (view : member_state m ≡ a) where
    pub wide_as_known : IsOfGroup g a → length publishers ≡ length m.held.known
    wide_as_known of =
        ap (λ (n : List (List Component)). length n) names
        ∙ of
        ∙ sym (ap (λ (x : MemberState). length x.known) view)
        ∙ sym (ap (λ (known : List ℕ). length known) is.known)

    pub want_is : (t : Part) → want_at publishers group m.held.store t ≡ want_of g a.store t
    want_is t =
        ap (λ (n : List (List Component)). want_at n group m.held.store t) names
        ∙ ap (λ (n : List Component). want_at g.members.names n m.held.store t) name
        ∙ ap (λ (x : MemberState). want_of g x.store t) view

    -- octets that pass for what is expected of a part pass for the member's want of it
    pub passes_for : (t : Part) (want : WantedPart) (ring : List NamedKey) (octets : List ℕ)
        → want ≡ want_at publishers group m.held.store t → ring ≡ g.members.ring
        → IsOk (ring_verdict want ring octets) → IsOk (ring_verdict (want_of g a.store t) g.members.ring octets)
    passes_for t want ring octets same keys passed =
        subst (λ (w : WantedPart). IsOk (ring_verdict w g.members.ring octets)) (same ∙ want_is t)
        (subst (λ (r : List NamedKey). IsOk (ring_verdict want r octets)) keys passed)

    -- the jobs of the next parts
    pub jobs_are : (parts : PlanState → List Part)
        → map (job_at publishers group m.held) (parts (held_plan m.held)) ≡ map (job_for g a) (parts (member_plan a))
    jobs_are parts =
        ap (λ (n : List (List Component)). map (job_at n group m.held) (parts (held_plan m.held))) names
        ∙ ap (λ (n : List Component). map (job_at g.members.names n m.held) (parts (held_plan m.held))) name
        ∙ ap (λ (p : PlanState). map (job_at g.members.names g.name m.held) (parts p)) (plan_is m is)
        ∙ ap (λ (x : MemberState). map (job_for g x) (parts (member_plan x))) view

-- the key of a publisher that is asked for is in the ring
pub publisher_in_ring : (g : GroupKeys) (m : Inside) (a : MemberState) (t : Part) → IsMember m → member_state m ≡ a
    → IsOfGroup g a
    → HaveKeys g.members → may_be_asked_for (member_plan a) t ≡ true → t.publisher < length g.members.ring
publisher_in_ring g m a t is view of keys asked =
    let known = asked_member (member_plan a) t asked in
    let ring = ring_length g.members keys in
    omega (arith, known, of, ring)

-- ---- a claim that ends

pub ended_claim : (result : Result Part FetcherIdle) (old new : HoldingsState) (f : ℕ) (t : Part)
    → IfOk result (λ part. claim_of (held_plan old) f ≡ Some part) → IfOk result (CanBeHeld (held_plan new))
    → OnOk result (new ≡ claims_too f None old) → (IsErr result ↔ (claim_of (held_plan old) f ≡ None))
    → claim_of (held_plan old) f ≡ Some t
    → CanBeHeld (held_plan new) t × (new ≡ claims_too f None old)
ended_claim (Ok u) old new f t busy free is idle claim =
    let both : Some u ≡ Some t = sym busy ∙ claim in
    let same : u ≡ t = cc in
    (subst (CanBeHeld (held_plan new)) same free, is)
ended_claim (Err e) old new f t busy free is idle claim =
    let none = idle.0 refl in
    absurd (no_claim t (sym none ∙ claim)) where
      no_claim : (u : Part) → let n : Option Part = None in n ≡ Some u → ⊥
      no_claim u h = cc

-- what is given is said in other words
pub if_ok_same : {A E B : Type 0} (r : Result A E) (f : A → B) (x y : B) → x ≡ y → IfOk r (λ a. f a ≡ x)
    → IfOk r (λ a. f a ≡ y)
if_ok_same (Ok a) f x y same h = h ∙ same
if_ok_same (Err e) f x y same h = tt
