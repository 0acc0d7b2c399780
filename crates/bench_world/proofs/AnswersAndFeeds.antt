-- What octets that were received for a claim make of a world.
use Rattle.std.proofs.Common.{◌≡◌, ◌⊎◌, inl, inr, ℕ, ◌+◌, ◌-◌, ◌<◌, List, [], map, length, get_or, set, Option, Some}
use Rattle.std.proofs.Common.{None, option_map, refl, sym, ap, ◌∙◌, subst, arith}
use Rattle.std.specs.Prelude.{is_some, unwrap_or, Result, Ok, Err}
use Rattle.std.proofs.lemmas.List.{map-set, set-get_or}
use Rattle.ndn_data.specs.Data.{Data}
use Rattle.repo_plan.specs.declared.part.Part.{Part}
use Rattle.repo_object.specs.declared.part_refusal.PartRefusal.{PartRefusal}
use Rattle.repo_object.specs.Verdict.{ring_verdict}
use Rattle.group_model.specs.Publications.{Logs}
use Rattle.group_model.specs.Member.{Member}
use Rattle.group_model.specs.Changes as group
use Rattle.group_model.specs.Events.{Response, Event}
use Rattle.group_model.specs.Events.Response.{Nothing, Its, Another}
use Rattle.group_model.specs.Limits.{IsInRange, HasSmallPackets, FitsIn64Bits}
use Rattle.group_model.specs.Refusals.{Refusal, refusal, if_idle_or_foreign}
use Rattle.group_model.specs.World.{Tally, no_member, member}
use Rattle.group_model.specs.Steps.{claim_at, response_from, response_read, passes_checks, tried_once, after_response}
use Rattle.group_model.specs.Steps.{after_event}
use Rattle.repo_member.specs.Groups.{GroupKeys}
use Rattle.repo_member.specs.MemberState.{MemberState, member_accepts}
use Rattle.repo_member.specs.InGroup.{in_group, published_packet}
use Rattle.repo_member.specs.ConsistentMembers.{IsConsistentMember, published_want}
use Rattle.repo_member.proofs.PublicLaws.{accepts_alike, accepts_consistent, consistent_stores}
use Rattle.bench_world.specs.declared.event.EventError.{EventError}
use Rattle.bench_world.specs.declared.event.EventError.TheVariants as fault
use Rattle.bench_world.specs.declared.answering.Fed.{Fed}
use Rattle.bench_world.specs.Sizes.{size_of}
use Rattle.bench_world.specs.Serving.{lossless, octets_response}
use Rattle.bench_world.specs.Answering.{claim_in, holder_response, outside_response, answered, after_claimed, fed_by}
use Rattle.bench_world.specs.Answering.{fed_as}
use Rattle.bench_world.specs.Replying.{fed_reply, parts_kept}
use Rattle.bench_world.specs.EventValues.{fed_report, feed_report}
use Rattle.bench_world.specs.Steps.{IsFaultOf}
use Rattle.bench_world.specs.Worlds.{GroupState, IsConsistentState, state_at, in_groups, logs_around, world_of, sync_in}
use Rattle.bench_world.proofs.ClaimedPackets.{claim_published, packet_is}
use Rattle.bench_world.proofs.PacketSizes.{size_short}
use Rattle.bench_world.proofs.States.{member_at, stepped_at, tally_fits}

-- ---- what is reported

module _ (g : GroupKeys) (logs : Logs) where
  pub taken_by : (o : Option Part) (k : Response) (kept : Option ℕ) → answered g logs o k ≡ Ok kept
      → if_idle_or_foreign o k ≡ None
  taken_by None k kept h = absurd cc
  taken_by (Some t) Nothing kept h = refl
  taken_by (Some t) Its kept h = refl
  taken_by (Some t) Another kept h = absurd cc

  pub passes_by : (o : Option Part) (k : Response) (kept : Option ℕ) → answered g logs o k ≡ Ok kept
      → passes_checks k ≡ is_some kept
  passes_by None k kept h = absurd cc
  passes_by (Some t) Nothing kept h = let same : kept ≡ None = cc in ap (λ (x : Option ℕ). is_some x) (sym same)
  passes_by (Some t) Its kept h =
      let same : kept ≡ Some (size_of g logs t) = cc in ap (λ (x : Option ℕ). is_some x) (sym same)
  passes_by (Some t) Another kept h = absurd cc

  pub fault_by : (o : Option Part) (k : Response) (x : EventError)
      → (x ≡ fault.NoMemory) ⊎ (answered g logs o k ≡ Err x)
      → IsFaultOf (if_idle_or_foreign o k) x
  fault_by o k x h = elim h [
    | inl memory ↦ subst (IsFaultOf (if_idle_or_foreign o k)) (sym memory) tt
    | inr received ↦ go o k x received
  ] where
    as_received : (r : Refusal) (y z : EventError) → y ≡ z → IsFaultOf (Some r) z → IsFaultOf (Some r) y
    as_received r y z e = subst (IsFaultOf (Some r)) (sym e)

    go : (o : Option Part) (k : Response) (x : EventError) → answered g logs o k ≡ Err x
        → IsFaultOf (if_idle_or_foreign o k) x
    go None k x h = let same : x ≡ fault.FetcherIdle = cc in as_received Refusal.FetcherIdle x fault.FetcherIdle same
        refl
    go (Some t) Nothing x h = absurd cc
    go (Some t) Its x h = absurd cc
    go (Some t) Another x h = let same : x ≡ fault.Foreign = cc in as_received Refusal.Foreign x fault.Foreign same refl

-- ---- the world

-- The counts after octets that are kept, or none.
abbrev pub with_kept : Option ℕ → Tally → Tally
with_kept kept t = record t { parts = t.parts + parts_kept kept; octets = t.octets + unwrap_or kept 0 }

module _ (s : GroupState) (is : IsConsistentState s) (m : ℕ) (there : m < length s.members) (f : ℕ) where
  small : HasSmallPackets (lossless s.keys) (world_of s)
  small t = size_short s.keys (logs_around s.members) is.are t

  pub claim_same : claim_at (world_of s) m f ≡ claim_in s.members m f
  claim_same = ap (λ (x : Member). get_or x.claims (f - 1) None) (member_at s.members m)

  module _ (came : Response) where
    abbrev got : MemberState
    got = after_claimed s.keys (logs_around s.members) f (claim_in s.members m f) came (state_at s.members m)

    its_packet : (t : Part) → claim_in s.members m f ≡ Some t
        → published_packet s.keys (logs_around s.members) t
        ≡ Some (unwrap_or (published_packet s.keys (logs_around s.members) t) [])
    its_packet t e =
        packet_is s.keys (logs_around s.members) t is.are
        (claim_published s.keys (logs_around s.members) (state_at s.members m) is.are (is.members m there) f t e)

    got_consistently : (o : Option Part) (k : Response) → claim_in s.members m f ≡ o
        → IsConsistentMember s.keys (logs_around s.members)
        (after_claimed s.keys (logs_around s.members) f o k (state_at s.members m))
    got_consistently None k e = is.members m there
    got_consistently (Some t) Nothing e = is.members m there
    got_consistently (Some t) Its e =
        accepts_consistent s.keys (logs_around s.members) f t
        (unwrap_or (published_packet s.keys (logs_around s.members) t) [])
        (state_at s.members m) is.are e (its_packet t e) (is.members m there)
    got_consistently (Some t) Another e = is.members m there

    got_number : (o : Option Part) (k : Response)
        → (after_claimed s.keys (logs_around s.members) f o k (state_at s.members m)).number
        ≡ (state_at s.members m).number
    got_number None k = refl
    got_number (Some t) Nothing = refl
    got_number (Some t) Its = refl
    got_number (Some t) Another = refl

    still : (b : MemberState) → in_group b ≡ in_group (state_at s.members m)
        → in_groups (set s.members m b) ≡ in_groups s.members
    still b e =
        map-set in_group s.members m b
        ∙ ap (set (in_groups s.members) m) (e ∙ sym (member_at s.members m))
        ∙ set-get_or (in_groups s.members) m no_member

    -- The world is the group's after the response.
    came_world : (kept : Option ℕ) (tally : Tally) → (o : Option Part) (k : Response)
        → answered s.keys (logs_around s.members) o k ≡ Ok kept
        → world_of (record s {
          members = set s.members m (after_claimed s.keys (logs_around s.members) f o k (state_at s.members m));
          tally = with_kept kept tally;
          steps = s.steps + 1;
        })
        ≡ after_response (lossless s.keys) (record (world_of s) { tally = tally }) m f o k
    came_world kept tally None k h = absurd cc
    came_world kept tally (Some t) Nothing h =
        let none : kept ≡ None = cc in
        let members : in_groups (set s.members m (state_at s.members m)) ≡ in_groups s.members =
        still (state_at s.members m) refl in
        let parts : tally.parts + 0 ≡ tally.parts = omega arith in
        let octets : tally.octets + 0 ≡ tally.octets = omega arith in
        (λ i. record {
          members = members i;
          sent = map sync_in s.sent;
          time = s.time;
          issued = s.issued;
          tally = with_kept (none i) tally;
        })
        ∙ (λ i. record {
          members = in_groups s.members;
          sent = map sync_in s.sent;
          time = s.time;
          issued = s.issued;
          tally = record tally { parts = parts i; octets = octets i };
        })
    came_world kept tally (Some t) Its h =
        let some : kept ≡ Some (size_of s.keys (logs_around s.members) t) = cc in
        let b : MemberState =
        member_accepts f t (unwrap_or (published_packet s.keys (logs_around s.members) t) []) (state_at s.members m) in
        let members : in_groups (set s.members m b)
        ≡ set (in_groups s.members) m (group.takes f t (member (world_of s) m)) =
        map-set in_group s.members m b
        ∙ ap (set (in_groups s.members) m)
        (accepts_alike f t (unwrap_or (published_packet s.keys (logs_around s.members) t) []) (state_at s.members m)
        (consistent_stores s.keys (logs_around s.members) (state_at s.members m) (is.members m there)).in_order
        ∙ ap (group.takes f t) (sym (member_at s.members m))) in
        (λ i. record {
          members = members i;
          sent = map sync_in s.sent;
          time = s.time;
          issued = s.issued;
          tally = with_kept (some i) tally;
        })
    came_world kept tally (Some t) Another h = absurd cc

    pub came_state : (kept : Option ℕ) (tally : Tally) (e : Event) → s.steps < 100000
        → world_of (record s { members = set s.members m got; tally = with_kept kept tally; steps = s.steps + 1 })
        ≡ after_event (lossless s.keys) (world_of s) e
        → IsInRange e
        → IsConsistentState (record s {
          members = set s.members m got;
          tally = with_kept kept tally;
          steps = s.steps
              + 1;
        })
    came_state kept tally e few world_is range =
        stepped_at s is few (lossless s.keys) small e range m there got
        (got_number (claim_in s.members m f) came ∙ is.numbers m there)
        (got_consistently (claim_in s.members m f) came refl)
        s.sent s.time (with_kept kept tally) is.sent world_is

  -- ---- what another member gives

  module _ (q : ℕ) where
    came_same : response_from (lossless s.keys) (world_of s) q (claim_at (world_of s) m f)
        ≡ holder_response s.keys (logs_around s.members) s.members q (claim_in s.members m f)
    came_same = ap (response_from (lossless s.keys) (world_of s) q) claim_same ∙ go (claim_in s.members m f) where
      go : (o : Option Part)
          → response_from (lossless s.keys) (world_of s) q o
          ≡ holder_response s.keys (logs_around s.members) s.members q o
      go None = refl
      go (Some t) = ap (λ (x : Member). (lossless s.keys).serves (logs_around s.members) x.held t)
          (member_at s.members q)

    pub answer_refusal : if_idle_or_foreign (claim_in s.members m f)
        (holder_response s.keys (logs_around s.members) s.members q (claim_in s.members m f))
        ≡ refusal (lossless s.keys) (world_of s) (Event.Answer m f q)
    answer_refusal = λ i. if_idle_or_foreign (sym claim_same i) (sym came_same i)

    answer_after : after_response (lossless s.keys) (tried_once (world_of s)) m f (claim_in s.members m f)
        (holder_response s.keys (logs_around s.members) s.members q (claim_in s.members m f))
        ≡ after_event (lossless s.keys) (world_of s) (Event.Answer m f q)
    answer_after = λ i. after_response (lossless s.keys) (tried_once (world_of s)) m f (sym claim_same i)
        (sym came_same i)

    module _ (kept : Option ℕ)
        (e : answered s.keys (logs_around s.members) (claim_in s.members m f)
        (holder_response s.keys (logs_around s.members) s.members q (claim_in s.members m f))
        ≡ Ok kept) where
      pub answer_taken : refusal (lossless s.keys) (world_of s) (Event.Answer m f q) ≡ None
      answer_taken =
          sym answer_refusal
          ∙ taken_by s.keys (logs_around s.members) (claim_in s.members m f)
          (holder_response s.keys (logs_around s.members) s.members q (claim_in s.members m f)) kept e

      pub answer_passes : is_some kept
          ≡ passes_checks (response_from (lossless s.keys) (world_of s) q (claim_at (world_of s) m f))
      answer_passes =
          sym (ap passes_checks came_same
          ∙ passes_by s.keys (logs_around s.members) (claim_in s.members m f)
          (holder_response s.keys (logs_around s.members) s.members q (claim_in s.members m f)) kept e)

      module _ (new : List MemberState)
          (same : new ≡ set s.members m
          (after_claimed s.keys (logs_around s.members) f (claim_in s.members m f)
          (holder_response s.keys (logs_around s.members) s.members q (claim_in s.members m f))
          (state_at s.members m))) where
        abbrev tried : Tally
        tried = record s.tally { attempts = s.tally.attempts + 1 }

        made : world_of (record s {
          members =
              set s.members m
              (after_claimed s.keys (logs_around s.members) f (claim_in s.members m f)
              (holder_response s.keys (logs_around s.members) s.members q (claim_in s.members m f))
              (state_at s.members m));
          tally = with_kept kept tried;
          steps = s.steps + 1;
        })
            ≡ after_event (lossless s.keys) (world_of s) (Event.Answer m f q)
        made =
            came_world (holder_response s.keys (logs_around s.members) s.members q (claim_in s.members m f)) kept tried
            (claim_in s.members m f)
            (holder_response s.keys (logs_around s.members) s.members q (claim_in s.members m f)) e
            ∙ answer_after

        pub answer_world : world_of (record s { members = new; tally = with_kept kept tried; steps = s.steps + 1 })
            ≡ after_event (lossless s.keys) (world_of s) (Event.Answer m f q)
        answer_world =
            ap (λ (ms : List MemberState).
            world_of (record s { members = ms; tally = with_kept kept tried; steps = s.steps + 1 })) same
            ∙ made

        pub answer_state : s.steps < 100000
            → IsConsistentState (record s { members = new; tally = with_kept kept tried; steps = s.steps + 1 })
        answer_state few =
            subst (λ (ms : List MemberState).
            IsConsistentState (record s { members = ms; tally = with_kept kept tried; steps = s.steps + 1 })) (sym same)
            (came_state (holder_response s.keys (logs_around s.members) s.members q (claim_in s.members m f)) kept tried
            (Event.Answer m f q) few made tt)

        -- 64 bits hold what is counted then.
        pub answer_fits : s.steps < 100000 → FitsIn64Bits (with_kept kept tried)
        answer_fits few =
            tally_fits (record s { members = new; tally = with_kept kept tried; steps = s.steps + 1 })
            (answer_state few)

  -- ---- octets from outside

  module _ (octets : List ℕ) where
    abbrev read : Logs → Part → Response
    read logs t = octets_response s.keys logs t octets

    fed_same : response_read (world_of s) read (claim_at (world_of s) m f)
        ≡ outside_response s.keys (logs_around s.members) octets (claim_in s.members m f)
    fed_same = ap (response_read (world_of s) read) claim_same ∙ go (claim_in s.members m f) where
      go : (o : Option Part)
          → response_read (world_of s) read o ≡ outside_response s.keys (logs_around s.members) octets o
      go None = refl
      go (Some t) = refl

    pub feed_refusal : if_idle_or_foreign (claim_in s.members m f)
        (outside_response s.keys (logs_around s.members) octets (claim_in s.members m f))
        ≡ refusal (lossless s.keys) (world_of s) (Event.Feed m f read)
    feed_refusal = λ i. if_idle_or_foreign (sym claim_same i) (sym fed_same i)

    feed_after : after_response (lossless s.keys) (world_of s) m f (claim_in s.members m f)
        (outside_response s.keys (logs_around s.members) octets (claim_in s.members m f))
        ≡ after_event (lossless s.keys) (world_of s) (Event.Feed m f read)
    feed_after = λ i. after_response (lossless s.keys) (world_of s) m f (sym claim_same i) (sym fed_same i)

    -- The verdict on the octets is reported as itself.
    pub feed_is : (fed : Fed)
        → option_map (fed_as s.keys (logs_around s.members) octets) (claim_in s.members m f) ≡ Some fed
        → fed_reply m f fed ≡ feed_report s.keys (world_of s) m f octets (claim_at (world_of s) m f)
    feed_is fed e = go (claim_in s.members m f) e ∙ ap (feed_report s.keys (world_of s) m f octets)
        (sym claim_same) where
          by : (r : Result Data PartRefusal) → fed_reply m f (fed_by r) ≡ fed_report m f r
          by (Ok d) = refl
          by (Err refusal) = refl

          go : (o : Option Part) → option_map (fed_as s.keys (logs_around s.members) octets) o ≡ Some fed
              → fed_reply m f fed ≡ feed_report s.keys (world_of s) m f octets o
          go None h = absurd cc
          go (Some t) h =
              let same : fed_as s.keys (logs_around s.members) octets t ≡ fed = cc in
              ap (fed_reply m f) (sym same)
              ∙ by (ring_verdict (published_want s.keys (logs_around s.members) t) s.keys.members.ring octets)

    module _ (kept : Option ℕ)
        (e : answered s.keys (logs_around s.members) (claim_in s.members m f)
        (outside_response s.keys (logs_around s.members) octets (claim_in s.members m f))
        ≡ Ok kept) where
      pub feed_taken : refusal (lossless s.keys) (world_of s) (Event.Feed m f read) ≡ None
      feed_taken =
          sym feed_refusal
          ∙ taken_by s.keys (logs_around s.members) (claim_in s.members m f)
          (outside_response s.keys (logs_around s.members) octets (claim_in s.members m f)) kept e

      module _ (new : List MemberState)
          (same : new ≡ set s.members m
          (after_claimed s.keys (logs_around s.members) f (claim_in s.members m f)
          (outside_response s.keys (logs_around s.members) octets (claim_in s.members m f))
          (state_at s.members m))) where
        fed : world_of (record s {
          members =
              set s.members m
              (after_claimed s.keys (logs_around s.members) f (claim_in s.members m f)
              (outside_response s.keys (logs_around s.members) octets (claim_in s.members m f)) (state_at s.members m));
          tally = with_kept kept s.tally;
          steps = s.steps + 1;
        })
            ≡ after_event (lossless s.keys) (world_of s) (Event.Feed m f read)
        fed =
            came_world (outside_response s.keys (logs_around s.members) octets (claim_in s.members m f)) kept s.tally
            (claim_in s.members m f) (outside_response s.keys (logs_around s.members) octets (claim_in s.members m f)) e
            ∙ feed_after

        pub feed_world : world_of (record s { members = new; tally = with_kept kept s.tally; steps = s.steps + 1 })
            ≡ after_event (lossless s.keys) (world_of s) (Event.Feed m f read)
        feed_world =
            ap (λ (ms : List MemberState).
            world_of (record s { members = ms; tally = with_kept kept s.tally; steps = s.steps + 1 })) same
            ∙ fed

        pub feed_state : s.steps < 100000
            → IsConsistentState (record s { members = new; tally = with_kept kept s.tally; steps = s.steps + 1 })
        feed_state few =
            subst (λ (ms : List MemberState).
            IsConsistentState (record s { members = ms; tally = with_kept kept s.tally; steps = s.steps + 1 }))
            (sym same)
            (came_state (outside_response s.keys (logs_around s.members) octets (claim_in s.members m f)) kept s.tally
            (Event.Feed m f read) few fed tt)

        pub feed_fits : s.steps < 100000 → FitsIn64Bits (with_kept kept s.tally)
        feed_fits few =
            tally_fits (record s { members = new; tally = with_kept kept s.tally; steps = s.steps + 1 })
            (feed_state few)
