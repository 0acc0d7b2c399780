-- What members of a consistent world hold and claim.
use Rattle.std.proofs.Common.{◌≡◌, ℕ, suc, zero, ◌-◌, ◌<◌, ◌≤◌, Bool, true, false, cond, List, [], ◌∷◌, length, get_or}
use Rattle.std.proofs.Common.{Option, Some, None}
use Rattle.std.proofs.Common.{refl, sym, ap, subst, ◌∙◌, arith, inl, inr, ◌==◌}
use Rattle.std.specs.Prelude.{is_some, map, not, slice_get, take, IsSomeAnd}
use Rattle.std.specs.List.{filter}
use Rattle.std.specs.Option.{option_map}
use Rattle.std.proofs.lemmas.Bool.{and_parts, cases_Bool, cases_lt}
use Rattle.std.proofs.lemmas.List.{length-map, get_or-map}
use Rattle.std.proofs.lemmas.Simd.{map-map}
use Rattle.std.proofs.lemmas.Option.{slice_get-get_or, slice_get_past}
use Rattle.sorted_lists.specs.SortedList.{Rises, contains, keys, value_of}
use Rattle.repo_plan.specs.declared.part.Part.{Part}
use Rattle.repo_plan.specs.Parts.{pair_of, part_cmp, last_part}
use Rattle.repo_plan.specs.Plan.{claim_of, holds, is_after, is_claimed, is_unclaimed, is_wanted, known_parts, unclaimed}
use Rattle.repo_plan.proofs.Scans.{after_none}
use Rattle.repo_object.specs.Wants.{WantedPart}
use Rattle.repo_object.specs.Objects.{IsPost, Post, shape_in}
use Rattle.repo_object.specs.Objects.Post.{Offers, Withdraws}
use Rattle.repo_object.proofs.IndexLemmas.{index_few}
use Rattle.group_model.specs.Publications.{post_at}
use Rattle.group_model.specs.Sound.{IsPublished}
use Rattle.group_model.proofs.Members.{known_published}
use Rattle.lab_capture.specs.Held.{AreHeld}
use Rattle.group_model.specs.Member.{Member, member_holds, plan_of}
use Rattle.group_model.specs.World.{logs, member, no_member, no_sync}
use Rattle.group_model.specs.Steps.{claim_at, planned_parts}
use Rattle.repo_member.specs.MemberState.{IsOfGroup, MemberState, member_holdings, member_plan, want_of}
use Rattle.repo_member.specs.Outcomes.{job_for}
use Rattle.repo_member.specs.InGroup.{in_group, published_packet}
use Rattle.repo_member.specs.ConsistentMembers.{IsConsistentMember, published_packets, published_want}
use Rattle.repo_member.proofs.PublicLaws.{consistent_is_of, consistent_stores, contains-value, plans_alike}
use Rattle.repo_member.proofs.PublicLaws.{stores_those}
use Rattle.repo_member.proofs.PublicLaws.{wants_are_consistent}
use Rattle.bench_world.specs.Showing.{sender_at}
use Rattle.group_model.specs.Events.{SyncInterest}
use Rattle.bench_world.specs.Worlds.{GroupState, IsConsistentState, in_groups, logs_around, no_packet, state_at}
use Rattle.bench_world.specs.Worlds.{sync_in}
use Rattle.bench_world.specs.Worlds.{world_of}
use Rattle.bench_world.proofs.ClaimedPackets.{post_within, want_claimed, want_consistent}
use Rattle.bench_world.proofs.PhaseOutcomes.{want_part}
use Rattle.lab_capture.specs.Capturings.{asked_by}
use Rattle.lab_capture.specs.Frames.{Asked, Claimed, asked_for, claim_with, packet_of}

member_in : (ms : List MemberState) (j : ℕ) → get_or (in_groups ms) j no_member ≡ in_group (state_at ms j)
member_in [] zero = refl
member_in [] (suc j) = refl
member_in (m ∷ ms) zero = refl
member_in (m ∷ ms) (suc j) = member_in ms j

-- two functions that agree on elements that pass a test give the same of the first of those elements
same_filtered : (test : Part → Bool) (f g : Part → Asked) → ((t : Part) → test t ≡ true → f t ≡ g t) → (n : ℕ)
    (ts : List Part) → map f (take n (filter test ts)) ≡ map g (take n (filter test ts))
same_filtered test f g same zero ts = refl
same_filtered test f g same (suc n) [] = refl
same_filtered test f g same (suc n) (t ∷ ts) =
    go (test t) refl (same_filtered test f g same n ts) (same_filtered test f g same (suc n) ts) where
      of : (Part → Asked) → ℕ → List Asked
      of h k = map h (take k (filter test ts))

      go : (b : Bool) → test t ≡ b → of f n ≡ of g n → of f (suc n) ≡ of g (suc n)
          → map f (take (suc n) (cond b (t ∷ filter test ts) (filter test ts)))
          ≡ map g (take (suc n) (cond b (t ∷ filter test ts) (filter test ts)))
      go true e fewer all = λ i. same t e i ∷ fewer i
      go false e fewer all = all

-- the parts of a publication are fewer than numbers of parts
pub few_parts : (post : Post) (seq x : ℕ) → IsPost seq post → x ≤ last_part (shape_in post) → x < 65535
few_parts (Offers object) seq x is counted =
    omega (arith, counted, is.few, index_few (length object.contents) is.few)
few_parts (Withdraws withdrawn) seq x is counted = omega (arith, counted)

module _ (s : GroupState) (is : IsConsistentState s) where
  pub few_members : length s.members ≤ 16
  few_members =
      let a : length (logs_around s.members) ≡ length s.members =
      length-map (in_groups s.members) (λ (m : Member). m.log) ∙ length-map s.members in_group in
      omega (arith, a, is.are.width, is.are.group.members.roster.few)

  -- the sender of a sync Interest is a member
  pub few_senders : (k m : ℕ) → sender_at (world_of s) k ≡ Some m → m < 16
  few_senders k m e = elim (cases_Bool (k == 0)) [
    | inl zero_ ↦ let h : None ≡ Some m = sym (rw zero_ refl) ∙ e in absurd cc
    | inr some ↦ elim (cases_lt (k - 1) (length s.sent)) [
      | inl inside ↦
          let p = get_or s.sent (k - 1) no_packet in
          let there : slice_get (map sync_in s.sent) (k - 1) ≡ Some (sync_in p) =
          slice_get-get_or (map sync_in s.sent) (k - 1) no_sync
          (subst (λ (n : ℕ). k - 1 < n) (sym (length-map s.sent sync_in)) inside)
          ∙ ap (λ (x : SyncInterest). Some x) (get_or-map sync_in s.sent (k - 1) no_packet no_sync inside) in
          let is_sender : sender_at (world_of s) k ≡ Some p.sender =
          rw some (ap (option_map (λ (x : SyncInterest). x.sender)) there) in
          let same : Some p.sender ≡ Some m = sym is_sender ∙ e in
          let sender : p.sender ≡ m = cc in
          omega (arith, sender, (is.sent (k - 1) no_packet inside).sender, is.are.group.members.roster.few)
      | inr past ↦
          let none : slice_get (map sync_in s.sent) (k - 1) ≡ None =
          slice_get_past (map sync_in s.sent) (k - 1) (omega (arith, past, length-map s.sent sync_in)) in
          let h : None ≡ Some m =
          sym (rw some (ap (option_map (λ (x : SyncInterest). x.sender)) none)) ∙ e in
          absurd cc
    ]
  ]

  module _ (m : ℕ) (there : m < length s.members) where
    abbrev a : MemberState
    a = state_at s.members m

    consistent : IsConsistentMember s.keys (logs_around s.members) a
    consistent = is.members m there

    member_is : member (world_of s) m ≡ in_group a
    member_is = member_in s.members m

    pub held_is : (member (world_of s) m).held ≡ keys a.store
    held_is = ap (λ (x : Member). x.held) member_is

    -- the packet of a part that the member holds is its publisher's
    pub held_packet : (t : Part) → value_of part_cmp a.store t ≡ packet_of s.keys (world_of s) m t
    held_packet t =
        go (value_of part_cmp a.store t) refl
        ∙ ap (λ (b : Bool). cond b (published_packet s.keys (logs_around s.members) t) None) (sym held) where
          held : member_holds (member (world_of s) m) t ≡ is_some (value_of part_cmp a.store t)
          held = ap (λ (ts : List Part). contains part_cmp ts t) held_is ∙ contains-value a.store t

          go : (x : Option (List ℕ)) → value_of part_cmp a.store t ≡ x
              → x ≡ cond (is_some x) (published_packet s.keys (logs_around s.members) t) None
          go None k = refl
          go (Some octets) k = sym (consistent.packets t octets k)

    -- it stores the packets of the parts that it holds
    pub store_is : a.store ≡ published_packets s.keys (logs (world_of s)) (member (world_of s) m).held
    store_is =
        stores_those s.keys (logs_around s.members) a consistent
        ∙ ap (published_packets s.keys (logs_around s.members)) (sym held_is)

    claim_is : (f : ℕ) → claim_at (world_of s) m f ≡ claim_of (member_plan a) f
    claim_is f = ap (λ (x : Member). get_or x.claims (f - 1) None) member_is

    -- the want of a claim is that of the published part
    pub claim_is_sent : (q f : ℕ) (want : WantedPart)
        → IsSomeAnd (claim_of (member_plan a) f) (λ part. want ≡ want_of s.keys a.store part)
        → Some (record { asker = m; asked = q; part = want.part; interest = want.interest })
        ≡ claim_with s.keys (world_of s) m q (claim_at (world_of s) m f)
    claim_is_sent q f want h =
        let claimed : claim_at (world_of s) m f ≡ Some want.part =
        claim_is f ∙ want_claimed s.keys a f want h in
        let same = want_consistent s.keys (logs_around s.members) a is.are consistent f want h in
        let by_interest : List ℕ → Option Claimed = λ i.
        Some (record { asker = m; asked = q; part = want.part; interest = i }) in
        ap by_interest (ap (λ (w : WantedPart). w.interest) same)
        ∙ ap (claim_with s.keys (world_of s) m q) (sym claimed)

    -- it is one of its group
    pub is_of_group : IsOfGroup s.keys a
    is_of_group = consistent_is_of s.keys (logs_around s.members) a is.are consistent

    -- the jobs that it plans ask for the planned parts by their wants
    asks_alike : (t : Part) → is_unclaimed (member_plan a) t ≡ true
        → asked_by (job_for s.keys a t) ≡ asked_for s.keys (world_of s) t
    asks_alike t unclaimed_ =
        let wanted : is_wanted (member_plan a) t ≡ true =
        (and_parts (is_wanted (member_plan a) t) (not (is_claimed (member_plan a) t)) unclaimed_).0 in
        let same : want_of s.keys a.store t ≡ published_want s.keys (logs_around s.members) t =
        wants_are_consistent s.keys (logs_around s.members) a t is.are consistent wanted in
        let by_part : Part → Asked = λ u.
        record { part = u; interest = (want_of s.keys a.store t).interest } in
        let by_interest : WantedPart → Asked = λ w. record { part = t; interest = w.interest } in
        ap by_part (want_part s.keys (member_holdings a) t) ∙ ap by_interest same

    pub jobs_ask
        : map asked_by (map (job_for s.keys a) (take 4096 (filter (is_after None) (unclaimed (member_plan a)))))
        ≡ map (asked_for s.keys (world_of s)) (planned_parts (world_of s) m)
    jobs_ask =
        let p = member_plan a in
        let parts_are : unclaimed p ≡ unclaimed (plan_of (logs (world_of s)) (member (world_of s) m)) =
        ap unclaimed (plans_alike s.keys (logs_around s.members) a is.are
        (consistent_stores s.keys (logs_around s.members) a consistent))
        ∙ ap (λ (x : Member). unclaimed (plan_of (logs_around s.members) x)) (sym member_is) in
        ap (λ (ts : List Part). map asked_by (map (job_for s.keys a) (take 4096 ts))) (after_none (unclaimed p))
        ∙ map-map asked_by (job_for s.keys a) (take 4096 (unclaimed p))
        ∙ same_filtered (is_unclaimed p) (λ t. asked_by (job_for s.keys a t)) (asked_for s.keys (world_of s)) asks_alike
        4096 (known_parts p)
        ∙ ap (λ (ts : List Part). map (asked_for s.keys (world_of s)) (take 4096 ts)) parts_are

    -- what it stores are the parts that it holds, in order
    pub stored_are_held : AreHeld (λ t. holds (member_plan a) t) (keys a.store)
    stored_are_held = record { in_order = in_order; same = λ t. refl; small = small } where
      in_order : Rises part_cmp (keys a.store)
      in_order = (consistent_stores s.keys (logs_around s.members) a consistent).in_order

      small : (t : Part) → contains part_cmp (keys a.store) t ≡ true → t.part < 65535
      small t held =
          let sound = consistent.sound in
          let at = sound.held t held in
          let pair = pair_of t in
          let there : IsPublished (logs_around s.members) pair =
          known_published (logs_around s.members) a.known pair sound.known at.known in
          few_parts (post_at (logs_around s.members) pair) pair.1 t.part
          (post_within s.keys (logs_around s.members) is.are pair there) at.counted

    pub held_in_order : AreHeld (λ t. holds (member_plan a) t) (member (world_of s) m).held
    held_in_order = subst (AreHeld (λ t. holds (member_plan a) t)) (sym held_is) stored_are_held
