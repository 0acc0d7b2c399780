-- Packets that are received for what fetchers claim.
use Rattle.std.proofs.Common.{◌≡◌, ◌≢◌, ◌⊎◌, inl, inr, ℕ, ◌-◌, ◌≤◌, ◌<◌, Bool, true, false, cond, ◌==◌, List, []}
use Rattle.std.proofs.Common.{length, get_or, Option, Some, None, refl, sym, ap, ◌∙◌, subst, arith}
use Rattle.std.specs.Prelude.{◌+◌, nat_le, unwrap_or, is_ok, IsOk, IsSomeAnd, IfSome, Result, Ok, Err}
use Rattle.std.specs.Str.{bytes_eq}
use Rattle.std.proofs.lemmas.Bool.{true≢false}
use Rattle.std.proofs.lemmas.Bool.{cases_lt}
use Rattle.std.proofs.lemmas.List.{length-map, get_or_past}
use Rattle.std.proofs.lemmas.Option.{slice_get-get_or}
use Rattle.std.proofs.lemmas.Slice.Eq.{bytes_eq-Decides}
use Rattle.sha2.specs.Sha256.{sha256}
use Rattle.ndn_name.specs.Names.{Component, encoding}
use Rattle.ndn_data.specs.Data.{Data}
use Rattle.ndn_sign.specs.Ring.{NamedKey}
use Rattle.repo_plan.specs.declared.part.Part.{Part}
use Rattle.sorted_lists.specs.SortedList.{value_of}
use Rattle.repo_plan.specs.Parts.{Pair, part_cmp, pair_of, part_of}
use Rattle.repo_plan.specs.Plan.{PlanState, claim_of, is_wanted}
use Rattle.repo_object.specs.declared.part_refusal.PartRefusal.{PartRefusal}
use Rattle.repo_object.specs.Wants.{WantedPart}
use Rattle.repo_object.specs.Verdict.{ring_verdict, CheckedPart, checked_part}
use Rattle.group_model.specs.Publications.{Logs, no_post, count, post_at, shape_at}
use Rattle.group_model.specs.Member.{member_holds, has_deleted}
use Rattle.group_model.specs.Sound.{IsPublished, IsPublishedPart}
use Rattle.group_model.specs.Wanted.{IsWantedPart}
use Rattle.group_model.specs.Events.{Response}
use Rattle.group_model.specs.Events.Response.{Nothing, Its, Another}
use Rattle.group_model.proofs.PublicLaws.{parts_are_those, tests_those}
use Rattle.repo_object.specs.Objects.{Post, IsPost, key_name}
use Rattle.repo_object.specs.Wants.{want_record, want_index, want_segment}
use Rattle.repo_member.specs.Groups.{GroupKeys, HaveKeys, node_at}
use Rattle.repo_member.specs.MemberState.{MemberState, member_holdings, member_plan, want_of, member_accepts}
use Rattle.repo_member.specs.InGroup.{in_group, AreLogs, published_packet}
use Rattle.repo_member.specs.ConsistentMembers.{IsConsistentMember, consistent_listing, published_want}
use Rattle.repo_member.proofs.PublicLaws.{consistent_stores, plans_alike, wants_published, wants_are_consistent}
use Rattle.repo_member.proofs.PublicLaws.{packets_are_there}
use Rattle.repo_member.proofs.PublicLaws.{packets_pass}
use Rattle.repo_object.specs.Verdict.{publisher_key}
use Rattle.repo_member.specs.Outcomes.{IsCheckedFor}
use Rattle.bench_world.specs.declared.event.EventError.{EventError}
use Rattle.bench_world.specs.declared.answering.Fed.{Fed}
use Rattle.bench_world.specs.declared.answering.Fed.TheVariants.{Kept}
use Rattle.bench_world.specs.Sizes.{size_of}
use Rattle.bench_world.specs.Serving.{octets_response}
use Rattle.bench_world.specs.Answering.{answered, fed_by, fed_as, accepts_claimed}
use Rattle.bench_world.proofs.PhaseOutcomes.{want_part}

-- There are as many keys as members.
ring_length : (g : GroupKeys) → HaveKeys g.members → length g.members.ring ≡ length g.members.names
ring_length g have =
    sym (length-map g.members.ring (λ (p : NamedKey). p.name)) ∙ ap (λ (names : List (List ℕ)). length names) have.keys
    ∙ length-map g.members.names (λ (n : List Component). encoding (key_name n))

-- The publisher of a publication is a member.
pub publisher_there : (logs : Logs) (pair : Pair) → IsPublished logs pair → pair.0 < length logs
publisher_there logs pair there = elim (cases_lt pair.0 (length logs)) [
  | inl inside ↦ inside
  | inr past ↦
      let none : length (get_or logs pair.0 []) ≡ 0 = ap length (get_or_past logs pair.0 [] past) in
      absurd (omega (arith, none, there.from_one, there.to_last))
]

-- What was published is within the limits.
pub post_within : (g : GroupKeys) (logs : Logs) → AreLogs g logs → (pair : Pair) → IsPublished logs pair
    → IsPost pair.1 (post_at logs pair)
post_within g logs are pair there =
    let log : List Post = get_or logs pair.0 [] in
    let number : pair.1 - 1 + 1 ≡ pair.1 = omega (arith, there.from_one) in
    let inside : pair.1 - 1 < length (get_or logs pair.0 []) = omega (arith, there.from_one, there.to_last) in
    subst (λ (n : ℕ). IsPost n (post_at logs pair)) number
    (are.posts pair.0 [] (publisher_there logs pair there) (pair.1 - 1) (post_at logs pair)
    (slice_get-get_or log (pair.1 - 1) no_post inside))

-- ---- the packet of a published part

module _ (g : GroupKeys) (logs : Logs) (t : Part) (are : AreLogs g logs) (is : IsPublishedPart logs t) where
  pub packet_is : published_packet g logs t ≡ Some (unwrap_or (published_packet g logs t) [])
  packet_is = go (published_packet g logs t) (packets_are_there g logs t are is) where
    go : (o : Option (List ℕ)) → IsSomeAnd o (λ octets. length octets ≤ 8800) → o ≡ Some (unwrap_or o [])
    go None h = absurd h
    go (Some x) h = refl

  pub not_none : published_packet g logs t ≡ None → ⊥
  not_none none = let h = packet_is in cc

  size_of_it : size_of g logs t ≡ length (unwrap_or (published_packet g logs t) [])
  size_of_it =
      ap (λ (b : Bool). cond b (length (unwrap_or (published_packet g logs t) [])) 0) ((parts_are_those logs t).1 is)

  module _ (octets : List ℕ) (same : bytes_eq octets (unwrap_or (published_packet g logs t) []) ≡ true) where
    pub octets_are : octets ≡ unwrap_or (published_packet g logs t) []
    octets_are = (bytes_eq-Decides octets (unwrap_or (published_packet g logs t) [])).0 same

    -- They pass, so they are given as the publisher's.
    pub its_octets : octets_response g logs t octets ≡ Its
    its_octets =
        let its : published_packet g logs t ≡ Some octets =
        packet_is ∙ ap (λ (o : List ℕ). let p : Option (List ℕ) = Some o in p) (sym octets_are) in
        ap (λ (b : Bool). cond b (cond (bytes_eq octets (unwrap_or (published_packet g logs t) [])) Its Another)
        Nothing)
        (passed (ring_verdict (published_want g logs t) g.members.ring octets)
        (packets_pass g logs t octets are is its))
        ∙ ap (λ (b : Bool). cond b Its Another) same where
          passed : (r : Result Data PartRefusal) → IsOk r → is_ok r ≡ true
          passed (Ok d) h = refl
          passed (Err refusal) h = absurd (true≢false (sym h))

    pub its_size : size_of g logs t ≡ length octets
    its_size = size_of_it ∙ ap length (sym octets_are)

-- ---- what a publisher stores and logs

module _ (g : GroupKeys) (logs : Logs) (a : MemberState) (consistent : IsConsistentMember g logs a) (t : Part) where
  pub stored_same : (octets packet : List ℕ) → Some packet ≡ value_of part_cmp a.store t
      → bytes_eq octets packet ≡ bytes_eq octets (unwrap_or (published_packet g logs t) [])
  stored_same octets packet e =
      ap (λ (o : Option (List ℕ)). bytes_eq octets (unwrap_or o [])) (sym (consistent.packets t packet (sym e)))

-- ---- what octets are

module _ (g : GroupKeys) (logs : Logs) (t : Part) (octets : List ℕ) where
  -- They don't pass.
  pub refused_nothing : (refusal : PartRefusal) → ring_verdict (published_want g logs t) g.members.ring octets
      ≡ Err refusal
      → octets_response g logs t octets ≡ Nothing
  refused_nothing refusal e =
      ap (λ (r : Result Data PartRefusal).
      cond (is_ok r) (cond (bytes_eq octets (unwrap_or (published_packet g logs t) [])) Its Another) Nothing) e

  pub refused_fed : (refusal : PartRefusal) → ring_verdict (published_want g logs t) g.members.ring octets ≡ Err refusal
      → Fed.Refused refusal ≡ fed_as g logs octets t
  refused_fed refusal e = sym (ap fed_by e)

  -- They pass.
  pub passed_fed : IsOk (ring_verdict (published_want g logs t) g.members.ring octets) → Kept ≡ fed_as g logs octets t
  passed_fed h = go (ring_verdict (published_want g logs t) g.members.ring octets) h where
    go : (r : Result Data PartRefusal) → IsOk r → Kept ≡ fed_by r
    go (Ok d) k = refl
    go (Err refusal) k = absurd (true≢false (sym k))

  pub passed_another : IsOk (ring_verdict (published_want g logs t) g.members.ring octets)
      → bytes_eq octets (unwrap_or (published_packet g logs t) []) ≡ false → octets_response g logs t octets ≡ Another
  passed_another h other =
      go (ring_verdict (published_want g logs t) g.members.ring octets) h
      ∙ ap (λ (b : Bool). cond b Its Another) other where
        go : (r : Result Data PartRefusal) → IsOk r
            → cond (is_ok r) (cond (bytes_eq octets (unwrap_or (published_packet g logs t) [])) Its Another) Nothing
            ≡ cond (bytes_eq octets (unwrap_or (published_packet g logs t) [])) Its Another
        go (Ok d) k = refl
        go (Err refusal) k = absurd (true≢false (sym k))

-- ---- what a fetcher claims

module _ (g : GroupKeys) (logs : Logs) (a : MemberState) (are : AreLogs g logs)
    (consistent : IsConsistentMember g logs a) (f : ℕ)
    (t : Part) (claim : claim_of (member_plan a) f ≡ Some t) where
  pub claim_wanted : is_wanted (member_plan a) t ≡ true
  claim_wanted =
      subst (λ (p : PlanState). is_wanted p t ≡ true)
      (sym (plans_alike g logs a are (consistent_stores g logs a consistent)))
      (consistent.sound.claimed (f - 1) t claim)

  pub claim_published : IsPublishedPart logs t
  claim_published = wants_published g logs a t are consistent claim_wanted

  pub claim_want : want_of g a.store t ≡ published_want g logs t
  claim_want = wants_are_consistent g logs a t are consistent claim_wanted

  -- Its publisher is another member.
  pub claim_of_another : t.publisher ≢ a.number
  claim_of_another own =
      let is : IsWantedPart logs (in_group a) t =
      (tests_those logs (in_group a) t (λ u h. (consistent.sound.held u h).with_record)).0
      (consistent.sound.claimed (f - 1) t claim) in
      let own_held : (has_deleted (in_group a) (t.publisher, t.seq) ≡ true)
      ⊎ ((x : ℕ) → x ≤ count logs (t.publisher, t.seq)
      → member_holds (in_group a) (part_of (t.publisher, t.seq) x) ≡ true) =
      subst (λ (p : ℕ). IsPublished logs (p, t.seq)
      → (has_deleted (in_group a) (p, t.seq) ≡ true)
      ⊎ ((x : ℕ) → x ≤ count logs (p, t.seq) → member_holds (in_group a) (part_of (p, t.seq) x) ≡ true)) (sym own)
      (consistent.sound.own_held t.seq) claim_published.there in
      elim own_held [
        | inl hidden ↦ true≢false (sym hidden ∙ is.not_hidden)
        | inr held ↦ true≢false (sym (held t.part claim_published.counted) ∙ is.not_held)
      ]

  -- Octets that are the packet of the part are accepted.
  pub accepts_its : (octets : List ℕ) → bytes_eq octets (unwrap_or (published_packet g logs t) []) ≡ true
      → member_accepts f t octets a ≡ accepts_claimed g logs f t (octets_response g logs t octets) a
  accepts_its octets same =
      ap (λ (o : List ℕ). member_accepts f t o a) (octets_are g logs t are claim_published octets same)
      ∙ ap (λ (c : Response). accepts_claimed g logs f t c a)
      (sym (its_octets g logs t are claim_published octets same))

  -- The ring has its publisher's key.
  pub key_there : t.publisher < length g.members.ring
  key_there =
      let there = claim_published.there in
      let long : length g.members.ring ≡ length g.members.names = ring_length g are.group.members in
      omega (arith, long, are.width, publisher_there logs (pair_of t) there)

-- The want of a claim is that of the claimed part.
pub want_claimed : (g : GroupKeys) (a : MemberState) (f : ℕ) (want : WantedPart)
    → IsSomeAnd (claim_of (member_plan a) f) (λ part. want ≡ want_of g a.store part)
    → claim_of (member_plan a) f ≡ Some want.part
want_claimed g a f want h = go (claim_of (member_plan a) f) h where
  go : (o : Option Part) → IsSomeAnd o (λ part. want ≡ want_of g a.store part) → o ≡ Some want.part
  go None k = absurd k
  go (Some t) k =
      let part : want.part ≡ t = ap (λ (w : WantedPart). w.part) k ∙ want_part g (member_holdings a) t in
      ap (λ (u : Part). let o : Option Part = Some u in o) (sym part)

-- The want of a claim is the group's.
pub want_consistent : (g : GroupKeys) (logs : Logs) (a : MemberState) → AreLogs g logs → IsConsistentMember g logs a
    → (f : ℕ) (want : WantedPart)
    → IsSomeAnd (claim_of (member_plan a) f) (λ part. want ≡ want_of g a.store part) → want
    ≡ published_want g logs want.part
want_consistent g logs a are consistent f want h = go (claim_of (member_plan a) f) refl h where
  go : (o : Option Part) → claim_of (member_plan a) f ≡ o → IsSomeAnd o (λ part. want ≡ want_of g a.store part)
      → want ≡ published_want g logs want.part
  go None e k = absurd k
  go (Some t) e k =
      let same : want ≡ published_want g logs t = k ∙ claim_want g logs a are consistent f t e in
      same ∙ ap (published_want g logs) (sym (ap (λ (w : WantedPart). w.part) same ∙ consistent_part t)) where
        consistent_part : (u : Part) → (published_want g logs u).part ≡ u
        consistent_part u = by_kind (u.part == 0) (nat_le u.part (shape_at logs (pair_of u)).index) where
          by_kind : (b c : Bool)
              → (cond b (want_record u (node_at g u.publisher) g.name)
              (cond c (want_index u (consistent_listing g logs (pair_of u)) (node_at g u.publisher) g.name)
              (want_segment u (shape_at logs (pair_of u)) (consistent_listing g logs (pair_of u)).name
              (sha256 (unwrap_or (published_packet g logs u) []))))).part
              ≡ u
          by_kind true c = refl
          by_kind false true = refl
          by_kind false false = refl

-- ---- what an accepted packet comes to

module _ (g : GroupKeys) (logs : Logs) (a : MemberState) (are : AreLogs g logs)
    (consistent : IsConsistentMember g logs a) (f : ℕ)
    (t : Part) (claim : claim_of (member_plan a) f ≡ Some t) where
  -- What passed for the published part passed for what the fetcher claims.
  pub checked_for_claim : (octets : List ℕ) (c : CheckedPart) (want : WantedPart) → want ≡ published_want g logs t
      → c ≡ checked_part want g.members.ring octets
      → IfSome (claim_of (member_plan a) f) (λ part. IsCheckedFor g (want_of g a.store part) c)
  checked_for_claim octets c want want_is c_is =
      subst (λ (o : Option Part). IfSome o (λ part. IsCheckedFor g (want_of g a.store part) c)) (sym claim)
      (subst (λ (x : CheckedPart). IsCheckedFor g (want_of g a.store t) x) (sym c_is)
      (record {
        same = same;
        key_name = ap (λ (w : WantedPart). (publisher_key g.members.ring w).name) same;
        key = ap (λ (w : WantedPart). (publisher_key g.members.ring w).key) same;
      })) where
        same : want ≡ want_of g a.store t
        same = want_is ∙ sym (claim_want g logs a are consistent f t claim)

  -- What is kept has the size of the part's packet.
  pub keeps_its : (octets : List ℕ) → bytes_eq octets (unwrap_or (published_packet g logs t) []) ≡ true
      → answered g logs (Some t) (octets_response g logs t octets) ≡ Ok (Some (length octets))
  keeps_its octets same =
      ap (answered g logs (Some t)) (its_octets g logs t are (claim_published g logs a are consistent f t claim) octets
      same)
      ∙ ap (λ (n : ℕ). let r : Result (Option ℕ) EventError = Ok (Some n) in r)
      (its_size g logs t are (claim_published g logs a are consistent f t claim) octets same)
