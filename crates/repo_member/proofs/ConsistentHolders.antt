-- What a group's publications say of a consistent holder of parts.
use Rattle.std.proofs.Common.{◌≡◌, inl, inr, ℕ, ◌≤◌, Bool, true, false, cond, ◌==◌, List, [], ◌∷◌}
use Rattle.std.proofs.Common.{length, get_or, Option, Some, None, refl, sym, ap, ◌∙◌, subst, arith}
use Rattle.std.specs.Prelude.{nat_le, is_some, unwrap_or, IsOk}
use Rattle.std.specs.Option.{option_and_then}
use Rattle.std.proofs.lemmas.Bool.{true≢false, eq-eqb, eqb-false, leb-false}
use Rattle.std.proofs.lemmas.Option.{slice_get-get_or}
use Rattle.sha2.specs.Sha256.{sha256}
use Rattle.repo_plan.specs.declared.part.Part.{Part}
use Rattle.sorted_lists.specs.SortedList.{keys, value_of}
use Rattle.repo_plan.specs.Parts.{part_cmp, pair_of, record_of, parent, last_part, index_packets}
use Rattle.repo_plan.specs.Parts.{shape_of_segments}
use Rattle.repo_plan.specs.Plan.{PlanState, is_wanted}
use Rattle.repo_plan.proofs.Orders.{exact_parts}
use Rattle.sorted_lists.proofs.Sets.{In}
use Rattle.repo_object.specs.Objects.{NamedContents, Post, shape_in}
use Rattle.repo_object.specs.Objects.Post.{Offers, Withdraws}
use Rattle.repo_object.specs.Publication.{Listed, packets, packet_at, published_listing, published_record}
use Rattle.repo_object.specs.Wants.{want_record, want_index, want_segment}
use Rattle.repo_object.specs.Verdict.{ring_verdict}
use Rattle.repo_object.proofs.Publications.{packets-length}
use Rattle.group_model.specs.Publications.{Logs, post_at}
use Rattle.group_model.specs.Member.{member_holds}
use Rattle.group_model.specs.Sound.{IsPublished, IsPublishedPart}
use Rattle.group_model.proofs.Plans.{IsWanted, IsListedIn, wanted_parts}
use Rattle.group_model.proofs.Members.{known_published}
use Rattle.repo_member.specs.Groups.{GroupKeys, node_at, publisher_at}
use Rattle.repo_holdings.specs.Records.{Packet}
use Rattle.repo_holdings.specs.Listed.{object_stated, listing_in, listing_at}
use Rattle.repo_holdings.specs.StoredParents.{digest_at}
use Rattle.repo_member.specs.MemberState.{MemberState}
use Rattle.repo_holdings.specs.Wanting.{nothing_listed, want_at, want_after}
use Rattle.repo_member.specs.InGroup.{in_group, AreLogs, StoresConsistently, published_packet}
use Rattle.repo_member.specs.ConsistentMembers.{published_want, published_packets}
use Rattle.repo_holdings.proofs.GainingLemmas.{contains-value}
use Rattle.repo_member.proofs.GroupPlans.{plans_alike}
use Rattle.repo_member.proofs.SegmentDigests.{digest_found}
use Rattle.repo_member.proofs.FoundLemmas.{value_in}
use Rattle.repo_member.proofs.ConsistentPackets.{record_says, published_post, published_by, published_low}
use Rattle.repo_holdings.specs.HoldingsState.{HoldingsState, held_plan}
use Rattle.repo_member.specs.ConsistentHolders.{IsConsistentHolder, member_with, MembersAreHolders}
use Rattle.repo_member.specs.ConsistentHolders.{HoldersStoreConsistently}
use Rattle.repo_member.specs.ConsistentHolders.{HoldersStoreThose, HoldersWantPublished, HoldersWantConsistently}
use Rattle.repo_member.specs.ConsistentHolders.{PacketsPassForHolders}
use Rattle.repo_member.proofs.PassingPackets.{want_of_post, packet_passes}

-- ---- which holders are consistent

pub member_is_holder : MembersAreHolders
member_is_holder g logs a t = record {
  vector = record { width = t.sound.width; no_more = t.sound.known };
  in_order = t.sound.in_order.held;
  held = t.sound.held;
  hidden = λ pair is. let s = t.sound.hidden pair is in record { known = s.known; none_held = s.none_held };
  packets = t.packets;
}

pub holder_stores_consistently : HoldersStoreConsistently
holder_stores_consistently g logs h t = record {
  in_order = t.in_order;
  published = λ u is. known_published logs h.known (pair_of u) t.vector.no_more (t.held u is).known;
  packets = t.packets;
}

-- each entry of a list has its packet
all_entries : (g : GroupKeys) (logs : Logs) (es : List Packet)
    → ((e : Packet) → In e es → published_packet g logs e.0 ≡ Some e.1) → es ≡ published_packets g logs (keys es)
all_entries g logs [] each = refl
all_entries g logs (e ∷ es) each =
    let one : e.1 ≡ unwrap_or (published_packet g logs e.0) [] =
    sym (ap (λ (o : Option (List ℕ)). unwrap_or o []) (each e (inl refl))) in
    let rest : es ≡ published_packets g logs (keys es) = all_entries g logs es (λ x i. each x (inr i)) in
    λ i. (e.0, one i) ∷ rest i

pub holder_stores_those : HoldersStoreThose
holder_stores_those g logs h t =
    all_entries g logs h.store (λ e i. t.packets e.0 e.1 (value_in exact_parts h.store e t.in_order i))

-- ---- what is wanted

module _ (g : GroupKeys) (logs : Logs) (h : HoldingsState) (are : AreLogs g logs)
    (consistent : IsConsistentHolder g logs h) where
  abbrev a : MemberState
  a = member_with h

  stores : StoresConsistently g logs a
  stores = holder_stores_consistently g logs h consistent

  pub wanted_in_group : (t : Part) → is_wanted (held_plan h) t ≡ true → IsWanted logs (in_group a) t
  wanted_in_group t w =
      wanted_parts logs (in_group a) t
      (subst (λ (p : PlanState). is_wanted p t ≡ true) (plans_alike g logs a are stores) w)

  pub wanted_published : (t : Part) → is_wanted (held_plan h) t ≡ true → IsPublishedPart logs t
  wanted_published t w =
      let is = wanted_in_group t w in
      record {
        there = known_published logs h.known (pair_of t) consistent.vector.no_more is.known;
        counted = is.counted;
      }

  -- what the stored record of a wanted part lists
  listed : (t : Part) → is_wanted (held_plan h) t ≡ true → member_holds (in_group a) (record_of t) ≡ true
      → (object : NamedContents) → post_at logs (pair_of t) ≡ Offers object
      → listing_at h.store (pair_of t) ≡ Some (published_listing (publisher_at g t.publisher) t.seq object)
  listed t w there_is object is =
      go (value_of part_cmp h.store (record_of t)) refl (sym (contains-value h.store (record_of t)) ∙ there_is) where
        there : IsPublished logs (pair_of t)
        there = (wanted_published t w).there

        go : (o : Option (List ℕ)) → value_of part_cmp h.store (record_of t) ≡ o → is_some o ≡ true
            → listing_at h.store (pair_of t) ≡ Some (published_listing (publisher_at g t.publisher) t.seq object)
        go None p s = absurd (true≢false (sym s))
        go (Some r) p s =
            ap (option_and_then listing_in) p
            ∙ ap (option_and_then object_stated)
            (record_says (publisher_at g t.publisher) t.seq (post_at logs (pair_of t))
            (published_by g logs are (pair_of t) there) (published_post g logs are (pair_of t) there)
            (published_low g logs are (pair_of t) there) r (consistent.packets (record_of t) r p))
            ∙ ap (λ (post : Post). object_stated (published_record (publisher_at g t.publisher) t.seq post)) is

  -- the want of a part after the record of an object
  wanted_after : (t : Part) → is_wanted (held_plan h) t ≡ true → IsListedIn logs (in_group a) t
      → (t.part == 0) ≡ false → (object : NamedContents) → post_at logs (pair_of t) ≡ Offers object
      → (octets : List ℕ) → published_packet g logs t ≡ Some octets
      → want_after (node_at g t.publisher) g.name h.store t (unwrap_or (listing_at h.store (pair_of t)) nothing_listed)
      ≡ want_of_post g t (Offers object) (Some octets)
  wanted_after t w held p object is octets its =
      ap (λ (o : Option Listed). want_after (node_at g t.publisher) g.name h.store t (unwrap_or o nothing_listed))
      (listed t w held.with_record object is)
      ∙ go (nat_le t.part (index_packets (length object.contents))) refl where
        l : Listed
        l = published_listing (publisher_at g t.publisher) t.seq object

        its_packet : packet_at (publisher_at g t.publisher) t.seq (Offers object) t.part ≡ Some octets
        its_packet =
            ap (λ (post : Post). packet_at (publisher_at g t.publisher) t.seq post t.part) (sym is) ∙ its

        go : (b : Bool) → nat_le t.part (index_packets (length object.contents)) ≡ b
            → cond b
            (want_index t (published_listing (publisher_at g t.publisher) t.seq object) (node_at g t.publisher) g.name)
            (want_segment t (shape_of_segments (length object.contents)) object.name
            (digest_at h.store t (published_listing (publisher_at g t.publisher) t.seq object)))
            ≡ cond b
            (want_index t (published_listing (publisher_at g t.publisher) t.seq object) (node_at g t.publisher) g.name)
            (want_segment t (shape_of_segments (length object.contents)) object.name (sha256 octets))
        go true q = refl
        go false q =
            let published = wanted_published t w in
            ap (λ (o : Option (List ℕ)). want_segment t (shape_of_segments (length object.contents)) object.name
            (unwrap_or o []))
            (digest_found g logs a are stores t published.there object is
            (omega (arith, leb-false t.part (index_packets (length object.contents)) q))
            (subst (λ (post : Post). t.part ≤ last_part (shape_in post)) is published.counted)
            (subst (λ (post : Post). member_holds (in_group a) (parent (shape_in post) t) ≡ true) is held.with_parent)
            octets its_packet)

  wanted_so : (t : Part) → is_wanted (held_plan h) t ≡ true
      → want_at g.members.names g.name h.store t ≡ published_want g logs t
  wanted_so t w = go (t.part == 0) refl where
    published : IsPublishedPart logs t
    published = wanted_published t w

    octets : List ℕ
    octets = get_or (packets (publisher_at g t.publisher) t.seq (post_at logs (pair_of t))) t.part []

    its : published_packet g logs t ≡ Some octets
    its =
        let many = packets-length (publisher_at g t.publisher) t.seq (post_at logs (pair_of t)) in
        slice_get-get_or (packets (publisher_at g t.publisher) t.seq (post_at logs (pair_of t))) t.part []
        (omega (arith, many, published.counted))

    -- a withdrawal has its record alone
    of_post : IsListedIn logs (in_group a) t → (t.part == 0) ≡ false → (post : Post) → post_at logs (pair_of t) ≡ post
        → want_after (node_at g t.publisher) g.name h.store t
        (unwrap_or (listing_at h.store (pair_of t)) nothing_listed)
        ≡ want_of_post g t (post_at logs (pair_of t)) (published_packet g logs t)
    of_post held p (Withdraws seq) is =
        let none : t.part ≤ last_part (shape_in (Withdraws seq)) =
        subst (λ (post : Post). t.part ≤ last_part (shape_in post)) is published.counted in
        absurd (omega (arith, none, eqb-false t.part 0 p))
    of_post held p (Offers object) is =
        wanted_after t w held p object is octets its
        ∙ sym (ap (want_of_post g t (Offers object)) its)
        ∙ sym (ap (λ (post : Post). want_of_post g t post (published_packet g logs t)) is)

    held : (t.part == 0) ≡ false → IsListedIn logs (in_group a) t
    held p = elim (wanted_in_group t w).with_record [
      | inl z ↦ absurd (true≢false (sym (eq-eqb t.part 0 z) ∙ p))
      | inr listed_in ↦ listed_in
    ]

    go : (b : Bool) → (t.part == 0) ≡ b
        → cond b (want_record t (node_at g t.publisher) g.name)
        (want_after (node_at g t.publisher) g.name h.store t
        (unwrap_or (listing_at h.store (pair_of t)) nothing_listed))
        ≡ cond b (want_record t (node_at g t.publisher) g.name)
        (want_of_post g t (post_at logs (pair_of t)) (published_packet g logs t))
    go true p = refl
    go false p = of_post (held p) p (post_at logs (pair_of t)) refl

  passes_for_it : (t : Part) (octets : List ℕ) → is_wanted (held_plan h) t ≡ true
      → published_packet g logs t ≡ Some octets
      → IsOk (ring_verdict (want_at g.members.names g.name h.store t) g.members.ring octets)
  passes_for_it t octets w its =
      subst (λ want. IsOk (ring_verdict want g.members.ring octets)) (sym (wanted_so t w))
      (packet_passes g logs t are (wanted_published t w) octets its)

pub holders_want_published : HoldersWantPublished
holders_want_published g logs h t are consistent w = wanted_published g logs h are consistent t w

pub holders_want_consistently : HoldersWantConsistently
holders_want_consistently g logs h t are consistent w = wanted_so g logs h are consistent t w

pub packets_pass_for_holders : PacketsPassForHolders
packets_pass_for_holders g logs h t octets are consistent w its = passes_for_it g logs h are consistent t octets w its
