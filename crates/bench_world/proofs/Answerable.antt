-- A member that holds a part answers with its packet when it is asked for the part, where index packets and segments
-- are identified by their names and digests.
use Rattle.std.proofs.Common.{◌≡◌, ◌≢◌, ◌⊎◌, inl, inr, ℕ, ◌-◌, ◌^◌, ◌<◌, ◌==◌, Bool, true, false, cond, List, [], ◌∷◌}
use Rattle.std.proofs.Common.{◌++◌, length, get_or, Option, Some, None, option_map, refl, sym, ap, ◌∙◌, subst, arith}
use Rattle.std.specs.Prelude.{◌≤◌, nat_le, slice_get, unwrap_or, is_some, IfSome, Result, Ok}
use Rattle.std.proofs.lemmas.Bool.{true≢false, cases_eq, cases_lt, eq-eqb, eqb-true, leb-true, leb-false}
use Rattle.std.proofs.lemmas.List.{length-map}
use Rattle.std.proofs.lemmas.Map.Keys.{apart_from_distinct}
use Rattle.std.proofs.lemmas.Option.{unwrap_or-slice_get, same_Some}
use Rattle.std.proofs.lemmas.Slice.Eq.{bytes_eq-Decides}
use Rattle.sha2.specs.Sha256.{sha256}
use Rattle.sha2.proofs.Facts256.{length-sha256}
use Rattle.ndn_tlv.specs.Listing.{◌>>=◌}
use Rattle.ndn_tlv.specs.NumberField.{number_field}
use Rattle.ndn_name.specs.declared.fault.PacketFault.{PacketFault}
use Rattle.ndn_name.specs.Names.{Component, encoding, full_name}
use Rattle.ndn_interest.specs.Interest.{Interest, interest_of}
use Rattle.ndn_interest.specs.WrittenInterest.{read_plain}
use Rattle.ndn_interest.proofs.DigestLemmas.{IsOctets-sha256}
use Rattle.ndn_data.specs.Data.{Data, data_of, Satisfies}
use Rattle.svs_vector.specs.Rosters.{has_same_octets}
use Rattle.repo_plan.specs.declared.part.Part.{Part}
use Rattle.sorted_lists.specs.SortedList.{keys, value_of, contains}
use Rattle.repo_plan.specs.Parts.{Pair, part_cmp, pair_of, index_packets, last_part}
use Rattle.repo_plan.specs.Plan.{claim_of, is_wanted}
use Rattle.repo_object.specs.Objects.{Post, IsPost, offered, shape_in, Publisher, IsPublisher, record_name}
use Rattle.repo_object.specs.Objects.{segment_name}
use Rattle.repo_object.specs.Objects.Post.{Offers, Withdraws}
use Rattle.repo_object.specs.Publication.{published_listing, published_record, record_packet, packets_after, packet_at}
use Rattle.repo_object.specs.Wants.{WantedPart, asked_name, want_record, want_index, want_segment}
use Rattle.repo_object.proofs.Asking.{asked_for, record_interest, index_interest, segment_interest}
use Rattle.repo_object.proofs.IndexLemmas.{index_few}
use Rattle.repo_object.proofs.Publications.{record_read, record_again, stated_within_limits, index_part, segment_part}
use Rattle.repo_object.proofs.Publications.{index_is, segment_is, index_digest, after_is}
use Rattle.repo_object.proofs.Report.{last_same, records_differ, records_are_no_segments}
use Rattle.repo_store.specs.Served.{satisfies, first_served, served_entry, served, served_part}
use Rattle.repo_store.proofs.LawLemmas.{satisfies-Decides, served_least, served_of_part, has_value}
use Rattle.group_model.specs.Publications.{Logs, no_object, post_at, shape_at}
use Rattle.group_model.specs.Sound.{IsPublished, IsPublishedPart}
use Rattle.group_model.specs.Member.{Member, member_holds, has_deleted, plan_of}
use Rattle.group_model.specs.Events.{Response}
use Rattle.group_model.specs.Events.Response.{Its}
use Rattle.group_model.specs.World.{member}
use Rattle.group_model.specs.Steps.{claim_at, response_from, passes_checks}
use Rattle.group_model.specs.Refusals.{if_idle_or_foreign}
use Rattle.group_model.proofs.PublicLaws.{publisher_holds}
use Rattle.repo_member.specs.Groups.{GroupKeys, IsPlainNodeName, node_at, publisher_at}
use Rattle.repo_member.specs.Records.{Packet}
use Rattle.repo_member.specs.MemberState.{MemberState, member_plan}
use Rattle.repo_member.specs.InGroup.{in_group, AreLogs, published_packet}
use Rattle.repo_member.specs.ConsistentMembers.{IsConsistentMember, published_want}
use Rattle.repo_member.proofs.PublicLaws.{stores_those}
use Rattle.bench_world.specs.Worlds.{GroupState, IsConsistentState, state_at, in_groups, logs_around, world_of}
use Rattle.bench_world.specs.Serving.{packet_response, found, holder_packet_response, lossless}
use Rattle.bench_world.specs.EventValues.{answer_report}
use Rattle.bench_world.specs.Answerable.{AreAllCollisionFree, IsAnswerStored}
use Rattle.bench_world.proofs.States.{member_at, many_logs, sound_state}
use Rattle.bench_world.proofs.ClaimedPackets.{publisher_there, post_within, packet_is, its_octets, claim_published}

-- ---- names

-- A name whose last component is no digest.
pub record EndsPlainly (name : List Component) : Type 0 where
  pub prefix : List Component
  pub last : Component
  pub is : name ≡ prefix ++ last ∷ []
  pub plain : last.0 ≢ 1

-- A name whose last component is no digest is no full name.
no_full_name : (name other : List Component) (digest : List ℕ) → EndsPlainly name → name ≢ full_name other digest
no_full_name name other digest p e =
    p.plain (ap (λ (c : Component). c.0) (last_same p.prefix other p.last (1, digest) (sym p.is ∙ e)).1)

record_plain : (node group : List Component) (seq : ℕ) → EndsPlainly (record_name node group seq)
record_plain node group seq = record {
  prefix = node ++ group;
  last = (0x3a, number_field seq);
  is = joined node;
  plain = λ e. omega (arith, e);
} where
  joined : (xs : List Component)
      → xs ++ group ++ (0x3a, number_field seq) ∷ [] ≡ (xs ++ group) ++ (0x3a, number_field seq) ∷ []
  joined [] = refl
  joined (x ∷ xs) = ap (λ (ys : List Component). x ∷ ys) (joined xs)

segment_plain : (name : List Component) (i : ℕ) → EndsPlainly (segment_name name i)
segment_plain name i = record { prefix = name; last = (0x32, number_field i); is = refl; plain = λ e. omega (arith, e) }

-- ---- the want of a part of a publication

-- By whether it is the record, and whether it is an index packet.
abbrev want_by : GroupKeys → Post → Part → List ℕ → (is_record is_index : Bool) → WantedPart
want_by g post t octets is_record is_index =
    cond is_record (want_record t (node_at g t.publisher) g.name)
    (cond is_index (want_index t
    (published_listing (publisher_at g t.publisher) t.seq (unwrap_or (offered post) no_object))
    (node_at g t.publisher) g.name)
    (want_segment t (shape_in post) (unwrap_or (offered post) no_object).name (sha256 octets)))

-- What octets are as the packet of a part that is wanted so: what they are read as, and what asks for them.
pub record IsPartOf (octets : List ℕ) (want : WantedPart) : Type 0 where
  pub d : Data
  pub read : data_of octets ≡ Ok d
  pub name : d.name ≡ want.name
  pub digest : IfSome want.digest (λ digest. sha256 octets ≡ digest)
  pub plain : EndsPlainly want.name
  pub interest : interest_of want.interest ≡ Ok (read_plain (asked_name want.name want.digest) false)

-- The same of a part after a record, whose packet stands at its place of the publication.
pub record ComesAfter (publisher : Publisher) (post : Post) (t : Part) (octets : List ℕ) (want : WantedPart)
    : Type 0 where
  pub under : List Component
  pub number : ℕ
  pub d : Data
  pub read : data_of octets ≡ Ok d
  pub name : d.name ≡ want.name
  pub wanted : want.name ≡ segment_name under number
  pub digest : want.digest ≡ Some (sha256 octets)
  pub stands : slice_get (packets_after publisher t.seq post) (t.part - 1) ≡ Some octets
  pub interest : interest_of want.interest ≡ Ok (read_plain (asked_name want.name want.digest) false)

module _ (g : GroupKeys) (t : Part) (is_publisher : IsPublisher (publisher_at g t.publisher)) (low : t.seq < 2 ^ 16)
  where
    abbrev own : Publisher
    own = publisher_at g t.publisher

    record_is : (post : Post) (octets : List ℕ) → IsPost t.seq post → packet_at own t.seq post 0 ≡ Some octets
        → IsPartOf octets (want_record t (node_at g t.publisher) g.name)
    record_is post octets is_post its =
        let same : record_packet own t.seq (published_record own t.seq post) ≡ octets =
        same_Some (record_packet own t.seq (published_record own t.seq post)) octets its in
        record {
          d = record_read own is_publisher t.seq post;
          read = ap data_of (sym same) ∙ record_again own is_publisher t.seq post is_post low;
          name = refl;
          digest = tt;
          plain = record_plain (node_at g t.publisher) g.name t.seq;
          interest = record_interest t (node_at g t.publisher) g.name is_publisher.node is_publisher.group low;
        }

    after_record : (post : Post) (octets : List ℕ) → IsPost t.seq post → packet_at own t.seq post t.part ≡ Some octets
        → 0 < t.part → t.part ≤ last_part (shape_in post) → (is_index : Bool)
        → nat_le t.part (shape_in post).index ≡ is_index
        → ComesAfter own post t octets (want_by g post t octets false is_index)
    after_record (Withdraws seq) octets is_post its above counted is_index e =
        let none : last_part (shape_in (Withdraws seq)) ≡ 0 = refl in absurd (omega (arith, above, counted, none))
    after_record (Offers object) octets is_post its above counted true e =
        let below : t.part ≤ index_packets (length object.contents) =
        leb-true t.part (index_packets (length object.contents)) e in
        let few : index_packets (length object.contents) ≤ 100 = index_few (length object.contents) is_post.few in
        let s =
        index_is own is_publisher object is_post t.seq (t.part - 1) octets low
        (index_part own is_publisher object is_post t.seq t.part octets above below its) in
        let digest = index_digest own is_publisher object is_post t.seq t.part octets above below its in
        record {
          under = record_name (node_at g t.publisher) g.name t.seq;
          number = t.part - 1;
          d = _;
          read = s.read;
          name = refl;
          wanted = refl;
          digest = digest;
          stands = (after_is own is_publisher t.seq t.part (Offers object) octets is_post low above its).stands;
          interest =
              index_interest t (published_listing own t.seq object) (sha256 octets) (node_at g t.publisher) g.name
              is_publisher.node is_publisher.group low (omega (arith, below, few)) digest (length-sha256 _)
              (IsOctets-sha256 octets)
              ∙ ap (λ (o : Option (List ℕ)).
              let r : Result Interest PacketFault = Ok (read_plain (asked_name
              (segment_name (record_name (node_at g t.publisher) g.name t.seq) (t.part - 1)) o) false) in
              r) (sym digest);
        }
    after_record (Offers object) octets is_post its above counted false e =
        let past : index_packets (length object.contents) < t.part =
        leb-false t.part (index_packets (length object.contents)) e in
        let few : index_packets (length object.contents) ≤ 100 = index_few (length object.contents) is_post.few in
        let many : length object.contents ≤ 20000 = is_post.few in
        let s =
        segment_is own is_publisher object is_post (t.part - index_packets (length object.contents) - 1) octets
        (segment_part own is_publisher object is_post t.seq t.part octets past its) in
        record {
          under = object.name;
          number = t.part - index_packets (length object.contents) - 1;
          d = _;
          read = s.read;
          name = refl;
          wanted = refl;
          digest = refl;
          stands = (after_is own is_publisher t.seq t.part (Offers object) octets is_post low above its).stands;
          interest =
              segment_interest t (shape_in (Offers object)) (published_listing own t.seq object) (sha256 octets)
              (stated_within_limits own is_publisher t.seq (Offers object) is_post low)
              (omega (arith, counted, few, many)) (length-sha256 _) (IsOctets-sha256 octets);
        }

-- ---- a part that was published

module _ (g : GroupKeys) (logs : Logs) (are : AreLogs g logs) where
  module _ (pair : Pair) (there : IsPublished logs pair) where
    low_number : pair.1 < 2 ^ 16
    low_number = omega (arith, there.to_last, are.few pair.0 [] (publisher_there logs pair there))

    member_there : pair.0 < length g.members.names
    member_there = omega (arith, publisher_there logs pair there, are.width)

    node_plain : IsPlainNodeName (node_at g pair.0)
    node_plain =
        subst IsPlainNodeName (sym (unwrap_or-slice_get g.members.names pair.0 []))
        (are.group.members.node_names pair.0 [] member_there)

    publisher_within : IsPublisher (publisher_at g pair.0)
    publisher_within =
        record { node = (node_plain.valid, node_plain.short); group = (are.group.name.valid, are.group.name.short) }

  -- Members' names differ.
  same_publisher : (p q : ℕ) → p < length g.members.names → q < length g.members.names → node_at g p ≡ node_at g q
      → p ≡ q
  same_publisher p q lp lq e = elim (cases_eq p q) [
    | inl same ↦ same
    | inr apart ↦ absurd (elim (cases_lt p q) [
      | inl below ↦ differ p q below lq (at p ∙ e ∙ sym (at q))
      | inr above ↦ differ q p (omega (arith, above, apart)) lp (at q ∙ sym e ∙ sym (at p))
    ])
  ] where
    at : (k : ℕ) → get_or g.members.names k [] ≡ node_at g k
    at k = sym (unwrap_or-slice_get g.members.names k [])

    differ : (k j : ℕ) → k < j → j < length g.members.names → get_or g.members.names k [] ≡ get_or g.members.names j []
        → ⊥
    differ k j l inside h =
        let same : has_same_octets (get_or g.members.names k []) (get_or g.members.names j []) ≡ true =
        (bytes_eq-Decides (encoding (get_or g.members.names k [])) (encoding (get_or g.members.names j []))).1
        (ap encoding h) in
        true≢false (sym same
        ∙ apart_from_distinct has_same_octets g.members.names k j [] are.group.members.roster.different l inside)

  abbrev is_index : Part → Bool
  is_index t = nat_le t.part (shape_at logs (pair_of t)).index

  record_want : (t : Part) → (t.part == 0) ≡ true
      → published_want g logs t ≡ want_record t (node_at g t.publisher) g.name
  record_want t zero_ =
      ap (λ (b : Bool).
      want_by g (post_at logs (pair_of t)) t (unwrap_or (published_packet g logs t) []) b (is_index t)) zero_

  after_of : (t : Part) → IsPublishedPart logs t → (octets : List ℕ) → published_packet g logs t ≡ Some octets
      → (t.part == 0) ≡ false
      → ComesAfter (publisher_at g t.publisher) (post_at logs (pair_of t)) t octets (published_want g logs t)
  after_of t is octets its p =
      let above : 0 < t.part = elim (cases_eq t.part 0) [
        | inl z ↦ absurd (true≢false (sym (eq-eqb t.part 0 z) ∙ p))
        | inr n ↦ omega (arith, n)
      ] in
      let want_is : published_want g logs t ≡ want_by g (post_at logs (pair_of t)) t octets false (is_index t) =
      ap (λ (b : Bool).
      want_by g (post_at logs (pair_of t)) t (unwrap_or (published_packet g logs t) []) b (is_index t)) p
      ∙ ap (λ (o : Option (List ℕ)). want_by g (post_at logs (pair_of t)) t (unwrap_or o []) false (is_index t)) its in
      subst (ComesAfter (publisher_at g t.publisher) (post_at logs (pair_of t)) t octets) (sym want_is)
      (after_record g t (publisher_within (pair_of t) is.there) (low_number (pair_of t) is.there)
      (post_at logs (pair_of t)) octets (post_within g logs are (pair_of t) is.there) its above is.counted (is_index t)
      refl)

  part_is : (t : Part) → IsPublishedPart logs t → (octets : List ℕ) → published_packet g logs t ≡ Some octets
      → IsPartOf octets (published_want g logs t)
  part_is t is octets its = go (t.part == 0) refl where
    go : (b : Bool) → (t.part == 0) ≡ b → IsPartOf octets (published_want g logs t)
    go true p =
        let zero_ : t.part ≡ 0 = eqb-true t.part 0 p in
        subst (IsPartOf octets) (sym (record_want t p))
        (record_is g t (publisher_within (pair_of t) is.there) (low_number (pair_of t) is.there)
        (post_at logs (pair_of t)) octets (post_within g logs are (pair_of t) is.there)
        (ap (packet_at (publisher_at g t.publisher) t.seq (post_at logs (pair_of t))) (sym zero_) ∙ its))
    go false p =
        let b = after_of t is octets its p in
        let P : Option (List ℕ) → Type 0 = λ o. IfSome o (λ digest. sha256 octets ≡ digest) in
        record {
          d = b.d;
          read = b.read;
          name = b.name;
          digest = subst P (sym b.digest) refl;
          plain = subst EndsPlainly (sym b.wanted) (segment_plain b.under b.number);
          interest = b.interest;
        }

  -- ---- what asks for a packet asks for no other

  -- By name, and by digest where one is known.
  same_name : (name : List Component) (digest : Option (List ℕ)) (octets : List ℕ) (d : Data) → EndsPlainly name
      → EndsPlainly d.name → Satisfies (asked_name name digest) false (sha256 octets) d
      → (name ≡ d.name) × IfSome digest (λ x. sha256 octets ≡ x)
  same_name name None octets d plain other (inl e) = (e, tt)
  same_name name None octets d plain other (inr (inl e)) = absurd (no_full_name name d.name (sha256 octets) plain e)
  same_name name None octets d plain other (inr (inr both)) = absurd (true≢false (sym both.0))
  same_name name (Some digest) octets d plain other (inl e) = absurd (no_full_name d.name name digest other (sym e))
  same_name name (Some digest) octets d plain other (inr (inl e)) =
      let both = last_same name d.name (1, digest) (1, sha256 octets) e in
      (both.0, sym (ap (λ (c : Component). c.1) both.1))
  same_name name (Some digest) octets d plain other (inr (inr both)) = absurd (true≢false (sym both.0))

  module _ (clear : AreAllCollisionFree g logs) (t u : Part) (is_t : IsPublishedPart logs t)
      (is_u : IsPublishedPart logs u)
      (y x : List ℕ) (its_t : published_packet g logs t ≡ Some y) (its_u : published_packet g logs u ≡ Some x) where
    -- Packets of one name and one digest are one.
    same_octets : (published_want g logs t).name ≡ (published_want g logs u).name
        → IfSome (published_want g logs t).digest (λ digest. sha256 x ≡ digest) → x ≡ y
    same_octets named digested = go (t.part == 0) (u.part == 0) refl refl where
      record_named : (v : Part) → (v.part == 0) ≡ true
          → (published_want g logs v).name ≡ record_name (node_at g v.publisher) g.name v.seq
      record_named v p = ap (λ (w : WantedPart). w.name) (record_want v p)

      go : (b c : Bool) → (t.part == 0) ≡ b → (u.part == 0) ≡ c → x ≡ y
      go true true p q =
          let both =
          records_differ (node_at g t.publisher) (node_at g u.publisher) g.name t.seq u.seq
          (low_number (pair_of t) is_t.there) (low_number (pair_of u) is_u.there)
          (sym (record_named t p) ∙ named ∙ record_named u q) in
          let publisher : t.publisher ≡ u.publisher =
          same_publisher t.publisher u.publisher (member_there (pair_of t) is_t.there)
          (member_there (pair_of u) is_u.there) both.0 in
          let part : t.part ≡ u.part = eqb-true t.part 0 p ∙ sym (eqb-true u.part 0 q) in
          let same : t ≡ u = λ i. record { publisher = publisher i; seq = both.1 i; part = part i } in
          same_Some x y (sym its_u ∙ ap (published_packet g logs) (sym same) ∙ its_t)
      go true false p q =
          let bu = after_of u is_u x its_u q in
          absurd (records_are_no_segments (node_at g t.publisher) g.name bu.under t.seq bu.number
          (sym (record_named t p) ∙ named ∙ bu.wanted))
      go false true p q =
          let bt = after_of t is_t y its_t p in
          absurd (records_are_no_segments (node_at g u.publisher) g.name bt.under u.seq bt.number
          (sym (record_named u q) ∙ sym named ∙ bt.wanted))
      go false false p q =
          let bt = after_of t is_t y its_t p in
          let bu = after_of u is_u x its_u q in
          let digest : sha256 x ≡ sha256 y =
          subst (λ (o : Option (List ℕ)). IfSome o (λ digest. sha256 x ≡ digest)) bt.digest digested in
          sym (clear (pair_of t) (pair_of u) (t.part - 1) (u.part - 1) y x bt.d bu.d bt.stands bu.stands bt.read bu.read
          (bt.name ∙ named ∙ sym bu.name) (sym digest))

    pub asked_is : satisfies (asked_name (published_want g logs t).name (published_want g logs t).digest) false x ≡ true
        → x ≡ y
    asked_is sat =
        let pt = part_is t is_t y its_t in
        let pu = part_is u is_u x its_u in
        let both =
        same_name (published_want g logs t).name (published_want g logs t).digest x pu.d pt.plain
        (subst EndsPlainly (sym pu.name) pu.plain)
        ((satisfies-Decides (asked_name (published_want g logs t).name (published_want g logs t).digest) false x pu.d
        pu.read).0
        sat) in
        same_octets (both.0 ∙ pu.name) both.1

  own_asked : (t : Part) → IsPublishedPart logs t → (y : List ℕ) → published_packet g logs t ≡ Some y
      → satisfies (asked_name (published_want g logs t).name (published_want g logs t).digest) false y ≡ true
  own_asked t is y its =
      let pt = part_is t is y its in
      (satisfies-Decides (asked_name (published_want g logs t).name (published_want g logs t).digest) false y pt.d
      pt.read).1
      (asked_for (published_want g logs t).name (published_want g logs t).digest y pt.d (sym pt.name) pt.digest)

  -- ---- what a member that holds a part gives

  module _ (a : MemberState) (consistent : IsConsistentMember g logs a) where
    stored_there : (t : Part) (x : List ℕ) → value_of part_cmp a.store t ≡ Some x → IsPublishedPart logs t
    stored_there t x e =
        let held = consistent.sound.held t (sym (has_value a.store t) ∙ ap is_some e) in
        record {
          there = record {
            from_one = held.known.from_one;
            to_last = let no_more = consistent.sound.known t.publisher in omega (arith, held.known.to_known, no_more);
          };
          counted = held.counted;
        }

    first_is : (interest : List ℕ) (i : Interest) → interest_of interest ≡ Ok i
        → served_part interest a.store ≡ Ok (option_map (λ s. s.0) (first_served i a.store))
    unfolding served_entry
    first_is interest i e =
        ap (λ (r : Result Interest PacketFault). (r
        >>= λ j. let z : Result (Option Packet) PacketFault = Ok (first_served j a.store) in z)
        >>= λ o. let z : Result (Option Part) PacketFault = Ok (option_map (λ s. s.0) o) in z) e

    pub gives_its : AreAllCollisionFree g logs → (t : Part) → IsPublishedPart logs t
        → contains part_cmp (keys a.store) t ≡ true
        → holder_packet_response g logs (keys a.store) t ≡ Its
    gives_its clear t is holds =
        ap (λ (es : List Packet). packet_response g logs t (found (served (published_want g logs t).interest es)))
        (sym (stores_those g logs a consistent))
        ∙ go (option_map (λ s. s.0) (first_served asking a.store))
        (first_is (published_want g logs t).interest asking interest) where
          y : List ℕ
          y = unwrap_or (published_packet g logs t) []

          its : published_packet g logs t ≡ Some (unwrap_or (published_packet g logs t) [])
          its = packet_is g logs t are is

          asking : Interest
          asking = read_plain (asked_name (published_want g logs t).name (published_want g logs t).digest) false

          interest : interest_of (published_want g logs t).interest
              ≡ Ok (read_plain (asked_name (published_want g logs t).name (published_want g logs t).digest) false)
          interest = (part_is t is (unwrap_or (published_packet g logs t) []) (packet_is g logs t are is)).interest

          stored : (o : Option (List ℕ)) → value_of part_cmp a.store t ≡ o
              → value_of part_cmp a.store t ≡ Some (unwrap_or (published_packet g logs t) [])
          stored None e = absurd (true≢false (sym holds ∙ sym (has_value a.store t) ∙ ap is_some e))
          stored (Some x) e = e ∙ sym (consistent.packets t x e) ∙ packet_is g logs t are is

          go : (o : Option Part) → served_part (published_want g logs t).interest a.store ≡ Ok o
              → packet_response g logs t (found (served (published_want g logs t).interest a.store)) ≡ Its
          go None e =
              let none =
              served_least (published_want g logs t).interest a.store
              (read_plain (asked_name (published_want g logs t).name (published_want g logs t).digest) false) None
              consistent.sound.in_order.held interest e in
              absurd
              (true≢false (sym (own_asked t is (unwrap_or (published_packet g logs t) []) its)
              ∙ none refl t (unwrap_or (published_packet g logs t) []) (stored (value_of part_cmp a.store t) refl)))
          go (Some u) e =
              let found_u =
              (served_least (published_want g logs t).interest a.store
              (read_plain (asked_name (published_want g logs t).name (published_want g logs t).digest) false) (Some u)
              consistent.sound.in_order.held interest e).1 in
              let same : found_u.octets ≡ unwrap_or (published_packet g logs t) [] =
              asked_is clear t u is (stored_there u found_u.octets found_u.stored)
              (unwrap_or (published_packet g logs t) [])
              found_u.octets its (consistent.packets u found_u.octets found_u.stored) found_u.satisfied in
              ap (λ (r : Result (Option (List ℕ)) PacketFault). packet_response g logs t (found r))
              (served_of_part (published_want g logs t).interest a.store u consistent.sound.in_order.held e
              ∙ ap (λ (o : Option (List ℕ)). let r : Result (Option (List ℕ)) PacketFault = Ok o in r) found_u.stored)
              ∙ its_octets g logs t are is found_u.octets
              ((bytes_eq-Decides found_u.octets (unwrap_or (published_packet g logs t) [])).1 same)

-- ---- worlds

module _ (s : GroupState) (is : IsConsistentState s) (clear : AreAllCollisionFree s.keys (logs_around s.members))
    (j f : ℕ) (t : Part)
    (there : j < length s.members) (claim : claim_at (world_of s) j f ≡ Some t) where
  claimed : claim_of (member_plan (state_at s.members j)) f ≡ Some t
  claimed = sym (ap (λ (x : Member). get_or x.claims (f - 1) None) (member_at s.members j)) ∙ claim

  pub held_is_kept : (q : ℕ) → q < length s.members → member_holds (member (world_of s) q) t ≡ true
      → IsAnswerStored s j f q
  held_is_kept q other holds =
      let published =
      claim_published s.keys (logs_around s.members) (state_at s.members j) is.are (is.members j there) f t claimed in
      let stored : contains part_cmp (keys (state_at s.members q).store) t ≡ true =
      sym (ap (λ (x : Member). contains part_cmp x.held t) (member_at s.members q)) ∙ holds in
      let came : response_from (lossless s.keys) (world_of s) q (claim_at (world_of s) j f) ≡ Its =
      ap (response_from (lossless s.keys) (world_of s) q) claim
      ∙ ap (λ (x : Member). holder_packet_response s.keys (logs_around s.members) x.held t) (member_at s.members q)
      ∙ gives_its s.keys (logs_around s.members) is.are (state_at s.members q) (is.members q other) clear t published
      stored in
      record {
        taken = λ i. if_idle_or_foreign (claim i) (came i);
        report = ap (λ (k : Response). answer_report j f (passes_checks k)) came;
      }

  pub publisher_is_kept : IsAnswerStored s j f t.publisher
      ⊎ (has_deleted (member (world_of s) t.publisher) (pair_of t) ≡ true)
  publisher_is_kept =
      let published =
      claim_published s.keys (logs_around s.members) (state_at s.members j) is.are (is.members j there) f t claimed in
      let many : length (logs_around s.members) ≡ length s.members = many_logs s.members in
      let other : t.publisher < length s.members =
      let l = publisher_there (logs_around s.members) (pair_of t) published.there in omega (arith, l, many) in
      let among : j < length (in_groups s.members) =
      subst (λ (n : ℕ). j < n) (sym (length-map s.members in_group)) there in
      let wanted : is_wanted (plan_of (logs_around s.members) (member (world_of s) j)) t ≡ true =
      ((sound_state s is).members j among).claimed (f - 1) t claim in
      elim (publisher_holds (lossless s.keys) (world_of s) (sound_state s is) j t among wanted) [
        | inl holds ↦ inl (held_is_kept t.publisher other holds)
        | inr hidden ↦ inr hidden
      ]
