-- The packets that there are pass for the wants of their parts.
use Rattle.std.proofs.Common.{◌≡◌, ℕ, ◌+◌, ◌^◌, ◌<◌, ◌≤◌, Bool, true, false, cond, ◌==◌, List, []}
use Rattle.std.proofs.Common.{length, get_or, Option, Some, refl, sym, ap, ◌∙◌, subst, arith}
use Rattle.std.specs.Prelude.{nat_le, unwrap_or, slice_get, IsOk, IsSomeAnd}
use Rattle.std.proofs.lemmas.Bool.{eqb-true, eqb-false, leb-true, leb-false}
use Rattle.std.proofs.lemmas.List.{get_or-map}
use Rattle.std.proofs.lemmas.Option.{slice_get-get_or, unwrap_or-slice_get}
use Rattle.sha2.specs.Sha256.{sha256}
use Rattle.ndn_name.specs.Names.{Component, encoding}
use Rattle.ndn_sign.specs.Ring
use Rattle.ndn_sign.specs.Ring.{pair}
use Rattle.repo_plan.specs.declared.part.Part.{Part}
use Rattle.repo_plan.specs.Parts.{pair_of, last_part, index_packets}
use Rattle.repo_object.specs.Objects.{Post, IsPost, IsPublisher, offered, shape_in, key_name}
use Rattle.repo_object.specs.Objects.Post.{Offers, Withdraws}
use Rattle.repo_object.specs.Publication.{Listed, packets, packet_at, published_listing}
use Rattle.repo_object.specs.Wants.{WantedPart, want_record, want_index, want_segment}
use Rattle.repo_object.specs.Verdict.{part_verdict, key_at, ring_verdict}
use Rattle.repo_object.proofs.Publications.{packets-length, record_passes, index_passes, segment_passes}
use Rattle.repo_object.proofs.Report.{part_fits}
use Rattle.group_model.specs.Publications.{Logs, no_object, post_at}
use Rattle.group_model.specs.Sound.{IsPublishedPart}
use Rattle.repo_member.specs.Groups.{GroupKeys, IsGroup, node_at, member_key, publisher_at}
use Rattle.repo_member.specs.InGroup.{AreLogs, published_packet}
use Rattle.repo_member.specs.ConsistentMembers.{published_want, PacketsAreThere, PacketsPass}
use Rattle.repo_member.proofs.GroupLemmas.{ring_length}
use Rattle.repo_member.proofs.ConsistentPackets.{published_post, published_by, published_low, log_there}

-- the key under a member's number has its key's name
ring_name : (g : GroupKeys) (p : ℕ) → IsGroup g → p < length g.members.names
    → (unwrap_or (slice_get g.members.ring p) (pair [] [])).name ≡ encoding (key_name (node_at g p))
ring_name g p is inside =
    let long : length g.members.ring ≡ length g.members.names = ring_length g.members is.members in
    ap (λ (q : Ring.NamedKey). q.name) (unwrap_or-slice_get g.members.ring p (pair [] []))
    ∙ sym (get_or-map (λ (q : Ring.NamedKey). q.name) g.members.ring p (pair [] []) [] (omega (arith, long, inside)))
    ∙ ap (λ (xs : List (List ℕ)). get_or xs p []) is.members.keys
    ∙ get_or-map (λ (node : List Component). encoding (key_name node)) g.members.names p [] [] inside
    ∙ ap (λ (node : List Component). encoding (key_name node)) (sym (unwrap_or-slice_get g.members.names p []))

-- the want of a part after the record of a publication, whose packet is this
abbrev pub want_of_post : GroupKeys → Part → Post → Option (List ℕ) → WantedPart
want_of_post g t post made =
    let l = published_listing (publisher_at g t.publisher) t.seq (unwrap_or (offered post) no_object) in
    cond (nat_le t.part (shape_in post).index) (want_index t l (node_at g t.publisher) g.name)
    (want_segment t (shape_in post) l.name (sha256 (unwrap_or made [])))

-- the want of any part
abbrev want_published : GroupKeys → Part → Post → Option (List ℕ) → WantedPart
want_published g t post made =
    cond (t.part == 0) (want_record t (node_at g t.publisher) g.name) (want_of_post g t post made)

want_published_part : (g : GroupKeys) (t : Part) (post : Post) (made : Option (List ℕ))
    → (want_published g t post made).part ≡ t
want_published_part g t post made = go (t.part == 0) (nat_le t.part (shape_in post).index) where
  l : Listed
  l = published_listing (publisher_at g t.publisher) t.seq (unwrap_or (offered post) no_object)

  go : (b c : Bool)
      → (cond b (want_record t (node_at g t.publisher) g.name)
      (cond c (want_index t l (node_at g t.publisher) g.name)
      (want_segment t (shape_in post) l.name (sha256 (unwrap_or made []))))).part
      ≡ t
  go true c = refl
  go false true = refl
  go false false = refl

-- the packet passes for it, under its publisher's key
packet_for : (g : GroupKeys) (t : Part) (post : Post) (octets : List ℕ) → IsPublisher (publisher_at g t.publisher)
    → IsPost t.seq post → t.seq < 2 ^ 16 → t.part ≤ last_part (shape_in post)
    → packet_at (publisher_at g t.publisher) t.seq post t.part ≡ Some octets
    → IsOk (part_verdict (want_published g t post (Some octets)) (encoding (key_name (node_at g t.publisher)))
    (member_key g t.publisher) octets)
packet_for g t post octets publishes_it is low counted its = first (t.part == 0) refl where
  after : (post : Post) → IsPost t.seq post → t.part ≤ last_part (shape_in post)
      → packet_at (publisher_at g t.publisher) t.seq post t.part ≡ Some octets → 0 < t.part → (b : Bool)
      → nat_le t.part (shape_in post).index ≡ b
      → IsOk (part_verdict
      (cond b
      (want_index t (published_listing (publisher_at g t.publisher) t.seq (unwrap_or (offered post) no_object))
      (node_at g t.publisher) g.name)
      (want_segment t (shape_in post)
      (published_listing (publisher_at g t.publisher) t.seq (unwrap_or (offered post) no_object)).name (sha256 octets)))
      (encoding (key_name (node_at g t.publisher))) (member_key g t.publisher) octets)
  after (Withdraws withdrawn) is counted its above b p = absurd (omega (arith, counted, above))
  after (Offers object) is counted its above true p =
      index_passes (publisher_at g t.publisher) publishes_it object is t octets low above
      (leb-true t.part (index_packets (length object.contents)) p) its
  after (Offers object) is counted its above false p =
      segment_passes (publisher_at g t.publisher) publishes_it object is t octets
      (omega (arith, leb-false t.part (index_packets (length object.contents)) p)) its

  first : (b : Bool) → (t.part == 0) ≡ b
      → IsOk (part_verdict
      (cond b (want_record t (node_at g t.publisher) g.name)
      (cond (nat_le t.part (shape_in post).index)
      (want_index t (published_listing (publisher_at g t.publisher) t.seq (unwrap_or (offered post) no_object))
      (node_at g t.publisher) g.name)
      (want_segment t (shape_in post)
      (published_listing (publisher_at g t.publisher) t.seq (unwrap_or (offered post) no_object)).name
      (sha256 octets))))
      (encoding (key_name (node_at g t.publisher))) (member_key g t.publisher) octets)
  first true p =
      record_passes (publisher_at g t.publisher) publishes_it t post octets is low
      (subst (λ (n : ℕ). packet_at (publisher_at g t.publisher) t.seq post n ≡ Some octets) (eqb-true t.part 0 p) its)
  first false p =
      after post is counted its (omega (arith, eqb-false t.part 0 p)) (nat_le t.part (shape_in post).index) refl

module _ (g : GroupKeys) (logs : Logs) (t : Part) (are : AreLogs g logs) (is : IsPublishedPart logs t) where
  abbrev post : Post
  post = post_at logs (pair_of t)

  pub packet_there : IsSomeAnd (published_packet g logs t) (λ octets. length octets ≤ 8800)
  packet_there =
      let made : List (List ℕ) = packets (publisher_at g t.publisher) t.seq post in
      let many : length made ≡ last_part (shape_in post) + 1 =
      packets-length (publisher_at g t.publisher) t.seq post in
      let inside : t.part < length made = omega (arith, many, is.counted) in
      let there = slice_get-get_or made t.part [] inside in
      subst (λ (o : Option (List ℕ)). IsSomeAnd o (λ octets. length octets ≤ 8800)) (sym there)
      (part_fits (publisher_at g t.publisher) t.seq t.part post (get_or made t.part [])
      (published_by g logs are (pair_of t) is.there) (published_post g logs are (pair_of t) is.there)
      (published_low g logs are (pair_of t) is.there) there)

  publisher_there : t.publisher < length g.members.names
  publisher_there = omega (arith, log_there g logs are (pair_of t) is.there, are.width)

  named : (unwrap_or (slice_get g.members.ring t.publisher) (pair [] [])).name
      ≡ encoding (key_name (node_at g t.publisher))
  named = ring_name g t.publisher are.group publisher_there

  pub packet_passes : (octets : List ℕ) → published_packet g logs t ≡ Some octets
      → IsOk (ring_verdict (published_want g logs t) g.members.ring octets)
  packet_passes octets its =
      subst (λ (u : Part). IsOk (part_verdict (published_want g logs t) (key_at g.members.ring u.publisher).name
      (key_at g.members.ring u.publisher).key octets))
      (sym (want_published_part g t post (published_packet g logs t)))
      (subst (λ (name : List ℕ).
      IsOk (part_verdict (published_want g logs t) name (member_key g t.publisher) octets)) (sym named)
      (subst (λ (made : Option (List ℕ)).
      IsOk (part_verdict (want_published g t post made) (encoding (key_name (node_at g t.publisher)))
      (member_key g t.publisher) octets)) (sym its)
      (packet_for g t post octets (published_by g logs are (pair_of t) is.there)
      (published_post g logs are (pair_of t) is.there) (published_low g logs are (pair_of t) is.there) is.counted its)))

pub packets_are_there : PacketsAreThere
packets_are_there g logs t are is = packet_there g logs t are is

pub packets_pass : PacketsPass
packets_pass g logs t octets are is its = packet_passes g logs t are is octets its
