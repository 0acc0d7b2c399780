-- Names and digests tell parts apart.
use Rattle.std.proofs.Common.{◌≡◌, ℕ, zero, suc, ◌-◌, ◌^◌, ◌<◌, ◌≤◌, List, [], ◌∷◌, ◌++◌, length, length-append}
use Rattle.std.proofs.Common.{Option, Some, slice_get, Result, Ok, Err, refl, sym, ap, subst, ◌∙◌, arith}
use Rattle.std.specs.Prelude.{◌≢◌, IfSome, IsOk}
use Rattle.std.proofs.lemmas.List.{append_cancel_right}
use Rattle.std.proofs.lemmas.Option.{same_Some}
use Rattle.sha2.specs.Sha256.{sha256}
use Rattle.ndn_tlv.specs.NumberField.{number_of, number_field}
use Rattle.ndn_tlv.proofs.Steps.{ok_is}
use Rattle.ndn_tlv.proofs.NumberFields.{number_of-number_field}
use Rattle.ndn_name.specs.Names.{Component, IsName, encoding}
use Rattle.ndn_name.proofs.Encodings.{encoding-same}
use Rattle.ndn_data.specs.Data.{Data, data_of}
use Rattle.repo_plan.specs.declared.part.Part.{Part}
use Rattle.repo_plan.specs.Parts.{index_packets}
use Rattle.repo_object.specs.declared.part_refusal.PartRefusal.{PartRefusal}
use Rattle.repo_object.specs.Objects.{NamedContents, IsObject, Post, IsPost, Publisher, IsPublisher, record_name}
use Rattle.repo_object.specs.Objects.{segment_name, shape_in}
use Rattle.repo_object.specs.Objects.Post.{Offers}
use Rattle.repo_object.specs.Publication.{published_listing, published_record, record_packet, packets, packet_at}
use Rattle.repo_object.specs.Published.{Published, after, AreCollisionFree}
use Rattle.repo_object.specs.Wants.{WantedPart, want_record, want_index, want_segment}
use Rattle.repo_object.specs.Verdict.{part_verdict, Passes}
use Rattle.repo_object.proofs.Places.{all_at}
use Rattle.repo_object.proofs.Passing.{passes}
use Rattle.repo_object.proofs.Publications.{numbered_data, record_named, record_read, record_again, index_is}
use Rattle.repo_object.proofs.Publications.{segment_is}
use Rattle.repo_object.proofs.Publications.{index_part, segment_part, index_digest, after_is, all_fit}

-- ---- one component more

component_same : (a b : Component) (prefix rest : List Component) → a ∷ prefix ≡ b ∷ rest → (a ≡ b) × (prefix ≡ rest)
component_same a b prefix rest e = (cc, cc)

pub last_same : (a b : List Component) (c d : Component) → a ++ c ∷ [] ≡ b ++ d ∷ [] → (a ≡ b) × (c ≡ d)
last_same [] [] c d e = (refl, (component_same c d [] [] e).0)
last_same [] (y ∷ ys) c d e =
    let long : 1 ≡ length (y ∷ ys ++ d ∷ []) = ap length e in
    absurd (omega (arith, long, length-append ys (d ∷ [])))
last_same (x ∷ xs) [] c d e =
    let long : length (x ∷ xs ++ c ∷ []) ≡ 1 = ap length e in
    absurd (omega (arith, long, length-append xs (c ∷ [])))
last_same (x ∷ xs) (y ∷ ys) c d e =
    let both = component_same x y (xs ++ c ∷ []) (ys ++ d ∷ []) e in
    let rest = last_same xs ys c d both.1 in
    ((λ i. both.0 i ∷ rest.0 i), rest.1)

-- numbers that are written alike are the same
number_same : (m n : ℕ) → m < 2 ^ 16 → n < 2 ^ 16 → number_field m ≡ number_field n → m ≡ n
number_same m n low_m low_n e =
    some_number m n
    (sym (number_of-number_field m (omega arith)) ∙ ap number_of e ∙ number_of-number_field n (omega arith))
  where
    found : ℕ → Option ℕ
    found n = Some n

    some_number : (m n : ℕ) → found m ≡ found n → m ≡ n
    some_number m n e = cc

-- ---- names

pub records_differ : (node other group : List Component) (seq second : ℕ) → seq < 2 ^ 16 → second < 2 ^ 16
    → record_name node group seq ≡ record_name other group second → (node ≡ other) × (seq ≡ second)
records_differ node other group seq second low_seq low_second e =
    let both = last_same (node ++ group) (other ++ group) (0x3a, number_field seq) (0x3a, number_field second) e in (
      append_cancel_right node other group both.0,
      number_same seq second low_seq low_second (ap (λ (c : Component). c.1) both.1),
    )

pub segments_differ : (name other : List Component) (i j : ℕ) → i < 2 ^ 16 → j < 2 ^ 16
    → segment_name name i ≡ segment_name other j → (name ≡ other) × (i ≡ j)
segments_differ name other i j low_i low_j e =
    let both = last_same name other (0x32, number_field i) (0x32, number_field j) e in
    (both.0, number_same i j low_i low_j (ap (λ (c : Component). c.1) both.1))

pub records_are_no_segments : (node group name : List Component) (seq i : ℕ)
    → record_name node group seq ≢ segment_name name i
records_are_no_segments node group name seq i e =
    let both = last_same (node ++ group) name (0x3a, number_field seq) (0x32, number_field i) e in
    let typ : 0x3a ≡ 0x32 = ap (λ (c : Component). c.0) both.1 in
    absurd (omega (arith, typ))

-- ---- packets that pass

module _ (want : WantedPart) (key_name key octets : List ℕ) (ok : IsOk (part_verdict want key_name key octets)) where
  passed : (d : Data) × Passes want key_name key octets d
  passed = go (part_verdict want key_name key octets) refl ok where
    go : (r : Result Data PartRefusal) → part_verdict want key_name key octets ≡ r → IsOk r
        → (d : Data) × Passes want key_name key octets d
    go (Ok d) e s = (d, passes want key_name key octets d e)
    go (Err refusal) e s = absurd cc

  -- it has the wanted name
  passed_name : (d : Data) → data_of octets ≡ Ok d → IsName d.name → IsName want.name → d.name ≡ want.name
  passed_name d is valid want_valid =
      let same : passed.0 ≡ d = ok_is passed.0 d (sym passed.1.read ∙ is) in
      encoding-same d.name want.name valid want_valid (ap (λ (x : Data). encoding x.name) (sym same) ∙ passed.1.name)

  -- and the wanted digest
  passed_digest : IfSome want.digest (λ digest. sha256 octets ≡ digest)
  passed_digest = passed.1.digest

module _ (own other : Publisher) (theirs : Post) (is_own : IsPublisher own) (is_other : IsPublisher other) (seq : ℕ)
    (is_theirs : IsPost seq theirs) (low : seq < 2 ^ 16) (key_name key octets : List ℕ) where
  -- a record that has the wanted name
  record_name_is : (want : WantedPart) → packet_at other seq theirs 0 ≡ Some octets
      → IsOk (part_verdict want key_name key octets) → IsName want.name
      → record_name other.node other.group seq ≡ want.name
  record_name_is want at ok valid =
      let is = same_Some (record_packet other seq (published_record other seq theirs)) octets at in
      passed_name want key_name key octets ok (record_read other is_other seq theirs)
      (ap data_of (sym is) ∙ record_again other is_other seq theirs is_theirs low) (record_named other is_other seq low)
      valid

  pub records_pass : (part : Part) (x : ℕ) → own.group ≡ other.group → part.seq < 2 ^ 16
      → packet_at other seq theirs x ≡ Some octets
      → IsOk (part_verdict (want_record part own.node own.group) key_name key octets)
      → (x ≡ 0) × (own.node ≡ other.node) × (part.seq ≡ seq)
  records_pass part zero group low_part at ok =
      let named = record_named own is_own part.seq low_part in
      let name = record_name_is (want_record part own.node own.group) at ok named in
      let same = sym name ∙ ap (λ (g : List Component). record_name other.node g seq) (sym group) in
      let both = records_differ own.node other.node own.group part.seq seq low_part low same in
      (refl, both.0, both.1)
  records_pass part (suc k) group low_part at ok =
      let s = after_is other is_other seq (suc k) theirs octets is_theirs low (omega arith) at in
      let named = record_named own is_own part.seq low_part in
      let name =
      passed_name (want_record part own.node own.group) key_name key octets ok
      (numbered_data other s.name s.last s.number s.content) s.read s.named named in
      absurd (records_are_no_segments own.node own.group s.name part.seq s.number (sym name))

  -- a part after a record: another packet that passes has its name and its digest
  module _ (want : WantedPart) (name : List Component) (number i : ℕ) (packet : List ℕ) (d : Data) (mine : Published)
      (wants : want.name ≡ segment_name name number) (named : IsName (segment_name name number))
      (read : data_of packet ≡ Ok d) (same_name : d.name ≡ segment_name name number)
      (stands : slice_get (after mine) i ≡ Some packet) (digest : want.digest ≡ Some (sha256 packet)) where
    valid : IsName want.name
    valid = subst IsName (sym wants) named

    same_digest : IsOk (part_verdict want key_name key octets) → sha256 octets ≡ sha256 packet
    same_digest ok =
        let P : Option (List ℕ) → Type 0 = λ o. IfSome o (λ x. sha256 octets ≡ x) in
        subst P digest (passed_digest want key_name key octets ok)

    part_passes : (x : ℕ) → AreCollisionFree mine (record { publisher = other; seq = seq; post = theirs })
        → packet_at other seq theirs x ≡ Some octets → IsOk (part_verdict want key_name key octets) → octets ≡ packet
    part_passes zero clear at ok =
        let is = record_name_is want at ok valid in
        absurd (records_are_no_segments other.node other.group name seq number (is ∙ wants))
    part_passes (suc k) clear at ok =
        let s = after_is other is_other seq (suc k) theirs octets is_theirs low (omega arith) at in
        let theirs_data = numbered_data other s.name s.last s.number s.content in
        let is = passed_name want key_name key octets ok theirs_data s.read s.named valid in
        sym (clear i (suc k - 1) packet octets d theirs_data stands s.stands read s.read
        (same_name ∙ sym wants ∙ sym is) (sym (same_digest ok)))

  module _ (object : NamedContents) (is_object : IsObject object) (part : Part) (packet : List ℕ)
      (its : packet_at own part.seq (Offers object) part.part ≡ Some packet)
      (clear : AreCollisionFree (record { publisher = own; seq = part.seq; post = Offers object })
      (record { publisher = other; seq = seq; post = theirs })) where
    abbrev mine : Published
    mine = record { publisher = own; seq = part.seq; post = Offers object }

    stands_after : 0 < part.part → slice_get (after mine) (part.part - 1) ≡ Some packet
    stands_after above = after_first part.part above its where
      after_first : (x : ℕ) → 0 < x → packet_at own part.seq (Offers object) x ≡ Some packet
          → slice_get (after mine) (x - 1) ≡ Some packet
      after_first zero above h = absurd (omega (arith, above))
      after_first (suc k) above h =
          let same : suc k - 1 ≡ k = omega arith in ap (slice_get (after mine)) same ∙ h

    pub indexes_pass : (x : ℕ) → part.seq < 2 ^ 16 → 0 < part.part
        → part.part ≤ index_packets (length object.contents)
        → packet_at other seq theirs x ≡ Some octets
        → IsOk
        (part_verdict (want_index part (published_listing own part.seq object) own.node own.group) key_name key octets)
        → octets ≡ packet
    indexes_pass x low_part above below at ok =
        let k = part.part - 1 in
        let found = index_part own is_own object is_object part.seq part.part packet above below its in
        let s = index_is own is_own object is_object part.seq k packet low_part found in
        let listing = published_listing own part.seq object in
        part_passes (want_index part listing own.node own.group) (record_name own.node own.group part.seq) k k packet _
        mine refl s.named s.read refl (stands_after above)
        (index_digest own is_own object is_object part.seq part.part packet above below its) x clear at ok

    pub segments_pass : (x : ℕ) → index_packets (length object.contents) < part.part
        → packet_at other seq theirs x ≡ Some octets
        → IsOk
        (part_verdict (want_segment part (shape_in (Offers object)) object.name (sha256 packet)) key_name key octets)
        → octets ≡ packet
    segments_pass x above at ok =
        let k = part.part - index_packets (length object.contents) - 1 in
        let found = segment_part own is_own object is_object part.seq part.part packet above its in
        let s = segment_is own is_own object is_object k packet found in
        part_passes (want_segment part (shape_in (Offers object)) object.name (sha256 packet)) object.name k
        (part.part - 1) packet _ mine refl s.named s.read refl (stands_after (omega (arith, above))) refl x clear at ok

-- ---- what one packet is

pub part_fits : (publisher : Publisher) (seq x : ℕ) (post : Post) (octets : List ℕ)
    → IsPublisher publisher → IsPost seq post → seq < 2 ^ 16
    → packet_at publisher seq post x ≡ Some octets → length octets ≤ 8800
part_fits publisher seq x post octets is_publisher is_post low at =
    all_at (λ (packet : List ℕ). length packet ≤ 8800) (packets publisher seq post) x octets
    (all_fit publisher is_publisher seq post is_post low) at
