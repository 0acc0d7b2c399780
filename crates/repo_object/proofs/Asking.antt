-- Wants ask for the packets that pass for them.
use Rattle.std.proofs.Common.{◌≡◌, ℕ, ◌-◌, ◌^◌, ◌<◌, ◌≤◌, false, List, [], ◌∷◌, ◌++◌, length, length-append, Option}
use Rattle.std.proofs.Common.{Some, None, slice_get, Ok, sym, ap, ◌∙◌, inl, inr, arith}
use Rattle.std.specs.Prelude.{IfSome}
use Rattle.sha2.specs.Sha256.{sha256}
use Rattle.ndn_tlv.specs.Spelling.{element}
use Rattle.ndn_tlv.specs.NumberField.{number_field}
use Rattle.ndn_tlv.specs.Elements.{IsOctets}
use Rattle.ndn_name.specs.Names.{Component, IsComponent, IsName, encoding, full_name}
use Rattle.ndn_name.proofs.Encodings.{IsName-append, encoding-same}
use Rattle.ndn_data.specs.Data.{Data, Satisfies}
use Rattle.ndn_interest.specs.Interest.{interest_of}
use Rattle.ndn_interest.specs.WrittenInterest.{written_plain, read_plain}
use Rattle.ndn_interest.proofs.ReadBackLemmas.{plain_again}
use Rattle.repo_plan.specs.declared.part.Part.{Part}
use Rattle.repo_plan.specs.declared.shape.Shape.{Shape}
use Rattle.repo_object.specs.Objects.{IsShortName, record_name, segment_name}
use Rattle.repo_object.specs.Publication.{Listed}
use Rattle.repo_object.specs.Formats.{IsListing}
use Rattle.repo_object.specs.Wants.{WantedPart, asked_name, want_record, want_index, want_segment}
use Rattle.repo_object.specs.Verdict.{Passes}
use Rattle.repo_object.proofs.Sizes.{element-at_most, named_short, pushed-size}
use Rattle.repo_object.proofs.PacketSizes.{record_name-size, segment_name-size}
use Rattle.repo_object.proofs.WantLemmas.{record_valid, segment_valid}

-- ---- a packet that passes is asked for

pub asked_for : (name : List Component) (digest : Option (List ℕ)) (octets : List ℕ) (d : Data) → name ≡ d.name
    → IfSome digest (λ x. sha256 octets ≡ x)
    → Satisfies (asked_name name digest) false (sha256 octets) d
asked_for name None octets d same is = inl same
asked_for name (Some digest) octets d same is =
    inr (inl (ap (λ (n : List Component). full_name n digest) same ∙ ap (full_name d.name) (sym is)))

pub passing_is_asked_for : (want : WantedPart) (key_name key octets : List ℕ) (d : Data)
    → Passes want key_name key octets d → IsName want.name → IsName d.name
    → Satisfies (asked_name want.name want.digest) false (sha256 octets) d
passing_is_asked_for want key_name key octets d p valid read_valid =
    asked_for want.name want.digest octets d (sym (encoding-same d.name want.name read_valid valid p.name)) p.digest

-- ---- the Interests

interest_again : (name : List Component) → IsName name → 0 < length name → length (encoding name) ≤ 1000
    → interest_of (written_plain name false) ≡ Ok (read_plain name false)
interest_again name valid some short =
    let inner = element-at_most 0x07 (encoding name) (omega arith) (omega arith) in
    let flag = length-append (element 0x07 (encoding name)) [] in
    plain_again name false valid some
    (omega (
      arith,
      inner,
      flag,
      element-at_most 0x05 (element 0x07 (encoding name) ++ []) (omega arith) (omega (arith, inner, flag)),
    ))

pub record_interest : (part : Part) (node group : List Component) → IsShortName node → IsShortName group
    → part.seq < 2 ^ 16
    → interest_of (want_record part node group).interest ≡ Ok (read_plain (record_name node group part.seq) false)
record_interest part node group short_node short_group low =
    interest_again (record_name node group part.seq) (record_valid node group part.seq short_node.0 short_group.0 low)
    (omega (arith, length-append (node ++ group) ((0x3a, number_field part.seq) ∷ [])))
    (omega (arith, record_name-size node group part.seq short_node.1 short_group.1 low))

-- the Interest for a full name
full_interest : (name : List Component) (digest : List ℕ) → IsName name → length (encoding name) ≤ 900
    → length digest ≡ 32 → IsOctets digest
    → interest_of (written_plain (full_name name digest) false) ≡ Ok (read_plain (full_name name digest) false)
full_interest name digest named short long fits =
    let component : IsComponent (1, digest) = record {
      above = omega arith;
      below = omega arith;
      digest = λ two. long;
      long = omega (arith, long);
      octets = fits;
    } in
    let valid = IsName-append name ((1, digest) ∷ []) named (component, tt) in
    let size = pushed-size name 1 digest (omega arith) (omega (arith, long)) in
    interest_again (full_name name digest) valid (omega (arith, length-append name ((1, digest) ∷ [])))
    (omega (arith, size, long, short))

pub index_interest : (part : Part) (l : Listed) (digest : List ℕ) (node group : List Component) → IsShortName node
    → IsShortName group → part.seq < 2 ^ 16 → part.part < 2 ^ 16
    → slice_get l.digests (part.part - 1) ≡ Some digest → length digest ≡ 32 → IsOctets digest
    → interest_of (want_index part l node group).interest
    ≡ Ok (read_plain (full_name (segment_name (record_name node group part.seq) (part.part - 1)) digest) false)
index_interest part l digest node group short_node short_group low low_part at long fits =
    let record_ = record_name node group part.seq in
    let name = segment_name record_ (part.part - 1) in
    ap (λ (d : Option (List ℕ)). interest_of (written_plain (asked_name name d) false)) at
    ∙ full_interest name digest
    (segment_valid record_ (part.part - 1) (record_valid node group part.seq short_node.0 short_group.0 low)
    (omega (arith, low_part)))
    (omega (
      arith,
      segment_name-size record_ (part.part - 1) (omega (arith, low_part)),
      record_name-size node group part.seq short_node.1 short_group.1 low,
    )) long fits

pub segment_interest : (part : Part) (shape : Shape) (l : Listed) (digest : List ℕ) → IsListing l
    → part.part < 2 ^ 16 → length digest ≡ 32 → IsOctets digest
    → interest_of (want_segment part shape l.name digest).interest
    ≡ Ok (read_plain (full_name (segment_name l.name (part.part - shape.index - 1)) digest) false)
segment_interest part shape l digest within low long fits =
    let i = part.part - shape.index - 1 in
    full_interest (segment_name l.name i) digest (segment_valid l.name i within.name (omega (arith, low)))
    (omega (arith, segment_name-size l.name i (omega (arith, low)), named_short l.name within.named)) long fits
