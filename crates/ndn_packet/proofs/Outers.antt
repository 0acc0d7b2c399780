-- The element that comes first is all of the octets where nothing follows it.
use Rattle.std.proofs.Common.{◌≡◌, ℕ, ◌+◌, ◌≤◌, cond, ltb, eqb, inl, inr, List, [], ◌∷◌, ◌++◌, length, length-append}
use Rattle.std.proofs.Common.{Option, Some, None, Result, Ok, Err, ap, subst, ◌∙◌, arith}
use Rattle.std.proofs.lemmas.List.{append-nil, nil_from_length}
use Rattle.ndn_tlv.specs.declared.tlv_fault.TlvFault.{TlvFault}
use Rattle.ndn_tlv.specs.Spelling.{head, element}
use Rattle.ndn_tlv.specs.Elements.{Item, IsOctets, AreElements, placed, elements}
use Rattle.ndn_tlv.proofs.Listings.{elements_are}
use Rattle.ndn_name.specs.declared.fault.PacketFault.{PacketFault}
use Rattle.ndn_name.specs.declared.fault.PacketFault.TheVariants.{Tlv, PacketTooLong, WrongType, TrailingOctets}
use Rattle.ndn_tlv.specs.declared.tlv_fault.TlvFault.TheVariants.{Truncated}
use Rattle.ndn_tlv.specs.Listing.{◌>>=◌}
use Rattle.ndn_tlv.proofs.Steps.{chosen, guard_ok, bind_ok, ok_is}
use Rattle.std.proofs.lemmas.Bool.{ltb-false, eqb-true}
use Rattle.ndn_packet.specs.Contents.{first_among, first_of}
use Rattle.ndn_packet.specs.Outer.{only_of, outer_of}

abbrev done : Item → Result Item PacketFault
done e = Ok e

pub record IsFirst (offset : ℕ) (octets : List ℕ) (e : Item) : Type 0 where
  pub rest : List ℕ
  pub parts : octets ≡ element e.typ e.value ++ rest
  pub is_placed : e ≡ placed offset e.typ e.value

first_in : (absent : PacketFault) (offset : ℕ) (octets : List ℕ) (es : List Item) (f : Option TlvFault) (e : Item)
    → AreElements offset octets es f → first_among absent es f ≡ Ok e → IsFirst offset octets e
first_in absent offset octets [] None e are h = absurd cc
first_in absent offset octets [] (Some f) e are h = absurd cc
first_in absent offset octets (d ∷ ds) f e are h =
    let P : Item → Type 0 = λ x. IsFirst offset octets x in
    subst P (ok_is d e h) (record { rest = are.0; parts = are.1; is_placed = are.2 })

-- the first element, and what follows it
pub first_stands : (absent : PacketFault) (offset : ℕ) (octets : List ℕ) (e : Item) → IsOctets octets
    → first_of absent offset octets ≡ Ok e → IsFirst offset octets e
first_stands absent offset octets e fits h =
    first_in absent offset octets (elements offset octets).items (elements offset octets).fault e
    (elements_are offset octets fits) h

pub record IsMemberState (typ : ℕ) (octets : List ℕ) (e : Item) : Type 0 where
  pub whole : octets ≡ element typ e.value
  pub is_placed : e ≡ placed 0 typ e.value

pub first_alone : (absent : PacketFault) (typ : ℕ) (octets : List ℕ) (e : Item) → IsOctets octets
    → first_of absent 0 octets ≡ Ok e → e.typ ≡ typ → length octets ≤ e.end → IsMemberState typ octets e
first_alone absent typ octets e fits h same long =
    let first = first_stands absent 0 octets e fits h in
    let ends : e.end ≡ 0 + length (element e.typ e.value) = ap (λ (x : Item). x.end) first.is_placed in
    let size = ap length first.parts ∙ length-append (element e.typ e.value) first.rest in
    let empty = nil_from_length first.rest (omega arith) in
    let P : ℕ → Type 0 = λ t. (octets ≡ element t e.value) × (e ≡ placed 0 t e.value) in
    let whole : octets ≡ element e.typ e.value =
    first.parts ∙ ap (λ (r : List ℕ). element e.typ e.value ++ r) empty ∙ append-nil (element e.typ e.value) in
    let all = subst P same (whole, first.is_placed) in
    record { whole = all.0; is_placed = all.1 }

-- ---- the packet's element

only_ok : (typ len : ℕ) (first e : Item) → only_of typ len first ≡ Ok e
    → (first ≡ e) × (first.typ ≡ typ) × (len ≤ first.end)
only_ok typ len first e h =
    elim (chosen (eqb first.typ typ) (cond (ltb first.end len) (Err (TrailingOctets first.end)) (done first))
    (Err (WrongType first.typ)) (done e) h) [
      | inl a ↦
          let b = guard_ok (ltb first.end len) (TrailingOctets first.end) (done first) e a.1 in
          (ok_is first e b.1, eqb-true first.typ typ a.0, ltb-false first.end len b.0)
      | inr a ↦ absurd (different first.typ e a.1)
    ] where
      different : (typ : ℕ) (e : Item) → Err (WrongType typ) ≡ done e → ⊥
      different typ e h = cc

pub record IsPacket (typ : ℕ) (octets : List ℕ) (e : Item) : Type 0 where
  pub whole : octets ≡ element typ e.value
  pub is_placed : e ≡ placed 0 typ e.value
  pub short : length octets ≤ 8800

pub outer_ok : (typ : ℕ) (octets : List ℕ) (e : Item) → IsOctets octets → outer_of typ octets ≡ Ok e
    → IsPacket typ octets e
outer_ok typ octets e fits h =
    let absent = Tlv (Truncated 0) in
    let g =
    guard_ok (ltb 8800 (length octets)) PacketTooLong (first_of absent 0 octets >>= only_of typ (length octets)) e h in
    let b = bind_ok (first_of absent 0 octets) (only_of typ (length octets)) e g.1 in
    let only = only_ok typ (length octets) b.0 e b.2 in
    let alone = first_alone absent typ octets b.0 fits b.1 only.1 only.2 in
    let P : Item → Type 0 = λ x. (octets ≡ element typ x.value) × (x ≡ placed 0 typ x.value) in
    let all = subst P only.0 (alone.whole, alone.is_placed) in
    record { whole = all.0; is_placed = all.1; short = ltb-false 8800 (length octets) g.0 }

-- the value ends where the packet does
pub value_ends : (typ : ℕ) (octets : List ℕ) (e : Item) → octets ≡ element typ e.value → e ≡ placed 0 typ e.value
    → e.value_start + length e.value ≡ length octets
value_ends typ octets e whole at =
    omega
    (arith, ap length whole, length-append (head typ (length e.value)) e.value, ap (λ (x : Item). x.value_start) at)
