-- What a gathering over the fields of a table keeps true, as it comes from field to field.
use Rattle.std.proofs.Common.{◌≡◌, ℕ, suc, ◌+◌, ◌<◌, ◌≤◌, cond, List, [], ◌∷◌, ◌++◌, length, drop, drop_at, drop-drop}
use Rattle.std.proofs.Common.{Option, Some, None, slice_get, Result, Ok, refl, sym, ap, subst, ◌∙◌, arith}
use Rattle.std.specs.Prelude.{IfSome}
use Rattle.ndn_tlv.specs.Spelling.{element}
use Rattle.ndn_tlv.specs.Listing.{Listing, gather, gathered}
use Rattle.ndn_tlv.specs.Elements.{Item, AreElements, AreWithin}
use Rattle.ndn_tlv.specs.OrderTable.{AreFields}
use Rattle.ndn_tlv.specs.OrderTable.AreFields.{ended, broken, field, stranger, critical}
use Rattle.ndn_tlv.specs.declared.tlv_fault.TlvFault.{TlvFault}
use Rattle.ndn_tlv.specs.declared.order_table.Place.{Place}
use Rattle.ndn_tlv.specs.declared.order_table.FieldError.{FieldError}
use Rattle.ndn_name.specs.declared.fault.PacketFault.{PacketFault}
use Rattle.ndn_name.specs.Faults.{packet_fault}
use Rattle.ndn_tlv.proofs.Steps.{bind_ok, ok_is}

abbrev pub Each : (Item → Type 0) → List Item → Type 0
Each P [] = Unit {0}
Each P (e ∷ es) = P e × Each P es

-- an element stands in octets where its offset says
pub record Stands (whole : List ℕ) (e : Item) : Type 0 where
  pub after : List ℕ
  pub parts : drop e.start whole ≡ element e.typ e.value ++ after
  pub ends : e.end ≡ e.start + length (element e.typ e.value)

pub elements_stand : (whole : List ℕ) (offset : ℕ) (octets : List ℕ) (es : List Item) (fault : Option TlvFault)
    → drop offset whole ≡ octets → AreElements offset octets es fault → Each (Stands whole) es
elements_stand whole offset octets [] None at are = tt
elements_stand whole offset octets [] (Some f) at are = tt
elements_stand whole offset octets (e ∷ es) fault at are =
    let starts : e.start ≡ offset = ap (λ (x : Item). x.start) are.2 in
    let ends : e.end ≡ offset + length (element e.typ e.value) = ap (λ (x : Item). x.end) are.2 in
    let here : drop e.start whole ≡ element e.typ e.value ++ are.0 = ap (λ (n : ℕ). drop n whole) starts ∙ at ∙ are.1 in
    let long = length (element e.typ e.value) in
    let after : drop e.end whole ≡ are.0 =
    ap (λ (n : ℕ). drop n whole) ends
    ∙ sym (drop-drop long offset whole)
    ∙ ap (drop long) (at ∙ are.1)
    ∙ drop_at (element e.typ e.value) are.0 long refl in (
      record { after = are.0; parts = here; ends = omega arith },
      elements_stand whole e.end are.0 es fault after are.5,
    )

-- nothing has come that only comes at place `last`, where a field before that comes
pub none_before : {A : Type 0} (o : Option A) (last : ℕ) (Q : A → Type 0) (from k : ℕ) → IfSome o (λ _. last ≤ from)
    → from ≤ k → k < last → IfSome o Q
none_before None last Q from k h le lt = tt
none_before (Some x) last Q from k h le lt = absurd (omega (arith, h))

module _ {F S : Type 0} (table : List (Place F)) (take : S → F × Item → Result S PacketFault) (high : ℕ)
    (P : Item → Type 0) (J : ℕ → ℕ → S → Type 0)
    (step : (from low k : ℕ) (place : Place F) (s t : S) (e : Item) → from ≤ k → slice_get table k ≡ Some place
    → place.typ ≡ e.typ → J from low s
    → low ≤ e.start → e.start < e.value_start → e.value_start + length e.value ≡ e.end → P e
    → take s (place.field, e) ≡ Ok t → J (cond place.repeats k (suc k)) e.end t)
    (later : (from low more : ℕ) (s : S) → low ≤ more → J from low s → J from more s) where
  pub record Kept (t : S) : Type 0 where
    pub from : ℕ
    pub low : ℕ
    pub within : low ≤ high
    pub holds : J from low t

  pub keeps : (from : ℕ) (es : List Item) (fault : Option TlvFault) (read : Listing (F × Item) FieldError)
      → AreFields table from es fault read
      → (low : ℕ) (s t : S) → J from low s → AreWithin low high es → Each P es
      → gathered take packet_fault s read ≡ Ok t → Kept t
  unfolding gather
  keeps from es fault read ended low s t j w each e =
      record { from = from; low = low; within = w; holds = subst (J from low) (ok_is s t e) j }
  keeps from es fault read broken low s t j w each e = absurd cc
  keeps from es fault read (field k place above get same free rest) low s t j w each e =
      let b = bind_ok (take s (place.field, _)) (λ u. gathered take packet_fault u _) t e in
      keeps (cond place.repeats k (suc k)) _ fault _ rest _ b.0 t
      (step from low k place s b.0 _ above get same j w.0 w.1 w.2 each.0 b.1) w.3 each.1 b.2
  keeps from es fault read (stranger none not_critical rest) low s t j w each e =
      keeps from _ fault read rest _ s t (later from low _ s (omega (arith, w.0, w.1, w.2)) j) w.3 each.1 e
  keeps from es fault read (critical none is_critical) low s t j w each e = absurd cc
