-- Fields that were written one after another, read by an order table.
use Rattle.std.proofs.Common.{◌≡◌, ℕ, ◌+◌, ◌^◌, ◌<◌, List, [], ◌++◌, length, Some, Result, Ok, refl, sym, ap, ◌∙◌}
use Rattle.std.proofs.lemmas.List.{append-nil}
use Rattle.ndn_tlv.specs.declared.order_table.FieldError.{FieldError}
use Rattle.ndn_tlv.specs.declared.order_table.Place.{Place}
use Rattle.ndn_tlv.specs.declared.tlv_fault.TlvFault.{TlvFault}
use Rattle.ndn_tlv.specs.Spelling.{element}
use Rattle.ndn_tlv.specs.Listing.{Listing, gathered}
use Rattle.ndn_tlv.specs.Elements.{Item, placed, elements}
use Rattle.ndn_tlv.specs.OrderTable.{place_of, fields}
use Rattle.ndn_tlv.proofs.Listings.{elements-element, elements-nil}
use Rattle.ndn_tlv.proofs.Fields.{fields-field, fields-nothing}
use Rattle.ndn_packet.proofs.ReadBack.{gathers, gathered-nothing}

module _ {F S E : Type 0} (take : S → F × Item → Result S E) (named : FieldError → E) where
  -- a field, and what follows it
  pub field_again : (places after : List (Place F)) (field : F) (o typ : ℕ) (value rest : List ℕ) (s t : S)
      → place_of typ places ≡ Some (field, after) → 0 < typ → typ < 2 ^ 32 → length value < 2 ^ 64
      → take s (field, placed o typ value) ≡ Ok t
      → gathered take named s (fields places (elements o (element typ value ++ rest)))
      ≡ gathered take named t (fields after (elements (o + length (element typ value)) rest))
  field_again places after field o typ value rest s t place above below fits step =
      let others = elements (o + length (element typ value)) rest in
      ap (λ (l : Listing Item TlvFault). gathered take named s (fields places l))
      (elements-element o typ value rest above below fits)
      ∙ ap (gathered take named s) (fields-field places (placed o typ value) others field after place)
      ∙ gathers take named s t (field, placed o typ value) (fields after others) step

  -- the end
  pub fields_end : (places : List (Place F)) (o : ℕ) (s : S)
      → gathered take named s (fields places (elements o [])) ≡ Ok s
  fields_end places o s =
      ap (λ (l : Listing Item TlvFault). gathered take named s (fields places l)) (elements-nil o [] refl)
      ∙ ap (gathered take named s) (fields-nothing places)
      ∙ gathered-nothing take named s

  -- a field that nothing follows
  pub last_field : (places after : List (Place F)) (field : F) (o typ : ℕ) (value : List ℕ) (s t : S)
      → place_of typ places ≡ Some (field, after) → 0 < typ → typ < 2 ^ 32 → length value < 2 ^ 64
      → take s (field, placed o typ value) ≡ Ok t
      → gathered take named s (fields places (elements o (element typ value))) ≡ Ok t
  last_field places after field o typ value s t place above below fits step =
      ap (λ (x : List ℕ). gathered take named s (fields places (elements o x))) (sym (append-nil (element typ value)))
      ∙ field_again places after field o typ value [] s t place above below fits step
      ∙ fields_end after (o + length (element typ value)) t
