-- The digests of a record, one field after another.
use Rattle.std.proofs.Common.{◌≡◌, ℕ, ◌+◌, eqb, Bool, List, [], ◌∷◌, length, Option, Some, None, option_map, refl, ap}
use Rattle.std.proofs.Common.{sym}
use Rattle.std.proofs.Common.{◌∙◌, inl, inr, arith}
use Rattle.std.proofs.lemmas.Bool.{eq-eqb, ne_eqb, cases_eq}
use Rattle.ndn_tlv.specs.declared.order_table.FieldError.{FieldError}
use Rattle.ndn_tlv.specs.Listing.{Listing, nothing, only_fault, ◌then◌}
use Rattle.ndn_tlv.specs.Elements.{Item}
use Rattle.repo_object.specs.declared.record_fields.RecordField.{RecordField}
use Rattle.repo_object.specs.Records.{that_passes, digest_in, digests_among, counted_digests}

abbrev pub Fields : Type 0
Fields = Listing (RecordField × Item) FieldError

abbrev counts : ℕ → Option (List (List ℕ)) → Option (List (List ℕ))
counts n o = that_passes (λ digests. eqb (length digests) n) o

abbrev pub with_digest : List ℕ → Option (List (List ℕ)) → Option (List (List ℕ))
with_digest d o = option_map (λ digests. d ∷ digests) o

counts-more : (d : List ℕ) (o : Option (List (List ℕ))) (m : ℕ)
    → counts (m + 1) (with_digest d o) ≡ with_digest d (counts m o)
counts-more d None m = refl
counts-more d (Some digests) m =
    elim (cases_eq (length digests) m) [
      | inl e ↦ rw (eq-eqb (length (d ∷ digests)) (m + 1) (omega arith), eq-eqb (length digests) m e) refl
      | inr n ↦ rw (ne_eqb (length (d ∷ digests)) (m + 1) (λ e. n (omega arith)), ne_eqb (length digests) m n) refl
    ]

counts-full : (d : List ℕ) (o : Option (List (List ℕ))) → counts 0 (with_digest d o) ≡ None
counts-full d None = refl
counts-full d (Some digests) = rw (ne_eqb (length (d ∷ digests)) 0 (λ e. absurd (omega arith))) refl

module _ (indexes : Bool) (n : ℕ) (fields : Fields) where
  pub counted-fault : (f : FieldError) → fields ≡ only_fault f → counted_digests indexes n fields ≡ None
  unfolding digests_among
  counted-fault f is = ap (counted_digests indexes n) is

  pub counted-end : fields ≡ nothing → n ≡ 0 → counted_digests indexes n fields ≡ Some []
  unfolding digests_among
  counted-end is zero = ap (counted_digests indexes n) is ∙ rw zero refl

  pub counted-early : fields ≡ nothing → (n ≡ 0 → ⊥) → counted_digests indexes n fields ≡ None
  unfolding digests_among
  counted-early is some = ap (counted_digests indexes n) is ∙ rw (ne_eqb 0 n (λ e. some (sym e))) refl

  module _ (first : RecordField × Item) (rest : Fields) (is : fields ≡ (first then rest)) where
    pub counted-bad : digest_in indexes first ≡ None → counted_digests indexes n fields ≡ None
    unfolding digests_among
    counted-bad none = ap (counted_digests indexes n) is ∙ rw none refl

    module _ (d : List ℕ) (good : digest_in indexes first ≡ Some d) where
      pub counted-full : n ≡ 0 → counted_digests indexes n fields ≡ None
      unfolding digests_among
      counted-full zero =
          ap (counted_digests indexes n) is ∙ rw (good, zero) (counts-full d (digests_among indexes rest.items
          rest.fault))

      pub counted-digest : (m : ℕ) → n ≡ m + 1 → counted_digests indexes n fields
          ≡ with_digest d (counted_digests indexes m rest)
      unfolding digests_among
      counted-digest m more =
          ap (counted_digests indexes n) is ∙ rw (good, more) (counts-more d (digests_among indexes rest.items
          rest.fault) m)
