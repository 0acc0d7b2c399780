-- An element whose type and length have one octet each.
use Rattle.std.proofs.Common.{◌≡◌, ℕ, ◌+◌, ◌-◌, ◌^◌, ◌<◌, ◌≤◌, false, eqb, List, ◌∷◌, length, take, drop, Ok}
use Rattle.std.proofs.Common.{refl, sym, ap, ◌∙◌, arith, slice_index_or}
use Rattle.std.proofs.lemmas.Bool.{le-ltb, lt-ltb, ne_eqb}
use Rattle.std.proofs.lemmas.List.{drop_more}
use Rattle.std.proofs.lemmas.Slice.{between_to_end}
use Rattle.std.specs.List.{between}
use Rattle.ndn_tlv.specs.Elements.{Item, number_at, type_at, element_at}

-- the two octets at the start, and what follows them
pub two_and_rest : (octets : List ℕ) → 2 ≤ length octets
    → octets ≡ slice_index_or octets 0 0 ∷ slice_index_or octets 1 0 ∷ between 2 (length octets) octets
two_and_rest octets long =
    drop_more octets 0 0 (omega (arith, long))
    ∙ ap (λ rest. slice_index_or octets 0 0 ∷ rest) (drop_more octets 1 0 (omega (arith, long)))
    ∙ ap (λ rest. slice_index_or octets 0 0 ∷ slice_index_or octets 1 0 ∷ rest)
    (sym (between_to_end octets 2 (length octets) (omega arith)))

abbrev pub short_item : ℕ → List ℕ → ℕ → ℕ → List ℕ → Item
short_item offset octets typ len rest = record {
  typ = typ;
  value = take len rest;
  start = offset;
  value_start = offset + (length octets - length rest);
  end = offset + (length octets - length rest) + len;
}

pub short_element : (offset : ℕ) (octets : List ℕ) (typ len : ℕ) (rest : List ℕ) → octets ≡ typ ∷ len ∷ rest
    → 0 < typ → typ < 253 → len < 253 → len ≤ length rest
    → element_at offset octets ≡ Ok (short_item offset octets typ len rest, drop len rest)
unfolding element_at type_at number_at
short_element offset octets typ len rest is some short short_len whole =
    let below : typ < 2 ^ 32 = omega arith in
    let other : eqb typ 0 ≡ false = ne_eqb typ 0 (λ e. absurd (omega (arith, e))) in
    rw (
      is,
      lt-ltb typ 253 short,
      other,
      lt-ltb typ (2 ^ 32) below,
      lt-ltb len 253 short_len,
      le-ltb (length rest) len whole,
    ) refl
