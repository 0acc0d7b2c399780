-- The fields that a table gives stand in its order.
use Rattle.std.proofs.Common.{◌≡◌, ◌≢◌, ℕ, zero, suc, ◌≤◌, Bool, true, false, cond, eqb, List, [], ◌∷◌, length}
use Rattle.std.proofs.Common.{length-drop, drop, Option, Some, None, slice_get, refl, sym, ap, subst, ◌⊎◌, inl, inr}
use Rattle.std.proofs.Common.{◌∙◌, arith}
use Rattle.std.proofs.lemmas.Bool.{cases_lt, eqb-true, eqb-false}
use Rattle.std.proofs.lemmas.Option.{slice_get_within}
use Rattle.ndn_tlv.specs.declared.order_table.Place.{Place}
use Rattle.ndn_tlv.specs.declared.order_table.FieldError.{FieldError}
use Rattle.ndn_tlv.specs.declared.order_table.FieldError.TheVariants.{Critical}
use Rattle.ndn_tlv.specs.declared.tlv_fault.TlvFault.{TlvFault}
use Rattle.ndn_tlv.specs.Listing.{Listing, only_fault, ◌then◌}
use Rattle.ndn_tlv.specs.Elements.{Item}
use Rattle.ndn_tlv.specs.OrderTable.{is_critical_type, place_of, field_then, fields_among, IsFreeOf, HasNoPlace}
use Rattle.ndn_tlv.specs.OrderTable.{AreFields}
use Rattle.ndn_tlv.specs.OrderTable.AreFields.{ended, broken, field, stranger, critical}
use Rattle.ndn_tlv.proofs.Steps.{chosen}

-- the place that comes next in a table
drop_step : {F : Type 0} (table : List (Place F)) (from : ℕ) (place : Place F) (places : List (Place F))
    → drop from table ≡ place ∷ places
    → (slice_get table from ≡ Some place) × (drop (suc from) table ≡ places)
drop_step [] zero place places h = absurd cc
drop_step [] (suc from) place places h = absurd cc
drop_step (p ∷ ps) zero place places h = (cc, cc)
drop_step (p ∷ ps) (suc from) place places h = drop_step ps from place places h

-- a place that is there
record Found {F : Type 0} (table : List (Place F)) (typ from : ℕ) (found : F × List (Place F)) : Type 0 where
  at : ℕ
  place : Place F
  following : from ≤ at
  stands : slice_get table at ≡ Some place
  same : place.typ ≡ typ
  free : IsFreeOf table typ from at
  field_is : place.field ≡ found.0
  rest : drop (cond place.repeats at (suc at)) table ≡ found.1

at_or_after : (from k : ℕ) → from ≤ k → (k ≡ from) ⊎ (suc from ≤ k)
at_or_after from k h = elim (cases_lt from k) [ inl lt ↦ inr (omega arith) | inr le ↦ inl (omega arith) ]

-- no place stands where the table has ended
past_the_end : {F : Type 0} (table : List (Place F)) (from k : ℕ) (place : Place F)
    → drop from table ≡ [] → from ≤ k → slice_get table k ≡ Some place → ⊥
past_the_end table from k place h above get =
    omega (arith, slice_get_within table k place get, ap length h, length-drop from table)

module _ {F : Type 0} (table : List (Place F)) (typ : ℕ) where
  -- a place of another type is no place of this one
  other_here : (from k : ℕ) (here place : Place F) → slice_get table from ≡ Some here
      → eqb here.typ typ ≡ false → k ≡ from → slice_get table k ≡ Some place → place.typ ≢ typ
  other_here from k here place h differs at get =
      let same : here ≡ place = let both : Some here ≡ Some place = sym h ∙ ap (slice_get table) (sym at) ∙ get in cc in
      rw (← same) (eqb-false here.typ typ differs)

  open_after : (from : ℕ) (here : Place F) (places : List (Place F))
      → drop from table ≡ here ∷ places → (b : Bool)
      → drop (cond b from (suc from)) table ≡ cond b (here ∷ places) places
  open_after from here places h true = h
  open_after from here places h false = (drop_step table from here places h).1

  place_found : (places : List (Place F)) (from : ℕ) (found : F × List (Place F))
      → drop from table ≡ places → place_of typ places ≡ Some found → Found table typ from found
  unfolding place_of
  place_found [] from found h e = absurd cc
  place_found (p ∷ places) from found h e =
      let step = drop_step table from p places h in
      let here : F × List (Place F) = (p.field, cond p.repeats (p ∷ places) places) in
      elim (chosen (eqb p.typ typ) (Some here) (place_of typ places) (Some found) e) [
        | inl a ↦
            let same : here ≡ found = let both = a.1 in cc in
            record {
              at = from;
              place = p;
              following = omega arith;
              stands = step.0;
              same = eqb-true p.typ typ a.0;
              free = λ k place above below get. absurd (omega arith);
              field_is = ap (λ (x : F × List (Place F)). x.0) same;
              rest = open_after from p places h p.repeats ∙ ap (λ (x : F × List (Place F)). x.1) same;
            }
        | inr a ↦
            let f = place_found places (suc from) found step.1 a.1 in
            record {
              at = f.at;
              place = f.place;
              following = omega (arith, f.following);
              stands = f.stands;
              same = f.same;
              free = λ k place above below get. elim (at_or_after from k above) [
                | inl at ↦ other_here from k p place step.0 a.0 at get
                | inr following ↦ f.free k place following below get
              ];
              field_is = f.field_is;
              rest = f.rest;
            }
      ]

  place_missing : (places : List (Place F)) (from : ℕ) → drop from table ≡ places
      → place_of typ places ≡ None → HasNoPlace table typ from
  unfolding place_of
  place_missing [] from h e k place above get = absurd (past_the_end table from k place h above get)
  place_missing (p ∷ places) from h e k place above get =
      let step = drop_step table from p places h in
      let here : F × List (Place F) = (p.field, cond p.repeats (p ∷ places) places) in
      elim (chosen (eqb p.typ typ) (Some here) (place_of typ places) None e) [
        | inl a ↦ let no = a.1 in absurd cc
        | inr a ↦ elim (at_or_after from k above) [
          | inl at ↦ other_here from k p place step.0 a.0 at get
          | inr following ↦ place_missing places (suc from) step.1 a.1 k place following get
        ]
      ]

module _ {F : Type 0} (table : List (Place F)) (fault : Option TlvFault) where
  critical_or_not : (from : ℕ) (places : List (Place F)) (e : Item) (es : List Item)
      (following : Listing (F × Item) FieldError) (b : Bool)
      → HasNoPlace table e.typ from → is_critical_type e.typ ≡ b
      → AreFields table from es fault following
      → AreFields table from (e ∷ es) fault (cond b (only_fault (Critical e.typ e.start)) following)
  critical_or_not from places e es following true none is go = critical none is
  critical_or_not from places e es following false none is go = stranger none is go

  stands_or_not : (from : ℕ) (places : List (Place F)) (e : Item) (es : List Item)
      (others : List (Place F) → Listing (F × Item) FieldError) (r : Option (F × List (Place F)))
      → drop from table ≡ places → place_of e.typ places ≡ r
      → ((next : ℕ) (following : List (Place F)) → drop next table ≡ following
      → AreFields table next es fault (others following))
      → AreFields table from (e ∷ es) fault (field_then others places e r)
  stands_or_not from places e es others None h none go =
      critical_or_not from places e es (others places) (is_critical_type e.typ)
      (place_missing table e.typ places from h none) refl (go from places h)
  stands_or_not from places e es others (Some found) h some go =
      let f = place_found table e.typ places from found h some in
      let P : F → Type 0 = λ name. AreFields table from (e ∷ es) fault ((name, e) then others found.1) in
      subst P f.field_is
      (field f.at f.place f.following f.stands f.same f.free (go (cond f.place.repeats f.at (suc f.at)) found.1 f.rest))

-- the fields that a table gives stand in its order
pub fields_stand : {F : Type 0} (table : List (Place F)) (fault : Option TlvFault) (es : List Item) (from : ℕ)
    (places : List (Place F))
    → drop from table ≡ places → AreFields table from es fault (fields_among places es fault)
unfolding fields_among
fields_stand table None [] from places h = ended
fields_stand table (Some f) [] from places h = broken
fields_stand table fault (e ∷ es) from places h =
    stands_or_not table fault from places e es (λ following. fields_among following es fault) (place_of e.typ places) h
    refl
    (λ next following at. fields_stand table fault es next following at)
