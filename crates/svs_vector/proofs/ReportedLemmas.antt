-- What is read of a state vector is what its entries tell.
use Rattle.std.proofs.Common.{◌≡◌, ℕ, zero, suc, ◌+◌, ◌<◌, ◌≤◌, max, Bool, true, false, cond, eqb, ltb, List, [], ◌∷◌}
use Rattle.std.proofs.Common.{map, length, replicate, Option, Some, None, Result, Ok, Err, ◌⊎◌, inl, inr, refl, sym, ap}
use Rattle.std.proofs.Common.{subst, ◌∙◌, arith}
use Rattle.std.specs.Prelude.{slice_index, slice_set}
use Rattle.std.specs.List.{AllByRecursion, IsDistinct, position_from}
use Rattle.std.proofs.lemmas.Bool.{eqb-true, eqb-false, ltb-true, ltb-false}
use Rattle.std.proofs.lemmas.Slice.Eq.{bytes_eq-Decides}
use Rattle.std.proofs.lemmas.Iterator.Adapters.{position_from-zero}
use Rattle.std.proofs.lemmas.List.{length-map, length-replicate, length-set}
use Rattle.ndn_tlv.specs.declared.order_table.FieldError.{FieldError}
use Rattle.ndn_tlv.specs.Listing.{Listing, gather, gathered, ◌then◌, ◌>>=◌}
use Rattle.ndn_tlv.specs.Elements.{Item, elements}
use Rattle.ndn_tlv.specs.OrderTable.{fields}
use Rattle.ndn_name.specs.Names.{Component, encoding}
use Rattle.svs_vector.specs.declared.vector_fault.VectorFault.{VectorFault}
use Rattle.svs_vector.specs.declared.vector_fault.VectorFault.TheVariants.{BadVector, NumberTooLarge}
use Rattle.svs_vector.specs.declared.read.VectorField.{VectorField}
use Rattle.svs_vector.specs.Format.{state_vector_table}
use Rattle.svs_vector.specs.Vectors.{join}
use Rattle.svs_vector.specs.Rosters.{has_same_octets, member_of, IsRoster}
use Rattle.svs_vector.specs.StateVector.{Entry, entry_in, fault_in, counted, with_vector_entry, vector_in, vector_among}
use Rattle.svs_vector.specs.StateVector.{vector_of}
use Rattle.svs_vector.specs.EntriesVector.{number_in_entry, greatest_number, vector_of_entries, IsCounted, FieldsTell}
use Rattle.svs_vector.specs.EntriesVector.{IsVector}
use Rattle.svs_vector.specs.EntriesVector.{IsFault}
use Rattle.svs_vector.specs.EntriesVector.FieldsTell.{ended, broken, no_entry, too_large, one, later}
use Rattle.svs_vector.proofs.JoinLemmas.{join-[], join_assoc, join_zeros}

-- ---- one entry

-- what one entry says of the members
abbrev pub numbers_of_entry : List (List Component) → Entry → List ℕ
numbers_of_entry roster entry = map (λ name. number_in_entry name entry) roster

abbrev Other : Entry → List (List Component) → Type 0
Other entry names = AllByRecursion (λ name. has_same_octets entry.0 name ≡ false) names

pub join_zeros_after : (v : List ℕ) (n : ℕ) → n ≤ length v → join v (replicate n 0) ≡ v
unfolding join
join_zeros_after v zero h = join-[] v
join_zeros_after [] (suc n) h = absurd (omega arith)
join_zeros_after (k ∷ v) (suc n) h =
    let e : max k 0 ≡ k = omega arith in let t = join_zeros_after v n (omega arith) in cc

reports_others_nothing : (entry : Entry) (names : List (List Component)) → Other entry names
    → numbers_of_entry names entry ≡ replicate (length names) 0
reports_others_nothing entry [] h = refl
reports_others_nothing entry (name ∷ names) h = rw (h.0, reports_others_nothing entry names h.1) refl

-- who has the entry's name is no other
same_name_apart : (entry : Entry) (name : List Component) (names : List (List Component))
    → has_same_octets entry.0 name ≡ true
    → AllByRecursion (λ other. has_same_octets name other ≡ false) names → Other entry names
same_name_apart entry name [] same apart = apart
same_name_apart entry name (other ∷ names) same apart =
    let octets : encoding entry.0 ≡ encoding name = (bytes_eq-Decides (encoding entry.0) (encoding name)).0 same in
    (rw octets apart.0, same_name_apart entry name names same apart.1)

not_found_here : (b : Bool) (i : ℕ) (more : Option ℕ) → cond b (Some i) more ≡ None → (b ≡ false) × (more ≡ None)
not_found_here true i more h = absurd cc
not_found_here false i more h = (refl, h)

found_here : (b : Bool) (i m : ℕ) (more : Option ℕ) → cond b (Some i) more ≡ Some m
    → ((b ≡ true) × (m ≡ i)) ⊎ ((b ≡ false) × (more ≡ Some m))
found_here true i m more h = inl (refl, cc)
found_here false i m more h = inr (refl, h)

-- a node that is no member
not_found : (entry : Entry) (i : ℕ) (names : List (List Component))
    → position_from (has_same_octets entry.0) i names ≡ None → Other entry names
not_found entry i [] h = tt
not_found entry i (name ∷ names) h =
    let f = not_found_here (has_same_octets entry.0 name) i (position_from (has_same_octets entry.0) (i + 1) names) h in
    (f.0, not_found entry (i + 1) names f.1)

-- a member: its number in the vector becomes the greater
record Raises (entry : Entry) (names : List (List Component)) (v : List ℕ) (i m : ℕ) : Type 0 where
  place : ℕ
  is : m ≡ i + place
  within : place < length names
  raised : slice_set v place (max (slice_index v place) entry.1) ≡ join v (numbers_of_entry names entry)

raises_first : (entry : Entry) (name : List Component) (names : List (List Component)) (k : ℕ) (v : List ℕ) (i : ℕ)
    → IsDistinct has_same_octets (name ∷ names) → length v ≡ length names → has_same_octets entry.0 name ≡ true
    → Raises entry (name ∷ names) (k ∷ v) i i
unfolding IsDistinct join
raises_first entry name names k v i apart long same =
    let others = reports_others_nothing entry names (same_name_apart entry name names same apart.0) in
    let rest : join v (numbers_of_entry names entry) ≡ v =
    ap (join v) others ∙ join_zeros_after v (length names) (omega (arith, long)) in
    record { place = 0; is = omega arith; within = omega arith; raised = rw (same, rest) refl }

raises_later : (entry : Entry) (name : List Component) (names : List (List Component)) (k : ℕ) (v : List ℕ) (i m : ℕ)
    → has_same_octets entry.0 name ≡ false → Raises entry names v (i + 1) m → Raises entry (name ∷ names) (k ∷ v) i m
unfolding join
raises_later entry name names k v i m other r =
    let e : max k 0 ≡ k = omega arith in
    record {
      place = suc r.place;
      is = omega (arith, r.is);
      within = omega (arith, r.within);
      raised = rw (other, e) (ap (λ (l : List ℕ). k ∷ l) r.raised);
    }

raises : (entry : Entry) (names : List (List Component)) (v : List ℕ) (i m : ℕ) → IsDistinct has_same_octets names
    → length v ≡ length names
    → position_from (has_same_octets entry.0) i names ≡ Some m → Raises entry names v i m
unfolding IsDistinct
raises entry [] v i m apart long h = absurd cc
raises entry (name ∷ names) [] i m apart long h = absurd (omega arith)
raises entry (name ∷ names) (k ∷ v) i m apart long h =
    elim (found_here (has_same_octets entry.0 name) i m (position_from (has_same_octets entry.0) (i + 1) names) h) [
      | inl f ↦
          subst (λ (n : ℕ). Raises entry (name ∷ names) (k ∷ v) i n) (sym f.1)
          (raises_first entry name names k v i apart (omega arith) f.0)
      | inr f ↦ raises_later entry name names k v i m f.0 (raises entry names v (i + 1) m apart.1 (omega arith) f.1)
    ]

-- ---- a further entry

pub reported_more : (names : List (List Component)) (entry : Entry) (es : List Entry)
    → join (numbers_of_entry names entry) (vector_of_entries names es) ≡ vector_of_entries names (entry ∷ es)
unfolding join
reported_more [] entry es = refl
reported_more (name ∷ names) entry es = ap (λ (l : List ℕ). greatest_number name (entry ∷ es) ∷ l)
    (reported_more names entry es)

pub reported_none : (names : List (List Component)) → vector_of_entries names [] ≡ replicate (length names) 0
reported_none [] = refl
reported_none (name ∷ names) = ap (λ (l : List ℕ). 0 ∷ l) (reported_none names)

module _ (roster : List (List Component)) (are : IsRoster roster) where
  -- what an entry that is counted makes of a vector
  pub record Counts (v : List ℕ) (entry : Entry) (w : List ℕ) : Type 0 where
    pub long : length w ≡ length roster
    pub joined : w ≡ join v (numbers_of_entry roster entry)

  pub stranger_counts : (v : List ℕ) (entry : Entry) → length v ≡ length roster → member_of entry.0 roster ≡ None
      → Counts v entry v
  stranger_counts v entry long none =
      let others =
      reports_others_nothing entry roster
      (not_found entry 0 roster (sym (position_from-zero (has_same_octets entry.0) roster) ∙ none)) in
      record {
        long = long;
        joined = sym (ap (join v) others ∙ join_zeros_after v (length roster) (omega (arith, long)));
      }

  pub member_counts : (v : List ℕ) (entry : Entry) (m : ℕ) → length v ≡ length roster
      → member_of entry.0 roster ≡ Some m
      → Counts v entry (slice_set v m (max (slice_index v m) entry.1))
  member_counts v entry m long found =
      let r =
      raises entry roster v 0 m are.different long
      (sym (position_from-zero (has_same_octets entry.0) roster) ∙ found) in
      let same : m ≡ r.place = omega (arith, r.is) in
      record { long = length-set v m (max (slice_index v m) entry.1) ∙ long; joined = rw same r.raised }

-- ---- the fields, one after another

abbrev Fields : Type 0
Fields = Listing (VectorField × Item) FieldError

-- what they tell, and what that makes of the vector so far
abbrev Outcome : List (List Component) → Item → List ℕ → Fields → Result (List ℕ) VectorFault → Type 0
Outcome roster e v read (Ok w) =
    (es : List Entry)
    × FieldsTell roster e read (Ok es)
    × (IsRoster roster → length v ≡ length roster → w ≡ join v (vector_of_entries roster es))
Outcome roster e v read (Err fault) = FieldsTell roster e read (Err fault)

module _ (roster : List (List Component)) (e : Item) where
  abbrev reads : List ℕ → Fields → Result (List ℕ) VectorFault
  reads v read = gathered (with_vector_entry roster) (fault_in e) v read

  module _ (v : List ℕ) (x : VectorField × Item) (rest : Fields) (entry : Entry) (is : entry_in x.1 ≡ Ok entry) where
    counted_then : (t : List ℕ) → IsCounted roster entry
        → ((are : IsRoster roster) → length v ≡ length roster → Counts roster are v entry t)
        → (r : Result (List ℕ) VectorFault) → Outcome roster e t rest r → Outcome roster e v (x then rest) r
    counted_then t fits counts (Ok w) o =
        let es = o.0 in (
          entry ∷ es,
          one entry is fits o.1,
          λ are long.
              let here = counts are long in
              o.2 are here.long
              ∙ ap (λ (l : List ℕ). join l (vector_of_entries roster es)) here.joined
              ∙ join_assoc v (numbers_of_entry roster entry) (vector_of_entries roster es)
              ∙ ap (join v) (reported_more roster entry es),
        )
    counted_then t fits counts (Err fault) o = later entry is fits o

    tested : (b : Bool) (m : ℕ) → ltb 65535 entry.1 ≡ b → member_of entry.0 roster ≡ Some m
        → ((t : List ℕ) → Outcome roster e t rest (reads t rest))
        → Outcome roster e v (x then rest)
        (cond b (Err (NumberTooLarge m entry.1)) (Ok (slice_set v m (max (slice_index v m) entry.1)))
        >>= λ t. reads t rest)
    tested true m large found others = too_large entry m is found (ltb-true 65535 entry.1 large)
    tested false m small found others =
        let t = slice_set v m (max (slice_index v m) entry.1) in
        let fits : IsCounted roster entry = rw found (ltb-false 65535 entry.1 small) in
        counted_then t fits (λ are long. member_counts roster are v entry m long found) (reads t rest) (others t)

    known : (o : Option ℕ) → member_of entry.0 roster ≡ o → ((t : List ℕ) → Outcome roster e t rest (reads t rest))
        → Outcome roster e v (x then rest) (counted v entry.1 o >>= λ t. reads t rest)
    known None none others =
        let fits : IsCounted roster entry = rw none tt in
        counted_then v fits (λ are long. stranger_counts roster are v entry long none) (reads v rest) (others v)
    known (Some m) found others = tested (ltb 65535 entry.1) m refl found others

  read_entry : (v : List ℕ) (x : VectorField × Item) (rest : Fields) (r : Result Entry VectorFault) → entry_in x.1 ≡ r
      → ((t : List ℕ) → Outcome roster e t rest (reads t rest))
      → Outcome roster e v (x then rest)
      ((r >>= λ entry. counted v entry.1 (member_of entry.0 roster)) >>= λ t. reads t rest)
  read_entry v x rest (Ok entry) is others = known v x rest entry is (member_of entry.0 roster) refl others
  read_entry v x rest (Err fault) is others = no_entry is

  outcome : (v : List ℕ) (items : List (VectorField × Item)) (fault : Option FieldError)
      → Outcome roster e v (record { items = items; fault = fault }) (reads v (record { items = items; fault = fault }))
  unfolding gather
  outcome v [] None = (
    [],
    ended,
    λ are long. sym (ap (join v) (reported_none roster) ∙ join_zeros_after v (length roster) (omega (arith, long))),
  )
  outcome v [] (Some f) = broken
  outcome v (x ∷ xs) fault =
      read_entry v x (record { items = xs; fault = fault }) (entry_in x.1) refl (λ t. outcome t xs fault)

-- ---- the whole

other : (e e' : Item) (es es' : List Item) → e ∷ es ≡ e' ∷ es' → eqb e.typ 201 ≡ false → e'.typ ≡ 201 → ⊥
other e e' es es' same typ typ' =
    let types : e.typ ≡ e'.typ = cc in
    eqb-false e.typ 201 typ (types ∙ typ')

module _ (roster : List (List Component)) (octets : List ℕ) where
  abbrev pub Whole : Result (List ℕ) VectorFault → Type 0
  Whole (Ok vector) = IsRoster roster → IsVector roster octets vector
  Whole (Err fault) = IsFault roster octets fault

  inside : (e : Item) (es : List Item) → (elements 0 octets).items ≡ e ∷ es → e.typ ≡ 201
      → (r : Result (List ℕ) VectorFault)
      → Outcome roster e (replicate (length roster) 0) (fields state_vector_table (elements e.value_start e.value)) r
      → Whole r
  inside e es first typ (Ok vector) o = λ are. record {
    entries = o.0;
    begins = record { vector = e; after = es; first = first; typ = typ; tells = o.1 };
    received =
        o.2 are (length-replicate (length roster) 0)
        ∙ join_zeros (length roster) (vector_of_entries roster o.0)
        (omega (arith, length-map roster (λ name. greatest_number name o.0)));
  }
  inside e es first typ (Err fault) o = inr (record { vector = e; after = es; first = first; typ = typ; tells = o })

  typed : (b : Bool) (e : Item) (es : List Item) → (elements 0 octets).items ≡ e ∷ es → eqb e.typ 201 ≡ b
      → Whole (cond b (Ok e) (Err (BadVector 0)) >>= vector_in roster)
  typed true e es first typ =
      let read = fields state_vector_table (elements e.value_start e.value) in
      inside e es first (eqb-true e.typ 201 typ) (vector_in roster e)
      (outcome roster e (replicate (length roster) 0) read.items read.fault)
  typed false e es first typ = inl ((λ e' es' first' typ'. other e e' es es' (sym first ∙ first') typ typ'), refl)

  among : (items : List Item) → (elements 0 octets).items ≡ items → Whole (vector_among items >>= vector_in roster)
  among [] none = inl ((λ e es first typ. absurd cc), refl)
  among (e ∷ es) first = typed (eqb e.typ 201) e es first refl

  pub vector_is_received : Whole (vector_of roster octets)
  vector_is_received = among (elements 0 octets).items refl
