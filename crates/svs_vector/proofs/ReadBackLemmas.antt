-- A state vector that was written is read back.
use Rattle.std.proofs.Common.{◌≡◌, ℕ, zero, suc, ◌+◌, ◌^◌, ◌<◌, ◌≤◌, max, Bool, true, false, cond, not, eqb, List, []}
use Rattle.std.proofs.Common.{◌∷◌, length, replicate, get_or, Option, Some, None, Result, Ok, refl, sym, ap, ◌∙◌, arith}
use Rattle.std.specs.Prelude.{slice_index, slice_set}
use Rattle.std.specs.List.{All, AllByRecursion, Contains, IsDistinct, flat_map}
use Rattle.std.specs.Map.{keys_of, values_of}
use Rattle.std.proofs.lemmas.Bool.{le-ltb, eqb-true}
use Rattle.std.proofs.lemmas.Slice.Eq.{bytes_eq-Decides}
use Rattle.std.proofs.lemmas.List.{length-map, length-replicate}
use Rattle.std.proofs.lemmas.List.Elements.{All-head, All-tail, All-from_recursion, All-weaker}
use Rattle.std.proofs.lemmas.List.Sorted.{Contains-permutation, IsPermutation-sym}
use Rattle.ndn_tlv.specs.declared.order_table.FieldError.{FieldError}
use Rattle.ndn_tlv.specs.declared.tlv_fault.TlvFault.{TlvFault}
use Rattle.ndn_tlv.specs.Spelling.{element}
use Rattle.ndn_tlv.specs.NumberField.{number_field}
use Rattle.ndn_tlv.specs.Listing.{Listing, nothing, ◌then◌, gathered, ◌>>=◌}
use Rattle.ndn_tlv.specs.Elements.{Item, placed, elements}
use Rattle.ndn_tlv.specs.OrderTable.{place_of, fields_among, fields}
use Rattle.ndn_tlv.proofs.Listings.{elements-nil}
use Rattle.ndn_tlv.proofs.Fields.{fields-nothing, fields-field}
use Rattle.ndn_tlv.proofs.NumberFields.{number_of-number_field}
use Rattle.ndn_name.specs.Names.{Component, IsName, encoding, name_of}
use Rattle.ndn_name.proofs.Encodings.{name_of-encoding}
use Rattle.ndn_name.proofs.SizeLemmas.{width}
use Rattle.ndn_packet.proofs.ReadBack.{alone, followed, gathers, gathered-nothing}
use Rattle.svs_vector.specs.declared.vector_fault.VectorFault.{VectorFault}
use Rattle.svs_vector.specs.declared.entry.EntryField.TheVariants as entry_field
use Rattle.svs_vector.specs.Format.{entry_table}
use Rattle.svs_vector.specs.declared.read.VectorField.TheVariants as vector_field
use Rattle.svs_vector.specs.Format.{state_vector_table}
use Rattle.svs_vector.specs.Vectors.{join}
use Rattle.svs_vector.specs.Rosters.{has_same_octets, member_of, IsOwnName, IsRoster}
use Rattle.svs_vector.specs.StateVector.{Entry, EntrySoFar, entry_name, good_number, with_entry_field, entry_fields}
use Rattle.svs_vector.specs.StateVector.{entry_in, both, fault_in, counted, with_vector_entry, vector_in, vector_among}
use Rattle.svs_vector.specs.StateVector.{vector_of}
use Rattle.svs_vector.specs.EntriesVector.{number_in_entry, greatest_number, vector_of_entries, HaveSameEntries}
use Rattle.svs_vector.specs.WrittenVector.{in_canonical_order, known_entries, entry_value, written_entry}
use Rattle.svs_vector.specs.WrittenVector.{written_vector}
use Rattle.svs_vector.proofs.JoinLemmas.{join_assoc, join_zeros}
use Rattle.svs_vector.proofs.OrderLemmas.{names_in_order, numbers_in_order, names_known, numbers_known}
use Rattle.svs_vector.proofs.LengthLemmas.{value_short, body_short, IsWithin}
use Rattle.svs_vector.proofs.SortedLemmas.{known_in_order, other_way}
use Rattle.svs_vector.proofs.ReportedLemmas.{numbers_of_entry, reported_more, reported_none, Counts, stranger_counts}
use Rattle.svs_vector.proofs.ReportedLemmas.{member_counts}
use Rattle.svs_vector.proofs.ReportedLemmas.{join_zeros_after}

-- ---- an entry

entry_place : place_of 202 state_vector_table ≡ Some (vector_field.Entry, state_vector_table)
unfolding place_of
entry_place = refl

entry_places : (a b : Item) → a.typ ≡ 7 → b.typ ≡ 204
    → fields entry_table (a then (b then nothing)) ≡ ((entry_field.Name, a) then ((entry_field.SeqNo, b) then nothing))
unfolding fields_among place_of
entry_places a b h k = rw (h, k) refl

name_again : (e : Item) (name : List Component) → e.value ≡ encoding name → IsName name
    → entry_name e (name_of e.value_start e.value) ≡ Ok name
name_again e name is valid =
    ap (entry_name e) (ap (name_of e.value_start) is ∙ name_of-encoding e.value_start name valid)

-- an entry that may be written
pub record IsWritten (entry : Entry) : Type 0 where
  pub name : IsOwnName entry.0
  pub small : entry.1 < 2 ^ 16

module _ (o typ : ℕ) (entry : Entry) (is : IsWritten entry) where
  entry_again : entry_in (placed o typ (entry_value entry)) ≡ Ok entry
  entry_again =
      let e = placed o typ (entry_value entry) in
      let v = e.value_start in
      let name = element 7 (encoding entry.0) in
      let number = number_field entry.1 in
      let p = v + length name in
      let a = placed v 7 (encoding entry.0) in
      let b = placed p 204 number in
      let read : elements v (entry_value entry) ≡ (a then (b then nothing)) =
      followed v 7 (encoding entry.0) (element 204 number) (b then nothing) (omega arith) (omega arith)
      (omega (arith, is.name.1))
      (alone p 204 number (omega arith) (omega arith) (omega (arith, width entry.1))) in
      let none : EntrySoFar = record { name = None; number = None } in
      let named : EntrySoFar = record { name = Some entry.0; number = None } in
      let whole : EntrySoFar = record { name = Some entry.0; number = Some entry.1 } in
      let first : with_entry_field none (entry_field.Name, a) ≡ Ok named =
      ap (λ (r : Result (List Component) VectorFault). r >>= λ n. Ok (record none { name = Some n }))
      (name_again a entry.0 refl is.name.0) in
      let second : with_entry_field named (entry_field.SeqNo, b) ≡ Ok whole =
      ap (λ (r : Option ℕ). good_number b r >>= λ n. Ok (record named { number = Some n }))
      (number_of-number_field entry.1 (omega (arith, is.small))) in
      let all : entry_fields e ≡ Ok whole =
      ap (λ (l : Listing Item TlvFault). gathered with_entry_field (fault_in e) none (fields entry_table l)) read
      ∙ ap (gathered with_entry_field (fault_in e) none) (entry_places a b refl refl)
      ∙ gathers with_entry_field (fault_in e) none named (entry_field.Name, a) ((entry_field.SeqNo, b) then nothing)
      first
      ∙ gathers with_entry_field (fault_in e) named whole (entry_field.SeqNo, b) nothing second
      ∙ gathered-nothing with_entry_field (fault_in e) whole in
      ap (λ (r : Result EntrySoFar VectorFault). r >>= λ s. both e s.name s.number) all

-- ---- the entries, one after another

abbrev raised : List ℕ → ℕ → Option ℕ → List ℕ
raised v n None = v
raised v n (Some m) = slice_set v m (max (slice_index v m) n)

abbrev taken : List (List Component) → List ℕ → List Entry → List ℕ
taken roster v [] = v
taken roster v (e ∷ es) = taken roster (raised v e.1 (member_of e.0 roster)) es

counted_small : (v : List ℕ) (n : ℕ) (m : Option ℕ) → n < 2 ^ 16 → counted v n m ≡ Ok (raised v n m)
counted_small v n None h = refl
counted_small v n (Some m) h = rw (le-ltb 65535 n (omega (arith, h))) refl

module _ (roster : List (List Component)) (named : FieldError → VectorFault) where
  entries_again : (o : ℕ) (v : List ℕ) (es : List Entry) → All IsOwnName (keys_of es)
      → All (λ n. n < 2 ^ 16) (values_of es)
      → gathered (with_vector_entry roster) named v (fields state_vector_table (elements o (flat_map written_entry es)))
      ≡ Ok (taken roster v es)
  entries_again o v [] names numbers =
      ap (λ (l : Listing Item TlvFault). gathered (with_vector_entry roster) named v (fields state_vector_table l))
      (elements-nil o [] refl)
      ∙ ap (gathered (with_vector_entry roster) named v) (fields-nothing state_vector_table)
      ∙ gathered-nothing (with_vector_entry roster) named v
  entries_again o v (e ∷ es) names numbers =
      let take = with_vector_entry roster in
      let is : IsWritten e = record {
        name = All-head IsOwnName e.0 (keys_of es) names;
        small = All-head (λ n. n < 2 ^ 16) e.1 (values_of es) numbers;
      } in
      let item = placed o 202 (entry_value e) in
      let p = o + length (written_entry e) in
      let rest = elements p (flat_map written_entry es) in
      let next = raised v e.1 (member_of e.0 roster) in
      let read : elements o (flat_map written_entry (e ∷ es)) ≡ (item then rest) =
      followed o 202 (entry_value e) (flat_map written_entry es) rest (omega arith) (omega arith)
      (omega (arith, value_short 1000 e is.name.1)) refl in
      let field : fields state_vector_table (item then rest)
      ≡ ((vector_field.Entry, item) then fields state_vector_table rest) =
      fields-field state_vector_table item rest vector_field.Entry state_vector_table entry_place in
      let step : take v (vector_field.Entry, item) ≡ Ok next =
      ap (λ (r : Result Entry VectorFault). r >>= λ entry. counted v entry.1 (member_of entry.0 roster))
      (entry_again o 202 e is)
      ∙ counted_small v e.1 (member_of e.0 roster) is.small in
      ap (λ (l : Listing Item TlvFault). gathered take named v (fields state_vector_table l)) read
      ∙ ap (gathered take named v) field
      ∙ gathers take named v next (vector_field.Entry, item) (fields state_vector_table rest) step
      ∙ entries_again p next es (All-tail IsOwnName e.0 (keys_of es) names)
      (All-tail (λ n. n < 2 ^ 16) e.1 (values_of es) numbers)

module _ (roster : List (List Component)) (are : IsRoster roster) where
  raised_counts : (v : List ℕ) (e : Entry) (m : Option ℕ) → length v ≡ length roster → member_of e.0 roster ≡ m
      → Counts roster are v e (raised v e.1 m)
  raised_counts v e None long found = stranger_counts roster are v e long found
  raised_counts v e (Some m) long found = member_counts roster are v e m long found

  taken_received : (v : List ℕ) (es : List Entry) → length v ≡ length roster
      → taken roster v es ≡ join v (vector_of_entries roster es)
  taken_received v [] long =
      sym (ap (join v) (reported_none roster) ∙ join_zeros_after v (length roster) (omega (arith, long)))
  taken_received v (e ∷ es) long =
      let here = raised_counts v e (member_of e.0 roster) long refl in
      taken_received (raised v e.1 (member_of e.0 roster)) es here.long
      ∙ ap (λ (l : List ℕ). join l (vector_of_entries roster es)) here.joined
      ∙ join_assoc v (numbers_of_entry roster e) (vector_of_entries roster es)
      ∙ ap (join v) (reported_more roster e es)

-- ---- what the known entries tell

stranger_received : (name : List Component) (es : List Entry)
    → All (λ other. has_same_octets other name ≡ false) (keys_of es) → greatest_number name es ≡ 0
stranger_received name [] h = refl
stranger_received name (e ∷ es) h =
    let P : List Component → Type 0 = λ other. has_same_octets other name ≡ false in
    rw (All-head P e.0 (keys_of es) h, stranger_received name es (All-tail P e.0 (keys_of es) h)) refl

first_reported : (b : Bool) (name : List Component) (n : ℕ) (es : List Entry) → eqb n 0 ≡ b → greatest_number name es
    ≡ 0
    → greatest_number name (cond (not b) ((name, n) ∷ es) es) ≡ n
first_reported true name n es spent none = none ∙ sym (eqb-true n 0 spent)
first_reported false name n es some none =
    let same : has_same_octets name name ≡ true = (bytes_eq-Decides (encoding name) (encoding name)).1 refl in
    let most : max n 0 ≡ n = omega arith in
    rw (same, none) most

other_received : (b : Bool) (other name : List Component) (n : ℕ) (es : List Entry) → has_same_octets name other ≡ false
    → greatest_number other (cond b ((name, n) ∷ es) es) ≡ greatest_number other es
other_received true other name n es apart =
    let most : max 0 (greatest_number other es) ≡ greatest_number other es = omega arith in rw apart most
other_received false other name n es apart = refl

others_received : (b : Bool) (names : List (List Component)) (name : List Component) (n : ℕ) (es : List Entry)
    → AllByRecursion (λ other. has_same_octets name other ≡ false) names
    → vector_of_entries names (cond b ((name, n) ∷ es) es) ≡ vector_of_entries names es
others_received b [] name n es apart = refl
others_received b (other ∷ names) name n es apart =
    let h = other_received b other name n es apart.0 in let t = others_received b names name n es apart.1 in cc

names_apart : (name : List Component) (names : List (List Component))
    → AllByRecursion (λ other. has_same_octets name other ≡ false) names
    → AllByRecursion (λ other. has_same_octets other name ≡ false) names
names_apart name [] apart = apart
names_apart name (other ∷ names) apart = (other_way name other apart.0, names_apart name names apart.1)

known_received : (names : List (List Component)) (ns : List ℕ) → IsDistinct has_same_octets names → length ns
    ≡ length names
    → vector_of_entries names (known_entries names ns) ≡ ns
unfolding IsDistinct
known_received [] [] apart long = refl
known_received [] (n ∷ ns) apart long = absurd (omega arith)
known_received (name ∷ names) [] apart long = absurd (omega arith)
known_received (name ∷ names) (n ∷ ns) apart long =
    let P : List Component → Type 0 = λ other. has_same_octets other name ≡ false in
    let es = known_entries names ns in
    let none =
    stranger_received name es (names_known P names ns (All-from_recursion P names (names_apart name names apart.0))) in
    let here = first_reported (eqb n 0) name n es refl none in
    let others = others_received (not (eqb n 0)) names name n es apart.0 in
    let rest = known_received names ns apart.1 (omega (arith, long)) in
    cc

-- ---- entries in any order

received_most : (name : List Component) (es : List Entry) (k : ℕ) (e : Entry) → k < length es → get_or es k e ≡ e
    → number_in_entry name e ≤ greatest_number name es
received_most name [] k e h is = absurd (omega arith)
received_most name (x ∷ es) zero e h is = rw (← is) (omega arith)
received_most name (x ∷ es) (suc k) e h is = omega (arith, received_most name es k e (omega (arith, h)) is)

received_least : (name : List Component) (es : List Entry) (n : ℕ)
    → ((e : Entry) → Contains es e → number_in_entry name e ≤ n)
    → greatest_number name es ≤ n
received_least name [] n each = omega arith
received_least name (x ∷ es) n each =
    let here = each x (0, omega arith, refl) in
    let rest = received_least name es n (λ e c. each e
    (suc c.0, (let l : c.0 < length es = c.1 in omega arith), c.2)) in
    omega (arith, here, rest)

received_below : (name : List Component) (a b : List Entry) → ((e : Entry) → Contains a e → Contains b e)
    → greatest_number name a ≤ greatest_number name b
received_below name a b within =
    received_least name a (greatest_number name b) (λ e c. let d = within e c in received_most name b d.0 e d.1 d.2)

pub reported_same : (names : List (List Component)) (a b : List Entry) → HaveSameEntries a b
    → vector_of_entries names a ≡ vector_of_entries names b
reported_same [] a b same = refl
reported_same (name ∷ names) a b same =
    let up = received_below name a b (λ e c. (same e).0 c) in
    let down = received_below name b a (λ e c. (same e).1 c) in
    let here : greatest_number name a ≡ greatest_number name b = omega (arith, up, down) in
    let rest = reported_same names a b same in
    cc

-- ---- the whole

vector_again : (roster : List (List Component)) (vector : List ℕ) → IsRoster roster → length vector ≡ length roster
    → vector_of_entries roster (in_canonical_order (known_entries roster vector)) ≡ vector
vector_again roster vector are long =
    let known = known_entries roster vector in
    let es = in_canonical_order known in
    let moved = known_in_order roster vector are in
    reported_same roster es known
    (λ e. (Contains-permutation es known e (IsPermutation-sym known es moved), Contains-permutation known es e moved))
    ∙ known_received roster vector are.different long

pub read_back : (roster : List (List Component)) (vector : List ℕ) → IsRoster roster → length vector ≡ length roster
    → All (λ n. n < 2 ^ 16) vector → vector_of roster (written_vector roster vector) ≡ Ok vector
read_back roster vector are long small =
    let known = known_entries roster vector in
    let es = in_canonical_order known in
    let body = flat_map written_entry es in
    let e = placed 0 201 body in
    let short =
    body_short 1000 roster vector are.few (All-weaker IsOwnName (IsWithin 1000) (λ name own. own.1) roster are.names) in
    let read : elements 0 (element 201 body) ≡ (e then nothing) =
    alone 0 201 body (omega arith) (omega arith) (omega (arith, short)) in
    let names = names_in_order IsOwnName known (names_known IsOwnName roster vector are.names) in
    let numbers = numbers_in_order (λ n. n < 2 ^ 16) known (numbers_known (λ n. n < 2 ^ 16) roster vector small) in
    let zeros : List ℕ = replicate (length roster) 0 in
    let all : vector_in roster e ≡ Ok vector =
    entries_again roster (fault_in e) e.value_start zeros es names numbers
    ∙ ap (λ (v : List ℕ). Ok v) (taken_received roster are zeros es (length-replicate (length roster) 0)
    ∙ join_zeros (length roster) (vector_of_entries roster es)
    (omega (arith, length-map roster (λ name. greatest_number name es)))
    ∙ vector_again roster vector are long) in
    ap (λ (l : Listing Item TlvFault). vector_among l.items >>= vector_in roster) read ∙ all
