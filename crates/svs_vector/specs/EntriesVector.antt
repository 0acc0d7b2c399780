-- What the entries of a state vector say of the members of a group (State Vector Sync).
use Rattle.std.specs.Prelude.{◌≡◌, ℕ, ◌<◌, ◌≤◌, max, List, [], ◌∷◌, map, Some, IfSome, Result, Ok, Err, ◌↔◌, ◌⊎◌}
use Rattle.std.specs.Prelude.{if◌then◌else◌}
use Rattle.std.specs.List.{Contains}
use Rattle.ndn_tlv.specs.declared.order_table.FieldError.{FieldError}
use Rattle.ndn_tlv.specs.Listing.{Listing, nothing, only_fault, ◌then◌}
use Rattle.ndn_tlv.specs.Elements.{Item, elements}
use Rattle.ndn_tlv.specs.OrderTable.{fields}
use Rattle.ndn_name.specs.Names.{Component}
use Rattle.svs_vector.specs.declared.vector_fault.VectorFault.{VectorFault}
use Rattle.svs_vector.specs.declared.vector_fault.VectorFault.TheVariants.{BadVector, NumberTooLarge}
use Rattle.svs_vector.specs.declared.read.VectorField.{VectorField}
use Rattle.svs_vector.specs.Format as format
use Rattle.svs_vector.specs.Format.{state_vector_table, number_limit}
use Rattle.svs_vector.specs.Rosters.{has_same_octets, member_of}
use Rattle.svs_vector.specs.StateVector.{Entry, entry_in, fault_in}

-- What an entry says of a node: its number where it is that node's, and nothing where it is not.
abbrev pub number_in_entry : List Component → Entry → ℕ
number_in_entry name entry = if has_same_octets entry.0 name then entry.1 else 0

-- The greatest number that entries have of a node, 0 where they have none.
abbrev pub greatest_number : List Component → List Entry → ℕ
greatest_number name [] = 0
greatest_number name (e ∷ es) = max (number_in_entry name e) (greatest_number name es)

-- The vector of entries: the greatest number of each member. Nodes that are no members are passed over.
abbrev pub vector_of_entries : List (List Component) → List Entry → List ℕ
vector_of_entries roster entries = map (λ name. greatest_number name entries) roster

-- The same entries, in any order and with any repeats.
abbrev pub HaveSameEntries : List Entry → List Entry → Type 0
HaveSameEntries a b = (e : Entry) → Contains a e ↔ Contains b e

-- A member's number is at most the greatest. That of a node that is no member may be any.
abbrev pub IsCounted : List (List Component) → Entry → Type 0
IsCounted roster entry = IfSome (member_of entry.0 roster) (λ member. entry.1 ≤ number_limit)

-- The entries that the fields of a state vector's element are, or the first fault in reading order.
-- That is an element that is no entry, a member's number above the greatest, or a fault of the fields after the last
-- of them.
pub data FieldsTell (roster : List (List Component)) (vector : Item) : Listing (VectorField × Item) FieldError
    → Result (List Entry) VectorFault → Type 0 where
  ended : FieldsTell roster vector nothing (Ok [])
  broken : {f : FieldError} → FieldsTell roster vector (only_fault f) (Err (fault_in vector f))
  no_entry : {field : VectorField × Item} {rest : Listing (VectorField × Item) FieldError} {fault : VectorFault}
      → entry_in field.1 ≡ Err fault → FieldsTell roster vector (field then rest) (Err fault)
  too_large : {field : VectorField × Item} {rest : Listing (VectorField × Item) FieldError}
      (entry : Entry) (member : ℕ) → entry_in field.1 ≡ Ok entry
      → member_of entry.0 roster ≡ Some member → number_limit < entry.1
      → FieldsTell roster vector (field then rest) (Err (NumberTooLarge member entry.1))
  one : {field : VectorField × Item} {rest : Listing (VectorField × Item) FieldError} {entries : List Entry}
      (entry : Entry) → entry_in field.1 ≡ Ok entry → IsCounted roster entry
      → FieldsTell roster vector rest (Ok entries)
      → FieldsTell roster vector (field then rest) (Ok (entry ∷ entries))
  later : {field : VectorField × Item} {rest : Listing (VectorField × Item) FieldError} {fault : VectorFault}
      (entry : Entry) → entry_in field.1 ≡ Ok entry → IsCounted roster entry → FieldsTell roster vector rest (Err fault)
      → FieldsTell roster vector (field then rest) (Err fault)

-- The StateVector that octets begin with, and its fields.
pub record Begins (roster : List (List Component)) (octets : List ℕ) (received : Result (List Entry) VectorFault)
    : Type 0 where
  pub vector : Item
  pub after : List Item
  pub first : (elements 0 octets).items ≡ vector ∷ after
  pub typ : vector.typ ≡ format.StateVector
  pub tells : FieldsTell roster vector (fields state_vector_table (elements vector.value_start vector.value)) received

-- Octets do not begin with a StateVector.
abbrev pub BeginsWithoutVector : List ℕ → Type 0
BeginsWithoutVector octets = (e : Item) (es : List Item) → (elements 0 octets).items ≡ e ∷ es → e.typ
    ≡ format.StateVector → ⊥

-- The octets are a state vector, and this is the vector of its entries.
pub record IsVector (roster : List (List Component)) (octets vector : List ℕ) : Type 0 where
  pub entries : List Entry
  pub begins : Begins roster octets (Ok entries)
  pub received : vector ≡ vector_of_entries roster entries

-- The first fault of octets that are none.
abbrev pub IsFault : List (List Component) → List ℕ → VectorFault → Type 0
IsFault roster octets fault = (BeginsWithoutVector octets × (fault ≡ BadVector 0)) ⊎ Begins roster octets (Err fault)
