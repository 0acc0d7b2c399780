-- How octets are read as a state vector of a group, or the first fault in reading order (State Vector Sync, with the
-- element types of this project).
use Rattle.std.specs.Prelude.{ℕ, max, List, [], ◌∷◌, Option, Some, None, Result, Ok, Err, length, replicate}
use Rattle.std.specs.Prelude.{slice_index, slice_set, nat_lt, ◌==◌, if◌then◌else◌}
use Rattle.ndn_tlv.specs.declared.order_table.FieldError.{FieldError}
use Rattle.ndn_tlv.specs.declared.order_table.FieldError.TheVariants.{Tlv, Critical}
use Rattle.ndn_tlv.specs.Listing.{gathered, ◌>>=◌}
use Rattle.ndn_tlv.specs.Elements.{Item, elements}
use Rattle.ndn_tlv.specs.NumberField.{number_of}
use Rattle.ndn_tlv.specs.OrderTable.{fields}
use Rattle.ndn_name.specs.declared.name_fault.NameFault.{NameFault}
use Rattle.ndn_name.specs.Names.{Component, name_of}
use Rattle.svs_vector.specs.declared.vector_fault.VectorFault.{VectorFault}
use Rattle.svs_vector.specs.declared.vector_fault.VectorFault.TheVariants.{BadVector, NumberTooLarge}
use Rattle.svs_vector.specs.declared.entry.EntryField.{EntryField}
use Rattle.svs_vector.specs.declared.entry.EntryField.TheVariants as entry_field
use Rattle.svs_vector.specs.declared.entry.EntryFields.{EntryFields}
use Rattle.svs_vector.specs.declared.read.VectorField.{VectorField}
use Rattle.svs_vector.specs.Format as format
use Rattle.svs_vector.specs.Format.{entry_table, state_vector_table, number_limit}
use Rattle.svs_vector.specs.Rosters.{member_of}

-- Where elements end that begin at an offset: after the last of them.
abbrev pub end_of : ℕ → List Item → ℕ
end_of start [] = start
end_of start (e ∷ es) = end_of e.end es

-- The fault of the fields in an element: an element that has a fault is bad where it begins, which is where those
-- before it end, and a critical one without a place where it stands.
abbrev pub fault_in : Item → FieldError → VectorFault
fault_in e (Tlv f) = BadVector (end_of e.value_start (elements e.value_start e.value).items)
fault_in e (Critical typ at) = BadVector at

-- ---- an entry

-- A node name, and its number.
abbrev pub Entry : Type 0
Entry = List Component × ℕ

-- The name and the number of an entry, as far as its fields have come.
pub record EntrySoFar : Type 0 where
  pub name : Option (List Component)
  pub number : Option ℕ

-- The name of an entry. Where it reads as none, the vector is bad at that element.
abbrev pub entry_name : Item → Result (List Component) NameFault → Result (List Component) VectorFault
entry_name e (Ok name) = Ok name
entry_name e (Err f) = Err (BadVector e.start)

-- The number of an entry. Where it reads as none, the vector is bad at that element.
abbrev pub good_number : Item → Option ℕ → Result ℕ VectorFault
good_number e (Some n) = Ok n
good_number e None = Err (BadVector e.start)

-- The fields of an entry so far with one more, or the fault of that one.
abbrev pub with_entry_field : EntrySoFar → EntryField × Item → Result EntrySoFar VectorFault
with_entry_field s (entry_field.Name, e) =
    entry_name e (name_of e.value_start e.value) >>= λ name. Ok (record s { name = Some name })
with_entry_field s (entry_field.SeqNo, e) =
    good_number e (number_of e.value) >>= λ n. Ok (record s { number = Some n })

-- The fields of an entry, or the first fault.
abbrev pub entry_fields : Item → Result EntrySoFar VectorFault
entry_fields e =
    gathered with_entry_field (fault_in e) (record { name = None; number = None })
    (fields entry_table (elements e.value_start e.value))

-- An entry has a name and a number.
abbrev pub both : Item → Option (List Component) → Option ℕ → Result Entry VectorFault
both e (Some name) (Some n) = Ok (name, n)
both e (Some name) None = Err (BadVector e.start)
both e None n = Err (BadVector e.start)

-- The entry that an element is, or the first fault.
abbrev pub entry_in : Item → Result Entry VectorFault
entry_in e = entry_fields e >>= λ s. both e s.name s.number

-- The fields of an entry that were read so far.
abbrev pub entry_so_far : EntryFields → EntrySoFar
entry_so_far g = record { name = g.name; number = g.number }

-- ---- the vector

-- A member's number counts as the greatest of its entries. That of a node that is no member is passed over.
abbrev pub counted : List ℕ → ℕ → Option ℕ → Result (List ℕ) VectorFault
counted vector n None = Ok vector
counted vector n (Some member) =
    if nat_lt number_limit n then Err (NumberTooLarge member n)
    else Ok (slice_set vector member (max (slice_index vector member) n))

-- The numbers so far with those of one more entry, or the fault of that one.
abbrev pub with_vector_entry : List (List Component) → List ℕ → VectorField × Item → Result (List ℕ) VectorFault
with_vector_entry roster vector field =
    entry_in field.1 >>= λ entry. counted vector entry.1 (member_of entry.0 roster)

-- The numbers that an element has for the members of the roster, in its order, or the first fault.
abbrev pub vector_in : List (List Component) → Item → Result (List ℕ) VectorFault
vector_in roster e =
    gathered (with_vector_entry roster) (fault_in e) (replicate (length roster) 0)
    (fields state_vector_table (elements e.value_start e.value))

-- The first element is the vector. What follows it is not looked at.
abbrev pub vector_among : List Item → Result Item VectorFault
vector_among [] = Err (BadVector 0)
vector_among (e ∷ es) = if e.typ == format.StateVector then Ok e else Err (BadVector 0)

-- The numbers that octets have for the members of the roster, in its order, or the first fault.
abbrev pub vector_of : List (List Component) → List ℕ → Result (List ℕ) VectorFault
vector_of roster octets = vector_among (elements 0 octets).items >>= vector_in roster
