-- The elements of a state vector in this project's profile of State Vector Sync, and its limits.
use Rattle.std.specs.Prelude.{ℕ, List, [], ◌∷◌}
use Rattle.ndn_tlv.specs.declared.order_table.Place.{Place}
use Rattle.ndn_tlv.specs.OrderTable.{once, repeated}
use Rattle.ndn_tlv.specs.Types as types
use Rattle.svs_vector.specs.declared.entry.EntryField.{EntryField}
use Rattle.svs_vector.specs.declared.entry.EntryField.TheVariants as entry_field
use Rattle.svs_vector.specs.declared.read.VectorField.{VectorField}
use Rattle.svs_vector.specs.declared.read.VectorField.TheVariants as vector_field

-- A state vector: its value is the entries.
abbrev pub StateVector : ℕ
StateVector = 201

-- An entry of a state vector: a node name and a sequence number.
abbrev pub StateVectorEntry : ℕ
StateVectorEntry = 202

-- The sequence number of an entry, as a number field.
abbrev pub SeqNo : ℕ
SeqNo = 204

-- The places of the fields of a StateVector: its entries.
abbrev pub state_vector_table : List (Place VectorField)
state_vector_table = repeated StateVectorEntry vector_field.Entry ∷ []

-- The places of the fields of a StateVectorEntry.
abbrev pub entry_table : List (Place EntryField)
entry_table = once types.Name entry_field.Name ∷ once SeqNo entry_field.SeqNo ∷ []

-- The greatest number of a publication.
abbrev pub number_limit : ℕ
number_limit = 65535

-- How many members a group may have.
abbrev pub member_limit : ℕ
member_limit = 16
