-- What packets and their fields hold: a first element, numbers and names.
use Rattle.std.specs.Prelude.{ℕ, List, [], ◌∷◌, Option, Some, None, Result, Ok, Err}
use Rattle.ndn_tlv.specs.declared.tlv_fault.TlvFault.{TlvFault}
use Rattle.ndn_tlv.specs.Elements.{Item, elements}
use Rattle.ndn_tlv.specs.NumberField.{number_of}
use Rattle.ndn_name.specs.declared.name_fault.NameFault.{NameFault}
use Rattle.ndn_name.specs.declared.name_fault.NameFault.TheVariants as name_faults
use Rattle.ndn_name.specs.declared.fault.Field.{Field}
use Rattle.ndn_name.specs.declared.fault.PacketFault.{PacketFault}
use Rattle.ndn_name.specs.declared.fault.PacketFault.TheVariants.{Tlv, BadField}
use Rattle.ndn_name.specs.Names.{Component, name_of}

-- What must be there, or the fault.
abbrev pub ok_or : {A : Type 0} → Option A → PacketFault → Result A PacketFault
ok_or (Some x) fault = Ok x
ok_or None fault = Err fault

-- The first of some elements, where there is one. What follows it is not looked at.
abbrev pub first_among : PacketFault → List Item → Option TlvFault → Result Item PacketFault
first_among absent [] None = Err absent
first_among absent [] (Some f) = Err (Tlv f)
first_among absent (e ∷ es) f = Ok e

-- The first of the elements that the octets at this offset are.
abbrev pub first_of : PacketFault → ℕ → List ℕ → Result Item PacketFault
first_of absent offset octets =
    first_among absent (elements offset octets).items (elements offset octets).fault

-- The number that a field's element holds.
abbrev pub number_in : Field → Item → Result ℕ PacketFault
number_in field e = ok_or (number_of e.value) (BadField field e.start)

-- The fault of a field that holds a name: an element that is none is the fault itself, and a
-- component that may not be is the field's.
abbrev pub fault_of_name : PacketFault → NameFault → PacketFault
fault_of_name bad (name_faults.Tlv f) = Tlv f
fault_of_name bad _ = bad

-- A name that was read, or its fault as the field's.
abbrev pub name_or : PacketFault → Result (List Component) NameFault
    → Result (List Component) PacketFault
name_or bad (Ok name) = Ok name
name_or bad (Err f) = Err (fault_of_name bad f)

-- The name that an element's value is.
abbrev pub name_in : PacketFault → Item → Result (List Component) PacketFault
name_in bad e = name_or bad (name_of e.value_start e.value)
