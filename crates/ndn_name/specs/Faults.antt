-- The faults of fields as faults of the packet that has them.
use Rattle.ndn_tlv.specs.declared.order_table.FieldError.{FieldError}
use Rattle.ndn_tlv.specs.declared.order_table.FieldError.TheVariants as field_fault
use Rattle.ndn_name.specs.declared.fault.PacketFault.{PacketFault}
use Rattle.ndn_name.specs.declared.fault.PacketFault.TheVariants.{Tlv, Critical}

-- The fault of a packet whose fields have this fault.
abbrev pub packet_fault : FieldError → PacketFault
packet_fault (field_fault.Tlv f) = Tlv f
packet_fault (field_fault.Critical typ at) = Critical typ at
