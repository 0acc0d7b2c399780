-- The octets of a packet in the forms that it has.
use Rattle.std.specs.Prelude.{ℕ, List}
use Rattle.std.specs.Arc.{arc_value}
use Rattle.repo_object.specs.declared.packet.Form.{Form}
use Rattle.repo_object.specs.declared.packet.Form.TheVariants.{Own, Shared}

-- The octets of a packet, alone or shared.
abbrev pub octets_in : Form → List ℕ
octets_in (Own octets) = octets.items
octets_in (Shared body) = arc_value body
