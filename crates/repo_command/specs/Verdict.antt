-- Whose command octets are, and which, or the first reason why they are none that a node's repository takes.
use Rattle.std.specs.Prelude.{ℕ, List, [], unwrap_or, ok_or, Result, Ok, Err}
use Rattle.ndn_tlv.specs.Listing.{◌>>=◌}
use Rattle.ndn_name.specs.declared.fault.PacketFault.{PacketFault}
use Rattle.ndn_name.specs.Names.{Component}
use Rattle.ndn_sign.specs.Ring.{NamedKey}
use Rattle.ndn_interest.specs.declared.signature_error.SignatureError.{SignatureError}
use Rattle.ndn_interest.specs.Interest.{Interest, interest_of}
use Rattle.ndn_interest.specs.Signer.{signer_of}
use Rattle.repo_command.specs.declared.command.Command.{Command}
use Rattle.repo_command.specs.declared.command_refusal.CommandRefusal.{CommandRefusal}
use Rattle.repo_command.specs.declared.command_refusal.CommandRefusal.TheVariants.{Packet, OtherName}
use Rattle.repo_command.specs.Refusals.{unsigned_as}
use Rattle.repo_command.specs.Verbs.{verb_in}
use Rattle.repo_command.specs.Parameters.{parameters_of, command_from}

-- The Interest, or how its fault refuses the command.
abbrev pub packet_or : Result Interest PacketFault → Result Interest CommandRefusal
packet_or (Ok interest) = Ok interest
packet_or (Err fault) = Err (Packet fault)

-- The signer, or how the signature refuses the command.
abbrev pub signed_or : Result ℕ SignatureError → Result ℕ CommandRefusal
signed_or (Ok signer) = Ok signer
signed_or (Err refusal) = Err (unsigned_as refusal)

-- The number of the key that signed a command for the node, and the command; or the first refusal.
abbrev pub command_interest_verdict : List Component → List NamedKey → Interest → Result (ℕ × Command) CommandRefusal
command_interest_verdict node ring i = do
  verb ← ok_or (verb_in node i.name) OtherName
  client ← signed_or (signer_of ring i)
  parameters ← parameters_of (unwrap_or i.parameters [])
  command ← command_from verb parameters
  Ok (client, command)

-- The same of octets.
abbrev pub command_verdict : List Component → List NamedKey → List ℕ → Result (ℕ × Command) CommandRefusal
command_verdict node ring octets = packet_or (interest_of octets) >>= command_interest_verdict node ring
