-- How octets are read as the parameters of a command, or that they are none.
use Rattle.std.specs.Prelude.{ℕ, ◌-◌, ◌&&◌, List, [], ◌∷◌, Option, Some, None, ok_or, Result, Ok, Err, nat_le, nat_lt}
use Rattle.std.specs.Prelude.{◌==◌, if◌then◌else◌}
use Rattle.ndn_tlv.specs.declared.order_table.FieldError.{FieldError}
use Rattle.ndn_tlv.specs.Listing.{gathered, ◌>>=◌}
use Rattle.ndn_tlv.specs.Elements.{Item, elements}
use Rattle.ndn_tlv.specs.NumberField.{number_of}
use Rattle.ndn_tlv.specs.OrderTable.{fields}
use Rattle.ndn_name.specs.declared.name_fault.NameFault.{NameFault}
use Rattle.ndn_name.specs.Names.{Component, name_of}
use Rattle.repo_object.specs.Objects.{is_object_name}
use Rattle.repo_command.specs.declared.command.Command.{Command}
use Rattle.repo_command.specs.declared.command.Command.TheVariants as command
use Rattle.repo_command.specs.declared.command_refusal.CommandRefusal.{CommandRefusal}
use Rattle.repo_command.specs.declared.command_refusal.CommandRefusal.TheVariants.{BadParameter}
use Rattle.repo_command.specs.declared.parameters.Parameters as declared_parameters
use Rattle.repo_command.specs.declared.parameters.ParameterField.{ParameterField}
use Rattle.repo_command.specs.declared.parameters.ParameterField.TheVariants.{Name, StartBlockId, EndBlockId, ProcessId}
use Rattle.repo_command.specs.declared.verb.Verb.{Verb}
use Rattle.repo_command.specs.declared.verb.Verb.TheVariants.{Insert, Check, Delete}
use Rattle.repo_command.specs.ElementTypes as types
use Rattle.repo_command.specs.OrderTables.{repo_command_parameter}

-- The fields of a RepoCommandParameter, as far as they have come.
pub record Parameters : Type 0 where
  pub name : Option (List Component)
  pub first : Option ℕ
  pub last : Option ℕ
  pub process : Option ℕ

-- No parameter was read yet.
abbrev pub no_parameters : Parameters
no_parameters = record { name = None; first = None; last = None; process = None }

-- ---- what the fields hold

-- A fault in the elements of the parameters.
abbrev pub bad_parameter_field : FieldError → CommandRefusal
bad_parameter_field fault = BadParameter

-- A name that a command may have.
abbrev pub good_name : Result (List Component) NameFault → Result (List Component) CommandRefusal
good_name (Ok name) = Ok name
good_name (Err fault) = Err BadParameter

-- An element as a number.
abbrev pub parameter_number : Item → Result ℕ CommandRefusal
parameter_number e = ok_or (number_of e.value) BadParameter

-- One element more was read.
abbrev pub with_parameter : Parameters → ParameterField × Item → Result Parameters CommandRefusal
with_parameter p (Name, e) = good_name (name_of e.value_start e.value) >>= λ name. Ok (record p { name = Some name })
with_parameter p (StartBlockId, e) = parameter_number e >>= λ n. Ok (record p { first = Some n })
with_parameter p (EndBlockId, e) = parameter_number e >>= λ n. Ok (record p { last = Some n })
with_parameter p (ProcessId, e) = parameter_number e >>= λ n. Ok (record p { process = Some n })

-- What the elements of the parameters say.
abbrev pub parameters_in : Item → Result Parameters CommandRefusal
parameters_in e =
    gathered with_parameter bad_parameter_field no_parameters
    (fields repo_command_parameter (elements e.value_start e.value))

-- The first element is the RepoCommandParameter. What follows it is not looked at.
abbrev pub parameter_among : List Item → Result Item CommandRefusal
parameter_among [] = Err BadParameter
parameter_among (e ∷ es) = if e.typ == types.RepoCommandParameter then Ok e else Err BadParameter

-- The parameters that octets are.
abbrev pub parameters_of : List ℕ → Result Parameters CommandRefusal
parameters_of octets = parameter_among (elements 0 octets).items >>= parameters_in

-- ---- the command

-- The name that is given, where an object may have it.
abbrev pub object_name_of : Option (List Component) → Result (List Component) CommandRefusal
object_name_of None = Err BadParameter
object_name_of (Some name) = if is_object_name name then Ok name else Err BadParameter

-- The indexes of the first and the last block, of 1 to 200 blocks.
abbrev pub range_of : Option ℕ → Option ℕ → Result (ℕ × ℕ) CommandRefusal
range_of (Some first) (Some last) =
    if nat_le first last && nat_lt (last - first) 200 then Ok (first, last) else Err BadParameter
range_of (Some first) None = Err BadParameter
range_of None last = Err BadParameter

-- The command of a verb with these parameters. Those that the verb doesn't need are passed over.
abbrev pub command_from : Verb → Parameters → Result Command CommandRefusal
command_from Insert p =
    object_name_of p.name >>= λ name. range_of p.first p.last >>= λ range. Ok (command.Insert name range.0 range.1)
command_from Check p = ok_or p.process BadParameter >>= λ process. Ok (command.Check process)
command_from Delete p = object_name_of p.name >>= λ name. Ok (command.Delete name)

-- ---- the parameters without where their octets lie in memory

-- The parameters that code has read.
abbrev pub parameters : declared_parameters.Parameters → Parameters
parameters p = record { name = p.name; first = p.first; last = p.last; process = p.process }
