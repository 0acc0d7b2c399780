-- Commands of the repo protocol, in this project's profile, and the Interests that they are written as.
use Rattle.std.specs.Prelude.{ℕ, ◌<◌, ◌^◌, ◌-◌, Bool, true, ◌&&◌, List, ◌++◌, length, nat_le, nat_lt}
use Rattle.ndn_tlv.specs.Types as standard
use Rattle.ndn_tlv.specs.Spelling.{element}
use Rattle.ndn_tlv.specs.NumberField.{number_field}
use Rattle.ndn_name.specs.Names.{Component, IsName, encoding}
use Rattle.ndn_interest.specs.WrittenInterest.{written_interest}
use Rattle.repo_object.specs.Objects.{is_object_name}
use Rattle.repo_command.specs.declared.command.Command.{Command}
use Rattle.repo_command.specs.declared.command.Command.TheVariants.{Insert, Check, Delete}
use Rattle.repo_command.specs.ElementTypes as types
use Rattle.repo_command.specs.Verbs.{verb_of, command_name}

-- What a repository may take: an object's name, and for an insertion 1 to 200 blocks.
abbrev pub is_command : Command → Bool
is_command (Insert name first last) = is_object_name name && (nat_le first last && nat_lt (last - first) 200)
is_command (Check process) = true
is_command (Delete name) = is_object_name name

-- What can be spelled: a name is one, and numbers have 64 bits at most.
abbrev pub CommandIsSpelled : Command → Type 0
CommandIsSpelled (Insert name first last) = IsName name × (first < 2 ^ 64) × (last < 2 ^ 64)
CommandIsSpelled (Check process) = process < 2 ^ 64
CommandIsSpelled (Delete name) = IsName name

-- How many octets of value a name in a command has.
abbrev pub named_length : Command → ℕ
named_length (Insert name first last) = length (encoding name)
named_length (Check process) = 0
named_length (Delete name) = length (encoding name)

-- What is in the RepoCommandParameter of a command: the fields that its verb needs.
abbrev pub parameters_value : Command → List ℕ
parameters_value (Insert name first last) =
    element standard.Name (encoding name)
    ++ (element types.StartBlockId (number_field first) ++ element types.EndBlockId (number_field last))
parameters_value (Check process) = element types.ProcessId (number_field process)
parameters_value (Delete name) = element standard.Name (encoding name)

-- The parameters of a command, as octets.
abbrev pub written_parameters : Command → List ℕ
written_parameters command = element types.RepoCommandParameter (parameters_value command)

-- The Interest of a command for a node, signed under the key of this name: its parameters are the command's.
abbrev pub command_interest : List Component → Command → List Component → List ℕ → List ℕ
command_interest node command key_name key =
    written_interest (command_name node (verb_of command)) (written_parameters command) key_name key
