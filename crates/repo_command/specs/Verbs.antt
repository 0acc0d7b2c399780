-- The verbs of commands, and the names that commands have.
use Rattle.std.specs.Prelude.{ℕ, Bool, ◌&&◌, List, [], ◌∷◌, ◌++◌, Option, Some, None, codes, if◌then◌else◌}
use Rattle.std.specs.Str.{bytes_eq}
use Rattle.ndn_tlv.specs.Types as types
use Rattle.ndn_name.specs.Names.{Component, encoding}
use Rattle.ndn_interest.specs.Interest.{without_last, ends_in_digest}
use Rattle.repo_command.specs.declared.command.Command.{Command}
use Rattle.repo_command.specs.declared.command.Command.TheVariants as command
use Rattle.repo_command.specs.declared.verb.Verb.{Verb}
use Rattle.repo_command.specs.declared.verb.Verb.TheVariants.{Insert, Check, Delete}

-- The verb of a command.
abbrev pub verb_of : Command → Verb
verb_of (command.Insert name first last) = Insert
verb_of (command.Check process) = Check
verb_of (command.Delete name) = Delete

-- What the generic component of a verb says.
abbrev pub verb_text : Verb → List ℕ
verb_text Insert = codes "insert"
verb_text Check = codes "check"
verb_text Delete = codes "delete"

-- The verb as a component of the command's name.
abbrev pub verb_component : Verb → Component
verb_component verb = (types.GenericNameComponent, verb_text verb)

-- The name of a command for a node without the parameters digest: the node's name, and the verb.
abbrev pub command_name : List Component → Verb → List Component
command_name node verb = node ++ verb_component verb ∷ []

-- The name is that of a command of the verb for the node, with a parameters digest after it. Names are the same
-- exactly where their octets are.
abbrev pub is_command_name : List Component → Verb → List Component → Bool
is_command_name node verb name =
    bytes_eq (encoding (without_last name)) (encoding (command_name node verb)) && ends_in_digest name

-- The verb of a command to this node that is named so.
abbrev pub verb_in : List Component → List Component → Option Verb
verb_in node name =
    if is_command_name node Insert name then Some Insert
    else if is_command_name node Check name then Some Check
    else if is_command_name node Delete name then Some Delete
    else None

-- What stands in such a name's octets between the node's name and the octets of the digest: the verb's component, and
-- the head of the digest's.
abbrev pub between : Verb → List ℕ
between Insert = 8 ∷ 6 ∷ codes "insert" ++ 2 ∷ 32 ∷ []
between Check = 8 ∷ 5 ∷ codes "check" ++ 2 ∷ 32 ∷ []
between Delete = 8 ∷ 6 ∷ codes "delete" ++ 2 ∷ 32 ∷ []
