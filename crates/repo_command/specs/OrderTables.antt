-- In which order the fields of commands and answers come, in this project's profile of the repo protocol.
use Rattle.std.specs.Prelude.{List, [], ◌∷◌}
use Rattle.ndn_tlv.specs.declared.order_table.Place.{Place}
use Rattle.ndn_tlv.specs.OrderTable.{once}
use Rattle.ndn_tlv.specs.Types as standard
use Rattle.repo_command.specs.declared.parameters.ParameterField.{ParameterField}
use Rattle.repo_command.specs.declared.parameters.ParameterField.TheVariants as parameter
use Rattle.repo_command.specs.declared.answer_fields.AnswerField.{AnswerField}
use Rattle.repo_command.specs.declared.answer_fields.AnswerField.TheVariants as response
use Rattle.repo_command.specs.ElementTypes as types

-- In a RepoCommandParameter.
abbrev pub repo_command_parameter : List (Place ParameterField)
repo_command_parameter =
    once standard.Name parameter.Name
    ∷ once types.StartBlockId parameter.StartBlockId
    ∷ once types.EndBlockId parameter.EndBlockId
    ∷ once types.ProcessId parameter.ProcessId
    ∷ []

-- In a RepoCommandResponse.
abbrev pub repo_command_response : List (Place AnswerField)
repo_command_response =
    once types.ProcessId response.ProcessId
    ∷ once types.StatusCode response.StatusCode
    ∷ once types.InsertNum response.InsertNum
    ∷ once types.DeleteNum response.DeleteNum
    ∷ []
