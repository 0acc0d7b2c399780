use Rattle.script_story.proofs.HeadlineMirrors.{mirrors_are_listed, mirrors_list_their_join}
use Rattle.script_story.proofs.headline.mirrors_list_what_they_ask_for.Goals as goal

pub returns-clause-listed : goal.returns-clause-listed
returns-clause-listed c = mirrors_are_listed

pub returns-clause-joined : goal.returns-clause-joined
returns-clause-joined c = mirrors_list_their_join
