use Rattle.lab_picture.proofs.CharacterData.{escaped_is_data}
use Rattle.lab_picture.proofs.laws.escaped_text_has_no_markup.Goals as goal

pub returns : goal.returns
returns c = escaped_is_data
