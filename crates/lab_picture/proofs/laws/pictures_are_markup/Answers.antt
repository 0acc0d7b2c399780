use Rattle.lab_picture.proofs.Drawings.{picture_is_markup}
use Rattle.lab_picture.proofs.laws.pictures_are_markup.Goals as goal

pub returns : goal.returns
returns c = picture_is_markup
