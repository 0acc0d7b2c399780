use Rattle.script_story.proofs.HeadlineCatalogues.{prints_catalogues}
use Rattle.script_story.proofs.HeadlineSettles.{prints_later}
use Rattle.script_story.proofs.headline.printed_catalogues_list_what_is_held.Goals as goal

pub returns-clause-held : goal.returns-clause-held
returns-clause-held c = prints_catalogues

pub returns-clause-later : goal.returns-clause-later
returns-clause-later c = prints_later
