use Rattle.script_story.proofs.HeadlineShown.{catalogue_lines_show, settle_lines_show}
use Rattle.script_story.proofs.headline.catalogue_lines_show_what_is_held.Goals as goal

pub returns-clause-held : goal.returns-clause-held
returns-clause-held c = catalogue_lines_show

pub returns-clause-settled : goal.returns-clause-settled
returns-clause-settled c = settle_lines_show
