use Rattle.script_story.proofs.HeadlineWatchers.{settled_are_announced, news_is_announced_whole}
use Rattle.script_story.proofs.headline.news_is_announced_whole.Goals as goal

pub returns-clause-all : goal.returns-clause-all
returns-clause-all c = news_is_announced_whole

pub returns-clause-settled : goal.returns-clause-settled
returns-clause-settled c = settled_are_announced
