use Rattle.script_story.proofs.HeadlineWatchers.{news_is_announced_once}
use Rattle.script_story.proofs.headline.news_is_announced_once.Goals as goal

pub returns : goal.returns
returns c = news_is_announced_once
