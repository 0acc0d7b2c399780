use Rattle.repo_object.proofs.Publications.{packets-length, all_fit}
use Rattle.repo_object.proofs.Report.{part_fits}
use Rattle.repo_object.proofs.laws.packets_fit.Goals as goal

pub returns-clause-count : goal.returns-clause-count
returns-clause-count c = packets-length

pub returns-clause-short : goal.returns-clause-short
returns-clause-short c = λ publisher seq post is_publisher is_post low. all_fit publisher is_publisher seq post
    is_post low

pub returns-clause-parts : goal.returns-clause-parts
returns-clause-parts c = part_fits
