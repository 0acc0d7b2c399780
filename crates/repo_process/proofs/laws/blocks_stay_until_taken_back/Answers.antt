use Rattle.repo_process.proofs.LawLemmas.{block_stays, block_comes, block_gone}
use Rattle.repo_process.proofs.laws.blocks_stay_until_taken_back.Goals as goal

pub returns-clause-stays : goal.returns-clause-stays
returns-clause-stays c = block_stays

pub returns-clause-comes : goal.returns-clause-comes
returns-clause-comes c = block_comes

pub returns-clause-taken_back : goal.returns-clause-taken_back
returns-clause-taken_back c = block_gone
