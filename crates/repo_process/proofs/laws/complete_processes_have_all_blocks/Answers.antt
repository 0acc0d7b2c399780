use Rattle.repo_process.proofs.LawLemmas.{whole_blocks, whole_missing}
use Rattle.repo_process.proofs.laws.complete_processes_have_all_blocks.Goals as goal

pub returns-clause-blocks : goal.returns-clause-blocks
returns-clause-blocks c = whole_blocks

pub returns-clause-missing : goal.returns-clause-missing
returns-clause-missing c = whole_missing
