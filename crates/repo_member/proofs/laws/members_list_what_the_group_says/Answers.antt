use Rattle.repo_member.proofs.GroupCatalogues.{lists_alike}
use Rattle.repo_member.proofs.DeletionLemmas.{deletes_alike}
use Rattle.repo_member.proofs.laws.members_list_what_the_group_says.Goals as goal

pub returns-clause-lists : goal.returns-clause-lists
returns-clause-lists c = lists_alike

pub returns-clause-deletes : goal.returns-clause-deletes
returns-clause-deletes c = deletes_alike
