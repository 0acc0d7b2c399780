use Rattle.repo_object.proofs.TableLemmas.{own_table}
use Rattle.repo_object.proofs.laws.each_kind_has_its_own_table.Goals as goal

pub returns : goal.returns
returns c = own_table
