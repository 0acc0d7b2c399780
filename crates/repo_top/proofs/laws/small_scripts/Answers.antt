use Rattle.std.proofs.Common.{refl}
use Rattle.std.specs.Fmt.{digits}
use Rattle.repo_top.specs.Generator.{deliver_text, fetch_line, gen_text, member_text, publish_line, generator_state}
use Rattle.repo_top.specs.Generator.{texts}
use Rattle.repo_top.proofs.laws.small_scripts.Goals as goal

pub returns-clause-two_members : goal.returns-clause-two_members
unfolding digits deliver_text fetch_line gen_text member_text publish_line generator_state texts
returns-clause-two_members c = λ env. refl

pub returns-clause-ten_objects : goal.returns-clause-ten_objects
unfolding digits deliver_text fetch_line gen_text member_text publish_line generator_state texts
returns-clause-ten_objects c = λ env. refl
