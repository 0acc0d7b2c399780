use Rattle.script_story.proofs.Sayings.{is_evaluated, syntax_is}
use Rattle.script_story.proofs.laws.syntax_is_of_the_grammar.Goals as goal

pub returns-clause-evaluated : goal.returns-clause-evaluated
returns-clause-evaluated c = is_evaluated

pub returns-clause-syntax : goal.returns-clause-syntax
returns-clause-syntax c = syntax_is
