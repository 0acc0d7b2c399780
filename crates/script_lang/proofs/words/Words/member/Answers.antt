use Rattle.std.proofs.Common.{rules}
use Rattle.script_lang.proofs.Parties.{place-tells}
use Rattle.script_lang.proofs.words.Words.member.Goals as goal

pub returns-clause-named : goal.returns-clause-named
returns-clause-named c = place-tells c.args.label.now c.args.self.now.members c.map.result (search rules)
