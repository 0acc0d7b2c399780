use Rattle.std.proofs.Common.{rules}
use Rattle.script_lang.proofs.Parties.{mirror-tells}
use Rattle.script_lang.proofs.words.Words.mirror.Goals as goal

pub returns-clause-named : goal.returns-clause-named
returns-clause-named c = mirror-tells c.args.label.now c.args.self.now.mirrors c.map.result (search rules)
