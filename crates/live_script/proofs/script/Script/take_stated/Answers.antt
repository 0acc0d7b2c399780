use Rattle.live_script.proofs.Taking.{not_live}
use Rattle.live_script.proofs.script.Script.take_stated.Goals as goal

pub returns-in_default-clause-stopped : goal.returns-in_default-clause-stopped
returns-in_default-clause-stopped c = λ octets.
    not_live c.args.self octets c.args.line.now c.in_default.not-Group c.in_default.not-Member c.in_default.not-Publish
