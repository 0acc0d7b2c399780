use Rattle.repo_store.proofs.FingerprintLemmas.{used_next, used_none}
use Rattle.repo_store.proofs.packet_table.is_used.Goals as goal

pub returns-in-Some : goal.returns-in-Some
returns-in-Some c =
    used_next _ c.args.fingerprint c.args.slot c.in-Some.next c.in-Some.ensures

pub returns-in-None : goal.returns-in-None
returns-in-None c = used_none _ c.args.fingerprint c.args.slot c.in-None.ensures
