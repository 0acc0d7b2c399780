use Rattle.std.proofs.Common.{sym, ◌∙◌}
use Rattle.repo_store.proofs.FingerprintLemmas.{next_none, next_some, next_other}
use Rattle.repo_store.proofs.packet_table.next_of_fingerprint.Goals as goal

pub returns-in-Some : goal.returns-in-Some
returns-in-Some c =
    next_some c.args.fingerprints.now.entries c.first_from.ensures.rises c.args.fingerprint c.args.from
    (c.in-Some.next, tt)
    (sym c.in-Some.ensures.found) c.if-next-fingerprint.true

pub returns-in_default : goal.returns-in_default
returns-in_default c =
    next_other c.args.fingerprints.now.entries c.first_from.ensures.rises c.args.fingerprint c.args.from
    (c.in-Some.next, tt)
    (sym c.in-Some.ensures.found) c.if-next-fingerprint.false

pub returns-in_default-2 : goal.returns-in_default-2
returns-in_default-2 c =
    next_none c.args.fingerprints.now.entries c.first_from.ensures.rises c.args.fingerprint c.args.from
    (sym c.first_from.ensures.found ∙ c.in_default.is)
