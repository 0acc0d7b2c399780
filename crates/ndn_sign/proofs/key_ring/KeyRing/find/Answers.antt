use Rattle.std.proofs.Common.{sym, ap, subst, ◌∙◌}
use Rattle.ndn_sign.specs.Ring.{IsRing, key_number}
use Rattle.ndn_sign.proofs.RingLemmas.{number_of-entries}
use Rattle.ndn_sign.proofs.key_ring.KeyRing.find.Goals as goal

pub returns-in_err-number-clause-number : goal.returns-in_err-number-clause-number
returns-in_err-number-clause-number c =
    let name = c.args.name.now in
    c.from_residual.ensures ∙ c.in_err-number.ensures.index
    ∙ sym (number_of-entries name c.self.inside.pairs.entries) ∙ ap (key_number name) c.self.view_is

pub returns-clause-number : goal.returns-clause-number
returns-clause-number c =
    let name = c.args.name.now in
    c.in_ok-number.ensures.index ∙ sym (number_of-entries name c.self.inside.pairs.entries)
    ∙ ap (key_number name) c.self.view_is

pub returns-in_err-number-clause-ring : goal.returns-in_err-number-clause-ring
returns-in_err-number-clause-ring c = subst IsRing c.self.view_is c.self.invariant

pub returns-clause-ring : goal.returns-clause-ring
returns-clause-ring c = subst IsRing c.self.view_is c.self.invariant
