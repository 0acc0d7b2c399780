use Rattle.std.proofs.Common.{arith, ◌≡◌, ap, sym, subst, ◌∙◌, not, length, ◌++◌, take, drop}
use Rattle.std.proofs.lemmas.Grind.{common_steps}
use Rattle.svs_vector.specs.Vectors.{AreNumbers, join, covers}
use Rattle.svs_vector.proofs.JoinLemmas.{received_of_changes, length-join}
use Rattle.svs_vector.proofs.NumberLemmas.{join_numbers}
use Rattle.svs_vector.proofs.vector.Vector.join.Goals as goal

pub returns-clause-changed : goal.returns-clause-changed
returns-clause-changed c =
    let joined : take c.self.inside.numbers.len
    (c.take_greater.new.numbers ++ drop (length c.take_greater.new.numbers) c.self.inside.numbers.items)
    ≡ join c.args.self.now c.args.other.now =
    grind (arith, common_steps) in
    let received : c.take_greater.result ≡ not (covers c.args.self.now c.args.other.now) = grind
    (arith, common_steps) in
    received_of_changes _ _ _ _ received joined

pub returns-clause-width : goal.returns-clause-width
returns-clause-width c =
    let joined : take c.self.inside.numbers.len
    (c.take_greater.new.numbers ++ drop (length c.take_greater.new.numbers) c.self.inside.numbers.items)
    ≡ join c.args.self.now c.args.other.now =
    grind (arith, common_steps) in
    ap length joined ∙ length-join c.args.self.now c.args.other.now c.requires

pub invariant_of-self : goal.invariant_of-self
invariant_of-self c =
    let joined : take c.self.inside.numbers.len
    (c.take_greater.new.numbers ++ drop (length c.take_greater.new.numbers) c.self.inside.numbers.items)
    ≡ join c.self.inside.numbers.items c.other.inside.numbers.items =
    grind (arith, common_steps) in
    subst AreNumbers (sym joined)
    (join_numbers c.self.inside.numbers.items c.other.inside.numbers.items c.self.invariant c.other.invariant)
