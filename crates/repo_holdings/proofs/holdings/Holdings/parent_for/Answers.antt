use Rattle.std.proofs.Common.{subst, Option}
use Rattle.std.specs.Prelude.{IfSome}
use Rattle.repo_holdings.specs.declared.holdings.stored_parent.StoredParent.{StoredParent}
use Rattle.repo_holdings.specs.StoredParents.{IsStoredParent}
use Rattle.repo_holdings.proofs.HoldingsLemmas.{segment_of, not_zero, still_lists}
use Rattle.repo_holdings.proofs.holdings.Holdings.parent_for.Goals as goal

pub parent_in-requires : goal.parent_in-requires
parent_in-requires c =
    segment_of c.self.inside c.args.self.now c.args.part c.self.invariant c.self.view_is c.requires.asked
    (not_zero c.args.part.part c.if-part-eq0.false)

pub returns-in-Some-clause-listed : goal.returns-in-Some-clause-listed
returns-in-Some-clause-listed c =
    still_lists c.self.inside c.args.self.now c.args.part c.in-Some.last c.self.invariant c.self.view_is
    c.requires.asked c.if-part-eq0.false (c.lists.ensures.0 c.if-lists.true)
    (subst (λ (o : Option StoredParent). IfSome o (IsStoredParent c.args.self.now.store)) c.in-Some.is c.requires.last)
