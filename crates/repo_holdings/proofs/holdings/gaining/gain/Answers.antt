use Rattle.std.proofs.Common.{Option, sym, subst}
use Rattle.std.specs.Prelude.{IfSome}
use Rattle.repo_plan.specs.declared.shape.Shape.{Shape}
use Rattle.repo_plan.specs.Parts.{IsShape}
use Rattle.repo_holdings.proofs.AskedLemmas.{stated_shape_sized}
use Rattle.repo_holdings.proofs.GainingLemmas.{tied_too}
use Rattle.repo_holdings.proofs.holdings.gaining.gain.Goals as goal

pub hold_reserved-requires-clause-sized : goal.hold_reserved-requires-clause-sized
hold_reserved-requires-clause-sized c =
    subst (λ (o : Option Shape). IfSome o IsShape) (sym c.requires.packet.summary)
    (stated_shape_sized c.args.part c.args.packet)

pub returns-clause-tied : goal.returns-clause-tied
returns-clause-tied c =
    let tied =
    tied_too _ _ c.args.part c.args.packet c.args.shape c.requires.tied c.requires.missing.not_held
    c.requires.missing.free.asked c.requires.packet.shape c.requires.packet.summary c.requires.packet.lists in
    rw (c.hold_reserved.ensures.new, c.put_shared.ensures.put)
    (record {
      in_order = tied.in_order;
      held = tied.held;
      shapes = tied.shapes;
      recorded = tied.recorded;
      indexed = tied.indexed;
    })
