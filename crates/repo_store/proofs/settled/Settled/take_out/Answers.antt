use Rattle.std.proofs.Common.{length, sym, ap, subst, ◌∙◌, arith}
use Rattle.std.proofs.lemmas.List.Edits.{length-remove}
use Rattle.repo_store.proofs.TakenLemmas.{Taking, taking_more, none_outside}
use Rattle.repo_store.proofs.settled.Settled.take_out.Goals as goal

pub loop-place-preserved : goal.loop-place-preserved
loop-place-preserved c =
    let slots = c.args.kept.now.slots in
    let old = c.args.self.now.items in
    let now = c.loop-place.self.items in
    let items = c.remove.ensures.items in
    record {
      taking =
          subst (Taking slots c.args.held old) (sym items)
          (taking_more slots c.args.held old now c.in-Some.place c.in-Some.ensures.1 c.loop-place.invariant.taking);
      len =
          omega (
            arith,
            c.loop-place.invariant.len,
            ap length items,
            length-remove now c.in-Some.place c.in-Some.ensures.0,
          );
      kept = c.remove.ensures.kept ∙ c.loop-place.invariant.kept;
    }

pub returns-clause-outside : goal.returns-clause-outside
returns-clause-outside c =
    none_outside c.args.held.0 c.loop-place.self.items c.in_default.ensures ∙ c.loop-place.invariant.taking.outside
