use Rattle.std.proofs.Common.{◌≡◌, true, List, drop, sym, subst, ◌∙◌, arith}
use Rattle.std.specs.Prelude.{slice_get}
use Rattle.sorted_lists.specs.Members.{In}
use Rattle.repo_store.specs.PacketTable.{Stored}
use Rattle.repo_store.specs.Indexes.{IsAlone, is_one_of}
use Rattle.repo_store.proofs.TakenLemmas.{Taking, taking_more, none_outside}
use Rattle.repo_store.proofs.index.take_out.Goals as goal

pub find-requires-clause-alone : goal.find-requires-clause-alone
find-requires-clause-alone c =
    subst (IsAlone c.args.held) (sym c.deref.ensures.value) c.loop-place.invariant.taking.alone

pub loop-place-preserved : goal.loop-place-preserved
loop-place-preserved c =
    let slots = c.args.kept.now.slots in
    let now = c.loop-place.index.items in
    let own =
    subst (λ (xs : List Stored). is_one_of c.args.held.0 (slice_get (drop c.in-Some.place xs) 0) ≡ true)
    c.deref.ensures.value c.in-Some.ensures.1 in
    record {
      taking =
          subst (Taking slots c.args.held c.args.index.now.items) (sym c.remove.ensures.items)
          (taking_more slots c.args.held c.args.index.now.items now c.in-Some.place own c.loop-place.invariant.taking);
      len = omega (arith, c.remove.ensures.len, c.loop-place.invariant.len);
      capacity = c.remove.ensures.capacity ∙ c.loop-place.invariant.capacity;
    }

pub returns-clause-outside : goal.returns-clause-outside
returns-clause-outside c =
    let now = c.loop-place.index.items in
    none_outside c.args.held.0 now
    (λ h i. c.in_default.ensures h (subst (In h) (sym c.deref.ensures.value) i))
    ∙ c.loop-place.invariant.taking.outside
