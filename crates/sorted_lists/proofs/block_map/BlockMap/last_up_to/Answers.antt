use Rattle.std.proofs.Common.{◌∙◌, ap, sym, subst}
use Rattle.sorted_lists.specs.SortedList.{keys, Rises, last_up_to}
use Rattle.sorted_lists.specs.BlockMap.{joined}
use Rattle.sorted_lists.proofs.Blocks.{block_rises, last_place, none_joined}
use Rattle.sorted_lists.proofs.block_map.BlockMap.last_up_to.Goals as goal

pub returns-in_err-block : goal.returns-in_err-block
returns-in_err-block g c =
    let there = rw (← c.deref.ensures.value) at c.place_of.ensures.place in
    let none = none_joined g.met.K.Ord.total c.args.key c.deref.result.now c.place_of.result there
    c.in_err-block.ensures.lookup.3 in
    c.from_residual.ensures
    ∙ sym (rw c.deref.ensures.value at (ap (last_up_to g.K.Ord.cmp c.args.key) none))

pub last_up_to-requires : goal.last_up_to-requires
last_up_to-requires g c =
    let block = c.in_ok-block.block.now in
    let rises = rw (← c.deref.ensures.value) at c.requires.rises in
    rw c.deref-2.ensures.value
    (subst (λ b. Rises g.K.Ord.cmp (keys b.items)) (sym c.in_ok-block.ensures.lookup.1)
    (block_rises g.met.K.Ord.total c.deref.result.now c.place_of.result block rises c.in_ok-block.ensures.lookup.3.0))

pub returns : goal.returns
returns g c =
    let there = rw (← c.deref.ensures.value) at c.place_of.ensures.place in
    let found =
    last_place g.met.K.Ord.total c.args.key c.deref.result.now c.place_of.result c.in_ok-block.block.now there
    c.in_ok-block.ensures.lookup.3.0 in
    c.last_up_to.ensures
    ∙ ap (last_up_to g.K.Ord.cmp c.args.key) c.deref-2.ensures.value
    ∙ ap (λ b. last_up_to g.K.Ord.cmp c.args.key b.items) c.in_ok-block.ensures.lookup.1
    ∙ found
    ∙ ap (λ bs. last_up_to g.K.Ord.cmp c.args.key (joined bs)) c.deref.ensures.value
