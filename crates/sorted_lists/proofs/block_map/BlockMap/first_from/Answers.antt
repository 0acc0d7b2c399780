use Rattle.std.proofs.Common.{◌∙◌, ap, sym, subst, ◌≡◌, ◌≤◌, ◌+◌, ◌<◌, suc, length, get_or}
use Rattle.std.specs.List.{slice_get}
use Rattle.std.proofs.Math.Numerals.{add-one}
use Rattle.sorted_lists.specs.SortedList.{keys, Rises, first_from}
use Rattle.sorted_lists.specs.BlockMap.{joined}
use Rattle.sorted_lists.proofs.Blocks.{block_rises, none_joined, first_place, first_end, first_next}
use Rattle.sorted_lists.proofs.block_map.BlockMap.first_from.Goals as goal

pub returns-in_err-block : goal.returns-in_err-block
returns-in_err-block g c =
    let there = rw (← c.deref.ensures.value) at c.place_of-place.ensures.place in
    let none = none_joined g.met.K.Ord.total c.args.key c.deref.result.now c.place_of-place.result there
    c.in_err-block.ensures.lookup.3 in
    c.from_residual.ensures
    ∙ sym (rw c.deref.ensures.value at (ap (first_from g.K.Ord.cmp c.args.key) none))

pub first_from-requires : goal.first_from-requires
first_from-requires g c =
    let block = c.in_ok-block.block.now in
    let rises = rw (← c.deref.ensures.value) at c.requires.rises in
    rw c.deref-2.ensures.value
    (subst (λ b. Rises g.K.Ord.cmp (keys b.items)) (sym c.in_ok-block.ensures.lookup.1)
    (block_rises g.met.K.Ord.total c.deref.result.now c.place_of-place.result block rises
    c.in_ok-block.ensures.lookup.3.0))

pub returns-in-Some : goal.returns-in-Some
returns-in-Some g c =
    let there = rw (← c.deref.ensures.value) at c.place_of-place.ensures.place in
    let here =
    sym
    (ap (first_from g.K.Ord.cmp c.args.key) c.deref-2.ensures.value
    ∙ ap (λ b. first_from g.K.Ord.cmp c.args.key b.items) c.in_ok-block.ensures.lookup.1)
    ∙ sym c.in-Some.ensures in
    sym (rw c.deref.ensures.value at
    (first_place g.met.K.Ord.total c.args.key c.deref.result.now c.place_of-place.result c.in_ok-block.block.now
    c.in-Some.entry there c.in_ok-block.ensures.lookup.3.0 here))

pub returns-in_err-get-in-None : goal.returns-in_err-get-in-None
returns-in_err-get-in-None g c =
    let there = rw (← c.deref.ensures.value) at c.place_of-place.ensures.place in
    let here =
    sym
    (ap (first_from g.K.Ord.cmp c.args.key) c.deref-2.ensures.value
    ∙ ap (λ b. first_from g.K.Ord.cmp c.args.key b.items) c.in_ok-block.ensures.lookup.1)
    ∙ sym c.in-None.ensures in
    let end : length c.deref.result.now ≤ c.place_of-place.result + 1 =
    rw (c.deref-in-None.ensures.value, ← c.deref.ensures.value) at c.in_err-get-in-None.ensures.lookup.3 in
    c.from_residual-in_err-get-in-None.ensures
    ∙ sym (rw c.deref.ensures.value at
    (first_end g.met.K.Ord.total c.args.key c.deref.result.now c.place_of-place.result c.in_ok-block.block.now there
    c.in_ok-block.ensures.lookup.3.0 here end))

pub returns-in_ok-get-in-None : goal.returns-in_ok-get-in-None
returns-in_ok-get-in-None g c =
    let blocks = c.deref.result.now in
    let place = c.place_of-place.result in
    let block = c.in_ok-block.block.now in
    let next = c.in_ok-get-in-None.field-0.now in
    let there = rw (← c.deref.ensures.value) at c.place_of-place.ensures.place in
    let kept = rw (← c.deref.ensures.value) at c.requires.sizes in
    let here =
    sym
    (ap (first_from g.K.Ord.cmp c.args.key) c.deref-2.ensures.value
    ∙ ap (λ b. first_from g.K.Ord.cmp c.args.key b.items) c.in_ok-block.ensures.lookup.1)
    ∙ sym c.in-None.ensures in
    let same = c.deref-in-None.ensures.value ∙ sym c.deref.ensures.value in
    let within : suc place < length blocks = rw (same, add-one) at c.in_ok-get-in-None.ensures.lookup.3.0 in
    let value : next ≡ get_or blocks (suc place) block =
    rw (same, add-one) at (c.in_ok-get-in-None.ensures.lookup.3.1 block) in
    c.copied.ensures
    ∙ c.first.ensures.value
    ∙ ap (λ es. slice_get es 0) c.deref-in-None-2.ensures.value
    ∙ ap (λ b. slice_get b.items 0) value
    ∙ first_next g.met.K.Ord.total c.args.key blocks place block there kept within here
    ∙ ap (λ bs. first_from g.K.Ord.cmp c.args.key (joined bs)) c.deref.ensures.value
