use Rattle.std.proofs.Common.{◌∙◌, sym, Ok, Err, rules, arith}
use Rattle.std.proofs.lemmas.List.Sorted.{answers_always}
use Rattle.sorted_lists.proofs.Search.{found, without_at, without_between}
use Rattle.sorted_lists.proofs.block.remove.Goals as goal

pub returns-in-Ok : goal.returns-in-Ok
returns-in-Ok g c =
    let o = g.met.K.Ord.total in
    let rises = rw (← c.deref.ensures.value) at c.requires in
    let by_key = c.in-Ok.ensures.position (λ entry. entry.0) (answers_always _ _ _ (λ f a r g called. search rules)) in
    let place =
    found o (λ entry. entry.0) c.deref.result.now c.args.key (Ok c.in-Ok.place) rises c.in-Ok.ensures.bound by_key in
    record {
      entries =
          c.remove.ensures.items
          ∙ sym (rw c.deref.ensures.value at (without_at o c.deref.result.now c.args.key c.in-Ok.place rises place));
      capacity = omega (arith, c.remove.ensures.capacity);
    }

pub returns-in_default : goal.returns-in_default
returns-in_default g c =
    let o = g.met.K.Ord.total in
    let rises = rw (← c.deref.ensures.value) at c.requires in
    let by_key =
    c.in_default.ensures.position (λ entry. entry.0) (answers_always _ _ _ (λ f a r g called. search rules)) in
    let place =
    found o (λ entry. entry.0) c.deref.result.now c.args.key (Err c.in_default.field-0) rises c.in_default.ensures.bound
    by_key in
    let same =
    sym (rw c.deref.ensures.value at (without_between o c.deref.result.now c.args.key c.in_default.field-0 place)) in
    record { entries = same; capacity = omega arith }
