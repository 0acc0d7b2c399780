use Rattle.std.proofs.Common.{sym, ap, ◌∙◌, arith}
use Rattle.std.specs.Option.{option_copied}
use Rattle.ndn_name.proofs.SizeLemmas.{plus, plus-plus, room-split, size-split, size-stuck, size_left}
use Rattle.ndn_name.proofs.uri_size.path_len.Goals as goal

pub component_len-requires : goal.component_len-requires
component_len-requires c =
    let inv = rw c.in-Some.is at c.loop-left.invariant in
    let first = c.split_once.result.0.now in
    let room = room-split c.in-Some.text.now first (option_copied c.split_once.result.1) c.split_once.ensures in
    omega (arith, c.requires, inv.small, room)

pub returns-in_err-len : goal.returns-in_err-len
returns-in_err-len c =
    let inv = rw c.in-Some.is at c.loop-left.invariant in
    let text = c.in-Some.text.now in
    let first = c.split_once.result.0.now in
    let after = option_copied c.split_once.result.1 in
    let stuck = size-stuck text first after c.split_once.ensures (sym c.in_err-len.ensures.exact) in
    rw c.from_residual.ensures (sym (inv.size ∙ ap (plus c.loop-left.len) stuck))

pub loop-left-preserved : goal.loop-left-preserved
loop-left-preserved c =
    let inv = rw c.in-Some.is at c.loop-left.invariant in
    let text = c.in-Some.text.now in
    let first = c.split_once.result.0.now in
    let after = option_copied c.split_once.result.1 in
    let n = c.in_ok-len.field-0 in
    let step = size-split text first after n c.split_once.ensures (sym c.in_ok-len.ensures.exact) in
    record {
      size = inv.size ∙ ap (plus c.loop-left.len) step ∙ plus-plus c.loop-left.len n (size_left after);
      small = omega (arith, inv.small, room-split text first after c.split_once.ensures, c.in_ok-len.ensures.small);
    }
