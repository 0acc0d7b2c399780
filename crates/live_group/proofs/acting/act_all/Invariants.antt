use Rattle.std.proofs.Common.{◌≡◌, ◌+◌, length}
use Rattle.std.specs.Prelude.{vec_len}
use Rattle.live_group.proofs.acting.act_all.Given as goal

abbrev pub invariant-loop-end : goal.invariant-loop-end
invariant-loop-end g l =
    vec_len l.done + length l.end-iterator.rest.items ≡ length l.initial.end-iterator.rest.items
