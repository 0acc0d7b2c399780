use Rattle.std.proofs.Common.{◌≡◌, ◌≤◌, ◌+◌, ◌*◌, length, Some}
use Rattle.std.specs.Option.{option_copied}
use Rattle.ndn_name.proofs.SizeLemmas.{plus, room_left, size_left}
use Rattle.ndn_name.proofs.uri_size.path_len.Given as goal

abbrev pub invariant-loop-left : goal.invariant-loop-left
invariant-loop-left l = record {
  size : size_left (Some l.path) ≡ plus l.len (size_left (option_copied l.left));
  small : l.len + 2 * room_left (option_copied l.left) ≤ 2 * (length l.path + 1);
}

abbrev pub decreases-loop-left : goal.decreases-loop-left
decreases-loop-left l = room_left (option_copied l.left)
