use Rattle.std.proofs.Common.{◌≡◌, ◌-◌, ◌≤◌, [], map, replicate, vec_len}
use Rattle.repo_process.proofs.insertion.no_blocks.Given as goal

abbrev pub invariant-loop-alloc : goal.invariant-loop-alloc
invariant-loop-alloc l =
    (map (λ c. c.items) l.blocks.items ≡ replicate (vec_len l.blocks) []) × (vec_len l.blocks ≤ l.count)

abbrev pub decreases-loop-alloc : goal.decreases-loop-alloc
decreases-loop-alloc l = l.count - vec_len l.blocks
