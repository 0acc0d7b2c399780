use Rattle.std.proofs.Common.{◌≡◌, ◌≤◌, ◌<◌, ◌+◌, ◌-◌, ◌^◌, vec_len, vec_capacity}
use Rattle.sorted_lists.specs.BlockMap.{IsMap}
use Rattle.sorted_lists.proofs.block_map.BlockMap.add_spare.Given as goal

abbrev pub invariant-loop-self : goal.invariant-loop-self
invariant-loop-self g l = record {
  blocks : l.self.blocks.items ≡ l.initial.self.blocks.items;
  map : IsMap g.K.Ord.cmp l.self;
  grows : vec_len l.initial.self.spare ≤ vec_len l.self.spare;
  room : vec_len l.self.blocks + l.wanted ≤ vec_capacity l.self.blocks;
  back : vec_len l.self.blocks + l.wanted ≤ vec_capacity l.self.spare;
  few : vec_len l.self.blocks + l.wanted < 2 ^ 57;
}

abbrev pub decreases-loop-self : goal.decreases-loop-self
decreases-loop-self g l = l.wanted - vec_len l.self.spare
