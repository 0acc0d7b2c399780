-- What contracts see of a world, and its invariant.
use Rattle.bench_world.specs.declared.world.World.TheInside.{Inside}
use Rattle.bench_world.specs.Unsettled.{NobodyLacks}
use Rattle.bench_world.specs.Worlds.{GroupState, IsConsistentState, in_groups}

-- What contracts see of a world.
abbrev pub world_state : Inside → GroupState
world_state w = record {
  keys = w.group;
  members = w.members.items;
  sent = w.sent.packets;
  time = w.time;
  issued = w.issued.commands;
  tally = record { delivered = w.delivered; attempts = w.attempts; parts = w.parts; octets = w.octets };
  steps = w.steps;
  mirrors = w.mirrors.items;
}

-- The world is sound, and neither a member nor a mirror lacks what someone holds of a publication that wasn't touched
-- since all of them settled.
pub record IsWorld (w : Inside) : Type 0 where
  pub consistent : IsConsistentState (world_state w)
  pub nobody_lacks : NobodyLacks w.unsettled (in_groups w.members.items) w.mirrors.items
