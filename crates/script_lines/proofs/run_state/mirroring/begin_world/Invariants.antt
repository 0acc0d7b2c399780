use Rattle.std.proofs.Common.{length}
use Rattle.group_model.specs.World.{initial_world}
use Rattle.bench_world.specs.Worlds.{drawing}
use Rattle.script_lines.proofs.MirrorWorlds.{HasBegun}
use Rattle.script_lines.proofs.run_state.mirroring.begin_world.Given as goal

abbrev pub invariant-loop-pattern : goal.invariant-loop-pattern
invariant-loop-pattern g l =
    HasBegun l.fn.group (initial_world (drawing (g.D.Draws.draw l.draws)) (length l.fn.group.members.names))
    l.fn.patterns.items l.pattern-iterator.rest.items l.world
