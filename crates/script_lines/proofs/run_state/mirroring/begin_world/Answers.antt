use Rattle.std.proofs.Common.{◌≡◌, List, length, ap, sym, subst, arith, rules}
use Rattle.repo_watch.specs.declared.pattern.Pattern.{Pattern}
use Rattle.group_model.specs.World.{World, initial_world}
use Rattle.bench_world.specs.Worlds.{drawing}
use Rattle.script_lines.specs.declared.error.LineError.{LineError}
use Rattle.script_lines.specs.declared.error.LineError.TheVariants.{NoMemory}
use Rattle.script_lang.proofs.Stops.{stops_so}
use Rattle.script_lines.proofs.MirrorWorlds.{HasBegun, begun_more, begun_none}
use Rattle.script_lines.proofs.run_state.mirroring.begin_world.Goals as goal

pub add_mirror-requires : goal.add_mirror-requires
add_mirror-requires g c =
    let left = ap (λ (ps : List Pattern). length ps) c.in-Some.ensures.steps.0 in
    omega (arith, left, c.loop-pattern.invariant.few)

pub loop-pattern-init : goal.loop-pattern-init
loop-pattern-init g c =
    let begun : World =
    initial_world (drawing (g.D.Draws.draw c.args.draws.now)) (length c.args.group.members.names) in
    let all : c.into_iter-pattern-iterator.result.rest.items ≡ c.args.patterns.items = search rules in
    subst (λ (rest : List Pattern). HasBegun c.args.group begun c.args.patterns.items rest c.in_ok-world.world)
    (sym all) (begun_none c.args.group begun c.args.patterns.items c.in_ok-world.world c.in_ok-world.ensures.world
    c.in_ok-world.ensures.keys c.in_ok-world.ensures.steps c.in_ok-world.ensures.mirrors c.requires.few)

pub loop-pattern-preserved : goal.loop-pattern-preserved
loop-pattern-preserved g c =
    begun_more c.args.group
    (initial_world (drawing (g.D.Draws.draw c.args.draws.now)) (length c.args.group.members.names))
    c.args.patterns.items c.loop-pattern.world c.add_mirror.new.world c.in-Some.pattern
    c.loop-pattern.pattern-iterator.rest.items c.next.new.self.rest.items c.loop-pattern.invariant
    c.in-Some.ensures.steps.0 c.in_ok-add_mirror.ensures.same c.in_ok-add_mirror.ensures.mirrors

pub returns-in_err-add_mirror-clause-err : goal.returns-in_err-add_mirror-clause-err
returns-in_err-add_mirror-clause-err g c =
    stops_so c.from_residual-in_err-add_mirror.result (λ (error : LineError). error ≡ NoMemory)
    c.in_err-add_mirror.field-0.0
    c.from_residual-in_err-add_mirror.ensures.1 c.in_err-add_mirror.ensures.err
