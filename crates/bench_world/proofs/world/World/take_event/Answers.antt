use Rattle.std.proofs.Common.{length, refl, sym, ◌∙◌, subst}
use Rattle.std.proofs.lemmas.List.{length-map}
use Rattle.repo_member.specs.InGroup.{in_group}
use Rattle.bench_world.specs.Serving.{environment}
use Rattle.bench_world.specs.EventValues.{event_value}
use Rattle.bench_world.specs.Steps.{EventInRange}
use Rattle.bench_world.specs.Runs.{IsStep}
use Rattle.bench_world.specs.Worlds.{GroupState, world_of}
use Rattle.bench_world.proofs.Names.{names_all}
use Rattle.bench_world.proofs.Stepping.{carried_out, is_reported}
use Rattle.bench_world.proofs.world.World.take_event.Goals as goal

pub order_names_for-requires : goal.order_names_for-requires
order_names_for-requires g c =
    subst (λ n. EventInRange n (event_value c.args.event.now)) (sym c.cite_soundness.ensures.names)
    c.requires.fits.ready

pub carry_out-requires-clause-ready : goal.carry_out-requires-clause-ready
carry_out-requires-clause-ready g c κs within =
    subst (λ (s : GroupState). EventInRange (length s.members) (event_value c.args.event.now))
    (sym c.order_names_for.ensures)
    (subst (λ n. EventInRange n (event_value c.args.event.now)) (sym c.cite_soundness.ensures.names)
    c.requires.fits.ready)

pub returns : goal.returns
returns g c =
    let event = event_value c.args.event.now in
    let made =
    subst (λ (s : GroupState).
    IsStep (environment s.keys (g.D.Draws.draw c.args.draws.now) (g.N.Net.passes c.args.net.now)) event s
    c.carry_out.result c.carry_out.new.self) c.order_names_for.ensures c.carry_out.ensures in
    let old = c.args.self.now in
    let env = environment old.keys (g.D.Draws.draw c.args.draws.now) (g.N.Net.passes c.args.net.now) in
    let many = length-map old.members in_group ∙ c.cite_soundness.ensures.names in
    record {
      ok = carried_out env event old c.carry_out.result c.carry_out.new.self made;
      refused = made.refused;
      report =
          is_reported env event old c.carry_out.result c.carry_out.new.self made
          (names_all (length old.keys.members.names) old.keys env (world_of old) refl many
          c.cite_soundness.ensures.sound event c.requires.fits.ready);
      keeps = record { keys = made.keys; mirrors = made.mirrors };
      err = made.err;
    }
