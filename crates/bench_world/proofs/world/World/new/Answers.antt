use Rattle.std.proofs.Common.{List, [], sym, ap, ◌∙◌, subst}
use Rattle.group_model.specs.World.{Issued}
use Rattle.repo_mirror.specs.MirrorState.{MirrorState}
use Rattle.bench_world.specs.IssuedList.{IssuedList}
use Rattle.bench_world.specs.Worlds.{IsConsistentState, in_groups, world_of}
use Rattle.bench_world.proofs.Openings.{initial_state, opening_is}
use Rattle.bench_world.proofs.Lacking.{all_touched}
use Rattle.bench_world.proofs.MirrorsLacking.{all_mirrors_touched}
use Rattle.bench_world.proofs.world.World.new.Goals as goal

pub invariant_of-result : goal.invariant_of-result
invariant_of-result g c =
    record {
      consistent =
          subst (λ (ms : List MirrorState). IsConsistentState (record {
            keys = c.args.group;
            members = c.in_ok-members.members.items;
            sent = c.new.result.packets;
            time = 0;
            issued = c.new-2.result.commands;
            tally = record { delivered = 0; attempts = 0; parts = 0; octets = 0 };
            steps = 0;
            mirrors = ms;
          }))
          (sym c.new-3.ensures.items)
          (subst (λ (made : List Issued). IsConsistentState (record {
            keys = c.args.group;
            members = c.in_ok-members.members.items;
            sent = c.new.result.packets;
            time = 0;
            issued = made;
            tally = record { delivered = 0; attempts = 0; parts = 0; octets = 0 };
            steps = 0;
            mirrors = [];
          }))
          (sym (ap (λ (x : IssuedList). x.commands) c.new-2.ensures))
          (initial_state c.args.group c.cite_soundness.ensures (g.D.Draws.draw c.args.draws.now)
          c.in_ok-members.members.items c.new.result.packets c.in_ok-members.ensures
          (ap (λ x. x.packets) c.new.ensures)));
      nobody_lacks =
          record {
            members = all_touched c.all.result.members _ c.all.ensures.members;
            mirrors =
                all_mirrors_touched c.all.result.mirrors (in_groups c.in_ok-members.members.items) _
                c.all.ensures.mirrors;
          };
    }

pub returns-clause-world : goal.returns-clause-world
returns-clause-world g c =
    ap (λ (made : List Issued). world_of (record {
      keys = c.args.group;
      members = c.in_ok-members.members.items;
      sent = c.new.result.packets;
      time = 0;
      issued = made;
      tally = record { delivered = 0; attempts = 0; parts = 0; octets = 0 };
      steps = 0;
      mirrors = [];
    })) (ap (λ (x : IssuedList). x.commands) c.new-2.ensures)
    ∙ opening_is c.args.group c.cite_soundness.ensures (g.D.Draws.draw c.args.draws.now)
    c.in_ok-members.members.items c.new.result.packets c.in_ok-members.ensures (ap (λ x. x.packets) c.new.ensures)
