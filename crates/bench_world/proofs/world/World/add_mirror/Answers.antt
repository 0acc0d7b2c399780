use Rattle.std.proofs.Common.{◌∷◌, ◌++◌, [], ap, ◌∙◌, arith}
use Rattle.repo_mirror.specs.MirrorState.{MirrorState}
use Rattle.bench_world.specs.Worlds.{in_groups}
use Rattle.bench_world.specs.Kept.{world_state}
use Rattle.bench_world.proofs.MirrorsLacking.{all_mirrors_touched}
use Rattle.bench_world.proofs.MirrorStates.{added_mirror}
use Rattle.bench_world.proofs.world.World.add_mirror.Goals as goal

pub invariant_of-self-2 : goal.invariant_of-self-2
invariant_of-self-2 c =
    let s = world_state c.self.inside in
    record {
      consistent =
          added_mirror s c.self.invariant.consistent c.args.pattern c.len-2.result
          (omega (arith, c.len-2.ensures, c.self.inside.members.ok))
          (omega (arith, c.if-len-ge-MIRROR_LIMIT.false, c.len.ensures, c.self.inside.mirrors.ok))
          c.put_last.new.mirrors.items
          (c.in_ok-put_last.ensures.ok ∙ ap (λ (m : MirrorState). s.mirrors ++ m ∷ []) c.in_ok-mirror.ensures);
      nobody_lacks =
          record {
            members = c.self.invariant.nobody_lacks.members;
            mirrors = all_mirrors_touched c.all.result (in_groups s.members) _ c.all.ensures;
          };
    }
