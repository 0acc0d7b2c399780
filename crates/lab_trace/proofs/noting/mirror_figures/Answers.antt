use Rattle.std.proofs.Common.{refl}
use Rattle.lab_trace.proofs.MirrorValues.{mirrors_figures}
use Rattle.lab_trace.proofs.noting.mirror_figures.Goals as goal

pub returns : goal.returns
returns c =
    mirrors_figures c.args.world.now c.args.i c.mirror-mirror.result.now _ c.cite_soundness.ensures.consistent
    c.requires.there c.mirror-mirror.ensures refl c.held_count.ensures c.wanted_count.ensures c.listed_count.ensures
