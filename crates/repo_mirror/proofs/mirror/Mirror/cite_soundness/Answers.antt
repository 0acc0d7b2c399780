use Rattle.std.proofs.Common.{subst}
use Rattle.repo_plan.specs.Plan.{PlanState}
use Rattle.repo_plan.specs.Sound.{PlanIsSound}
use Rattle.repo_mirror.specs.MirrorState.{MirrorState, fetch_plan}
use Rattle.repo_mirror.specs.PacketsFor.{ArePacketsFor}
use Rattle.repo_mirror.proofs.MirrorLemmas.{reading}
use Rattle.repo_mirror.proofs.ReachedLemmas.{sound_reached}
use Rattle.repo_mirror.proofs.WantedLemmas.{wants_those}
use Rattle.repo_mirror.proofs.mirror.Mirror.cite_soundness.Goals as goal

pub returns-clause-wants : goal.returns-clause-wants
returns-clause-wants c =
    let m : MirrorState = c.args.self.now in
    let are : ArePacketsFor m.pattern m.store =
    subst (λ (a : MirrorState). ArePacketsFor a.pattern a.store) c.self.view_is c.self.invariant.packets in
    let sound : PlanIsSound (fetch_plan m) =
    subst PlanIsSound (reading (λ (p : PlanState). p) c.self.inside m c.self.invariant c.self.view_is)
    c.cite_soundness.ensures in
    wants_those m (sound_reached m sound are)
