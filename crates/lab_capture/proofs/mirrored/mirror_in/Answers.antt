use Rattle.std.proofs.Common.{◌∙◌, List, ap}
use Rattle.sorted_lists.specs.SortedList.{keys}
use Rattle.repo_plan.specs.declared.part.Part.{Part}
use Rattle.repo_mirror.specs.MirrorState.{MirrorState}
use Rattle.lab_capture.specs.Frames.{Holder}
use Rattle.lab_capture.proofs.Mirrors.{held_stored}
use Rattle.lab_capture.proofs.mirrored.mirror_in.Goals as goal

pub returns : goal.returns
returns c =
    let with_held : List Part → Holder = λ ts. record { member = c.args.mirror; held = ts } in
    ap with_held (c.in_ok-held.ensures ∙ ap (λ (m : MirrorState). keys m.store) c.mirror.ensures
    ∙ held_stored c.args.world.now c.cite_soundness.ensures.consistent c.args.mirror c.requires)
