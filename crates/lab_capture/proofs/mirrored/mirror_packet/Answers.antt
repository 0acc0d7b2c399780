use Rattle.std.proofs.Common.{◌∙◌, ap}
use Rattle.sorted_lists.specs.SortedList.{value_of}
use Rattle.repo_plan.specs.Parts.{part_cmp}
use Rattle.repo_mirror.specs.MirrorState.{MirrorState}
use Rattle.lab_capture.proofs.Mirrors.{packet_is}
use Rattle.lab_capture.proofs.mirrored.mirror_packet.Goals as goal

pub returns : goal.returns
returns c =
    c.packet.ensures ∙ ap (λ (m : MirrorState). value_of part_cmp m.store c.args.part) c.mirror.ensures
    ∙ packet_is c.args.world.now c.cite_soundness.ensures.consistent c.args.i c.requires c.args.part
