use Rattle.std.proofs.Common.{◌∙◌, ap}
use Rattle.sorted_lists.specs.SortedList.{value_of}
use Rattle.repo_plan.specs.Parts.{part_cmp}
use Rattle.repo_member.specs.MemberState.{MemberState}
use Rattle.lab_capture.proofs.Worlds.{held_packet}
use Rattle.lab_capture.proofs.frames.packet_of.Goals as goal

pub returns : goal.returns
returns c =
    c.packet.ensures ∙ ap (λ (a : MemberState). value_of part_cmp a.store c.args.part) c.member.ensures.same
    ∙ held_packet c.args.world.now c.cite_soundness.ensures.consistent c.args.m c.requires c.args.part
