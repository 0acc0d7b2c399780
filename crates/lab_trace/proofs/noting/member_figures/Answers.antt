use Rattle.std.proofs.Common.{Some}
use Rattle.lab_trace.proofs.MemberValues.{members_figures}
use Rattle.lab_trace.proofs.noting.member_figures.Goals as goal

pub returns : goal.returns
returns c =
    members_figures c.args.world.now c.args.m c.member-member.result.now _ c.cite_soundness.ensures.consistent
    c.requires.there c.member-member.ensures.same
    (λ i. Some (record { mode = c.mode.ensures i; deadline = c.deadline.ensures i }))
    c.held_count.ensures c.wanted_count.ensures c.listed_count.ensures c.member-member.ensures.catalogue
