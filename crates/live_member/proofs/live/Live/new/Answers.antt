use Rattle.live_member.proofs.Begins.{begins_kept}
use Rattle.live_member.proofs.live.Live.new.Goals as goal

pub invariant_of-result : goal.invariant_of-result
invariant_of-result g c =
    rw (c.new-2.ensures.items, c.from.ensures.0)
    (begins_kept g.L.Lists.meaning g.row.M c.args.number c.args.draw c.args.g.now c.in_ok-new.field-0
    c.args.objects.items c.requires.group c.requires.within c.requires.number c.requires.list c.requires.draw
    c.in_ok-new.ensures)

pub returns-clause-live : goal.returns-clause-live
returns-clause-live g c =
    rw (c.new-2.ensures.items, c.from.ensures.0)
    (begins_kept g.L.Lists.meaning g.row.M c.args.number c.args.draw c.args.g.now c.in_ok-new.field-0
    c.args.objects.items c.requires.group c.requires.within c.requires.number c.requires.list c.requires.draw
    c.in_ok-new.ensures).live
