use Rattle.live_group.proofs.Desks.{next_published}
use Rattle.live_group.proofs.locked_member.LockedMember.publish_next.Goals as goal

pub invariant_of-self-in-Told-1 : goal.invariant_of-self-in-Told-1
invariant_of-self-in-Told-1 g c =
    let locked_member = c.args.self.now in
    record {
      one_part = locked_member.one_part;
      kept =
          next_published g.L.Lists.meaning g.L.Run.turns locked_member.live c.publish_next.new.self locked_member.first
          locked_member.second
          locked_member.look locked_member.spent.amount locked_member.kept c.in-Told.told
          (rw c.in-Told.is at c.in_ok-told.ensures)
          c.if-self-eq0.false;
    }
