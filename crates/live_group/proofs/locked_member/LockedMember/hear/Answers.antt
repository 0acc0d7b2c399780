use Rattle.std.proofs.Common.{refl}
use Rattle.live_member.specs.declared.event.LiveEvent.TheVariants as event
use Rattle.live_group.proofs.Desks.{other_call}
use Rattle.live_group.proofs.locked_member.LockedMember.hear.Goals as goal

pub invariant_of-self : goal.invariant_of-self
invariant_of-self g c =
    let locked_member = c.args.self.now in
    record {
      one_part = locked_member.one_part;
      kept =
          other_call g.L.Lists.meaning g.L.Run.turns locked_member.live c.hear.new.self locked_member.first
          locked_member.second locked_member.look
          locked_member.spent.amount locked_member.kept (event.Hear c.args.told.now) refl refl c.hear.result
          c.hear.ensures;
    }
