use Rattle.std.proofs.Common.{◌≡◌, ◌<◌, ◌-◌, subst, arith}
use Rattle.live_member.specs.declared.event.LiveEvent.TheVariants as event
use Rattle.live_member.specs.LockedCalls.{StepsBy}
use Rattle.live_group.proofs.Desks.{claims}
use Rattle.live_group.proofs.Turning.{of_member}
use Rattle.live_group.proofs.locked_member.LockedMember.claim.Goals as goal
use Rattle.live_group.proofs.locked_member.LockedMember.claim.Goals.{then-f-eq1, else-f-eq1}

pub invariant_of-self-then-f-eq1-2 : goal.invariant_of-self-then-f-eq1-2
invariant_of-self-then-f-eq1-2 g c =
    let desk = c.args.self.now in
    let one : c.args.f ≡ 1 = omega (arith, c.if-f-eq1-2.true) in
    let some : 0 < desk.first =
    elim c.if-f-eq1.branch [
      | then-f-eq1 w ↦ omega (arith, w.left-is, c.if-left-eq0.false)
      | else-f-eq1 w ↦ absurd (omega (arith, w.if-f-eq1.false, one))
    ] in
    record {
      one_part = omega (arith, c.transfer.ensures.parts_given, desk.one_part);
      kept =
          claims g.L.Lists.meaning g.L.Run.turns desk.live c.claim.new.self desk.first desk.second desk.look
          desk.spent.amount desk.kept 1 c.in_ok-reply.reply
          (subst (λ f. StepsBy g.L.Lists.meaning 900000 (event.Claim f) desk.live c.claim.new.self c.in_ok-reply.reply)
          one c.in_ok-reply.ensures) (desk.first - 1) desk.second (omega (arith, some)) (omega arith)
          c.transfer.new.to.amount (omega (arith, some, c.transfer.ensures.amount_given));
    }

pub invariant_of-self-else-f-eq1-2 : goal.invariant_of-self-else-f-eq1-2
invariant_of-self-else-f-eq1-2 g c =
    let desk = c.args.self.now in
    let two : c.args.f ≡ 2 = omega (arith, c.if-f-eq1-2.false, c.requires.two, c.requires.fetcher.from_one) in
    let some : 0 < desk.second =
    elim c.if-f-eq1.branch [
      | then-f-eq1 w ↦ absurd (omega (arith, w.if-f-eq1.true, two))
      | else-f-eq1 w ↦ omega (arith, w.left-is, c.if-left-eq0.false)
    ] in
    record {
      one_part = omega (arith, c.transfer.ensures.parts_given, desk.one_part);
      kept =
          claims g.L.Lists.meaning g.L.Run.turns desk.live c.claim.new.self desk.first desk.second desk.look
          desk.spent.amount desk.kept 2 c.in_ok-reply.reply
          (subst (λ f. StepsBy g.L.Lists.meaning 900000 (event.Claim f) desk.live c.claim.new.self c.in_ok-reply.reply)
          two c.in_ok-reply.ensures) desk.first (desk.second - 1) (omega arith) (omega (arith, some))
          c.transfer.new.to.amount (omega (arith, some, c.transfer.ensures.amount_given));
    }

pub returns-then-f-eq1-2-clause-publisher : goal.returns-then-f-eq1-2-clause-publisher
returns-then-f-eq1-2-clause-publisher g c =
    of_member g.L.Lists.meaning 900000 c.args.self.now.live c.claim.new.self c.in_ok-reply.reply c.args.f
    c.requires.fetcher c.in_ok-reply.ensures

pub returns-else-f-eq1-2-clause-publisher : goal.returns-else-f-eq1-2-clause-publisher
returns-else-f-eq1-2-clause-publisher g c =
    of_member g.L.Lists.meaning 900000 c.args.self.now.live c.claim.new.self c.in_ok-reply.reply c.args.f
    c.requires.fetcher c.in_ok-reply.ensures
