use Rattle.std.proofs.Common.{sym, ap, ◌∙◌}
use Rattle.std.specs.Prelude.{Ok}
use Rattle.bench_world.specs.Serving.{environment}
use Rattle.bench_world.specs.EventValues.{EventValue, event_value}
use Rattle.bench_world.proofs.Stepping.{of_event}
use Rattle.bench_world.proofs.world.World.carry_out.Goals as goal

pub returns-in-Publish : goal.returns-in-Publish
returns-in-Publish g c =
    let env = environment c.args.self.now.keys (g.D.Draws.draw c.args.draws.now) (g.N.Net.passes c.args.net.now) in
    of_event env (event_value c.args.event.now)
    (EventValue.Publish c.in-Publish.m c.in-Publish.name c.in-Publish.size c.deref.result.now) c.args.self.now
    c.publish.result c.publish.new.self
    (ap event_value c.in-Publish.is
    ∙ ap (EventValue.Publish c.in-Publish.m c.in-Publish.name c.in-Publish.size) (sym c.deref.ensures.value))
    c.publish.ensures

pub returns-in-Withdraw : goal.returns-in-Withdraw
returns-in-Withdraw g c =
    let env = environment c.args.self.now.keys (g.D.Draws.draw c.args.draws.now) (g.N.Net.passes c.args.net.now) in
    of_event env (event_value c.args.event.now) (EventValue.Withdraw c.in-Withdraw.m c.in-Withdraw.s) c.args.self.now
    c.withdraw.result c.withdraw.new.self (ap event_value c.in-Withdraw.is) c.withdraw.ensures

pub returns-in-Deliver : goal.returns-in-Deliver
returns-in-Deliver g c =
    let env = environment c.args.self.now.keys (g.D.Draws.draw c.args.draws.now) (g.N.Net.passes c.args.net.now) in
    of_event env (event_value c.args.event.now) (EventValue.Deliver c.in-Deliver.k c.in-Deliver.m) c.args.self.now
    c.deliver.result c.deliver.new.self (ap event_value c.in-Deliver.is) c.deliver.ensures

pub returns-in-Sync : goal.returns-in-Sync
returns-in-Sync g c =
    let env = environment c.args.self.now.keys (g.D.Draws.draw c.args.draws.now) (g.N.Net.passes c.args.net.now) in
    of_event env (event_value c.args.event.now) (EventValue.Sync c.in-Sync.k) c.args.self.now c.sync.result
    c.sync.new.self (ap event_value c.in-Sync.is) c.sync.ensures

pub returns-in-Advance : goal.returns-in-Advance
returns-in-Advance g c =
    let env = environment c.args.self.now.keys (g.D.Draws.draw c.args.draws.now) (g.N.Net.passes c.args.net.now) in
    of_event env (event_value c.args.event.now) (EventValue.Advance c.in-Advance.ms) c.args.self.now
    (Ok c.advance.result) c.advance.new.self (ap event_value c.in-Advance.is) c.advance.ensures

pub returns-in-Fire : goal.returns-in-Fire
returns-in-Fire g c =
    let env = environment c.args.self.now.keys (g.D.Draws.draw c.args.draws.now) (g.N.Net.passes c.args.net.now) in
    of_event env (event_value c.args.event.now) (EventValue.Fire c.in-Fire.m) c.args.self.now c.fire.result
    c.fire.new.self (ap event_value c.in-Fire.is) c.fire.ensures

pub returns-in-Restart : goal.returns-in-Restart
returns-in-Restart g c =
    let env = environment c.args.self.now.keys (g.D.Draws.draw c.args.draws.now) (g.N.Net.passes c.args.net.now) in
    of_event env (event_value c.args.event.now) (EventValue.Restart c.in-Restart.m) c.args.self.now
    (Ok c.restart.result) c.restart.new.self (ap event_value c.in-Restart.is) c.restart.ensures

pub returns-in-Vector : goal.returns-in-Vector
returns-in-Vector g c =
    let env = environment c.args.self.now.keys (g.D.Draws.draw c.args.draws.now) (g.N.Net.passes c.args.net.now) in
    of_event env (event_value c.args.event.now) (EventValue.Vector c.in-Vector.m) c.args.self.now c.vector.result
    c.vector.new.self (ap event_value c.in-Vector.is) c.vector.ensures

pub returns-in-Catalogue : goal.returns-in-Catalogue
returns-in-Catalogue g c =
    let env = environment c.args.self.now.keys (g.D.Draws.draw c.args.draws.now) (g.N.Net.passes c.args.net.now) in
    of_event env (event_value c.args.event.now) (EventValue.Catalogue c.in-Catalogue.m) c.args.self.now
    c.catalogue.result c.catalogue.new.self (ap event_value c.in-Catalogue.is) c.catalogue.ensures

pub returns-in-Claim : goal.returns-in-Claim
returns-in-Claim g c =
    let env = environment c.args.self.now.keys (g.D.Draws.draw c.args.draws.now) (g.N.Net.passes c.args.net.now) in
    of_event env (event_value c.args.event.now) (EventValue.Claim c.in-Claim.m c.in-Claim.f) c.args.self.now
    c.claim.result c.claim.new.self (ap event_value c.in-Claim.is) c.claim.ensures

pub returns-in-Lose : goal.returns-in-Lose
returns-in-Lose g c =
    let env = environment c.args.self.now.keys (g.D.Draws.draw c.args.draws.now) (g.N.Net.passes c.args.net.now) in
    of_event env (event_value c.args.event.now) (EventValue.Lose c.in-Lose.m c.in-Lose.f) c.args.self.now
    c.lose.result c.lose.new.self (ap event_value c.in-Lose.is) c.lose.ensures

pub returns-in-Answer : goal.returns-in-Answer
returns-in-Answer g c =
    let env = environment c.args.self.now.keys (g.D.Draws.draw c.args.draws.now) (g.N.Net.passes c.args.net.now) in
    of_event env (event_value c.args.event.now) (EventValue.Answer c.in-Answer.m c.in-Answer.f c.in-Answer.q)
    c.args.self.now c.answer.result c.answer.new.self (ap event_value c.in-Answer.is) c.answer.ensures

pub returns-in-Fetch : goal.returns-in-Fetch
returns-in-Fetch g c =
    let env = environment c.args.self.now.keys (g.D.Draws.draw c.args.draws.now) (g.N.Net.passes c.args.net.now) in
    of_event env (event_value c.args.event.now)
    (EventValue.Fetch c.in-Fetch.m c.in-Fetch.workers c.in-Fetch.tries c.in-Fetch.loss) c.args.self.now c.fetch.result
    c.fetch.new.self (ap event_value c.in-Fetch.is) c.fetch.ensures

pub returns-in-Settle : goal.returns-in-Settle
returns-in-Settle g c =
    let env = environment c.args.self.now.keys (g.D.Draws.draw c.args.draws.now) (g.N.Net.passes c.args.net.now) in
    of_event env (event_value c.args.event.now) (EventValue.Settle c.in-Settle.workers) c.args.self.now
    c.settle_step.result c.settle_step.new.self (ap event_value c.in-Settle.is) c.settle_step.ensures

pub returns-in-Dump : goal.returns-in-Dump
returns-in-Dump g c =
    let env = environment c.args.self.now.keys (g.D.Draws.draw c.args.draws.now) (g.N.Net.passes c.args.net.now) in
    of_event env (event_value c.args.event.now) (EventValue.Dump c.in-Dump.m c.in-Dump.p c.in-Dump.s c.in-Dump.x)
    c.args.self.now c.dump.result c.dump.new.self (ap event_value c.in-Dump.is) c.dump.ensures

pub returns-in-Hear : goal.returns-in-Hear
returns-in-Hear g c =
    let env = environment c.args.self.now.keys (g.D.Draws.draw c.args.draws.now) (g.N.Net.passes c.args.net.now) in
    of_event env (event_value c.args.event.now) (EventValue.Hear c.in-Hear.m c.deref-in-Hear.result.now)
    c.args.self.now c.hear.result c.hear.new.self
    (ap event_value c.in-Hear.is ∙ ap (EventValue.Hear c.in-Hear.m) (sym c.deref-in-Hear.ensures.value))
    c.hear.ensures

pub returns-in-Ask : goal.returns-in-Ask
returns-in-Ask g c =
    let env = environment c.args.self.now.keys (g.D.Draws.draw c.args.draws.now) (g.N.Net.passes c.args.net.now) in
    of_event env (event_value c.args.event.now) (EventValue.Ask c.in-Ask.m c.deref-in-Ask.result.now) c.args.self.now
    c.ask.result c.ask.new.self
    (ap event_value c.in-Ask.is ∙ ap (EventValue.Ask c.in-Ask.m) (sym c.deref-in-Ask.ensures.value)) c.ask.ensures

pub returns-in-Feed : goal.returns-in-Feed
returns-in-Feed g c =
    let env = environment c.args.self.now.keys (g.D.Draws.draw c.args.draws.now) (g.N.Net.passes c.args.net.now) in
    of_event env (event_value c.args.event.now) (EventValue.Feed c.in-Feed.m c.in-Feed.f c.deref-in-Feed.result.now)
    c.args.self.now c.feed.result c.feed.new.self
    (ap event_value c.in-Feed.is ∙ ap (EventValue.Feed c.in-Feed.m c.in-Feed.f) (sym c.deref-in-Feed.ensures.value))
    c.feed.ensures

pub returns-in-Order : goal.returns-in-Order
returns-in-Order g c =
    let env = environment c.args.self.now.keys (g.D.Draws.draw c.args.draws.now) (g.N.Net.passes c.args.net.now) in
    of_event env (event_value c.args.event.now) (EventValue.Order c.in-Order.m c.deref-in-Order.result.now)
    c.args.self.now c.order.result c.order.new.self
    (ap event_value c.in-Order.is ∙ ap (EventValue.Order c.in-Order.m) (sym c.deref-in-Order.ensures.value))
    c.order.ensures

pub returns-in-Insert : goal.returns-in-Insert
returns-in-Insert g c =
    let env = environment c.args.self.now.keys (g.D.Draws.draw c.args.draws.now) (g.N.Net.passes c.args.net.now) in
    of_event env (event_value c.args.event.now)
    (EventValue.Insert c.in-Insert.m c.in-Insert.client c.in-Insert.name c.in-Insert.first c.in-Insert.last)
    c.args.self.now c.insert.result c.insert.new.self (ap event_value c.in-Insert.is) c.insert.ensures

pub returns-in-Block : goal.returns-in-Block
returns-in-Block g c =
    let env = environment c.args.self.now.keys (g.D.Draws.draw c.args.draws.now) (g.N.Net.passes c.args.net.now) in
    of_event env (event_value c.args.event.now)
    (EventValue.Block c.in-Block.m c.in-Block.process c.in-Block.index c.deref-in-Block.result.now) c.args.self.now
    c.block.result c.block.new.self
    (ap event_value c.in-Block.is
    ∙ ap (EventValue.Block c.in-Block.m c.in-Block.process c.in-Block.index) (sym c.deref-in-Block.ensures.value))
    c.block.ensures

pub returns-in-Status : goal.returns-in-Status
returns-in-Status g c =
    let env = environment c.args.self.now.keys (g.D.Draws.draw c.args.draws.now) (g.N.Net.passes c.args.net.now) in
    of_event env (event_value c.args.event.now)
    (EventValue.Status c.in-Status.m c.in-Status.client c.in-Status.process) c.args.self.now c.status.result
    c.status.new.self (ap event_value c.in-Status.is) c.status.ensures

pub returns-in-Delete : goal.returns-in-Delete
returns-in-Delete g c =
    let env = environment c.args.self.now.keys (g.D.Draws.draw c.args.draws.now) (g.N.Net.passes c.args.net.now) in
    of_event env (event_value c.args.event.now) (EventValue.Delete c.in-Delete.m c.in-Delete.client c.in-Delete.name)
    c.args.self.now c.delete.result c.delete.new.self (ap event_value c.in-Delete.is) c.delete.ensures

pub returns-in-Summary : goal.returns-in-Summary
returns-in-Summary g c =
    let env = environment c.args.self.now.keys (g.D.Draws.draw c.args.draws.now) (g.N.Net.passes c.args.net.now) in
    of_event env (event_value c.args.event.now) EventValue.Summary c.args.self.now c.summary.result c.summary.new.self
    (ap event_value c.in-Summary.is) c.summary.ensures

pub returns-in-Traffic : goal.returns-in-Traffic
returns-in-Traffic g c =
    let env = environment c.args.self.now.keys (g.D.Draws.draw c.args.draws.now) (g.N.Net.passes c.args.net.now) in
    of_event env (event_value c.args.event.now) EventValue.Traffic c.args.self.now (Ok c.traffic.result)
    c.traffic.new.self (ap event_value c.in-Traffic.is) c.traffic.ensures
