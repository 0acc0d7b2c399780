use Rattle.std.proofs.Common.{ap, ◌∙◌, arith, map}
use Rattle.std.proofs.lemmas.List.{length-map}
use Rattle.live_actors.specs.declared.actor.Actor.{Actor}
use Rattle.live_actors.specs.ActorCalls.{tickets_of}
use Rattle.live_group.proofs.Tickets.{has_tickets, one_more_job}
use Rattle.live_group.proofs.ticketed.all_ticketed.Goals as goal

pub split_off-tickets-requires-clause-has_amount : goal.split_off-tickets-requires-clause-has_amount
split_off-tickets-requires-clause-has_amount g c =
    let is = c.loop-job.invariant in
    has_tickets {L = g.row.L.Denot} c.args.turns (map (λ t. t.job) c.loop-job.ticketed.items)
    c.loop-job.job-iterator.rest.items c.next.new.self.rest.items c.args.jobs.items c.in-Some.job is.0
    c.in-Some.ensures.steps.0 c.loop-job.all.amount c.args.all.now.amount c.ticket_count.result is.2
    c.requires.tickets
    (c.ticket_count.ensures ∙ ap (λ (a : Actor). tickets_of a c.args.turns) c.actor.ensures)

pub split_off-tickets-requires-clause-left_backed : goal.split_off-tickets-requires-clause-left_backed
split_off-tickets-requires-clause-left_backed g c last =
    let is = c.loop-job.invariant in
    let more =
    one_more_job {L = g.row.L.Denot} c.args.turns (map (λ t. t.job) c.loop-job.ticketed.items)
    c.loop-job.job-iterator.rest.items c.next.new.self.rest.items c.args.jobs.items c.in-Some.job is.0
    c.in-Some.ensures.steps.0 in
    absurd (omega (arith, last, is.1, c.requires.parts, more, length-map c.loop-job.ticketed.items (λ t. t.job)))
