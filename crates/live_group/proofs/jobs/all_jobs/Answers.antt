use Rattle.std.proofs.Common.{ℕ, ◌≡◌, ◌+◌, ◌<◌, List, [], ◌∷◌, ◌++◌, length, take, drop}
use Rattle.std.proofs.Common.{refl, sym, ap, ◌∙◌, subst, arith}
use Rattle.std.specs.List.{All}
use Rattle.std.proofs.Math.Seq.{take-append_seam}
use Rattle.live_group.specs.declared.actor_job.PublisherEnds.{PublisherEnds}
use Rattle.live_group.specs.declared.actor_job.Job.{Job}
use Rattle.live_group.specs.declared.actor_job.Job.TheVariants.{Publish, First, Second}
use Rattle.live_group.specs.Senders.{OpenedView, HavePorts}
use Rattle.live_group.proofs.Dealing.{inboxes_of, inboxes_of_lines}
use Rattle.live_group.proofs.Wiring.{AreWired, some_ports, one_wired}
use Rattle.live_group.proofs.jobs.all_jobs.Goals as goal

pub sender_to_each-requires : goal.sender_to_each-requires
sender_to_each-requires g c =
    subst (All (λ (o : OpenedView). 0 < length o.ports)) (sym c.as_mut_slice.ensures.value)
    (some_ports {L = g.row.L.Denot} c.args.members c.loop-receiver.member (inboxes_of c.in_ok-inboxes.inboxes.items)
    c.loop-receiver.inboxes.items c.loop-receiver.jobs.items c.loop-receiver.receiver-iterator.rest.items
    c.next.new.self.rest.items
    c.in-Some.receiver c.loop-receiver.invariant c.in-Some.ensures.steps.0)

pub loop-receiver-preserved : goal.loop-receiver-preserved
loop-receiver-preserved g c =
    let n = c.loop-receiver.member in
    let opened = c.loop-receiver.inboxes.items in
    let now = c.sender_to_each.new.inboxes in
    let later = c.next.new.self.rest.items in
    let inboxes = inboxes_of c.in_ok-inboxes.inboxes.items in
    let publisher : PublisherEnds g.row.L.Denot = record
    { member = n; senders = c.in_ok-senders.senders; receiver = c.in-Some.receiver } in
    let jobs : c.push-in-loop-receiver-2.new.self.items
    ≡ ((c.loop-receiver.jobs.items ++ Publish publisher ∷ []) ++ First n ∷ []) ++ Second n ∷ [] =
    c.in_ok-push-3.ensures.items
    ∙ ap (λ (js : List (Job g.row.L.Denot)). js ++ Second n ∷ []) (c.in_ok-push-2.ensures.items
    ∙ ap (λ (js : List (Job g.row.L.Denot)). js ++ First n ∷ []) c.in_ok-push.ensures.items) in
    let back : take c.loop-receiver.inboxes.len (now ++ drop (length now) opened) ≡ now =
    ap (λ (k : ℕ). take k (now ++ drop (length now) opened))
    (omega (arith, c.as_mut_slice.ensures.len, c.sender_to_each.auto.inboxes))
    ∙ take-append_seam now (drop (length now) opened) in
    let P : List OpenedView → Type 0 = λ os.
    (inboxes_of_lines publisher.senders.items ≡ inboxes_of os) × (inboxes_of now ≡ inboxes_of os)
    × ((k : ℕ) → HavePorts (k + 1) os → HavePorts k now) in
    let told : P opened =
    subst P c.as_mut_slice.ensures.value
    (c.in_ok-senders.ensures.senders, c.in_ok-senders.ensures.inboxes, c.in_ok-senders.ensures.ports) in
    subst (λ (os : List OpenedView).
    AreWired {L = g.row.L.Denot} c.args.members (n + 1) inboxes os c.push-in-loop-receiver-2.new.self.items later)
    (sym back)
    (subst (λ (js : List (Job g.row.L.Denot)). AreWired c.args.members (n + 1) inboxes now js later) (sym jobs)
    (one_wired {L = g.row.L.Denot} c.args.members n inboxes opened now c.loop-receiver.jobs.items
    c.loop-receiver.receiver-iterator.rest.items later publisher c.loop-receiver.invariant c.in-Some.ensures.steps.0
    refl told.0 told.1
    told.2))
