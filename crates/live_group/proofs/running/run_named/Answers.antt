use Rattle.std.proofs.Common.{◌≡◌, ℕ, ◌+◌, ◌*◌, List, length, sym, ap, ◌∙◌, arith}
use Rattle.std.proofs.lemmas.List.{length-map}
use Rattle.live_actors.specs.declared.actor.Actor.{Actor}
use Rattle.live_member.specs.Meanings.{Meaning}
use Rattle.live_group.specs.Jobs.{actor_of, actors_below, all_tickets, CanBeDone}
use Rattle.live_group.specs.Desks.{tickets_each}
use Rattle.live_group.specs.Outs.{all_left}
use Rattle.live_settle.proofs.Places.{length-below}
use Rattle.live_group.proofs.Seating.{few_lists}
use Rattle.live_group.proofs.Wiring.{jobs_there}
use Rattle.live_group.proofs.Tickets.{tickets_below, three_each, of_each, none_left}
use Rattle.live_group.proofs.Ending.{have_run}
use Rattle.live_group.proofs.running.run_named.Goals as goal

pub all_jobs-requires : goal.all_jobs-requires
all_jobs-requires g c =
    let few = few_lists g.L.Lists.meaning c.requires.within in
    let lists = ap (λ (t : Meaning). length t.lists) c.requires.meaning in
    let wide = length-map c.args.lists.items (λ v. v.items) in
    omega (arith, few, lists, wide)

pub all_ticketed-requires-clause-parts : goal.all_ticketed-requires-clause-parts
all_ticketed-requires-clause-parts g c =
    let jobs = c.in_ok-jobs.ensures in
    let all = ap (λ (actors : List Actor). length actors) jobs.actors in
    let three = three_each c.len-members.result in
    let wide = length-map c.in_ok-jobs.jobs.items actor_of in
    let tokens = c.requires.tokens in
    omega (arith, all, three, wide, c.add.ensures.parts, c.open-book.ensures.parts, tokens.parts, tokens.enough)

pub all_ticketed-requires-clause-tickets : goal.all_ticketed-requires-clause-tickets
all_ticketed-requires-clause-tickets g c =
    let all = ap (all_tickets c.args.turns) c.in_ok-jobs.ensures.actors in
    let n = c.len-members.result in
    let each : all_tickets c.args.turns (actors_below n) ≡ n * (c.args.turns * 2 + 1) = tickets_below c.args.turns n in
    let given : c.add.new.share.amount ≡ c.open-book.result.1.amount + n * (c.args.turns * 2 + 1) =
    c.add.ensures.amount in
    omega (arith, all, each, given, c.open-book.ensures.amount)

pub all_seats-requires-clause-parts : goal.all_seats-requires-clause-parts
all_seats-requires-clause-parts g c =
    let all = ap (λ (actors : List Actor). length actors) c.in_ok-jobs.ensures.actors in
    let three = three_each c.len-members.result in
    let wide = length-map c.in_ok-jobs.jobs.items actor_of in
    omega (
      arith,
      all,
      three,
      wide,
      c.in_ok-jobs-2.ensures.parts,
      c.add.ensures.parts,
      c.open-book.ensures.parts,
      c.requires.tokens.parts,
      c.requires.tokens.enough,
    )

pub act_all-requires-clause-jobs : goal.act_all-requires-clause-jobs
act_all-requires-clause-jobs g c κs within =
    let n = length g.L.Lists.meaning.lists in
    let few = few_lists g.L.Lists.meaning c.requires.within in
    let seats : length c.as_slice.result.now ≡ n =
    ap length c.as_slice.ensures.value ∙ ap length c.in_ok-seats.ensures.seats ∙ length-below n in
    let lists = ap (λ (t : Meaning). length t.lists) c.requires.meaning in
    let wide = length-map c.args.lists.items (λ v. v.items) in
    let same : c.len-members.result ≡ length c.as_slice.result.now = omega (arith, seats, lists, wide) in
    of_each {L = g.row.L.Denot} (λ t. t.job) (CanBeDone (length c.as_slice.result.now) n) c.in_ok-jobs-2.jobs.items
    c.in_ok-jobs.jobs.items c.in_ok-jobs-2.ensures.jobs
    (jobs_there {L = g.row.L.Denot} c.len-members.result (length c.as_slice.result.now) n same seats
    (omega (arith, few, seats)) c.in_ok-jobs.jobs.items c.in_ok-jobs.ensures)

pub all_placed-requires-clause-none_left : goal.all_placed-requires-clause-none_left
all_placed-requires-clause-none_left g c =
    let n = c.len-members.result in
    let turns = c.args.turns in
    let jobs = ap (λ (actors : List Actor). length actors) c.in_ok-jobs.ensures.actors in
    let three = three_each n in
    let wide = length-map c.in_ok-jobs.jobs.items actor_of in
    let given = length-map c.in_ok-jobs-2.jobs.items (λ t. t.job) in
    let given_all = ap length c.in_ok-jobs-2.ensures.jobs in
    let seats : length c.in_ok-seats.seats.items ≡ length g.L.Lists.meaning.lists =
    ap length c.in_ok-seats.ensures.seats ∙ length-below (length g.L.Lists.meaning.lists) in
    let lists = ap (λ (t : Meaning). length t.lists) c.requires.meaning in
    let lists_wide = length-map c.args.lists.items (λ v. v.items) in
    let same : length c.in_ok-seats.seats.items ≡ n = omega (arith, seats, lists, lists_wide) in
    let whole : c.all_out.new.all.parts ≡ g.L.Ledger.parts =
    omega (
      arith,
      jobs,
      three,
      wide,
      given,
      given_all,
      same,
      c.in_ok-outs.ensures.parts,
      c.give_back.ensures.parts,
      c.in_ok-done.ensures,
      c.in_ok-seats.ensures.parts,
      c.in_ok-jobs-2.ensures.parts,
      c.add.ensures.parts,
      c.open-book.ensures.parts,
      c.requires.tokens.parts,
      c.requires.tokens.enough,
    ) in
    let total = c.audit.ensures.whole whole in
    let tickets = ap (all_tickets turns) c.in_ok-jobs.ensures.actors in
    let each = tickets_below turns n in
    let cap : length c.in_ok-seats.seats.items * tickets_each g.L.Run.turns ≡ n * tickets_each turns =
    ap (λ (k : ℕ). k * tickets_each g.L.Run.turns) same
    ∙ ap (λ (k : ℕ). n * tickets_each k) (sym c.requires.turns) in
    let none : all_left c.in_ok-outs.outs.items ≡ 0 =
    omega (
      arith,
      total,
      tickets,
      each,
      cap,
      c.in_ok-outs.ensures.amount,
      c.give_back.ensures.amount,
      c.in_ok-seats.ensures.amount,
      c.in_ok-jobs-2.ensures.amount,
      c.add.ensures.amount,
      c.add.ensures.total,
      c.open-book.ensures.amount,
      c.open-book.ensures.total,
    ) in
    none_left c.in_ok-outs.outs.items none

pub returns-clause-acted : goal.returns-clause-acted
returns-clause-acted g c =
    have_run g.L.Lists.meaning g.L.Run.turns c.in_ok-lives.lives.items c.in_ok-seats.seats.items
    (c.in_ok-lives.ensures.numbers ∙ c.in_ok-outs.ensures.numbers) c.in_ok-lives.ensures.outs c.settle.result
    c.in_ok-seats.ensures.seats c.settle.ensures.rans c.settle.ensures.prefixes
