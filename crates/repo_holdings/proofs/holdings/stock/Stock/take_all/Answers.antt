use Rattle.std.proofs.Common.{◌≡◌, Bool, true, false, cond, List, map, length, count_by, sum_by, is_some, sym, ap, ◌∙◌}
use Rattle.std.proofs.Common.{subst, arith}
use Rattle.std.specs.List.{All}
use Rattle.std.specs.Vec.Iter.{into_iter_items}
use Rattle.std.proofs.lemmas.List.Elements.{All-head, All-tail}
use Rattle.std.proofs.lemmas.List.Sums.{sum_by-cons}
use Rattle.repo_holdings.specs.declared.holdings.taking.Tried.{Tried}
use Rattle.repo_holdings.specs.Records.{Packet}
use Rattle.repo_holdings.specs.Contents.{IsDigestIn}
use Rattle.repo_holdings.specs.Taking.{came, arrival_octets, CanBeTaken, AreTakable, with_fetched, with_all_fetched}
use Rattle.repo_holdings.specs.Taking.{with_all_tries}
use Rattle.repo_holdings.proofs.FreshLemmas.{digests_sooner, fetched_stays}
use Rattle.repo_holdings.proofs.TakingLemmas.{still_takable, keeps_on}
use Rattle.repo_holdings.proofs.holdings.stock.Stock.take_all.Goals as goal

pub take_one-requires-clause-ready : goal.take_one-requires-clause-ready
take_one-requires-clause-ready c =
    let fewer = ap (λ (r : List Tried). length r) c.in-Some.ensures.steps.0 in
    let before = c.loop-tried.invariant in
    let ready = c.requires.ready in
    let long = c.args.all.ok.0 in
    record {
      sound = before.sound;
      room = record {
        for_plan = omega (arith, fewer, before.plan_room, ready.room.for_plan, long);
        for_store = omega (arith, fewer, before.store_room, ready.room.for_store, long);
        for_notes = omega (arith, fewer, before.notes_room, ready.room.for_notes, long);
      };
      fresh_room = omega (arith, fewer, before.few_fresh, before.fresh_room, ready.fresh_room, long);
      gone_room = omega (arith, fewer, before.few_gone, before.gone_room, ready.gone_room, long);
    }

-- what is reported of all that will be stored is true with one packet more
pub take_one-requires-clause-digests : goal.take_one-requires-clause-digests
take_one-requires-clause-digests c =
    let later = into_iter_items c.next.new.self in
    let packets = c.loop-tried.self.store.packets in
    let one : List Packet =
    with_fetched c.in-Some.tried.part (came c.in-Some.tried).packet packets in
    let all : with_all_fetched (map came later) one
    ≡ with_all_fetched (map came c.args.all.items) c.args.self.now.store.packets =
    sym (ap (λ (r : List Tried). with_all_fetched (map came r) packets) c.in-Some.ensures.steps.0)
    ∙ c.loop-tried.invariant.packets in
    digests_sooner one (with_all_fetched (map came later) one) c.args.digests.now (fetched_stays (map came later) one)
    (subst (λ (p : List Packet). All (IsDigestIn p) c.args.digests.now) (sym all) c.requires.digests)

pub take_one-requires-clause-takable : goal.take_one-requires-clause-takable
take_one-requires-clause-takable c =
    let can = CanBeTaken c.loop-tried.self.plan c.loop-tried.self.store.packets in
    All-head can c.in-Some.tried (into_iter_items c.next.new.self)
    (subst (All can) c.in-Some.ensures.steps.0 c.loop-tried.invariant.takable.each)

one_came : (c : goal.After-take_one) (b : Bool) → c.is_some.result ≡ b → c.from-parts.result ≡ cond b 1 0
one_came c true p = rw p at c.from-parts.ensures
one_came c false p = rw p at c.from-parts.ensures

pub loop-tried-preserved : goal.loop-tried-preserved
loop-tried-preserved c =
    let inv = c.loop-tried.invariant in
    let packets = c.loop-tried.self.store.packets in
    let plan = c.loop-tried.self.plan in
    let one_taken = c.take_one.ensures.taken in
    let waiting = c.take_one.ensures.waiting in
    let rest = c.in-Some.ensures.steps.0 in
    let later = into_iter_items c.next.new.self in
    let fewer = ap (λ (r : List Tried). length r) rest in
    let takable = subst (AreTakable plan packets) rest inv.takable in
    let can = All-head (CanBeTaken plan packets) c.in-Some.tried later takable.each in
    let one = one_came c (is_some c.in-Some.tried.arrival) c.is_some.ensures in
    let octets = c.octets-octets.ensures in
    let more_octets = sum_by-cons arrival_octets c.in-Some.tried later in
    let octets_so_far = ap (sum_by arrival_octets) rest in
    let more = sum_by-cons (λ (x : Tried). cond (is_some x.arrival) 1 0) c.in-Some.tried later in
    let so_far = ap (λ (r : List Tried). count_by (λ x. is_some x.arrival) r) rest in
    record {
      packets =
          ap (with_all_fetched (map came later)) one_taken.packets
          ∙ sym (ap (λ (r : List Tried). with_all_fetched (map came r) packets) rest) ∙ inv.packets;
      attempts =
          ap (with_all_tries (map came later)) one_taken.attempts
          ∙ sym (ap (λ (r : List Tried). with_all_tries (map came r) plan.attempts) rest) ∙ inv.attempts;
      others =
          keeps_on c.args.self.now.plan plan c.take_one.new.self.plan inv.others one_taken.others;
      sound = c.take_one.ensures.sound;
      listed = λ entries was. waiting.listed entries (inv.listed entries was);
      plan_room = omega (arith, fewer, inv.plan_room, one_taken.plan_room);
      store_room = omega (arith, fewer, inv.store_room, one_taken.store_room);
      notes_room = omega (arith, fewer, inv.notes_room, one_taken.notes_room);
      few_gone = omega (arith, fewer, inv.few_gone, waiting.few_gone);
      gone_room = omega (arith, inv.gone_room, waiting.gone_room);
      few_fresh = omega (arith, fewer, inv.few_fresh, waiting.few_fresh);
      fresh_room = omega (arith, inv.fresh_room, waiting.fresh_room);
      takable = record {
        each =
            still_takable c.loop-tried.self c.take_one.new.self c.in-Some.tried inv.sound
            c.take_one.ensures.sound can one_taken later takable.apart.0
            (All-tail (CanBeTaken plan packets) c.in-Some.tried later takable.each);
        apart = takable.apart.1;
      };
      count = omega (arith, one, more, so_far, inv.count);
      octets = omega (arith, octets, more_octets, octets_so_far, inv.octets);
    }
