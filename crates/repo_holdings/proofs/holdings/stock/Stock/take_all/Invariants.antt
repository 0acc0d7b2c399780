use Rattle.std.proofs.Common.{◌≡◌, ◌≤◌, ◌+◌, List, map, length, count_by, sum_by, is_some, vec_capacity}
use Rattle.std.specs.Vec.Iter.{into_iter_items}
use Rattle.repo_catalog.specs.declared.entry.Entry.{Entry}
use Rattle.repo_holdings.specs.Stock.{IsSound}
use Rattle.repo_holdings.specs.Taking.{came, arrival_octets, AreTakable, KeepsButTries, with_all_fetched}
use Rattle.repo_holdings.specs.Taking.{with_all_tries, AreListedWith}
use Rattle.repo_holdings.proofs.holdings.stock.Stock.take_all.Given as goal

abbrev pub invariant-loop-tried : goal.invariant-loop-tried
invariant-loop-tried l =
    let rest = into_iter_items l.tried-iterator in
    let all = l.fn.all.items in record {
      packets : with_all_fetched (map came rest) l.self.store.packets
          ≡ with_all_fetched (map came all) l.initial.self.store.packets;
      attempts : with_all_tries (map came rest) l.self.plan.attempts
          ≡ with_all_tries (map came all) l.initial.self.plan.attempts;
      others : KeepsButTries l.initial.self.plan l.self.plan;
      sound : IsSound l.self;
      listed : (entries : List Entry)
          → AreListedWith l.initial.pending.fresh.items l.initial.pending.gone.items entries
          l.initial.self.store.packets
          → AreListedWith l.pending.fresh.items l.pending.gone.items entries l.self.store.packets;
      plan_room : l.initial.self.plan.spare + (length rest + length rest)
          ≤ l.self.plan.spare + (length all + length all);
      store_room : l.initial.self.store.spare + length rest ≤ l.self.store.spare + length all;
      notes_room : l.initial.self.notes.spare + length rest ≤ l.self.notes.spare + length all;
      few_gone : length l.pending.gone.items + length rest ≤ length l.initial.pending.gone.items + length all;
      gone_room : vec_capacity l.initial.pending.gone ≤ vec_capacity l.pending.gone;
      few_fresh : length l.pending.fresh.items + length rest ≤ length l.initial.pending.fresh.items + length all;
      fresh_room : vec_capacity l.initial.pending.fresh ≤ vec_capacity l.pending.fresh;
      takable : AreTakable l.self.plan l.self.store.packets rest;
      count : l.parts + count_by (λ x. is_some x.arrival) rest ≡ count_by (λ x. is_some x.arrival) all;
      octets : l.octets + sum_by arrival_octets rest ≡ sum_by arrival_octets all;
    }
