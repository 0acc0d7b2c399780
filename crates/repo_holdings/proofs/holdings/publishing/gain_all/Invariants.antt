use Rattle.std.proofs.Common.{◌≡◌, ◌+◌, length}
use Rattle.std.specs.Vec.Iter.{into_iter_items}
use Rattle.repo_plan.specs.Parts.{last_part}
use Rattle.repo_holdings.specs.NewPublications.{as_parts, with_packets}
use Rattle.repo_holdings.specs.Gaining.{PlanFits}
use Rattle.repo_holdings.proofs.PublishLemmas.{HasGained, AreRemaining, first_listing}
use Rattle.repo_holdings.proofs.holdings.publishing.gain_all.Given as goal

abbrev pub invariant-loop-packet : goal.invariant-loop-packet
invariant-loop-packet l =
    let rest = into_iter_items l.packet-iterator in record {
      stored : with_packets (as_parts (l.publisher, l.seq) l.x rest) l.store.packets
          ≡ with_packets (as_parts (l.publisher, l.seq) 0 l.fn.packets.items) l.initial.store.packets;
      tied : PlanFits l.plan l.store.packets;
      gained : HasGained l.initial.plan l.plan (l.publisher, l.seq) l.shape l.x;
      plan_room : l.plan.spare + length l.fn.packets.items ≡ l.initial.plan.spare + length rest;
      store_room : l.store.spare + length l.fn.packets.items ≡ l.initial.store.spare + length rest;
      count : l.x + length rest ≡ last_part l.shape + 1;
      come : AreRemaining l.summary (first_listing l.fn.packets.items) (l.publisher, l.seq) l.x rest l.store.packets;
    }
