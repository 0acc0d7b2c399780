use Rattle.std.proofs.Common.{List, ℕ, ◌+◌, ◌==◌, length, Some, is_some, sym, ap, ◌∙◌, subst, arith}
use Rattle.std.specs.Vec.Iter.{into_iter_items}
use Rattle.sorted_lists.specs.SortedList.{contains}
use Rattle.repo_plan.specs.declared.part.Part.{Part}
use Rattle.repo_plan.specs.declared.shape.Shape.{Shape}
use Rattle.repo_plan.specs.Parts.{Pair, IsShape, part_cmp, part_of, last_part}
use Rattle.repo_plan.specs.Plan.{PlanState}
use Rattle.repo_store.specs.StoreList.{StoreList}
use Rattle.repo_object.proofs.IndexLemmas.{index_few}
use Rattle.repo_holdings.specs.Gaining.{summary_shape}
use Rattle.repo_holdings.specs.NewPublications.{as_parts, with_packets}
use Rattle.repo_holdings.proofs.HoldingsLemmas.{not_zero}
use Rattle.repo_holdings.proofs.PublishLemmas.{AreRemaining, first_listing, gained_none, gained_more, can_ask}
use Rattle.repo_holdings.proofs.PublishLemmas.{not_hidden, not_claimed, room_kept, stated_first, not_stated}
use Rattle.repo_holdings.proofs.PublishLemmas.{all_to_come, come_later}
use Rattle.repo_holdings.proofs.PublishLemmas.{reports_shape, lists_many, count_packets, packets_sized}
use Rattle.repo_holdings.proofs.holdings.publishing.gain_all.Goals.{then-x-eq0, else-x-eq0}
use Rattle.repo_holdings.proofs.holdings.publishing.gain_all.Goals as goal

pub loop-packet-init : goal.loop-packet-init
loop-packet-init c =
    let pair : Pair = (c.args.publisher, c.args.seq) in
    let made : List (List ℕ) = c.args.packets.items in
    let all = c.into_iter-packet-iterator.ensures.into_iter_gives.0 in
    let fewer = ap (λ (r : List (List ℕ)). length r) all in
    let count = count_packets c.args.summary.now made c.requires.packets in
    let following = ap last_part c.shape-shape.ensures in
    record {
      stored = ap (λ (r : List (List ℕ)). with_packets (as_parts pair 0 r) c.args.store.now.packets) all;
      tied = c.requires.tied;
      gained = gained_none c.args.plan.now pair c.shape-shape.result c.requires.new;
      plan_room = omega (arith, fewer);
      store_room = omega (arith, fewer);
      count = omega (arith, fewer, count, following);
      come =
          subst (λ (r : List (List ℕ)). AreRemaining c.args.summary.now (first_listing made) pair 0 r
          c.args.store.now.packets) (sym all)
          (all_to_come c.args.summary.now pair made c.args.store.now.packets c.requires.packets);
    }

pub gain-requires-clause-room : goal.gain-requires-clause-room
gain-requires-clause-room c =
    let fewer = ap (λ (r : List (List ℕ)). length r) c.in-Some.ensures.steps.0 in
    let long = c.args.packets.ok.0 in
    record {
      for_plan = omega (arith, fewer, c.requires.room.for_plan, c.loop-packet.invariant.plan_room, long);
      for_store = omega (arith, fewer, c.requires.room.for_store, c.loop-packet.invariant.store_room, long);
    }

pub gain-requires-clause-packet : goal.gain-requires-clause-packet
gain-requires-clause-packet c =
    let pair : Pair = (c.args.publisher, c.args.seq) in
    let first = first_listing c.args.packets.items in
    let later = into_iter_items c.next.new.self in
    let come =
    subst (λ (r : List (List ℕ)). AreRemaining c.args.summary.now first pair c.loop-packet.x r
    c.loop-packet.store.packets) c.in-Some.ensures.steps.0 c.loop-packet.invariant.come in
    record {
      shape = elim c.if-x-eq0.branch [
        | then-x-eq0 w ↦ ap is_some w.shape-is ∙ sym (ap (λ (n : ℕ). n == 0) w.if-x-eq0.true)
        | else-x-eq0 w ↦ ap is_some w.shape-is ∙ sym (not_zero c.loop-packet.x w.if-x-eq0.false)
      ];
      summary =
          reports_shape c.args.summary.now first pair c.loop-packet.x c.in-Some.packet later c.loop-packet.store.packets
          come c.if-x-eq0.shape
          (elim c.if-x-eq0.branch [
            | then-x-eq0 w ↦
                w.shape-is ∙ ap (λ (s : Shape). Some s) c.shape-shape.ensures
                ∙ sym (ap (stated_first (summary_shape c.args.summary.now)) w.if-x-eq0.true)
            | else-x-eq0 w ↦ w.shape-is ∙ sym (not_stated (summary_shape c.args.summary.now) c.loop-packet.x
                w.if-x-eq0.false)
          ]);
      lists =
          lists_many c.args.summary.now first pair c.loop-packet.x c.in-Some.packet later c.loop-packet.store.packets
          come;
    }

pub gain-requires-clause-missing : goal.gain-requires-clause-missing
gain-requires-clause-missing c =
    let fewer = ap (λ (r : List (List ℕ)). length r) c.in-Some.ensures.steps.0 in
    let pair : Pair = (c.args.publisher, c.args.seq) in
    let gained = c.loop-packet.invariant.gained in
    record {
      free = record {
        asked =
            can_ask c.args.plan.now c.loop-packet.plan pair c.shape-shape.result c.loop-packet.x c.requires.new gained
            (subst IsShape (sym c.shape-shape.ensures)
            (packets_sized c.args.summary.now c.args.packets.items c.requires.packets))
            (omega (arith, fewer, c.loop-packet.invariant.count));
        not_hidden = not_hidden _ _ pair _ c.loop-packet.x c.requires.new gained;
        not_claimed = not_claimed _ _ pair _ c.loop-packet.x c.requires.new gained;
      };
      not_held = gained.fresh c.loop-packet.x (omega arith);
    }

pub overflow_add-x : goal.overflow_add-x
overflow_add-x c =
    let fewer = ap (λ (r : List (List ℕ)). length r) c.in-Some.ensures.steps.0 in
    let sized =
    subst IsShape (sym c.shape-shape.ensures)
    (packets_sized c.args.summary.now c.args.packets.items c.requires.packets) in
    omega (
      arith,
      fewer,
      c.loop-packet.invariant.count,
      sized.index,
      sized.segments,
      index_few c.shape-shape.result.segments sized.segments,
    )

pub loop-packet-preserved : goal.loop-packet-preserved
loop-packet-preserved c =
    let rest = c.in-Some.ensures.steps.0 in
    let fewer = ap (λ (r : List (List ℕ)). length r) rest in
    let inv = c.loop-packet.invariant in
    let later = into_iter_items c.next.new.self in
    let pair : Pair = (c.args.publisher, c.args.seq) in
    record {
      stored =
          ap (λ (s : StoreList). with_packets (as_parts pair (c.loop-packet.x + 1) later) s.packets)
          c.gain.ensures.store
          ∙ sym (ap (λ (r : List (List ℕ)).
          with_packets (as_parts pair c.loop-packet.x r) c.loop-packet.store.packets) rest)
          ∙ inv.stored;
      tied = c.gain.ensures.tied;
      gained =
          gained_more _ _ pair _ c.loop-packet.x c.requires.new inv.gained c.if-x-eq0.shape _
          (elim c.if-x-eq0.branch [
            | then-x-eq0 w ↦ w.shape-is ∙ sym (ap (stated_first c.shape-shape.result) w.if-x-eq0.true)
            | else-x-eq0 w ↦ w.shape-is ∙ sym (not_stated c.shape-shape.result c.loop-packet.x w.if-x-eq0.false)
          ])
          c.gain.ensures.plan;
      plan_room =
          omega (
            arith,
            fewer,
            c.requires.room.for_plan,
            inv.plan_room,
            ap (λ (p : PlanState). p.spare) c.gain.ensures.plan,
            room_kept (part_of pair c.loop-packet.x) c.if-x-eq0.shape c.loop-packet.plan,
          );
      store_room =
          omega (
            arith,
            fewer,
            c.requires.room.for_store,
            inv.store_room,
            ap (λ (s : StoreList). s.spare) c.gain.ensures.store,
          );
      count = omega (arith, fewer, inv.count);
      come =
          come_later c.args.summary.now (first_listing c.args.packets.items) pair c.loop-packet.x c.in-Some.packet later
          c.loop-packet.store.packets
          (subst (λ (r : List (List ℕ)). AreRemaining c.args.summary.now (first_listing c.args.packets.items) pair
          c.loop-packet.x r c.loop-packet.store.packets) rest inv.come)
          c.gain.new.store.packets (ap (λ (s : StoreList). s.packets) c.gain.ensures.store)
          (ap (λ (ts : List Part). contains part_cmp ts (part_of pair c.loop-packet.x)) (sym inv.tied.held)
          ∙ inv.gained.fresh c.loop-packet.x (omega arith));
    }
