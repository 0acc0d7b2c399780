use Rattle.std.proofs.Common.{ℕ, ◌+◌, ◌-◌, List, [], Option, not, subst, sym, ap, ◌∙◌, arith}
use Rattle.std.specs.Prelude.{unwrap_or}
use Rattle.sorted_lists.specs.SortedList.{keys, contains, with_value}
use Rattle.repo_plan.specs.declared.part.Part.{Part}
use Rattle.repo_plan.specs.Parts.{part_cmp}
use Rattle.repo_plan.proofs.Orders.{exact_parts}
use Rattle.repo_store.specs.StoreList.{StoreList, with_packet}
use Rattle.repo_store.specs.PacketTable.{octets_at, Stored, PacketTableState, entries_of}
use Rattle.repo_store.specs.NameLayers.{IsIndexOf}
use Rattle.sorted_lists.proofs.Sets.{rises_with_value}
use Rattle.sorted_lists.proofs.Lookups.{none_where, same_with, keys-revalued, with_value-revalued}
use Rattle.repo_store.proofs.StoreLemmas.{entries_same, put_there, put_fresh}
use Rattle.repo_store.proofs.NameLayerLemmas.{fewer_room, index_more}
use Rattle.repo_store.proofs.store.Store.put_shared.Goals as goal

pub invariant_of-self : goal.invariant_of-self
invariant_of-self c =
    let k = c.self.inside.kept in
    let names = c.self.inside.names in
    let new = c.put.new.self in
    let after = c.put-in-Some.new.self in
    let h : Stored = (c.args.part, c.in-Some.slot) in
    let put = c.in-Some.ensures in
    let gains =
    same_with exact_parts h.0 h.1 k.held put.sound.rises (none_where exact_parts k.held c.args.part put.fresh) in
    record {
      names =
          subst (λ (xs : List Stored). IsIndexOf new.slots xs after) (sym put.held)
          (index_more k.slots new.slots k.held names c.self.invariant.names (with_value part_cmp h.0 h.1 k.held) after h
          (λ o i. put.keeps.others o.1 (put.sound.kept o i))
          (rises_with_value exact_parts h.0 h.1 k.held put.sound.rises) c.put-in-Some.ensures.settled
          c.put-in-Some.ensures.recent gains c.put-in-Some.ensures.gains);
      room =
          c.put-in-Some.ensures.room new.spare
          (fewer_room names (new.spare + 1) k.spare
          (omega (arith, put.spare, c.requires.spare, ap (λ (s : StoreList). s.spare) c.self.view_is))
          c.self.invariant.room);
    }

pub returns-in-Some-clause-fresh : goal.returns-in-Some-clause-fresh
returns-in-Some-clause-fresh c =
    let k = c.self.inside.kept in
    sym
    (ap not (ap (λ (s : StoreList). contains part_cmp (keys s.packets) c.args.part) (sym c.self.view_is)
    ∙ ap (λ (ts : List Part). contains part_cmp ts c.args.part) (keys-revalued part_cmp (octets_at k.slots) k.held)
    ∙ c.in-Some.ensures.fresh))

pub returns-in-Some-clause-put : goal.returns-in-Some-clause-put
returns-in-Some-clause-put c =
    let k = c.self.inside.kept in
    let new = c.put.new.self in
    let octets = c.args.packet in
    let put = c.in-Some.ensures in
    let packet =
    ap (λ (o : Option (List ℕ)). unwrap_or o []) put.keeps.there in
    let entries =
    ap (entries_of new.slots) put.held
    ∙ with_value-revalued part_cmp (octets_at new.slots) c.args.part c.in-Some.slot k.held
    ∙ ap (λ (o : List ℕ). with_value part_cmp c.args.part o (entries_of new.slots k.held)) packet
    ∙ ap (with_value part_cmp c.args.part octets)
    (entries_same k.slots new.slots k.held (λ o i. put.keeps.others o.1 (put.sound.kept o i)))
    ∙ put_fresh c.args.part octets (entries_of k.slots k.held)
    (ap (λ (ts : List Part). contains part_cmp ts c.args.part) (keys-revalued part_cmp (octets_at k.slots) k.held)
    ∙ put.fresh) in
    ap (λ (p : List (Part × List ℕ)). let s : StoreList = record { packets = p; spare = new.spare } in s) entries
    ∙ ap (λ (n : ℕ).
    let s : StoreList = record { packets = with_packet c.args.part octets (entries_of k.slots k.held); spare = n } in
    s) put.spare
    ∙ ap (λ (s : StoreList).
    let t : StoreList = record { packets = with_packet c.args.part octets s.packets; spare = s.spare - 1 } in
    t) c.self.view_is

pub returns-in-None-clause-fresh : goal.returns-in-None-clause-fresh
returns-in-None-clause-fresh c =
    let k = c.self.inside.kept in
    sym
    (ap not (ap (λ (s : StoreList). contains part_cmp (keys s.packets) c.args.part) (sym c.self.view_is)
    ∙ ap (λ (ts : List Part). contains part_cmp ts c.args.part) (keys-revalued part_cmp (octets_at k.slots) k.held)
    ∙ c.in-None.ensures.0))

pub returns-in-None-clause-put : goal.returns-in-None-clause-put
returns-in-None-clause-put c =
    let k = c.self.inside.kept in
    let octets = c.args.packet in
    ap (λ (n : PacketTableState). let s : StoreList = record { packets = entries_of n.slots n.held; spare = n.spare } in
    s)
    c.in-None.ensures.1
    ∙ ap (λ (p : List (Part × List ℕ)). let s : StoreList = record { packets = p; spare = k.spare - 1 } in s)
    (put_there c.args.part octets (entries_of k.slots k.held)
    (ap (λ (ts : List Part). contains part_cmp ts c.args.part) (keys-revalued part_cmp (octets_at k.slots) k.held)
    ∙ c.in-None.ensures.0))
    ∙ ap (λ (s : StoreList).
    let t : StoreList = record { packets = with_packet c.args.part octets s.packets; spare = s.spare - 1 } in
    t) c.self.view_is
