use Rattle.std.proofs.Common.{◌≡◌, ℕ, List, not, length, subst, sym, ap, ◌∙◌, arith}
use Rattle.std.proofs.lemmas.List.{length-map}
use Rattle.sorted_lists.specs.Members.{In}
use Rattle.sorted_lists.proofs.Lookups.{filter-revalued}
use Rattle.repo_plan.specs.declared.part.Part.{Part}
use Rattle.repo_plan.specs.Parts.{part_cmp}
use Rattle.repo_store.specs.StoreList.{StoreList, is_in_any, packets_in_any, packets_outside_all}
use Rattle.repo_store.specs.PacketTable.{at, octets_at, Stored, entries_of}
use Rattle.repo_store.specs.Slots.{held_outside_all}
use Rattle.repo_store.specs.NameLayers.{HasRoom, IsIndexOf, WaitsStill, left_unless}
use Rattle.repo_store.proofs.StoreLemmas.{entries_same, lengths_in_any}
use Rattle.repo_store.proofs.NameLayerLemmas.{left_either, index_left}
use Rattle.repo_store.proofs.TakenLemmas.{among}
use Rattle.repo_store.proofs.store.Store.drop_all.Goals as goal

pub take_out-taken-requires : goal.take_out-taken-requires
take_out-taken-requires c =
    among c.self.inside.kept.slots c.self.inside.kept.held c.self.inside.names c.self.invariant.names

pub invariant_of-self : goal.invariant_of-self
invariant_of-self c =
    let k = c.self.inside.kept in
    let names = c.self.inside.names in
    let new = c.drop_all-number.new.self in
    let pairs = c.args.pairs.now in
    let taken = c.take_out-taken.result in
    let held = c.drop_all-number.ensures.held in
    let same : (h : Stored) → In h (held_outside_all pairs k.held) → at new.slots h.1 ≡ at k.slots h.1 =
    λ h i. c.drop_all-number.ensures.same h (subst (In h) (sym held) i) in
    let waits : WaitsStill new.held names.waiting.items c.drop_all.new.self.waiting.items =
    λ h i. c.drop_all.ensures.waiting h (subst (In h) (sym c.take_out-taken.ensures.waiting) i) in
    record {
      names =
          subst (λ (hs : List Stored). IsIndexOf new.slots hs c.drop_all.new.self) (sym held)
          (index_left k.slots new.slots k.held names c.self.invariant.names pairs same c.drop_all.new.self
          (c.drop_all.ensures.settled
          ∙ (λ i. left_unless taken pairs (held i) (c.take_out-taken.ensures.settled i))
          ∙ left_either pairs k.held taken names.settled.items c.self.invariant.names.settled)
          (c.drop_all.ensures.recent
          ∙ (λ i. left_unless taken pairs (held i) (c.take_out-taken.ensures.recent i))
          ∙ left_either pairs k.held taken names.recent.items c.self.invariant.names.recent)
          (subst (λ (hs : List Stored). WaitsStill hs names.waiting.items c.drop_all.new.self.waiting.items) held
          waits));
      room =
          subst (HasRoom c.drop_all.new.self) (sym c.drop_all-number.ensures.spare)
          (c.drop_all.ensures.room k.spare (c.take_out-taken.ensures.room k.spare c.self.invariant.room));
    }

pub returns-clause-number : goal.returns-clause-number
returns-clause-number c =
    let k = c.self.inside.kept in
    let pairs = c.args.pairs.now in
    let entries = entries_of k.slots k.held in
    let number : c.drop_all-number.result ≡ length (packets_in_any pairs entries) =
    omega (
      arith,
      c.drop_all-number.ensures.number,
      ap length c.drop_all-number.ensures.held,
      lengths_in_any pairs entries,
      ap length (filter-revalued part_cmp (octets_at k.slots) (λ t. not (is_in_any pairs t)) k.held),
      length-map {B = Part × List ℕ} (held_outside_all pairs k.held) (λ (h : Stored). (h.0, octets_at k.slots h.1)),
      length-map {B = Part × List ℕ} k.held (λ (h : Stored). (h.0, octets_at k.slots h.1)),
    ) in
    number ∙ ap (λ (s : StoreList). length (packets_in_any pairs s.packets)) c.self.view_is

pub returns-clause-dropped : goal.returns-clause-dropped
returns-clause-dropped c =
    let k = c.self.inside.kept in
    let new = c.drop_all-number.new.self in
    let pairs = c.args.pairs.now in
    let put =
    entries_same k.slots new.slots new.held c.drop_all-number.ensures.same
    ∙ ap (entries_of k.slots) c.drop_all-number.ensures.held
    ∙ filter-revalued part_cmp (octets_at k.slots) (λ t. not (is_in_any pairs t)) k.held in
    ap (λ (p : List (Part × List ℕ)). let s : StoreList = record { packets = p; spare = new.spare } in s) put
    ∙ ap (λ (n : ℕ).
    let s : StoreList = record { packets = packets_outside_all pairs (entries_of k.slots k.held); spare = n } in
    s) c.drop_all-number.ensures.spare
    ∙ ap (λ (s : StoreList).
    let t : StoreList = record { packets = packets_outside_all pairs s.packets; spare = s.spare } in
    t) c.self.view_is
