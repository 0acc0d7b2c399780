use Rattle.std.proofs.Common.{◌-◌, List, subst, sym, ap, ◌∙◌, arith}
use Rattle.std.specs.Bool.{nat_eq}
use Rattle.std.specs.Cmp.Lexicographic.{pointwise}
use Rattle.sorted_lists.specs.SortedList.{Rises, keys, contains, with_value}
use Rattle.sorted_lists.proofs.Sets.{rises_with_value}
use Rattle.repo_plan.specs.Parts.{part_cmp}
use Rattle.repo_plan.proofs.Orders.{exact_parts}
use Rattle.repo_store.specs.declared.packet_table.Fingerprinted.{Fingerprinted}
use Rattle.repo_store.specs.declared.packet_table.Sought.{Sought}
use Rattle.repo_store.specs.declared.packet_table.Sought.TheVariants.{Octets}
use Rattle.repo_store.specs.PacketTable.{Stored, PacketTableState}
use Rattle.repo_store.specs.Slots.{AreSlots, AreFingerprints, KeepsOne, HeldIsSound, fingerprinted_cmp, is_sought_at}
use Rattle.repo_store.specs.Indexes.{IsFirstOf}
use Rattle.sorted_lists.proofs.Lookups.{none_where, same_with}
use Rattle.repo_store.proofs.SlotLemmas.{sound_seen, keeps_one, slots_more, fingerprints_more}
use Rattle.repo_store.proofs.FingerprintLemmas.{exact_fingerprints}
use Rattle.repo_store.proofs.packet_table.PacketTable.put.Goals as goal

pub invariant_of-self-2 : goal.invariant_of-self-2
invariant_of-self-2 c =
    let k = c.self.inside in
    let octets = c.args.packet in
    let slot = c.keep-slot.result in
    let h : Stored = (c.args.part, slot) in
    let sought : Sought = Octets c.octets.result in
    let first =
    subst (λ (s : PacketTableState). IsFirstOf s.held (is_sought_at s.slots c.fingerprint_in-fingerprint.result sought)
    c.first_of_fingerprint-found.result)
    (sym c.self.view_is) c.first_of_fingerprint-found.ensures in
    let keeps =
    keeps_one k.parts.entries c.fingerprint_in-fingerprint.result sought octets c.first_of_fingerprint-found.result
    k.packets
    c.keep-slot.new.packets slot c.self.invariant.slots c.fingerprint_in-fingerprint.ensures
    (λ o. ap (pointwise nat_eq o) c.octets.ensures.same) first c.keep-slot.ensures.kept in
    let fresh =
    none_where exact_parts k.parts.entries c.args.part
    (ap (λ (s : PacketTableState). contains part_cmp (keys s.held) c.args.part) c.self.view_is
    ∙ sym c.has.ensures ∙ c.if-has.false) in
    let gains = same_with exact_parts c.args.part slot k.parts.entries c.self.invariant.in_order fresh in
    let are = c.self.invariant.slots in
    let new = c.keep-slot.new.packets.slots in
    let more = with_value part_cmp c.args.part slot k.parts.entries in
    let place : Fingerprinted = record {
      fingerprint = c.fingerprint_in-fingerprint.result;
      slot = slot;
      part =
          c.args.part;
    } in
    record {
      in_order =
          subst (λ (es : List Stored). Rises part_cmp (keys es)) (sym c.insert.ensures.entries)
          (rises_with_value exact_parts c.args.part slot k.parts.entries c.self.invariant.in_order);
      fingerprints_in_order =
          subst (λ (es : List (Fingerprinted × Unit {0})). Rises fingerprinted_cmp (keys es))
          (sym c.insert-2.ensures.entries)
          (rises_with_value exact_fingerprints place tt k.fingerprints.entries c.self.invariant.fingerprints_in_order);
      slots =
          subst (AreSlots new) (sym c.insert.ensures.entries)
          (slots_more k.packets.slots new octets k.parts.entries more h are keeps gains c.octets.ensures.packet);
      fingerprints =
          subst (λ (es : List Stored). AreFingerprints new es (keys c.insert-2.new.self.entries))
          (sym c.insert.ensures.entries)
          (subst (λ (fs : List (Fingerprinted × Unit {0})). AreFingerprints new more (keys fs))
          (sym c.insert-2.ensures.entries)
          (fingerprints_more k.packets.slots new octets k.parts.entries more h are keeps gains
          c.fingerprint_in-fingerprint.result
          k.fingerprints.entries
          c.fingerprint_in-fingerprint.ensures c.self.invariant.fingerprints));
      room_of_packets =
          c.keep-slot.ensures.room (k.spare - 1)
          (omega (
            arith,
            c.requires,
            c.self.invariant.room_of_packets,
            ap (λ (s : PacketTableState). s.spare) c.self.view_is,
          ));
      room_of_parts = omega (arith, c.self.invariant.room_of_parts, c.insert.ensures.spare);
      room_of_fingerprints = omega (arith, c.self.invariant.room_of_fingerprints, c.insert-2.ensures.spare);
    }

pub returns : goal.returns
returns c =
    let k = c.self.inside in
    let octets = c.args.packet in
    let slot = c.keep-slot.result in
    let h : Stored = (c.args.part, slot) in
    let sought : Sought = Octets c.octets.result in
    let first =
    subst (λ (s : PacketTableState). IsFirstOf s.held (is_sought_at s.slots c.fingerprint_in-fingerprint.result sought)
    c.first_of_fingerprint-found.result)
    (sym c.self.view_is) c.first_of_fingerprint-found.ensures in
    let keeps =
    keeps_one k.parts.entries c.fingerprint_in-fingerprint.result sought octets c.first_of_fingerprint-found.result
    k.packets
    c.keep-slot.new.packets slot c.self.invariant.slots c.fingerprint_in-fingerprint.ensures
    (λ o. ap (pointwise nat_eq o) c.octets.ensures.same) first c.keep-slot.ensures.kept in
    record {
      fresh = sym c.has.ensures ∙ c.if-has.false;
      held =
          c.insert.ensures.entries
          ∙ ap (λ (s : PacketTableState). with_value part_cmp c.args.part slot s.held) c.self.view_is;
      keeps =
          subst (λ (s : PacketTableState). KeepsOne octets s.slots c.keep-slot.new.packets.slots slot) c.self.view_is
          keeps;
      sound = subst HeldIsSound c.self.view_is (sound_seen k c.self.invariant);
      spare = ap (λ (s : PacketTableState). s.spare - 1) c.self.view_is;
    }
