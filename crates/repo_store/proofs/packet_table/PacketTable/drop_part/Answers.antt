use Rattle.std.proofs.Common.{◌≡◌, ℕ, List, [], Option, subst, sym, ap, ◌∙◌, arith, rules}
use Rattle.std.specs.Prelude.{IsSome, option_copied, unwrap_or}
use Rattle.sha2.specs.Sha256.{sha256}
use Rattle.sorted_lists.proofs.Sets.{In}
use Rattle.repo_store.specs.PacketTable.{fingerprint_of, at, fingerprint_at, Stored, PacketTableState}
use Rattle.repo_store.proofs.SlotLemmas.{used_gone, unused_gone, room_kept}
use Rattle.repo_store.proofs.packet_table.PacketTable.drop_part.Goals as goal

pub unwrap-requires : goal.unwrap-requires
unwrap-requires c =
    let there : In (c.args.part, c.args.slot) c.self.inside.parts.entries =
    subst (λ (k : PacketTableState). In (c.args.part, c.args.slot) k.held) (sym c.self.view_is) c.requires in
    let some : IsSome (at c.self.inside.packets.slots c.args.slot) =
    c.self.invariant.slots.kept (c.args.part, c.args.slot) there in
    search rules

pub invariant_of-self : goal.invariant_of-self
invariant_of-self c =
    let k = c.self.inside in
    let h : Stored = (c.args.part, c.args.slot) in
    let there : In h k.parts.entries = subst (λ (s : PacketTableState). In h s.held) (sym c.self.view_is) c.requires in
    let fingerprint : c.fingerprint_in-fingerprint.result ≡ fingerprint_at k.packets.slots c.args.slot =
    c.fingerprint_in-fingerprint.ensures
    ∙ ap (λ (o : Option (List ℕ)). fingerprint_of (sha256 (unwrap_or o [])))
    (sym (ap option_copied c.unwrap.ensures) ∙ c.get.ensures) in
    let gone =
    unused_gone k c.self.invariant h there c.fingerprint_in-fingerprint.result c.remove.new.self.entries
    c.remove-2.new.self.entries fingerprint c.remove.ensures.entries c.remove-2.ensures.entries
    c.remove-then-not-is_used.new.self.slots c.if-not-is_used.ensures c.remove-then-not-is_used.ensures.updates.changed
    (λ s n. c.remove-then-not-is_used.ensures.updates.others s n) in
    record {
      in_order = gone.in_order;
      fingerprints_in_order = gone.fingerprints_in_order;
      slots = gone.slots;
      fingerprints = gone.fingerprints;
      room_of_packets =
          room_kept k.packets c.remove-then-not-is_used.new.self c.remove-then-not-is_used.ensures.len
          c.remove-then-not-is_used.ensures.capacity k.spare c.self.invariant.room_of_packets;
      room_of_parts = omega (arith, c.self.invariant.room_of_parts, c.remove.ensures.spare);
      room_of_fingerprints = omega (arith, c.self.invariant.room_of_fingerprints, c.remove-2.ensures.spare);
    }

pub invariant_of-self-else-not-is_used : goal.invariant_of-self-else-not-is_used
invariant_of-self-else-not-is_used c =
    let k = c.self.inside in
    let h : Stored = (c.args.part, c.args.slot) in
    let there : In h k.parts.entries = subst (λ (s : PacketTableState). In h s.held) (sym c.self.view_is) c.requires in
    let fingerprint : c.fingerprint_in-fingerprint.result ≡ fingerprint_at k.packets.slots c.args.slot =
    c.fingerprint_in-fingerprint.ensures
    ∙ ap (λ (o : Option (List ℕ)). fingerprint_of (sha256 (unwrap_or o [])))
    (sym (ap option_copied c.unwrap.ensures) ∙ c.get.ensures) in
    let gone =
    used_gone k c.self.invariant h there c.fingerprint_in-fingerprint.result c.remove.new.self.entries
    c.remove-2.new.self.entries
    fingerprint c.remove.ensures.entries c.remove-2.ensures.entries c.if-not-is_used.ensures in
    record {
      in_order = gone.in_order;
      fingerprints_in_order = gone.fingerprints_in_order;
      slots = gone.slots;
      fingerprints = gone.fingerprints;
      room_of_packets = c.self.invariant.room_of_packets;
      room_of_parts = omega (arith, c.self.invariant.room_of_parts, c.remove.ensures.spare);
      room_of_fingerprints = omega (arith, c.self.invariant.room_of_fingerprints, c.remove-2.ensures.spare);
    }

pub returns-then-not-is_used-clause-same : goal.returns-then-not-is_used-clause-same
returns-then-not-is_used-clause-same c =
    let k = c.self.inside in
    let h : Stored = (c.args.part, c.args.slot) in
    let there : In h k.parts.entries = subst (λ (s : PacketTableState). In h s.held) (sym c.self.view_is) c.requires in
    let fingerprint : c.fingerprint_in-fingerprint.result ≡ fingerprint_at k.packets.slots c.args.slot =
    c.fingerprint_in-fingerprint.ensures
    ∙ ap (λ (o : Option (List ℕ)). fingerprint_of (sha256 (unwrap_or o [])))
    (sym (ap option_copied c.unwrap.ensures) ∙ c.get.ensures) in
    let gone =
    unused_gone k c.self.invariant h there c.fingerprint_in-fingerprint.result c.remove.new.self.entries
    c.remove-2.new.self.entries fingerprint c.remove.ensures.entries c.remove-2.ensures.entries
    c.remove-then-not-is_used.new.self.slots c.if-not-is_used.ensures c.remove-then-not-is_used.ensures.updates.changed
    (λ s n. c.remove-then-not-is_used.ensures.updates.others s n) in
    λ o i. gone.same o i ∙ ap (λ (s : PacketTableState). at s.slots o.1) c.self.view_is
