use Rattle.std.proofs.Common.{◌+◌, ◌≤◌, Option, length, sym, subst, ◌∙◌, arith}
use Rattle.std.specs.Prelude.{IsSome}
use Rattle.sorted_lists.specs.SortedList.{keys}
use Rattle.repo_store.specs.PacketTable.{at, Stored, PacketTableState}
use Rattle.repo_store.specs.Slots.{AreSlots, AreFingerprints}
use Rattle.repo_store.proofs.FingerprintLemmas.{test, Searched, searched_none, searched_past, searched_all}
use Rattle.repo_store.proofs.FingerprintLemmas.{searched_this}
use Rattle.repo_store.proofs.FingerprintLemmas.{searched_other, some_within, fingerprint_only}
use Rattle.repo_store.proofs.packet_table.PacketTable.first_of_fingerprint.Goals as goal
use Rattle.repo_store.proofs.packet_table.PacketTable.first_of_fingerprint.Goals.{then-is_sought, else-is_sought}

pub loop-from-init : goal.loop-from-init
loop-from-init c = searched_none c.args.self.now c.args.fingerprint c.args.sought.now

pub returns-in_default : goal.returns-in_default
returns-in_default c =
    let fs = keys c.self.inside.fingerprints.entries in
    searched_past c.args.self.now c.args.fingerprint c.args.sought.now fs
    (subst (λ (s : PacketTableState). AreFingerprints s.slots s.held fs) c.self.view_is c.self.invariant.fingerprints)
    c.loop-from.from
    c.loop-from.least c.loop-from.invariant c.in_default.ensures

pub is_sought-requires : goal.is_sought-requires
is_sought-requires c =
    subst (λ (s : PacketTableState). IsSome (at s.slots c.in-Some.next.1)) c.self.view_is
    (c.self.invariant.slots.kept c.in-Some.next
    (fingerprint_only c.self.inside.packets.slots c.self.inside.parts.entries (keys c.self.inside.fingerprints.entries)
    _
    c.self.invariant.fingerprints c.in-Some.ensures.0).0)

pub overflow_add-from : goal.overflow_add-from
overflow_add-from c =
    let slots = c.self.inside.packets.slots in
    let some =
    c.self.invariant.slots.kept c.in-Some.next
    (fingerprint_only slots c.self.inside.parts.entries (keys c.self.inside.fingerprints.entries) _
    c.self.invariant.fingerprints
    c.in-Some.ensures.0).0 in
    omega (arith, some_within slots c.in-Some.next.1 some, c.capacity.ensures.slots, c.capacity.auto)

pub loop-from-preserved : goal.loop-from-preserved
loop-from-preserved c =
    let k = c.args.self.now in
    let fingerprint = c.args.fingerprint in
    let sought = c.args.sought.now in
    let next = c.in-Some.next in
    let fs = keys c.self.inside.fingerprints.entries in
    let fingerprints =
    subst (λ (s : PacketTableState). AreFingerprints s.slots s.held fs) c.self.view_is c.self.invariant.fingerprints in
    let Next = λ (least : Option Stored). Searched k (test k fingerprint sought) (next.1 + 1) least in
    elim c.if-is_sought.branch [
      | then-is_sought w ↦
          subst Next (sym (w.least-is ∙ w.lesser-least.ensures))
          (searched_this k fingerprint sought fs fingerprints c.loop-from.from next c.in-Some.ensures c.loop-from.least
          (sym c.is_sought.ensures ∙ w.if-is_sought.true) c.loop-from.invariant)
      | else-is_sought w ↦
          subst Next (sym w.least-is)
          (searched_other k fingerprint sought fs fingerprints c.loop-from.from next c.in-Some.ensures c.loop-from.least
          (sym c.is_sought.ensures ∙ w.if-is_sought.false) c.loop-from.invariant)
    ]

pub returns : goal.returns
returns c =
    searched_all c.args.self.now c.args.fingerprint c.args.sought.now c.loop-from.from c.loop-from.least
    (subst (λ (s : PacketTableState). AreSlots s.slots s.held) c.self.view_is c.self.invariant.slots)
    (subst (λ (s : PacketTableState). length s.slots ≤ c.loop-from.from) c.self.view_is
    (omega (arith, c.capacity.ensures.slots, c.loop-from-test.false))) c.loop-from.invariant
