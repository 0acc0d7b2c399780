use Rattle.std.proofs.Common.{ℕ, List, [], ◌∷◌, ◌++◌, ◌-◌, length, length-append, Some, None, refl, subst, ap, ◌∙◌}
use Rattle.std.proofs.Common.{arith}
use Rattle.std.specs.Cmp.{unsigned_Decides}
use Rattle.std.proofs.lemmas.Slice.Eq.{strip_prefix_is}
use Rattle.repo_store.specs.declared.packet_table.Sought.{Sought}
use Rattle.repo_store.specs.declared.packet_table.Sought.TheVariants.{FullName}
use Rattle.repo_store.specs.PacketTable.{PacketTableState}
use Rattle.repo_store.specs.Slots.{AreSlots, HeldIsSound, is_sought_at}
use Rattle.repo_store.specs.Indexes.{IsFirstOf}
use Rattle.repo_store.proofs.SlotLemmas.{sound_seen}
use Rattle.repo_store.proofs.FullNameLemmas.{taken_and_rest, short_lacks, other_lacks, full_found}
use Rattle.repo_store.proofs.packet_table.PacketTable.first_with_full_name.Goals as goal

pub returns-in_err-name-clause-found : goal.returns-in_err-name-clause-found
returns-in_err-name-clause-found c =
    rw c.from_residual.ensures
    (short_lacks c.args.self.now.slots c.args.self.now.held c.args.asked.now c.in_err-name.ensures.cases)

pub returns-in_err-name-clause-sound : goal.returns-in_err-name-clause-sound
returns-in_err-name-clause-sound c = subst HeldIsSound c.self.view_is (sound_seen c.self.inside c.self.invariant)

pub returns-in_err-digest-clause-found : goal.returns-in_err-digest-clause-found
returns-in_err-digest-clause-found c =
    let asked = c.args.asked.now in
    let last = c.as_slice.result.now in
    let parts = c.in_ok-name.ensures.cases in
    let is =
    taken_and_rest (length asked - 34) asked c.in_ok-name.name.now last parts.0 (c.as_slice.ensures ∙ parts.1) in
    let none = strip_prefix_is unsigned_Decides last (1 ∷ 32 ∷ []) None c.in_err-digest.ensures.cases in
    rw c.from_residual-in_err-digest.ensures
    (other_lacks c.args.self.now.slots c.args.self.now.held asked c.in_ok-name.name.now last is
    (omega (arith, parts.2, ap length is, length-append c.in_ok-name.name.now last)) none)

pub returns-in_err-digest-clause-sound : goal.returns-in_err-digest-clause-sound
returns-in_err-digest-clause-sound c = subst HeldIsSound c.self.view_is (sound_seen c.self.inside c.self.invariant)

pub returns-clause-found : goal.returns-clause-found
returns-clause-found c =
    let slots = c.args.self.now.slots in
    let held = c.args.self.now.held in
    let asked = c.args.asked.now in
    let last = c.as_slice.result.now in
    let name = c.in_ok-name.name in
    let digest = c.in_ok-digest.digest in
    let sought : Sought = FullName digest name in
    let parts = c.in_ok-name.ensures.cases in
    let is = taken_and_rest (length asked - 34) asked name.now last parts.0 (c.as_slice.ensures ∙ parts.1) in
    let last_is =
    strip_prefix_is unsigned_Decides last (1 ∷ 32 ∷ []) (Some c.in_ok-digest.digest) c.in_ok-digest.ensures.cases in
    full_found slots held asked sought name.now digest.now (is ∙ ap (λ (x : List ℕ). name.now ++ x) last_is)
    (omega (arith, parts.2, ap length is, ap length last_is, length-append name.now last)) (λ octets. refl)
    (subst (λ (k : PacketTableState). AreSlots k.slots k.held) c.self.view_is c.self.invariant.slots)
    c.first_of_fingerprint.result
    (subst (λ (f : ℕ). IsFirstOf held (is_sought_at slots f sought) c.first_of_fingerprint.result)
    c.fingerprint_of.ensures
    c.first_of_fingerprint.ensures)

pub returns-clause-sound : goal.returns-clause-sound
returns-clause-sound c = subst HeldIsSound c.self.view_is (sound_seen c.self.inside c.self.invariant)
