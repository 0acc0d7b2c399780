-- What is left of the refusals of a name or a packet that is within its limit.
use Rattle.std.proofs.Common.{◌≡◌, ℕ, ◌<◌, ◌≤◌, Result, Err, ap, ◌∙◌, inl, inr, refl, arith}
use Rattle.std.specs.Prelude.{◌⊎◌, IfErr}
use Rattle.std.proofs.lemmas.Result.{IfErr-at_err}
use Rattle.ndn_name.specs.declared.fault.PacketWriteFault.{PacketWriteFault}
use Rattle.ndn_name.specs.declared.fault.PacketWriteFault.TheVariants as write
use Rattle.ndn_name.specs.declared.name_fault.NameFault.{NameFault}
use Rattle.ndn_name.specs.declared.name_fault.NameFault.TheVariants.{NameTooLong, NoMemory}

pub only_memory_of_name : {A : Type 0} (r : Result A NameFault) (n : ℕ) → (r ≡ Err NameTooLong → 1000 < n)
    → IfErr r (λ fault. (fault ≡ NameTooLong) ⊎ (fault ≡ NoMemory)) → n ≤ 1000 → (e : NameFault) → r ≡ Err e
    → e ≡ NoMemory
only_memory_of_name {A} r n long refused short e is =
    elim (IfErr-at_err (λ (fault : NameFault). (fault ≡ NameTooLong) ⊎ (fault ≡ NoMemory)) is refused) [
      | inl too_long ↦ absurd (omega (arith, long (is ∙ ap (λ (f : NameFault). refusal f) too_long)))
      | inr memory ↦ memory
    ]
  where
    refusal : NameFault → Result A NameFault
    refusal f = Err f

pub only_memory_of_packet : {A : Type 0} (r : Result A PacketWriteFault) (len : ℕ)
    → ((n : ℕ) → r ≡ Err (write.TooLong n) → 8800 < len) → len ≤ 8800
    → (e : PacketWriteFault) → r ≡ Err e → e ≡ write.NoMemory
only_memory_of_packet r len long short (write.TooLong n) is = absurd (omega (arith, long n is))
only_memory_of_packet r len long short write.NoMemory is = refl
