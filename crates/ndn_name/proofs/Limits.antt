-- What was appended was not too long.
use Rattle.std.proofs.Common.{◌≡◌, ℕ, ◌<◌, ◌≤◌, Result, Ok, Err, inl, inr}
use Rattle.std.specs.Prelude.{◌↔◌}
use Rattle.std.proofs.lemmas.Bool.{cases_lt}
use Rattle.ndn_name.specs.declared.name_fault.NameFault.{NameFault}
use Rattle.ndn_name.specs.declared.name_fault.NameFault.TheVariants.{NameTooLong}

abbrev pub done : Result (Unit {0}) NameFault
done = Ok tt

pub in_limit : (n : ℕ) → (done ≡ Err NameTooLong) ↔ (1000 < n) → n ≤ 1000
in_limit n h =
    elim (cases_lt 1000 n) [
      | inl lt ↦ absurd (never (h.1 lt))
      | inr le ↦ le
    ]
  where
    never : done ≡ Err NameTooLong → ⊥
    never e = cc
