-- The verdict on a command, test by test.
use Rattle.std.proofs.Common.{◌≡◌, ℕ, List, [], Option, Some, None, Result, Ok, Err, refl, sym, ap, ◌∙◌, inl, inr}
use Rattle.std.specs.Prelude.{◌⊎◌, unwrap_or, option_map, IsOk}
use Rattle.std.specs.Borrow.{Bor}
use Rattle.ndn_tlv.specs.Listing.{◌>>=◌}
use Rattle.ndn_name.specs.Names.{Component}
use Rattle.ndn_sign.specs.Ring.{NamedKey}
use Rattle.ndn_interest.specs.Interest.{Interest, interest_of}
use Rattle.ndn_interest.specs.Signer.{signer_of}
use Rattle.repo_command.specs.declared.command.Command.{Command}
use Rattle.repo_command.specs.declared.command_refusal.CommandRefusal.{CommandRefusal}
use Rattle.repo_command.specs.declared.command_refusal.CommandRefusal.TheVariants.{NoMemory}
use Rattle.repo_command.specs.declared.verb.Verb.{Verb}
use Rattle.repo_command.specs.Verbs.{verb_in}
use Rattle.repo_command.specs.Parameters.{Parameters, parameters_of, command_from}
use Rattle.repo_command.specs.Verdict.{command_verdict}

-- what is lent, or nothing
pub lent_or : (o : Option (Bor (List ℕ))) (d r : Bor (List ℕ)) → d.now ≡ [] → r ≡ unwrap_or o d
    → unwrap_or (option_map (λ (p : Bor (List ℕ)). p.now) o) [] ≡ r.now
lent_or None d r none is = sym (ap (λ (p : Bor (List ℕ)). p.now) is ∙ none)
lent_or (Some p) d r none is = sym (ap (λ (b : Bor (List ℕ)). b.now) is)

abbrev pub from_client : ℕ → Command → Result (ℕ × Command) CommandRefusal
from_client client command = Ok (client, command)

module _ (node : List Component) (ring : List NamedKey) (octets : List ℕ) (i : Interest) (verb : Verb) (client : ℕ)
    (p : Parameters)
    (read : interest_of octets ≡ Ok i) (named : verb_in node i.name ≡ Some verb) (signed : signer_of ring i ≡ Ok client)
    (given : parameters_of (unwrap_or i.parameters []) ≡ Ok p) where
  -- what is left of the verdict
  pub last_test : command_verdict node ring octets ≡ (command_from verb p >>= from_client client)
  last_test = rw (read, named, signed, given) refl

  still_ok : (r : Result Command CommandRefusal) → IsOk r → IsOk (r >>= from_client client)
  still_ok (Ok command) ok = ok
  still_ok (Err refusal) ok = ok

  -- a refusal of the last test is that of all
  pub last_refusal : (refusal : CommandRefusal)
      → (command_from verb p ≡ Err refusal) ⊎ ((refusal ≡ NoMemory) × IsOk (command_from verb p))
      → (command_verdict node ring octets ≡ Err refusal)
      ⊎ ((refusal ≡ NoMemory) × IsOk (command_verdict node ring octets))
  last_refusal refusal (inl refused) =
      inl (last_test ∙ ap (λ (r : Result Command CommandRefusal). r >>= from_client client) refused)
  last_refusal refusal (inr memory) = inr (memory.0, rw last_test (still_ok (command_from verb p) memory.1))
