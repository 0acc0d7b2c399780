-- What octets are answered with, case by case.
use Rattle.std.proofs.Common.{◌≡◌, ℕ, Bool, true, false, cond, List, Option, None, option_map, Result, Ok, ap, ◌∙◌}
use Rattle.std.specs.List.{find}
use Rattle.ndn_tlv.specs.Listing.{◌>>=◌}
use Rattle.ndn_name.specs.declared.fault.PacketFault.{PacketFault}
use Rattle.ndn_interest.specs.Interest.{Interest, interest_of}
use Rattle.repo_plan.specs.declared.part.Part.{Part}
use Rattle.repo_store.specs.Served.{satisfies, first_served, served_entry, served}

abbrev Stores : Type 0
Stores = List (Part × List ℕ)

abbrev answer : Option (Part × List ℕ) → Result (Option (Part × List ℕ)) PacketFault
answer e = Ok e

-- ---- an entry

pub entry_fresh : (interest : List ℕ) (packets : Stores) (i : Interest) → interest_of interest ≡ Ok i
    → i.must_be_fresh ≡ true → served_entry interest packets ≡ Ok None
unfolding served_entry first_served
entry_fresh interest packets i e fresh =
    ap (λ (r : Result Interest PacketFault). r >>= λ i. answer (first_served i packets)) e
    ∙ ap (λ (b : Bool). answer (cond b None (find (λ s. satisfies i.name i.can_be_prefix s.1) packets))) fresh

pub entry_found : (interest : List ℕ) (packets : Stores) (i : Interest) → interest_of interest ≡ Ok i
    → i.must_be_fresh ≡ false
    → served_entry interest packets ≡ Ok (find (λ s. satisfies i.name i.can_be_prefix s.1) packets)
unfolding served_entry first_served
entry_found interest packets i e fresh =
    ap (λ (r : Result Interest PacketFault). r >>= λ i. answer (first_served i packets)) e
    ∙ ap (λ (b : Bool). answer (cond b None (find (λ s. satisfies i.name i.can_be_prefix s.1) packets))) fresh

-- ---- the packet

pub served_found : (interest : List ℕ) (packets : Stores) (i : Interest) → interest_of interest ≡ Ok i
    → i.must_be_fresh ≡ false
    → served interest packets ≡ Ok (option_map (λ s. s.1) (find (λ s. satisfies i.name i.can_be_prefix s.1) packets))
served_found interest packets i e fresh =
    ap (λ (r : Result (Option (Part × List ℕ)) PacketFault).
    r >>= λ s. let x : Result (Option (List ℕ)) PacketFault = Ok (option_map (λ (t : Part × List ℕ). t.1) s) in x)
    (entry_found interest packets i e fresh)
