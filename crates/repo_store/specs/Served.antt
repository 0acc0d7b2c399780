-- Which of the stored packets an Interest is answered with.
use Rattle.std.specs.Prelude.{ℕ, Bool, false, ◌&&◌, ◌||◌, List, length, take, Option, None, option_map, Result, Ok, Err}
use Rattle.std.specs.Prelude.{if◌then◌else◌}
use Rattle.std.specs.List.{find}
use Rattle.std.specs.Ordering.{eq_by_cmp}
use Rattle.sha2.specs.Sha256.{sha256}
use Rattle.ndn_tlv.specs.Listing.{◌>>=◌}
use Rattle.ndn_name.specs.declared.fault.PacketFault.{PacketFault}
use Rattle.ndn_name.specs.Names.{Component, full_name}
use Rattle.ndn_name.specs.CanonicalOrder.{canonical_cmp}
use Rattle.ndn_interest.specs.Interest.{Interest, interest_of}
use Rattle.ndn_data.specs.Data.{Data, data_of}
use Rattle.repo_plan.specs.declared.part.Part.{Part}

-- Whether two names are the same.
abbrev pub is_same_name : List Component → List Component → Bool
is_same_name a b = eq_by_cmp canonical_cmp a b

-- Whether the second name begins with the components of the first.
abbrev pub is_prefix : List Component → List Component → Bool
is_prefix a b = is_same_name (take (length a) b) a

-- Whether an Interest of this name asks for the Data packet of this digest: by its name, by its full
-- name, or where the Interest allows that by a prefix of the full name.
abbrev pub asks_for : List Component → Bool → List ℕ → Data → Bool
asks_for name can_be_prefix digest d =
    is_same_name name d.name
    || (is_same_name name (full_name d.name digest)
    || (can_be_prefix && is_prefix name (full_name d.name digest)))

-- Whether octets were read as a Data packet, and an Interest of this name asks for it.
abbrev pub asks_for_read : List Component → Bool → List ℕ → Result Data PacketFault → Bool
asks_for_read name can_be_prefix digest (Ok d) = asks_for name can_be_prefix digest d
asks_for_read name can_be_prefix digest (Err fault) = false

-- Whether the packet of these octets satisfies an Interest of this name.
unfoldable pub satisfies : List Component → Bool → List ℕ → Bool
satisfies name can_be_prefix octets =
    asks_for_read name can_be_prefix (sha256 octets) (data_of octets)

-- The first of `packets` that satisfies the Interest, with its part. A packet that must be fresh is never there, since
-- no packet says how long it is fresh.
unfoldable pub first_served : Interest → List (Part × List ℕ) → Option (Part × List ℕ)
first_served i packets =
    if i.must_be_fresh then None else find (λ e. satisfies i.name i.can_be_prefix e.1) packets

-- The part and the packet that answer the Interest with the octets `interest`, if there are any; or the Interest's
-- first fault.
unfoldable pub served_entry : List ℕ → List (Part × List ℕ)
    → Result (Option (Part × List ℕ)) PacketFault
served_entry interest packets = interest_of interest >>= λ i. Ok (first_served i packets)

-- The packet that answers the Interest, if there is one, or the fault of the Interest.
abbrev pub served : List ℕ → List (Part × List ℕ) → Result (Option (List ℕ)) PacketFault
served interest packets = served_entry interest packets >>= λ e. Ok (option_map (λ s. s.1) e)

-- The part whose packet answers the Interest, if there is one, or the fault of the Interest.
abbrev pub served_part : List ℕ → List (Part × List ℕ) → Result (Option Part) PacketFault
served_part interest packets = served_entry interest packets >>= λ e. Ok (option_map (λ s. s.0) e)
