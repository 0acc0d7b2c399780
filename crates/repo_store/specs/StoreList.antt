-- Packets by their parts, as a list in order of the parts.
use Rattle.std.specs.Prelude.{ℕ, Bool, not, List, [], ◌∷◌, IsOk, if◌then◌else◌}
use Rattle.std.specs.List.{All, filter, list_any}
use Rattle.std.specs.Ordering.{nat_cmp}
use Rattle.std.specs.Cmp.Lexicographic.{slice_cmp}
use Rattle.ndn_data.specs.Data.{data_of}
use Rattle.repo_plan.specs.declared.part.Part.{Part}
use Rattle.sorted_lists.specs.SortedList.{Rises, keys, contains, insert_key, with_value}
use Rattle.repo_plan.specs.Parts.{Pair, part_cmp}
use Rattle.repo_plan.specs.Plan.{is_in}

-- What is stored, and for how many more packets there is capacity.
pub record StoreList : Type 0 where
  pub packets : List (Part × List ℕ)
  pub spare : ℕ

-- The packets with one more, unless there is one of its part.
abbrev pub with_packet : Part → List ℕ → List (Part × List ℕ) → List (Part × List ℕ)
with_packet part octets packets =
    if contains part_cmp (keys packets) part then packets
    else with_value part_cmp part octets packets

-- The different octet lists among the packets, in order.
abbrev pub different_octets : List (Part × List ℕ) → List (List ℕ)
different_octets [] = []
different_octets (e ∷ es) = insert_key (slice_cmp nat_cmp) e.1 (different_octets es)

-- The packets of the parts of the publication `pair`.
abbrev pub packets_in : Pair → List (Part × List ℕ) → List (Part × List ℕ)
packets_in pair packets = filter (λ e. is_in pair e.0) packets

-- The packets of the parts of other publications.
abbrev pub packets_outside : Pair → List (Part × List ℕ) → List (Part × List ℕ)
packets_outside pair packets = filter (λ e. not (is_in pair e.0)) packets

-- Whether the part is of one of these publications.
abbrev pub is_in_any : List Pair → Part → Bool
is_in_any pairs t = list_any (λ pair. is_in pair t) pairs

-- The packets of the parts of the publications `pairs`.
abbrev pub packets_in_any : List Pair → List (Part × List ℕ) → List (Part × List ℕ)
packets_in_any pairs packets = filter (λ e. is_in_any pairs e.0) packets

-- The packets of the parts of publications that aren't listed.
abbrev pub packets_outside_all : List Pair → List (Part × List ℕ) → List (Part × List ℕ)
packets_outside_all pairs packets = filter (λ e. not (is_in_any pairs e.0)) packets

-- What every store keeps: its parts are in order, each once, and its packets read as Data.
pub record StoreIsSound (packets : List (Part × List ℕ)) : Type 0 where
  pub in_order : Rises part_cmp (keys packets)
  pub are_data : All (λ e. IsOk (data_of e.1)) packets
