-- The state vectors that are written (State Vector Sync, with the element types of this project).
use Rattle.std.specs.Prelude.{ℕ, not, List, [], ◌++◌, fold, map, ◌==◌}
use Rattle.std.specs.List.{filter, flat_map, zip}
use Rattle.std.specs.BTreeMap.{BTreeMap, insert_entry}
use Rattle.std.specs.Borrow.{Bor}
use Rattle.ndn_tlv.specs.Spelling.{element}
use Rattle.ndn_tlv.specs.NumberField.{number_field}
use Rattle.ndn_name.specs.Names.{Component, encoding}
use Rattle.ndn_name.specs.CanonicalOrder.{canonical_cmp}
use Rattle.ndn_tlv.specs.Types as types
use Rattle.svs_vector.specs.Format as format
use Rattle.svs_vector.specs.StateVector.{Entry}

-- The members of whom something is known, in the order of the roster.
abbrev pub known_entries : List (List Component) → List ℕ → List Entry
known_entries roster vector = filter (λ entry. not (entry.1 == 0)) (zip roster vector)

-- The same entries in canonical order of their names: each is put in its place among those before it.
abbrev pub in_canonical_order : List Entry → List Entry
in_canonical_order entries = fold (λ placed entry. insert_entry canonical_cmp placed entry.0 entry.1) [] entries

-- StateVectorEntry, and what is in it: Name and SeqNo.
abbrev pub entry_value : Entry → List ℕ
entry_value entry = element types.Name (encoding entry.0) ++ element format.SeqNo (number_field entry.1)

-- The octets of an entry.
abbrev pub written_entry : Entry → List ℕ
written_entry entry = element format.StateVectorEntry (entry_value entry)

-- StateVector: an entry for each member whose number is not 0, in canonical order of the node names.
abbrev pub written_vector : List (List Component) → List ℕ → List ℕ
written_vector roster vector =
    element format.StateVector (flat_map written_entry (in_canonical_order (known_entries roster vector)))

-- Entries whose names are lent, without where those lie in memory.
abbrev pub lent_entries : BTreeMap (Bor (List Component)) ℕ → List Entry
lent_entries entries = map (λ entry. (entry.0.now, entry.1)) entries.entries
