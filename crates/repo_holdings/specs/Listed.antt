-- What stored packets say of publications: what their records say, which objects are stored whole, and which of those
-- are not withdrawn.
use Rattle.std.specs.Prelude.{ℕ, ◌+◌, [], Bool, false, List, map, length, Option, Some, None}
use Rattle.std.specs.Prelude.{option_map, is_some, unwrap_or, if◌then◌else◌}
use Rattle.std.specs.List.{flat_map, list_all, list_any}
use Rattle.std.specs.Option.{option_and_then}
use Rattle.std.specs.Ordering.{eq_by_cmp}
use Rattle.sha2.specs.Sha256.{sha256}
use Rattle.sorted_lists.specs.Range.{numbers_from}
use Rattle.sorted_lists.specs.SortedList.{value_of}
use Rattle.repo_plan.specs.Parts.{Pair, pair_cmp, part_cmp, part_of, last_part, shape_of_segments}
use Rattle.repo_plan.specs.declared.shape.Shape.{Shape}
use Rattle.repo_object.specs.Publication.{Listed, RecordSays, shape_stated}
use Rattle.repo_object.specs.Publication.RecordSays.{Lists, WithdrawsNumber}
use Rattle.repo_object.specs.Packets.{packet_content}
use Rattle.repo_object.specs.Verdict.{stated_in}
use Rattle.repo_catalog.specs.declared.entry.Entry.{Entry}
use Rattle.repo_holdings.specs.KeptValues.{kept_values}
use Rattle.repo_holdings.specs.Records.{Packet, records_in}

-- the packet of a publication's part
abbrev pub stored_at : List Packet → Pair → ℕ → Option (List ℕ)
stored_at packets pair x = value_of part_cmp packets (part_of pair x)

-- ---- what records say

-- the object that a record lists; a withdrawal lists none
abbrev pub object_stated : RecordSays → Option Listed
object_stated (Lists l) = Some l
object_stated (WithdrawsNumber seq) = None

-- the publication that the record of another withdraws, which has the same publisher
abbrev pub withdrawn_by : Pair → RecordSays → Option Pair
withdrawn_by pair (Lists l) = None
withdrawn_by pair (WithdrawsNumber seq) = Some (pair.0, seq)

-- which parts the publication of an object has
abbrev pub listed_shape : Listed → Shape
listed_shape l = shape_of_segments l.segments

-- the object that a packet lists, if it is the record of one
abbrev pub listing_in : List ℕ → Option Listed
listing_in octets = option_and_then object_stated (stated_in octets)

-- what the stored record of a publication says
abbrev pub stated_at : List Packet → Pair → Option RecordSays
stated_at packets pair = option_and_then stated_in (stored_at packets pair 0)

-- the object that the stored record of a publication lists
abbrev pub listing_at : List Packet → Pair → Option Listed
listing_at packets pair = option_and_then listing_in (stored_at packets pair 0)

-- by publication, which parts there are, as each stored record says
abbrev pub shapes_in : List Packet → List (Pair × Shape)
shapes_in packets = kept_values (λ pair octets. option_map shape_stated (stated_in octets)) (records_in packets)

-- ---- withdrawals

-- whether there is a publication, and it is `pair`
abbrev pub is_that : Pair → Option Pair → Bool
is_that pair None = false
is_that pair (Some q) = eq_by_cmp pair_cmp pair q

-- whether a publication is withdrawn by the record of another
abbrev pub withdraws : Pair → Pair × List ℕ → Bool
withdraws pair e = is_that pair (option_and_then (withdrawn_by e.0) (stated_in e.1))

-- whether a publication is withdrawn by a stored record
abbrev pub is_withdrawn : List Packet → Pair → Bool
is_withdrawn packets pair = list_any (withdraws pair) (records_in packets)

-- whether a publication is a withdrawal, as its stored record says
abbrev pub is_withdrawal : List Packet → Pair → Bool
is_withdrawal packets pair = is_some (option_and_then (withdrawn_by pair) (stated_at packets pair))

-- ---- contents

-- the content of a publication's part
abbrev pub stored_content : List Packet → Pair → ℕ → List ℕ
stored_content packets pair x = packet_content (unwrap_or (stored_at packets pair x) [])

-- the contents of `n` parts of a publication from part `x` on, one after another
abbrev pub contents_from : List Packet → Pair → ℕ → ℕ → List ℕ
contents_from packets pair x n = flat_map (stored_content packets pair) (numbers_from x n)

-- the contents of the segments of a publication of that shape, which stand after its index packets
abbrev pub contents_joined : List Packet → Pair → Shape → List ℕ
contents_joined packets pair shape = contents_from packets pair (shape.index + 1) shape.segments

-- ---- objects that are stored whole

-- whether the first `n` parts after the record of a publication are stored
abbrev pub are_stored : List Packet → Pair → ℕ → Bool
are_stored packets pair n = list_all (λ x. is_some (stored_at packets pair x)) (numbers_from 1 n)

-- the entry of a publication whose record lists `l`
abbrev pub entry_of_listing : List Packet → Pair → Listed → Entry
entry_of_listing packets pair l = record {
  publisher = pair.0;
  seq = pair.1;
  name = l.name;
  segments = l.segments;
  octets = length (contents_joined packets pair (listed_shape l));
  digest = sha256 (contents_joined packets pair (listed_shape l));
}

-- the entry of a publication whose record lists `l`, if every part after the record is stored
abbrev pub entry_listed : List Packet → Pair → Listed → Option Entry
entry_listed packets pair l =
    if are_stored packets pair (last_part (listed_shape l)) then Some (entry_of_listing packets pair l) else None

-- the entry of an object whose record is stored, and every part after it
abbrev pub whole_at : List Packet → Pair → Option Entry
whole_at packets pair = option_and_then (entry_listed packets pair) (listing_at packets pair)

-- ---- the catalogue

-- the entry of an object that is stored whole and not withdrawn
abbrev pub entry_at : List Packet → Pair → Option Entry
entry_at packets pair = if is_withdrawn packets pair then None else whole_at packets pair

-- by publication, the entry of each object that is stored whole and not withdrawn
abbrev pub entries_in : List Packet → List (Pair × Entry)
entries_in packets =
    kept_values
    (λ pair octets. if is_withdrawn packets pair then None
    else option_and_then (entry_listed packets pair) (listing_in octets))
    (records_in packets)

-- the catalogue of these packets: the entry of each object that is stored whole and not withdrawn, in order
abbrev pub member_catalogue : List Packet → List Entry
member_catalogue packets = map (λ e. e.1) (entries_in packets)
