-- The packets of what is held, and what changes of it make of them.
use Rattle.std.proofs.Common.{◌≡◌, ℕ, ◌+◌, Bool, true, false, cond, not, List, [], ◌∷◌, length, Option, refl, sym, ap}
use Rattle.std.proofs.Common.{subst, ◌∙◌}
use Rattle.std.specs.Prelude.{IsOk, unwrap_or, ◌&&◌, ◌||◌}
use Rattle.std.specs.List.{filter}
use Rattle.std.proofs.Math.Bool.{or-false}
use Rattle.std.proofs.lemmas.List.Elements.{filter_agree}
use Rattle.std.proofs.lemmas.List.Filters.{length-filter_both}
use Rattle.ndn_data.specs.Data.{data_of}
use Rattle.sorted_lists.specs.SortedList.{keys, Rises, contains, with_value}
use Rattle.sorted_lists.specs.Members.{In}
use Rattle.sorted_lists.proofs.Sets.{from_map}
use Rattle.sorted_lists.proofs.Members.{all_in, map_same, filter-filter}
use Rattle.sorted_lists.proofs.Lookups.{keys-revalued}
use Rattle.repo_plan.specs.declared.part.Part.{Part}
use Rattle.repo_plan.specs.Parts.{Pair, part_cmp}
use Rattle.repo_plan.specs.Plan.{is_in}
use Rattle.repo_store.specs.StoreList.{packets_in, packets_outside, is_in_any, packets_in_any, packets_outside_all}
use Rattle.repo_store.specs.StoreList.{with_packet, StoreIsSound}
use Rattle.repo_store.specs.PacketTable.{Slots, at, octets_at, Stored, entries_of, PacketTableState}
use Rattle.repo_store.specs.Slots.{HeldIsSound}

abbrev Packets : Type 0
Packets = List (Part × List ℕ)

-- ---- what is held, with its packets

-- slots that keep their packets
pub entries_same : (old new : Slots) (held : List Stored) → ((h : Stored) → In h held → at new h.1 ≡ at old h.1)
    → entries_of new held ≡ entries_of old held
entries_same old new held same =
    map_same (λ (h : Stored). (h.0, octets_at new h.1)) (λ (h : Stored). (h.0, octets_at old h.1)) held
    (λ h i. ap (λ (o : Option (List ℕ)). (h.0, unwrap_or o [])) (same h i))

-- ---- a packet more

-- of a part that is there nothing is put
pub put_there : (part : Part) (octets : List ℕ) (packets : Packets) → contains part_cmp (keys packets) part ≡ true
    → packets ≡ with_packet part octets packets
put_there part octets packets there =
    sym (ap (λ (b : Bool). cond b packets (with_value part_cmp part octets packets)) there)

pub put_fresh : (part : Part) (octets : List ℕ) (packets : Packets) → contains part_cmp (keys packets) part ≡ false
    → with_value part_cmp part octets packets ≡ with_packet part octets packets
put_fresh part octets packets fresh =
    sym (ap (λ (b : Bool). cond b packets (with_value part_cmp part octets packets)) fresh)

-- ---- what every store keeps

pub sound_of : (k : PacketTableState) → HeldIsSound k → StoreIsSound (entries_of k.slots k.held)
sound_of k sound = record {
  in_order = subst (Rises part_cmp) (sym (keys-revalued part_cmp (octets_at k.slots) k.held)) sound.rises;
  are_data = all_in (λ e. IsOk (data_of e.1)) (entries_of k.slots k.held) (λ e i.
      let h = from_map (λ (o : Stored). (o.0, octets_at k.slots o.1)) k.held e i in
      let packet = sound.packets h.0 h.1 in
      subst (λ (x : Part × List ℕ). IsOk (data_of x.1)) (sym h.2) (subst IsOk (sym packet.read) refl));
}

-- ---- the packets of publications

pub lengths_inside : (pair : Pair) (packets : Packets)
    → length (packets_in pair packets) + length (packets_outside pair packets) ≡ length packets
lengths_inside pair packets = length-filter_both (λ e. is_in pair e.0) (λ e. not (is_in pair e.0)) (λ e. refl) packets

pub lengths_in_any : (pairs : List Pair) (packets : Packets)
    → length (packets_in_any pairs packets) + length (packets_outside_all pairs packets) ≡ length packets
lengths_in_any pairs packets =
    length-filter_both (λ e. is_in_any pairs e.0) (λ e. not (is_in_any pairs e.0)) (λ e. refl) packets

-- one publication is as a list of it alone
pub in_any_one : (pair : Pair) (packets : Packets) → packets_in_any (pair ∷ []) packets ≡ packets_in pair packets
in_any_one pair packets =
    filter_agree (λ e. is_in_any (pair ∷ []) e.0) (λ e. is_in pair e.0) (λ e. or-false (is_in pair e.0)) packets

pub outside_all_one : (pair : Pair) (packets : Packets)
    → packets_outside_all (pair ∷ []) packets ≡ packets_outside pair packets
outside_all_one pair packets =
    filter_agree (λ e. not (is_in_any (pair ∷ []) e.0)) (λ e. not (is_in pair e.0))
    (λ e. ap not (or-false (is_in pair e.0))) packets

-- what is outside of all is outside of the first, and then of the others
pub outside_more : {V : Type 0} (pair : Pair) (pairs : List Pair) (es : List (Part × V))
    → filter (λ e. not (is_in_any (pair ∷ pairs) e.0)) es
    ≡ filter (λ e. not (is_in_any pairs e.0)) (filter (λ e. not (is_in pair e.0)) es)
outside_more {V} pair pairs es =
    filter_agree (λ (e : Part × V). not (is_in_any (pair ∷ pairs) e.0))
    (λ (e : Part × V). not (is_in pair e.0) && not (is_in_any pairs e.0))
    (λ e. neither (is_in pair e.0) (is_in_any pairs e.0)) es
    ∙ sym (filter-filter (λ (e : Part × V). not (is_in_any pairs e.0)) (λ (e : Part × V). not (is_in pair e.0)) es)
  where
    neither : (a b : Bool) → not (a || b) ≡ (not a && not b)
    neither true b = refl
    neither false b = refl
