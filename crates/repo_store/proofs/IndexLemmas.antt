-- The orders of names and parts, and what a search of an index finds.
use Rattle.std.proofs.Common.{◌≡◌, ℕ, true, List, ◌++◌, drop, take, ap, sym, ◌∙◌, arith}
use Rattle.std.specs.Ordering.{nat_cmp, is_le}
use Rattle.std.specs.Cmp.{IsTotalOrder}
use Rattle.std.specs.Cmp.Lexicographic.{slice_cmp}
use Rattle.std.specs.declared.cmp.Ordering.TheVariants.{Less, Equal}
use Rattle.std.proofs.lemmas.Cmp.{nat_list_cmp_total, on_total, then_total, tied_itself}
use Rattle.std.proofs.lemmas.List.{take-append-drop}
use Rattle.std.proofs.lemmas.Map.Lookups.{exact_bytes}
use Rattle.sorted_lists.specs.Members.{In}
use Rattle.sorted_lists.proofs.Orders.{Exact, then_equal}
use Rattle.sorted_lists.proofs.TwoOrders.{first_le, second_le, then_le, first_before, nat_le}
use Rattle.sorted_lists.proofs.RunOrder.{Le, lt_not_le}
use Rattle.sorted_lists.proofs.Climbs.{climbs_parts}
use Rattle.repo_plan.specs.declared.part.Part.{Part}
use Rattle.repo_plan.specs.Parts.{part_cmp}
use Rattle.repo_plan.proofs.Orders.{exact_parts}
use Rattle.repo_store.specs.PacketTable.{Slots, Stored}
use Rattle.repo_store.specs.Indexes.{name_at, Key, key_cmp, key_in, AreInOrder, IsPlace, first_part}

-- ---- orders

pub exact_octets : Exact (slice_cmp nat_cmp)
exact_octets = record { total = nat_list_cmp_total; same = exact_bytes; itself = tied_itself nat_list_cmp_total }

keys_total : IsTotalOrder key_cmp
keys_total =
    then_total (on_total (λ (k : Key). k.0) exact_octets.total) (on_total (λ (k : Key). k.1) exact_parts.total)

pub exact_keys : Exact key_cmp
exact_keys = record {
  total = keys_total;
  same = λ a b e.
      let both : (slice_cmp nat_cmp a.0 b.0 ≡ Equal) × (part_cmp a.1 b.1 ≡ Equal) = then_equal _ _ e in
      let p : a.0 ≡ b.0 = exact_octets.same a.0 b.0 both.0 in
      let q : a.1 ≡ b.1 = exact_parts.same a.1 b.1 both.1 in
      λ i. (p i, q i);
  itself = tied_itself keys_total;
}

-- names in order
abbrev pub NameLe : List ℕ → List ℕ → Type 0
NameLe a b = Le exact_octets a b

-- parts in order
abbrev pub PartLe : Part → Part → Type 0
PartLe a b = Le exact_parts a b

-- ---- the first part

pub first_part_least : (t : Part) → PartLe first_part t
first_part_least t =
    then_le (nat_cmp 0 t.publisher) _ (nat_le 0 t.publisher (omega arith))
    (then_le (nat_cmp 0 t.seq) (nat_cmp 0 t.part) (nat_le 0 t.seq (omega arith)) (nat_le 0 t.part (omega arith)))

-- ---- from a name on

-- of keys in order the names are; and of one name the parts are
pub names_le : (a b : Key) → is_le (key_cmp a b) ≡ true → NameLe a.0 b.0
names_le a b h = first_le (slice_cmp nat_cmp a.0 b.0) (part_cmp a.1 b.1) h

pub parts_le : (a b : Key) → a.0 ≡ b.0 → is_le (key_cmp a b) ≡ true → PartLe a.1 b.1
parts_le a b same h =
    second_le (slice_cmp nat_cmp a.0 b.0) (part_cmp a.1 b.1)
    (ap (slice_cmp nat_cmp a.0) (sym same) ∙ exact_octets.itself a.0) h

-- what is held from a name on: what stands in front has lesser names.
pub record IsFrom (slots : Slots) (held : List Stored) (name : List ℕ) (rest : List Stored) : Type 0 where
  pub prefix : List Stored
  pub whole : prefix ++ rest ≡ held
  pub in_order : AreInOrder slots rest
  pub before : (h : Stored) → In h prefix → slice_cmp nat_cmp (name_at slots h) name ≡ Less
  pub after : (h : Stored) → In h rest → is_le (slice_cmp nat_cmp name (name_at slots h)) ≡ true

pub from_place : (slots : Slots) (held : List Stored) (name : List ℕ) (place : ℕ) → AreInOrder slots held
    → IsPlace slots held (name, first_part) place → IsFrom slots held name (drop place held)
from_place slots held name place climbs at = record {
  prefix = take place held;
  whole = take-append-drop place held;
  in_order = (climbs_parts exact_keys (key_in slots) place held climbs).1;
  before =
      λ h i. first_before (slice_cmp nat_cmp (name_at slots h) name) (part_cmp h.0 first_part) (at.before h i)
      (λ less. lt_not_le exact_parts h.0 first_part less (first_part_least h.0));
  after = λ h i. names_le (name, first_part) (key_in slots h) (at.after h i);
}
