-- The pairs of a ring among the entries of a map.
use Rattle.std.proofs.Common.{◌≡◌, ℕ, zero, suc, ◌<◌, ◌≤◌, Bool, true, false, not, List, [], ◌∷◌, ◌++◌, map}
use Rattle.std.proofs.Common.{length, length-append, position, Some, None, Vec, refl, sym, ap, subst, ◌∙◌}
use Rattle.std.proofs.Common.{arith, slice_get}
use Rattle.std.specs.List.{AllByRecursion, IsDistinct, prefix_len}
use Rattle.std.specs.Str.{bytes_eq}
use Rattle.std.specs.Cmp.Lexicographic.{bytes_decides}
use Rattle.std.proofs.lemmas.Bool.{both_ways, false_from_ne_true, lt-ltb}
use Rattle.std.proofs.lemmas.List.{length-map, map-append}
use Rattle.std.proofs.lemmas.Option.{none-some, same_Some, slice_get_within}
use Rattle.indexmap.specs.IndexMap.{insert_entry}
use Rattle.indexmap.proofs.MapLemmas.{Missing-position, insert_entry-absent}
use Rattle.ndn_sign.specs.Ring.{IsRing, NamedKey, has_same_name, key_number, pair, pair_limit}

-- an entry of the map: the octets of a name, and the key
abbrev pub Entry : Type 0 → Type 0
Entry X = Vec ℕ X × List ℕ

abbrev pub pairs : {X : Type 0} → List (Entry X) → List NamedKey
pairs entries = map (λ entry. pair entry.0.items entry.1) entries

abbrev is_same_key : {X : Type 0} → Vec ℕ X → Vec ℕ X → Bool
is_same_key x y = bytes_eq x.items y.items

-- the number of a name is the index of its entry
prefixes : {X : Type 0} (name : List ℕ) (entries : List (Entry X))
    → prefix_len (λ p. not (bytes_eq name p.name)) (pairs entries)
    ≡ prefix_len (λ key. not (bytes_eq name key.items)) (map (λ entry. entry.0) entries)
prefixes name [] = refl
prefixes name (e ∷ entries) = rw (prefixes name entries) refl

pub number_of-entries : {X : Type 0} (name : List ℕ) (entries : List (Entry X))
    → key_number name (pairs entries) ≡ position (λ key. bytes_eq name key.items) (map (λ entry. entry.0) entries)
number_of-entries {X} name entries =
    let of_pairs = length-map entries (λ (entry : Entry X). pair entry.0.items entry.1) in
    let of_keys = length-map entries (λ (entry : Entry X). entry.0) in
    rw (prefixes name entries, of_pairs, of_keys) refl

-- a pair of a new name goes last
pub with_pair : {X : Type 0} (name key : List ℕ) (k : Vec ℕ X) (v : List ℕ) (entries new : List (Entry X))
    → position (λ other. bytes_eq name other.items) (map (λ entry. entry.0) entries) ≡ None
    → k.items ≡ name → v ≡ key → new ≡ insert_entry is_same_key entries k v
    → pairs new ≡ pairs entries ++ pair name key ∷ []
with_pair {X} name key k v entries new none same key_same written =
    let t = λ (other : Vec ℕ X). bytes_eq k.items other.items in
    let absent = (Missing-position t entries (rw same none)).absent in
    ap pairs (written ∙ insert_entry-absent is_same_key k v entries absent)
    ∙ map-append (λ entry. pair entry.0.items entry.1) entries ((k, v) ∷ [])
    ∙ rw (same, key_same) refl

-- ---- names differ

differ_from : {X : Type 0} (k : Vec ℕ X) (key : List ℕ) (entries : List (Entry X))
    → AllByRecursion (λ (other : Vec ℕ X). bytes_eq k.items other.items ≡ false) (map (λ entry. entry.0) entries)
    → AllByRecursion (λ p. has_same_name (pair k.items key) p ≡ false) (pairs entries)
differ_from k key [] apart = tt
differ_from k key (e ∷ entries) apart = (apart.0, differ_from k key entries apart.1)

names_differ : {X : Type 0} (entries : List (Entry X)) → IsDistinct is_same_key (map (λ entry. entry.0) entries)
    → IsDistinct has_same_name (pairs entries)
unfolding IsDistinct
names_differ [] apart = tt
names_differ (e ∷ entries) apart = (differ_from e.0 e.1 entries apart.0, names_differ entries apart.1)

is_ring : {X : Type 0} (entries : List (Entry X)) → length (pairs entries) ≤ pair_limit
    → IsDistinct is_same_key (map (λ entry. entry.0) entries) → IsRing (pairs entries)
is_ring entries few apart = record { few = few; different = names_differ entries apart }

-- one pair more
pub still_ring : {X : Type 0} (p : NamedKey) (entries new : List (Entry X)) → pairs new ≡ pairs entries ++ p ∷ []
    → length (pairs entries) < pair_limit → IsDistinct is_same_key (map (λ entry. entry.0) new) → IsRing (pairs new)
still_ring p entries new written room apart =
    is_ring new (omega (arith, ap length written, length-append (pairs entries) (p ∷ []), room)) apart

pub empty_ring : {X : Type 0} (entries : List (Entry X)) → entries ≡ [] → IsRing (pairs entries)
unfolding IsDistinct
empty_ring {X} entries none =
    let P : List (Entry X) → Type 0 = λ es. IsRing (pairs es) in
    subst P (sym none) (record { few = omega arith; different = tt })

-- ---- names tell pairs apart

other_way : (a b : List ℕ) → bytes_eq a b ≡ false → bytes_eq b a ≡ false
other_way a b apart =
    false_from_ne_true (bytes_eq b a)
    (λ same. both_ways (bytes_eq a b) apart ((bytes_decides a b).1 (sym ((bytes_decides b a).0 same))))

differs_at : (first : NamedKey) (ring : List NamedKey) (number : ℕ) (p : NamedKey)
    → AllByRecursion (λ q. has_same_name first q ≡ false) ring → slice_get ring number ≡ Some p
    → has_same_name first p ≡ false
differs_at first [] number p apart at = absurd (none-some p at)
differs_at first (q ∷ ring) zero p apart at = ap (has_same_name first) (sym (same_Some q p at)) ∙ apart.0
differs_at first (q ∷ ring) (suc number) p apart at = differs_at first ring number p apart.1 at

place : (ring : List NamedKey) (number : ℕ) (p : NamedKey) → IsDistinct has_same_name ring
    → slice_get ring number ≡ Some p
    → prefix_len (λ q. not (bytes_eq p.name q.name)) ring ≡ number
unfolding IsDistinct
place [] number p apart at = absurd (none-some p at)
place (q ∷ ring) zero p apart at =
    let same : bytes_eq p.name q.name ≡ true =
    (bytes_decides p.name q.name).1 (ap (λ (r : NamedKey). r.name) (sym (same_Some q p at))) in
    rw same refl
place (q ∷ ring) (suc number) p apart at =
    let other = other_way q.name p.name (differs_at q ring number p apart.0 at) in
    rw (other, place ring number p apart.1 at) (omega arith)

pub number-name : (ring : List NamedKey) (number : ℕ) (p : NamedKey) → IsRing ring → slice_get ring number ≡ Some p
    → key_number p.name ring ≡ Some number
number-name ring number p is at =
    rw (place ring number p is.different at, lt-ltb number (length ring) (slice_get_within ring number p at)) refl
