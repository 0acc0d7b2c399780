-- The keys under which publications are found by their objects' names.
use Rattle.std.specs.Prelude.{ℕ, ◌≡◌, ◌≢◌, ◌⊎◌, ◌==◌, ◌&&◌, Bool, true, false, List, take, Option, Some, None}
use Rattle.std.specs.Int.{w64, from_be_bytes}
use Rattle.std.specs.Ordering.{nat_cmp, ordering_then, is_le}
use Rattle.std.specs.declared.cmp.Ordering.{Ordering}
use Rattle.std.specs.declared.cmp.Ordering.TheVariants.{Less}
use Rattle.sha2.specs.Sha256.{sha256}
use Rattle.ndn_name.specs.Names.{Component, encoding}
use Rattle.repo_plan.specs.Parts.{Pair, pair_cmp}
use Rattle.sorted_lists.specs.Members.{In}
use Rattle.sorted_lists.specs.SortedList.{Rises, contains}
use Rattle.repo_catalog.specs.declared.entry.Entry.{Entry}
use Rattle.repo_catalog.specs.Entries.{publication_of, entry_of, entry_has_name}

-- The hash of a name, then the publication.
abbrev pub Key : Type 0
Key = ℕ × Pair

-- By hash, then publisher, then number.
abbrev pub key_cmp : Key → Key → Ordering
key_cmp a b = ordering_then (nat_cmp a.0 b.0) (pair_cmp a.1 b.1)

-- What an index has, which publications wait for their keys, how many more may wait, and how many more keys there is
-- room for.
pub record KeyList : Type 0 where
  pub keys : List Key
  pub waiting : List Pair
  pub spare : ℕ
  pub room : ℕ

-- The fingerprint of the SHA-256 of a name's octets: its first eight octets, as a number.
unfoldable pub hash_of : List Component → ℕ
hash_of name = from_be_bytes w64 (take 8 (sha256 (encoding name)))

-- The key of an entry.
abbrev pub key_of : Entry → Key
key_of e = (hash_of e.name, publication_of e)

-- There is an entry, and its name has this hash.
abbrev pub has_hash : ℕ → Option Entry → Bool
has_hash h None = false
has_hash h (Some e) = h == hash_of e.name

-- The key is that of an entry.
abbrev pub is_key : List Entry → Key → Bool
is_key entries q = has_hash q.0 (entry_of q.1 entries)

-- An index has keys of these entries alone, and has the key of each, unless its publication waits.
pub record IsIndexOf (entries : List Entry) (ks : List Key) (waiting : List Pair) : Type 0 where
  pub listed : (q : Key) → contains key_cmp ks q ≡ true → is_key entries q ≡ true
  pub found : (q : Key) → is_key entries q ≡ true → (contains key_cmp ks q ≡ true) ⊎ In q.1 waiting

-- The keys are in order, and those of an index of these entries.
pub record AreKeysOf (entries : List Entry) (ks : List Key) (waiting : List Pair) : Type 0 where
  pub rises : Rises key_cmp ks
  pub indexed : IsIndexOf entries ks waiting

-- There is an entry, and its object has the name.
abbrev pub is_named : List Component → Option Entry → Bool
is_named name None = false
is_named name (Some e) = entry_has_name name e

-- The publication has an entry whose object has the name.
abbrev pub has_name : List Component → List Entry → Pair → Bool
has_name name entries pair = is_named name (entry_of pair entries)

-- It has, and the publication is not before another.
abbrev pub is_sought : List Component → Pair → List Entry → Pair → Bool
is_sought name from entries pair = is_le (pair_cmp from pair) && has_name name entries pair

-- It is sought, and the index has its key.
abbrev pub IsSoughtKey : List Component → Pair → List Entry → List Key → Pair → Type 0
IsSoughtKey name from entries ks pair =
    (is_sought name from entries pair ≡ true) × (contains key_cmp ks (hash_of name, pair) ≡ true)

-- The key is there, and is the first that isn't before another.
pub record IsFirstFrom (from : Key) (ks : List Key) (first : Key) : Type 0 where
  pub there : contains key_cmp ks first ≡ true
  pub following : key_cmp first from ≢ Less
  pub least : (q : Key) → contains key_cmp ks q ≡ true → key_cmp q first ≡ Less → key_cmp q from ≡ Less
