-- What is sought by name, among entries whose keys are in an index and among those that wait.
use Rattle.std.proofs.Common.{◌≡◌, ◌⊎◌, inl, inr, ◌==◌, Bool, true, false, cond, ◌&&◌, List, [], ◌∷◌, Option}
use Rattle.std.proofs.Common.{Some, None, refl, sym, ap, subst, ◌∙◌}
use Rattle.std.specs.Prelude.{find, option_map}
use Rattle.std.specs.List.{filter}
use Rattle.std.specs.Ordering.{is_le}
use Rattle.std.proofs.lemmas.Bool.{true≢false, and_parts, and_from}
use Rattle.ndn_name.specs.Names.{Component}
use Rattle.repo_plan.specs.Parts.{Pair, pair_cmp}
use Rattle.repo_plan.proofs.Orders.{exact_pairs}
use Rattle.sorted_lists.specs.SortedList.{contains}
use Rattle.sorted_lists.specs.Least.{Passes, IsFirstBy, IsFirstThat, lesser_by}
use Rattle.sorted_lists.proofs.Sets.{In, eq_same, in_filter}
use Rattle.sorted_lists.proofs.Members.{in_filtered}
use Rattle.sorted_lists.proofs.LeastOnes.{le_both, first_same, lesser_first}
use Rattle.repo_catalog.specs.declared.entry.Entry.{Entry}
use Rattle.repo_catalog.specs.Entries.{publication_of, entry_of, entry_has_name, first_named, IsCatalogue}
use Rattle.repo_catalog.specs.NameKeys.{Key, key_cmp, key_of, hash_of, has_hash, is_key, IsIndexOf}
use Rattle.repo_catalog.specs.NameKeys.{is_named, has_name, is_sought, IsSoughtKey}
use Rattle.repo_catalog.proofs.IndexLemmas.{key_is, same_number}
use Rattle.repo_catalog.proofs.KeyLemmas.{exact_keys}
use Rattle.repo_catalog.proofs.LawLemmas.{named}
use Rattle.repo_catalog.proofs.ManyLemmas.{found_in, entry_is_of}
use Rattle.repo_catalog.proofs.MergeLemmas.{IsAhead}
use Rattle.repo_catalog.proofs.NamedLemmas.{is_named_from, from_start, find_all_from, listed_in, before_in}
use Rattle.repo_catalog.proofs.NamedLemmas.{none_passes, found_passes}

-- tests that hold together are the same
pub same_truth : (a b : Bool) → (a ≡ true → b ≡ true) → (b ≡ true → a ≡ true) → a ≡ b
same_truth true b f g = sym (f refl)
same_truth false true f g = g refl
same_truth false false f g = refl

-- from the start on, those that have the name are sought
pub sought_from_start : (name : List Component) (es : List Entry) (p : Pair)
    → is_sought name (0, 0) es p ≡ has_name name es p
sought_from_start name es p = ap (λ (b : Bool). b && has_name name es p) (from_start p)

-- ---- some of the entries

ahead_of_some : (test : Entry → Bool) (x : Entry) (es : List Entry) → IsAhead x es → IsAhead x (filter test es)
ahead_of_some test x [] a = a
ahead_of_some test x (y ∷ ys) a = go (ahead_of_some test x ys a.1) (test y) where
  go : IsAhead x (filter test ys) → (b : Bool) → IsAhead x (cond b (y ∷ filter test ys) (filter test ys))
  go rest true = (a.0, rest)
  go rest false = rest

pub some_rise : (test : Entry → Bool) (es : List Entry) → IsCatalogue es → IsCatalogue (filter test es)
some_rise test [] r = r
some_rise test (y ∷ ys) r = go (some_rise test ys r.1) (test y) where
  go : IsCatalogue (filter test ys) → (b : Bool) → IsCatalogue (cond b (y ∷ filter test ys) (filter test ys))
  go rest true = (ahead_of_some test y ys r.0, rest)
  go rest false = rest

-- ---- the first entry that passes a test

find_least : (test : Entry → Bool) (es : List Entry) (x e : Entry) → IsCatalogue es → find test es ≡ Some x → In e es
    → test e ≡ true → is_le (pair_cmp (publication_of x) (publication_of e)) ≡ true
find_least test [] x e r h i t = absurd i
find_least test (y ∷ ys) x e r h i t = go (λ g j. find_least test ys x e r.1 g j t) (test y) refl h i where
  go : (find test ys ≡ Some x → In e ys → is_le (pair_cmp (publication_of x) (publication_of e)) ≡ true) → (b : Bool)
      → test y ≡ b → cond b (Some y) (find test ys) ≡ Some x → In e (y ∷ ys)
      → is_le (pair_cmp (publication_of x) (publication_of e)) ≡ true
  go f true s g (inl same) =
      let one : y ≡ x = cc in
      ap is_le
      (ap (λ (z : Entry). pair_cmp (publication_of x) (publication_of z)) (same ∙ one)
      ∙ exact_pairs.itself (publication_of x))
  go f true s g (inr j) =
      let one : y ≡ x = cc in
      subst (λ (z : Entry). is_le (pair_cmp (publication_of z) (publication_of e)) ≡ true) one
      (ap is_le (before_in y ys e r.0 j))
  go f false s g (inl same) = absurd (true≢false (sym t ∙ ap test same ∙ s))
  go f false s g (inr j) = f g j

-- there is one first
pub one_first : (P : Pair → Type 0) (a b : Option Pair) → IsFirstBy pair_cmp (λ p. p) P a
    → IsFirstBy pair_cmp (λ p. p) P b → a ≡ b
one_first P None None f g = refl
one_first P None (Some b) f g = absurd (f b g.there)
one_first P (Some a) None f g = absurd (g a f.there)
one_first P (Some a) (Some b) f g =
    ap (λ (p : Pair). Some p) (le_both exact_pairs a b (f.least b g.there) (g.least a f.there))

module _ (name : List Component) (from : Pair) (es : List Entry) (r : IsCatalogue es) where
  -- the entry of a publication that is sought
  pub record IsSoughtEntry (p : Pair) (e : Entry) : Type 0 where
    pub there : entry_of p es ≡ Some e
    pub passes : is_named_from name from e ≡ true

  pub sought_entry : (p : Pair) → is_sought name from es p ≡ true → (e : Entry) × IsSoughtEntry p e
  sought_entry p s = go (entry_of p es) refl (and_parts (is_le (pair_cmp from p)) _ s) where
    go : (o : Option Entry) → entry_of p es ≡ o → (is_le (pair_cmp from p) ≡ true) × (is_named name o ≡ true)
        → (e : Entry) × IsSoughtEntry p e
    go None h both = absurd (true≢false (sym both.1))
    go (Some e) h both = (
      e,
      record {
        there = h;
        passes =
            and_from (is_le (pair_cmp from (publication_of e))) (entry_has_name name e)
            (subst (λ (q : Pair). is_le (pair_cmp from q) ≡ true) (entry_is_of p es e h) both.0) both.1;
      },
    )

  pub entry_sought : (e : Entry) → In e es → is_named_from name from e ≡ true
      → is_sought name from es (publication_of e) ≡ true
  entry_sought e i t =
      ap (λ (o : Option Entry). is_le (pair_cmp from (publication_of e)) && is_named name o) (listed_in es e r i) ∙ t

  abbrev pub IsFirstSought : Option Pair → Type 0
  IsFirstSought o = IsFirstBy pair_cmp (λ p. p) (λ p. is_sought name from es p ≡ true) o

  pub find_sought : (o : Option Entry) → find (is_named_from name from) es ≡ o
      → IsFirstSought (option_map publication_of o)
  find_sought None h = λ p s.
      let e = sought_entry p s in
      subst (In e.0) (none_passes (is_named_from name from) es h)
      (in_filter (is_named_from name from) es e.0 (found_in p e.0 es e.1.there).0 e.1.passes)
  find_sought (Some x) h =
      let one = found_passes (is_named_from name from) es x h in
      record {
        there = entry_sought x one.0 one.1;
        least = λ p s.
            let e = sought_entry p s in
            subst (λ (q : Pair). is_le (pair_cmp (publication_of x) q) ≡ true)
            (sym (entry_is_of p es e.0 e.1.there))
            (find_least (is_named_from name from) es x e.0 r h (found_in p e.0 es e.1.there).0 e.1.passes);
      }

  sought_found : (o : Option Pair) → IsFirstSought o
      → o ≡ option_map publication_of (find (is_named_from name from) es)
  sought_found o f =
      one_first (λ p. is_sought name from es p ≡ true) o
      (option_map publication_of (find (is_named_from name from) es)) f
      (find_sought (find (is_named_from name from) es) refl)

  -- ---- where an entry's key is in the index, or waits for that

  pub sought_key : (p : Pair) (e : Entry) → IsSoughtEntry p e → key_of e ≡ (hash_of name, p)
  sought_key p e s =
      let same = named name e (and_parts (is_le (pair_cmp from (publication_of e))) _ s.passes).1 in
      let of = entry_is_of p es e s.there in
      λ j. (hash_of (same j), sym of j)

  module _ (ks : List Key) (ws : List Pair) (i : IsIndexOf es ks ws) where
    pub back : (p : Pair) → is_sought name from es p ≡ true
        → IsSoughtKey name from es ks p ⊎ Passes ws (is_sought name from es) p
    back p s =
        let e = sought_entry p s in
        let key : is_key es (hash_of name, p) ≡ true =
        ap (has_hash (hash_of name)) e.1.there
        ∙ subst (λ (k : Key). (k.0 == hash_of e.0.name) ≡ true) (sought_key p e.0 e.1)
        (same_number (hash_of e.0.name)) in
        elim (i.found (hash_of name, p) key) [ inl k ↦ inl (s, k) | inr w ↦ inr (w, s) ]

module _ (name : List Component) (es : List Entry) (r : IsCatalogue es) (ks : List Key) (ws : List Pair)
    (i : IsIndexOf es ks ws) where
  -- the first of those in the index, or of those that wait
  pub first_of_all : (a b : Option Pair) → IsFirstBy pair_cmp (λ p. p) (IsSoughtKey name (0, 0) es ks) a
      → IsFirstThat pair_cmp (λ p. p) ws (has_name name es) b
      → lesser_by pair_cmp (λ p. p) a b ≡ option_map publication_of (first_named name es)
  first_of_all a b f g =
      sought_found name (0, 0) es r (lesser_by pair_cmp (λ p. p) a b)
      (first_same exact_pairs (λ p. p) (λ p. IsSoughtKey name (0, 0) es ks p ⊎ Passes ws (has_name name es) p)
      (λ p. is_sought name (0, 0) es p ≡ true)
      (λ p c. elim c [ inl k ↦ k.0 | inr w ↦ sought_from_start name es p ∙ w.1 ])
      (λ p s. elim (back name (0, 0) es r ks ws i p s) [
        | inl k ↦ inl k
        | inr w ↦ inr (w.0, sym (sought_from_start name es p) ∙ w.1)
      ]) (lesser_by pair_cmp (λ p. p) a b)
      (lesser_first exact_pairs (λ p. p) (IsSoughtKey name (0, 0) es ks) (Passes ws (has_name name es)) a b f g))
      ∙ ap (option_map publication_of) (find_all_from name es)

-- ---- the entries whose keys are in the index

abbrev pub indexed_of : List Key → List Entry → List Entry
indexed_of ks es = filter (λ e. contains key_cmp ks (key_of e)) es

module _ (ks : List Key) (es : List Entry) (r : IsCatalogue es) where
  abbrev indexed : List Entry
  indexed = indexed_of ks es

  pub indexed_rise : IsCatalogue indexed
  indexed_rise = some_rise (λ e. contains key_cmp ks (key_of e)) es r

  pub kept : (p : Pair) (e : Entry) → entry_of p es ≡ Some e → contains key_cmp ks (key_of e) ≡ true
      → entry_of p indexed ≡ Some e
  kept p e there k =
      ap (λ (q : Pair). entry_of q indexed) (entry_is_of p es e there)
      ∙ listed_in indexed e indexed_rise
      (in_filter (λ x. contains key_cmp ks (key_of x)) es e (found_in p e es there).0 k)

  kept_back : (p : Pair) (e : Entry) → entry_of p indexed ≡ Some e
      → (entry_of p es ≡ Some e) × (contains key_cmp ks (key_of e) ≡ true)
  kept_back p e there =
      let i = in_filtered (λ x. contains key_cmp ks (key_of x)) es e (found_in p e indexed there).0 in
      (ap (λ (q : Pair). entry_of q es) (entry_is_of p indexed e there) ∙ listed_in es e r i.0, i.1)

  -- an entry of a key in the index
  pub keyed : (q : Key) (e : Entry) → entry_of q.1 es ≡ Some e → has_hash q.0 (Some e) ≡ true
      → contains key_cmp ks q ≡ true → entry_of q.1 indexed ≡ Some e
  keyed q e there hash k =
      kept q.1 e there
      (subst (λ (z : Key). contains key_cmp ks z ≡ true) (eq_same exact_keys q (key_of e) (key_is es q e there hash)) k)

  module _ (ws : List Pair) (i : IsIndexOf es ks ws) where
    pub has_keys : (q : Key) → contains key_cmp ks q ≡ is_key indexed q
    has_keys q = same_truth (contains key_cmp ks q) (is_key indexed q) there back where
      there : contains key_cmp ks q ≡ true → is_key indexed q ≡ true
      there k = go (entry_of q.1 es) refl (i.listed q k) where
        go : (o : Option Entry) → entry_of q.1 es ≡ o → has_hash q.0 o ≡ true → is_key indexed q ≡ true
        go None e h = absurd (true≢false (sym h))
        go (Some x) e h = ap (has_hash q.0) (keyed q x e h k) ∙ h

      back : is_key indexed q ≡ true → contains key_cmp ks q ≡ true
      back h = go (entry_of q.1 indexed) refl h where
        go : (o : Option Entry) → entry_of q.1 indexed ≡ o → has_hash q.0 o ≡ true → contains key_cmp ks q ≡ true
        go None e g = absurd (true≢false (sym g))
        go (Some x) e g =
            ap (contains key_cmp ks) (eq_same exact_keys q (key_of x) (key_is indexed q x e g))
            ∙ (kept_back q.1 x e).1

  module _ (name : List Component) (from : Pair) where
    -- what is found among these is the least of what is sought whose key is in the index
    pub indexed_first : (o : Option Entry) → find (is_named_from name from) indexed ≡ o
        → IsFirstBy pair_cmp (λ p. p) (IsSoughtKey name from es ks) (option_map publication_of o)
    indexed_first o h =
        first_same exact_pairs (λ p. p) (λ p. is_sought name from indexed p ≡ true) (IsSoughtKey name from es ks)
        (λ p s.
        let e = sought_entry name from indexed indexed_rise p s in
        let b = kept_back p e.0 e.1.there in (
          ap (λ (z : Option Entry). is_le (pair_cmp from p) && is_named name z) (b.0 ∙ sym e.1.there) ∙ s,
          ap (contains key_cmp ks) (sym (sought_key name from indexed indexed_rise p e.0 e.1)) ∙ b.1,
        ))
        (λ p k.
        let e = sought_entry name from es r p k.0 in
        ap (λ (z : Option Entry). is_le (pair_cmp from p) && is_named name z)
        (kept p e.0 e.1.there (ap (contains key_cmp ks) (sought_key name from es r p e.0 e.1) ∙ k.1)
        ∙ sym e.1.there)
        ∙ k.0)
        (option_map publication_of o) (find_sought name from indexed indexed_rise o h)
