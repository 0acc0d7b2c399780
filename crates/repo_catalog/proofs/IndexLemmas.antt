-- What an index has after its entries change.
use Rattle.std.proofs.Common.{◌≡◌, ◌⊎◌, inl, inr, ℕ, ◌==◌, Bool, true, false, cond, not, ◌&&◌, ◌||◌, List, [], ◌∷◌}
use Rattle.std.proofs.Common.{◌++◌, Option}
use Rattle.std.proofs.Common.{Some, None, refl, sym, ap, ◌∙◌, arith}
use Rattle.std.specs.Prelude.{is_some}
use Rattle.std.specs.Ordering.{eq_by_cmp, is_eq, nat_cmp, ordering_then}
use Rattle.std.specs.declared.cmp.Ordering.{Ordering}
use Rattle.std.specs.declared.cmp.Ordering.TheVariants.{Less, Equal, Greater}
use Rattle.std.proofs.lemmas.Bool.{true≢false, and_parts, and_from, or_cases, or_left, or_right}
use Rattle.std.proofs.lemmas.Bool.Decides.{nat_tests}
use Rattle.repo_plan.specs.Parts.{Pair, pair_cmp}
use Rattle.repo_plan.proofs.Orders.{exact_pairs}
use Rattle.sorted_lists.specs.SortedList.{contains}
use Rattle.sorted_lists.proofs.Sets.{In, eq_same, eq_itself, in_append, append_left, append_right}
use Rattle.repo_catalog.specs.declared.entry.Entry.{Entry}
use Rattle.repo_catalog.specs.Entries.{publication_of, is_of, entry_of, lists, with_entry, without, without_all}
use Rattle.repo_catalog.specs.Entries.{IsCatalogue}
use Rattle.repo_catalog.specs.NameKeys.{Key, key_cmp, key_of, hash_of, has_hash, is_key, IsIndexOf}
use Rattle.repo_catalog.proofs.KeyLemmas.{exact_keys}
use Rattle.repo_catalog.proofs.LawLemmas.{adds_one, removes_one}
use Rattle.repo_catalog.proofs.ManyLemmas.{removes_all, one_more_gone, entry_is_of}

-- ---- keys are the same where hashes and publications are

eq_then : (x y : Ordering) → is_eq (ordering_then x y) ≡ (is_eq x && is_eq y)
eq_then Less y = refl
eq_then Equal y = refl
eq_then Greater y = refl

eq_number : (a b : ℕ) → is_eq (nat_cmp a b) ≡ (a == b)
eq_number a b = grind (arith, nat_tests)

eq_key : (q k : Key) → eq_by_cmp key_cmp q k ≡ ((q.0 == k.0) && eq_by_cmp pair_cmp q.1 k.1)
eq_key q k =
    eq_then (nat_cmp q.0 k.0) (pair_cmp q.1 k.1)
    ∙ ap (λ (b : Bool). b && eq_by_cmp pair_cmp q.1 k.1) (eq_number q.0 k.0)

-- ---- one more

key_added : (h : ℕ) (e : Entry) (b : Bool) (o : Option Entry) → (b ≡ true → is_some o ≡ false)
    → has_hash h (cond (b && not (is_some o)) (Some e) o) ≡ (((h == hash_of e.name) && b) || has_hash h o)
key_added h e true None n = both (h == hash_of e.name) where
  both : (c : Bool) → c ≡ ((c && true) || false)
  both true = refl
  both false = refl
key_added h e true (Some x) n = absurd (clash (n refl)) where
  clash : true ≡ false → ⊥
  clash c = absurd cc
key_added h e false o n = neither (h == hash_of e.name) where
  neither : (c : Bool) → has_hash h o ≡ ((c && false) || has_hash h o)
  neither true = refl
  neither false = refl

pub is_key-with : (e : Entry) (es : List Entry) (q : Key) → IsCatalogue es → lists (publication_of e) es ≡ false
    → (eq_by_cmp key_cmp q (key_of e) || is_key es q) ≡ is_key (with_entry e es) q
is_key-with e es q r missing =
    ap (λ (b : Bool). b || is_key es q) (eq_key q (key_of e))
    ∙ sym (ap (has_hash q.0) (adds_one e es q.1 r)
    ∙ key_added q.0 e (is_of q.1 e) (entry_of q.1 es)
    (λ t. ap (λ (p : Pair). lists p es) (eq_same exact_pairs q.1 (publication_of e) t) ∙ missing))

-- ---- one less

key_gone : (h : ℕ) (x : Entry) (b : Bool) (o : Option Entry) → (b ≡ true → o ≡ Some x)
    → has_hash h (cond b None o) ≡ (not ((h == hash_of x.name) && b) && has_hash h o)
key_gone h x true o there =
    sym (ap (λ (z : Option Entry). not ((h == hash_of x.name) && true) && has_hash h z) (there refl)
    ∙ no (h == hash_of x.name)) where
      no : (c : Bool) → (not (c && true) && c) ≡ false
      no true = refl
      no false = refl
key_gone h x false o there = kept (h == hash_of x.name) where
  kept : (c : Bool) → has_hash h o ≡ (not (c && false) && has_hash h o)
  kept true = refl
  kept false = refl

pub is_key-without : (x : Entry) (es : List Entry) (q : Key) → entry_of (publication_of x) es ≡ Some x
    → (not (eq_by_cmp key_cmp q (key_of x)) && is_key es q) ≡ is_key (without (publication_of x) es) q
is_key-without x es q there =
    ap (λ (b : Bool). not b && is_key es q) (eq_key q (key_of x))
    ∙ sym (ap (has_hash q.0) (removes_one (publication_of x) es q.1)
    ∙ key_gone q.0 x (eq_by_cmp pair_cmp q.1 (publication_of x)) (entry_of q.1 es)
    (λ t. ap (λ (p : Pair). entry_of p es) (eq_same exact_pairs q.1 (publication_of x) t) ∙ there))

-- ---- many less, one by one

-- a publication that has an entry goes too
listed_gone : (h : ℕ) (x : Entry) (c b : Bool) (o : Option Entry) → (b ≡ true → o ≡ Some x)
    → (not ((h == hash_of x.name) && b) && has_hash h (cond c None o)) ≡ has_hash h (cond (c || b) None o)
listed_gone h x true b o there = none (not ((h == hash_of x.name) && b)) where
  none : (d : Bool) → (d && false) ≡ false
  none true = refl
  none false = refl
listed_gone h x false b o there = sym (key_gone h x b o there)

pub is_key-listed : (gone : List Pair) (x : Entry) (p : Pair) (es : List Entry) (q : Key) → entry_of p es ≡ Some x
    → p ≡ publication_of x
    → (not (eq_by_cmp key_cmp q (key_of x)) && is_key (without_all gone es) q)
    ≡ is_key (without_all (gone ++ p ∷ []) es) q
is_key-listed gone x p es q there same =
    ap (λ (b : Bool). not b && is_key (without_all gone es) q)
    (eq_key q (key_of x) ∙ ap (λ (z : Pair). (q.0 == hash_of x.name) && eq_by_cmp pair_cmp q.1 z) (sym same))
    ∙ ap (λ (o : Option Entry). not ((q.0 == hash_of x.name) && eq_by_cmp pair_cmp q.1 p) && has_hash q.0 o)
    (removes_all gone es q.1)
    ∙ listed_gone q.0 x (contains pair_cmp gone q.1) (eq_by_cmp pair_cmp q.1 p) (entry_of q.1 es)
    (λ t. ap (λ (z : Pair). entry_of z es) (eq_same exact_pairs q.1 p t) ∙ there)
    ∙ sym (ap (has_hash q.0)
    (removes_all (gone ++ p ∷ []) es q.1
    ∙ ap (λ (c : Bool). cond c None (entry_of q.1 es)) (one_more_gone gone p q.1)))

-- a publication without an entry changes nothing
nothing_gone : (h : ℕ) (c b : Bool) (o : Option Entry) → (b ≡ true → o ≡ None)
    → has_hash h (cond c None o) ≡ has_hash h (cond (c || b) None o)
nothing_gone h true b o none = refl
nothing_gone h false true o none = ap (has_hash h) (none refl)
nothing_gone h false false o none = refl

pub is_key-missing : (gone : List Pair) (p : Pair) (es : List Entry) (q : Key) → entry_of p es ≡ None
    → is_key (without_all gone es) q ≡ is_key (without_all (gone ++ p ∷ []) es) q
is_key-missing gone p es q none =
    ap (has_hash q.0) (removes_all gone es q.1)
    ∙ nothing_gone q.0 (contains pair_cmp gone q.1) (eq_by_cmp pair_cmp q.1 p) (entry_of q.1 es)
    (λ t. ap (λ (z : Pair). entry_of z es) (eq_same exact_pairs q.1 p t) ∙ none)
    ∙ sym (ap (has_hash q.0)
    (removes_all (gone ++ p ∷ []) es q.1
    ∙ ap (λ (c : Bool). cond c None (entry_of q.1 es)) (one_more_gone gone p q.1)))

-- ---- what has its key, and what waits

pub same_number : (n : ℕ) → (n == n) ≡ true
same_number n = grind (arith, nat_tests)

-- the key of an entry, by its hash and its publication
pub key_is : (es : List Entry) (q : Key) (e : Entry) → entry_of q.1 es ≡ Some e → has_hash q.0 (Some e) ≡ true
    → eq_by_cmp key_cmp q (key_of e) ≡ true
key_is es q e there hash =
    eq_key q (key_of e)
    ∙ and_from (q.0 == hash_of e.name) (eq_by_cmp pair_cmp q.1 (publication_of e)) hash
    (ap (λ (p : Pair). eq_by_cmp pair_cmp p (publication_of e)) (entry_is_of q.1 es e there)
    ∙ eq_itself exact_pairs (publication_of e))

-- one that is added waits
pub index_added : (e : Entry) (es : List Entry) (ks : List Key) (ws : List Pair) → IsCatalogue es
    → lists (publication_of e) es ≡ false → IsIndexOf es ks ws
    → IsIndexOf (with_entry e es) ks (ws ++ publication_of e ∷ [])
index_added e es ks ws r missing i =
    let with : (q : Key) → (eq_by_cmp key_cmp q (key_of e) || is_key es q) ≡ is_key (with_entry e es) q =
    λ q. is_key-with e es q r missing in
    record {
      listed = λ q h. sym (with q) ∙ or_right (eq_by_cmp key_cmp q (key_of e)) (is_key es q) (i.listed q h);
      found = λ q h. elim (or_cases (eq_by_cmp key_cmp q (key_of e)) (is_key es q) (with q ∙ h)) [
        | inl new ↦
            inr (append_right ws (publication_of e ∷ []) q.1
            (inl (ap (λ (k : Key). k.1) (eq_same exact_keys q (key_of e) new))))
        | inr old ↦ elim (i.found q old) [
          | inl k ↦ inl k
          | inr w ↦ inr (append_left ws (publication_of e ∷ []) q.1 w)
        ]
      ];
    }

-- some are removed, and their keys
pub index_less : (es rest : List Entry) (ks ls : List Key) (ws : List Pair) (stays : Key → Bool)
    → ((q : Key) → (stays q && is_key es q) ≡ is_key rest q)
    → ((q : Key) → contains key_cmp ls q ≡ (stays q && contains key_cmp ks q)) → IsIndexOf es ks ws
    → IsIndexOf rest ls ws
index_less es rest ks ls ws stays less gone i = record {
  listed = λ q h.
      let both = and_parts (stays q) (contains key_cmp ks q) (sym (gone q) ∙ h) in
      sym (less q) ∙ and_from (stays q) (is_key es q) both.0 (i.listed q both.1);
  found = λ q h.
      let both = and_parts (stays q) (is_key es q) (less q ∙ h) in
      elim (i.found q both.1) [
        | inl k ↦ inl (gone q ∙ and_from (stays q) (contains key_cmp ks q) both.0 k)
        | inr w ↦ inr w
      ];
}

pub index_same : (es zs : List Entry) (ks : List Key) (ws : List Pair) → ((q : Key) → is_key es q ≡ is_key zs q)
    → IsIndexOf es ks ws → IsIndexOf zs ks ws
index_same es zs ks ws same i =
    record { listed = λ q h. sym (same q) ∙ i.listed q h; found = λ q h. i.found q (same q ∙ h) }

-- the last one that waits
last_waits : (ws : List Pair) (p q : Pair) → In q (ws ++ p ∷ []) → In q ws ⊎ (q ≡ p)
last_waits ws p q w = elim (in_append ws (p ∷ []) q w) [
  | inl earlier ↦ inl earlier
  | inr last ↦ elim (let j : (q ≡ p) ⊎ ⊥ = last in j) [ inl same ↦ inr same | inr none ↦ absurd none ]
]

-- gets its key
pub index_placed : (x : Entry) (p : Pair) (es : List Entry) (ks ls : List Key) (ws : List Pair)
    → entry_of p es ≡ Some x
    → ((q : Key) → contains key_cmp ls q ≡ (eq_by_cmp key_cmp q (key_of x) || contains key_cmp ks q))
    → IsIndexOf es ks (ws ++ p ∷ []) → IsIndexOf es ls ws
index_placed x p es ks ls ws there more i = record {
  listed = λ q h. elim (or_cases (eq_by_cmp key_cmp q (key_of x)) (contains key_cmp ks q) (sym (more q) ∙ h)) [
    | inl new ↦ ap (is_key es) (eq_same exact_keys q (key_of x) new) ∙ own
    | inr old ↦ i.listed q old
  ];
  found = λ q h. elim (i.found q h) [
    | inl k ↦ inl (more q ∙ or_right (eq_by_cmp key_cmp q (key_of x)) (contains key_cmp ks q) k)
    | inr w ↦ elim (last_waits ws p q.1 w) [
      | inl earlier ↦ inr earlier
      | inr last ↦
          let at : entry_of q.1 es ≡ Some x = ap (λ (z : Pair). entry_of z es) last ∙ there in
          inl (more q
          ∙ or_left (eq_by_cmp key_cmp q (key_of x)) (contains key_cmp ks q)
          (key_is es q x at (sym (ap (has_hash q.0) at) ∙ h)))
    ]
  ];
} where
  own : is_key es (key_of x) ≡ true
  own =
      ap (λ (z : Pair). has_hash (hash_of x.name) (entry_of z es)) (sym (entry_is_of p es x there))
      ∙ ap (has_hash (hash_of x.name)) there
      ∙ same_number (hash_of x.name)

-- or has no entry any more
pub index_passed : (p : Pair) (es : List Entry) (ks : List Key) (ws : List Pair) → entry_of p es ≡ None
    → IsIndexOf es ks (ws ++ p ∷ []) → IsIndexOf es ks ws
index_passed p es ks ws none i = record {
  listed = i.listed;
  found = λ q h. elim (i.found q h) [
    | inl k ↦ inl k
    | inr w ↦ elim (last_waits ws p q.1 w) [
      | inl earlier ↦ inr earlier
      | inr last ↦ absurd (true≢false (sym h ∙ ap (has_hash q.0) (ap (λ (z : Pair). entry_of z es) last ∙ none)))
    ]
  ];
}
