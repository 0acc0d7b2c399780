-- The entries of a name, from one publication on.
use Rattle.std.proofs.Common.{◌≡◌, ◌≢◌, inl, inr, ℕ, ◌+◌, ◌<◌, ◌≤◌, Bool, true, false, cond, ◌&&◌, List, [], ◌∷◌}
use Rattle.std.proofs.Common.{◌==◌, map, Option, Some, None, refl, sym, ap, subst, ◌∙◌, length, arith}
use Rattle.std.specs.Prelude.{find, option_map}
use Rattle.std.specs.List.{filter}
use Rattle.std.specs.Ordering.{nat_cmp, ordering_then, is_eq, is_le, is_lt}
use Rattle.std.specs.declared.cmp.Ordering.{Ordering}
use Rattle.std.specs.declared.cmp.Ordering.TheVariants.{Less, Equal, Greater}
use Rattle.std.proofs.lemmas.Bool.{true≢false, and_parts}
use Rattle.std.proofs.lemmas.Bool.Decides.{nat_tests}
use Rattle.std.proofs.lemmas.Cmp.{nat_cmp_total}
use Rattle.ndn_name.specs.Names.{Component}
use Rattle.repo_plan.specs.Parts.{Pair, pair_cmp}
use Rattle.repo_plan.proofs.Orders.{exact_pairs}
use Rattle.sorted_lists.proofs.Orders.{less_back, equal_back, greater_back, nat_same, nat_itself, then_second}
use Rattle.sorted_lists.proofs.Orders.{first_less}
use Rattle.sorted_lists.proofs.Sets.{In, eq_itself}
use Rattle.sorted_lists.proofs.TwoOrders.{nat_le}
use Rattle.repo_catalog.specs.declared.entry.Entry.{Entry}
use Rattle.repo_catalog.specs.Entries.{publication_of, is_of, entry_of, entry_has_name, IsCatalogue}
use Rattle.repo_catalog.specs.NameKeys.{Key, key_cmp, key_of, hash_of, has_hash, is_key, IsFirstFrom}
use Rattle.sorted_lists.specs.SortedList.{contains}
use Rattle.repo_catalog.proofs.LawLemmas.{named}
use Rattle.repo_catalog.proofs.ManyLemmas.{entry_is_of}
use Rattle.repo_catalog.proofs.MergeLemmas.{IsAhead}

-- the entry is not of a publication before this one, and its object has the name
abbrev pub is_named_from : List Component → Pair → Entry → Bool
is_named_from name from e = is_le (pair_cmp from (publication_of e)) && entry_has_name name e

-- ---- order

-- the pair after an entry's
abbrev pub after : Entry → Pair
after e = (e.publisher, e.seq + 1)

abbrev pub is_from : Pair → Entry → Bool
is_from from e = is_le (pair_cmp from (publication_of e))

next_number : (m n : ℕ) → is_le (nat_cmp (m + 1) n) ≡ is_lt (nat_cmp m n)
next_number m n = grind (arith, nat_tests)

next_pair : (o : Ordering) (m n : ℕ)
    → is_le (ordering_then o (nat_cmp (m + 1) n)) ≡ is_lt (ordering_then o (nat_cmp m n))
next_pair Less m n = refl
next_pair Equal m n = next_number m n
next_pair Greater m n = refl

following : (e : Entry) (q : Pair) → is_le (pair_cmp (after e) q) ≡ is_lt (pair_cmp (publication_of e) q)
following e q = next_pair (nat_cmp e.publisher q.0) e.seq q.1

zero_pair : (o : Ordering) (n : ℕ) → is_le o ≡ true → is_le (ordering_then o (nat_cmp 0 n)) ≡ true
zero_pair Less n h = refl
zero_pair Equal n h = nat_le 0 n (omega arith)
zero_pair Greater n h = h

pub from_start : (q : Pair) → is_le (pair_cmp (0, 0) q) ≡ true
from_start q = zero_pair (nat_cmp 0 q.0) q.1 (nat_le 0 q.0 (omega arith))

le_less : (a b c : Pair) → is_le (pair_cmp a b) ≡ true → pair_cmp b c ≡ Less → is_le (pair_cmp a c) ≡ true
le_less a b c h l = go (pair_cmp a b) refl where
  go : (o : Ordering) → pair_cmp a b ≡ o → is_le (pair_cmp a c) ≡ true
  go Less e = ap is_le (exact_pairs.total.trans a b c e l)
  go Equal e = ap is_le (exact_pairs.total.congr a b c e ∙ l)
  go Greater e = absurd (true≢false (sym h ∙ ap is_le e))

pub not_less_le : (a b : Pair) → pair_cmp a b ≢ Less → is_le (pair_cmp b a) ≡ true
not_less_le a b n = go (pair_cmp a b) refl where
  go : (o : Ordering) → pair_cmp a b ≡ o → is_le (pair_cmp b a) ≡ true
  go Less e = absurd (n e)
  go Equal e = ap is_le (equal_back exact_pairs.total a b e)
  go Greater e = ap is_le (greater_back exact_pairs.total a b e)

less_not_le : (a b : Pair) → pair_cmp a b ≡ Less → is_le (pair_cmp b a) ≡ false
less_not_le a b l = ap is_le (less_back exact_pairs.total a b l)

pub before_in : (x : Entry) (es : List Entry) (e : Entry) → IsAhead x es → In e es
    → pair_cmp (publication_of x) (publication_of e) ≡ Less
before_in x [] e b i = absurd i
before_in x (y ∷ ys) e b (inl same) = ap (λ (z : Entry). pair_cmp (publication_of x) (publication_of z)) same ∙ b.0
before_in x (y ∷ ys) e b (inr i) = before_in x ys e b.1 i

-- ---- tests over entries in order

module _ (p q : Entry → Bool) where
  pub find_agrees : (es : List Entry) → ((e : Entry) → In e es → p e ≡ q e) → find p es ≡ find q es
  find_agrees [] h = refl
  find_agrees (x ∷ xs) h =
      ap (λ (b : Bool). cond b (Some x) (find p xs)) (h x (inl refl))
      ∙ ap (λ (o : Option Entry). cond (q x) (Some x) o) (find_agrees xs (λ e i. h e (inr i)))

  pub filter_agrees : (es : List Entry) → ((e : Entry) → In e es → p e ≡ q e) → filter p es ≡ filter q es
  filter_agrees [] h = refl
  filter_agrees (x ∷ xs) h =
      ap (λ (b : Bool). cond b (x ∷ filter p xs) (filter p xs)) (h x (inl refl))
      ∙ ap (λ (rest : List Entry). cond (q x) (x ∷ rest) rest) (filter_agrees xs (λ e i. h e (inr i)))

  fewer_or_same : (es : List Entry) → ((e : Entry) → q e ≡ true → p e ≡ true)
      → length (filter q es) ≤ length (filter p es)
  fewer_or_same [] h = omega arith
  fewer_or_same (x ∷ xs) h = go (fewer_or_same xs h) (q x) refl (p x) refl where
    go : length (filter q xs) ≤ length (filter p xs) → (b : Bool) → q x ≡ b → (c : Bool) → p x ≡ c
        → length (cond b (x ∷ filter q xs) (filter q xs)) ≤ length (cond c (x ∷ filter p xs) (filter p xs))
    go l true e true f = omega arith
    go l true e false f = absurd (true≢false (sym (h x e) ∙ f))
    go l false e true f = omega arith
    go l false e false f = l

  -- a test that fewer pass
  pub fewer : (es : List Entry) (x : Entry) → ((e : Entry) → q e ≡ true → p e ≡ true) → In x es → p x ≡ true
      → q x ≡ false → length (filter q es) < length (filter p es)
  fewer [] x h i s t = absurd i
  fewer (y ∷ ys) x h (inl same) s t =
      go (fewer_or_same ys h) (q y) (subst (λ (z : Entry). q z ≡ false) same t) (p y)
      (subst (λ (z : Entry). p z ≡ true) same s) where
        go : length (filter q ys) ≤ length (filter p ys) → (b : Bool) → b ≡ false → (c : Bool) → c ≡ true
            → length (cond b (y ∷ filter q ys) (filter q ys)) < length (cond c (y ∷ filter p ys) (filter p ys))
        go l false e true f = omega arith
        go l true e c f = absurd (true≢false e)
        go l false e false f = absurd (true≢false (sym f))
  fewer (y ∷ ys) x h (inr i) s t = go (fewer ys x h i s t) (q y) refl (p y) refl where
    go : length (filter q ys) < length (filter p ys) → (b : Bool) → q y ≡ b → (c : Bool) → p y ≡ c
        → length (cond b (y ∷ filter q ys) (filter q ys)) < length (cond c (y ∷ filter p ys) (filter p ys))
    go l true e true f = omega arith
    go l true e false f = absurd (true≢false (sym (h y e) ∙ f))
    go l false e true f = omega arith
    go l false e false f = l

module _ (p : Entry → Bool) where
  pub find_fails : (es : List Entry) → ((e : Entry) → In e es → p e ≡ false) → find p es ≡ None
  find_fails [] h = refl
  find_fails (x ∷ xs) h =
      ap (λ (b : Bool). cond b (Some x) (find p xs)) (h x (inl refl)) ∙ find_fails xs (λ e i. h e (inr i))

  pub none_passes : (es : List Entry) → find p es ≡ None → filter p es ≡ []
  none_passes [] h = refl
  none_passes (x ∷ xs) h = go (none_passes xs) (p x) h where
    go : (find p xs ≡ None → filter p xs ≡ []) → (b : Bool) → cond b (Some x) (find p xs) ≡ None
        → cond b (x ∷ filter p xs) (filter p xs) ≡ []
    go r true g = absurd cc
    go r false g = r g

  pub find_first : (es : List Entry) (e : Entry) → IsCatalogue es → In e es → p e ≡ true
      → ((f : Entry) → In f es → pair_cmp (publication_of f) (publication_of e) ≡ Less → p f ≡ false)
      → find p es ≡ Some e
  find_first [] e r i t h = absurd i
  find_first (x ∷ xs) e r (inl same) t h =
      ap (λ (b : Bool). cond b (Some x) (find p xs)) (subst (λ (z : Entry). p z ≡ true) same t)
      ∙ ap (λ (z : Entry). Some z) (sym same)
  find_first (x ∷ xs) e r (inr i) t h =
      ap (λ (b : Bool). cond b (Some x) (find p xs)) (h x (inl refl) (before_in x xs e r.0 i))
      ∙ find_first xs e r.1 i t (λ f j. h f (inr j))

  pub found_passes : (es : List Entry) (e : Entry) → find p es ≡ Some e → In e es × (p e ≡ true)
  found_passes [] e h = absurd cc
  found_passes (x ∷ xs) e h = go (found_passes xs e) (p x) refl h where
    go : (find p xs ≡ Some e → In e xs × (p e ≡ true)) → (b : Bool) → p x ≡ b → cond b (Some x) (find p xs) ≡ Some e
        → In e (x ∷ xs) × (p e ≡ true)
    go r true t g = let same : x ≡ e = cc in (inl (sym same), subst (λ (z : Entry). p z ≡ true) same t)
    go r false t g = let later = r g in (inr later.0, later.1)

-- ---- the entries of a name behind one of them

both_from : (a b : Bool) (n : Bool) → (n ≡ true → a ≡ b) → (a && n) ≡ (b && n)
both_from a b true h = ap (λ (c : Bool). c && true) (h refl)
both_from true true false h = refl
both_from true false false h = refl
both_from false true false h = refl
both_from false false false h = refl

module _ (name : List Component) (from : Pair) where
  not_itself : (e : Entry) → is_named_from name (after e) e ≡ false
  not_itself e =
      ap (λ (b : Bool). b && entry_has_name name e)
      (following e (publication_of e) ∙ ap is_lt (exact_pairs.itself (publication_of e)))

  not_before : (e x : Entry) → pair_cmp (publication_of x) (publication_of e) ≡ Less
      → is_named_from name (after e) x ≡ false
  not_before e x l =
      ap (λ (b : Bool). b && entry_has_name name x)
      (following e (publication_of x)
      ∙ ap is_lt (less_back exact_pairs.total (publication_of x) (publication_of e) l))

  first_kept : (x : Entry) (xs : List Entry) → IsAhead x xs → is_named_from name from x ≡ true
      → filter (is_named_from name from) xs ≡ filter (is_named_from name (after x)) xs
  first_kept x xs b t =
      filter_agrees (is_named_from name from) (is_named_from name (after x)) xs
      (λ f i.
      let l = before_in x xs f b i in
      both_from (is_le (pair_cmp from (publication_of f))) (is_le (pair_cmp (after x) (publication_of f)))
      (entry_has_name name f)
      (λ n.
      le_less from (publication_of x) (publication_of f) (and_parts (is_le (pair_cmp from (publication_of x))) _ t).0 l
      ∙ sym (following x (publication_of f) ∙ ap is_lt l)))

  pub filter_first : (es : List Entry) (e : Entry) → IsCatalogue es → find (is_named_from name from) es ≡ Some e
      → filter (is_named_from name from) es ≡ e ∷ filter (is_named_from name (after e)) es
  filter_first [] e r h = absurd cc
  filter_first (x ∷ xs) e r h = go (filter_first xs e r.1) (is_named_from name from x) refl h where
    here : is_named_from name from x ≡ true
        → x ∷ filter (is_named_from name from) xs ≡ x ∷ filter (is_named_from name (after x)) (x ∷ xs)
    here t =
        ap (λ (rest : List Entry). x ∷ rest)
        (first_kept x xs r.0 t
        ∙ sym (ap
        (λ (b : Bool). cond b (x ∷ filter (is_named_from name (after x)) xs) (filter (is_named_from name (after x)) xs))
        (not_itself x)))

    go : (find (is_named_from name from) xs ≡ Some e
        → filter (is_named_from name from) xs ≡ e ∷ filter (is_named_from name (after e)) xs) → (b : Bool)
        → is_named_from name from x ≡ b → cond b (Some x) (find (is_named_from name from) xs) ≡ Some e
        → cond b (x ∷ filter (is_named_from name from) xs) (filter (is_named_from name from) xs)
        ≡ e ∷ filter (is_named_from name (after e)) (x ∷ xs)
    go i true t g =
        let same : x ≡ e = cc in
        subst
        (λ (z : Entry). x ∷ filter (is_named_from name from) xs ≡ z ∷ filter (is_named_from name (after z)) (x ∷ xs))
        same (here t)
    go i false t g =
        let l = before_in x xs e r.0 (found_passes (is_named_from name from) xs e g).0 in
        i g
        ∙ ap (λ (rest : List Entry). e ∷ rest)
        (sym (ap
        (λ (b : Bool). cond b (x ∷ filter (is_named_from name (after e)) xs) (filter (is_named_from name (after e)) xs))
        (not_before e x l)))

-- ---- what the index says of a name

pub listed_in : (es : List Entry) (e : Entry) → IsCatalogue es → In e es → entry_of (publication_of e) es ≡ Some e
listed_in es e r i =
    find_first (is_of (publication_of e)) es e r i (eq_itself exact_pairs (publication_of e))
    (λ f j l. ap is_eq (less_back exact_pairs.total (publication_of f) (publication_of e) l))

key_in : (es : List Entry) (e : Entry) → IsCatalogue es → In e es → is_key es (key_of e) ≡ true
key_in es e r i = ap (has_hash (hash_of e.name)) (listed_in es e r i) ∙ same_number (hash_of e.name) where
  same_number : (n : ℕ) → (n == n) ≡ true
  same_number n = grind (arith, nat_tests)

same_hash : (h : ℕ) (a b : Pair) → key_cmp (h, a) (h, b) ≡ pair_cmp a b
same_hash h a b = then_second (nat_cmp h h) (pair_cmp a b) (nat_itself h)

module _ (name : List Component) (from : Pair) (es : List Entry) (r : IsCatalogue es) where
  -- an entry that is sought has a key with the name's hash
  sought_key : (e : Entry) → In e es → entry_has_name name e ≡ true → is_key es (hash_of name, publication_of e) ≡ true
  sought_key e i n =
      subst (λ (z : List Component). is_key es (hash_of z, publication_of e) ≡ true) (named name e n) (key_in es e r i)

  fails : (e : Entry) → (entry_has_name name e ≡ true → pair_cmp (publication_of e) from ≡ Less)
      → is_named_from name from e ≡ false
  fails e h = go (entry_has_name name e) refl where
    no : (b : Bool) → (b && false) ≡ false
    no true = refl
    no false = refl

    go : (n : Bool) → entry_has_name name e ≡ n → (is_le (pair_cmp from (publication_of e)) && n) ≡ false
    go true t = ap (λ (b : Bool). b && true) (less_not_le (publication_of e) from (h t))
    go false t = no (is_le (pair_cmp from (publication_of e)))

  pub none_from : ((q : Key) → is_key es q ≡ true → key_cmp q (hash_of name, from) ≡ Less)
      → find (is_named_from name from) es ≡ None
  none_from h =
      find_fails (is_named_from name from) es
      (λ e i. fails e
      (λ n. sym (same_hash (hash_of name) (publication_of e) from)
      ∙ h (hash_of name, publication_of e) (sought_key e i n)))

  -- the index's first key from there on
  pub record IsNext (first : Key) : Type 0 where
    pub there : is_key es first ≡ true
    pub following : key_cmp first (hash_of name, from) ≢ Less
    pub least : (q : Key) → is_key es q ≡ true → key_cmp q first ≡ Less → key_cmp q (hash_of name, from) ≡ Less

  abbrev HasKeys : List Key → Type 0
  HasKeys ks = (q : Key) → contains key_cmp ks q ≡ is_key es q

  pub next_key : (ks : List Key) (h : ℕ) (first : Key) → h ≡ hash_of name → HasKeys ks
      → IsFirstFrom (h, from) ks first → IsNext first
  next_key ks h first same indexed next = record {
    there = sym (indexed first) ∙ next.there;
    following = λ l. next.following (subst (λ (n : ℕ). key_cmp first (n, from) ≡ Less) (sym same) l);
    least = λ q t l.
        subst (λ (n : ℕ). key_cmp q (n, from) ≡ Less) same (next.least q (indexed q ∙ t) l);
  }

  pub next_entry : (ks : List Key) (h : ℕ) (first : Key) (x : Entry) → h ≡ hash_of name → HasKeys ks
      → IsFirstFrom (h, from) ks first → first.0 ≡ h → entry_of first.1 es ≡ Some x
      → IsNext (hash_of name, publication_of x)
  next_entry ks h first x same indexed next hash there =
      let of = entry_is_of first.1 es x there in
      subst IsNext (λ i. ((hash ∙ same) i, of i)) (next_key ks h first same indexed next)

  pub none_of_hash : (first : Key) → IsNext first → first.0 ≢ hash_of name → find (is_named_from name from) es ≡ None
  none_of_hash first next other =
      find_fails (is_named_from name from) es
      (λ e i. fails e
      (λ n. sym (same_hash (hash_of name) (publication_of e) from)
      ∙ next.least (hash_of name, publication_of e) (sought_key e i n) (above (publication_of e)))) where
        above : (p : Pair) → key_cmp (hash_of name, p) first ≡ Less
        above p = go (nat_cmp (hash_of name) first.0) refl where
          go : (o : Ordering) → nat_cmp (hash_of name) first.0 ≡ o → key_cmp (hash_of name, p) first ≡ Less
          go Less e = first_less (nat_cmp (hash_of name) first.0) (pair_cmp p first.1) e
          go Equal e = absurd (other (sym (nat_same (hash_of name) first.0 e)))
          go Greater e =
              absurd (next.following (first_less (nat_cmp first.0 (hash_of name)) (pair_cmp first.1 from)
              (greater_back nat_cmp_total (hash_of name) first.0 e)))

  module _ (x : Entry) (next : IsNext (hash_of name, publication_of x)) (there : In x es) where
    from_x : is_le (pair_cmp from (publication_of x)) ≡ true
    from_x =
        not_less_le (publication_of x) from
        (λ l. next.following (same_hash (hash_of name) (publication_of x) from ∙ l))

    before_x : (e : Entry) → In e es → pair_cmp (publication_of e) (publication_of x) ≡ Less
        → entry_has_name name e ≡ true → pair_cmp (publication_of e) from ≡ Less
    before_x e i l n =
        sym (same_hash (hash_of name) (publication_of e) from)
        ∙ next.least (hash_of name, publication_of e) (sought_key e i n)
        (same_hash (hash_of name) (publication_of e) (publication_of x) ∙ l)

    pub next_found : entry_has_name name x ≡ true → find (is_named_from name from) es ≡ Some x
    next_found n =
        find_first (is_named_from name from) es x r there
        (ap (λ (b : Bool). b && entry_has_name name x) from_x ∙ n)
        (λ f i l. fails f (before_x f i l))

    same_entry : (e : Entry) → In e es → pair_cmp (publication_of x) (publication_of e) ≡ Equal → x ≡ e
    same_entry e i tied =
        let pairs : publication_of x ≡ publication_of e = exact_pairs.same (publication_of x) (publication_of e) tied in
        let one = listed_in es x r there in
        let two : entry_of (publication_of x) es ≡ Some e =
        ap (λ (p : Pair). entry_of p es) pairs ∙ listed_in es e r i in
        let both : Some x ≡ Some e = sym one ∙ two in
        cc

    passed : (e : Entry) → In e es → entry_has_name name x ≡ false → entry_has_name name e ≡ true
        → is_le (pair_cmp from (publication_of e)) ≡ is_le (pair_cmp (after x) (publication_of e))
    passed e i f n = go (pair_cmp (publication_of x) (publication_of e)) refl where
      go : (o : Ordering) → pair_cmp (publication_of x) (publication_of e) ≡ o
          → is_le (pair_cmp from (publication_of e)) ≡ is_le (pair_cmp (after x) (publication_of e))
      go Less o =
          le_less from (publication_of x) (publication_of e) from_x o
          ∙ sym (following x (publication_of e) ∙ ap is_lt o)
      go Equal o =
          absurd (true≢false (sym (subst (λ (z : Entry). entry_has_name name z ≡ true) (sym (same_entry e i o)) n) ∙ f))
      go Greater o =
          less_not_le (publication_of e) from
          (before_x e i (greater_back exact_pairs.total (publication_of x) (publication_of e) o) n)
          ∙ sym (following x (publication_of e) ∙ ap is_lt o)

    pub next_passed : entry_has_name name x ≡ false
        → find (is_named_from name (after x)) es ≡ find (is_named_from name from) es
    next_passed f =
        sym (find_agrees (is_named_from name from) (is_named_from name (after x)) es
        (λ e i.
        both_from (is_le (pair_cmp from (publication_of e))) (is_le (pair_cmp (after x) (publication_of e)))
        (entry_has_name name e) (passed e i f)))

    pub fewer_left : length (filter (λ e. is_le (pair_cmp (after x) (publication_of e))) es)
        < length (filter (λ e. is_le (pair_cmp from (publication_of e))) es)
    fewer_left =
        fewer (λ e. is_le (pair_cmp from (publication_of e))) (λ e. is_le (pair_cmp (after x) (publication_of e))) es x
        (λ e t. le_less from (publication_of x) (publication_of e) from_x
        (lt_less (pair_cmp (publication_of x) (publication_of e)) (sym (following x (publication_of e)) ∙ t))) there
        from_x
        (following x (publication_of x) ∙ ap is_lt (exact_pairs.itself (publication_of x))) where
          lt_less : (o : Ordering) → is_lt o ≡ true → o ≡ Less
          lt_less Less t = refl
          lt_less Equal t = absurd (true≢false (sym t))
          lt_less Greater t = absurd (true≢false (sym t))

-- ---- all of a name, one by one

module _ (name : List Component) (es : List Entry) where
  all_from : (e : Entry) → is_named_from name (0, 0) e ≡ entry_has_name name e
  all_from e = ap (λ (b : Bool). b && entry_has_name name e) (from_start (publication_of e))

  pub find_all_from : find (is_named_from name (0, 0)) es ≡ find (entry_has_name name) es
  find_all_from = find_agrees (is_named_from name (0, 0)) (entry_has_name name) es (λ e i. all_from e)

  pub filter_all_from : filter (is_named_from name (0, 0)) es ≡ filter (entry_has_name name) es
  filter_all_from = filter_agrees (is_named_from name (0, 0)) (entry_has_name name) es (λ e i. all_from e)

  abbrev pub left : Pair → List Pair
  left from = map publication_of (filter (is_named_from name from) es)

  abbrev next : Pair → Option Pair
  next from = option_map publication_of (find (is_named_from name from) es)

  pub named_step : (from p : Pair) (s : ℕ) → IsCatalogue es → s ≡ p.1 → Some p ≡ next from
      → left from ≡ p ∷ left (p.0, s + 1)
  named_step from p s r number h = go (find (is_named_from name from) es) refl h where
    go : (o : Option Entry) → find (is_named_from name from) es ≡ o → Some p ≡ option_map publication_of o
        → left from ≡ p ∷ left (p.0, s + 1)
    go None e g = absurd cc
    go (Some x) e g =
        let same : publication_of x ≡ p = cc in
        let seq : x.seq ≡ s = ap (λ (q : Pair). q.1) same ∙ sym number in
        ap (map publication_of) (filter_first name from es x r e)
        ∙ (λ i. same i ∷ left ((same i).0, seq i + 1))

  pub named_end : (from : Pair) → None ≡ next from → left from ≡ []
  named_end from h = go (find (is_named_from name from) es) refl h where
    go : (o : Option Entry) → find (is_named_from name from) es ≡ o → None ≡ option_map publication_of o
        → left from ≡ []
    go None e g = ap (map publication_of) (none_passes (is_named_from name from) es e)
    go (Some x) e g = absurd cc
