-- What a catalogue has after many entries are added or removed.
use Rattle.std.proofs.Common.{◌≡◌, ℕ, ◌≤◌, Bool, true, false, cond, not, ◌&&◌, ◌||◌, List, [], ◌∷◌, ◌++◌, map, Option}
use Rattle.std.proofs.Common.{Some, None, refl, sym, ap, subst, ◌∙◌, inl, inr, suc, get_or, length, ◌<◌, arith}
use Rattle.std.proofs.Common.{add-one}
use Rattle.std.specs.Prelude.{is_some}
use Rattle.std.specs.List.{filter, Contains}
use Rattle.std.specs.List.Sorted.{IsPermutation, IsSortedByKey}
use Rattle.std.specs.Option.{option_or}
use Rattle.std.specs.Ordering.{eq_by_cmp, is_eq, is_lt}
use Rattle.std.specs.declared.cmp.Ordering.{Ordering}
use Rattle.std.specs.declared.cmp.Ordering.TheVariants.{Less, Equal, Greater}
use Rattle.std.proofs.lemmas.Bool.{true≢false}
use Rattle.std.proofs.lemmas.List.{append-nil}
use Rattle.std.proofs.lemmas.List.Elements.{filter-append}
use Rattle.std.proofs.lemmas.List.Folds.{list_any-append}
use Rattle.std.proofs.lemmas.List.Sums.{length-filter}
use Rattle.std.proofs.lemmas.List.Sorted.{IsPermutation-sym, Contains-permutation, sum_by-IsPermutation}
use Rattle.repo_plan.specs.Parts.{Pair, pair_cmp}
use Rattle.repo_plan.proofs.Orders.{exact_pairs}
use Rattle.sorted_lists.specs.SortedList.{contains, Rises}
use Rattle.sorted_lists.proofs.Members.{in_at}
use Rattle.sorted_lists.proofs.Orders.{greater_back}
use Rattle.sorted_lists.proofs.Sets.{In, before_more, eq_same, eq_itself, eq_turned, rises_filter}
use Rattle.repo_catalog.specs.declared.entry.Entry.{Entry}
use Rattle.repo_catalog.specs.Entries.{publication_of, is_of, entry_of, lists, with_entry, with_entries, without}
use Rattle.repo_catalog.specs.Entries.{without_all, IsCatalogue, AreApart}
use Rattle.repo_catalog.proofs.EntryLemmas.{with_entry_rises}
use Rattle.repo_catalog.proofs.LawLemmas.{adds_one, entries_tell_all}

-- ---- many more

one_more : (e : Entry) (b : Bool) (o rest : Option Entry)
    → option_or (cond (b && not (is_some o)) (Some e) o) rest ≡ option_or o (cond b (Some e) rest)
one_more e true None rest = refl
one_more e true (Some x) rest = refl
one_more e false None rest = refl
one_more e false (Some x) rest = refl

pub or_none : (o : Option Entry) → o ≡ option_or o None
or_none None = refl
or_none (Some x) = refl

pub adds_all : (fs es : List Entry) (k : Pair) → IsCatalogue es
    → entry_of k (with_entries fs es) ≡ option_or (entry_of k es) (entry_of k fs)
adds_all [] es k r = or_none (entry_of k es)
adds_all (f ∷ fs) es k r =
    adds_all fs (with_entry f es) k (with_entry_rises f es r)
    ∙ ap (λ (o : Option Entry). option_or o (entry_of k fs)) (adds_one f es k r)
    ∙ one_more f (is_of k f) (entry_of k es) (entry_of k fs)

pub with_entries_rises : (fs es : List Entry) → IsCatalogue es → IsCatalogue (with_entries fs es)
with_entries_rises [] es r = r
with_entries_rises (f ∷ fs) es r = with_entries_rises fs (with_entry f es) (with_entry_rises f es r)

-- ---- many less

module _ (gone : List Pair) (k : Pair) where
  removed_first : (x : Entry) (o : Option Entry) → contains pair_cmp gone (publication_of x) ≡ true → (b : Bool)
      → is_of k x ≡ b
      → cond (contains pair_cmp gone k) None o ≡ cond (contains pair_cmp gone k) None (cond b (Some x) o)
  removed_first x o h true e =
      let there : contains pair_cmp gone k ≡ true =
      ap (contains pair_cmp gone) (eq_same exact_pairs k (publication_of x) e) ∙ h in
      ap (λ (c : Bool). cond c None o) there ∙ sym (ap (λ (c : Bool). cond c None (Some x)) there)
  removed_first x o h false e = refl

  kept_first : (x : Entry) (o : Option Entry) → contains pair_cmp gone (publication_of x) ≡ false → (b : Bool)
      → is_of k x ≡ b
      → cond b (Some x) (cond (contains pair_cmp gone k) None o)
      ≡ cond (contains pair_cmp gone k) None (cond b (Some x) o)
  kept_first x o h true e =
      let other : contains pair_cmp gone k ≡ false =
      ap (contains pair_cmp gone) (eq_same exact_pairs k (publication_of x) e) ∙ h in
      sym (ap (λ (c : Bool). cond c None (Some x)) other)
  kept_first x o h false e = refl

  same_none : (b : Bool) → let n : Option Entry = None in n ≡ cond b n n
  same_none true = refl
  same_none false = refl

  removes : (es : List Entry)
      → entry_of k (without_all gone es) ≡ cond (contains pair_cmp gone k) None (entry_of k es)
  removes [] = same_none (contains pair_cmp gone k)
  removes (x ∷ xs) = go (removes xs) (contains pair_cmp gone (publication_of x)) refl where
    go : entry_of k (without_all gone xs) ≡ cond (contains pair_cmp gone k) None (entry_of k xs) → (b : Bool)
        → contains pair_cmp gone (publication_of x) ≡ b
        → entry_of k (cond (not b) (x ∷ without_all gone xs) (without_all gone xs))
        ≡ cond (contains pair_cmp gone k) None (cond (is_of k x) (Some x) (entry_of k xs))
    go h true e = h ∙ removed_first x (entry_of k xs) e (is_of k x) refl
    go h false e =
        ap (λ (o : Option Entry). cond (is_of k x) (Some x) o) h ∙ kept_first x (entry_of k xs) e (is_of k x) refl

pub removes_all : (gone : List Pair) (es : List Entry) (k : Pair)
    → entry_of k (without_all gone es) ≡ cond (contains pair_cmp gone k) None (entry_of k es)
removes_all gone es k = removes gone k es

-- the publications that go gain one
pub one_more_gone : (gone : List Pair) (p q : Pair)
    → contains pair_cmp (gone ++ p ∷ []) q ≡ (contains pair_cmp gone q || eq_by_cmp pair_cmp q p)
one_more_gone gone p q =
    list_any-append (eq_by_cmp pair_cmp q) gone (p ∷ [])
    ∙ ap (λ (b : Bool). contains pair_cmp gone q || b) (or_false (eq_by_cmp pair_cmp q p)) where
      or_false : (b : Bool) → (b || false) ≡ b
      or_false true = refl
      or_false false = refl

pub without_none : (es : List Entry) → without_all [] es ≡ es
without_none [] = refl
without_none (x ∷ xs) = ap (λ (ys : List Entry). x ∷ ys) (without_none xs)

pub without_one_more : (gone : List Pair) (p : Pair) (es : List Entry)
    → without p (without_all gone es) ≡ without_all (gone ++ p ∷ []) es
without_one_more gone p [] = refl
without_one_more gone p (x ∷ xs) =
    go (contains pair_cmp gone (publication_of x)) (without_one_more gone p xs)
    ∙ sym (ap (λ (c : Bool). cond (not c) (x ∷ rest) rest)
    (one_more_gone gone p (publication_of x)
    ∙ ap (λ (b : Bool). contains pair_cmp gone (publication_of x) || b)
    (eq_turned exact_pairs (publication_of x) p))) where
      rest : List Entry
      rest = without_all (gone ++ p ∷ []) xs

      left : List Entry
      left = without_all gone xs

      go : (a : Bool) → without p left ≡ rest
          → without p (cond (not a) (x ∷ left) left) ≡ cond (not (a || is_of p x)) (x ∷ rest) rest
      go true h = h
      go false h = ap (λ (ys : List Entry). cond (not (is_of p x)) (x ∷ ys) ys) h

abbrev stays : List Pair → Pair → Bool
stays gone p = not (contains pair_cmp gone p)

keys-without_all : (gone : List Pair) (es : List Entry)
    → map publication_of (without_all gone es) ≡ filter (stays gone) (map publication_of es)
keys-without_all gone [] = refl
keys-without_all gone (e ∷ es) = go (keys-without_all gone es) (stays gone (publication_of e)) where
  go : map publication_of (without_all gone es) ≡ filter (stays gone) (map publication_of es) → (b : Bool)
      → map publication_of (cond b (e ∷ without_all gone es) (without_all gone es))
      ≡ cond b (publication_of e ∷ filter (stays gone) (map publication_of es))
      (filter (stays gone) (map publication_of es))
  go h true = ap (λ (rest : List Pair). publication_of e ∷ rest) h
  go h false = h

pub without_all_rises : (gone : List Pair) (es : List Entry) → IsCatalogue es → IsCatalogue (without_all gone es)
without_all_rises gone es r =
    subst (Rises pair_cmp) (sym (keys-without_all gone es))
    (rises_filter exact_pairs.total (stays gone) (map publication_of es) r)

-- ---- entries in another order

pub in_contained : {A : Type 0} (x : A) (xs : List A) → Contains xs x → In x xs
in_contained {A} x xs c = subst (λ (y : A). In y xs) c.2 (in_at xs c.0 x c.1)

pub contained : {A : Type 0} (x : A) (xs : List A) → In x xs → Contains xs x
contained x [] i = absurd i
contained x (y ∷ ys) (inl e) = (0, omega arith, sym e)
contained x (y ∷ ys) (inr i) = let c = contained x ys i in (suc c.0, omega (arith, c.1), c.2)

abbrev ofs : Pair → List Entry → List Entry
ofs k es = filter (is_of k) es

module _ (k : Pair) where
  counted : (e : Entry) (xs : List Entry) → In e xs → is_of k e ≡ true → 1 ≤ length (ofs k xs)
  counted e [] i h = absurd i
  counted e (x ∷ xs) (inl same) h = go (is_of k x) (subst (λ (y : Entry). is_of k y ≡ true) same h) where
    go : (b : Bool) → b ≡ true → 1 ≤ length (cond b (x ∷ ofs k xs) (ofs k xs))
    go true t = omega arith
    go false t = absurd (true≢false (sym t))
  counted e (x ∷ xs) (inr i) h = go (counted e xs i h) (is_of k x) where
    go : 1 ≤ length (ofs k xs) → (b : Bool) → 1 ≤ length (cond b (x ∷ ofs k xs) (ofs k xs))
    go m true = omega arith
    go m false = m

  -- where there is one entry of the publication, it is the one that is found
  only : (e : Entry) (xs : List Entry) → length (ofs k xs) ≤ 1 → In e xs → is_of k e ≡ true
      → entry_of k xs ≡ Some e
  only e [] n i h = absurd i
  only e (x ∷ xs) n (inl same) h =
      ap (λ (b : Bool). cond b (Some x) (entry_of k xs)) (subst (λ (y : Entry). is_of k y ≡ true) same h)
      ∙ ap (λ (y : Entry). Some y) (sym same)
  only e (x ∷ xs) n (inr i) h = go (λ m. only e xs m i h) (counted e xs i h) (is_of k x) n where
    go : (length (ofs k xs) ≤ 1 → entry_of k xs ≡ Some e) → 1 ≤ length (ofs k xs) → (b : Bool)
        → length (cond b (x ∷ ofs k xs) (ofs k xs)) ≤ 1 → cond b (Some x) (entry_of k xs) ≡ Some e
    go r one true m = absurd (omega arith)
    go r one false m = r m

  pub found_in : (e : Entry) (xs : List Entry) → entry_of k xs ≡ Some e → In e xs × (is_of k e ≡ true)
  found_in e [] h = absurd cc
  found_in e (x ∷ xs) h = go (found_in e xs) (is_of k x) refl h where
    go : (entry_of k xs ≡ Some e → In e xs × (is_of k e ≡ true)) → (b : Bool) → is_of k x ≡ b
        → cond b (Some x) (entry_of k xs) ≡ Some e → In e (x ∷ xs) × (is_of k e ≡ true)
    go r true t g =
        let same : x ≡ e = cc in (inl (sym same), subst (λ (y : Entry). is_of k y ≡ true) same t)
    go r false t g = let later = r g in (inr later.0, later.1)

  pub entry_is_of : (es : List Entry) (e : Entry) → entry_of k es ≡ Some e → k ≡ publication_of e
  entry_is_of es e h = eq_same exact_pairs k (publication_of e) (found_in e es h).1

  none_in : (e : Entry) (xs : List Entry) → entry_of k xs ≡ None → In e xs → is_of k e ≡ true → ⊥
  none_in e [] h i t = i
  none_in e (x ∷ xs) h i t = go (λ g j. none_in e xs g j t) (is_of k x) refl h i where
    go : (entry_of k xs ≡ None → In e xs → ⊥) → (b : Bool) → is_of k x ≡ b → cond b (Some x) (entry_of k xs) ≡ None
        → In e (x ∷ xs) → ⊥
    go r true s g j = absurd cc
    go r false s g (inl same) = true≢false (sym (subst (λ (y : Entry). is_of k y ≡ true) same t) ∙ s)
    go r false s g (inr j) = r g j

  pub same_in_order : (xs ys : List Entry) → IsPermutation xs ys → AreApart xs → entry_of k ys ≡ entry_of k xs
  same_in_order xs ys p apart = go (entry_of k ys) refl (entry_of k xs) refl where
    moved : (e : Entry) → In e ys → In e xs
    moved e i =
        in_contained e xs (Contains-permutation ys xs e (IsPermutation-sym xs ys p) (contained e ys i))

    back : (e : Entry) → In e xs → In e ys
    back e i = in_contained e ys (Contains-permutation xs ys e p (contained e xs i))

    go : (a : Option Entry) → entry_of k ys ≡ a → (b : Option Entry) → entry_of k xs ≡ b → a ≡ b
    go None h None g = refl
    go None h (Some f) g =
        let there = found_in f xs g in absurd (none_in f ys h (back f there.0) there.1)
    go (Some e) h b g =
        let there = found_in e ys h in sym (only e xs (apart k) (moved e there.0) there.1) ∙ g

-- ---- entries in the order that a sort gives

pub apart_in_order : (xs ys : List Entry) → IsPermutation xs ys → AreApart xs → AreApart ys
apart_in_order xs ys p apart = λ k.
    let same : length (ofs k ys) ≡ length (ofs k xs) =
    length-filter (is_of k) ys
    ∙ sum_by-IsPermutation (λ e. cond (is_of k e) 1 0) xs ys p
    ∙ sym (length-filter (is_of k) xs) in
    rw same (apart k)

apart_rest : (x : Entry) (xs : List Entry) → AreApart (x ∷ xs) → AreApart xs
apart_rest x xs apart = λ k. rest k (is_of k x) (apart k) where
  rest : (k : Pair) (b : Bool) → length (cond b (x ∷ ofs k xs) (ofs k xs)) ≤ 1 → length (ofs k xs) ≤ 1
  rest k true h = omega arith
  rest k false h = h

two_of : (k : Pair) (x y : Entry) (zs : List Entry) (b c : Bool) → b ≡ true → c ≡ true
    → length (cond b (x ∷ cond c (y ∷ ofs k zs) (ofs k zs)) (cond c (y ∷ ofs k zs) (ofs k zs))) ≤ 1 → ⊥
two_of k x y zs true true s t h = absurd (omega arith)
two_of k x y zs false c s t h = absurd (true≢false (sym s))
two_of k x y zs true false s t h = absurd (true≢false (sym t))

-- the first two of entries that are sorted and apart
rises_first : (x y : Entry) (zs : List Entry) → AreApart (x ∷ y ∷ zs)
    → is_lt (pair_cmp (publication_of y) (publication_of x)) ≡ false
    → pair_cmp (publication_of x) (publication_of y) ≡ Less
rises_first x y zs apart h = go (pair_cmp (publication_of x) (publication_of y)) refl where
  go : (o : Ordering) → pair_cmp (publication_of x) (publication_of y) ≡ o → o ≡ Less
  go Less e = refl
  go Equal e =
      absurd (two_of (publication_of x) x y zs (is_of (publication_of x) x) (is_of (publication_of x) y)
      (eq_itself exact_pairs (publication_of x)) (ap is_eq e) (apart (publication_of x)))
  go Greater e =
      let less : pair_cmp (publication_of y) (publication_of x) ≡ Less =
      greater_back exact_pairs.total (publication_of x) (publication_of y) e in
      absurd (true≢false (sym (ap is_lt less) ∙ h))

abbrev IsSortedHere : List Entry → Type 0
IsSortedHere es = (i : ℕ) (d : Entry) → suc i < length es
    → is_lt (pair_cmp (publication_of (get_or es (suc i) d)) (publication_of (get_or es i d))) ≡ false

rises_all : (es : List Entry) → IsSortedHere es → AreApart es → IsCatalogue es
rises_all [] s apart = tt
rises_all (x ∷ []) s apart = (tt, tt)
rises_all (x ∷ y ∷ zs) s apart =
    let first = rises_first x y zs apart (s 0 x (omega arith)) in
    let rest : IsCatalogue (y ∷ zs) =
    rises_all (y ∷ zs) (λ i d l. s (suc i) d (omega arith)) (apart_rest x (y ∷ zs) apart) in
    let far =
    before_more exact_pairs.total (publication_of x) (publication_of y) (map publication_of zs) first rest.0 in
    ((first, far), rest)

pub sorted_rises : (es : List Entry) → IsSortedByKey publication_of pair_cmp es → AreApart es → IsCatalogue es
sorted_rises es s apart = rises_all es next apart where
  next : IsSortedHere es
  next i d l =
      subst
      (λ (j : ℕ). is_lt (pair_cmp (publication_of (get_or es j d)) (publication_of (get_or es i d))) ≡ false)
      (add-one i) (s i d (omega arith) (omega arith))

pub sorted_adds_same : (fresh sorted es : List Entry) → IsPermutation fresh sorted → AreApart fresh → IsCatalogue es
    → with_entries sorted es ≡ with_entries fresh es
sorted_adds_same fresh sorted es p apart r =
    entries_tell_all (with_entries sorted es) (with_entries fresh es) (with_entries_rises sorted es r)
    (with_entries_rises fresh es r)
    (λ k. adds_all sorted es k r
    ∙ ap (option_or (entry_of k es)) (same_in_order k fresh sorted p apart)
    ∙ sym (adds_all fresh es k r))

-- ---- entries that stay apart

pub apart_none : AreApart []
apart_none = λ k. omega arith

none_of : (k : Pair) (xs : List Entry) → entry_of k xs ≡ None → ofs k xs ≡ []
none_of k [] h = refl
none_of k (x ∷ xs) h = go (none_of k xs) (is_of k x) h where
  go : (entry_of k xs ≡ None → ofs k xs ≡ []) → (b : Bool) → cond b (Some x) (entry_of k xs) ≡ None
      → cond b (x ∷ ofs k xs) (ofs k xs) ≡ []
  go r true g = absurd cc
  go r false g = r g

-- one more after them, of a publication that has none yet
pub apart_more : (xs : List Entry) (e : Entry) → AreApart xs → lists (publication_of e) xs ≡ false
    → AreApart (xs ++ e ∷ [])
apart_more xs e apart new = λ k.
    let split : ofs k (xs ++ e ∷ []) ≡ ofs k xs ++ ofs k (e ∷ []) = filter-append (is_of k) xs (e ∷ []) in
    go k split (is_of k e) refl where
      missing : (o : Option Entry) → is_some o ≡ false → o ≡ None
      missing None h = refl
      missing (Some x) h = absurd (true≢false h)

      go : (k : Pair) → ofs k (xs ++ e ∷ []) ≡ ofs k xs ++ ofs k (e ∷ []) → (b : Bool) → is_of k e ≡ b
          → length (ofs k (xs ++ e ∷ [])) ≤ 1
      go k split true h =
          let none : entry_of k xs ≡ None =
          missing (entry_of k xs)
          (ap (λ (p : Pair). lists p xs) (eq_same exact_pairs k (publication_of e) h) ∙ new) in
          let one : ofs k (e ∷ []) ≡ e ∷ [] = ap (λ (b : Bool). cond b (e ∷ []) []) h in
          let all : ofs k (xs ++ e ∷ []) ≡ e ∷ [] =
          split ∙ ap (λ (ys : List Entry). ys ++ ofs k (e ∷ [])) (none_of k xs none) ∙ one in
          rw all (omega arith)
      go k split false h =
          let one : ofs k (e ∷ []) ≡ [] = ap (λ (b : Bool). cond b (e ∷ []) []) h in
          let all : ofs k (xs ++ e ∷ []) ≡ ofs k xs =
          split ∙ ap (λ (ys : List Entry). ofs k xs ++ ys) one ∙ append-nil (ofs k xs) in
          rw all (apart k)
