-- What the sums of entries are with one more, or without one.
use Rattle.std.proofs.Common.{◌≡◌, ℕ, ◌+◌, ◌^◌, ◌%◌, Bool, true, false, cond, not, ◌||◌, List, [], ◌∷◌, ◌++◌, Option}
use Rattle.std.proofs.Common.{Some, None, refl, sym, ap, ◌∙◌, arith}
use Rattle.std.specs.List.{sum_by}
use Rattle.std.specs.Ordering.{is_eq}
use Rattle.std.specs.declared.cmp.Ordering.{Ordering}
use Rattle.std.specs.declared.cmp.Ordering.TheVariants.{Less, Equal, Greater}
use Rattle.std.proofs.lemmas.List.Sums.{sum_by-cons}
use Rattle.repo_plan.specs.Parts.{Pair, pair_cmp}
use Rattle.repo_plan.proofs.Orders.{exact_pairs}
use Rattle.sorted_lists.specs.SortedList.{by_order, contains, IsBefore, Rises}
use Rattle.sorted_lists.proofs.Orders.{equal_from_is_eq, equal_back, less_back}
use Rattle.repo_catalog.specs.declared.entry.Entry.{Entry}
use Rattle.repo_catalog.specs.Entries.{publication_of, is_of, entry_of, with_entry, without, without_all, IsCatalogue}
use Rattle.repo_catalog.specs.EntryTotals.{totals_of}
use Rattle.repo_catalog.proofs.EntryLemmas.{without_after}
use Rattle.repo_catalog.proofs.ManyLemmas.{removes_all, without_all_rises, without_one_more}

-- ---- the sum of a field

module _ (f : Entry → ℕ) where
  -- with one more, of a publication that has none
  sum_with : (x : Entry) (es : List Entry) → entry_of (publication_of x) es ≡ None
      → sum_by f (with_entry x es) ≡ f x + sum_by f es
  sum_with x [] none = sum_by-cons f x []
  sum_with x (y ∷ ys) none =
      go (sum_with x ys) (pair_cmp (publication_of x) (publication_of y)) none
      ∙ ap (λ (n : ℕ). f x + n) (sym (sum_by-cons f y ys)) where
        go : (entry_of (publication_of x) ys ≡ None → sum_by f (with_entry x ys) ≡ f x + sum_by f ys) → (o : Ordering)
            → cond (is_eq o) (Some y) (entry_of (publication_of x) ys) ≡ None
            → sum_by f (by_order o (x ∷ y ∷ ys) (y ∷ ys) (y ∷ with_entry x ys)) ≡ f x + (f y + sum_by f ys)
        go h Less n = sum_by-cons f x (y ∷ ys) ∙ ap (λ (m : ℕ). f x + m) (sum_by-cons f y ys)
        go h Equal n = absurd cc
        go h Greater n = omega (arith, sum_by-cons f y (with_entry x ys), h n)

  -- without that of a publication
  sum_without : (k : Pair) (x : Entry) (es : List Entry) → IsCatalogue es → entry_of k es ≡ Some x
      → f x + sum_by f (without k es) ≡ sum_by f es
  sum_without k x [] r there = absurd cc
  sum_without k x (y ∷ ys) r there =
      go (sum_without k x ys r.1) (is_of k y) refl there ∙ sym (sum_by-cons f y ys) where
        go : (entry_of k ys ≡ Some x → f x + sum_by f (without k ys) ≡ sum_by f ys) → (b : Bool) → is_of k y ≡ b
            → cond b (Some y) (entry_of k ys) ≡ Some x
            → f x + sum_by f (cond (not b) (y ∷ without k ys) (without k ys)) ≡ f y + sum_by f ys
        go h true e t =
            let same : y ≡ x = cc in
            let equal : pair_cmp (publication_of y) k ≡ Equal =
            equal_back exact_pairs.total k (publication_of y) (equal_from_is_eq (pair_cmp k (publication_of y)) e) in
            let rest : without k ys ≡ ys = without_after k (publication_of y) ys r.0 equal in
            ap (λ (z : Entry). f z + sum_by f (without k ys)) (sym same)
            ∙ ap (λ (zs : List Entry). f y + sum_by f zs) rest
        go h false e t = omega (arith, sum_by-cons f y (without k ys), h t)

-- ---- the sums of a catalogue

pub sums_with : (x : Entry) (es : List Entry) → entry_of (publication_of x) es ≡ None
    → totals_of (x ∷ es) ≡ totals_of (with_entry x es)
sums_with x es none =
    let segments = sum_by-cons (λ (e : Entry). e.segments) x es ∙ sym (sum_with (λ e. e.segments) x es none) in
    let octets = sum_by-cons (λ (e : Entry). e.octets) x es ∙ sym (sum_with (λ e. e.octets) x es none) in
    λ i. record { segments = segments i % 2 ^ 64; octets = octets i % 2 ^ 64 }

pub sums_without : (k : Pair) (x : Entry) (es : List Entry) → IsCatalogue es → entry_of k es ≡ Some x
    → totals_of es ≡ totals_of (x ∷ without k es)
sums_without k x es r there =
    let segments =
    sym (sum_by-cons (λ (e : Entry). e.segments) x (without k es) ∙ sum_without (λ e. e.segments) k x es r there) in
    let octets =
    sym (sum_by-cons (λ (e : Entry). e.octets) x (without k es) ∙ sum_without (λ e. e.octets) k x es r there) in
    λ i. record { segments = segments i % 2 ^ 64; octets = octets i % 2 ^ 64 }

-- ---- the sums without one publication after another

-- a publication after others is none of them
pub is_past : (gone : List Pair) (p : Pair) → Rises pair_cmp (gone ++ p ∷ []) → contains pair_cmp gone p ≡ false
is_past [] p r = refl
is_past (g ∷ gs) p r =
    ap (λ (o : Ordering). is_eq o || contains pair_cmp gs p) (less_back exact_pairs.total g p (before gs r.0))
    ∙ is_past gs p r.1 where
      before : (ps : List Pair) → IsBefore pair_cmp g (ps ++ p ∷ []) → pair_cmp g p ≡ Less
      before [] b = b.0
      before (q ∷ qs) b = before qs b.1

pub sums_with_one_gone : (gone : List Pair) (k : Pair) (x : Entry) (es : List Entry) → IsCatalogue es
    → entry_of k es ≡ Some x → contains pair_cmp gone k ≡ false
    → totals_of (without_all gone es) ≡ totals_of (x ∷ without_all (gone ++ k ∷ []) es)
sums_with_one_gone gone k x es r there stays =
    sums_without k x (without_all gone es) (without_all_rises gone es r)
    (removes_all gone es k ∙ ap (λ (b : Bool). cond b None (entry_of k es)) stays ∙ there)
    ∙ ap (λ (rest : List Entry). totals_of (x ∷ rest)) (without_one_more gone k es)

without_missing : (k : Pair) (es : List Entry) → entry_of k es ≡ None → without k es ≡ es
without_missing k [] none = refl
without_missing k (y ∷ ys) none = go (without_missing k ys) (is_of k y) none where
  go : (entry_of k ys ≡ None → without k ys ≡ ys) → (b : Bool) → cond b (Some y) (entry_of k ys) ≡ None
      → cond (not b) (y ∷ without k ys) (without k ys) ≡ y ∷ ys
  go h true n = absurd cc
  go h false n = ap (λ (rest : List Entry). y ∷ rest) (h n)

pub sums_with_none_gone : (gone : List Pair) (k : Pair) (es : List Entry) → entry_of k es ≡ None
    → totals_of (without_all gone es) ≡ totals_of (without_all (gone ++ k ∷ []) es)
sums_with_none_gone gone k es none =
    ap totals_of
    (sym (without_missing k (without_all gone es)
    (removes_all gone es k
    ∙ ap (λ (o : Option Entry). cond (contains pair_cmp gone k) None o) none
    ∙ no_entry (contains pair_cmp gone k)))
    ∙ without_one_more gone k es) where
      no_entry : (b : Bool) → let n : Option Entry = None in cond b n n ≡ n
      no_entry true = refl
      no_entry false = refl
