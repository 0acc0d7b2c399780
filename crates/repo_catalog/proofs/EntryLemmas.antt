-- Where an entry stands in a catalogue, and what an edit at that place makes of it.
use Rattle.std.proofs.Common.{◌≡◌, ℕ, zero, suc, ◌<◌, ◌≤◌, Bool, true, false, cond, not, List, [], ◌∷◌, map, length}
use Rattle.std.proofs.Common.{get_or, Option, Some, None, Result, Ok, Err, refl, sym, ap, subst, ◌∙◌, arith}
use Rattle.std.specs.Prelude.{is_ok, is_some}
use Rattle.std.specs.List.{insert, remove, filter, HoldsAt, AllWithin}
use Rattle.std.specs.List.Sorted.{IsSearchInRange, IsBinarySearchResult}
use Rattle.std.specs.Cmp.{IsTotalOrder}
use Rattle.std.specs.Ordering.{eq_by_cmp, is_eq}
use Rattle.std.specs.declared.cmp.Ordering.{Ordering}
use Rattle.std.specs.declared.cmp.Ordering.TheVariants.{Less, Equal, Greater}
use Rattle.std.proofs.lemmas.Bool.{true≢false}
use Rattle.repo_plan.specs.Parts.{Pair, pair_cmp}
use Rattle.sorted_lists.specs.SortedList.{by_order, insert_key, IsBefore, Rises}
use Rattle.sorted_lists.proofs.Orders.{less_back, greater_back, equal_back}
use Rattle.repo_plan.proofs.Orders.{exact_pairs}
use Rattle.sorted_lists.proofs.Sets.{rises_insert, rises_filter}
use Rattle.sorted_lists.proofs.Search.{Found, found}
use Rattle.sorted_lists.proofs.Search.Found.{at_key, at_gap}
use Rattle.repo_catalog.specs.declared.entry.Entry.{Entry}
use Rattle.repo_catalog.specs.Entries.{publication_of, is_of, entry_of, lists, with_entry, without, IsCatalogue}

abbrev order : IsTotalOrder pair_cmp
order = exact_pairs.total

-- a search for a publication ends at its entry, or between the lesser and the greater ones
abbrev pub IsPlace : Pair → List Entry → Result ℕ ℕ → Type 0
IsPlace pair entries = Found pair_cmp publication_of entries pair

entry_before : (k : Pair) (es : List Entry) (i : ℕ) (d : Entry) → IsBefore pair_cmp k (map publication_of es)
    → i < length es
    → pair_cmp k (publication_of (get_or es i d)) ≡ Less
entry_before k [] i d b l = absurd (omega arith)
entry_before k (e ∷ es) zero d b l = b.0
entry_before k (e ∷ es) (suc i) d b l = entry_before k es i d b.1 (omega arith)

-- what comes before a key that ties with another comes before that too
after_prefix : (k x y : Pair) → pair_cmp x y ≡ Less → pair_cmp y k ≡ Equal → pair_cmp k x ≡ Greater
after_prefix k x y before equal = sym (order.congr y k x equal) ∙ less_back order x y before

module _ (k : Pair) where
  abbrev IsAt : Entry → Type 0
  IsAt e = pair_cmp (publication_of e) k ≡ Equal

  abbrev IsLess : Entry → Type 0
  IsLess e = pair_cmp (publication_of e) k ≡ Less

  abbrev IsGreater : Entry → Type 0
  IsGreater e = pair_cmp (publication_of e) k ≡ Greater

  -- ---- the entry of a pair

  abbrev looked : Entry → List Entry → Ordering → Option Entry
  looked e es c = cond (is_eq c) (Some e) (entry_of k es)

  entry_found : (es : List Entry) (i : ℕ) (d : Entry) → IsCatalogue es → i < length es → HoldsAt IsAt es i
      → entry_of k es ≡ Some (get_or es i d)
  entry_found [] i d r l h = absurd (omega arith)
  entry_found (e ∷ es) zero d r l h = ap (looked e es) (equal_back order (publication_of e) k (h e))
  entry_found (e ∷ es) (suc i) d r l h =
      ap (looked e es)
      (after_prefix k (publication_of e) (publication_of (get_or es i e))
      (entry_before (publication_of e) es i e r.0 (omega arith)) (h e))
      ∙ entry_found es i d r.1 (omega arith) h

  entry_gap : (es : List Entry) (i : ℕ) → AllWithin IsLess es 0 i → AllWithin IsGreater es i (length es)
      → entry_of k es ≡ None
  entry_gap [] i below above = refl
  entry_gap (e ∷ es) zero below above =
      ap (looked e es) (greater_back order (publication_of e) k (above 0 e (omega arith) (omega arith)))
      ∙ entry_gap es zero (λ j d a b. absurd (omega arith)) (λ j d a b. above (suc j) d (omega arith) (omega arith))
  entry_gap (e ∷ es) (suc i) below above =
      ap (looked e es) (less_back order (publication_of e) k (below 0 e (omega arith) (omega arith)))
      ∙ entry_gap es i (λ j d a b. below (suc j) d (omega arith) (omega arith))
      (λ j d a b. above (suc j) d (omega arith) (omega arith))

  pub entry_at : (es : List Entry) (i : ℕ) (d : Entry) → IsCatalogue es → IsPlace k es (Ok i)
      → entry_of k es ≡ Some (get_or es i d)
  entry_at es i d r (at_key j l h) = entry_found es j d r l h

  pub no_entry_between : (es : List Entry) (i : ℕ) → IsPlace k es (Err i) → entry_of k es ≡ None
  no_entry_between es i (at_gap j l below above) = entry_gap es j below above

  -- ---- the entries without a pair's

  abbrev sifted : Entry → List Entry → Ordering → List Entry
  sifted e es c = cond (not (is_eq c)) (e ∷ without k es) (without k es)

  pub without_after : (x : Pair) (es : List Entry) → IsBefore pair_cmp x (map publication_of es) → pair_cmp x k ≡ Equal
      → without k es ≡ es
  without_after x [] b equal = refl
  without_after x (e ∷ es) b equal =
      ap (sifted e es) (sym (order.congr x k (publication_of e) equal) ∙ b.0)
      ∙ ap (λ (rest : List Entry). e ∷ rest) (without_after x es b.1 equal)

  without_found : (es : List Entry) (i : ℕ) → IsCatalogue es → i < length es → HoldsAt IsAt es i
      → without k es ≡ remove es i
  without_found [] i r l h = absurd (omega arith)
  without_found (e ∷ es) zero r l h =
      ap (sifted e es) (equal_back order (publication_of e) k (h e)) ∙ without_after (publication_of e) es r.0 (h e)
  without_found (e ∷ es) (suc i) r l h =
      ap (sifted e es)
      (after_prefix k (publication_of e) (publication_of (get_or es i e))
      (entry_before (publication_of e) es i e r.0 (omega arith)) (h e))
      ∙ ap (λ (rest : List Entry). e ∷ rest) (without_found es i r.1 (omega arith) h)

  without_gap : (es : List Entry) (i : ℕ) → AllWithin IsLess es 0 i → AllWithin IsGreater es i (length es)
      → without k es ≡ es
  without_gap [] i below above = refl
  without_gap (e ∷ es) zero below above =
      ap (sifted e es) (greater_back order (publication_of e) k (above 0 e (omega arith) (omega arith)))
      ∙ ap (λ (rest : List Entry). e ∷ rest)
      (without_gap es zero (λ j d a b. absurd (omega arith)) (λ j d a b. above (suc j) d (omega arith) (omega arith)))
  without_gap (e ∷ es) (suc i) below above =
      ap (sifted e es) (less_back order (publication_of e) k (below 0 e (omega arith) (omega arith)))
      ∙ ap (λ (rest : List Entry). e ∷ rest)
      (without_gap es i (λ j d a b. below (suc j) d (omega arith) (omega arith))
      (λ j d a b. above (suc j) d (omega arith) (omega arith)))

  pub without_at : (es : List Entry) (i : ℕ) → IsCatalogue es → IsPlace k es (Ok i) → without k es ≡ remove es i
  without_at es i r (at_key j l h) = without_found es j r l h

  pub without_between : (es : List Entry) (i : ℕ) → IsPlace k es (Err i) → without k es ≡ es
  without_between es i (at_gap j l below above) = without_gap es j below above

  abbrev is_other : Pair → Bool
  is_other p = not (eq_by_cmp pair_cmp k p)

  keys-without : (es : List Entry) → map publication_of (without k es) ≡ filter is_other (map publication_of es)
  keys-without [] = refl
  keys-without (e ∷ es) = go (keys-without es) (is_of k e) where
    go : map publication_of (without k es) ≡ filter is_other (map publication_of es) → (b : Bool)
        → map publication_of (cond (not b) (e ∷ without k es) (without k es))
        ≡ cond (not b) (publication_of e ∷ filter is_other (map publication_of es))
        (filter is_other (map publication_of es))
    go h true = h
    go h false = ap (λ (rest : List Pair). publication_of e ∷ rest) h

  pub without_rises : (es : List Entry) → IsCatalogue es → IsCatalogue (without k es)
  without_rises es r =
      subst (Rises pair_cmp) (sym (keys-without es)) (rises_filter order is_other (map publication_of es) r)

-- a search for a publication that is listed ends at its entry
pub found_ok : (k : Pair) (es : List Entry) (r : Result ℕ ℕ) → lists k es ≡ true → IsPlace k es r → is_ok r ≡ true
found_ok k es (Ok i) t p = refl
found_ok k es (Err i) t p = absurd (true≢false (sym t ∙ ap is_some (no_entry_between k es i p)))

-- ---- one more entry

module _ (new : Entry) where
  abbrev placed : Entry → List Entry → Ordering → List Entry
  placed e es c = by_order c (new ∷ e ∷ es) (e ∷ es) (e ∷ with_entry new es)

  with_found : (es : List Entry) (i : ℕ) → IsCatalogue es → i < length es → HoldsAt (IsAt (publication_of new)) es i
      → with_entry new es ≡ es
  with_found [] i r l h = absurd (omega arith)
  with_found (e ∷ es) zero r l h = ap (placed e es) (equal_back order (publication_of e) (publication_of new) (h e))
  with_found (e ∷ es) (suc i) r l h =
      ap (placed e es)
      (after_prefix (publication_of new) (publication_of e) (publication_of (get_or es i e))
      (entry_before (publication_of e) es i e r.0 (omega arith)) (h e))
      ∙ ap (λ (rest : List Entry). e ∷ rest) (with_found es i r.1 (omega arith) h)

  with_gap : (es : List Entry) (i : ℕ) → i ≤ length es → AllWithin (IsLess (publication_of new)) es 0 i
      → AllWithin (IsGreater (publication_of new)) es i (length es) → with_entry new es ≡ insert es i new
  with_gap [] zero l below above = refl
  with_gap [] (suc i) l below above = absurd (omega arith)
  with_gap (e ∷ es) zero l below above =
      ap (placed e es)
      (greater_back order (publication_of e) (publication_of new) (above 0 e (omega arith) (omega arith)))
  with_gap (e ∷ es) (suc i) l below above =
      ap (placed e es) (less_back order (publication_of e) (publication_of new) (below 0 e (omega arith) (omega arith)))
      ∙ ap (λ (rest : List Entry). e ∷ rest)
      (with_gap es i (omega arith) (λ j d a b. below (suc j) d (omega arith) (omega arith))
      (λ j d a b. above (suc j) d (omega arith) (omega arith)))

  pub with_entry_at : (es : List Entry) (i : ℕ) → IsCatalogue es → IsPlace (publication_of new) es (Ok i)
      → with_entry new es ≡ es
  with_entry_at es i r (at_key j l h) = with_found es j r l h

  pub with_entry_between : (es : List Entry) (i : ℕ) → IsPlace (publication_of new) es (Err i)
      → with_entry new es ≡ insert es i new
  with_entry_between es i (at_gap j l below above) = with_gap es j l below above

  keys-with_entry : (es : List Entry)
      → map publication_of (with_entry new es) ≡ insert_key pair_cmp (publication_of new) (map publication_of es)
  keys-with_entry [] = refl
  keys-with_entry (e ∷ es) = go (keys-with_entry es) (pair_cmp (publication_of new) (publication_of e)) where
    go : map publication_of (with_entry new es) ≡ insert_key pair_cmp (publication_of new) (map publication_of es)
        → (c : Ordering)
        → map publication_of (placed e es c)
        ≡ by_order c (publication_of new ∷ publication_of e ∷ map publication_of es)
        (publication_of e ∷ map publication_of es)
        (publication_of e ∷ insert_key pair_cmp (publication_of new) (map publication_of es))
    go h Less = refl
    go h Equal = refl
    go h Greater = ap (λ (rest : List Pair). publication_of e ∷ rest) h

  pub with_entry_rises : (es : List Entry) → IsCatalogue es → IsCatalogue (with_entry new es)
  with_entry_rises es r =
      subst (Rises pair_cmp) (sym (keys-with_entry es))
      (rises_insert order (publication_of new) (map publication_of es) r)

-- ---- where a search ends

pub found_place : (es : List Entry) (k : Pair) (r : Result ℕ ℕ) → IsCatalogue es → IsSearchInRange r (length es)
    → IsBinarySearchResult (λ e. pair_cmp (publication_of e) k) es r → IsPlace k es r
found_place es k r = found order publication_of es k r
