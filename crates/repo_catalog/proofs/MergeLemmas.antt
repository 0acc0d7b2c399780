-- Entries in order that are taken from the last to the first.
use Rattle.std.proofs.Common.{◌≡◌, ℕ, zero, suc, ◌≤◌, Bool, true, false, cond, not, ◌&&◌, List, [], ◌∷◌, ◌++◌, map}
use Rattle.std.proofs.Common.{Option, Some, None, refl, sym, ap, ◌∙◌, take, length, arith}
use Rattle.std.specs.Prelude.{is_some}
use Rattle.std.specs.List.{insert}
use Rattle.std.specs.Option.{option_or}
use Rattle.std.specs.Ordering.{is_eq}
use Rattle.std.specs.declared.cmp.Ordering.{Ordering}
use Rattle.std.specs.declared.cmp.Ordering.TheVariants.{Less, Equal, Greater}
use Rattle.std.proofs.lemmas.List.Folds.{find-append}
use Rattle.repo_plan.specs.Parts.{Pair, pair_cmp}
use Rattle.repo_plan.proofs.Orders.{exact_pairs}
use Rattle.sorted_lists.specs.SortedList.{by_order, IsBefore}
use Rattle.sorted_lists.proofs.Orders.{less_back}
use Rattle.sorted_lists.proofs.Sets.{before_more, eq_same}
use Rattle.repo_catalog.specs.declared.entry.Entry.{Entry}
use Rattle.repo_catalog.specs.Entries.{publication_of, is_of, entry_of, with_entry, IsCatalogue}
use Rattle.repo_catalog.proofs.LawLemmas.{adds_one}

abbrev pub IsAhead : Entry → List Entry → Type 0
IsAhead x es = IsBefore pair_cmp (publication_of x) (map publication_of es)

-- ---- what is still to be added stands in front of an entry and of what was set aside

pub rest_rises : (fs es : List Entry) → IsCatalogue (fs ++ es) → IsCatalogue es
rest_rises [] es r = r
rest_rises (f ∷ fs) es r = rest_rises fs es r.1

ahead_prefix : (x : Entry) (es more : List Entry) → IsAhead x (es ++ more) → IsAhead x es
ahead_prefix x [] more b = tt
ahead_prefix x (e ∷ es) more b = (b.0, ahead_prefix x es more b.1)

pub prefix_rises : (es more : List Entry) → IsCatalogue (es ++ more) → IsCatalogue es
prefix_rises [] more r = tt
prefix_rises (e ∷ es) more r = (ahead_prefix e es more r.0, prefix_rises es more r.1)

ahead_dropped : (f x : Entry) (fs es : List Entry) → IsAhead f (fs ++ x ∷ es) → IsAhead f (fs ++ es)
ahead_dropped f x [] es b = b.1
ahead_dropped f x (g ∷ fs) es b = (b.0, ahead_dropped f x fs es b.1)

pub rises_dropped : (fs es : List Entry) (x : Entry) → IsCatalogue (fs ++ x ∷ es) → IsCatalogue (fs ++ es)
rises_dropped [] es x r = r.1
rises_dropped (f ∷ fs) es x r = (ahead_dropped f x fs es r.0, rises_dropped fs es x r.1)

ahead_of : (f x : Entry) (fs es : List Entry) → IsAhead f (fs ++ x ∷ es)
    → pair_cmp (publication_of f) (publication_of x) ≡ Less
ahead_of f x [] es b = b.0
ahead_of f x (g ∷ fs) es b = ahead_of f x fs es b.1

ahead_joined : (f x : Entry) (fs es more : List Entry) → IsAhead f (fs ++ x ∷ es) → IsAhead x more
    → IsAhead f (fs ++ x ∷ more)
ahead_joined f x [] es more b a =
    (b.0, before_more exact_pairs.total (publication_of f) (publication_of x) (map publication_of more) b.0 a)
ahead_joined f x (g ∷ fs) es more b a = (b.0, ahead_joined f x fs es more b.1 a)

pub rises_joined : (fs es more : List Entry) (x : Entry) → IsCatalogue (fs ++ x ∷ es) → IsCatalogue (x ∷ more)
    → IsCatalogue (fs ++ x ∷ more)
rises_joined [] es more x r s = s
rises_joined (f ∷ fs) es more x r s = (ahead_joined f x fs es more r.0 s.0, rises_joined fs es more x r.1 s)

pub none_ahead : (fs es : List Entry) (x : Entry) → IsCatalogue (fs ++ x ∷ es) → entry_of (publication_of x) fs ≡ None
none_ahead [] es x r = refl
none_ahead (f ∷ fs) es x r =
    let before = ahead_of f x fs es r.0 in
    ap (λ (o : Ordering). cond (is_eq o) (Some f) (entry_of (publication_of x) fs))
    (less_back exact_pairs.total (publication_of f) (publication_of x) before)
    ∙ none_ahead fs es x r.1

pub none_after : (x : Entry) (es : List Entry) → IsAhead x es → entry_of (publication_of x) es ≡ None
none_after x [] b = refl
none_after x (e ∷ es) b =
    ap (λ (o : Ordering). cond (is_eq o) (Some e) (entry_of (publication_of x) es)) b.0 ∙ none_after x es b.1

-- ---- an entry's place in front of what was set aside

added_ahead : (x : Entry) (es : List Entry) → IsAhead x es → with_entry x es ≡ x ∷ es
added_ahead x [] b = refl
added_ahead x (e ∷ es) b =
    ap (λ (o : Ordering). by_order o (x ∷ e ∷ es) (e ∷ es) (e ∷ with_entry x es)) b.0

pub with_entry-append : (x : Entry) (es aside : List Entry) → IsAhead x aside
    → with_entry x (es ++ aside) ≡ with_entry x es ++ aside
with_entry-append x [] aside b = added_ahead x aside b
with_entry-append x (e ∷ es) aside b =
    go (with_entry-append x es aside b) (pair_cmp (publication_of x) (publication_of e)) where
      go : with_entry x (es ++ aside) ≡ with_entry x es ++ aside → (o : Ordering)
          → by_order o (x ∷ e ∷ (es ++ aside)) (e ∷ (es ++ aside)) (e ∷ with_entry x (es ++ aside))
          ≡ by_order o (x ∷ e ∷ es) (e ∷ es) (e ∷ with_entry x es) ++ aside
      go h Less = refl
      go h Equal = refl
      go h Greater = ap (λ (rest : List Entry). e ∷ rest) h

tail_same : (e : Entry) (xs ys : List Entry) → e ∷ xs ≡ e ∷ ys → xs ≡ ys
tail_same e xs ys h = cc

-- what is set aside from the place on makes room for the entry
pub inserted_between : (es : List Entry) (i : ℕ) (x : Entry) (aside more : List Entry) → i ≤ length es
    → take i es ++ more ≡ es ++ aside → insert es i x ++ aside ≡ take i es ++ x ∷ more
inserted_between es zero x aside more l h = ap (λ (rest : List Entry). x ∷ rest) (sym h)
inserted_between [] (suc i) x aside more l h = absurd (omega arith)
inserted_between (e ∷ es) (suc i) x aside more l h =
    ap (λ (rest : List Entry). e ∷ rest)
    (inserted_between es i x aside more (omega arith) (tail_same e (take i es ++ more) (es ++ aside) h))

-- ---- what is listed, with what is still to be added

last_of : (fs : List Entry) (x : Entry) (k : Pair)
    → entry_of k (fs ++ x ∷ []) ≡ option_or (entry_of k fs) (cond (is_of k x) (Some x) None)
last_of fs x k = find-append (is_of k) fs (x ∷ [])

known_last : (x : Entry) (b : Bool) (o a : Option Entry) → (b ≡ true → is_some o ≡ true)
    → option_or o (option_or a (cond b (Some x) None)) ≡ option_or o a
known_last x b (Some y) a there = refl
known_last x true None a there = absurd (clash (there refl)) where
  clash : false ≡ true → ⊥
  clash c = absurd cc
known_last x false None None there = refl
known_last x false None (Some y) there = refl

pub passed_by : (es fs : List Entry) (x : Entry) (k : Pair) → is_some (entry_of (publication_of x) es) ≡ true
    → option_or (entry_of k es) (entry_of k (fs ++ x ∷ [])) ≡ option_or (entry_of k es) (entry_of k fs)
passed_by es fs x k there =
    ap (option_or (entry_of k es)) (last_of fs x k)
    ∙ known_last x (is_of k x) (entry_of k es) (entry_of k fs)
    (λ t. ap (λ (p : Pair). is_some (entry_of p es)) (eq_same exact_pairs k (publication_of x) t) ∙ there)

new_last : (x : Entry) (b : Bool) (o a : Option Entry) → (b ≡ true → a ≡ None)
    → option_or (cond (b && not (is_some o)) (Some x) o) a ≡ option_or o (option_or a (cond b (Some x) None))
new_last x true None a none = sym (ap (λ (z : Option Entry). option_or z (Some x)) (none refl))
new_last x true (Some y) a none = refl
new_last x false None None none = refl
new_last x false None (Some y) none = refl
new_last x false (Some y) a none = refl

pub taken_in : (es fs : List Entry) (x : Entry) (k : Pair) → IsCatalogue es → entry_of (publication_of x) fs ≡ None
    → option_or (entry_of k (with_entry x es)) (entry_of k fs)
    ≡ option_or (entry_of k es) (entry_of k (fs ++ x ∷ []))
taken_in es fs x k r none =
    ap (λ (o : Option Entry). option_or o (entry_of k fs)) (adds_one x es k r)
    ∙ new_last x (is_of k x) (entry_of k es) (entry_of k fs)
    (λ t. ap (λ (p : Pair). entry_of p fs) (eq_same exact_pairs k (publication_of x) t) ∙ none)
    ∙ sym (ap (option_or (entry_of k es)) (last_of fs x k))

pub no_items : (xs : List Entry) → length xs ≡ 0 → xs ≡ []
no_items [] h = refl
no_items (x ∷ xs) h = absurd (omega arith)
