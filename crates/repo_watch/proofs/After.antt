-- What stands after a publication among others in order.
use Rattle.std.proofs.Common.{◌≡◌, ℕ, zero, suc, ◌+◌, ◌<◌, ◌≤◌, Bool, false, cond, ◌||◌, List, [], ◌∷◌}
use Rattle.std.proofs.Common.{◌++◌, length, get_or, drop, Ok, Err, refl, sym, ap, subst, ◌∙◌, arith, append_assoc}
use Rattle.std.specs.List.{HoldsAt, AllWithin}
use Rattle.std.specs.Ordering.{is_eq, is_lt}
use Rattle.std.specs.declared.cmp.Ordering.{Ordering}
use Rattle.std.specs.declared.cmp.Ordering.TheVariants.{Less, Equal, Greater}
use Rattle.std.proofs.lemmas.List.{take_all, drop_all, append-nil}
use Rattle.sorted_lists.specs.SortedList.{insert_keys, contains, IsBefore, Rises}
use Rattle.sorted_lists.proofs.Orders.{less_back, greater_back}
use Rattle.sorted_lists.proofs.Sets.{before_more, each_before, rises_insert_keys}
use Rattle.sorted_lists.proofs.Members.{in_at, in_back, filter_whole, same_is, same_then}
use Rattle.sorted_lists.proofs.Lookups.{one_set, same_insert_keys}
use Rattle.sorted_lists.proofs.Inserted.{keys_between}
use Rattle.sorted_lists.proofs.Search.{Found}
use Rattle.sorted_lists.proofs.Search.Found.{at_key, at_gap}
use Rattle.repo_plan.specs.Parts.{Pair, pair_cmp}
use Rattle.repo_plan.proofs.Orders.{exact_pairs}
use Rattle.repo_watch.specs.Watching.{announced_after}

lacks_before : (k : Pair) (xs : List Pair) → IsBefore pair_cmp k xs → contains pair_cmp xs k ≡ false
lacks_before k [] b = refl
lacks_before k (x ∷ xs) b = ap (λ (o : Ordering). is_eq o || contains pair_cmp xs k) b.0 ∙ lacks_before k xs b.1

all_after : (k : Pair) (xs : List Pair) → IsBefore pair_cmp k xs → announced_after k xs ≡ xs
all_after k xs b =
    filter_whole (λ x. is_lt (pair_cmp k x)) xs (λ x i. ap is_lt (each_before exact_pairs.total k xs b x i))

-- the first pair is this one, stands after it, or before it
module _ (k x : Pair) (xs : List Pair) where
  pub here_after : k ≡ x → Rises pair_cmp (x ∷ xs) → announced_after k (x ∷ xs) ≡ xs
  here_after same r =
      ap (λ (z : Pair). announced_after z (x ∷ xs)) same
      ∙ ap (λ (c : Bool). cond c (x ∷ announced_after x xs) (announced_after x xs)) (ap is_lt (exact_pairs.itself x))
      ∙ all_after x xs r.0

  is_before : pair_cmp x k ≡ Greater → Rises pair_cmp (x ∷ xs) → IsBefore pair_cmp k (x ∷ xs)
  is_before h r =
      let less : pair_cmp k x ≡ Less = greater_back exact_pairs.total x k h in
      (less, before_more exact_pairs.total k x xs less r.0)

  pub past_announced : pair_cmp x k ≡ Greater → Rises pair_cmp (x ∷ xs) → contains pair_cmp (x ∷ xs) k ≡ false
  past_announced h r = lacks_before k (x ∷ xs) (is_before h r)

  pub past_after : pair_cmp x k ≡ Greater → Rises pair_cmp (x ∷ xs) → announced_after k (x ∷ xs) ≡ x ∷ xs
  past_after h r = all_after k (x ∷ xs) (is_before h r)

  ahead_after : pair_cmp x k ≡ Less → announced_after k (x ∷ xs) ≡ announced_after k xs
  ahead_after h =
      ap (λ (c : Bool). cond c (x ∷ announced_after k xs) (announced_after k xs))
      (ap is_lt (less_back exact_pairs.total x k h))

key_after : (k : Pair) (xs : List Pair) (i : ℕ) → Rises pair_cmp xs → i < length xs
    → HoldsAt (λ x. pair_cmp x k ≡ Equal) xs i → announced_after k xs ≡ drop (suc i) xs
key_after k [] i r l h = absurd (omega arith)
key_after k (x ∷ xs) zero r l h = here_after k x xs (sym (exact_pairs.same x k (h x))) r
key_after k (x ∷ xs) (suc i) r l h =
    let there : i < length xs = omega arith in
    let y : Pair = get_or xs i k in
    let before : pair_cmp x y ≡ Less = each_before exact_pairs.total x xs r.0 y (in_at xs i k there) in
    ahead_after k x xs (subst (λ (z : Pair). pair_cmp x z ≡ Less) (exact_pairs.same y k (h k)) before)
    ∙ key_after k xs i r.1 there h

gap_after : (k : Pair) (xs : List Pair) (i : ℕ) → AllWithin (λ x. pair_cmp x k ≡ Less) xs 0 i
    → AllWithin (λ x. pair_cmp x k ≡ Greater) xs i (length xs) → announced_after k xs ≡ drop i xs
gap_after k [] zero below above = refl
gap_after k [] (suc i) below above = refl
gap_after k (x ∷ xs) zero below above =
    filter_whole (λ y. is_lt (pair_cmp k y)) (x ∷ xs)
    (λ y m. ap is_lt (greater_back exact_pairs.total y k (in_back (λ z. pair_cmp z k ≡ Greater) (x ∷ xs) 0 above y m)))
gap_after k (x ∷ xs) (suc i) below above =
    ahead_after k x xs (below 0 x (omega arith) (omega arith))
    ∙ gap_after k xs i (λ j d a b. below (suc j) d (omega arith) (omega arith))
    (λ j d a b. above (suc j) d (omega arith) (omega arith))

-- what a search finds
pub found_after : (k : Pair) (xs : List Pair) (i : ℕ) → Rises pair_cmp xs → Found pair_cmp (λ x. x) xs k (Ok i)
    → announced_after k xs ≡ drop (i + 1) xs
found_after k xs i r (at_key j l h) =
    let next : suc j ≡ j + 1 = omega arith in
    subst (λ (n : ℕ). announced_after k xs ≡ drop n xs) next (key_after k xs j r l h)

pub missed_after : (k : Pair) (xs : List Pair) (i : ℕ) → Found pair_cmp (λ x. x) xs k (Err i)
    → announced_after k xs ≡ drop i xs
missed_after k xs i (at_gap j l below above) = gap_after k xs j below above

-- ---- more that is told

-- where all of it stands after what was reported
pub added_after : (k : Pair) (ks xs : List Pair) (i : ℕ) → length xs ≤ i → Rises pair_cmp xs → Rises pair_cmp (k ∷ ks)
    → Found pair_cmp (λ x. x) xs k (Err i) → insert_keys pair_cmp (k ∷ ks) xs ≡ xs ++ k ∷ ks
added_after k ks xs i long r s at =
    keys_between exact_pairs k ks xs i r s at
    ∙ ap (λ (ys : List Pair). (ys ++ k ∷ []) ++ insert_keys pair_cmp ks (drop i xs)) (take_all i xs long)
    ∙ ap (λ (ys : List Pair). (xs ++ k ∷ []) ++ insert_keys pair_cmp ks ys) (drop_all i xs long)
    ∙ ap (λ (ys : List Pair). (xs ++ k ∷ []) ++ ys) (only_these ks s.1)
    ∙ append_assoc xs (k ∷ []) ks where
      only_these : (ps : List Pair) → Rises pair_cmp ps → insert_keys pair_cmp ps [] ≡ ps
      only_these ps q =
          one_set exact_pairs (insert_keys pair_cmp ps []) ps (rises_insert_keys exact_pairs ps [] tt) q
          (same_then (same_insert_keys exact_pairs ps []) (same_is (ps ++ []) ps (append-nil ps)))
