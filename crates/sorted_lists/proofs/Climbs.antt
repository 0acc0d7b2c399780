-- Lists in order of a key that several may have: what a search finds in them, and what changes.
use Rattle.std.proofs.Common.{◌≡◌, ◌⊎◌, inl, inr, ℕ, zero, suc, ◌+◌, ◌<◌, ◌≤◌, Bool, true, false, cond, List, [], ◌∷◌}
use Rattle.std.proofs.Common.{◌++◌, length, length-append, get_or, take, drop, Some, refl, sym, ap, subst, ◌∙◌, arith}
use Rattle.std.proofs.Common.{append_assoc}
use Rattle.std.specs.Prelude.{slice_get}
use Rattle.std.specs.List.{filter, insert}
use Rattle.std.specs.List.Sorted.{IsPartitionedBy, IsPartitionPoint}
use Rattle.std.specs.Ordering.{is_lt, is_le}
use Rattle.std.specs.declared.cmp.Ordering.{Ordering}
use Rattle.std.specs.declared.cmp.Ordering.TheVariants.{Less, Equal, Greater}
use Rattle.std.proofs.lemmas.Bool.{cases_lt}
use Rattle.std.proofs.lemmas.List.{take-append-drop, take-append-le, drop-append-le, drop_more, append-nil}
use Rattle.sorted_lists.specs.Members.{In, HaveSame}
use Rattle.sorted_lists.specs.Climbing.{Climbs, IsPlaceOf}
use Rattle.sorted_lists.proofs.Orders.{Exact, greater_back}
use Rattle.sorted_lists.proofs.Sets.{in_append, append_left, append_right}
use Rattle.sorted_lists.proofs.RunOrder.{Le, lt_le, le_itself, le_trans, le_lt_trans}
use Rattle.sorted_lists.proofs.Members.{at_drop, in_at, in_prefix, in_back, in_filtered, same_then, same_is}
use Rattle.sorted_lists.proofs.Members.{same_middle, same_more, same_taken, same_whole}

less_where : (x : Ordering) → is_lt x ≡ true → x ≡ Less
less_where Less h = refl
less_where Equal h = absurd cc
less_where Greater h = absurd cc

-- keys that are the same
pub climbs_same : {A K : Type 0} (R : K → K → Ordering) (f g : A → K) (xs : List A)
    → ((x : A) → In x xs → f x ≡ g x) → Climbs R f xs → Climbs R g xs
climbs_same R f g [] agree c = tt
climbs_same R f g (x ∷ xs) agree c = (
  (λ y i. (λ j. is_le (R (sym (agree x (inl refl)) j) (sym (agree y (inr i)) j))) ∙ c.0 y i),
  climbs_same R f g xs (λ y i. agree y (inr i)) c.1,
)

module _ {A K : Type 0} {R : K → K → Ordering} (e : Exact R) (key : A → K) where
  abbrev Rising : List A → Type 0
  Rising xs = Climbs R key xs

  not_less : (a b : K) → is_lt (R a b) ≡ false → Le e b a
  not_less a b h = go (R a b) refl h where
    go : (o : Ordering) → R a b ≡ o → is_lt o ≡ false → Le e b a
    go Less p g = absurd cc
    go Equal p g = subst (λ (x : K). Le e x a) (e.same a b p) (le_itself e a)
    go Greater p g = lt_le e b a (greater_back e.total a b p)

  -- ---- parts

  climbs_both : (xs ys : List A) → Rising (xs ++ ys) → Rising xs × Rising ys
  climbs_both [] ys c = (tt, c)
  climbs_both (x ∷ xs) ys c =
      let rest : Rising xs × Rising ys = climbs_both xs ys c.1 in
      (((λ y i. c.0 y (append_left xs ys y i)), rest.0), rest.1)

  pub climbs_parts : (n : ℕ) (xs : List A) → Rising xs → Rising (take n xs) × Rising (drop n xs)
  climbs_parts n xs c = climbs_both (take n xs) (drop n xs) (subst Rising (sym (take-append-drop n xs)) c)

  pub climbs_filter : (p : A → Bool) (xs : List A) → Rising xs → Rising (filter p xs)
  climbs_filter p [] c = tt
  climbs_filter p (x ∷ xs) c = go (p x) (climbs_filter p xs c.1) where
    go : (b : Bool) → Rising (filter p xs) → Rising (cond b (x ∷ filter p xs) (filter p xs))
    go true rest = ((λ y i. c.0 y (in_filtered p xs y i).0), rest)
    go false rest = rest

  pub pairs_climb : (xs : List A) → Rising xs → (i j : ℕ) (d : A) → i < j → j < length xs
      → Le e (key (get_or xs i d)) (key (get_or xs j d))
  pairs_climb [] c i j d l m = absurd (omega arith)
  pairs_climb (x ∷ xs) c i zero d l m = absurd (omega arith)
  pairs_climb (x ∷ xs) c zero (suc j) d l m = c.0 (get_or xs j d) (in_at xs j d (omega arith))
  pairs_climb (x ∷ xs) c (suc i) (suc j) d l m = pairs_climb xs c.1 i j d (omega arith) (omega arith)

  -- what stands from a place on is what stands there, or comes after that
  after_place : (xs : List A) (i : ℕ) (x : A) → slice_get xs i ≡ Some x → Rising xs → (y : A) → In y (drop i xs)
      → Le e (key x) (key y)
  after_place [] i x is c y j = absurd cc
  after_place (z ∷ xs) zero x is c y j =
      let same : z ≡ x = cc in
      subst (λ (w : A). Le e (key w) (key y)) same (elim (let k : (y ≡ z) ⊎ In y xs = j in k) [
        | inl own ↦ subst (λ (w : A). Le e (key z) (key w)) (sym own) (le_itself e (key z))
        | inr k ↦ c.0 y k
      ])
  after_place (z ∷ xs) (suc i) x is c y j = after_place xs i x is c.1 y j

  -- ---- a search

  -- what comes before a key stands in front
  pub parted : (xs : List A) (k : K) → Rising xs → IsPartitionedBy (λ x. is_lt (R (key x) k)) xs
  parted xs k c i j d l m passes = elim (cases_lt i j) [
    | inl less ↦
        ap is_lt (le_lt_trans e (key (get_or xs i d)) (key (get_or xs j d)) k (pairs_climb xs c i j d less m)
        (less_where _ passes))
    | inr more ↦
        let same : j ≡ i = omega arith in ap (λ (n : ℕ). is_lt (R (key (get_or xs n d)) k)) (sym same) ∙ passes
  ]

  pub placed : (xs : List A) (k : K) (place : ℕ) → place ≤ length xs
      → IsPartitionPoint (λ x. is_lt (R (key x) k) ≡ true) (λ x. is_lt (R (key x) k) ≡ false) xs place
      → IsPlaceOf R key xs k place
  placed xs k place within point = record {
    within = within;
    before = λ x i. less_where _ (in_prefix (λ y. is_lt (R (key y) k) ≡ true) xs place within point.0 x i);
    after = λ x i. not_less (key x) k (in_back (λ y. is_lt (R (key y) k) ≡ false) xs place point.1 x i);
  }

  -- a key has its place in front of what does not come before it
  pub place_in_prefix : (xs : List A) (k : K) (i place : ℕ) (x : A) → Rising xs → slice_get xs i ≡ Some x
      → is_lt (R (key x) k) ≡ false → IsPlaceOf R key (take i xs) k place → IsPlaceOf R key xs k place
  place_in_prefix xs k i place x c is low at =
      subst (λ (ys : List A). IsPlaceOf R key ys k place) (take-append-drop i xs) (record {
        within = omega (arith, at.within, length-append prefix back);
        before = λ y j. at.before y (subst (In y) (take-append-le place prefix back at.within) j);
        after = λ y j.
            elim (in_append (drop place prefix) back y (subst (In y) (drop-append-le place prefix back at.within) j)) [
              | inl h ↦ at.after y h
              | inr h ↦ le_trans e k (key x) (key y) (not_less (key x) k low) (after_place xs i x is c y h)
            ];
      })
    where
      prefix : List A
      prefix = take i xs

      back : List A
      back = drop i xs

  -- ---- one more

  climbs_with : (prefix back : List A) (x : A) → Rising (prefix ++ back)
      → ((y : A) → In y prefix → Le e (key y) (key x)) → ((y : A) → In y back → Le e (key x) (key y))
      → Rising (prefix ++ x ∷ back)
  climbs_with [] back x c below above = (above, c)
  climbs_with (y ∷ prefix) back x c below above =
      (each, climbs_with prefix back x c.1 (λ z i. below z (inr i)) above) where
        each : (z : A) → In z (prefix ++ x ∷ back) → Le e (key y) (key z)
        each z i = elim (in_append prefix (x ∷ back) z i) [
          | inl j ↦ c.0 z (append_left prefix back z j)
          | inr j ↦ elim (let h : (z ≡ x) ⊎ In z back = j in h) [
            | inl own ↦ subst (λ (w : A). Le e (key y) (key w)) (sym own) (below y (inl refl))
            | inr h ↦ c.0 z (append_right prefix back z h)
          ]
        ]

  pub climbs_inserted : (xs : List A) (x : A) (place : ℕ) → Rising xs → IsPlaceOf R key xs (key x) place
      → Rising (insert xs place x)
  climbs_inserted xs x place c at =
      climbs_with (take place xs) (drop place xs) x (subst Rising (sym (take-append-drop place xs)) c)
      (λ y i. lt_le e (key y) (key x) (at.before y i)) at.after

  -- ---- merging

  -- how far others are merged into a list: the first i of them are, and no other of them comes before what is merged
  pub record Merging (old more merged rest : List A) (i : ℕ) : Type 0 where
    pub in_order : Rising (merged ++ rest)
    pub low : (m q : A) → In m merged → In q (drop i more) → Le e (key m) (key q)
    pub same : HaveSame (merged ++ rest) (old ++ take i more)

  pub merging_none : (old more merged : List A) → merged ≡ [] → Rising old → Merging old more merged old 0
  merging_none old more merged none c =
      subst (λ (m : List A). Merging old more m old 0) (sym none) (record {
        in_order = c;
        low = λ m q i j. absurd i;
        same = same_is old (old ++ []) (sym (append-nil old));
      })

  pub merging_rest : (old more merged rest : List A) (i : ℕ) → Merging old more merged rest i → Rising rest
  merging_rest old more merged rest i m = (climbs_both merged rest m.in_order).1

  pub merging_more : (old more merged rest : List A) (i place : ℕ) (d : A) → i < length more → Rising more
      → IsPlaceOf R key rest (key (get_or more i d)) place → Merging old more merged rest i
      → Merging old more ((merged ++ take place rest) ++ get_or more i d ∷ []) (drop place rest) (i + 1)
  merging_more old more merged rest i place d l climbs at m = record {
    in_order = subst Rising (sym joined) (climbs_with prefix back x (subst Rising (sym whole) m.in_order) below above);
    low = λ y q j k. elim (in_append prefix (x ∷ []) y j) [
      | inl h ↦ le_trans e (key y) (key x) (key q) (below y h) (next q k)
      | inr h ↦ elim h [
        | inl own ↦ subst (λ (w : A). Le e (key w) (key q)) (sym own) (next q k)
        | inr n ↦ absurd n
      ]
    ];
    same = same_taken old more i d l (same_then (same_is ((prefix ++ x ∷ []) ++ back) (prefix ++ x ∷ back) joined)
        (same_then (same_middle prefix x back) (same_more x (same_is (prefix ++ back) (merged ++ rest) whole)))) m.same;
  }
    where
      x : A
      x = get_or more i d

      prefix : List A
      prefix = merged ++ take place rest

      back : List A
      back = drop place rest

      joined : (prefix ++ x ∷ []) ++ back ≡ prefix ++ x ∷ back
      joined = append_assoc prefix (x ∷ []) back

      whole : prefix ++ back ≡ merged ++ rest
      whole =
          append_assoc merged (take place rest) (drop place rest)
          ∙ ap (λ (r : List A). merged ++ r) (take-append-drop place rest)

      below : (y : A) → In y prefix → Le e (key y) (key x)
      below y j = elim (in_append merged (take place rest) y j) [
        | inl h ↦ m.low y x h (at_drop more i d l)
        | inr h ↦ lt_le e (key y) (key x) (at.before y h)
      ]

      above : (y : A) → In y back → Le e (key x) (key y)
      above y j = at.after y j

      -- what is still to come does not come before it
      next : (q : A) → In q (drop (i + 1) more) → Le e (key x) (key q)
      next q k =
          let from : Rising (x ∷ drop (i + 1) more) =
          subst Rising (drop_more more i d l) (climbs_parts i more climbs).1 in
          from.0 q k

  pub merging_all : (old more merged rest : List A) (i : ℕ) → length more ≤ i → Merging old more merged rest i
      → Rising (merged ++ rest) × HaveSame (merged ++ rest) (old ++ more)
  merging_all old more merged rest i whole m = (m.in_order, same_whole old more i whole m.same)
