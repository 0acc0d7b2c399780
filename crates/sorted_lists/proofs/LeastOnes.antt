-- What comes first by a key, among those of two kinds, in two lists, and in a list in order.
use Rattle.std.proofs.Common.{◌≡◌, ◌⊎◌, inl, inr, ℕ, ◌+◌, ◌<◌, ◌≤◌, Bool, true, false, cond, List, [], ◌∷◌, ◌++◌}
use Rattle.std.proofs.Common.{length, get_or, take, Option, Some, None, refl, sym, ap, subst, ◌∙◌}
use Rattle.std.specs.List.{find}
use Rattle.std.specs.Ordering.{is_gt}
use Rattle.std.specs.declared.cmp.Ordering.{Ordering}
use Rattle.std.specs.declared.cmp.Ordering.TheVariants.{Less, Equal, Greater}
use Rattle.std.proofs.lemmas.Bool.{true≢false}
use Rattle.std.proofs.lemmas.List.{take_more, take_all}
use Rattle.sorted_lists.specs.SortedList.{keys, Rises}
use Rattle.sorted_lists.specs.Members.{In, HaveSame}
use Rattle.sorted_lists.specs.Least.{Passes, IsFirstBy, IsFirstThat, lesser_by}
use Rattle.sorted_lists.proofs.Orders.{Exact, greater_back}
use Rattle.sorted_lists.proofs.Sets.{in_append, append_left, append_right}
use Rattle.sorted_lists.proofs.RunOrder.{Lt, Le, lt_le, le_itself, le_trans, lt_not_le, le_split, after_head}
use Rattle.sorted_lists.proofs.RunOrder.{unique}

-- of two keys neither comes before the other
pub le_both : {K : Type 0} {R : K → K → Ordering} (e : Exact R) (a b : K) → Le e a b → Le e b a → a ≡ b
le_both e a b p q = elim (le_split e a b p) [ inl less ↦ absurd (lt_not_le e a b less q) | inr same ↦ same ]

module _ {A K : Type 0} {R : K → K → Ordering} (e : Exact R) (key : A → K) where
  abbrev First : (A → Type 0) → Option A → Type 0
  First P r = IsFirstBy R key P r

  -- whether of two the second comes first, and what that says
  gt_cases : (a b : K) (t : Bool) → is_gt (R a b) ≡ t → ((t ≡ true) × Lt e b a) ⊎ ((t ≡ false) × Le e a b)
  gt_cases a b t h = go (R a b) refl where
    go : (o : Ordering) → R a b ≡ o → ((t ≡ true) × Lt e b a) ⊎ ((t ≡ false) × Le e a b)
    go Less p = inr (sym h ∙ ap is_gt p, lt_le e a b p)
    go Equal p = inr (sym h ∙ ap is_gt p, subst (Le e a) (e.same a b p) (le_itself e a))
    go Greater p = inl (sym h ∙ ap is_gt p, greater_back e.total a b p)

  -- the first of one kind or the first of the other is the first of both
  pub lesser_first : (P Q : A → Type 0) (a b : Option A) → First P a → First Q b
      → First (λ x. P x ⊎ Q x) (lesser_by R key a b)
  lesser_first P Q None None p q = λ x i. elim i [ inl j ↦ p x j | inr j ↦ q x j ]
  lesser_first P Q None (Some b) p q =
      record { there = inr q.there; least = λ x i. elim i [ inl j ↦ absurd (p x j) | inr j ↦ q.least x j ] }
  lesser_first P Q (Some a) None p q =
      record { there = inl p.there; least = λ x i. elim i [ inl j ↦ p.least x j | inr j ↦ absurd (q x j) ] }
  lesser_first P Q (Some a) (Some b) p q = go (is_gt (R (key a) (key b))) refl where
    go : (t : Bool) → is_gt (R (key a) (key b)) ≡ t → First (λ x. P x ⊎ Q x) (cond t (Some b) (Some a))
    go true h = record {
      there = inr q.there;
      least = λ x i. elim i [
        | inl j ↦ elim (gt_cases (key a) (key b) true h) [
          | inl less ↦ le_trans e (key b) (key a) (key x) (lt_le e (key b) (key a) less.1) (p.least x j)
          | inr le ↦ absurd (true≢false le.0)
        ]
        | inr j ↦ q.least x j
      ];
    }
    go false h = record {
      there = inl p.there;
      least = λ x i. elim i [
        | inl j ↦ p.least x j
        | inr j ↦ elim (gt_cases (key a) (key b) false h) [
          | inl gt ↦ absurd (true≢false (sym gt.0))
          | inr le ↦ le_trans e (key a) (key b) (key x) le.1 (q.least x j)
        ]
      ];
    }

  -- the first of what are the same
  pub first_same : (P Q : A → Type 0) → ((x : A) → P x → Q x) → ((x : A) → Q x → P x) → (r : Option A)
      → First P r → First Q r
  first_same P Q there back None p = λ x q. p x (back x q)
  first_same P Q there back (Some m) p = record { there = there m p.there; least = λ x q. p.least x (back x q) }

  -- ---- in lists

  pub first_of_both : (xs ys : List A) (test : A → Bool) (a b : Option A) → IsFirstThat R key xs test a
      → IsFirstThat R key ys test b → IsFirstThat R key (xs ++ ys) test (lesser_by R key a b)
  first_of_both xs ys test a b p q =
      first_same (λ x. Passes xs test x ⊎ Passes ys test x) (Passes (xs ++ ys) test)
      (λ x i. elim i [ inl j ↦ (append_left xs ys x j.0, j.1) | inr j ↦ (append_right xs ys x j.0, j.1) ])
      (λ x i. elim (in_append xs ys x i.0) [ inl j ↦ inl (j, i.1) | inr j ↦ inr (j, i.1) ]) (lesser_by R key a b)
      (lesser_first (Passes xs test) (Passes ys test) a b p q)

  -- lists that have the same, and tests that agree on what they have, find the same
  pub first_of_same : (xs ys : List A) (p q : A → Bool) → HaveSame xs ys → ((x : A) → In x xs → p x ≡ q x)
      → (r : Option A) → IsFirstThat R key xs p r → IsFirstThat R key ys q r
  first_of_same xs ys p q s agree r first =
      first_same (Passes xs p) (Passes ys q) (λ x i. (s.there x i.0, sym (agree x i.0) ∙ i.1))
      (λ x i. let j = s.back x i.0 in (j, agree x j ∙ i.1)) r first

  first_alone : (test : A → Bool) (x : A) (b : Bool) → test x ≡ b
      → IsFirstThat R key (x ∷ []) test (cond b (Some x) None)
  first_alone test x true h = record {
    there = (inl refl, h);
    least = λ y i. elim (let j : (y ≡ x) ⊎ ⊥ = i.0 in j) [
      | inl same ↦ subst (λ (z : A). Le e (key x) (key z)) (sym same) (le_itself e (key x))
      | inr n ↦ absurd n
    ];
  }
  first_alone test x false h = λ y i. elim (let j : (y ≡ x) ⊎ ⊥ = i.0 in j) [
    | inl same ↦ true≢false (sym i.1 ∙ ap test same ∙ h)
    | inr n ↦ absurd n
  ]

  lesser_none : (a : Option A) → lesser_by R key a None ≡ a
  lesser_none None = refl
  lesser_none (Some a) = refl

  -- one by one: the first of `i` elements, and then of one more
  pub first_more : (xs : List A) (test : A → Bool) (i : ℕ) (d : A) (r : Option A) → i < length xs
      → test (get_or xs i d) ≡ true → IsFirstThat R key (take i xs) test r
      → IsFirstThat R key (take (i + 1) xs) test (lesser_by R key r (Some (get_or xs i d)))
  first_more xs test i d r l h first =
      let x = get_or xs i d in
      subst (λ (ys : List A). IsFirstThat R key ys test (lesser_by R key r (Some x))) (sym (take_more xs i d l))
      (first_of_both (take i xs) (x ∷ []) test r (Some x) first (first_alone test x true h))

  pub first_past : (xs : List A) (test : A → Bool) (i : ℕ) (d : A) (r : Option A) → i < length xs
      → test (get_or xs i d) ≡ false → IsFirstThat R key (take i xs) test r
      → IsFirstThat R key (take (i + 1) xs) test r
  first_past xs test i d r l h first =
      let x = get_or xs i d in
      subst (λ (ys : List A). IsFirstThat R key ys test r) (sym (take_more xs i d l))
      (subst (IsFirstThat R key (take i xs ++ x ∷ []) test) (lesser_none r)
      (first_of_both (take i xs) (x ∷ []) test r None first (first_alone test x false h)))

  pub first_all : (xs : List A) (test : A → Bool) (i : ℕ) (r : Option A) → length xs ≤ i
      → IsFirstThat R key (take i xs) test r → IsFirstThat R key xs test r
  first_all xs test i r whole first =
      subst (λ (ys : List A). IsFirstThat R key ys test r) (take_all i xs whole) first

-- ---- in order of the keys

module _ {K V : Type 0} {R : K → K → Ordering} (e : Exact R) where
  abbrev own : K × V → K
  own y = y.0

  pub find_first : (test : K × V → Bool) (es : List (K × V)) → Rises R (keys es)
      → IsFirstThat R own es test (find test es)
  find_first test [] r = λ y i. i.0
  find_first test (x ∷ es) r = go (test x) refl (find test es) (find_first test es r.1) where
    go : (b : Bool) → test x ≡ b → (f : Option (K × V)) → IsFirstThat R own es test f
        → IsFirstThat R own (x ∷ es) test (cond b (Some x) f)
    go true h f first = record {
      there = (inl refl, h);
      least = λ y i. elim (let j : (y ≡ x) ⊎ In y es = i.0 in j) [
        | inl same ↦ subst (λ (z : K × V). Le e x.0 z.0) (sym same) (le_itself e x.0)
        | inr j ↦ lt_le e x.0 y.0 (after_head e x es r y j)
      ];
    }
    go false h f first =
        first_same e own (Passes es test) (Passes (x ∷ es) test) (λ y i. (inr i.0, i.1))
        (λ y i. elim (let j : (y ≡ x) ⊎ In y es = i.0 in j) [
          | inl same ↦ absurd (true≢false (sym i.1 ∙ ap test same ∙ h))
          | inr j ↦ (j, i.1)
        ]) f first

  -- there is one first
  pub first_is_one : (es : List (K × V)) (test : K × V → Bool) (a b : Option (K × V)) → Rises R (keys es)
      → IsFirstThat R own es test a → IsFirstThat R own es test b → a ≡ b
  first_is_one es test None None r p q = refl
  first_is_one es test None (Some b) r p q = absurd (p b q.there)
  first_is_one es test (Some a) None r p q = absurd (q a p.there)
  first_is_one es test (Some a) (Some b) r p q =
      ap (λ (x : K × V). Some x)
      (unique e es r a b p.there.0 q.there.0 (le_both e a.0 b.0 (p.least b q.there) (q.least a p.there)))
