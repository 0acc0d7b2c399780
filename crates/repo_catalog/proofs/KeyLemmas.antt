-- The order of an index's keys, and what a map in that order has after a change.
use Rattle.std.proofs.Common.{◌≡◌, ◌≢◌, inl, inr, Bool, true, false, not, ◌&&◌, ◌||◌, List, [], ◌∷◌, Some}
use Rattle.std.proofs.Common.{None, refl, sym, ap, subst, ◌∙◌}
use Rattle.std.specs.Ordering.{nat_cmp, eq_by_cmp, is_eq}
use Rattle.std.specs.declared.cmp.Ordering.{Ordering}
use Rattle.std.specs.declared.cmp.Ordering.TheVariants.{Less, Equal, Greater}
use Rattle.std.proofs.lemmas.Bool.{or_cases, or_right, or_left}
use Rattle.std.proofs.lemmas.Cmp.{nat_cmp_total, on_total, then_total}
use Rattle.sorted_lists.specs.SortedList.{by_order, keys, contains, IsBefore, Rises, without_key, first_from}
use Rattle.sorted_lists.proofs.Orders.{Exact, nat_same, nat_itself, then_equal, then_second, less_back, greater_back}
use Rattle.sorted_lists.proofs.Orders.{equal_back}
use Rattle.sorted_lists.proofs.Sets.{before_more, eq_same, eq_itself, each_before, in_contains}
use Rattle.repo_plan.specs.Parts.{pair_cmp}
use Rattle.repo_plan.proofs.Orders.{exact_pairs}
use Rattle.repo_catalog.specs.NameKeys.{Key, key_cmp, IsFirstFrom}

pub exact_keys : Exact key_cmp
exact_keys = record {
  total = then_total (on_total (λ (k : Key). k.0) nat_cmp_total) (on_total (λ (k : Key). k.1) exact_pairs.total);
  same = λ a b e.
      let one : (nat_cmp a.0 b.0 ≡ Equal) × (pair_cmp a.1 b.1 ≡ Equal) =
      then_equal (nat_cmp a.0 b.0) (pair_cmp a.1 b.1) e in
      let h : a.0 ≡ b.0 = nat_same a.0 b.0 one.0 in
      let p : a.1 ≡ b.1 = exact_pairs.same a.1 b.1 one.1 in
      λ i. (h i, p i);
  itself = λ a. then_second (nat_cmp a.0 a.0) (pair_cmp a.1 a.1) (nat_itself a.0) ∙ exact_pairs.itself a.1;
}

-- ---- a map without a key

-- a key before all others is none of them
none_before : (k : Key) (ks : List Key) → IsBefore key_cmp k ks → contains key_cmp ks k ≡ false
none_before k [] b = refl
none_before k (x ∷ xs) b = ap (λ (c : Ordering). is_eq c || contains key_cmp xs k) b.0 ∙ none_before k xs b.1

and_false : (b : Bool) → false ≡ (b && false)
and_false true = refl
and_false false = refl

-- keys that lack one
absent : (k q : Key) (ks : List Key) → contains key_cmp ks k ≡ false → (b : Bool) → eq_by_cmp key_cmp q k ≡ b
    → contains key_cmp ks q ≡ (not b && contains key_cmp ks q)
absent k q ks n true e = ap (contains key_cmp ks) (eq_same exact_keys q k e) ∙ n
absent k q ks n false e = refl

-- the first of the keys goes
first_gone : (k x q : Key) (ks : List Key) → k ≡ x → IsBefore key_cmp x ks → (b : Bool) → eq_by_cmp key_cmp q k ≡ b
    → contains key_cmp ks q ≡ (not b && (eq_by_cmp key_cmp q x || contains key_cmp ks q))
first_gone k x q ks same before true e =
    ap (contains key_cmp ks) (eq_same exact_keys q k e ∙ same) ∙ none_before x ks before
first_gone k x q ks same before false e =
    sym (ap (λ (z : Bool). z || contains key_cmp ks q) (ap (eq_by_cmp key_cmp q) (sym same) ∙ e))

-- the first of the keys stays
first_kept : (k x q : Key) (c : Bool) → key_cmp k x ≡ Greater → (b : Bool) → eq_by_cmp key_cmp q k ≡ b
    → (eq_by_cmp key_cmp q x || (not b && c)) ≡ (not b && (eq_by_cmp key_cmp q x || c))
first_kept k x q c following true e =
    ap (λ (z : Bool). z || false) (ap (λ (z : Key). eq_by_cmp key_cmp z x) (eq_same exact_keys q k e)
    ∙ ap is_eq following)
first_kept k x q c following false e = refl

not_less : (o : Ordering) → o ≢ Less → (p : Ordering) → p ≡ o → p ≢ Less
not_less o n p e h = n (sym e ∙ h)

greater_not : Greater ≢ Less
greater_not e = absurd cc

equal_not : Equal ≢ Less
equal_not e = absurd cc

module _ {V : Type 0} where
  pub contains-without : (k : Key) (es : List (Key × V)) (q : Key) → Rises key_cmp (keys es)
      → contains key_cmp (keys (without_key key_cmp k es)) q
      ≡ (not (eq_by_cmp key_cmp q k) && contains key_cmp (keys es) q)
  contains-without k [] q r = and_false (not (eq_by_cmp key_cmp q k))
  contains-without k (x ∷ xs) q r = go (contains-without k xs q r.1) (key_cmp k x.0) refl where
    go : contains key_cmp (keys (without_key key_cmp k xs)) q
        ≡ (not (eq_by_cmp key_cmp q k) && contains key_cmp (keys xs) q) → (o : Ordering) → key_cmp k x.0 ≡ o
        → contains key_cmp (keys (by_order o (x ∷ xs) xs (x ∷ without_key key_cmp k xs))) q
        ≡ (not (eq_by_cmp key_cmp q k) && (eq_by_cmp key_cmp q x.0 || contains key_cmp (keys xs) q))
    go h Less p =
        absent k q (keys (x ∷ xs))
        (none_before k (keys (x ∷ xs)) (p, before_more exact_keys.total k x.0 (keys xs) p r.0))
        (eq_by_cmp key_cmp q k) refl
    go h Equal p = first_gone k x.0 q (keys xs) (exact_keys.same k x.0 p) r.0 (eq_by_cmp key_cmp q k) refl
    go h Greater p =
        ap (λ (z : Bool). eq_by_cmp key_cmp q x.0 || z) h
        ∙ first_kept k x.0 q (contains key_cmp (keys xs) q) p (eq_by_cmp key_cmp q k) refl

  -- ---- the first from a key on

  pub first_none : (k : Key) (es : List (Key × V)) → first_from key_cmp k es ≡ None → (q : Key)
      → contains key_cmp (keys es) q ≡ true → key_cmp q k ≡ Less
  first_none k [] h q there = absurd cc
  first_none k (x ∷ xs) h q there = go (first_none k xs) (key_cmp k x.0) refl h where
    go : (first_from key_cmp k xs ≡ None → (q : Key) → contains key_cmp (keys xs) q ≡ true → key_cmp q k ≡ Less)
        → (o : Ordering) → key_cmp k x.0 ≡ o → by_order o (Some x) (Some x) (first_from key_cmp k xs) ≡ None
        → key_cmp q k ≡ Less
    go i Less p g = absurd cc
    go i Equal p g = absurd cc
    go i Greater p g = elim (or_cases (eq_by_cmp key_cmp q x.0) (contains key_cmp (keys xs) q) there) [
      | inl a ↦
          ap (λ (z : Key). key_cmp z k) (eq_same exact_keys q x.0 a) ∙ greater_back exact_keys.total k x.0 p
      | inr b ↦ i g q b
    ]

  -- the head of a map is the first from a key that it isn't before
  head_first : (k : Key) (x : Key × V) (xs : List (Key × V)) → Rises key_cmp (keys (x ∷ xs)) → key_cmp x.0 k ≢ Less
      → IsFirstFrom k (keys (x ∷ xs)) x.0
  head_first k x xs r following = record {
    there = or_left (eq_by_cmp key_cmp x.0 x.0) (contains key_cmp (keys xs) x.0) (eq_itself exact_keys x.0);
    following = following;
    least = λ q there less. elim (or_cases (eq_by_cmp key_cmp q x.0) (contains key_cmp (keys xs) q) there) [
      | inl a ↦
          let tied : key_cmp q x.0 ≡ Equal =
          ap (λ (z : Key). key_cmp z x.0) (eq_same exact_keys q x.0 a) ∙ exact_keys.itself x.0 in
          absurd (clash (sym less ∙ tied))
      | inr b ↦
          let after : key_cmp x.0 q ≡ Less =
          each_before exact_keys.total x.0 (keys xs) r.0 q (in_contains exact_keys (keys xs) q b) in
          absurd (crossed (sym less ∙ less_back exact_keys.total x.0 q after))
    ];
  } where
    clash : Less ≡ Equal → ⊥
    clash e = absurd cc

    crossed : Less ≡ Greater → ⊥
    crossed e = absurd cc

  pub first_some : (k : Key) (es : List (Key × V)) (f : Key × V) → Rises key_cmp (keys es)
      → first_from key_cmp k es ≡ Some f → IsFirstFrom k (keys es) f.0
  first_some k [] f r h = absurd cc
  first_some k (x ∷ xs) f r h = go (first_some k xs f r.1) (key_cmp k x.0) refl h where
    at_head : key_cmp x.0 k ≢ Less → Some x ≡ Some f → IsFirstFrom k (keys (x ∷ xs)) f.0
    at_head n s =
        let same : x ≡ f = cc in
        subst (λ (g : Key × V). IsFirstFrom k (keys (x ∷ xs)) g.0) same (head_first k x xs r n)

    go : (first_from key_cmp k xs ≡ Some f → IsFirstFrom k (keys xs) f.0) → (o : Ordering) → key_cmp k x.0 ≡ o
        → by_order o (Some x) (Some x) (first_from key_cmp k xs) ≡ Some f → IsFirstFrom k (keys (x ∷ xs)) f.0
    go i Less p g =
        at_head (not_less Greater greater_not (key_cmp x.0 k) (less_back exact_keys.total k x.0 p)) g
    go i Equal p g = at_head (not_less Equal equal_not (key_cmp x.0 k) (equal_back exact_keys.total k x.0 p)) g
    go i Greater p g = let later = i g in record {
      there = or_right (eq_by_cmp key_cmp f.0 x.0) (contains key_cmp (keys xs) f.0) later.there;
      following = later.following;
      least = λ q there less. elim (or_cases (eq_by_cmp key_cmp q x.0) (contains key_cmp (keys xs) q) there) [
        | inl a ↦
            ap (λ (z : Key). key_cmp z k) (eq_same exact_keys q x.0 a) ∙ greater_back exact_keys.total k x.0 p
        | inr b ↦ later.least q b less
      ];
    }
