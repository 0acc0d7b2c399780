-- The laws of a catalogue's changes and look-ups.
use Rattle.std.proofs.Common.{◌≡◌, ◌≢◌, Bool, true, false, cond, not, ◌&&◌, List, [], ◌∷◌, map, Option, Some, None}
use Rattle.std.proofs.Common.{refl, sym, ap, subst, ◌∙◌}
use Rattle.std.specs.Prelude.{MatchOption, is_some}
use Rattle.std.specs.Ordering.{eq_by_cmp, is_eq}
use Rattle.std.specs.declared.cmp.Ordering.{Ordering}
use Rattle.std.specs.declared.cmp.Ordering.TheVariants.{Less, Equal, Greater}
use Rattle.std.proofs.lemmas.Bool.{true≢false}
use Rattle.std.proofs.lemmas.Cmp.{tied_itself}
use Rattle.ndn_name.specs.Names.{Component}
use Rattle.ndn_name.specs.CanonicalOrder.{canonical_cmp, canonical_cmp_total}
use Rattle.ndn_name.proofs.Prefixes.{canonical_cmp-equal}
use Rattle.repo_plan.specs.Parts.{Pair, pair_cmp}
use Rattle.sorted_lists.specs.SortedList.{by_order, IsBefore}
use Rattle.sorted_lists.proofs.Orders.{less_back, greater_back, equal_from_is_eq}
use Rattle.repo_plan.proofs.Orders.{exact_pairs}
use Rattle.sorted_lists.proofs.Sets.{before_more, eq_same, eq_itself}
use Rattle.repo_catalog.specs.declared.entry.Entry.{Entry}
use Rattle.repo_catalog.specs.Entries.{publication_of, is_of, entry_has_name, entry_of, lists, first_named, with_entry}
use Rattle.repo_catalog.specs.Entries.{without, IsCatalogue}
use Rattle.repo_catalog.specs.Laws.{AddsOne, RemovesOne, EntriesTellAll, IsListed, IsLeastNamed, NoEntryHasName}
use Rattle.repo_catalog.specs.Laws.{FirstIsLeast}

-- ---- keys

of_same : (k : Pair) (e : Entry) → is_of k e ≡ true → k ≡ publication_of e
of_same k e = eq_same exact_pairs k (publication_of e)

of_itself : (e : Entry) → is_of (publication_of e) e ≡ true
of_itself e = eq_itself exact_pairs (publication_of e)

-- a key before another is not that one
not_of : (k : Pair) (e : Entry) → pair_cmp k (publication_of e) ≡ Less → is_of k e ≡ false
not_of k e h = ap is_eq h

not_of_back : (k : Pair) (e : Entry) → pair_cmp (publication_of e) k ≡ Less → is_of k e ≡ false
not_of_back k e h = ap is_eq (less_back exact_pairs.total (publication_of e) k h)

none_before : (k : Pair) (es : List Entry) → IsBefore pair_cmp k (map publication_of es) → entry_of k es ≡ None
none_before k [] b = refl
none_before k (e ∷ es) b = ap (λ (c : Bool). cond c (Some e) (entry_of k es)) (not_of k e b.0) ∙ none_before k es b.1

-- ---- one more

module _ (e : Entry) (k : Pair) where
  abbrev p : Pair
  p = publication_of e

  and_true : (b : Bool) (rest : Option Entry) → cond b (Some e) rest ≡ cond (b && true) (Some e) rest
  and_true true rest = refl
  and_true false rest = refl

  -- the entry stands before all others
  in_prefix : (es : List Entry) → IsBefore pair_cmp p (map publication_of es) → (b : Bool) → is_of k e ≡ b
      → cond b (Some e) (entry_of k es) ≡ cond (b && not (lists k es)) (Some e) (entry_of k es)
  in_prefix es before true h =
      let none : entry_of k es ≡ None = ap (λ (q : Pair). entry_of q es) (of_same k e h) ∙ none_before p es before in
      sym (ap (λ (o : Option Entry). cond (not (is_some o)) (Some e) (entry_of k es)) none)
  in_prefix es before false h = refl

  -- there is one of its publication
  in_place : (x : Entry) (es : List Entry) → p ≡ publication_of x → (b : Bool) → is_of k e ≡ b
      → entry_of k (x ∷ es) ≡ cond (b && not (lists k (x ∷ es))) (Some e) (entry_of k (x ∷ es))
  in_place x es same true h =
      let here : is_of k x ≡ true = ap (λ (q : Pair). eq_by_cmp pair_cmp k q) (sym same) ∙ h in
      let there : lists k (x ∷ es) ≡ true = ap (λ (c : Bool). is_some (cond c (Some x) (entry_of k es))) here in
      sym (ap (λ (c : Bool). cond (not c) (Some e) (entry_of k (x ∷ es))) there)
  in_place x es same false h = refl

  -- it stands after another
  following : (x : Entry) (es : List Entry) (b c : Bool)
      → cond c (Some x) (cond (b && not (lists k es)) (Some e) (entry_of k es))
      ≡ cond (b && not (is_some (cond c (Some x) (entry_of k es)))) (Some e) (cond c (Some x) (entry_of k es))
  following x es true true = refl
  following x es true false = refl
  following x es false true = refl
  following x es false false = refl

  adds : (es : List Entry) → IsCatalogue es
      → entry_of k (with_entry e es) ≡ cond (is_of k e && not (lists k es)) (Some e) (entry_of k es)
  adds [] r = and_true (is_of k e) None
  adds (x ∷ xs) r = go (adds xs r.1) (pair_cmp p (publication_of x)) refl where
    go : entry_of k (with_entry e xs) ≡ cond (is_of k e && not (lists k xs)) (Some e) (entry_of k xs) → (o : Ordering)
        → pair_cmp p (publication_of x) ≡ o
        → entry_of k (by_order o (e ∷ x ∷ xs) (x ∷ xs) (x ∷ with_entry e xs))
        ≡ cond (is_of k e && not (lists k (x ∷ xs))) (Some e) (entry_of k (x ∷ xs))
    go h Less o =
        in_prefix (x ∷ xs) (o, before_more exact_pairs.total p (publication_of x) (map publication_of xs) o r.0)
        (is_of k e) refl
    go h Equal o = in_place x xs (exact_pairs.same p (publication_of x) o) (is_of k e) refl
    go h Greater o =
        ap (λ (rest : Option Entry). cond (is_of k x) (Some x) rest) h ∙ following x xs (is_of k e) (is_of k x)

pub adds_one : AddsOne
adds_one e es k = adds e k es

-- ---- one less

module _ (gone k : Pair) where
  -- the entry that goes
  went : (x : Entry) (es : List Entry) → is_of gone x ≡ true → (b : Bool) → eq_by_cmp pair_cmp k gone ≡ b
      → cond b None (entry_of k es) ≡ cond b None (entry_of k (x ∷ es))
  went x es h true e = refl
  went x es h false e =
      let other : is_of k x ≡ false = ap (eq_by_cmp pair_cmp k) (sym (of_same gone x h)) ∙ e in
      sym (ap (λ (c : Bool). cond c (Some x) (entry_of k es)) other)

  -- an entry that stays
  stays : (x : Entry) (es : List Entry) → is_of gone x ≡ false → (b : Bool) → eq_by_cmp pair_cmp k gone ≡ b
      → cond (is_of k x) (Some x) (cond b None (entry_of k es)) ≡ cond b None (entry_of k (x ∷ es))
  stays x es h true e =
      let other : is_of k x ≡ false = ap (λ (q : Pair). is_of q x) (eq_same exact_pairs k gone e) ∙ h in
      ap (λ (c : Bool). cond c (Some x) None) other
  stays x es h false e = refl

  removes : (es : List Entry) → entry_of k (without gone es) ≡ cond (eq_by_cmp pair_cmp k gone) None (entry_of k es)
  removes [] = none (eq_by_cmp pair_cmp k gone) where
    none : (b : Bool) → let n : Option Entry = None in n ≡ cond b n n
    none true = refl
    none false = refl
  removes (x ∷ xs) = go (removes xs) (is_of gone x) refl where
    go : entry_of k (without gone xs) ≡ cond (eq_by_cmp pair_cmp k gone) None (entry_of k xs) → (b : Bool)
        → is_of gone x ≡ b
        → entry_of k (cond (not b) (x ∷ without gone xs) (without gone xs))
        ≡ cond (eq_by_cmp pair_cmp k gone) None (entry_of k (x ∷ xs))
    go h true e = h ∙ went x xs e (eq_by_cmp pair_cmp k gone) refl
    go h false e =
        ap (λ (rest : Option Entry). cond (is_of k x) (Some x) rest) h ∙ stays x xs e (eq_by_cmp pair_cmp k gone) refl

pub removes_one : RemovesOne
removes_one gone es k = removes gone k es

-- ---- all entries

-- a publication that one list has and the other doesn't
apart : (k : Pair) (e : Entry) (a b : List Entry) → entry_of k a ≡ Some e → entry_of k b ≡ None
    → entry_of k a ≡ entry_of k b → ⊥
apart k e a b some none same = absurd cc

first_entry : (x : Entry) (xs : List Entry) → entry_of (publication_of x) (x ∷ xs) ≡ Some x
first_entry x xs = ap (λ (c : Bool). cond c (Some x) (entry_of (publication_of x) xs)) (of_itself x)

-- the tails have the same entries, where both heads are of one publication
tails_tell : (x y : Entry) (xs ys : List Entry) → publication_of x ≡ publication_of y → IsCatalogue (x ∷ xs)
    → IsCatalogue (y ∷ ys) → ((k : Pair) → entry_of k (x ∷ xs) ≡ entry_of k (y ∷ ys)) → (k : Pair)
    → entry_of k xs ≡ entry_of k ys
tails_tell x y xs ys same r s h k = go (is_of k x) refl where
  head : is_of k y ≡ is_of k x
  head = ap (λ (q : Pair). eq_by_cmp pair_cmp k q) (sym same)

  go : (b : Bool) → is_of k x ≡ b → entry_of k xs ≡ entry_of k ys
  go true e =
      let at_x : k ≡ publication_of x = of_same k x e in
      let left : entry_of k xs ≡ None = ap (λ (q : Pair). entry_of q xs) at_x ∙ none_before (publication_of x) xs r.0 in
      let right : entry_of k ys ≡ None =
      ap (λ (q : Pair). entry_of q ys) (at_x ∙ same) ∙ none_before (publication_of y) ys s.0 in
      left ∙ sym right
  go false e =
      sym (ap (λ (c : Bool). cond c (Some x) (entry_of k xs)) e)
      ∙ h k
      ∙ ap (λ (c : Bool). cond c (Some y) (entry_of k ys)) (head ∙ e)

pub entries_tell_all : EntriesTellAll
entries_tell_all [] [] r s h = refl
entries_tell_all [] (y ∷ ys) r s h =
    absurd (apart (publication_of y) y (y ∷ ys) [] (first_entry y ys) refl (sym (h (publication_of y))))
entries_tell_all (x ∷ xs) [] r s h =
    absurd (apart (publication_of x) x (x ∷ xs) [] (first_entry x xs) refl (h (publication_of x)))
entries_tell_all (x ∷ xs) (y ∷ ys) r s h =
    go (λ t. entries_tell_all xs ys r.1 s.1 t) (pair_cmp (publication_of x) (publication_of y)) refl where
      go : (((k : Pair) → entry_of k xs ≡ entry_of k ys) → xs ≡ ys) → (o : Ordering)
          → pair_cmp (publication_of x) (publication_of y) ≡ o → x ∷ xs ≡ y ∷ ys
      go t Less o =
          absurd (apart (publication_of x) x (x ∷ xs) (y ∷ ys) (first_entry x xs)
          (none_before (publication_of x) (y ∷ ys)
          (o, before_more exact_pairs.total (publication_of x) (publication_of y) (map publication_of ys) o s.0))
          (h (publication_of x)))
      go t Equal o =
          let same : publication_of x ≡ publication_of y = exact_pairs.same (publication_of x) (publication_of y) o in
          let there : entry_of (publication_of x) (y ∷ ys) ≡ Some y =
          ap (λ (q : Pair). entry_of q (y ∷ ys)) same ∙ first_entry y ys in
          let both : Some x ≡ Some y = sym (first_entry x xs) ∙ h (publication_of x) ∙ there in
          let heads : x ≡ y = cc in
          let rest : xs ≡ ys = t (tails_tell x y xs ys same r s h) in
          λ i. heads i ∷ rest i
      go t Greater o =
          let back : pair_cmp (publication_of y) (publication_of x) ≡ Less =
          greater_back exact_pairs.total (publication_of x) (publication_of y) o in
          absurd (apart (publication_of y) y (y ∷ ys) (x ∷ xs) (first_entry y ys)
          (none_before (publication_of y) (x ∷ xs)
          (back, before_more exact_pairs.total (publication_of y) (publication_of x) (map publication_of xs) back r.0))
          (sym (h (publication_of y))))

-- ---- the first of a name

pub named : (name : List Component) (e : Entry) → entry_has_name name e ≡ true → e.name ≡ name
named name e h = canonical_cmp-equal e.name name (equal_from_is_eq (canonical_cmp e.name name) h)

has_named : (name : List Component) (e : Entry) → e.name ≡ name → entry_has_name name e ≡ true
has_named name e same =
    ap (λ (n : List Component). eq_by_cmp canonical_cmp e.name n) (sym same)
    ∙ ap is_eq (tied_itself canonical_cmp_total e.name)

-- what is listed after an entry is of a later publication
listed_after : (k q : Pair) (es : List Entry) (f : Entry) → IsBefore pair_cmp k (map publication_of es)
    → entry_of q es ≡ Some f → pair_cmp k (publication_of f) ≡ Less
listed_after k q [] f b h = absurd cc
listed_after k q (x ∷ xs) f b h = go (listed_after k q xs f b.1) (is_of q x) h where
  go : (entry_of q xs ≡ Some f → pair_cmp k (publication_of f) ≡ Less) → (c : Bool)
      → cond c (Some x) (entry_of q xs) ≡ Some f → pair_cmp k (publication_of f) ≡ Less
  go r true e = let same : x ≡ f = cc in subst (λ (g : Entry). pair_cmp k (publication_of g) ≡ Less) same b.0
  go r false e = r e

-- an entry of a list is its first or is listed after it
pub data IsIn (x : Entry) (xs : List Entry) (f : Entry) : Type 0 where
  first : x ≡ f → IsIn x xs f
  later : IsListed xs f → IsIn x xs f

is_in : (x : Entry) (xs : List Entry) (f : Entry) → IsListed (x ∷ xs) f → IsIn x xs f
is_in x xs f h = go (is_of (publication_of f) x) h where
  go : (b : Bool) → cond b (Some x) (entry_of (publication_of f) xs) ≡ Some f → IsIn x xs f
  go true e = first cc
  go false e = later e

listed_later : (x e : Entry) (xs : List Entry) → IsBefore pair_cmp (publication_of x) (map publication_of xs)
    → IsListed xs e → IsListed (x ∷ xs) e
listed_later x e xs b h =
    let other : is_of (publication_of e) x ≡ false =
    not_of_back (publication_of e) x (listed_after (publication_of x) (publication_of e) xs e b h) in
    ap (λ (c : Bool). cond c (Some x) (entry_of (publication_of e) xs)) other ∙ h

not_less : (x f : Entry) → pair_cmp (publication_of x) (publication_of f) ≡ Less
    → pair_cmp (publication_of f) (publication_of x) ≢ Less
not_less x f h e = let back = less_back exact_pairs.total (publication_of x) (publication_of f) h in absurd cc

module _ (name : List Component) where
  abbrev IsAnswer : List Entry → Option Entry → Type 0
  IsAnswer es o = MatchOption o (NoEntryHasName name es) (IsLeastNamed name es)

  here : (x : Entry) (xs : List Entry) → IsCatalogue (x ∷ xs) → entry_has_name name x ≡ true
      → IsLeastNamed name (x ∷ xs) x
  here x xs r h = record {
    listed = first_entry x xs;
    named = named name x h;
    least = λ f l n. elim (is_in x xs f l) [
      | first same ↦ λ e.
          let tied : pair_cmp (publication_of f) (publication_of x) ≡ Equal =
          ap (λ (g : Entry). pair_cmp (publication_of f) (publication_of g)) same
          ∙ exact_pairs.itself (publication_of f) in
          absurd cc
      | later following ↦ not_less x f (listed_after (publication_of x) (publication_of f) xs f r.0 following)
    ];
  }

  differs : (x f : Entry) → entry_has_name name x ≡ false → x ≡ f → f.name ≢ name
  differs x f h same n = true≢false (sym (has_named name x (ap (λ (g : Entry). g.name) same ∙ n)) ∙ h)

  later_on : (x : Entry) (xs : List Entry) → IsCatalogue (x ∷ xs) → entry_has_name name x ≡ false → (o : Option Entry)
      → IsAnswer xs o → IsAnswer (x ∷ xs) o
  later_on x xs r h None none =
      λ f l. elim (is_in x xs f l) [ first same ↦ differs x f h same | later following ↦ none f following ]
  later_on x xs r h (Some e) least = record {
    listed = listed_later x e xs r.0 least.listed;
    named = least.named;
    least = λ f l n. elim (is_in x xs f l) [
      | first same ↦ absurd (differs x f h same n)
      | later following ↦ least.least f following n
    ];
  }

  least_first : (es : List Entry) → IsCatalogue es → IsAnswer es (first_named name es)
  least_first [] r = λ f l. absurd cc
  least_first (x ∷ xs) r = go (least_first xs r.1) (entry_has_name name x) refl where
    go : IsAnswer xs (first_named name xs) → (b : Bool) → entry_has_name name x ≡ b
        → IsAnswer (x ∷ xs) (cond b (Some x) (first_named name xs))
    go a true h = here x xs r h
    go a false h = later_on x xs r h (first_named name xs) a

pub first_is_least : FirstIsLeast
first_is_least name es = least_first name es
