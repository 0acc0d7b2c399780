-- What catalogues list.
use Rattle.std.proofs.Common.{◌&&◌, ◌≡◌, inl, inr, ℕ, ◌+◌, ◌≤◌, Bool, true, false, not, cond, List, [], ◌∷◌, map, refl}
use Rattle.std.proofs.Common.{sym, ap, ◌∙◌, subst, arith, Some}
use Rattle.std.proofs.lemmas.Bool.{true≢false, false_from_ne_true, and_parts, and_from, not-true, not_from_false}
use Rattle.std.proofs.lemmas.Bool.{eqb-true, eq-eqb}
use Rattle.std.proofs.lemmas.Cmp.{on_total}
use Rattle.std.specs.List.{list_any}
use Rattle.std.specs.Prelude.{filter, find, is_some, ◌==◌}
use Rattle.std.specs.Ordering.{nat_cmp}
use Rattle.std.specs.declared.cmp.Ordering.{Ordering}
use Rattle.std.proofs.Math.Bool.{and-true}
use Rattle.sorted_lists.specs.SortedList.{Rises, IsBefore}
use Rattle.repo_plan.specs.Parts.{Pair, pair_cmp, part_of}
use Rattle.repo_plan.proofs.Orders.{exact_parts, exact_pairs}
use Rattle.sorted_lists.proofs.Orders.{nat_less, nat_itself, first_less, then_second}
use Rattle.sorted_lists.proofs.Sets.{In, contains_in, in_contains, in_append, in_filter, in_map, from_map, before_each}
use Rattle.sorted_lists.proofs.Sets.{rises_append, rises_filter, eq_same, eq_itself}
use Rattle.sorted_lists.proofs.Members.{in_filtered}
use Rattle.repo_plan.proofs.Whole.{each_all, all_in}
use Rattle.repo_catalog.specs.declared.entry.Entry.{Entry}
use Rattle.repo_catalog.specs.Entries.{publication_of, is_of, lists}
use Rattle.repo_object.specs.Objects.{Post, withdraws_number}
use Rattle.group_model.specs.Publications.{is_object, withdraws, Logs, Publication, pair_in, numbered_publications}
use Rattle.group_model.specs.Publications.{published_from, published, parts_in, all_parts, published_entry, post_at}
use Rattle.group_model.specs.Publications.{is_unwithdrawn}
use Rattle.group_model.specs.Member.{Member, member_holds, holds_all, catalogue, is_listed, knows_withdrawn}
use Rattle.group_model.specs.World.{member, logs, catalogue_at}
use Rattle.group_model.specs.Sound.{IsSoundMember, IsPublished, IsDeletedSoundly}
use Rattle.group_model.specs.Catalogues.{HoldsNoWithdrawal, BelongsInCatalogue, ListsThose, ListsInOrder}
use Rattle.group_model.specs.Catalogues.{JoinListsThose, JoinListsInOrder}
use Rattle.group_model.proofs.Lists.{same_any, any_in, none_in}
use Rattle.group_model.proofs.Parts.{from_numbered, IsIn, in_published, IsPartOf, from_parts_in, in_parts_in}
use Rattle.group_model.proofs.Parts.{from_all_parts}
use Rattle.group_model.proofs.Among.{at_pair, is_published, in_all_parts}
use Rattle.group_model.specs.Reached.{InSoundGroups}
use Rattle.group_model.specs.Laws.{PartsAreThose}

-- ---- catalogues in order

abbrev publication_cmp : Publication → Publication → Ordering
publication_cmp a b = pair_cmp (pair_in a) (pair_in b)

of_published : (p : ℕ) (ls : Logs) (q : Publication) → In q (published_from p ls) → p ≤ q.publisher
of_published p [] q i = absurd i
of_published p (l ∷ ls) q i = elim (in_append (numbered_publications p 1 l) (published_from (p + 1) ls) q i) [
  | inl a ↦ let r = from_numbered p 1 l q a in omega (arith, r.0)
  | inr b ↦ let r : p + 1 ≤ q.publisher = of_published (p + 1) ls q b in omega (arith, r)
]

rises_numbered : (p s : ℕ) (os : List Post) → Rises publication_cmp (numbered_publications p s os)
rises_numbered p s [] = tt
rises_numbered p s (o ∷ os) = (
  before_each (on_total pair_in exact_pairs.total) (record { publisher = p; seq = s; post = o })
      (numbered_publications p (s + 1) os) (λ q i.
      let r = from_numbered p (s + 1) os q i in
      let later : s + 1 ≤ q.seq = r.1 in
      then_second (nat_cmp p q.publisher) _ (ap (nat_cmp p) r.0 ∙ nat_itself p)
      ∙ nat_less s q.seq (omega (arith, later))),
  rises_numbered p (s + 1) os,
)

rises_published : (p : ℕ) (ls : Logs) → Rises publication_cmp (published_from p ls)
rises_published p [] = tt
rises_published p (l ∷ ls) =
    rises_append (on_total pair_in exact_pairs.total) (numbered_publications p 1 l) (published_from (p + 1) ls)
    (rises_numbered p 1 l) (rises_published (p + 1) ls) (λ a b i k.
    let x = from_numbered p 1 l a i in
    let same : a.publisher ≡ p = x.0 in
    let more : p + 1 ≤ b.publisher = of_published (p + 1) ls b k in
    first_less (nat_cmp a.publisher b.publisher) _ (nat_less a.publisher b.publisher (omega (arith, same, more))))

before_entries : (p : Publication) (ps : List Publication) → IsBefore publication_cmp p ps
    → IsBefore pair_cmp (pair_in p) (map publication_of (map published_entry ps))
before_entries p [] b = tt
before_entries p (q ∷ ps) b = (b.0, before_entries p ps b.1)

rises_entries : (ps : List Publication) → Rises publication_cmp ps
    → Rises pair_cmp (map publication_of (map published_entry ps))
rises_entries [] r = tt
rises_entries (p ∷ ps) r = (before_entries p ps r.0, rises_entries ps r.1)

-- the entries of the publications that pass a test stand in order
entries_rise : (ls : Logs) (f : Publication → Bool)
    → Rises pair_cmp (map publication_of (map published_entry (filter f (published ls))))
entries_rise ls f =
    rises_entries (filter f (published ls))
    (rises_filter (on_total pair_in exact_pairs.total) f (published ls) (rises_published 0 ls))

pub lists_in_order : ListsInOrder
lists_in_order ls m = entries_rise ls (is_listed (published ls) m)

pub join_lists_in_order : JoinListsInOrder
join_lists_in_order ls = entries_rise ls (is_unwithdrawn (published ls))

-- ---- looking an entry up

found : {A : Type 0} (p : A → Bool) (xs : List A) (x : A) → In x xs → p x ≡ true → is_some (find p xs) ≡ true
found p [] x i h = absurd i
found {A} p (y ∷ ys) x i h = go (p y) refl i (found p ys x) where
  go : (b : Bool) → p y ≡ b → In x (y ∷ ys) → (In x ys → p x ≡ true → is_some (find p ys) ≡ true)
      → is_some (cond b (Some y) (find p ys)) ≡ true
  go true e i k = refl
  go false e (inl same) k = absurd (true≢false (sym h ∙ ap p same ∙ e))
  go false e (inr j) k = k j h

-- what was found, and that it passes
record IsFoundIn {A : Type 0} (p : A → Bool) (xs : List A) (x : A) : Type 0 where
  among : In x xs
  passes : p x ≡ true

finds : {A : Type 0} (p : A → Bool) (xs : List A) → is_some (find p xs) ≡ true → (x : A) × IsFoundIn p xs x
finds p [] h = absurd (true≢false (sym h))
finds {A} p (y ∷ ys) h = go (p y) refl h (finds p ys) where
  go : (b : Bool) → p y ≡ b → is_some (cond b (Some y) (find p ys)) ≡ true
      → (is_some (find p ys) ≡ true → (x : A) × IsFoundIn p ys x) → (x : A) × IsFoundIn p (y ∷ ys) x
  go true e h k = (y, record { among = inl refl; passes = e })
  go false e h k =
      let r : (x : A) × IsFoundIn p ys x = k h in (r.0, record { among = inr r.1.among; passes = r.1.passes })

-- a publication is the one under its pair
is_at : (ls : Logs) (q : Publication) → IsIn ls q → q ≡ at_pair ls (pair_in q)
is_at ls q there = λ i. record { publisher = q.publisher; seq = q.seq; post = there.post i }

-- what is listed of the publications that pass a test
record IsEntered (ls : Logs) (f : Publication → Bool) (pair : Pair) : Type 0 where
  there : IsPublished ls pair
  passes : f (at_pair ls pair) ≡ true

entered : (ls : Logs) (f : Publication → Bool) (pair : Pair)
    → lists pair (map published_entry (filter f (published ls))) ≡ true → IsEntered ls f pair
entered ls f pair h =
    let es : List Entry = map published_entry (filter f (published ls)) in
    let e : (x : Entry) × IsFoundIn (is_of pair) es x = finds (is_of pair) es h in
    let q : (q : Publication) × (In q (filter f (published ls))) × (e.0 ≡ published_entry q) =
    from_map published_entry (filter f (published ls)) e.0 e.1.among in
    let g : In q.0 (published ls) × (f q.0 ≡ true) = in_filtered f (published ls) q.0 q.1 in
    let there : IsIn ls q.0 = in_published ls q.0 g.0 in
    let same : pair ≡ pair_in q.0 = eq_same exact_pairs pair (pair_in q.0) (ap (is_of pair) (sym q.2) ∙ e.1.passes) in
    record {
      there = subst (IsPublished ls) (sym same) there.there;
      passes = ap (λ (r : Pair). f (at_pair ls r)) same ∙ sym (ap f (is_at ls q.0 there)) ∙ g.1;
    }

enters : (ls : Logs) (f : Publication → Bool) (pair : Pair) → IsEntered ls f pair
    → lists pair (map published_entry (filter f (published ls))) ≡ true
enters ls f pair h =
    found (is_of pair) (map published_entry (filter f (published ls))) (published_entry (at_pair ls pair))
    (in_map published_entry (filter f (published ls)) (at_pair ls pair)
    (in_filter f (published ls) (at_pair ls pair) (is_published ls pair h.there) h.passes))
    (eq_itself exact_pairs pair)

-- ---- withdrawals

-- no withdrawal of the publication passes a test
abbrev NoneWithdraws : Logs → (Publication → Bool) → Pair → Type 0
NoneWithdraws ls f pair = (u : ℕ) → IsPublished ls (pair.0, u)
    → withdraws_number (post_at ls (pair.0, u)) pair.1 ≡ true → f (at_pair ls (pair.0, u)) ≡ false

none_withdraws : (ls : Logs) (f : Publication → Bool) (pair : Pair)
    → list_any (λ q. withdraws pair q && f q) (published ls) ≡ false → NoneWithdraws ls f pair
none_withdraws ls f pair none u there is =
    let q : Publication = at_pair ls (pair.0, u) in
    false_from_ne_true (f q) (λ passes.
    true≢false
    (sym (any_in (λ r. withdraws pair r && f r) (published ls) q (is_published ls (pair.0, u) there)
    (and_from (withdraws pair q) _ (and_from (pair.0 == pair.0) _ (eq-eqb pair.0 pair.0 refl) is) passes))
    ∙ none))

withdraws_none : (ls : Logs) (f : Publication → Bool) (pair : Pair) → NoneWithdraws ls f pair
    → list_any (λ q. withdraws pair q && f q) (published ls) ≡ false
withdraws_none ls f pair h = none_in (λ q. withdraws pair q && f q) (published ls) (λ q i.
    let there : IsIn ls q = in_published ls q i in
    false_from_ne_true (withdraws pair q && f q) (λ both.
    let c : (withdraws pair q ≡ true) × (f q ≡ true) = and_parts (withdraws pair q) _ both in
    let d : ((q.publisher == pair.0) ≡ true) × (withdraws_number q.post pair.1 ≡ true) =
    and_parts (q.publisher == pair.0) _ c.0 in
    let same : q.publisher ≡ pair.0 = eqb-true q.publisher pair.0 d.0 in
    true≢false
    (sym (ap (λ (n : ℕ). f (at_pair ls (n, q.seq))) (sym same) ∙ sym (ap f (is_at ls q there)) ∙ c.1)
    ∙ h q.seq (subst (λ (n : ℕ). IsPublished ls (n, q.seq)) same there.there)
    (ap (λ (n : ℕ). withdraws_number (post_at ls (n, q.seq)) pair.1) (sym same)
    ∙ ap (λ (o : Post). withdraws_number o pair.1) (sym there.post)
    ∙ d.1))))

pub none_known : (ls : Logs) (m : Member) (pair : Pair) → knows_withdrawn (published ls) m pair ≡ false
    → HoldsNoWithdrawal ls m pair
none_known ls m pair none = none_withdraws ls (λ q. member_holds m (part_of (pair_in q) 0)) pair none

-- ---- what is listed

wholly : (ls : Logs) (m : Member) (pair : Pair) → lists pair (catalogue ls m) ≡ true → BelongsInCatalogue ls m pair
wholly ls m pair h =
    let q : Publication = at_pair ls pair in
    let e : IsEntered ls (is_listed (published ls) m) pair = entered ls (is_listed (published ls) m) pair h in
    let a : (is_object q ≡ true) × ((holds_all m q && not (knows_withdrawn (published ls) m pair)) ≡ true) =
    and_parts (is_object q) _ e.passes in
    let b : (holds_all m q ≡ true) × (not (knows_withdrawn (published ls) m pair) ≡ true) =
    and_parts (holds_all m q) _ a.1 in
    record {
      published = e.there;
      object = a.0;
      held = λ x l. each_all (member_holds m) (parts_in q) b.0 (part_of pair x)
          (in_parts_in q (part_of pair x) (record { pair = refl; counted = l }));
      not_withdrawn = none_known ls m pair (not-true (knows_withdrawn (published ls) m pair) b.1);
    }

listed : (ls : Logs) (m : Member) (pair : Pair) → BelongsInCatalogue ls m pair → lists pair (catalogue ls m) ≡ true
listed ls m pair h =
    let q : Publication = at_pair ls pair in
    let whole : holds_all m q ≡ true = all_in (member_holds m) (parts_in q) (λ t i.
    let p : IsPartOf t q = from_parts_in q t i in
    subst (λ (r : Pair). member_holds m (part_of r t.part) ≡ true) (sym p.pair) (h.held t.part p.counted)) in
    let unknown : knows_withdrawn (published ls) m pair ≡ false =
    withdraws_none ls (λ r. member_holds m (part_of (pair_in r) 0)) pair h.not_withdrawn in
    enters ls (is_listed (published ls) m) pair (record {
      there = h.published;
      passes =
          and_from (is_object q) _ h.object
          (and_from (holds_all m q) _ whole (not_from_false (knows_withdrawn (published ls) m pair) unknown));
    })

pub lists_those : InSoundGroups ListsThose
lists_those env w sound j pair l =
    let s : IsSoundMember (logs w) j (member w j) = sound.members j l in
    record {
      exactly = (wholly (logs w) (member w j) pair, listed (logs w) (member w j) pair);
      not_hidden = λ hidden. false_from_ne_true (lists pair (catalogue_at w j)) (λ yes.
          let r : IsDeletedSoundly (member w j) pair = s.hidden pair hidden in
          let held : member_holds (member w j) (part_of pair 0) ≡ true =
          (wholly (logs w) (member w j) pair yes).held 0 (omega arith) in
          true≢false (sym held ∙ r.none_held 0));
    }

-- ---- the join of all publications

-- a withdrawal that passes the test which all pass
any_withdraws : (ls : Logs) (pair : Pair)
    → list_any (λ q. withdraws pair q && true) (published ls) ≡ list_any (withdraws pair) (published ls)
any_withdraws ls pair =
    same_any (λ q. withdraws pair q && true) (withdraws pair) (published ls) (λ q i. and-true (withdraws pair q))

pub join_lists_those : JoinListsThose
join_lists_those ls pair =
    let q : Publication = at_pair ls pair in (
      λ h.
          let e : IsEntered ls (is_unwithdrawn (published ls)) pair =
          entered ls (is_unwithdrawn (published ls)) pair h in
          let a : (is_object q ≡ true) × (not (list_any (withdraws pair) (published ls)) ≡ true) =
          and_parts (is_object q) _ e.passes in
          record {
            published = e.there;
            object = a.0;
            not_withdrawn = λ u there. false_from_ne_true (withdraws_number (post_at ls (pair.0, u)) pair.1) (λ is.
                true≢false
                (none_withdraws ls (λ r. true) pair
                (any_withdraws ls pair ∙ not-true (list_any (withdraws pair) (published ls)) a.1) u there is));
          },
      λ b. enters ls (is_unwithdrawn (published ls)) pair (record {
        there = b.published;
        passes =
            and_from (is_object q) _ b.object
            (not_from_false (list_any (withdraws pair) (published ls))
            (sym (any_withdraws ls pair)
            ∙ withdraws_none ls (λ r. true) pair
            (λ u there is. absurd (true≢false (sym is ∙ b.not_withdrawn u there)))));
      }),
    )

-- ---- the parts that there are

pub parts_are_those : PartsAreThose
parts_are_those ls t = (
  λ c. from_all_parts ls t (in_contains exact_parts (all_parts ls) t c),
  λ h. contains_in exact_parts (all_parts ls) t (in_all_parts ls t h),
)
