-- Known entries, and entries in canonical order, one entry at a time.
use Rattle.std.proofs.Common.{◌≡◌, ◌≢◌, ℕ, zero, suc, ◌<◌, ◌≤◌, Bool, true, false, cond, eqb, not, List, [], ◌∷◌, ◌++◌}
use Rattle.std.proofs.Common.{map, length, take, fold, Some, ◌+◌, add-one, refl, sym, ap, ◌∙◌, arith}
use Rattle.std.specs.Prelude.{slice_get, slice_index}
use Rattle.std.proofs.lemmas.Bool.{ne_eqb}
use Rattle.std.specs.List.{All}
use Rattle.std.specs.Map.{keys_of, values_of}
use Rattle.std.proofs.lemmas.List.Elements.{All-nil, All-cons, All-head, All-tail}
use Rattle.std.proofs.lemmas.Map.Views.{All-keys-insert_entry, All-values-insert_entry}
use Rattle.std.specs.Borrow.{Bor}
use Rattle.std.specs.BTreeMap.{insert_entry}
use Rattle.std.specs.Ordering.{match_ordering}
use Rattle.std.specs.declared.cmp.Ordering.{Ordering}
use Rattle.std.specs.declared.cmp.Ordering.TheVariants.{Less, Equal, Greater}
use Rattle.ndn_name.specs.Names.{Component}
use Rattle.ndn_name.specs.CanonicalOrder.{canonical_cmp}
use Rattle.svs_vector.specs.StateVector.{Entry}
use Rattle.svs_vector.specs.WrittenVector.{in_canonical_order, known_entries}

first_known : (b : Bool) (e : Entry) (es more : List Entry)
    → cond (not b) (e ∷ (es ++ more)) (es ++ more) ≡ cond (not b) (e ∷ es) es ++ more
first_known true e es more = refl
first_known false e es more = refl

-- the entry of the next member, where its number is not 0
pub known_more : (names : List (List Component)) (ns : List ℕ) (i : ℕ) (name : List Component)
    → slice_get names i ≡ Some name → i < length ns → slice_index ns i ≢ 0
    → known_entries (take (suc i) names) (take (suc i) ns)
    ≡ known_entries (take i names) (take i ns) ++ (name, slice_index ns i) ∷ []
known_more [] ns i name h l some = absurd cc
known_more (x ∷ names) [] i name h l some = absurd (omega arith)
known_more (x ∷ names) (n ∷ ns) zero name h l some =
    let same : x ≡ name = cc in
    rw (ne_eqb n 0 some, same) refl
known_more (x ∷ names) (n ∷ ns) (suc i) name h l some =
    rw (known_more names ns i name h (omega arith) some)
    (first_known (eqb n 0) (x, n) (known_entries (take i names) (take i ns)) ((name, slice_index ns i) ∷ []))

-- where it is 0
pub known_skip : (names : List (List Component)) (ns : List ℕ) (i : ℕ)
    → i < length names → i < length ns → slice_index ns i ≡ 0
    → known_entries (take (suc i) names) (take (suc i) ns) ≡ known_entries (take i names) (take i ns)
known_skip [] ns i l k none = absurd (omega arith)
known_skip (x ∷ names) [] i l k none = absurd (omega arith)
known_skip (x ∷ names) (n ∷ ns) zero l k none = rw none refl
known_skip (x ∷ names) (n ∷ ns) (suc i) l k none =
    rw (known_skip names ns i (omega arith) (omega arith) none) refl

-- a further entry is put in its place
pub placed_more : (so_far es : List Entry) (e : Entry)
    → fold (λ placed entry. insert_entry canonical_cmp placed entry.0 entry.1) so_far (es ++ e ∷ [])
    ≡ insert_entry canonical_cmp (fold (λ placed entry. insert_entry canonical_cmp placed entry.0 entry.1) so_far es)
    e.0 e.1
placed_more so_far [] e = refl
placed_more so_far (x ∷ es) e = placed_more (insert_entry canonical_cmp so_far x.0 x.1) es e

-- where the names are lent
abbrev shown : Bor (List Component) × ℕ → Entry
shown entry = (entry.0.now, entry.1)

lent_match : (o : Ordering) (n : ℕ) (k : Bor (List Component)) (e : Bor (List Component) × ℕ)
    (es more : List (Bor (List Component) × ℕ)) (rest : List Entry)
    → map shown more ≡ rest
    → map shown (match_ordering o ((k, n) ∷ e ∷ es) ((e.0, n) ∷ es) (e ∷ more))
    ≡ match_ordering o ((k.now, n) ∷ shown e ∷ map shown es) ((e.0.now, n) ∷ map shown es) (shown e ∷ rest)
lent_match Less n k e es more rest h = refl
lent_match Equal n k e es more rest h = refl
lent_match Greater n k e es more rest h = ap (λ (l : List Entry). shown e ∷ l) h

pub lent_placed : (es : List (Bor (List Component) × ℕ)) (k : Bor (List Component)) (n : ℕ)
    → map shown (insert_entry (λ x y. canonical_cmp x.now y.now) es k n)
    ≡ insert_entry canonical_cmp (map shown es) k.now n
lent_placed [] k n = refl
lent_placed (e ∷ es) k n =
    lent_match (canonical_cmp k.now e.0.now) n k e es (insert_entry (λ x y. canonical_cmp x.now y.now) es k n)
    (insert_entry canonical_cmp (map shown es) k.now n) (lent_placed es k n)

pub at_most_one : (b : Bool) → cond b 0 1 ≤ 1
at_most_one true = omega arith
at_most_one false = omega arith

-- ---- what is known of the members up to one, and then of that one

module _ (names : List (List Component)) (ns : List ℕ) (i : ℕ) (es : List (Bor (List Component) × ℕ))
    (so_far : map shown es ≡ in_canonical_order (known_entries (take i names) (take i ns)))
    (within : i < length ns) where
  pub known_of_next : (k : Bor (List Component)) → slice_get names i ≡ Some k.now → slice_index ns i ≢ 0
      → map shown (insert_entry (λ x y. canonical_cmp x.now y.now) es k (slice_index ns i))
      ≡ in_canonical_order (known_entries (take (i + 1) names) (take (i + 1) ns))
  known_of_next k here some =
      rw add-one (lent_placed es k (slice_index ns i)
      ∙ ap (λ (l : List Entry). insert_entry canonical_cmp l k.now (slice_index ns i)) so_far
      ∙ sym (placed_more [] (known_entries (take i names) (take i ns)) (k.now, slice_index ns i))
      ∙ ap in_canonical_order (sym (known_more names ns i k.now here within some)))

  pub nothing_of_next : i < length names → slice_index ns i ≡ 0
      → map shown es ≡ in_canonical_order (known_entries (take (i + 1) names) (take (i + 1) ns))
  nothing_of_next listed none =
      rw add-one (so_far ∙ ap in_canonical_order (sym (known_skip names ns i listed within none)))

-- ---- what holds of the names, of the numbers and of how many there are

abbrev pub put : List Entry → Entry → List Entry
put placed entry = insert_entry canonical_cmp placed entry.0 entry.1

names_placed : (P : List Component → Type 0) (so_far es : List Entry) → All P (keys_of so_far) → All P (keys_of es)
    → All P (keys_of (fold put so_far es))
names_placed P so_far [] h k = h
names_placed P so_far (e ∷ es) h k =
    names_placed P (put so_far e) es
    (All-keys-insert_entry canonical_cmp e.0 e.1 P so_far h (All-head P e.0 (keys_of es) k))
    (All-tail P e.0 (keys_of es) k)

pub names_in_order : (P : List Component → Type 0) (es : List Entry) → All P (keys_of es)
    → All P (keys_of (in_canonical_order es))
names_in_order P es h = names_placed P [] es (All-nil P) h

numbers_placed : (P : ℕ → Type 0) (so_far es : List Entry) → All P (values_of so_far) → All P (values_of es)
    → All P (values_of (fold put so_far es))
numbers_placed P so_far [] h k = h
numbers_placed P so_far (e ∷ es) h k =
    numbers_placed P (put so_far e) es
    (All-values-insert_entry canonical_cmp e.0 e.1 P so_far h (All-head P e.1 (values_of es) k))
    (All-tail P e.1 (values_of es) k)

pub numbers_in_order : (P : ℕ → Type 0) (es : List Entry) → All P (values_of es)
    → All P (values_of (in_canonical_order es))
numbers_in_order P es h = numbers_placed P [] es (All-nil P) h

length-match : (o : Ordering) (e f g : Entry) (es more : List Entry) → length more ≤ suc (length es)
    → length (match_ordering o (e ∷ g ∷ es) (f ∷ es) (g ∷ more)) ≤ suc (suc (length es))
length-match Less e f g es more h = omega arith
length-match Equal e f g es more h = omega arith
length-match Greater e f g es more h = omega (arith, h)

length-put : (es : List Entry) (e : Entry) → length (put es e) ≤ suc (length es)
length-put [] e = omega arith
length-put (x ∷ es) e = length-match (canonical_cmp e.0 x.0) e (x.0, e.1) x es (put es e) (length-put es e)

length-placed : (so_far es : List Entry) → length (fold put so_far es) ≤ length so_far + length es
length-placed so_far [] = omega arith
length-placed so_far (e ∷ es) = omega (arith, length-placed (put so_far e) es, length-put so_far e)

pub length-in_order : (es : List Entry) → length (in_canonical_order es) ≤ length es
length-in_order es = omega (arith, length-placed [] es)

length-cond : (b : Bool) (e : Entry) (es : List Entry) (n : ℕ) → length es ≤ n → length (cond b (e ∷ es) es) ≤ suc n
length-cond true e es n h = omega (arith, h)
length-cond false e es n h = omega (arith, h)

pub length-known : (names : List (List Component)) (ns : List ℕ) → length (known_entries names ns) ≤ length names
length-known [] ns = omega arith
length-known (name ∷ names) [] = omega arith
length-known (name ∷ names) (n ∷ ns) =
    length-cond (not (eqb n 0)) (name, n) (known_entries names ns) (length names) (length-known names ns)

All-cond : {A : Type 0} (f : Entry → A) (P : A → Type 0) (b : Bool) (e : Entry) (es : List Entry) → P (f e)
    → All P (map f es) → All P (map f (cond b (e ∷ es) es))
All-cond f P true e es h k = All-cons P (f e) (map f es) h k
All-cond f P false e es h k = k

pub names_known : (P : List Component → Type 0) (names : List (List Component)) (ns : List ℕ) → All P names
    → All P (keys_of (known_entries names ns))
names_known P [] ns h = All-nil P
names_known P (name ∷ names) [] h = All-nil P
names_known P (name ∷ names) (n ∷ ns) h =
    All-cond (λ e. e.0) P (not (eqb n 0)) (name, n) (known_entries names ns) (All-head P name names h)
    (names_known P names ns (All-tail P name names h))

pub numbers_known : (P : ℕ → Type 0) (names : List (List Component)) (ns : List ℕ) → All P ns
    → All P (values_of (known_entries names ns))
numbers_known P [] ns h = All-nil P
numbers_known P (name ∷ names) [] h = All-nil P
numbers_known P (name ∷ names) (n ∷ ns) h =
    All-cond (λ e. e.1) P (not (eqb n 0)) (name, n) (known_entries names ns) (All-head P n ns h)
    (numbers_known P names ns (All-tail P n ns h))
