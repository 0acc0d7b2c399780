-- Publications and parts that there are.
use Rattle.std.proofs.Common.{◌≡◌, inl, inr, ℕ, suc, zero, ◌+◌, ◌-◌, ◌≤◌, ◌<◌, List, [], ◌∷◌, ◌++◌, map, length, get_or}
use Rattle.std.proofs.Common.{refl, sym, ap, ◌∙◌, subst, arith, append_assoc}
use Rattle.std.proofs.lemmas.Bool.{cases_lt}
use Rattle.std.proofs.lemmas.List.{length-map, get_or_past}
use Rattle.std.specs.List.{flat_map}
use Rattle.std.specs.Ordering.{nat_cmp}
use Rattle.repo_plan.specs.declared.part.Part.{Part}
use Rattle.sorted_lists.specs.SortedList.{Rises}
use Rattle.repo_plan.specs.Parts.{Pair, part_cmp, pair_of, part_of, record_of, parts_of, last_part}
use Rattle.sorted_lists.specs.Range.{numbers_from}
use Rattle.repo_plan.proofs.Orders.{exact_parts}
use Rattle.sorted_lists.proofs.Orders.{nat_less, nat_itself, first_less, then_second}
use Rattle.sorted_lists.proofs.Sets.{In, in_append, in_flat_map, from_flat_map, from_map, before_each, rises_append}
use Rattle.repo_plan.proofs.Known.{from_numbers, from_parts_of, in_parts_of}
use Rattle.repo_object.specs.Objects.{Post, shape_in}
use Rattle.group_model.specs.Publications.{Logs, Publication, pair_in, numbered_publications, published, published_from}
use Rattle.group_model.specs.Publications.{parts_in, all_parts, post_at, count, no_post}
use Rattle.group_model.specs.Member.{Member}
use Rattle.group_model.specs.World.{World, logs}
use Rattle.group_model.specs.Sound.{IsPublished, IsPublishedPart}

-- ---- publications

pub from_numbered : (p s : ℕ) (os : List Post) (q : Publication) → In q (numbered_publications p s os)
    → (q.publisher ≡ p) × (s ≤ q.seq) × (q.seq < s + length os) × (q.post ≡ get_or os (q.seq - s) no_post)
from_numbered p s [] q i = absurd i
from_numbered p s (o ∷ os) q (inl e) =
    let seq : q.seq ≡ s = ap (λ (x : Publication). x.seq) e in
    let zero_at : q.seq - s ≡ 0 = omega arith in (
      ap (λ (x : Publication). x.publisher) e,
      omega arith,
      omega arith,
      ap (λ (x : Publication). x.post) e ∙ ap (λ (n : ℕ). get_or (o ∷ os) n no_post) (sym zero_at),
    )
from_numbered p s (o ∷ os) q (inr i) =
    let r : (q.publisher ≡ p)
    × (s + 1 ≤ q.seq)
    × (q.seq < s + 1 + length os)
    × (q.post ≡ get_or os (q.seq - (s + 1)) no_post) =
    from_numbered p (s + 1) os q i in
    let later : q.seq - s ≡ suc (q.seq - (s + 1)) = omega (arith, r.1) in
    (r.0, omega (arith, r.1), omega (arith, r.2), r.3 ∙ ap (λ (n : ℕ). get_or (o ∷ os) n no_post) (sym later))

-- what is among the publications of the members from p on, of all members
from_published : (p : ℕ) (ls : Logs) (q : Publication) → In q (published_from p ls) →
    (p ≤ q.publisher)
    × (1 ≤ q.seq)
    × (q.seq ≤ length (get_or ls (q.publisher - p) []))
    × (q.post ≡ get_or (get_or ls (q.publisher - p) []) (q.seq - 1) no_post)
from_published p [] q i = absurd i
from_published p (l ∷ ls) q i = elim (in_append (numbered_publications p 1 l) (published_from (p + 1) ls) q i) [
  | inl a ↦
      let r : (q.publisher ≡ p) × (1 ≤ q.seq) × (q.seq < 1 + length l) × (q.post ≡ get_or l (q.seq - 1) no_post) =
      from_numbered p 1 l q a in
      let here : q.publisher - p ≡ 0 = omega (arith, r.0) in (
        omega (arith, r.0),
        r.1,
        subst (λ (n : ℕ). q.seq ≤ length (get_or (l ∷ ls) n [])) (sym here) (omega (arith, r.2)),
        r.3 ∙ ap (λ (n : ℕ). get_or (get_or (l ∷ ls) n []) (q.seq - 1) no_post) (sym here),
      )
  | inr b ↦
      let r : (p + 1 ≤ q.publisher)
      × (1 ≤ q.seq)
      × (q.seq ≤ length (get_or ls (q.publisher - (p + 1)) []))
      × (q.post ≡ get_or (get_or ls (q.publisher - (p + 1)) []) (q.seq - 1) no_post) =
      from_published (p + 1) ls q b in
      let later : q.publisher - p ≡ suc (q.publisher - (p + 1)) = omega (arith, r.0) in (
        omega (arith, r.0),
        r.1,
        subst (λ (n : ℕ). q.seq ≤ length (get_or (l ∷ ls) n [])) (sym later) r.2,
        r.3 ∙ ap (λ (n : ℕ). get_or (get_or (l ∷ ls) n []) (q.seq - 1) no_post) (sym later),
      )
]

pub record IsIn (ls : Logs) (q : Publication) : Type 0 where
  pub there : IsPublished ls (pair_in q)
  pub post : q.post ≡ post_at ls (pair_in q)

pub in_published : (ls : Logs) (q : Publication) → In q (published ls) → IsIn ls q
in_published ls q i =
    let r : (0 ≤ q.publisher)
    × (1 ≤ q.seq)
    × (q.seq ≤ length (get_or ls (q.publisher - 0) []))
    × (q.post ≡ get_or (get_or ls (q.publisher - 0) []) (q.seq - 1) no_post) =
    from_published 0 ls q i in
    let same : q.publisher - 0 ≡ q.publisher = omega arith in
    record {
      there = record { from_one = r.1; to_last = subst (λ (n : ℕ). q.seq ≤ length (get_or ls n [])) same r.2 };
      post = r.3 ∙ ap (λ (n : ℕ). get_or (get_or ls n []) (q.seq - 1) no_post) same;
    }

pub in_range : (ls : Logs) (p n : ℕ) → 1 ≤ n → n ≤ length (get_or ls p []) → p < length ls
in_range ls p n a b = elim (cases_lt p (length ls)) [
  | inl h ↦ h
  | inr h ↦
      absurd (let e : get_or ls p [] ≡ [] = get_or_past ls p [] h in
      let z : length (get_or ls p []) ≡ 0 = ap length e in omega (arith, z))
]

pub publisher_within : (w : World) (pair : Pair) → IsPublished (logs w) pair → pair.0 < length w.members
publisher_within w pair h =
    subst (λ (n : ℕ). pair.0 < n) (length-map w.members (λ (m : Member). m.log))
    (in_range (logs w) pair.0 pair.1 h.from_one h.to_last)

-- ---- parts

pub record IsPartOf (t : Part) (q : Publication) : Type 0 where
  pub pair : pair_of t ≡ pair_in q
  pub counted : t.part ≤ last_part (shape_in q.post)

pub from_parts_in : (q : Publication) (t : Part) → In t (parts_in q) → IsPartOf t q
from_parts_in q t i =
    let r : (pair_of t ≡ pair_in q) × (t.part ≤ last_part (shape_in q.post)) =
    from_parts_of (pair_in q) (last_part (shape_in q.post)) t i in
    record { pair = r.0; counted = r.1 }

pub in_parts_in : (q : Publication) (t : Part) → IsPartOf t q → In t (parts_in q)
in_parts_in q t h =
    subst (λ (pair : Pair). In t (parts_of pair (last_part (shape_in q.post)))) h.pair
    (in_parts_of (last_part (shape_in q.post)) t h.counted)

pub from_all_parts : (ls : Logs) (t : Part) → In t (all_parts ls) → IsPublishedPart ls t
from_all_parts ls t i =
    let r : (q : Publication) × (In q (published ls)) × In t (parts_in q) = from_flat_map parts_in (published ls) t i in
    let q : IsIn ls r.0 = in_published ls r.0 r.1 in
    let p : IsPartOf t r.0 = from_parts_in r.0 t r.2 in
    record {
      there = subst (IsPublished ls) (sym p.pair) q.there;
      counted =
          subst (λ (pair : Pair). t.part ≤ count ls pair) (sym p.pair)
          (subst (λ (o : Post). t.part ≤ last_part (shape_in o)) q.post p.counted);
    }

pub record_among : (ls : Logs) (t : Part) → In t (all_parts ls) → In (record_of t) (all_parts ls)
record_among ls t i =
    let r : (q : Publication) × (In q (published ls)) × In t (parts_in q) = from_flat_map parts_in (published ls) t i in
    let p : IsPartOf t r.0 = from_parts_in r.0 t r.2 in
    in_flat_map parts_in (published ls) r.0 (record_of t) r.1
    (in_parts_in r.0 (record_of t) (record { pair = p.pair; counted = omega arith }))

-- ---- in order

rises_numbers : (pair : Pair) (first n : ℕ) → Rises part_cmp (map (part_of pair) (numbers_from first n))
rises_numbers pair first zero = tt
rises_numbers pair first (suc n) = (
  before_each exact_parts.total (part_of pair first) _ (λ y i.
      let r : (x : ℕ) × (In x (numbers_from (first + 1) n)) × (y ≡ part_of pair x) =
      from_map (part_of pair) (numbers_from (first + 1) n) y i in
      let l : first + 1 ≤ r.0 = (from_numbers (first + 1) n r.0 r.1).0 in
      ap (part_cmp (part_of pair first)) r.2 ∙ then_second (nat_cmp pair.0 pair.0) _ (nat_itself pair.0)
      ∙ then_second (nat_cmp pair.1 pair.1) _ (nat_itself pair.1) ∙ nat_less first r.0 (omega (arith, l))),
  rises_numbers pair (first + 1) n,
)

of_numbered : (p s : ℕ) (os : List Post) (t : Part) → In t (flat_map parts_in (numbered_publications p s os))
    → (t.publisher ≡ p) × (s ≤ t.seq)
of_numbered p s os t i =
    let r : (q : Publication) × (In q (numbered_publications p s os)) × In t (parts_in q) =
    from_flat_map parts_in (numbered_publications p s os) t i in
    let q : IsPartOf t r.0 = from_parts_in r.0 t r.2 in
    let n = from_numbered p s os r.0 r.1 in
    let seq : t.seq ≡ r.0.seq = ap (λ (x : Pair). x.1) q.pair in
    (ap (λ (x : Pair). x.0) q.pair ∙ n.0, subst (λ (k : ℕ). s ≤ k) (sym seq) n.1)

rises_numbered : (p s : ℕ) (os : List Post) → Rises part_cmp (flat_map parts_in (numbered_publications p s os))
rises_numbered p s [] = tt
rises_numbered p s (o ∷ os) =
    let one : Publication = record { publisher = p; seq = s; post = o } in
    rises_append exact_parts.total (parts_in one) _ (rises_numbers (p, s) 0 (last_part (shape_in o) + 1))
    (rises_numbered p (s + 1) os) (λ x y i k.
    let a : IsPartOf x one = from_parts_in one x i in
    let b : (y.publisher ≡ p) × (s + 1 ≤ y.seq) = of_numbered p (s + 1) os y k in
    let e : x.seq ≡ s = ap (λ (q : Pair). q.1) a.pair in
    let same : x.publisher ≡ y.publisher = ap (λ (q : Pair). q.0) a.pair ∙ sym b.0 in
    then_second (nat_cmp x.publisher y.publisher) _ (ap (nat_cmp x.publisher) (sym same) ∙ nat_itself x.publisher)
    ∙ first_less (nat_cmp x.seq y.seq) _ (nat_less x.seq y.seq (omega (arith, e, b.1))))

flat_append : (xs ys : List Publication) → flat_map parts_in (xs ++ ys) ≡ flat_map parts_in xs ++ flat_map parts_in ys
flat_append [] ys = refl
flat_append (x ∷ xs) ys = ap (λ (ts : List Part). parts_in x ++ ts) (flat_append xs ys) ∙ simp append_assoc

of_published : (p : ℕ) (ls : Logs) (t : Part) → In t (flat_map parts_in (published_from p ls)) → p ≤ t.publisher
of_published p [] t i = absurd i
of_published p (l ∷ ls) t i =
    elim (in_append (flat_map parts_in (numbered_publications p 1 l)) (flat_map parts_in (published_from (p + 1) ls)) t
    (subst (In t) (flat_append (numbered_publications p 1 l) (published_from (p + 1) ls)) i)) [
      | inl a ↦ let r : (t.publisher ≡ p) × (1 ≤ t.seq) = of_numbered p 1 l t a in omega (arith, r.0)
      | inr b ↦ let r : p + 1 ≤ t.publisher = of_published (p + 1) ls t b in omega (arith, r)
    ]

rises_published : (p : ℕ) (ls : Logs) → Rises part_cmp (flat_map parts_in (published_from p ls))
rises_published p [] = tt
rises_published p (l ∷ ls) =
    subst (Rises part_cmp) (sym (flat_append (numbered_publications p 1 l) (published_from (p + 1) ls)))
    (rises_append exact_parts.total (flat_map parts_in (numbered_publications p 1 l)) _ (rises_numbered p 1 l)
    (rises_published (p + 1) ls) (λ x y i k.
    let a : (x.publisher ≡ p) × (1 ≤ x.seq) = of_numbered p 1 l x i in
    let b : p + 1 ≤ y.publisher = of_published (p + 1) ls y k in
    first_less (nat_cmp x.publisher y.publisher) _ (nat_less x.publisher y.publisher (omega (arith, a.0, b)))))

pub all_parts_rise : (ls : Logs) → Rises part_cmp (all_parts ls)
all_parts_rise ls = rises_published 0 ls
