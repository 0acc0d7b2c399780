-- What was published stands in the list of all publications, and its parts in the list of all parts.
use Rattle.std.proofs.Common.{◌≡◌, inl, inr, ℕ, suc, zero, ◌+◌, ◌-◌, ◌<◌, List, [], ◌∷◌, length, get_or, refl, ap}
use Rattle.std.proofs.Common.{subst, arith}
use Rattle.repo_plan.specs.declared.part.Part.{Part}
use Rattle.repo_plan.specs.Parts.{Pair, pair_of}
use Rattle.sorted_lists.proofs.Sets.{In, in_flat_map, append_left, append_right}
use Rattle.repo_object.specs.Objects.{Post}
use Rattle.group_model.specs.Publications.{Logs, Publication, numbered_publications, published_from, published}
use Rattle.group_model.specs.Publications.{parts_in, all_parts, post_at, no_post}
use Rattle.group_model.specs.Sound.{IsPublished, IsPublishedPart}
use Rattle.group_model.proofs.Parts.{in_parts_in}

is_numbered : (p s : ℕ) (os : List Post) (k : ℕ) → k < length os
    → In (record { publisher = p; seq = s + k; post = get_or os k no_post }) (numbered_publications p s os)
is_numbered p s [] k l = absurd (omega arith)
is_numbered p s (o ∷ os) zero l =
    let e : s + 0 ≡ s = omega arith in
    inl (ap (λ (n : ℕ). let q : Publication = record { publisher = p; seq = n; post = o } in q) e)
is_numbered p s (o ∷ os) (suc k) l =
    let e : s + 1 + k ≡ s + suc k = omega arith in
    inr (subst (λ (n : ℕ).
    In (record { publisher = p; seq = n; post = get_or os k no_post }) (numbered_publications p (s + 1) os)) e
    (is_numbered p (s + 1) os k (omega arith)))

is_published_from : (p : ℕ) (ls : Logs) (i k : ℕ) → k < length (get_or ls i [])
    → In (record { publisher = p + i; seq = 1 + k; post = get_or (get_or ls i []) k no_post }) (published_from p ls)
is_published_from p [] i k l = absurd (omega arith)
is_published_from p (x ∷ xs) zero k l =
    let e : p ≡ p + 0 = omega arith in
    subst
    (λ (n : ℕ). In (record { publisher = n; seq = 1 + k; post = get_or x k no_post }) (published_from p (x ∷ xs))) e
    (append_left (numbered_publications p 1 x) (published_from (p + 1) xs) _ (is_numbered p 1 x k l))
is_published_from p (x ∷ xs) (suc i) k l =
    let e : p + 1 + i ≡ p + suc i = omega arith in
    subst (λ (n : ℕ). In (record { publisher = n; seq = 1 + k; post = get_or (get_or xs i []) k no_post })
    (published_from p (x ∷ xs))) e
    (append_right (numbered_publications p 1 x) (published_from (p + 1) xs) _ (is_published_from (p + 1) xs i k l))

abbrev pub at_pair : Logs → Pair → Publication
at_pair ls pair = record { publisher = pair.0; seq = pair.1; post = post_at ls pair }

pub is_published : (ls : Logs) (pair : Pair) → IsPublished ls pair → In (at_pair ls pair) (published ls)
is_published ls pair h =
    let p : 0 + pair.0 ≡ pair.0 = omega arith in
    let s : 1 + (pair.1 - 1) ≡ pair.1 = omega (arith, h.from_one) in
    subst (λ (q : Pair). In (record { publisher = q.0; seq = q.1; post = post_at ls pair }) (published ls))
    (λ i. (p i, s i)) (is_published_from 0 ls pair.0 (pair.1 - 1) (omega (arith, h.from_one, h.to_last)))

pub in_all_parts : (ls : Logs) (t : Part) → IsPublishedPart ls t → In t (all_parts ls)
in_all_parts ls t h =
    in_flat_map parts_in (published ls) (at_pair ls (pair_of t)) t (is_published ls (pair_of t) h.there)
    (in_parts_in (at_pair ls (pair_of t)) t (record { pair = refl; counted = h.counted }))
