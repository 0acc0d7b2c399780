-- How many publications and parts there are.
use Rattle.std.proofs.Common.{◌≡◌, ℕ, suc, zero, ◌+◌, ◌-◌, ◌*◌, ◌≤◌, List, [], ◌∷◌, ◌++◌}
use Rattle.std.proofs.Common.{length, get_or, set, refl, sym, ap, ◌∙◌, subst, arith}
use Rattle.std.proofs.lemmas.List.{length-map, length-append, length_push}
use Rattle.std.proofs.lemmas.List.Sums.{sum_by-le}
use Rattle.std.proofs.lemmas.List.Concat.{length-flat_map}
use Rattle.repo_plan.specs.Parts.{last_part}
use Rattle.sorted_lists.specs.Range.{numbers_from}
use Rattle.sorted_lists.proofs.Sets.{In}
use Rattle.sorted_lists.proofs.Ranges.{length-numbers}
use Rattle.sorted_lists.proofs.Members.{in_at}
use Rattle.repo_object.specs.Objects.{Post, contents_of, shape_in}
use Rattle.repo_object.proofs.IndexLemmas.{index_few}
use Rattle.group_model.specs.Publications.{Logs, Publication, no_post, numbered_publications, published_from, published}
use Rattle.group_model.specs.Publications.{parts_in, all_parts}
use Rattle.group_model.specs.Member.{Member}
use Rattle.group_model.specs.World.{World, no_member, logs, logs_of}
use Rattle.group_model.specs.Steps.{is_gained, new_parts}
use Rattle.group_model.specs.Limits.{IsWithinSteps, PartsStayFew}
use Rattle.group_model.proofs.Parts.{in_published}
use Rattle.group_model.proofs.Tries.{filter_short}

-- ---- publications

length_numbered : (p s : ℕ) (os : List Post) → length (numbered_publications p s os) ≡ length os
length_numbered p s [] = refl
length_numbered p s (o ∷ os) = ap suc (length_numbered p (s + 1) os)

length_published : (p : ℕ) (l : List Post) (ls : Logs)
    → length (published_from p (l ∷ ls)) ≡ length l + length (published_from (p + 1) ls)
length_published p l ls =
    length-append (numbered_publications p 1 l) (published_from (p + 1) ls)
    ∙ ap (λ (n : ℕ). n + length (published_from (p + 1) ls)) (length_numbered p 1 l)

-- a member has one publication more
pub one_published : (p : ℕ) (ms : List Member) (j : ℕ) (m : Member) (o : Post)
    → m.log ≡ (get_or ms j no_member).log ++ o ∷ []
    → length (published_from p (logs_of (set ms j m))) ≤ length (published_from p (logs_of ms)) + 1
one_published p [] j m o e = omega arith
one_published p (x ∷ xs) zero m o e =
    let a : length (published_from p (m.log ∷ logs_of xs))
    ≡ length m.log + length (published_from (p + 1) (logs_of xs)) =
    length_published p m.log (logs_of xs) in
    let b : length (published_from p (x.log ∷ logs_of xs))
    ≡ length x.log + length (published_from (p + 1) (logs_of xs)) =
    length_published p x.log (logs_of xs) in
    let c : length m.log ≡ length x.log + 1 = ap length e ∙ length_push x.log o in
    omega (arith, a, b, c)
one_published p (x ∷ xs) (suc j) m o e =
    let a : length (published_from p (x.log ∷ logs_of (set xs j m)))
    ≡ length x.log + length (published_from (p + 1) (logs_of (set xs j m))) =
    length_published p x.log (logs_of (set xs j m)) in
    let b : length (published_from p (x.log ∷ logs_of xs))
    ≡ length x.log + length (published_from (p + 1) (logs_of xs)) =
    length_published p x.log (logs_of xs) in
    let h : length (published_from (p + 1) (logs_of (set xs j m))) ≤ length (published_from (p + 1) (logs_of xs)) + 1 =
    one_published (p + 1) xs j m o e in
    omega (arith, a, b, h)

abbrev pub HasFew : Post → Type 0
HasFew o = length (contents_of o) ≤ 20000

few_pushed : (os : List Post) (o : Post) → HasFew o → ((k : ℕ) → HasFew (get_or os k no_post))
    → (k : ℕ) → HasFew (get_or (os ++ o ∷ []) k no_post)
few_pushed [] o h each zero = h
few_pushed [] o h each (suc k) = omega arith
few_pushed (x ∷ xs) o h each zero = each zero
few_pushed (x ∷ xs) o h each (suc k) = few_pushed xs o h (λ i. each (suc i)) k

pub few_published : (ms : List Member) (j : ℕ) (m : Member) (o : Post)
    → m.log ≡ (get_or ms j no_member).log ++ o ∷ [] → HasFew o
    → ((p k : ℕ) → HasFew (get_or (get_or (logs_of ms) p []) k no_post)) → (p k : ℕ)
    → HasFew (get_or (get_or (logs_of (set ms j m)) p []) k no_post)
few_published [] j m o e h each p k = each p k
few_published (x ∷ xs) zero m o e h each zero k =
    subst (λ (l : List Post). HasFew (get_or l k no_post)) (sym e) (few_pushed x.log o h (each zero) k)
few_published (x ∷ xs) zero m o e h each (suc p) k = each (suc p) k
few_published (x ∷ xs) (suc j) m o e h each zero k = each zero k
few_published (x ∷ xs) (suc j) m o e h each (suc p) k = few_published xs j m o e h (λ q. each (suc q)) p k

-- ---- parts

few_parts_in : (w : World) (s : ℕ) → IsWithinSteps s w → (q : Publication) → In q (published (logs w))
    → length (parts_in q) ≤ 20101
few_parts_in w s h q i =
    let there = in_published (logs w) q i in
    let few : length (contents_of q.post) ≤ 20000 =
    subst HasFew (sym there.post) (h.segments q.publisher (q.seq - 1)) in
    let size : length (parts_in q) ≡ last_part (shape_in q.post) + 1 =
    length-map (numbers_from 0 (last_part (shape_in q.post) + 1)) _
    ∙ length-numbers 0 (last_part (shape_in q.post) + 1) in
    omega (arith, few, index_few (length (contents_of q.post)) few, size)

all_few : (w : World) (s : ℕ) → IsWithinSteps s w → length (all_parts (logs w)) ≤ s * 20101
all_few w s h =
    let sum : length (all_parts (logs w)) ≤ length (published (logs w)) * 20101 =
    subst (λ (n : ℕ). n ≤ length (published (logs w)) * 20101) (sym (length-flat_map parts_in (published (logs w))))
    (sum_by-le (λ q. length (parts_in q)) 20101 (published (logs w))
    (λ k d i. few_parts_in w s h (get_or (published (logs w)) k d) (in_at (published (logs w)) k d i))) in
    let few : length (published (logs w)) ≤ s = h.published in
    omega (arith, sum, few)

pub few_parts : PartsStayFew
few_parts s w l h = let all : length (all_parts (logs w)) ≤ s * 20101 = all_few w s h in omega (arith, all, l)

pub few_new : (w : World) (s : ℕ) → IsWithinSteps s w → (m : Member) → length (new_parts w m) ≤ s * 20101
few_new w s h m =
    let a : length (new_parts w m) ≤ length (all_parts (logs w)) = filter_short (is_gained w m) (all_parts (logs w)) in
    let b : length (all_parts (logs w)) ≤ s * 20101 = all_few w s h in omega (arith, a, b)
