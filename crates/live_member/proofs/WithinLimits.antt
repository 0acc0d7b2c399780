-- Which lists are within the limits, by how many objects and parts they have.
use Rattle.std.proofs.Common.{◌≡◌, ℕ, zero, suc, ◌+◌, ◌<◌, ◌≤◌, List, [], ◌∷◌, ◌++◌, map, length, get_or}
use Rattle.std.proofs.Common.{refl, ◌∙◌, subst, arith}
use Rattle.std.specs.Prelude.{sum_by, slice_get, Some}
use Rattle.std.specs.List.{All}
use Rattle.std.proofs.lemmas.List.{length-map}
use Rattle.std.proofs.lemmas.List.Elements.{All-map}
use Rattle.std.proofs.lemmas.List.Concat.{length-flat_map}
use Rattle.std.proofs.lemmas.List.Sums.{sum_by-cons, sum_by-append, sum_by_more_le}
use Rattle.sorted_lists.specs.Range.{numbers_from}
use Rattle.repo_object.specs.Objects.{NamedContents, Post, IsObject, IsPost}
use Rattle.repo_object.specs.Objects.Post.{Offers}
use Rattle.repo_member.specs.Groups.{GroupKeys, IsGroup}
use Rattle.repo_member.specs.MemberState.{ArePosts, publication_limit}
use Rattle.group_model.specs.Publications.{Publication, numbered_publications, published_from, parts_in, all_parts}
use Rattle.group_model.proofs.Runs.{length_numbers}
use Rattle.live_member.specs.Meanings.{meaning_of, as_posts, part_count, IsWithinLimits}

-- ---- sums over lists that are lent

pub sum_by_map : {X Y : Type 0} (f : Y → ℕ) (g : X → Y) (xs : List X) → sum_by f (map g xs) ≡ sum_by (λ x. f (g x)) xs
sum_by_map f g [] = refl
sum_by_map f g (x ∷ xs) =
    let a : sum_by f (g x ∷ map g xs) ≡ f (g x) + sum_by f (map g xs) = sum_by-cons f (g x) (map g xs) in
    let b : sum_by (λ y. f (g y)) (x ∷ xs) ≡ f (g x) + sum_by (λ y. f (g y)) xs = sum_by-cons (λ y. f (g y)) x xs in
    omega (arith, a, b, sum_by_map f g xs)

-- ---- how many parts there are

abbrev size : Publication → ℕ
size p = length (parts_in p)

abbrev counted : List NamedContents → ℕ
counted objects = sum_by part_count objects

size_of : (p s : ℕ) (o : NamedContents) → size (record { publisher = p; seq = s; post = Offers o }) ≡ part_count o
size_of p s o = length-map (numbers_from 0 (part_count o)) _ ∙ length_numbers 0 (part_count o)

parts_of_one : (p s : ℕ) (os : List NamedContents)
    → sum_by size (numbered_publications p s (as_posts os)) ≡ counted os
parts_of_one p s [] = refl
parts_of_one p s (o ∷ os) =
    let first : Publication = record { publisher = p; seq = s; post = Offers o } in
    let rest : List Publication = numbered_publications p (s + 1) (as_posts os) in
    let a : sum_by size (first ∷ rest) ≡ size first + sum_by size rest = sum_by-cons size first rest in
    let b : counted (o ∷ os) ≡ part_count o + counted os = sum_by-cons part_count o os in
    omega (arith, a, b, size_of p s o, parts_of_one p (s + 1) os)

parts_of_all : (p : ℕ) (lists : List (List NamedContents))
    → sum_by size (published_from p (map as_posts lists)) ≡ sum_by counted lists
parts_of_all p [] = refl
parts_of_all p (os ∷ lists) =
    let first : List Publication = numbered_publications p 1 (as_posts os) in
    let rest : List Publication = published_from (p + 1) (map as_posts lists) in
    let a : sum_by size (first ++ rest) ≡ sum_by size first + sum_by size rest = sum_by-append size first rest in
    let b : sum_by counted (os ∷ lists) ≡ counted os + sum_by counted lists = sum_by-cons counted os lists in
    omega (arith, a, b, parts_of_one p 1 os, parts_of_all (p + 1) lists)

-- The number of all parts is the sum of the parts of each object.
pub parts_are_counted : (lists : List (List NamedContents))
    → length (all_parts (map as_posts lists)) ≡ sum_by counted lists
parts_are_counted lists =
    length-flat_map parts_in (published_from 0 (map as_posts lists)) ∙ parts_of_all 0 lists

-- ---- what can be published

is_post : (s : ℕ) (os : List NamedContents) → All IsObject os → (i : ℕ) (post : Post)
    → slice_get (as_posts os) i ≡ Some post → IsPost s post
is_post s [] each i post e = absurd cc
is_post s (o ∷ os) each zero post e =
    let same : Offers o ≡ post = cc in
    subst (IsPost s) same (each zero o (omega arith))
is_post s (o ∷ os) each (suc i) post e =
    is_post s os (λ (k : ℕ) (d : NamedContents) (less : k < length os). each (suc k) d (omega (arith, less))) i post e

are_posts : (os : List NamedContents) → All IsObject os → ArePosts (as_posts os)
are_posts os each i post e = is_post (i + 1) os each i post e

few_posts : (lists : List (List NamedContents)) → sum_by length lists ≤ 200
    → All (λ os. length (as_posts os) ≤ publication_limit) lists
few_posts lists few k d less =
    let most = sum_by_more_le length lists k d less in
    omega (arith, most, few, length-map (get_or lists k d) Offers)

-- Lists are within the limits where there is one for each member and they have few enough objects and parts.
pub within : (g : GroupKeys) (lists : List (List NamedContents)) (draws : List ℕ) → IsGroup g
    → length lists ≡ length g.members.names → All (λ os. All IsObject os) lists → sum_by length lists ≤ 200
    → length (all_parts (map as_posts lists)) ≤ 4000 → IsWithinLimits (meaning_of g lists draws)
within g lists draws group width objects few parts =
    record {
      logs = record {
        group = group;
        width = length-map lists as_posts ∙ width;
        posts = All-map ArePosts as_posts lists (λ k d less. are_posts (get_or lists k d) (objects k d less));
        few = All-map (λ (log : List Post). length log ≤ publication_limit) as_posts lists (few_posts lists few);
      };
      objects = few;
      parts = parts;
    }
