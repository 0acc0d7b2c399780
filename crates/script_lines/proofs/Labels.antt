-- The labels of all members, in order, are the labels.
use Rattle.std.proofs.Common.{◌≡◌, ℕ, ◌+◌, List, [], ◌∷◌, ◌++◌, length, length-append, map, refl, subst, append_assoc}
use Rattle.std.proofs.Math.Seq.{get_or-append_seam}
use Rattle.sorted_lists.specs.Range.{numbers_from}
use Rattle.script_report.specs.Labels.{label_at, no_label}

labels_after : (prefix rest : List (List ℕ))
    → map (label_at (prefix ++ rest)) (numbers_from (length prefix) (length rest)) ≡ rest
labels_after prefix [] = refl
labels_after prefix (label ∷ rest) =
    let all = prefix ++ label ∷ rest in
    let longer = prefix ++ label ∷ [] in
    let here : label_at all (length prefix) ≡ label = get_or-append_seam prefix label rest no_label in
    let named : map (label_at all) (numbers_from (length longer) (length rest)) ≡ rest =
    subst (λ (labels : List (List ℕ)). map (label_at labels) (numbers_from (length longer) (length rest)) ≡ rest)
    (append_assoc prefix (label ∷ []) rest) (labels_after longer rest) in
    let after : map (label_at all) (numbers_from (length prefix + 1) (length rest)) ≡ rest =
    subst (λ (n : ℕ). map (label_at all) (numbers_from n (length rest)) ≡ rest)
    (length-append prefix (label ∷ [])) named in
    cc

pub labels_of_all : (labels : List (List ℕ)) (n : ℕ) (members : List ℕ) → n ≡ length labels
    → members ≡ numbers_from 0 n → map (label_at labels) members ≡ labels
labels_of_all labels n members count all = rw (all, count) (labels_after [] labels)
