-- The labels of members, by their numbers.
use Rattle.std.specs.Prelude.{ℕ, ◌≡◌, ◌<◌, List, length, slice_get, slice_index_or, Some, codes}
use Rattle.repo_catalog.specs.declared.entry.Entry.{Entry}

-- The label of a number that no member has. No report has it.
abbrev pub no_label : List ℕ
no_label = codes "?"

-- The label of a member, by its number.
abbrev pub label_at : List (List ℕ) → ℕ → List ℕ
label_at labels m = slice_index_or labels m no_label

-- The label of an entry's publisher.
abbrev pub publisher_label : List (List ℕ) → Entry → List ℕ
publisher_label labels e = label_at labels e.publisher

-- For the number of a member `label_at` gives the label at that place of the list.
abbrev pub MembersHaveLabels : Type 0
MembersHaveLabels = (labels : List (List ℕ)) (m : ℕ) → m < length labels → slice_get labels m ≡ Some (label_at labels m)
