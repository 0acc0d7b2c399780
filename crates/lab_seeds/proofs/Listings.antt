-- How many entries catalogues list.
use Rattle.std.proofs.Common.{◌≡◌, ℕ, suc, ◌+◌, ◌-◌, ◌<◌, ◌≤◌, length, ap, ◌∙◌, arith}
use Rattle.std.specs.List.{sum_by}
use Rattle.std.proofs.lemmas.List.{length-map}
use Rattle.std.proofs.lemmas.List.Sums.{sum_by-cons}
use Rattle.sorted_lists.specs.Range.{numbers_from}
use Rattle.group_model.specs.Publications.{published, published_entry}
use Rattle.group_model.specs.Member.{catalogued, is_listed}
use Rattle.group_model.specs.World.{World, catalogue_at, logs, member}
use Rattle.group_model.proofs.Tries.{filter_short}

-- a catalogue lists no more entries than there are publications
pub few_listed : (w : World) (j : ℕ) → length (catalogue_at w j) ≤ length (published (logs w))
few_listed w j =
    let same : length (catalogue_at w j) ≡ length (catalogued (logs w) (member w j)) =
    length-map (catalogued (logs w) (member w j)) published_entry in
    let kept = filter_short (is_listed (published (logs w)) (member w j)) (published (logs w)) in
    omega arith

pub next_sum : (f : ℕ → ℕ) (a n : ℕ) → a < n
    → sum_by f (numbers_from a (n - a)) ≡ f a + sum_by f (numbers_from (a + 1) (n - (a + 1)))
next_sum f a n lt =
    let more : n - a ≡ suc (n - (a + 1)) = omega arith in
    ap (λ (k : ℕ). sum_by f (numbers_from a k)) more ∙ sum_by-cons f a (numbers_from (a + 1) (n - (a + 1)))
