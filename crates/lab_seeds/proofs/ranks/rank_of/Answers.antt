use Rattle.std.proofs.Common.{◌≡◌, ◌<◌, ◌+◌, ◌-◌, ◌*◌, ◌≤◌, ◌/◌, ℕ, length, sym, ◌∙◌, arith}
use Rattle.std.specs.List.Sorted.{IsNonDecreasing}
use Rattle.std.proofs.lemmas.List.{get_or_read}
use Rattle.std.proofs.lemmas.List.Sorted.{IsNonDecreasingBy-from_sort, length_permutation}
use Rattle.lab_seeds.proofs.Medians.{first_is_least, last_is_greatest, middle_is_median}
use Rattle.lab_seeds.proofs.ranks.rank_of.Goals as goal

pub returns-clause-least : goal.returns-clause-least
returns-clause-least c =
    let ns = c.args.numbers.items in
    let sorted = c.sort_unstable.new.self.items in
    let same = c.sort_unstable.ensures.permutation in
    let len = length_permutation ns sorted same in
    let up : IsNonDecreasing sorted =
    IsNonDecreasingBy-from_sort (λ (x : ℕ). x) sorted c.sort_unstable.ensures.sorted in
    let some : 0 < length sorted = omega arith in
    get_or_read sorted 0 c.index.result.now some c.index.ensures 0 ∙ sym (first_is_least ns sorted same up some)

pub returns-clause-median : goal.returns-clause-median
returns-clause-median c =
    let ns = c.args.numbers.items in
    let sorted = c.sort_unstable.new.self.items in
    let same = c.sort_unstable.ensures.permutation in
    let len = length_permutation ns sorted same in
    let up : IsNonDecreasing sorted =
    IsNonDecreasingBy-from_sort (λ (x : ℕ). x) sorted c.sort_unstable.ensures.sorted in
    let some : 0 < length sorted = omega arith in
    let count : c.len-last.result ≡ length sorted = c.len-last.ensures ∙ c.sort_unstable.new.self.ok.0 in
    let middle : ℕ = (c.len-last.result - 1) / 2 in
    let low : 2 * middle < length sorted = omega arith in
    let high : length sorted ≤ 2 * (middle + 1) = omega arith in
    get_or_read sorted middle c.index-2.result.now (omega arith) c.index-2.ensures 0
    ∙ sym (middle_is_median ns sorted same up some middle low high)

pub returns-clause-greatest : goal.returns-clause-greatest
returns-clause-greatest c =
    let ns = c.args.numbers.items in
    let sorted = c.sort_unstable.new.self.items in
    let same = c.sort_unstable.ensures.permutation in
    let len = length_permutation ns sorted same in
    let up : IsNonDecreasing sorted =
    IsNonDecreasingBy-from_sort (λ (x : ℕ). x) sorted c.sort_unstable.ensures.sorted in
    let some : 0 < length sorted = omega arith in
    let count : c.len-last.result ≡ length sorted = c.len-last.ensures ∙ c.sort_unstable.new.self.ok.0 in
    let last : ℕ = c.len-last.result - 1 in
    let e : last + 1 ≡ length sorted = omega arith in
    get_or_read sorted last c.index-3.result.now (omega arith) c.index-3.ensures 0
    ∙ sym (last_is_greatest ns sorted same up some last e)
