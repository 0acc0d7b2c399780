-- What is hidden after more was.
use Rattle.std.proofs.Common.{◌≡◌, Bool, true, false, ◌||◌, List, [], ◌∷◌, refl, ap, ◌∙◌}
use Rattle.std.specs.Ordering.{eq_by_cmp}
use Rattle.sorted_lists.specs.SortedList.{contains, insert_key}
use Rattle.repo_plan.specs.Parts.{Pair, pair_cmp}
use Rattle.repo_plan.proofs.Orders.{exact_pairs}
use Rattle.sorted_lists.proofs.Sets.{contains-insert_key}
use Rattle.repo_holdings.specs.Hiding.{with_hidden}

-- what is hidden after `pairs` were hidden too
pub hidden_is : (pairs hidden : List Pair) (q : Pair)
    → contains pair_cmp (with_hidden pairs hidden) q ≡ (contains pair_cmp pairs q || contains pair_cmp hidden q)
hidden_is [] hidden q = refl
hidden_is (pair ∷ pairs) hidden q =
    hidden_is pairs (insert_key pair_cmp pair hidden) q
    ∙ ap (λ (b : Bool). contains pair_cmp pairs q || b) (contains-insert_key exact_pairs pair hidden q)
    ∙ shuffled (contains pair_cmp pairs q) (eq_by_cmp pair_cmp q pair) (contains pair_cmp hidden q) where
      shuffled : (a b c : Bool) → (a || (b || c)) ≡ ((b || a) || c)
      shuffled true true c = refl
      shuffled true false c = refl
      shuffled false b c = same b where
        same : (x : Bool) → (x || c) ≡ ((x || false) || c)
        same true = refl
        same false = refl
