use Rattle.std.proofs.Common.{◌≡◌, ◌++◌, ◌∷◌, Bool, false, cond, List, [], Some, refl, sym, ap, subst, ◌∙◌}
use Rattle.std.specs.Prelude.{is_some}
use Rattle.std.specs.Ordering.{eq_by_cmp}
use Rattle.repo_plan.specs.Parts.{Pair, pair_cmp}
use Rattle.repo_catalog.specs.declared.entry.Entry.{Entry}
use Rattle.repo_catalog.specs.Entries.{publication_of, entry_of, lists, AreApart}
use Rattle.repo_catalog.proofs.ManyLemmas.{apart_none, apart_more}
use Rattle.repo_tests.proofs.catalog.fresh.Goals as goal

-- an entry of another publication in front makes no difference
not_listed : (x : Entry) (xs : List Entry) (p q : Pair) → publication_of x ≡ q → eq_by_cmp pair_cmp p q ≡ false
    → lists p xs ≡ false → lists p (x ∷ xs) ≡ false
not_listed x xs p q same differ none =
    ap (λ (z : Pair). is_some (cond (eq_by_cmp pair_cmp p z) (Some x) (entry_of p xs))) same
    ∙ ap (λ (b : Bool). is_some (cond b (Some x) (entry_of p xs))) differ
    ∙ none

pub returns-clause-apart : goal.returns-clause-apart
returns-clause-apart g c =
    let a = c.in_ok-first.first in
    let b = c.in_ok-second.second in
    let d = c.in_ok-third.third in
    let e = c.in_ok-fourth.fourth in
    let f = c.in_ok-fifth.fifth in
    let of_a : publication_of a ≡ (2, 3) = λ i. (c.in_ok-first.ensures.0 i, c.in_ok-first.ensures.1 i) in
    let of_b : publication_of b ≡ (0, 9) = λ i. (c.in_ok-second.ensures.0 i, c.in_ok-second.ensures.1 i) in
    let of_d : publication_of d ≡ (0, 1) = λ i. (c.in_ok-third.ensures.0 i, c.in_ok-third.ensures.1 i) in
    let of_e : publication_of e ≡ (3, 1) = λ i. (c.in_ok-fourth.ensures.0 i, c.in_ok-fourth.ensures.1 i) in
    let of_f : publication_of f ≡ (2, 9) = λ i. (c.in_ok-fifth.ensures.0 i, c.in_ok-fifth.ensures.1 i) in
    let new_b : lists (publication_of b) (a ∷ []) ≡ false =
    ap (λ (p : Pair). lists p (a ∷ [])) of_b ∙ not_listed a [] (0, 9) (2, 3) of_a refl refl in
    let new_d : lists (publication_of d) (a ∷ b ∷ []) ≡ false =
    ap (λ (p : Pair). lists p (a ∷ b ∷ [])) of_d
    ∙ not_listed a (b ∷ []) (0, 1) (2, 3) of_a refl (not_listed b [] (0, 1) (0, 9) of_b refl refl) in
    let new_e : lists (publication_of e) (a ∷ b ∷ d ∷ []) ≡ false =
    ap (λ (p : Pair). lists p (a ∷ b ∷ d ∷ [])) of_e
    ∙ not_listed a (b ∷ d ∷ []) (3, 1) (2, 3) of_a refl
    (not_listed b (d ∷ []) (3, 1) (0, 9) of_b refl (not_listed d [] (3, 1) (0, 1) of_d refl refl)) in
    let new_f : lists (publication_of f) (a ∷ b ∷ d ∷ e ∷ []) ≡ false =
    ap (λ (p : Pair). lists p (a ∷ b ∷ d ∷ e ∷ [])) of_f
    ∙ not_listed a (b ∷ d ∷ e ∷ []) (2, 9) (2, 3) of_a refl
    (not_listed b (d ∷ e ∷ []) (2, 9) (0, 9) of_b refl
    (not_listed d (e ∷ []) (2, 9) (0, 1) of_d refl (not_listed e [] (2, 9) (3, 1) of_e refl refl))) in
    let items : c.push-5.new.self.items ≡ a ∷ b ∷ d ∷ e ∷ f ∷ [] =
    c.in_ok-push-5.ensures.items
    ∙ ap (λ (xs : List Entry). xs ++ f ∷ [])
    (c.in_ok-push-4.ensures.items
    ∙ ap (λ (xs : List Entry). xs ++ e ∷ [])
    (c.in_ok-push-3.ensures.items
    ∙ ap (λ (xs : List Entry). xs ++ d ∷ [])
    (c.in_ok-push-2.ensures.items
    ∙ ap (λ (xs : List Entry). xs ++ b ∷ [])
    (c.in_ok-push.ensures.items ∙ ap (λ (xs : List Entry). xs ++ a ∷ []) c.new-fresh.ensures.items)))) in
    subst AreApart (sym items)
    (apart_more (a ∷ b ∷ d ∷ e ∷ []) f
    (apart_more (a ∷ b ∷ d ∷ []) e
    (apart_more (a ∷ b ∷ []) d (apart_more (a ∷ []) b (apart_more [] a apart_none refl) new_b) new_d) new_e) new_f)
