use Rattle.std.proofs.Common.{◌≡◌, true, false, get_or, Option, List, refl, sym, ap, ◌∙◌, subst}
use Rattle.std.specs.List.{All, list_any}
use Rattle.repo_plan.specs.declared.part.Part.{Part}
use Rattle.sorted_lists.specs.SortedList.{Rises}
use Rattle.repo_plan.specs.Parts.{Pair, pair_cmp}
use Rattle.repo_plan.specs.Plan.{knows, is_claim_in, claims_part_in}
use Rattle.repo_member.specs.MemberState.{MemberState, member_plan}
use Rattle.repo_member.proofs.WaitingLemmas.{hidden_is}
use Rattle.repo_member.proofs.member.Member.delete.Goals as goal

pub hide_all-requires-clause-unclaimed : goal.hide_all-requires-clause-unclaimed
hide_all-requires-clause-unclaimed c =
    let claims = ap (λ (a : MemberState). a.claims) c.self.view_is in
    let each =
    subst (All (λ (pair : Pair). claims_part_in (member_plan c.index_names.new.self) pair ≡ false))
    (sym c.deref.ensures.value)
    c.in_ok-found.ensures.unclaimed in
    λ k d low.
    ap (λ (cs : List (Option Part)). list_any (is_claim_in (get_or c.deref.result.now k d)) cs) claims ∙ each k d low

pub hide_all-requires-clause-in_order : goal.hide_all-requires-clause-in_order
hide_all-requires-clause-in_order c =
    subst (Rises pair_cmp) (sym c.deref.ensures.value) c.in_ok-found.ensures.in_order

pub invariant_of-self-2 : goal.invariant_of-self-2
invariant_of-self-2 c =
    let known =
    subst (All (λ (pair : Pair). knows (member_plan c.index_names.new.self) pair ≡ true)) (sym c.deref.ensures.value)
    c.in_ok-found.ensures.known in
    hidden_is c.self.inside _ c.deref.result.now c.self.invariant refl refl refl refl refl
    c.in_ok-hide_all.ensures.ok c.hide_all.ensures.in_order
    (subst (λ (a : MemberState). All (λ (pair : Pair). knows (member_plan a) pair ≡ true) c.deref.result.now)
    (sym c.self.view_is) known)
