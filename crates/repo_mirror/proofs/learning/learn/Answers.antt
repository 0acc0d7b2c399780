use Rattle.std.proofs.Common.{ℕ, List, take, length, sym, ap, ◌∙◌, arith, cond}
use Rattle.std.proofs.lemmas.List.{length-set}
use Rattle.svs_vector.specs.Vectors.{join}
use Rattle.svs_vector.proofs.JoinLemmas.{join-[]}
use Rattle.repo_holdings.specs.HoldingsState.{HoldingsState, with_known_up_to}
use Rattle.repo_watch.specs.Patterns.{is_publisher}
use Rattle.repo_mirror.specs.Asked.{asked_numbers}
use Rattle.repo_mirror.proofs.AskedLemmas.{length-asked, asked_next}
use Rattle.repo_mirror.proofs.learning.learn.Goals as goal

pub loop-member-init : goal.loop-member-init
loop-member-init c = record {
  held =
      ap (λ (k : List ℕ). record c.args.held.now { known = k })
      (c.requires.known ∙ ap (asked_numbers c.args.asked 0) (sym (join-[] c.args.vector.now)));
  width =
      ap (λ (k : List ℕ). length k) c.requires.known
      ∙ length-asked c.args.asked 0 c.args.vector.now
      ∙ sym c.requires.width;
}

pub raise-requires : goal.raise-requires
raise-requires c = let wide = c.loop-member.invariant.width in omega (arith, wide)

pub loop-member-preserved : goal.loop-member-preserved
loop-member-preserved c =
    let i : ℕ = c.loop-member.member in
    let so_far = join c.args.vector.now (take i c.args.received.now) in
    let known : ℕ → HoldingsState = λ n.
    with_known_up_to i n (record c.args.held.now { known = asked_numbers c.args.asked 0 so_far }) in
    record {
      held =
          c.raise.ensures
          ∙ ap (with_known_up_to i c.asked_number-number.result) c.loop-member.invariant.held
          ∙ ap known (c.asked_number-number.ensures
          ∙ ap (λ (n : ℕ). cond (is_publisher c.args.asked i) n 0) c.get.ensures)
          ∙ ap (λ (k : List ℕ). record c.args.held.now { known = k })
          (asked_next c.args.asked c.args.vector.now c.args.received.now i (omega arith) c.requires.width);
      width =
          ap (λ (h : HoldingsState). length h.known) c.raise.ensures
          ∙ length-set c.loop-member.held.known i _
          ∙ c.loop-member.invariant.width;
    }
