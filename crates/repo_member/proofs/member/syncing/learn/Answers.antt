use Rattle.std.proofs.Common.{ℕ, List, take, max, length, sym, ap, ◌∙◌, arith}
use Rattle.std.specs.Prelude.{slice_index, slice_set}
use Rattle.svs_vector.specs.Vectors.{join}
use Rattle.svs_vector.proofs.JoinLemmas.{join-[]}
use Rattle.repo_holdings.specs.HoldingsState.{HoldingsState, with_known_up_to}
use Rattle.repo_member.proofs.VectorLemmas.{join_next, length-join_take}
use Rattle.repo_member.proofs.member.syncing.learn.Goals as goal

pub loop-member-init : goal.loop-member-init
loop-member-init c =
    ap (λ (k : List ℕ). record c.args.held.now { known = k }) (c.requires.known ∙ sym (join-[] c.args.vector.now))

pub raise-requires : goal.raise-requires
raise-requires c =
    let known = ap (λ (p : HoldingsState). length p.known) c.loop-member.invariant in
    let long = length-join_take c.args.vector.now c.args.received.now c.loop-member.member c.requires.width in
    omega (arith, known, long, c.requires.width)

pub loop-member-preserved : goal.loop-member-preserved
loop-member-preserved c =
    let so_far = join c.args.vector.now (take c.loop-member.member c.args.received.now) in
    c.raise.ensures ∙ ap (with_known_up_to c.loop-member.member c.get.result) c.loop-member.invariant
    ∙ ap (λ (n : ℕ). record c.args.held.now {
      known = slice_set so_far c.loop-member.member (max (slice_index so_far c.loop-member.member) n);
    }) c.get.ensures
    ∙ ap (λ (k : List ℕ). record c.args.held.now { known = k })
    (join_next c.args.vector.now c.args.received.now c.loop-member.member (omega arith) c.requires.width)
