use Rattle.std.proofs.Common.{arith, ◌≡◌, ◌<◌, ℕ, List, length, slice_index, sym, ap, ◌∙◌, subst}
use Rattle.std.proofs.lemmas.Bool.{true≢false}
use Rattle.std.proofs.lemmas.List.{length-replicate, get_or-replicate}
use Rattle.sorted_lists.specs.SortedList.{contains}
use Rattle.repo_plan.specs.Parts.{pair_cmp}
use Rattle.svs_sync.specs.SyncStates.{SyncState}
use Rattle.repo_holdings.specs.HoldingsState.{HoldingsState, AreInOrder}
use Rattle.repo_process.specs.Insertions.{Insertions}
use Rattle.repo_member.specs.Posts.{posts_of, IsKeptLog}
use Rattle.repo_member.specs.Members.{AreWaiting}
use Rattle.repo_member.proofs.member.Member.new.Goals as goal

pub invariant_of-result : goal.invariant_of-result
invariant_of-result c =
    let n : ℕ = c.len-members.result in
    let zero_number : ℕ = 0 in
    let inside : c.args.number < n =
    omega (arith, c.requires.number, ap length c.roster.ensures.names, c.len-members.ensures.len) in
    let known = c.in_ok-new.ensures in
    let held = c.in_ok-new-3.ensures in
    let wide : length c.in_ok-new.field-0 ≡ n = ap length known ∙ length-replicate n zero_number in
    record {
      member_state = record {
        member = omega (arith, inside, wide);
        own =
            ap (λ (v : List ℕ). slice_index v c.args.number) known
            ∙ get_or-replicate n c.args.number zero_number 0 inside
            ∙ sym (ap (λ log. length (posts_of log)) c.new.ensures.items);
        width = ap (λ (m : SyncState). m.members) c.in_ok-new-2.ensures ∙ sym wide;
        in_order = subst AreInOrder (sym held) tt;
        hidden =
            λ pair h. absurd (true≢false (sym h ∙ ap (λ (x : HoldingsState). contains pair_cmp x.hidden pair) held));
      };
      known = ap (λ (x : HoldingsState). x.known) held ∙ sym known;
      log = subst IsKeptLog (sym c.new.ensures.items)
          (record { posts = λ i post h. absurd cc; marked = λ i post h. absurd cc });
      waiting =
          subst (λ (i : Insertions). AreWaiting i.processes) (sym c.new-5.ensures) (λ number p found waits. absurd cc);
    }
