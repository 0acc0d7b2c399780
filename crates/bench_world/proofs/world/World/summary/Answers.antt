use Rattle.std.proofs.Common.{refl, ◌<◌, ℕ, List, length, map, sym, ap, ◌∙◌, subst}
use Rattle.std.proofs.lemmas.List.{length-map}
use Rattle.sorted_lists.specs.Range.{numbers_from}
use Rattle.repo_member.specs.MemberState.{MemberState}
use Rattle.repo_member.specs.InGroup.{in_group}
use Rattle.group_model.specs.Steps.{all_totals}
use Rattle.bench_world.specs.EventValues.{ReportValue}
use Rattle.bench_world.specs.MemberTotals.{totals_in, HasFewTotals}
use Rattle.bench_world.specs.Worlds.{GroupState, state_at, world_of}
use Rattle.bench_world.specs.Kept.{world_state}
use Rattle.bench_world.proofs.Summaries.{few_totals_at, sums_are}
use Rattle.bench_world.proofs.world.World.summary.Goals as goal

pub add_up-requires : goal.add_up-requires
add_up-requires c =
    subst (λ (ms : List MemberState). (j : ℕ) → j < length ms → HasFewTotals (totals_in (state_at ms j)))
    (sym c.as_slice.ensures.value) (few_totals_at (world_state c.self.inside) c.self.invariant.consistent)

pub returns : goal.returns
returns c =
    let s = world_state c.self.inside in
    let numbers =
    c.in_ok-members.ensures
    ∙ ap (λ (x : GroupState). numbers_from 0 (length x.members)) (sym c.self.view_is)
    ∙ ap (numbers_from 0) (sym (length-map s.members in_group)) in
    let entries =
    c.in_ok-sums.ensures.entries
    ∙ ap (map (λ a. (totals_in a).entries)) c.as_slice.ensures.value
    ∙ sums_are s c.self.invariant.consistent (λ t. t.entries) in
    let segments =
    c.in_ok-sums.ensures.segments
    ∙ ap (map (λ a. (totals_in a).segments)) c.as_slice.ensures.value
    ∙ sums_are s c.self.invariant.consistent (λ t. t.segments) in
    let octets =
    c.in_ok-sums.ensures.octets
    ∙ ap (map (λ a. (totals_in a).octets)) c.as_slice.ensures.value
    ∙ sums_are s c.self.invariant.consistent (λ t. t.octets) in
    record {
      taken = refl;
      world = c.count.ensures.world;
      report =
          (λ i. ReportValue.Summary (numbers i) (entries i) (segments i) (octets i))
          ∙ ap (λ (x : GroupState). ReportValue.Summary (numbers_from 0 (length (world_of x).members))
          (map (λ t. t.entries) (all_totals (world_of x))) (map (λ t. t.segments) (all_totals (world_of x)))
          (map (λ t. t.octets) (all_totals (world_of x)))) c.self.view_is;
      joined = tt;
      steps = c.count.ensures.steps;
      keys = c.count.ensures.keys;
      mirrors = c.count.ensures.mirrors;
      refused = tt;
      err = tt;
    }
