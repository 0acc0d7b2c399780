use Rattle.std.proofs.Common.{ℕ, List, [], ◌∷◌, map, ap, subst}
use Rattle.repo_object.specs.Objects.{NamedContents}
use Rattle.live_member.specs.Meanings.{meaning_of, IsWithinLimits}
use Rattle.live_tests.proofs.group.run_two.Goals as goal

pub run_group-requires-clause-within : goal.run_group-requires-clause-within
run_group-requires-clause-within g c κs within =
    let draws : List ℕ = 100 ∷ 100 ∷ [] in
    subst (λ (lists : List (List NamedContents)). IsWithinLimits (meaning_of c.args.g.now lists draws))
    (ap (map (λ l. l.items)) c.deref.ensures.value) ((c.are_within_limits.ensures draws).0 cc)
