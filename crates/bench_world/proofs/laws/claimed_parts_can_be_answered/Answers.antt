use Rattle.bench_world.proofs.Answerable.{held_is_kept, publisher_is_kept}
use Rattle.bench_world.proofs.laws.claimed_parts_can_be_answered.Goals as goal

pub returns-clause-holders : goal.returns-clause-holders
returns-clause-holders c =
    λ s is clear j f q t there other claim holds. held_is_kept s is clear j f t there claim q other holds

pub returns-clause-publishers : goal.returns-clause-publishers
returns-clause-publishers c = λ s is clear j f t there claim. publisher_is_kept s is clear j f t there claim
