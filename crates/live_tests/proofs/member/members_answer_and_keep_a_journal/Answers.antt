use Rattle.std.proofs.Common.{[], ◌∷◌}
use Rattle.live_tests.proofs.member.members_answer_and_keep_a_journal.Goals as goal

pub act-requires-clause-within : goal.act-requires-clause-within
act-requires-clause-within g c = c.limited-objects.ensures (100 ∷ 200 ∷ [])
