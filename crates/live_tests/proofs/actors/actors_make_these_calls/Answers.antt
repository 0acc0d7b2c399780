use Rattle.std.proofs.Common.{[], ◌∷◌, refl}
use Rattle.live_tests.proofs.actors.actors_make_these_calls.Goals as goal

pub act_two-requires : goal.act_two-requires
act_two-requires g c = record {
  group = refl;
  lists = refl;
  draws = refl;
  within = c.limited-alices.ensures (100 ∷ 200 ∷ []);
}
