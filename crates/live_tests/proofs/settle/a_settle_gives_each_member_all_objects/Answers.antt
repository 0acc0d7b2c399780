use Rattle.std.proofs.Common.{[], ◌∷◌, refl}
use Rattle.live_tests.proofs.settle.a_settle_gives_each_member_all_objects.Goals as goal

pub settle_two-requires : goal.settle_two-requires
settle_two-requires g c = record {
  group = refl;
  lists = refl;
  draws = refl;
  within = c.limited-alices.ensures (100 ∷ 200 ∷ []);
}
