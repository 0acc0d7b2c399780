use Rattle.std.proofs.Common.{[], ◌∷◌}
use Rattle.live_member.specs.Meanings.{meaning_of}
use Rattle.live_tests.proofs.settle.a_settle_gives_each_member_all_objects.Given as goal

-- the group, the lists that were given, and the draws
abbrev pub ghosts-settle_two : goal.ghosts-settle_two
ghosts-settle_two g a = record {
  meaning = meaning_of a.g.now (a.alices.items ∷ a.bobs.items ∷ []) (100 ∷ 200 ∷ []);
}
