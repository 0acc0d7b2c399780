use Rattle.std.proofs.Common.{[], ◌∷◌}
use Rattle.live_member.specs.Meanings.{meaning_of}
use Rattle.live_tests.proofs.actors.actors_make_these_calls.Given as goal

-- the group, the lists that were given, and the draws
abbrev pub ghosts-act_two : goal.ghosts-act_two
ghosts-act_two g a = record {
  meaning = meaning_of a.g.now (a.alices.items ∷ a.bobs.items ∷ []) (100 ∷ 200 ∷ []);
}
