use Rattle.std.proofs.Common.{[], ◌∷◌}
use Rattle.live_member.specs.Meanings.{meaning_of}
use Rattle.live_tests.proofs.member.members_answer_and_keep_a_journal.Given as goal

-- the group, the lists that were given, and the draws
abbrev pub ghosts-act : goal.ghosts-act
ghosts-act g a = record {
  meaning = meaning_of a.g.now (a.objects.items ∷ a.none.items ∷ []) (100 ∷ 200 ∷ []);
}
