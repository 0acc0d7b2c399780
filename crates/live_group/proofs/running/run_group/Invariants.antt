use Rattle.std.proofs.Common.{map}
use Rattle.live_member.specs.Meanings.{meaning_of}
use Rattle.live_group.proofs.running.run_group.Given as goal

-- the group, the lists and the draws that were given, and the turns of each fetcher
abbrev pub ghosts-run_named-L-Run : goal.ghosts-run_named-L-Run
ghosts-run_named-L-Run g a = record { turns = a.turns }

abbrev pub ghosts-run_named-L-Lists : goal.ghosts-run_named-L-Lists
ghosts-run_named-L-Lists g a = record { meaning = meaning_of a.g.now (map (λ l. l.items) a.lists.items) a.draws.now }

-- the ledger of the tickets
abbrev pub ghosts-run_named-L-Ledger : goal.ghosts-run_named-L-Ledger
ghosts-run_named-L-Ledger g a = record { name = a.tokens.name; parts = a.tokens.parts }
