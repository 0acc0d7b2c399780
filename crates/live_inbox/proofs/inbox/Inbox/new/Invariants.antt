use Rattle.live_inbox.proofs.inbox.Inbox.new.Given as goal

-- as many ports as were asked for
abbrev pub ghosts-deal : goal.ghosts-deal
ghosts-deal g a = record { count = a.ports }
