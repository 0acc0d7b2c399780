use Rattle.repo_mirror.specs.PacketsFor.{ArePacketsFor}
use Rattle.repo_mirror.specs.WantedAlone.{WantsThose}
use Rattle.repo_mirror.specs.MirrorCalls.{ListsAccepted, PassedIsGone}
use Rattle.repo_mirror.proofs.AcceptedLemmas.{lists_accepted}
use Rattle.repo_mirror.proofs.WantedLemmas.{wants_those}
use Rattle.repo_mirror.proofs.CallLemmas.{in_every_mirror, passed_is_gone}
use Rattle.repo_mirror.proofs.laws.calls_keep_mirrors_sound.Goals as goal

pub returns-clause-wants : goal.returns-clause-wants
returns-clause-wants c = in_every_mirror WantsThose wants_those

pub returns-clause-lists : goal.returns-clause-lists
returns-clause-lists c = in_every_mirror ListsAccepted (λ m r. lists_accepted m.pattern m.store r.packets)

pub returns-clause-packets : goal.returns-clause-packets
returns-clause-packets c = in_every_mirror (λ m. ArePacketsFor m.pattern m.store) (λ m r. r.packets)

pub returns-clause-gone : goal.returns-clause-gone
returns-clause-gone c = in_every_mirror PassedIsGone passed_is_gone
