use Rattle.std.proofs.Common.{subst}
use Rattle.svs_vector.specs.Rosters.{IsRoster}
use Rattle.svs_vector.proofs.RosterLemmas.{are_roster}
use Rattle.svs_vector.proofs.roster.Roster.len.Goals as goal

pub returns-clause-roster : goal.returns-clause-roster
returns-clause-roster c =
    subst IsRoster c.self.view_is (are_roster c.self.inside.members.entries c.self.invariant c.len.ensures.unique)
