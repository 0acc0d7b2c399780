use Rattle.std.proofs.Common.{ap, ◌∙◌}
use Rattle.svs_vector.specs.Rosters.{member_of}
use Rattle.svs_vector.proofs.RosterLemmas.{member_found}
use Rattle.svs_vector.proofs.roster.Roster.find.Goals as goal

pub returns-in_err-member : goal.returns-in_err-member
returns-in_err-member c =
    c.from_residual.ensures ∙ c.in_err-member.ensures.index
    ∙ member_found c.args.name.now c.octets.result.now c.self.inside.members.entries c.octets.ensures.spelled
    c.self.invariant.octets
    ∙ ap (member_of c.args.name.now) c.self.view_is

pub returns : goal.returns
returns c =
    c.in_ok-member.ensures.index
    ∙ member_found c.args.name.now c.octets.result.now c.self.inside.members.entries c.octets.ensures.spelled
    c.self.invariant.octets
    ∙ ap (member_of c.args.name.now) c.self.view_is
