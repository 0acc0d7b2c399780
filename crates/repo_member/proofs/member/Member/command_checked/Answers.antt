use Rattle.std.proofs.Common.{sym, ap, ◌∙◌}
use Rattle.repo_member.specs.Commanded.{coded}
use Rattle.repo_member.proofs.OrderLemmas.{orders_within, coded_refusals}
use Rattle.repo_member.proofs.member.Member.command_checked.Goals as goal

pub obey-requires-clause-command : goal.obey-requires-clause-command
obey-requires-clause-command c =
    orders_within c.args.g.now c.args.self.now.number c.args.octets.now c.in-Ok.field-0-0 c.in-Ok.command
    (sym c.requires.verdict ∙ ap coded c.in-Ok.is)

pub status_code-requires : goal.status_code-requires
status_code-requires c =
    coded_refusals _ c.args.g.now.clients.ring c.args.octets.now c.in-Err.refusal
    (sym (ap coded c.in-Err.is) ∙ c.requires.verdict)
