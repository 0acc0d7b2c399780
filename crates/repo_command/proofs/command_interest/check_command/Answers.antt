use Rattle.std.proofs.Common.{◌≡◌, [], Some, Ok, refl, ap, ◌∙◌, arith}
use Rattle.std.proofs.lemmas.Grind.{common_steps}
use Rattle.std.specs.Prelude.{unwrap_or}
use Rattle.std.proofs.lemmas.Result.{err_from_is_err_and}
use Rattle.ndn_interest.specs.Interest.{interest_seen}
use Rattle.repo_command.specs.Parameters.{parameters, parameters_of}
use Rattle.repo_command.specs.Verbs.{verb_in}
use Rattle.repo_command.proofs.VerdictLemmas.{lent_or, last_refusal}
use Rattle.repo_command.proofs.command_interest.check_command.Goals as goal

pub returns-in_err-command : goal.returns-in_err-command
returns-in_err-command c =
    let p = err_from_is_err_and c.from_residual-in_err-command.result c.from_residual-in_err-command.ensures.1 in
    let verb : verb_in c.args.node.now (interest_seen c.in_ok-interest.interest).name ≡ Some c.in_ok-verb.verb =
    grind (arith, common_steps) in
    let given : parameters_of (unwrap_or (interest_seen c.in_ok-interest.interest).parameters [])
    ≡ Ok (parameters c.in_ok-parameters.parameters) =
    ap parameters_of (lent_or c.in_ok-interest.interest.parameters _ c.unwrap_or.result refl c.unwrap_or.ensures)
    ∙ c.in_ok-parameters.ensures in
    let refused =
    last_refusal c.args.node.now c.args.ring.now c.args.octets.now (interest_seen c.in_ok-interest.interest)
    c.in_ok-verb.verb c.in_ok-client.client (parameters c.in_ok-parameters.parameters) c.in_ok-interest.ensures verb
    c.in_ok-client.ensures given c.in_err-command.field-0.0 c.in_err-command.ensures.command in
    rw (p.1, p.2) (record { verdict = refused; spelled = tt })
