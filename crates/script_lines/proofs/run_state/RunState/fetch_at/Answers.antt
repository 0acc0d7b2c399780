use Rattle.std.proofs.Common.{◌≡◌}
use Rattle.script_lines.specs.declared.error.LineError.{LineError}
use Rattle.script_lines.specs.declared.error.LineError.TheVariants.{NoMemory}
use Rattle.script_lang.proofs.Stops.{stops_so}
use Rattle.script_lines.proofs.run_state.RunState.fetch_at.Goals as goal

pub returns-in_err-fetch-clause-stopped : goal.returns-in_err-fetch-clause-stopped
returns-in_err-fetch-clause-stopped g c =
    stops_so c.from_residual-in_err-fetch.result (λ (error : LineError). error ≡ NoMemory) c.in_err-fetch.field-0.0
    c.from_residual-in_err-fetch.ensures.1 c.in_err-fetch.ensures.err
