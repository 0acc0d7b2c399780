use Rattle.std.proofs.Common.{◌≡◌, ◌∙◌, ap, map}
use Rattle.std.specs.String.{string_bytes}
use Rattle.script_lines.specs.declared.error.LineError.{LineError}
use Rattle.script_lines.specs.declared.error.LineError.TheVariants.{NoMemory}
use Rattle.script_lang.proofs.Stops.{stops_so}
use Rattle.script_lines.proofs.MirrorLines.{listed_kept}
use Rattle.script_lines.proofs.run_state.RunState.list_at.Goals as goal

pub returns-in_err-list-clause-stopped : goal.returns-in_err-list-clause-stopped
returns-in_err-list-clause-stopped g c =
    stops_so c.from_residual-in_err-list.result (λ (error : LineError). error ≡ NoMemory) c.in_err-list.field-0.0
    c.from_residual-in_err-list.ensures.1 c.in_err-list.ensures.err

pub returns-clause-taken : goal.returns-clause-taken
returns-clause-taken g c =
    listed_kept (g.D.Draws.draw c.args.draws.now) c.args.self.now.phase c.replace-phase.result
    c.args.self.now.watchers.items c.args.self.now.words c.in_ok-world.world (map string_bytes c.deref.result.now)
    c.args.i c.args.label.now c.list.new.report.items c.replace-phase.ensures.value c.in_ok-world.ensures.world
    c.in_ok-world.ensures.keys c.in_ok-world.ensures.mirrors
    (ap (map string_bytes) c.deref.ensures.value ∙ c.requires.there.event.declared.named.labels)
    c.in_ok-list.ensures.report
