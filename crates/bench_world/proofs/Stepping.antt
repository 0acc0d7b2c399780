-- What events make of a world, by the clauses of the methods that carry them out.
use Rattle.std.proofs.Common.{◌≡◌, length, sym, subst}
use Rattle.std.specs.Prelude.{Result, Ok, Err, IfOk, OnOk}
use Rattle.group_model.specs.World.{Environment}
use Rattle.bench_world.specs.declared.event.Happened.{Happened}
use Rattle.bench_world.specs.declared.event.EventError.{EventError}
use Rattle.bench_world.specs.EventValues.{EventValue, report_value, event_report}
use Rattle.bench_world.specs.Runs.{IsStep}
use Rattle.bench_world.specs.Steps.{NamesInRange}
use Rattle.bench_world.specs.CarryingOut.{HasCarriedOut, IsReportOf}
use Rattle.bench_world.specs.Worlds.{GroupState, world_of}

-- The step of an event is that of an equal one.
pub of_event : (env : Environment) (event e : EventValue) (old : GroupState) (r : Result Happened EventError)
    (new : GroupState) → event ≡ e → IsStep env e old r new → IsStep env event old r new
of_event env event e old r new is = subst (λ (x : EventValue). IsStep env x old r new) (sym is)

-- An event that succeeds is carried out.
pub carried_out : (env : Environment) (e : EventValue) (old : GroupState) (r : Result Happened EventError)
    (new : GroupState) → IsStep env e old r new → OnOk r (HasCarriedOut env e old new)
carried_out env e old (Ok happened) new made =
    record { taken = made.taken; world = made.world; joined = made.joined; steps = made.steps }
carried_out env e old (Err fault) new made = tt

-- The report of a step is the model's, and names members as that does.
pub is_reported : (env : Environment) (e : EventValue) (old : GroupState) (r : Result Happened EventError)
    (new : GroupState) → IsStep env e old r new
    → NamesInRange (length old.keys.members.names) (event_report old.keys env (world_of old) e)
    → IfOk r (λ happened. IsReportOf env e old (report_value happened))
is_reported env e old (Ok happened) new made all =
    record { report = made.report; all = subst (NamesInRange (length old.keys.members.names)) (sym made.report) all }
is_reported env e old (Err fault) new made all = tt
