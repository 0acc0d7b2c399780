-- Why a step was not made.
use Rattle.std.proofs.Common.{Option, Some, None, ap}
use Rattle.group_model.specs.Refusals.{Refusal}
use Rattle.bench_world.specs.declared.event.EventError.{EventError}
use Rattle.bench_world.specs.declared.event.EventError.TheVariants as fault
use Rattle.bench_world.specs.Steps.{IsFaultOf, step_fault, IsStepFaultOf}

-- A refusal of an event is one of the step that it is.
pub step_faults : (why : Option Refusal) (f : EventError) → IsFaultOf why f → IsStepFaultOf why (step_fault f)
step_faults why fault.NoMemory h = tt
step_faults None fault.NoSuchPacket h = absurd h
step_faults None fault.FetcherBusy h = absurd h
step_faults None fault.FetcherIdle h = absurd h
step_faults None fault.NumbersSpent h = absurd h
step_faults None fault.NoSuchNumber h = absurd h
step_faults None fault.Foreign h = absurd h
step_faults (Some r) fault.NoSuchPacket h = ap step_fault h
step_faults (Some r) fault.FetcherBusy h = ap step_fault h
step_faults (Some r) fault.FetcherIdle h = ap step_fault h
step_faults (Some r) fault.NumbersSpent h = ap step_fault h
step_faults (Some r) fault.NoSuchNumber h = ap step_fault h
step_faults (Some r) fault.Foreign h = ap step_fault h
