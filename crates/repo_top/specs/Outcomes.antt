-- What a run answers, reads and writes, and the world at its end, topic by topic, by what its words ask for.
use Rattle.std.specs.Prelude.{◌≡◌, ◌≢◌, ◌↔◌, ◌⊎◌, ℕ, List, [], map, Option, Some, None, IfSome}
use Rattle.std.specs.Option.{option_map}
use Rattle.repo_io.specs.declared.status.Status.{Status}
use Rattle.repo_io.specs.declared.status.Status.TheVariants.{Done, Usage, ReadFault, WriteFault, NoMemory, Foreign}
use Rattle.repo_io.specs.Outside.{GainsText, GainsPrefix}
use Rattle.repo_io.specs.Statuses.{IsEndOfRun}
use Rattle.bench_world.specs.Worlds.{GroupState, world_of}
use Rattle.script_story.specs.Answers.{status_of}
use Rattle.script_story.specs.Mirrors.{mirror_as}
use Rattle.script_story.specs.ScriptRun.{ScriptRun}
use Rattle.repo_top.specs.declared.asked.Asked.{Asked}
use Rattle.repo_top.specs.Forms.{InputIsRead, IsGenerated, IsInspected, IsRun}

-- The words alone decide on `Usage`.
pub record UsageIsOfWords (asked : Option Asked) (status : Status) (SameSource SameSink : Type 0) : Type 0 where
  -- `Usage` is answered exactly where the words are no form.
  pub usage : (status ≡ Usage) ↔ (asked ≡ None)
  -- On `Usage` nothing is read or written.
  pub untouched : status ≡ Usage → SameSource × SameSink

-- What was written is of the run that the words ask for, where source and sink know their octets.
pub record ReportsRun (script_run : Option ScriptRun) (old new : Option (List ℕ)) (status : Status) : Type 0 where
  -- On `Done`, `Refused` and `Foreign` the status is the run's end.
  pub end : IsEndOfRun status → IfSome script_run (λ s. status ≡ status_of s.ending)
  -- On `Done`, `Refused` and `Foreign` what was written is the run's text.
  pub text : IsEndOfRun status → IfSome script_run (λ s. GainsText old new s.text)
  -- Whatever the status, what was written is a prefix of that text, and after `WriteFault` not the whole of it.
  pub prefix : IfSome script_run (λ s. GainsPrefix old new s.text (status ≡ WriteFault))

-- What the form reads, and what it has written when the source fails.
pub record ReadsInput (asked : Option Asked) (left rest : Option (List ℕ)) (status : Status)
    (SameSource SameSink : Type 0) : Type 0 where
  -- On `Done` of a form that reads, the input was read to its end.
  pub read_to_end : status ≡ Done → InputIsRead asked → IfSome left (λ _. rest ≡ Some [])
  -- `gen` reads nothing.
  pub unread : IsGenerated asked → SameSource
  -- After `ReadFault` an inspection has written nothing.
  pub unwritten : IsInspected asked → status ≡ ReadFault → SameSink

-- On `Done`, `end` is the world of the run, with its names and keys and its mirrors.
pub record LeavesLast (asked : Option Asked) (script_run : Option ScriptRun) (status : Status) (end : Option GroupState)
    : Type 0 where
  pub world : status ≡ Done → IfSome script_run (λ s. option_map world_of end ≡ s.world)
  pub keys : status ≡ Done → IfSome script_run (λ s. IfSome end (λ world. world.keys ≡ s.keys))
  pub mirrors : status ≡ Done → IfSome script_run (λ s. IfSome end (λ world. map mirror_as world.mirrors ≡ s.mirrors))
  -- Unless a script is run and the status is `Done`, there is no world.
  pub no_world : (status ≢ Done) ⊎ (IsRun asked → ⊥) → end ≡ None

-- The other answers have their causes. Memory may run out at any time.
pub record HasCause (asked : Option Asked) (script_run : Option ScriptRun) (status : Status)
    (SourceFailed SinkFailed : Type 0) : Type 0 where
  -- `ReadFault` is answered only where the source failed, and `WriteFault` only where the sink did.
  pub read_fault : status ≡ ReadFault → SourceFailed
  pub write_fault : status ≡ WriteFault → SinkFailed
  -- Only a script has foreign lines.
  pub foreign : (line : ℕ) → status ≡ Foreign line → IsRun asked
  -- `gen` answers `Done` unless the sink fails or memory runs out.
  pub generated : IsGenerated asked → (status ≡ Done) ⊎ ((status ≡ NoMemory) ⊎ (status ≡ WriteFault))
  -- Where nothing fails, the answer is the run's end, unless memory runs out.
  pub complete : (SourceFailed → ⊥) → (SinkFailed → ⊥)
      → IfSome script_run (λ s. (status ≡ status_of s.ending) ⊎ (status ≡ NoMemory))
