-- A script that is carried out line by line, to a sink that takes the reports.
use Rattle.std.specs.Prelude.{◌≡◌, ⊤, ℕ, ◌+◌, List, [], ◌∷◌, ◌++◌, length, map, Option, Some, None, IfSome}
use Rattle.std.specs.List.{concat, filter}
use Rattle.std.specs.Option.{option_map}
use Rattle.repo_io.specs.declared.status.Status.{Status}
use Rattle.repo_io.specs.declared.status.Status.TheVariants.{Done, Usage, Refused, ReadFault, WriteFault, NoMemory}
use Rattle.repo_io.specs.declared.status.Status.TheVariants.{Foreign}
use Rattle.script_lines.specs.declared.error.LineError.{LineError}
use Rattle.script_lines.specs.LineErrors.{line_error_status, line_error_text}
use Rattle.repo_io.specs.Outside.{GainsText, GainsPrefix}
use Rattle.repo_io.specs.Lines.{lines}
use Rattle.bench_world.specs.Worlds.{GroupState, world_of}
use Rattle.script_story.specs.Mirrors.{mirror_as}
use Rattle.script_story.specs.Evaluation.{RunEnvironment, accepted}
use Rattle.script_story.specs.ScriptRun.{Reached, ScriptRun, reached_after, after_text, evaluated_next, nothing_reached}
use Rattle.script_story.specs.ScriptRun.{run_from, run_of}
use Rattle.repo_io.specs.Statuses.{IsEndOfRun}
use Rattle.script_story.specs.Answers.{status_of}
use Rattle.repo_top.specs.Taken.{IsStoppedAt, IsTakenNear, FallsShortNear, can_be_evaluated, lines_so_far, lines_taken}
use Rattle.repo_top.specs.Taken.{report_of, taken}

-- ---- one line

-- A line was carried out, and its report written.
pub record Took (env : RunEnvironment) (r : Reached) (line : List ℕ) (next : Reached) (old new : Option
    (List ℕ)) : Type 0 where
  pub report : List ℕ
  pub verdict : evaluated_next env r line ≡ accepted report next.state
  pub then : next ≡ reached_after r line report next.state
  pub gained : GainsText old new report

-- Where the status is the end of a run, it is that of `s`, and the output gained the text of `s`. In every case the
-- output gained a prefix of that text.
pub record IsStatusOf (s : ScriptRun) (old new : Option (List ℕ)) (status : Status) : Type 0 where
  pub ending : IsEndOfRun status → status ≡ status_of s.ending
  pub text : IsEndOfRun status → GainsText old new s.text
  pub prefix : GainsPrefix old new s.text (status ≡ WriteFault)

-- The statuses with which a run stops at a line.
abbrev pub IsStopping : Status → Type 0
IsStopping Done = ⊥
IsStopping Usage = ⊥
IsStopping (Refused line number) = ⊤
IsStopping ReadFault = ⊥
IsStopping WriteFault = ⊤
IsStopping NoMemory = ⊤
IsStopping (Foreign line) = ⊤

-- A run stopped for the reason `why` at the line of this number: its status, and the text that the output gained.
pub record Halts (line : ℕ) (why : LineError) (old new : Option (List ℕ)) (status : Status) : Type 0 where
  pub stops : IsStopping status
  pub same : IsEndOfRun status → status ≡ line_error_status line why
  pub text : IsEndOfRun status → GainsText old new (line_error_text line why)
  pub prefix : GainsPrefix old new (line_error_text line why) (status ≡ WriteFault)

-- A run stopped at a line, whatever lines follow it.
pub record Stops (env : RunEnvironment) (r : Reached) (line : List ℕ) (old new : Option (List ℕ))
    (status : Status) : Type 0 where
  pub stops : IsStopping status
  pub tells : (others : List (List ℕ)) → IsStatusOf (run_from env r (line ∷ others)) old new status
  pub at : (number : ℕ) → IsStoppedAt status number → number ≡ r.lines + 1

-- `end` is the world of the run `s`, with its names, keys and mirrors.
pub record LeavesWorld (end : Option GroupState) (s : ScriptRun) : Type 0 where
  pub world : option_map world_of end ≡ s.world
  pub keys : IfSome end (λ world. world.keys ≡ s.keys)
  pub mirrors : IfSome end (λ world. map mirror_as world.mirrors ≡ s.mirrors)

-- A run ended with the last line, or before it where there is none. Where the run is done, `end` is its world.
pub record Finishes (env : RunEnvironment) (r : Reached) (lines_left : List (List ℕ)) (end : Option GroupState)
    (old new : Option (List ℕ)) (status : Status) : Type 0 where
  pub tells : IsStatusOf (run_from env r lines_left) old new status
  pub at : (number : ℕ) → IsStoppedAt status number → number ≡ r.lines + 1
  pub read : (status ≡ ReadFault) → ⊥
  pub last : status ≡ Done → LeavesWorld end (run_from env r lines_left)

-- ---- a run

-- `P` holds of an input and of its unread octets, where both are known.
abbrev pub Known : Option (List ℕ) → Option (List ℕ) → (List ℕ → List ℕ → Type 0) → Type 0
Known None now P = ⊤
Known (Some input) None P = ⊥
Known (Some input) (Some rest) P = P input rest

-- Lines were carried out, `r` is reached after them, and the octets `held` are read and not carried out.
pub record Carried (env : RunEnvironment) (held : List ℕ) (r : Reached) (old new : Option (List ℕ))
    (input rest : List ℕ) : Type 0 where
  pub done : List (List ℕ)
  pub octets : List ℕ
  pub text : List ℕ
  pub parts : input ≡ octets ++ (held ++ rest)
  pub cut : (more : List ℕ) → lines (octets ++ more) ≡ done ++ lines more
  pub joined : concat done ≡ octets
  pub count : r.lines ≡ length done
  pub evaluated : filter can_be_evaluated done ≡ done
  pub goes : (others : List (List ℕ))
      → run_from env nothing_reached (done ++ others) ≡ after_text text (run_from env r others)
  pub gained : GainsText old new text

-- What was written and read when a run ended: the script is carried out line by line.
pub record WritesLines (env : RunEnvironment) (old new : Option (List ℕ)) (status : Status) (input rest : List ℕ)
    : Type 0 where
  -- Whatever the status, what was written is a prefix of the report of the lines that were taken whole, and after
  -- `WriteFault` not the whole of it.
  pub prefix_of_taken : GainsPrefix old new (report_of env (lines_taken input rest)) (status ≡ WriteFault)
  -- After `ReadFault` what was written is the whole report of the lines that were taken whole.
  pub exact_after_read_fault : status ≡ ReadFault
      → GainsText old new (report_of env (lines_so_far (taken input rest)))
  -- At most 65,536 octets are taken past the end of the line that is refused or foreign.
  pub bounded_after_refusal : (line : ℕ) → IsStoppedAt status line → IsTakenNear line input rest
  -- After `WriteFault` at most 65,536 octets are taken past the end of the line whose report has the first octet that
  -- was not written.
  pub bounded_after_write_fault : status ≡ WriteFault → IfSome old (λ _. FallsShortNear env old new input rest)

-- The result of a run over a known input. Where the run is done, `end` is its world.
pub record Ran (env : RunEnvironment) (old new : Option (List ℕ)) (status : Status) (end : Option GroupState)
    (input rest : List ℕ) : Type 0 where
  pub tells : IsStatusOf (run_of env input) old new status
  pub read_to_end : status ≡ Done → rest ≡ []
  pub lines : WritesLines env old new status input rest
  pub last : status ≡ Done → LeavesWorld end (run_of env input)
