-- The forms of a run, and the result of each over an input.
use Rattle.std.specs.Prelude.{ℕ, ⊤, List, [], ◌∷◌, Option, Some, None, codes, if◌then◌else◌}
use Rattle.std.specs.Option.{option_map}
use Rattle.std.specs.Str.{bytes_eq}
use Rattle.script_story.specs.Evaluation.{RunEnvironment}
use Rattle.script_story.specs.ScriptRun.{ScriptRun, run_of}
use Rattle.repo_top.specs.Inspection.{inspect_run}
use Rattle.repo_top.specs.Words.{number_within}
use Rattle.repo_top.specs.declared.generator.GeneratorInputs.{GeneratorInputs}
use Rattle.repo_top.specs.Generator.{gen_run}
use Rattle.repo_top.specs.declared.asked.Asked.{Asked}
use Rattle.repo_top.specs.declared.asked.Asked.TheVariants.{Run, Inspect, Gen}

-- The number of members, the number of objects and the seed, where there are all three.
abbrev pub measures_of : Option ℕ → Option ℕ → Option ℕ → Option GeneratorInputs
measures_of (Some members) (Some objects) (Some seed) =
    Some (record { members = members; objects = objects; seed = seed })
measures_of _ _ _ = None

-- `gen MEMBERS OBJECTS SEED`: 1 to 16 members, 1 to 2,000 objects and a seed of at most 18 digits.
abbrev pub gen_of : List (List ℕ) → Option GeneratorInputs
gen_of (word ∷ members ∷ objects ∷ seed ∷ []) =
    if bytes_eq word (codes "gen")
    then measures_of (number_within 1 16 members) (number_within 1 2000 objects)
    (number_within 0 999999999999999999 seed) else None
gen_of _ = None

-- `run` and `inspect` are one word.
abbrev pub reading_of : List (List ℕ) → Option Asked
reading_of (word ∷ []) =
    if bytes_eq word (codes "run") then Some Run
    else if bytes_eq word (codes "inspect") then Some Inspect
    else None
reading_of _ = None

-- What is asked for, or else that a script of these measures is generated.
abbrev pub either : Option Asked → Option GeneratorInputs → Option Asked
either (Some asked) measures = Some asked
either None measures = option_map Gen measures

-- What the words ask for: that a script is run, that octets are inspected, or that a script is generated.
abbrev pub asked_of : List (List ℕ) → Option Asked
asked_of words = either (reading_of words) (gen_of words)

-- A script is run.
abbrev pub IsRun : Option Asked → Type 0
IsRun None = ⊥
IsRun (Some Run) = ⊤
IsRun (Some Inspect) = ⊥
IsRun (Some (Gen measures)) = ⊥

-- Octets are inspected.
abbrev pub IsInspected : Option Asked → Type 0
IsInspected None = ⊥
IsInspected (Some Run) = ⊥
IsInspected (Some Inspect) = ⊤
IsInspected (Some (Gen measures)) = ⊥

-- A script is generated.
abbrev pub IsGenerated : Option Asked → Type 0
IsGenerated None = ⊥
IsGenerated (Some Run) = ⊥
IsGenerated (Some Inspect) = ⊥
IsGenerated (Some (Gen measures)) = ⊤

-- The input is read.
abbrev pub InputIsRead : Option Asked → Type 0
InputIsRead None = ⊥
InputIsRead (Some Run) = ⊤
InputIsRead (Some Inspect) = ⊤
InputIsRead (Some (Gen measures)) = ⊥

-- The run that the words ask for over an input, where the input is known or not needed.
abbrev pub asked_run : RunEnvironment → Option Asked → Option (List ℕ) → Option ScriptRun
asked_run env None input = None
asked_run env (Some Run) input = option_map (run_of env) input
asked_run env (Some Inspect) input = option_map inspect_run input
asked_run env (Some (Gen measures)) input = Some (gen_run measures)
