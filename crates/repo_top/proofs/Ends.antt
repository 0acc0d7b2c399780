-- An inspection leaves no world.
use Rattle.std.proofs.Common.{◌≡◌, ◌∙◌, List, ℕ, Bool, true, false, cond, ltb, length, Option, Some, None, IfSome}
use Rattle.std.proofs.Common.{Result, Ok, Err, map, refl, sym, ap, subst}
use Rattle.std.specs.Option.{option_map}
use Rattle.hex.specs.Hex.{decode_of}
use Rattle.hex.specs.declared.error.FromHexError.{FromHexError}
use Rattle.ndn_inspect.specs.Inspection.{inspected}
use Rattle.bench_world.specs.Worlds.{GroupState, world_of}
use Rattle.repo_top.specs.declared.asked.Asked.{Asked}
use Rattle.repo_top.specs.declared.asked.Asked.TheVariants.{Inspect}
use Rattle.script_report.specs.declared.refusal.Refusal.TheVariants.{Limit}
use Rattle.repo_top.specs.Forms.{asked_run}
use Rattle.repo_top.specs.Inspection.{decoded_run, inspect_run, lines_run, without_spaces}
use Rattle.repo_io.specs.declared.status.Status.{Status}
use Rattle.script_story.specs.Mirrors.{mirror_as}
use Rattle.script_story.specs.Evaluation.{RunEnvironment}
use Rattle.repo_top.specs.Outcomes.{LeavesLast}
use Rattle.script_story.specs.ScriptRun.{ScriptRun, refused}

world_by_size : (long : Bool) (octets : List ℕ) → (cond long (refused Limit) (lines_run (inspected octets))).world
    ≡ None
world_by_size true octets = refl
world_by_size false octets = refl

world_by_digits : (decoded : Result (List ℕ) FromHexError) → (decoded_run decoded).world ≡ None
world_by_digits (Ok octets) = world_by_size (ltb 8800 (length octets)) octets
world_by_digits (Err e) = refl

world_by_input : (long : Bool) (input : List ℕ) → (cond long (refused Limit)
    (decoded_run (decode_of (without_spaces input)))).world ≡ None
world_by_input true input = refl
world_by_input false input = world_by_digits (decode_of (without_spaces input))

no_world : (input : List ℕ) → (inspect_run input).world ≡ None
unfolding inspect_run
no_world input = world_by_input (ltb 16777216 (length input)) input

none_inspected : (before : Option (List ℕ)) (left : Option GroupState) → left ≡ None
    → IfSome (option_map inspect_run before) (λ script_run. option_map world_of left ≡ script_run.world)
none_inspected None left e = tt
none_inspected (Some input) left e = ap (λ (w : Option GroupState). option_map world_of w) e ∙ sym (no_world input)

inspected_world : (env : RunEnvironment) (asked : Option Asked) (before : Option (List ℕ)) (left : Option GroupState)
    → asked ≡ Some Inspect → left ≡ None → IfSome (asked_run env asked before)
    (λ script_run. option_map world_of left ≡ script_run.world)
inspected_world env asked before left e none =
    let P : Option Asked → Type 0 = λ k. IfSome (asked_run env k before)
    (λ script_run. option_map world_of left ≡ script_run.world) in
    subst P (sym e) (none_inspected before left none)

nothing_left : (P : ScriptRun → GroupState → Type 0) (script_run : Option ScriptRun) (left : Option GroupState)
    → left ≡ None
    → IfSome script_run (λ s. IfSome left (P s))
nothing_left P None left none = tt
nothing_left P (Some s) None none = tt
nothing_left P (Some s) (Some world) none = absurd cc

pub inspected_left : (env : RunEnvironment) (asked : Option Asked) (before : Option (List ℕ)) (status : Status)
    (left : Option GroupState) → asked ≡ Some Inspect → left ≡ None
    → LeavesLast asked (asked_run env asked before) status left
inspected_left env asked before status left e none = record {
  world = λ done. inspected_world env asked before left e none;
  keys = λ done. nothing_left (λ (s : ScriptRun) (world : GroupState). world.keys ≡ s.keys)
      (asked_run env asked before) left none;
  mirrors = λ done. nothing_left (λ (s : ScriptRun) (world : GroupState). map mirror_as world.mirrors ≡ s.mirrors)
      (asked_run env asked before) left none;
  no_world = λ other. none;
}
