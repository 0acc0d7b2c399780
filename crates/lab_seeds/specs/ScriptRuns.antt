-- The run of a script under a seed.
use Rattle.std.specs.Prelude.{ℕ, ◌+◌, Bool, true, false, List, ◌++◌, length}
use Rattle.script_report.specs.declared.refusal.Refusal.TheVariants.{Limit}
use Rattle.script_report.specs.Refusals.{refusal_number, refusal_text}
use Rattle.script_story.specs.declared.ending.Ending.{Ending}
use Rattle.script_story.specs.declared.ending.Ending.TheVariants.{Done, Refused, Foreign}
use Rattle.bench_net.specs.Keystream.{seeded_draw, seeded_passes}
use Rattle.script_story.specs.Evaluation.{RunEnvironment, env_by}
use Rattle.script_story.specs.ScriptRun.{ScriptRun, nothing_reached, run_from}
use Rattle.lab_seeds.specs.Inputs.{ScriptLines}
use Rattle.lab_seeds.specs.Seeds.{seed_octets}

-- How a run ends that is cut at line `number`: where it didn't end before, that line is refused with `Limit`.
abbrev pub ending_at : ℕ → Ending → Ending
ending_at number Done = Refused number (refusal_number Limit)
ending_at number (Refused line why) = Refused line why
ending_at number (Foreign line) = Foreign line

-- The report of a run that is cut at line `number`: where the run didn't end before, `text` and the refusal of that
-- line.
abbrev pub text_at : ℕ → Ending → List ℕ → List ℕ
text_at number Done text = text ++ refusal_text number Limit
text_at number (Refused line why) text = text
text_at number (Foreign line) text = text

-- The run `s`, which ends at line `number` at the latest where the lines were cut off before that line.
abbrev pub cut_at : Bool → ℕ → ScriptRun → ScriptRun
cut_at false number s = s
cut_at true number s = record s { text = text_at number s.ending s.text; ending = ending_at number s.ending }

-- The run of a script.
abbrev pub script_story : RunEnvironment → ScriptLines → ScriptRun
script_story env s = cut_at s.cut (length s.lines + 1) (run_from env nothing_reached s.lines)

-- What a seed decides: the draws, and which attempts the network passes.
abbrev pub given_of : ℕ → RunEnvironment
given_of seed = env_by (seeded_draw (seed_octets seed)) (seeded_passes (seed_octets seed))

-- The run of the script `s` under the seed `seed`.
abbrev pub seed_run : ScriptLines → ℕ → ScriptRun
seed_run s seed = script_story (given_of seed) s
