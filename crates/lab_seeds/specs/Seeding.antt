-- The result of a script under seeds.
use Rattle.std.specs.Prelude.{◌≡◌, ◌≢◌, ◌⊎◌, ℕ, Bool, true, false, ◌==◌, List, [], ◌∷◌, ◌++◌, Option, if◌then◌else◌}
use Rattle.std.specs.List.{flat_map, list_all}
use Rattle.group_model.specs.World.{World}
use Rattle.script_report.specs.declared.refusal.Refusal.{Refusal}
use Rattle.script_report.specs.declared.refusal.Refusal.TheVariants.{Syntax, UnknownLabel, Duplicate, Limit}
use Rattle.script_report.specs.declared.refusal.Refusal.TheVariants.{NoSuchPacket, FetcherBusy, FetcherIdle}
use Rattle.script_report.specs.declared.refusal.Refusal.TheVariants.{NumbersSpent, NoGroup, TooLarge, Late}
use Rattle.script_report.specs.declared.refusal.Refusal.TheVariants.{BadPacket, NoSuchNumber, NoSuchWatch, NotLive}
use Rattle.script_report.specs.Refusals.{refusal_number, refusal_word}
use Rattle.script_story.specs.declared.ending.Ending.{Ending}
use Rattle.script_story.specs.declared.ending.Ending.TheVariants as ending
use Rattle.script_story.specs.ScriptRun.{ScriptRun}
use Rattle.lab_text.specs.declared.status.LabStatus.{LabStatus}
use Rattle.lab_text.specs.declared.status.LabStatus.TheVariants.{Done, Usage, Refused, ReadFault}
use Rattle.lab_text.specs.declared.status.LabStatus.TheVariants.{WriteFault, NoMemory}
use Rattle.lab_text.specs.Outcomes.{IsEnd, Outcome}
use Rattle.repo_io.specs.Outside.{GainsText, GainsPrefix}
use Rattle.lab_seeds.specs.declared.end.SeedEnd.{SeedEnd}
use Rattle.lab_seeds.specs.declared.figures.Figures.{Figures}
use Rattle.lab_seeds.specs.Counted.{figures_at}
use Rattle.lab_seeds.specs.Ends.{end_is_done}
use Rattle.lab_seeds.specs.Inputs.{script_of}
use Rattle.lab_seeds.specs.Seeds.{seeds_between}
use Rattle.lab_seeds.specs.ScriptRuns.{seed_run}
use Rattle.lab_seeds.specs.Texts.{done_text, foreign_text, ranks_text, refused_text}

-- ---- one seed

-- All refusals of a script.
abbrev pub refusals : List Refusal
refusals =
    Syntax ∷ UnknownLabel ∷ Duplicate ∷ Limit ∷ NoSuchPacket ∷ FetcherBusy ∷ FetcherIdle ∷ NumbersSpent ∷ NoGroup
    ∷ TooLarge ∷ Late ∷ BadPacket ∷ NoSuchNumber ∷ NoSuchWatch ∷ NotLive ∷ []

-- The word of the refusal that has this number.
abbrev pub word_of : ℕ → List ℕ
word_of number = flat_map (λ why. if refusal_number why == number then refusal_word why else []) refusals

-- The line that is written of `seed`, by how its run ended and by the world at its end.
abbrev pub ending_text : ℕ → Ending → Option World → List ℕ
ending_text seed ending.Done world = done_text seed (figures_at world)
ending_text seed (ending.Refused line number) world = refused_text seed line number (word_of number)
ending_text seed (ending.Foreign line) world = foreign_text seed line

-- The line that is written of `seed`, whose run is `s`.
abbrev pub seed_text : ℕ → ScriptRun → List ℕ
seed_text seed s = ending_text seed s.ending s.world

-- ---- all seeds

-- All lines of the script were taken.
abbrev pub is_done : Ending → Bool
is_done ending.Done = true
is_done (ending.Refused line number) = false
is_done (ending.Foreign line) = false

-- What was counted in a run, if all its lines were taken.
abbrev pub figures_if_done : ScriptRun → List Figures
figures_if_done s = if is_done s.ending then figures_at s.world ∷ [] else []

-- The text over the runs of seeds, and the status.
abbrev pub outcome_over : (ℕ → ScriptRun) → List ℕ → Outcome
outcome_over script_run seeds = record {
  text = flat_map (λ seed. seed_text seed (script_run seed)) seeds
      ++ ranks_text (flat_map (λ seed. figures_if_done (script_run seed)) seeds);
  status = if list_all (λ seed. is_done (script_run seed).ending) seeds then Done else Refused;
}

-- The result of an input under the seeds from the first to the last.
abbrev pub seeds_of : ℕ → ℕ → List ℕ → Outcome
seeds_of first last input = outcome_over (seed_run (script_of input)) (seeds_between first last)

-- ---- as it is written

-- The status by how runs ended.
abbrev pub ends_status : List SeedEnd → LabStatus
ends_status ends = if list_all end_is_done ends then Done else Refused

-- An outcome was written, or a prefix of its text.
pub record WritesSeeds (it : Outcome) (old new : Option (List ℕ)) (SinkFailed : Type 0) (status : LabStatus)
    : Type 0 where
  pub end : IsEnd status → status ≡ it.status
  pub text : IsEnd status → GainsText old new it.text
  pub prefix : GainsPrefix old new it.text (status ≡ WriteFault)
  pub write_fault : status ≡ WriteFault → SinkFailed
  pub others : (status ≡ it.status) ⊎ ((status ≡ WriteFault) ⊎ (status ≡ NoMemory))
  pub never_usage : status ≢ Usage
  pub never_read_fault : status ≢ ReadFault
