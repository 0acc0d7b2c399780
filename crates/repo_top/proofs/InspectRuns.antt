-- What was read of digits decides what an inspection of the whole input comes to.
use Rattle.std.proofs.Common.{◌≡◌, ◌≢◌, ℕ, ◌<◌, List, [], ◌++◌, length, Option, Some, None, ◌⊎◌, inl, inr, refl, sym}
use Rattle.std.proofs.Common.{ap, subst, arith, IfSome, ◌∙◌}
use Rattle.std.specs.Option.{option_map}
use Rattle.std.proofs.lemmas.List.{append-nil}
use Rattle.std.proofs.lemmas.Bool.Decides.{leb_tells}
use Rattle.std.specs.Io.KnownBytes.{IsAtEnd, Keeps, prepend_known}
use Rattle.script_story.specs.declared.ending.Ending.{Ending}
use Rattle.script_story.specs.declared.ending.Ending.TheVariants as ending
use Rattle.repo_io.specs.declared.status.Status.{Status}
use Rattle.repo_io.specs.declared.status.Status.TheVariants.{Done, NoMemory, WriteFault}
use Rattle.repo_io.specs.Statuses.{IsEndOfRun}
use Rattle.script_story.specs.Answers.{status_of}
use Rattle.script_story.specs.ScriptRun.{ScriptRun}
use Rattle.repo_top.specs.Inspection.{inspect_run}
use Rattle.repo_top.proofs.Inspections.{same_inspection, inspection_takes_whole}

-- nothing is left behind so few octets
abbrev pub IsWhole : List ℕ → Option (List ℕ) → Type 0
IsWhole read left = length read < 16777217 → IsAtEnd left

run_of_both : (read rest : List ℕ) → (length read < 16777217 → rest ≡ [])
    → inspect_run (read ++ rest) ≡ inspect_run read
run_of_both read rest whole =
    elim (leb_tells (length read) 16777216) [
      | inl few ↦ rw (whole (omega (arith, few.1)), append-nil read) refl
      | inr
          more ↦ same_inspection read rest more.1
    ]

-- what holds of the run of what was read holds of the run of the input
pub by_run : (Q : ScriptRun → Type 0) (before left : Option (List ℕ)) (read : List ℕ)
    → Keeps before (prepend_known read left) → IsWhole read left → Q (inspect_run read)
    → IfSome (option_map inspect_run before) Q
by_run Q None left read e whole q = tt
by_run Q (Some input) None read e whole q = absurd e
by_run Q (Some input) (Some rest) read e whole q =
    subst Q (sym (run_of_both read rest whole) ∙ ap inspect_run e) q

-- how a report that was begun may end
abbrev pub EndsSo : Status → Ending → Type 0
EndsSo status e = (status ≡ status_of e) ⊎ ((status ≡ NoMemory) ⊎ (status ≡ WriteFault))

pub printed_ends : (status : Status) (e : Ending) → EndsSo status e → IsEndOfRun status → status ≡ status_of e
printed_ends status e (inl same) printed = same
printed_ends status e (inr (inl same)) printed = absurd (subst IsEndOfRun same printed)
printed_ends status e (inr (inr same)) printed = absurd (subst IsEndOfRun same printed)

pub unfailing_ends : (status : Status) (e : Ending) → EndsSo status e → status ≢ WriteFault
    → (status ≡ status_of e) ⊎ (status ≡ NoMemory)
unfailing_ends status e (inl same) sound = inl same
unfailing_ends status e (inr (inl same)) sound = inr same
unfailing_ends status e (inr (inr same)) sound = absurd (sound same)

is_done : (e : Ending) → Done ≡ status_of e → e ≡ ending.Done
is_done ending.Done h = refl
is_done (ending.Refused line number) h = cc
is_done (ending.Foreign line) h = cc

pub none_left : (before left : Option (List ℕ)) (read : List ℕ) → Keeps before (prepend_known read left)
    → IsWhole read left → Done ≡ status_of (inspect_run read).ending → IfSome before (λ input. left ≡ Some [])
none_left None left read e whole done = tt
none_left (Some input) None read e whole done = absurd e
none_left (Some input) (Some rest) read e whole done =
    let few = inspection_takes_whole read (is_done (inspect_run read).ending done) in
    ap (λ (t : List ℕ). Some t) (whole (omega (arith, few)))
