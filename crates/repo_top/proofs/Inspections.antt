-- An inspection depends on the octets that are taken, and one more.
use Rattle.std.proofs.Common.{◌≡◌, ℕ, ◌<◌, ◌≤◌, List, ◌++◌, length, ◌≢◌, Bool, true, false, cond, Option, Some, None}
use Rattle.std.proofs.Common.{Result, Ok, Err, ltb, length-append, refl, sym, ◌∙◌, arith, inl, inr}
use Rattle.std.proofs.lemmas.Bool.{lt-ltb}
use Rattle.std.proofs.lemmas.Bool.Decides.{leb_tells}
use Rattle.hex.specs.Hex.{decode_of}
use Rattle.hex.specs.declared.error.FromHexError.{FromHexError}
use Rattle.ndn_tlv.specs.declared.tlv_fault.TlvFault.{TlvFault}
use Rattle.ndn_inspect.specs.Inspection.{inspected}
use Rattle.script_story.specs.declared.ending.Ending.TheVariants.{Done}
use Rattle.repo_io.specs.declared.status.Status.TheVariants.{Foreign}
use Rattle.script_story.specs.Answers.{status_of}
use Rattle.script_report.specs.declared.refusal.Refusal.TheVariants.{Limit}
use Rattle.script_story.specs.ScriptRun.{refused}
use Rattle.repo_top.specs.Inspection.{decoded_run, inspect_run, lines_run, sound_ending, without_spaces}

too_long : (octets : List ℕ) → 16777216 < length octets → inspect_run octets ≡ refused Limit
unfolding inspect_run
too_long octets lt = rw (lt-ltb 16777216 (length octets) lt) refl

pub same_inspection : (octets more : List ℕ) → 16777216 < length octets
    → inspect_run (octets ++ more) ≡ inspect_run octets
same_inspection octets more lt =
    too_long (octets ++ more) (omega (arith, length-append octets more)) ∙ sym (too_long octets lt)

pub inspection_takes_whole : (octets : List ℕ) → (inspect_run octets).ending ≡ Done
    → length octets ≤ 16777216
inspection_takes_whole octets e =
    elim (leb_tells (length octets) 16777216) [
      | inl few ↦ few.1
      | inr more ↦ let long = rw (too_long octets more.1) at e in absurd cc
    ]

-- ---- no inspection is foreign

by_fault : (fault : Option TlvFault) (line : ℕ) → status_of (sound_ending fault) ≢ Foreign line
by_fault None line = λ e. cc
by_fault (Some fault) line = λ e. cc

by_size : (long : Bool) (octets : List ℕ) (line : ℕ) → status_of
    (cond long (refused Limit) (lines_run (inspected octets))).ending ≢ Foreign line
by_size true octets line = λ e. cc
by_size false octets line = by_fault (inspected octets).fault line

by_digits : (decoded : Result (List ℕ) FromHexError) (line : ℕ)
    → status_of (decoded_run decoded).ending ≢ Foreign line
by_digits (Ok octets) line = by_size (ltb 8800 (length octets)) octets line
by_digits (Err e) line = λ e. cc

by_input : (long : Bool) (input : List ℕ) (line : ℕ) → status_of
    (cond long (refused Limit) (decoded_run (decode_of (without_spaces input)))).ending ≢ Foreign line
by_input true input line = λ e. cc
by_input false input line = by_digits (decode_of (without_spaces input)) line

pub not_foreign : (input : List ℕ) (line : ℕ) → status_of (inspect_run input).ending ≢ Foreign line
unfolding inspect_run
not_foreign input line = by_input (ltb 16777216 (length input)) input line
