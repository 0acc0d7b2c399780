-- What a run of a live group answers, writes and leaves.
use Rattle.std.specs.Prelude.{◌≡◌, ◌≢◌, ◌↔◌, ◌⊎◌, ⊤, ℕ, Bool, true, false, List, [], ◌∷◌, codes, Option, Some, None}
use Rattle.std.specs.Prelude.{IfSome, IsSome, Vec}
use Rattle.std.specs.Global.{Global}
use Rattle.std.specs.List.{All}
use Rattle.std.specs.Str.{bytes_eq}
use Rattle.std.specs.Io.KnownBytes.{IsAtEnd, Keeps, prepend_known}
use Rattle.live_member.specs.Meanings.{Meaning}
use Rattle.live_group.specs.Outs as threads
use Rattle.live_settle.specs.declared.ran.Ran.{Ran}
use Rattle.live_settle.specs.Rans.{AreRans}
use Rattle.repo_io.specs.declared.status.Status.{Status}
use Rattle.repo_io.specs.declared.status.Status.TheVariants as status
use Rattle.repo_io.specs.Outside.{GainsText, GainsPrefix}
use Rattle.repo_io.specs.Statuses.{IsEndOfRun}
use Rattle.script_report.specs.declared.refusal.Refusal.{Refusal}
use Rattle.script_report.specs.Refusals.{refusal_number, refusal_text}
use Rattle.live_script.specs.Evaluation.{Reached, is_of_live}
use Rattle.live_top.specs.Outcomes.{Outcome, Refused, Taken, Unjudged, outcome_of, meaning_at, labels_at}
use Rattle.live_top.specs.Journals.{live_text}

-- The words of a run are the word `live` alone.
abbrev pub is_live : List (List ℕ) → Bool
is_live (word ∷ []) = bytes_eq word (codes "live")
is_live _ = false

-- The status of a run over an input with this outcome. No input is `Unjudged`, and no refusal has the number 0.
abbrev pub status_of : Outcome → Status
status_of (Refused line why) = status.Refused line (refusal_number why)
status_of (Taken r) = status.Done
status_of Unjudged = status.Refused 0 0

-- The line is refused under `number`, for a reason that a live group's input can have, and the refusal was written.
pub record SaysRefused (line number : ℕ) (old new : Option (List ℕ)) : Type 0 where
  pub why : Refusal
  pub among : is_of_live why ≡ true
  pub number_is : number ≡ refusal_number why
  pub text : GainsText old new (refusal_text line why)

-- All that the actors of each member do was done before the settle, as far as a run in threads promises it.
abbrev pub HaveActed : Meaning → List Ran → Type 0
HaveActed t rans = All (threads.HasRun t (threads.turns_of t)) rans

-- An input was read to its end, each of its lines was taken, its members ran and all that their actors do was done, and
-- their journals and catalogues were written. `left` and `rest` are what is left in the source before and after the
-- run. `old` and `new` are what was written to the sink before and after it.
pub record HasRun (draw : ℕ → ℕ → ℕ) (left rest old new : Option (List ℕ)) (rans : List Ran) : Type 0 where
  pub input : List ℕ
  pub read : Keeps left (prepend_known input rest)
  pub ended : IsAtEnd rest
  pub reached : Reached
  pub taken : outcome_of input ≡ Taken reached
  pub ran : AreRans (meaning_at draw reached) rans
  pub acted : HaveActed (meaning_at draw reached) rans
  pub text : GainsText old new (live_text (labels_at reached) rans)

-- A text that a run may write over an input whose lines were all taken: the journals and catalogues of members that
-- ran.
pub record ReportsOfRun (draw : ℕ → ℕ → ℕ) (r : Reached) (text : List ℕ) : Type 0 where
  pub rans : List Ran
  pub ran : AreRans (meaning_at draw r) rans
  pub is : text ≡ live_text (labels_at r) rans

-- A text that a run may write over an input with this outcome: the refusal of a line, or the journals and catalogues of
-- members that ran.
abbrev pub MayWrite : (ℕ → ℕ → ℕ) → Outcome → List ℕ → Type 0
MayWrite draw (Refused line why) text = text ≡ refusal_text line why
MayWrite draw (Taken r) text = ReportsOfRun draw r text
MayWrite draw Unjudged text = ⊥

-- A prefix of a text that a run may write over an input with this outcome was written. If `FellShort` holds, it isn't
-- the whole text.
pub record WritesPrefix (draw : ℕ → ℕ → ℕ) (outcome : Outcome) (old new : Option (List ℕ)) (FellShort : Type 0)
    : Type 0 where
  pub text : List ℕ
  pub may : MayWrite draw outcome text
  pub prefix : GainsPrefix old new text FellShort

-- ---- a run, topic by topic

-- The words alone decide on `Usage`.
pub record UsageIsOfWords (words : List (List ℕ)) (answer : Status) (SameSource SameSink : Type 0) : Type 0 where
  -- The answer is `Usage` exactly where the words aren't `live`.
  pub usage : (answer ≡ status.Usage) ↔ (is_live words ≡ false)
  -- On `Usage` nothing is read or written.
  pub untouched : answer ≡ status.Usage → SameSource × SameSink

-- What the lines of the input decide of the status.
pub record IsOfLines (left : Option (List ℕ)) (answer : Status) : Type 0 where
  -- On `Done` and `Refused` the status is that of the input's outcome.
  pub reported : IsEndOfRun answer → IfSome left (λ input. answer ≡ status_of (outcome_of input))
  -- No line brings octets, so none is foreign.
  pub never_foreign : (line : ℕ) → answer ≢ status.Foreign line

-- The members that are left in `end`.
pub record LeavesRans (draw : ℕ → ℕ → ℕ) (left rest old new : Option (List ℕ)) (answer : Status)
    (end : Option (Vec Ran Global)) : Type 0 where
  -- On `Done`, `end` isn't `None`.
  pub there : answer ≡ status.Done → IsSome end
  -- On `Done` the input was read to its end, the members in `end` ran as it says, and their journals and catalogues
  -- were written.
  pub done : answer ≡ status.Done → IfSome end (λ rans. HasRun draw left rest old new rans.items)
  -- On every other answer `end` is `None`.
  pub none : answer ≢ status.Done → end ≡ None

-- The other answers have their causes. Memory may run out at any time.
pub record HasCause (words : List (List ℕ)) (left : Option (List ℕ)) (answer : Status)
    (SameSink SourceFailed SinkFailed : Type 0) : Type 0 where
  -- The answer is `ReadFault` only where the source failed, and then nothing was written.
  pub read_fault : answer ≡ status.ReadFault → SourceFailed
  pub unwritten : answer ≡ status.ReadFault → SameSink
  -- The answer is `WriteFault` only where the sink failed.
  pub write_fault : answer ≡ status.WriteFault → SinkFailed
  -- Where the words are `live` and neither source nor sink fails, the answer is that of the input's outcome, unless
  -- memory runs out.
  pub complete : is_live words ≡ true → (SourceFailed → ⊥) → (SinkFailed → ⊥)
      → IfSome left (λ input. (answer ≡ status_of (outcome_of input)) ⊎ (answer ≡ status.NoMemory))

-- ---- the two ends of a run

-- The answers to a line that is refused. On `Refused` the refusal was written. On `WriteFault` a prefix of it was
-- written, and not the whole. On `NoMemory` nothing is said here.
abbrev pub Refuses : ℕ → Refusal → (old new : Option (List ℕ)) → Status → Type 0
Refuses line why old new (status.Refused at number) =
    (at ≡ line) × (number ≡ refusal_number why) × GainsText old new (refusal_text line why)
Refuses line why old new status.WriteFault = GainsPrefix old new (refusal_text line why) ⊤
Refuses line why old new status.NoMemory = ⊤
Refuses line why old new _ = ⊥

-- The members that the lines gave ran, `rans` is the result, all that their actors do was done, and their journals and
-- catalogues were written.
pub record RunsTo (draw : ℕ → ℕ → ℕ) (r : Reached) (old new : Option (List ℕ)) (rans : List Ran) : Type 0 where
  pub ran : AreRans (meaning_at draw r) rans
  pub acted : HaveActed (meaning_at draw r) rans
  pub text : GainsText old new (live_text (labels_at r) rans)

-- How a run of a group ends. On `Done` the members that ran are left, and their journals and catalogues were written.
-- On `WriteFault` and `NoMemory` no members are left, and on `WriteFault` a prefix of such a text was written, and not
-- the whole.
abbrev pub Runs : (ℕ → ℕ → ℕ) → Reached → (old new : Option (List ℕ)) → Option (Vec Ran Global) → Status → Type 0
Runs draw r old new (Some rans) status.Done = RunsTo draw r old new rans.items
Runs draw r old new None status.WriteFault = WritesPrefix draw (Taken r) old new ⊤
Runs draw r old new None status.NoMemory = ⊤
Runs draw r old new end _ = ⊥
