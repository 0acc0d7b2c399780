-- The numbers and words of refusals.
use Rattle.std.specs.Prelude.{ℕ, List, codes}
use Rattle.script_report.specs.Texts.{refused_text}
use Rattle.script_report.specs.declared.refusal.Refusal.{Refusal}
use Rattle.script_report.specs.declared.refusal.Refusal.TheVariants.{Syntax, UnknownLabel, Duplicate, Limit}
use Rattle.script_report.specs.declared.refusal.Refusal.TheVariants.{NoSuchPacket, FetcherBusy, FetcherIdle}
use Rattle.script_report.specs.declared.refusal.Refusal.TheVariants.{NumbersSpent, NoGroup, TooLarge, Late}
use Rattle.script_report.specs.declared.refusal.Refusal.TheVariants.{BadPacket, NoSuchNumber, NoSuchWatch, NotLive}

-- The number of each refusal. No refusal has number 0 or 13.
abbrev pub refusal_number : Refusal → ℕ
refusal_number Syntax = 1
refusal_number UnknownLabel = 2
refusal_number Duplicate = 3
refusal_number Limit = 4
refusal_number NoSuchPacket = 5
refusal_number FetcherBusy = 6
refusal_number FetcherIdle = 7
refusal_number NumbersSpent = 8
refusal_number NoGroup = 9
refusal_number TooLarge = 10
refusal_number Late = 11
refusal_number BadPacket = 12
refusal_number NoSuchNumber = 14
refusal_number NoSuchWatch = 15
refusal_number NotLive = 16

-- The word of each refusal.
abbrev pub refusal_word : Refusal → List ℕ
refusal_word Syntax = codes "Syntax"
refusal_word UnknownLabel = codes "UnknownLabel"
refusal_word Duplicate = codes "Duplicate"
refusal_word Limit = codes "Limit"
refusal_word NoSuchPacket = codes "NoSuchPacket"
refusal_word FetcherBusy = codes "FetcherBusy"
refusal_word FetcherIdle = codes "FetcherIdle"
refusal_word NumbersSpent = codes "NumbersSpent"
refusal_word NoGroup = codes "NoGroup"
refusal_word TooLarge = codes "TooLarge"
refusal_word Late = codes "Late"
refusal_word BadPacket = codes "BadPacket"
refusal_word NoSuchNumber = codes "NoSuchNumber"
refusal_word NoSuchWatch = codes "NoSuchWatch"
refusal_word NotLive = codes "NotLive"

-- The line of a report that says that a line of the input is refused.
abbrev pub refusal_text : ℕ → Refusal → List ℕ
refusal_text line why = refused_text line (refusal_number why) (refusal_word why)
