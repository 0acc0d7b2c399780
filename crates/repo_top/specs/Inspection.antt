-- The result of an input that is inspected: the text, and the end.
use Rattle.std.specs.Prelude.{ℕ, Bool, not, ◌||◌, List, length, Option, Some, None, Result, Ok, Err, nat_lt, ◌==◌}
use Rattle.std.specs.Prelude.{if◌then◌else◌}
use Rattle.std.specs.List.{filter}
use Rattle.hex.specs.Hex.{decode_of}
use Rattle.hex.specs.declared.error.FromHexError.{FromHexError}
use Rattle.ndn_tlv.specs.declared.tlv_fault.TlvFault.{TlvFault}
use Rattle.ndn_inspect.specs.Inspection.{Lines, inspected, printed_with_fault}
use Rattle.script_story.specs.declared.ending.Ending.{Ending}
use Rattle.script_story.specs.declared.ending.Ending.TheVariants.{Done, Refused}
use Rattle.script_report.specs.declared.refusal.Refusal.TheVariants.{Syntax, Limit, BadPacket}
use Rattle.script_report.specs.Refusals.{refusal_number}
use Rattle.script_story.specs.ScriptRun.{ScriptRun, plain_run, refused}

-- A space, a tab, a line feed or a carriage return.
abbrev pub is_space : ℕ → Bool
is_space octet = octet == 32 || octet == 9 || octet == 10 || octet == 13

-- The input without its spaces, tabs, line feeds and carriage returns.
abbrev pub without_spaces : List ℕ → List ℕ
without_spaces input = filter (λ octet. not (is_space octet)) input

-- The end of an inspection: done, or refused as BadPacket at line 1 where the elements have a fault.
abbrev pub sound_ending : Option TlvFault → Ending
sound_ending None = Done
sound_ending (Some fault) = Refused 1 (refusal_number BadPacket)

-- The run of octets that give these lines.
abbrev pub lines_run : Lines → ScriptRun
lines_run lines = plain_run (printed_with_fault lines.text lines.fault) (sound_ending lines.fault)

-- The run of an inspection of these octets. More than 8,800 of them are refused as Limit.
abbrev pub octets_run : List ℕ → ScriptRun
octets_run octets =
    if nat_lt 8800 (length octets) then refused Limit else lines_run (inspected octets)

-- The run of an input whose digits gave these octets, or couldn't be decoded.
abbrev pub decoded_run : Result (List ℕ) FromHexError → ScriptRun
decoded_run (Ok octets) = octets_run octets
decoded_run (Err e) = refused Syntax

-- The run of an input that is inspected: pairs of hexadecimal digits, with spaces anywhere. An input of more than
-- 16,777,216 octets is refused, whatever they are.
unfoldable pub inspect_run : List ℕ → ScriptRun
inspect_run input =
    if nat_lt 16777216 (length input) then refused Limit
    else decoded_run (decode_of (without_spaces input))
