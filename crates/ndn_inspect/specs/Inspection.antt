-- The text that octets are inspected as: a line for each element, with the lines of those inside it
-- one deeper, and the first fault, which ends it.
use Rattle.std.specs.Prelude.{ℕ, zero, suc, ◌+◌, false, List, [], ◌∷◌, ◌++◌, length, codes, decimal, Option, Some, None}
use Rattle.std.specs.Prelude.{nat_lt, ◌==◌, ◌||◌, if◌then◌else◌}
use Rattle.std.specs.Fmt.{digits}
use Rattle.hex.specs.Hex.{encode_lower}
use Rattle.ndn_tlv.specs.declared.tlv_fault.TlvFault.{TlvFault}
use Rattle.ndn_tlv.specs.declared.tlv_fault.TlvFault.TheVariants.{Truncated, NotShortest, ZeroType, TypeTooLarge}
use Rattle.ndn_tlv.specs.Elements.{Item, elements}
use Rattle.ndn_inspect.specs.Types.{type_name, has_elements}

-- Two spaces for each depth.
unfoldable pub indent : ℕ → List ℕ
indent zero = []
indent (suc depth) = indent depth ++ codes "  "

-- A type in hexadecimal, of two digits at least.
abbrev pub type_digits : ℕ → List ℕ
type_digits typ = (if nat_lt typ 16 then codes "0" else []) ++ digits 16 false typ

-- The digits of a value that is not read as elements, after a space, unless it is empty.
abbrev pub value_digits : Item → List ℕ
value_digits e =
    if has_elements e.typ || length e.value == 0 then [] else codes " " ++ encode_lower e.value

-- The line of an element: its type, what that is called, how many octets its value has, and those
-- that are not elements again.
unfoldable pub element_line : ℕ → Item → List ℕ
element_line depth e =
    indent depth ++ type_digits e.typ ++ codes " " ++ type_name e.typ ++ codes " "
    ++ decimal (length e.value) ++ value_digits e ++ codes "\n"

-- Lines, and the fault after the last of them, if one ends them.
pub record Lines : Type 0 where
  pub text : List ℕ
  pub fault : Option TlvFault

-- No lines, and no fault.
abbrev pub no_lines : Lines
no_lines = record { text = []; fault = None }

-- Lines with a text in front of them.
infixr 10 ◌before◌
abbrev pub ◌before◌ : List ℕ → Lines → Lines
text before lines = record { text = text ++ lines.text; fault = lines.fault }

-- Lines, and others after them unless a fault ended them.
abbrev pub carried_on : List ℕ → Option TlvFault → Lines → Lines
carried_on text None others = text before others
carried_on text (Some fault) others = record { text = text; fault = Some fault }

-- Lines, and others after them unless a fault ended the first ones.
infixr 10 ◌and_then◌
abbrev pub ◌and_then◌ : Lines → Lines → Lines
lines and_then others = carried_on lines.text lines.fault others

-- The lines of what stands inside an element, under a reading of octets at a depth and an offset.
abbrev pub inner_lines : (ℕ → ℕ → List ℕ → Lines) → ℕ → Item → Lines
inner_lines read depth e =
    if has_elements e.typ then read (depth + 1) e.value_start e.value else no_lines

-- The lines of elements and of what stands inside them.
unfoldable pub lines_of : (ℕ → ℕ → List ℕ → Lines) → ℕ → List Item → Option TlvFault → Lines
lines_of read depth [] fault = record { text = []; fault = fault }
lines_of read depth (e ∷ es) fault =
    element_line depth e before inner_lines read depth e and_then lines_of read depth es fault

-- The same of octets, where elements are nested so deep at most.
unfoldable pub lines_within : ℕ → ℕ → ℕ → List ℕ → Lines
lines_within zero depth offset octets = no_lines
lines_within (suc n) depth offset octets =
    let read = elements offset octets in lines_of (lines_within n) depth read.items read.fault

-- The lines of octets that begin at an offset: what is nested is shorter than what it stands in.
unfoldable pub lines_at : ℕ → ℕ → List ℕ → Lines
lines_at depth offset octets = lines_within (length octets) depth offset octets

-- The lines of a whole input.
abbrev pub inspected : List ℕ → Lines
inspected octets = lines_at 0 0 octets

-- The line of a fault with this word, at this offset.
abbrev pub fault_text : ℕ → List ℕ → List ℕ
fault_text at word = codes "fault " ++ word ++ codes " " ++ decimal at ++ codes "\n"

-- The line of a fault of elements, with its offset in the input.
abbrev pub fault_line : TlvFault → List ℕ
fault_line (Truncated at) = fault_text at (codes "Truncated")
fault_line (NotShortest at) = fault_text at (codes "NotShortest")
fault_line (ZeroType at) = fault_text at (codes "ZeroType")
fault_line (TypeTooLarge at) = fault_text at (codes "TypeTooLarge")

-- What the lines are printed as: the fault has a line of its own.
abbrev pub printed_with_fault : List ℕ → Option TlvFault → List ℕ
printed_with_fault text None = text
printed_with_fault text (Some fault) = text ++ fault_line fault
