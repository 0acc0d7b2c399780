-- Which word of a line is refused for what the lines before it declared.
use Rattle.std.specs.Prelude.{ℕ, ◌+◌, Bool, true, false, ◌||◌, Option, Some, None, is_some, List, [], ◌∷◌}
use Rattle.std.specs.Prelude.{if◌then◌else◌}
use Rattle.script_lang.specs.declared.check_fault.CheckFault.{CheckFault}
use Rattle.script_lang.specs.declared.check_fault.CheckFault.TheVariants as check_fault
use Rattle.script_lang.specs.Kinds.{Value, Text, Anyone, Number, Named, Octets}
use Rattle.script_lang.specs.Forms.{Stated}
use Rattle.script_lang.specs.Checking.{Declared, Sort, command, declaration, event, mirroring, mirror_place}
use Rattle.script_lang.specs.Checking.{party_place}
use Rattle.script_lang.specs.Checking.{declares, sort_of}

-- The label is a declared member's.
abbrev pub is_member : Declared → List ℕ → Bool
is_member d label = is_some (party_place label d.members)

-- The label is a declared client's.
abbrev pub is_client : Declared → List ℕ → Bool
is_client d label = is_some (party_place label d.clients)

-- The label is a declared mirror's.
abbrev pub is_mirror : Declared → List ℕ → Bool
is_mirror d label = is_some (mirror_place label d.mirrors)

-- The label is declared as a line of the sort `sort` needs it: as a member's, or in an event of a mirror as a mirror's.
-- In a client's command a label after the first (`later`) is a client's. The first label of a declaration is the new
-- one, and always passes.
abbrev pub is_known : Sort → Bool → Declared → List ℕ → Bool
is_known declaration false d label = true
is_known declaration true d label = is_member d label
is_known event later d label = is_member d label
is_known command false d label = is_member d label
is_known command true d label = is_client d label
is_known mirroring later d label = is_mirror d label

-- The place of the first unknown label of the values, of which the first is at `place`. `later` says whether a label
-- stands before them.
unfoldable pub unknown_from : Sort → Declared → Bool → ℕ → List Value → Option ℕ
unknown_from sort d later place [] = None
unknown_from sort d later place (Text label ∷ values) =
    if is_known sort later d label then unknown_from sort d true (place + 1) values else Some place
unknown_from sort d later place (Anyone ∷ values) = unknown_from sort d later (place + 1) values
unknown_from sort d later place (Number n ∷ values) = unknown_from sort d later (place + 1) values
unknown_from sort d later place (Named name ∷ values) = unknown_from sort d later (place + 1) values
unknown_from sort d later place (Octets octets ∷ values) = unknown_from sort d later (place + 1) values

-- The place of the first label of a line that is unknown.
abbrev pub unknown_place : Declared → Stated → Option ℕ
unknown_place d s = unknown_from (sort_of s.verb) d false 0 s.values

-- The label is declared for a member, a client or a mirror.
abbrev pub is_declared : Declared → List ℕ → Bool
is_declared d label = is_member d label || is_client d label || is_mirror d label

-- The place of what a declaration declares a second time: the label, or else the name of the node. A second group is
-- refused for its verb.
abbrev pub double_in : Declared → List Value → Option ℕ
double_in d (Text label ∷ values) = if is_declared d label then Some 0 else Some 1
double_in d values = None

-- The place of what a line declares a second time.
abbrev pub double_place : Declared → Stated → Option ℕ
double_place d s = if declares s.verb then double_in d s.values else None

-- The place of the word for which a line is refused with this fault, or none where it is refused for its verb.
abbrev pub checked_place : CheckFault → Declared → Stated → Option ℕ
checked_place check_fault.UnknownLabel d s = unknown_place d s
checked_place check_fault.Duplicate d s = double_place d s
checked_place check_fault.NoGroup d s = None
checked_place check_fault.Late d s = None
checked_place check_fault.Limit d s = None
checked_place check_fault.TooLarge d s = None
checked_place check_fault.NoMemory d s = None
