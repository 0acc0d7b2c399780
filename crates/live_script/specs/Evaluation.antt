-- The verdict on a line of a live group's input, by the result of the lines before it.
use Rattle.std.specs.Prelude.{◌≡◌, ⊤, ℕ, ◌+◌, Bool, true, false, ◌&&◌, List, [], ◌∷◌, ◌++◌, length, sum_by, slice_set}
use Rattle.std.specs.Prelude.{slice_index_or, Option, Some, None, Result, Ok, Err, nat_lt, nat_le, if◌then◌else◌}
use Rattle.std.specs.List.{position_or_len}
use Rattle.std.specs.Str.{bytes_eq}
use Rattle.script_lang.specs.declared.verb.Verb.{Verb}
use Rattle.script_lang.specs.declared.verb.Verb.TheVariants as verb
use Rattle.script_lang.specs.declared.line_fault.LineFault.{LineFault}
use Rattle.script_lang.specs.declared.line_fault.LineFault.TheVariants as line_fault
use Rattle.script_lang.specs.declared.check_fault.CheckFault.{CheckFault}
use Rattle.script_lang.specs.declared.check_fault.CheckFault.TheVariants as check_fault
use Rattle.ndn_name.specs.Names.{Component}
use Rattle.script_lang.specs.Limits.{script_lines, script_octets}
use Rattle.script_lang.specs.Kinds.{Value, Text, Number, Named, Octets}
use Rattle.script_lang.specs.Forms.{Stated}
use Rattle.script_lang.specs.Lines.{line_of}
use Rattle.script_lang.specs.Checking.{Declared, Party, nothing_declared, after_line}
use Rattle.repo_object.specs.Objects.{NamedContents}
use Rattle.repo_object.specs.Cuts.{pieces}
use Rattle.repo_member.specs.Groups.{GroupKeys, no_nodes, with_node}
use Rattle.live_member.specs.Meanings.{object_limit, part_limit}
use Rattle.script_report.specs.declared.refusal.Refusal.{Refusal}
use Rattle.script_report.specs.declared.refusal.Refusal.TheVariants as refusal
use Rattle.live_script.specs.Limits.{live_contents}

-- The result of the lines so far: how many lines and octets were taken, what they declared, the names and keys of the
-- group, and the objects that each member is to publish.
pub record Reached : Type 0 where
  pub lines : ℕ
  pub octets : ℕ
  pub declared : Declared
  pub keys : GroupKeys
  pub lists : List (List NamedContents)

-- A group without a name, members and clients.
abbrev pub nobody : GroupKeys
nobody = record { name = []; members = no_nodes; clients = no_nodes }

-- Before the first line.
abbrev pub nothing_reached : Reached
nothing_reached = record { lines = 0; octets = 0; declared = nothing_declared; keys = nobody; lists = [] }

-- The verdict on a line: it is refused; or it is taken, and others may follow. `not_evaluated` is the verdict on a line
-- that no row here is for: there is no such line.
pub data Verdict : Type 0 where
  refused : Refusal → Verdict
  takes : Reached → Verdict
  not_evaluated : Verdict

-- The refusals of a live group's input. The others are of scripts alone.
abbrev pub is_of_live : Refusal → Bool
is_of_live refusal.Syntax = true
is_of_live refusal.UnknownLabel = true
is_of_live refusal.Duplicate = true
is_of_live refusal.Limit = true
is_of_live refusal.NoGroup = true
is_of_live refusal.TooLarge = true
is_of_live refusal.Late = true
is_of_live refusal.NotLive = true
is_of_live _ = false

-- One more line is taken: it is counted.
abbrev pub counted : List ℕ → Reached → Verdict
counted line r = takes (record r { lines = r.lines + 1; octets = r.octets + length line })

-- One more line is taken, after which `d` is declared, and the group and the lists are these.
abbrev pub taken : Reached → List ℕ → Declared → GroupKeys → List (List NamedContents) → Verdict
taken r line d keys lists = counted line (record r { declared = d; keys = keys; lists = lists })

-- ---- publications

-- The number of the first member with this label.
abbrev pub member_number : List ℕ → List Party → ℕ
member_number label members = position_or_len (λ (p : Party). bytes_eq p.label label) members

-- The object of a name whose segments are the pieces of a content.
abbrev pub cut_object : List Component → ℕ → List ℕ → NamedContents
cut_object name size content = record { name = name; contents = pieces size content }

-- Member `m` is to publish one more object, after the others of its list.
abbrev pub with_object : ℕ → NamedContents → List (List NamedContents) → List (List NamedContents)
with_object m object lists = slice_set lists m (slice_index_or lists m [] ++ object ∷ [])

-- A live group has at most `object_limit` publications, `live_contents` octets of contents and `part_limit` parts.
abbrev pub is_few : Declared → List (List NamedContents) → Bool
is_few d lists =
    nat_le (sum_by length lists) object_limit && nat_le d.totals.contents live_contents
    && nat_le d.totals.parts part_limit

-- The verdict on a `publish` line after which the members have these lists: it is taken within the limits.
abbrev pub published : Reached → List ℕ → Declared → List (List NamedContents) → Verdict
published r line d lists = if is_few d lists then taken r line d r.keys lists else refused refusal.TooLarge

-- ---- lines

-- The lines that a live group is given: its name, its members, and what these are to publish.
abbrev pub may_stand : Verb → Bool
may_stand verb.Group = true
may_stand verb.Member = true
may_stand verb.Publish = true
may_stand _ = false

-- A group of this name without members and clients.
abbrev pub named : List Component → GroupKeys
named name = record { name = name; members = no_nodes; clients = no_nodes }

-- The group with one member more.
abbrev pub with_member_too : List Component → List ℕ → GroupKeys → GroupKeys
with_member_too node key g = record g { members = with_node node key g.members }

-- The verdict on a line that neither its reading nor what was declared refuses.
abbrev pub taken_by : Verb → Reached → List ℕ → Declared → List Value → Verdict
taken_by verb.Group r line d (Named name ∷ []) = taken r line d (named name) r.lists
taken_by verb.Member r line d (Text label ∷ Named node ∷ Octets key ∷ []) =
    taken r line d (with_member_too node key r.keys) (r.lists ++ [] ∷ [])
taken_by verb.Publish r line d (Text m ∷ Named name ∷ Number size ∷ Octets content ∷ []) =
    published r line d (with_object (member_number m d.members) (cut_object name size content) r.lists)
taken_by _ r line d values = not_evaluated

-- The verdict on a line that the lines before it don't allow.
abbrev pub check_refused : CheckFault → Verdict
check_refused check_fault.NoGroup = refused refusal.NoGroup
check_refused check_fault.Late = refused refusal.Late
check_refused check_fault.UnknownLabel = refused refusal.UnknownLabel
check_refused check_fault.Duplicate = refused refusal.Duplicate
check_refused check_fault.Limit = refused refusal.Limit
check_refused check_fault.TooLarge = refused refusal.TooLarge
check_refused check_fault.NoMemory = not_evaluated

-- The verdict on a line, by whether the lines before it allow it.
abbrev pub checked : Reached → List ℕ → Stated → Result Declared CheckFault → Verdict
checked r line s (Ok d) = taken_by s.verb r line d s.values
checked r line s (Err fault) = check_refused fault

-- The verdict on a line that was read. Whether a live group's input may have it is tested before what was declared.
unfoldable pub evaluated_line : Reached → List ℕ → Stated → Verdict
evaluated_line r line s =
    if may_stand s.verb then checked r line s (after_line r.declared s) else refused refusal.NotLive

-- The verdict on a line, by what it reads as. Blank lines and comments are taken and declare nothing.
abbrev pub evaluated_read : Reached → List ℕ → Result (Option Stated) LineFault → Verdict
evaluated_read r line (Ok (Some s)) = evaluated_line r line s
evaluated_read r line (Ok None) = counted line r
evaluated_read r line (Err line_fault.Syntax) = refused refusal.Syntax
evaluated_read r line (Err line_fault.Limit) = refused refusal.Limit
evaluated_read r line (Err line_fault.NoMemory) = not_evaluated

-- An input has at most `script_lines` lines and `script_octets` octets. A line feed belongs to the line that it ends.
abbrev pub is_within_input : Reached → List ℕ → Bool
is_within_input r line = nat_lt r.lines script_lines && nat_le (r.octets + length line) script_octets

-- The verdict on the octets of the next line, its line feed among them.
abbrev pub evaluated : Reached → List ℕ → Verdict
evaluated r line = if is_within_input r line then evaluated_read r line (line_of line) else refused refusal.Limit

-- ---- what is promised

-- A line is taken, or refused for a reason that a live group's input has.
abbrev pub IsEvaluated : Verdict → Type 0
IsEvaluated (refused why) = is_of_live why ≡ true
IsEvaluated (takes next) = ⊤
IsEvaluated not_evaluated = ⊥

-- Each line is taken or refused for such a reason, whatever was taken before it.
abbrev pub EachLineIsEvaluated : Type 0
EachLineIsEvaluated = (r : Reached) (line : List ℕ) → IsEvaluated (evaluated r line)
