-- Answers to commands: the octets that they are written in, and how octets are read as an answer.
use Rattle.std.specs.Prelude.{ℕ, ◌<◌, ◌^◌, List, [], ◌∷◌, ◌++◌, Option, Some, None, ok_or, Result, Ok, nat_lt, ◌==◌}
use Rattle.std.specs.Prelude.{if◌then◌else◌}
use Rattle.std.specs.Option.{option_and_then}
use Rattle.std.specs.Result.{result_ok}
use Rattle.ndn_tlv.specs.declared.tlv_fault.TlvFault.{TlvFault}
use Rattle.ndn_tlv.specs.declared.order_table.FieldError.{FieldError}
use Rattle.ndn_tlv.specs.Spelling.{element}
use Rattle.ndn_tlv.specs.NumberField.{number_field, number_of}
use Rattle.ndn_tlv.specs.Listing.{gathered, ◌>>=◌}
use Rattle.ndn_tlv.specs.Elements.{Item, elements}
use Rattle.ndn_tlv.specs.OrderTable.{fields}
use Rattle.repo_command.specs.declared.answer.Answer.{Answer}
use Rattle.repo_command.specs.declared.answer_fields.AnswerError as no_answer
use Rattle.repo_command.specs.declared.answer_fields.AnswerFields as declared_gathered
use Rattle.repo_command.specs.declared.answer_fields.AnswerField.{AnswerField}
use Rattle.repo_command.specs.declared.answer_fields.AnswerField.TheVariants.{ProcessId, StatusCode, InsertNum}
use Rattle.repo_command.specs.declared.answer_fields.AnswerField.TheVariants.{DeleteNum}
use Rattle.repo_command.specs.ElementTypes as types
use Rattle.repo_command.specs.OrderTables.{repo_command_response}

-- An answer that has a code alone.
abbrev pub code_only : ℕ → Answer
code_only code = record { code = code; process = None; inserted = None; deleted = None }

-- What an answer may be: a code of 16 bits, and numbers of 64.
abbrev pub IsSmall : Option ℕ → Type 0
IsSmall None = Unit {0}
IsSmall (Some n) = n < 2 ^ 64

-- The numbers of an answer fit their elements.
pub record IsAnswer (a : Answer) : Type 0 where
  pub code : a.code < 2 ^ 16
  pub process : IsSmall a.process
  pub inserted : IsSmall a.inserted
  pub deleted : IsSmall a.deleted

-- ---- writing

-- An element of an answer, where it has that number.
abbrev pub written_field : ℕ → Option ℕ → List ℕ
written_field typ None = []
written_field typ (Some n) = element typ (number_field n)

-- The elements of an answer, in order.
abbrev pub response_value : Answer → List ℕ
response_value a =
    ((written_field types.ProcessId a.process ++ element types.StatusCode (number_field a.code))
    ++ written_field types.InsertNum a.inserted) ++ written_field types.DeleteNum a.deleted

-- The octets of an answer.
abbrev pub written_answer : Answer → List ℕ
written_answer a = element types.RepoCommandResponse (response_value a)

-- ---- reading

-- Octets that are no answer, of which nothing more is said.
abbrev pub AnswerError : Type 0
AnswerError = no_answer.AnswerError

-- There is no answer.
abbrev pub none : AnswerError
none = record {}

-- The numbers of a RepoCommandResponse's fields, as far as they have come.
pub record AnswerSoFar : Type 0 where
  pub process : Option ℕ
  pub code : Option ℕ
  pub inserted : Option ℕ
  pub deleted : Option ℕ

-- No element was read yet.
abbrev pub no_number : AnswerSoFar
no_number = record { process = None; code = None; inserted = None; deleted = None }

-- An element was read as its number.
abbrev pub with_number : AnswerSoFar → AnswerField → ℕ → AnswerSoFar
with_number s ProcessId n = record s { process = Some n }
with_number s StatusCode n = record s { code = Some n }
with_number s InsertNum n = record s { inserted = Some n }
with_number s DeleteNum n = record s { deleted = Some n }

-- One element more was read.
abbrev pub with_answer_field : AnswerSoFar → AnswerField × Item → Result AnswerSoFar AnswerError
with_answer_field s field = ok_or (number_of field.1.value) none >>= λ n. Ok (with_number s field.0 n)

-- A fault in an answer's elements.
abbrev pub bad_answer_field : FieldError → AnswerError
bad_answer_field fault = none

-- What the elements of an answer say.
abbrev pub answer_fields : Item → Result AnswerSoFar AnswerError
answer_fields e =
    gathered with_answer_field bad_answer_field no_number
    (fields repo_command_response (elements e.value_start e.value))

-- The answer of these numbers: its code is there, and at most 65,535.
abbrev pub coded_answer : AnswerSoFar → ℕ → Option Answer
coded_answer s code =
    if nat_lt code 65536
    then Some (record { code = code; process = s.process; inserted = s.inserted; deleted = s.deleted })
    else None

-- The answer, where its status code was there.
abbrev pub whole_answer : AnswerSoFar → Option Answer
whole_answer s = option_and_then (coded_answer s) s.code

-- One element of that type, and nothing else.
abbrev pub response_among : List Item → Option TlvFault → Option Item
response_among (e ∷ []) None = if e.typ == types.RepoCommandResponse then Some e else None
response_among _ fault = None

-- The answer in an element.
abbrev pub answer_in : Item → Option Answer
answer_in e = option_and_then whole_answer (result_ok (answer_fields e))

-- The answer that octets are.
abbrev pub answer_of : List ℕ → Option Answer
answer_of octets = option_and_then answer_in (response_among (elements 0 octets).items (elements 0 octets).fault)

-- ---- the numbers without where they lie in memory

-- The fields that code has gathered.
abbrev pub answer_so_far : declared_gathered.AnswerFields → AnswerSoFar
answer_so_far g = record { process = g.process; code = g.code; inserted = g.inserted; deleted = g.deleted }
