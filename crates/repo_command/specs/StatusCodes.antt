-- The status codes of answers, in this project's profile of the repo protocol.
use Rattle.std.specs.Prelude.{ℕ}
use Rattle.repo_command.specs.declared.command_refusal.CommandRefusal.{CommandRefusal}
use Rattle.repo_command.specs.declared.command_refusal.CommandRefusal.TheVariants.{ParamsDigest, UnknownKey}
use Rattle.repo_command.specs.declared.command_refusal.CommandRefusal.TheVariants.{BadSignature, Packet, OtherName}
use Rattle.repo_command.specs.declared.command_refusal.CommandRefusal.TheVariants.{Unsigned, BadParameter, NoMemory}

-- An insertion process has begun.
abbrev pub Accepted : ℕ
Accepted = 100

-- The object of a process is published, or objects were deleted.
abbrev pub Done : ℕ
Done = 200

-- Blocks of the process are missing.
abbrev pub InProgress : ℕ
InProgress = 300

-- The command has a wrong parameters digest, an unknown key or a wrong mac.
abbrev pub NotValidated : ℕ
NotValidated = 401

-- The command is refused for what it is, or process numbers are used up.
abbrev pub Malformed : ℕ
Malformed = 403

-- There is no such process, or no catalogued object of that name.
abbrev pub NotFound : ℕ
NotFound = 404

-- What is answered to a command that is refused. Running out of memory is no refusal of a command and has no code,
-- which 0 says: no answer has it.
abbrev pub refusal_code : CommandRefusal → ℕ
refusal_code ParamsDigest = NotValidated
refusal_code UnknownKey = NotValidated
refusal_code BadSignature = NotValidated
refusal_code (Packet fault) = Malformed
refusal_code OtherName = Malformed
refusal_code Unsigned = Malformed
refusal_code BadParameter = Malformed
refusal_code NoMemory = 0
