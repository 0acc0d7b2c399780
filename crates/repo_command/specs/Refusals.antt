-- A command that is not signed under a key of the ring is refused as such.
use Rattle.ndn_interest.specs.declared.signature_error.SignatureError.{SignatureError}
use Rattle.ndn_interest.specs.declared.signature_error.SignatureError.TheVariants as signature
use Rattle.repo_command.specs.declared.command_refusal.CommandRefusal.{CommandRefusal}
use Rattle.repo_command.specs.declared.command_refusal.CommandRefusal.TheVariants.{Unsigned, ParamsDigest, UnknownKey}
use Rattle.repo_command.specs.declared.command_refusal.CommandRefusal.TheVariants.{BadSignature}

-- How a command is refused for its signature.
abbrev pub unsigned_as : SignatureError → CommandRefusal
unsigned_as signature.Unsigned = Unsigned
unsigned_as signature.ParamsDigest = ParamsDigest
unsigned_as signature.UnknownKey = UnknownKey
unsigned_as signature.BadSignature = BadSignature
