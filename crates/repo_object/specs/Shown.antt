-- What a check is shown.
use Rattle.std.specs.Prelude.{ℕ, List}
use Rattle.repo_object.specs.declared.shown.Shown.{Shown}
use Rattle.repo_object.specs.declared.shown.Shown.TheVariants.{Octets, Packet}

-- The octets that a check is shown, alone or as a packet's.
abbrev pub octets_shown : Shown → List ℕ
octets_shown (Octets octets) = octets.now
octets_shown (Packet packet) = packet.now
