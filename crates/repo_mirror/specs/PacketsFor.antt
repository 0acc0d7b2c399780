-- What holds of each packet that a mirror stores.
use Rattle.std.specs.Prelude.{◌≡◌, ℕ, true, List, IfSome}
use Rattle.std.specs.List.{All}
use Rattle.repo_plan.specs.declared.part.Part.{Part}
use Rattle.repo_object.specs.Verdict.{CheckedPart, IsChecked}
use Rattle.repo_holdings.specs.Records.{Packet}
use Rattle.repo_holdings.specs.Taking.{Fetched}
use Rattle.repo_watch.specs.declared.pattern.Pattern.{Pattern}
use Rattle.repo_mirror.specs.Passing.{is_packet_for}

-- The octets passed every check for a want of this part.
pub record PassedFor (t : Part) (octets : List ℕ) : Type 0 where
  pub checked : CheckedPart
  pub part : checked.want.part ≡ t
  pub same : checked.octets ≡ octets
  pub passed : IsChecked checked

-- If a packet was received for a part, it passed every check for a want of that part.
abbrev pub IsCheckedFetch : Fetched → Type 0
IsCheckedFetch x = IfSome x.packet (PassedFor x.part)

-- A packet passed every check for a want of its part, and is no record of an object that the pattern doesn't accept.
pub record IsPacketFor (pattern : Pattern) (packet : Packet) : Type 0 where
  pub checks : PassedFor packet.0 packet.1
  pub kept : is_packet_for pattern packet.0 packet.1 ≡ true

-- Each stored packet is one of `IsPacketFor`.
abbrev pub ArePacketsFor : Pattern → List Packet → Type 0
ArePacketsFor pattern store = All (IsPacketFor pattern) store
