-- What holds of each frame of a line.
use Rattle.std.specs.Prelude.{◌≡◌, ◌⊎◌, ℕ, true, List, Some}
use Rattle.std.specs.List.{Contains}
use Rattle.ndn_tlv.specs.Types as types
use Rattle.ndn_tlv.specs.Spelling.{element}
use Rattle.repo_plan.specs.declared.part.Part.{Part}
use Rattle.repo_plan.specs.Parts.{pair_of}
use Rattle.group_model.specs.Events.{SyncInterest}
use Rattle.group_model.specs.Member.{member_holds}
use Rattle.group_model.specs.World.{World, logs, member}
use Rattle.repo_member.specs.Groups.{GroupKeys}
use Rattle.repo_member.specs.InGroup.{published_packet}
use Rattle.repo_member.specs.Verdicts.{sync_of}
use Rattle.repo_mirror.specs.Asked.{is_for}
use Rattle.script_story.specs.Mirrors.{Mirroring, mirror_of}
use Rattle.lab_capture.specs.declared.station.Station.{Station}
use Rattle.lab_capture.specs.declared.station.Station.TheVariants as station
use Rattle.lab_capture.specs.Captures.{Framed}

-- ---- sync Interests

-- The frame has a sync Interest that was sent, and its source is the member that sent it.
pub record WasSent (g : GroupKeys) (w : World) (f : Framed) : Type 0 where
  pub sync : SyncInterest
  pub sent : Contains w.sent sync
  pub source : f.source ≡ station.Member sync.sender
  pub packet : f.packet ≡ sync_of g sync.sender sync.vector

-- ---- packets that were received

-- A packet is an Interest: an element of that type.
pub record IsInterest (packet : List ℕ) : Type 0 where
  pub value : List ℕ
  pub is : packet ≡ element types.Interest value

-- A mirror holds a part of a publication that it keeps.
pub record MirrorHolds (w : World) (m : Mirroring) (t : Part) : Type 0 where
  pub holds : m.holds t ≡ true
  pub keeps : is_for m.pattern (logs w) (pair_of t) ≡ true

-- A member or a mirror holds a part.
abbrev pub Holds : World → List Mirroring → Station → Part → Type 0
Holds w ms (station.Member m) t = member_holds (member w m) t ≡ true
Holds w ms (station.Mirror i) t = MirrorHolds w (mirror_of ms i) t
Holds w ms other t = ⊥

-- The packet is that of a part, as its publisher made it, and the member or mirror `who` holds the part.
pub record IsHeld (g : GroupKeys) (w : World) (ms : List Mirroring) (who : Station) (packet : List ℕ) : Type 0 where
  pub part : Part
  pub held : Holds w ms who part
  pub published : published_packet g (logs w) part ≡ Some packet

-- The frame has an Interest, or the packet of a part that the frame's destination holds.
abbrev pub AsksOrBrings : GroupKeys → World → List Mirroring → Framed → Type 0
AsksOrBrings g w ms f = IsInterest f.packet ⊎ IsHeld g w ms f.destination f.packet
