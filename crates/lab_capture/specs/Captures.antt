-- Captures in the classic pcap format, whose numbers have their lowest octet first: frames of Ethernet with packets of
-- NDN in them.
use Rattle.std.specs.Prelude.{◌≢◌, ℕ, ◌+◌, ◌*◌, ◌/◌, ◌%◌, ◌^◌, ◌<◌, ◌≤◌, List, [], ◌∷◌, ◌++◌, length}
use Rattle.std.specs.List.{All, flat_map}
use Rattle.std.specs.Int.{w32, to_le_bytes}
use Rattle.lab_capture.specs.declared.station.Station.{Station}
use Rattle.lab_capture.specs.declared.station.Station.TheVariants.{Member, Mirror, Client, Outside, AllMembers}
use Rattle.lab_capture.specs.declared.frame.Frame.{Frame}

-- ---- stations

-- The Ethernet address of a station. Members, mirrors and clients are numbered from 0, and in addresses from 1.
abbrev pub address : Station → List ℕ
address (Member number) = 2 ∷ 0 ∷ 0 ∷ 0 ∷ 0 ∷ (number + 1) ∷ []
address (Mirror number) = 2 ∷ 0 ∷ 0 ∷ 0 ∷ 1 ∷ (number + 1) ∷ []
address (Client number) = 2 ∷ 0 ∷ 0 ∷ 0 ∷ 2 ∷ (number + 1) ∷ []
address Outside = 2 ∷ 0 ∷ 0 ∷ 0 ∷ 3 ∷ 1 ∷ []
address AllMembers = 1 ∷ 0 ∷ 94 ∷ 0 ∷ 23 ∷ 170 ∷ []

-- The number of the station, if it has one, fits into its address.
abbrev pub IsStation : Station → Type 0
IsStation (Member number) = number < 255
IsStation (Mirror number) = number < 255
IsStation (Client number) = number < 255
IsStation Outside = Unit {0}
IsStation AllMembers = Unit {0}

-- ---- frames

-- A frame: when it was sent, in seconds and microseconds, by which station and to which, and the packet in it.
pub record Framed : Type 0 where
  pub seconds : ℕ
  pub micros : ℕ
  pub source : Station
  pub destination : Station
  pub packet : List ℕ

-- The `Framed` of a `Frame` of the code.
abbrev pub framed : Frame → Framed
framed f = record {
  seconds = f.seconds;
  micros = f.micros;
  source = f.source;
  destination = f.destination;
  packet = f.packet.now;
}

-- How many octets stand before the packet in a frame of Ethernet: two addresses and the type.
abbrev pub frame_head_octets : ℕ
frame_head_octets = 14

-- How many octets of a frame a capture has at most, which is said in its head.
abbrev pub snap_octets : ℕ
snap_octets = 65535

-- A frame that a capture can have: its numbers have 32 bits, its stations have addresses, and it is not too long.
pub record IsFrame (f : Framed) : Type 0 where
  pub seconds : f.seconds < 2 ^ 32
  pub micros : f.micros < 2 ^ 32
  pub source : IsStation f.source
  pub destination : IsStation f.destination
  pub short : frame_head_octets + length f.packet ≤ snap_octets

-- The frame of a packet that is sent at a time in milliseconds. Seconds have 32 bits, so they begin anew after 136
-- years.
abbrev pub frame_at : ℕ → Station → Station → List ℕ → Framed
frame_at time source destination packet = record {
  seconds = time / 1000 % 2 ^ 32;
  micros = time % 1000 * 1000;
  source = source;
  destination = destination;
  packet = packet;
}

-- ---- octets

-- The type of frames with packets of NDN, as a frame has it.
abbrev pub ethertype : List ℕ
ethertype = 134 ∷ 36 ∷ []

-- What is after the packet's number of octets in a record: the frame.
abbrev pub ethernet_frame : Framed → List ℕ
ethernet_frame f = address f.destination ++ (address f.source ++ (ethertype ++ f.packet))

-- A number of 32 bits in a capture.
abbrev pub number_octets : ℕ → List ℕ
number_octets n = to_le_bytes w32 n

-- How many octets a frame has.
abbrev pub frame_octets : Framed → ℕ
frame_octets f = frame_head_octets + length f.packet

-- The record of a frame: when it was sent, how many of its octets follow, how many it has, and the frame, whole.
abbrev pub frame_record : Framed → List ℕ
frame_record f =
    number_octets f.seconds ++ (number_octets f.micros
    ++ (number_octets (frame_octets f) ++ (number_octets (frame_octets f) ++ ethernet_frame f)))

-- The head of a capture: the magic number a1 b2 c3 d4 of times in microseconds, version 2.4, zone 0, accuracy 0, the
-- most octets of a frame that follow, and link type 1, which is Ethernet.
abbrev pub capture_head : List ℕ
capture_head =
    212 ∷ 195 ∷ 178 ∷ 161 ∷ 2 ∷ 0 ∷ 4 ∷ 0 ∷ 0 ∷ 0 ∷ 0 ∷ 0 ∷ 0 ∷ 0 ∷ 0 ∷ 0 ∷ 255 ∷ 255 ∷ 0 ∷ 0 ∷ 1 ∷ 0 ∷ 0 ∷ 0 ∷ []

-- The octets of a capture of frames.
abbrev pub capture_octets : List Framed → List ℕ
capture_octets frames = capture_head ++ flat_map frame_record frames

-- ---- what is no capture

-- Octets that are not the capture of any list of frames.
abbrev pub IsNoCapture : List ℕ → Type 0
IsNoCapture octets = (frames : List Framed) → All IsFrame frames → octets ≢ capture_octets frames
