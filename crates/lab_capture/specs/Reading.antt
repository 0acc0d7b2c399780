-- How a capture is read, field by field.
use Rattle.std.specs.Prelude.{ℕ, ◌-◌, Bool, ◌==◌, ◌&&◌, List, length, take, drop, Option, Some, None, nat_le}
use Rattle.std.specs.Prelude.{if◌then◌else◌, option_and_then, bytes_eq, slice_index}
use Rattle.std.specs.Int.{w32, from_le_bytes}
use Rattle.lab_capture.specs.declared.station.Station.{Station}
use Rattle.lab_capture.specs.declared.station.Station.TheVariants.{Member, Mirror, Client, Outside, AllMembers}
use Rattle.lab_capture.specs.Captures.{Framed, address, ethertype, frame_head_octets, snap_octets}

-- The only station whose address can end with the octets `kind` and `number`.
abbrev pub numbered : ℕ → ℕ → Station
numbered kind number =
    if kind == 0 then Member (number - 1)
    else if kind == 1 then Mirror (number - 1)
    else if kind == 2 then Client (number - 1)
    else if kind == 3 then Outside
    else AllMembers

-- The station `station`, if `octets` are its address.
abbrev pub if_its : Station → List ℕ → Option Station
if_its station octets = if bytes_eq (address station) octets then Some station else None

-- The station of an address, if there is one.
abbrev pub station_of : List ℕ → Option Station
station_of octets = if_its (numbered (slice_index octets 4) (slice_index octets 5)) octets

-- ---- fields, each with what follows it

unfoldable pub number_at : List ℕ → Option (ℕ × List ℕ)
number_at octets = if nat_le 4 (length octets) then Some (from_le_bytes w32 (take 4 octets), drop 4 octets) else None

unfoldable pub station_at : List ℕ → Option (Station × List ℕ)
station_at octets =
    if nat_le 6 (length octets)
    then option_and_then (λ station. Some (station, drop 6 octets)) (station_of (take 6 octets))
    else None

unfoldable pub after_type : List ℕ → Option (List ℕ)
after_type octets =
    if nat_le 2 (length octets) then (if bytes_eq (take 2 octets) ethertype then Some (drop 2 octets) else None)
    else None

-- A packet of `count` octets.
unfoldable pub packet_at : ℕ → List ℕ → Option (List ℕ × List ℕ)
packet_at count octets = if nat_le count (length octets) then Some (take count octets, drop count octets) else None

-- `captured`, how many octets of a frame follow, is `count`, how many it has, and a frame of a capture may have that
-- many.
abbrev pub is_size : ℕ → ℕ → Bool
is_size captured count = captured == count && (nat_le frame_head_octets count && nat_le count snap_octets)

-- The frame of Ethernet of `count` octets, which was sent at this time.
abbrev pub ethernet_at : (seconds micros count : ℕ) → List ℕ → Option (Framed × List ℕ)
ethernet_at seconds micros count octets =
    option_and_then
    (λ d. option_and_then
    (λ s. option_and_then
    (λ packet. option_and_then
    (λ p. Some (
      record {
        seconds = seconds;
        micros = micros;
        source = s.0;
        destination = d.0;
        packet = p.0;
      },
      p.1,
    ))
    (packet_at (count - frame_head_octets) packet))
    (after_type s.1))
    (station_at d.1))
    (station_at octets)

-- The frame whose record `octets` begin with, if they begin with one.
abbrev pub first_frame : List ℕ → Option (Framed × List ℕ)
first_frame octets =
    option_and_then
    (λ s. option_and_then
    (λ u. option_and_then
    (λ c. option_and_then
    (λ n. if is_size c.0 n.0 then ethernet_at s.0 u.0 n.0 n.1 else None)
    (number_at c.1))
    (number_at u.1))
    (number_at s.1))
    (number_at octets)
