-- The record of a frame is read as that frame.
use Rattle.std.proofs.Common.{◌≡◌, ◌<◌, ◌≤◌, ◌+◌, ◌-◌, ◌^◌, ℕ, List, ◌++◌, length, take, drop, arith, ap}
use Rattle.std.proofs.Common.{refl, sym, ◌∙◌}
use Rattle.std.specs.Prelude.{nat_le, true, ◌==◌, ◌&&◌, Option, Some, None, option_and_then, bytes_eq, if◌then◌else◌}
use Rattle.std.specs.Int.{w32, from_le_bytes}
use Rattle.std.proofs.lemmas.Bool.{and_from, cond-true, eq-eqb, le-leb}
use Rattle.std.proofs.lemmas.List.{append_assoc, length-append}
use Rattle.std.proofs.Math.Seq.{take-append_seam, drop-append_seam}
use Rattle.std.proofs.lemmas.Nat.{from_le_bytes-to_le_bytes_4}
use Rattle.std.proofs.lemmas.Slice.Eq.{bytes_eq-Decides}
use Rattle.lab_capture.specs.declared.station.Station.{Station}
use Rattle.lab_capture.specs.declared.station.Station.TheVariants.{Member, Mirror, Client, Outside, AllMembers}
use Rattle.lab_capture.specs.Captures.{Framed, IsFrame, address, ethertype, frame_octets, frame_record}
use Rattle.lab_capture.specs.Captures.{number_octets}
use Rattle.lab_capture.specs.Reading.{after_type, ethernet_at, first_frame, if_its, is_size, number_at, packet_at}
use Rattle.lab_capture.specs.Reading.{station_at, station_of}

-- ---- fields

-- Octets that begin with `n` octets have at least `n`.
are_there : (n : ℕ) (xs ys : List ℕ) → length xs ≡ n → nat_le n (length (xs ++ ys)) ≡ true
are_there n xs ys e =
    le-leb n (length (xs ++ ys))
    (let both : length (xs ++ ys) ≡ length xs + length ys = length-append xs ys in omega (arith, both, e))

abbrev number_and : ℕ → List ℕ → Option (ℕ × List ℕ)
number_and n rest = Some (n, rest)

number_again : (n : ℕ) (rest : List ℕ) → n < 2 ^ 32 → number_at (number_octets n ++ rest) ≡ Some (n, rest)
unfolding number_at
number_again n rest small =
    cond-true (nat_le 4 (length (number_octets n ++ rest)))
    (number_and (from_le_bytes w32 (take 4 (number_octets n ++ rest))) (drop 4 (number_octets n ++ rest))) None
    (are_there 4 (number_octets n) rest refl)
    ∙ ap (λ (m : ℕ). number_and m rest) (from_le_bytes-to_le_bytes_4 n small)

its : (s : Station) → if_its s (address s) ≡ Some s
its s = cond-true (bytes_eq (address s) (address s)) (Some s) None ((bytes_eq-Decides (address s) (address s)).1 refl)

index_again : (j : ℕ) → j + 1 - 1 ≡ j
index_again j = omega arith

station_itself : (s : Station) → station_of (address s) ≡ Some s
station_itself (Member j) =
    ap (λ (i : ℕ). if_its (Member i) (address (Member j))) (index_again j) ∙ its (Member j)
station_itself (Mirror j) =
    ap (λ (i : ℕ). if_its (Mirror i) (address (Mirror j))) (index_again j) ∙ its (Mirror j)
station_itself (Client j) =
    ap (λ (i : ℕ). if_its (Client i) (address (Client j))) (index_again j) ∙ its (Client j)
station_itself Outside = its Outside
station_itself AllMembers = its AllMembers

abbrev and_rest : List ℕ → Station → Option (Station × List ℕ)
and_rest rest s = Some (s, rest)

station_found : (octets rest : List ℕ) (s : Station) → nat_le 6 (length octets) ≡ true → take 6 octets ≡ address s
    → drop 6 octets ≡ rest → station_at octets ≡ Some (s, rest)
unfolding station_at
station_found octets rest s there first others =
    cond-true (nat_le 6 (length octets)) (option_and_then (and_rest (drop 6 octets)) (station_of (take 6 octets))) None
    there
    ∙ ap (option_and_then (and_rest (drop 6 octets))) (ap station_of first ∙ station_itself s)
    ∙ ap (λ (left : List ℕ). and_rest left s) others

station_again : (s : Station) (rest : List ℕ) → station_at (address s ++ rest) ≡ Some (s, rest)
station_again (Member j) rest =
    station_found (address (Member j) ++ rest) rest (Member j) (are_there 6 (address (Member j)) rest refl) refl refl
station_again (Mirror j) rest =
    station_found (address (Mirror j) ++ rest) rest (Mirror j) (are_there 6 (address (Mirror j)) rest refl) refl refl
station_again (Client j) rest =
    station_found (address (Client j) ++ rest) rest (Client j) (are_there 6 (address (Client j)) rest refl) refl refl
station_again Outside rest =
    station_found (address Outside ++ rest) rest Outside (are_there 6 (address Outside) rest refl) refl refl
station_again AllMembers rest =
    station_found (address AllMembers ++ rest) rest AllMembers (are_there 6 (address AllMembers) rest refl) refl refl

type_again : (rest : List ℕ) → after_type (ethertype ++ rest) ≡ Some rest
unfolding after_type
type_again rest =
    cond-true (nat_le 2 (length (ethertype ++ rest))) (if bytes_eq ethertype ethertype then Some rest else None) None
    (are_there 2 ethertype rest refl)
    ∙ cond-true (bytes_eq ethertype ethertype) (Some rest) None ((bytes_eq-Decides ethertype ethertype).1 refl)

abbrev pair_of : List ℕ → List ℕ → Option (List ℕ × List ℕ)
pair_of first others = Some (first, others)

packet_again : (count : ℕ) (packet rest : List ℕ) → count ≡ length packet
    → packet_at count (packet ++ rest) ≡ Some (packet, rest)
unfolding packet_at
packet_again count packet rest e =
    cond-true (nat_le count (length (packet ++ rest)))
    (pair_of (take count (packet ++ rest)) (drop count (packet ++ rest))) None
    (are_there count packet rest (sym e))
    ∙ ap (λ (n : ℕ). pair_of (take n (packet ++ rest)) (drop n (packet ++ rest))) e
    ∙ ap (λ (xs : List ℕ). pair_of xs (drop (length packet) (packet ++ rest))) (take-append_seam packet rest)
    ∙ ap (pair_of packet) (drop-append_seam packet rest)

size_again : (n : ℕ) → 14 ≤ n → n ≤ 65535 → is_size n n ≡ true
size_again n some few =
    and_from (n == n) (nat_le 14 n && nat_le n 65535) (eq-eqb n n refl)
    (and_from (nat_le 14 n) (nat_le n 65535) (le-leb 14 n some) (le-leb n 65535 few))

-- ---- frames

ethernet_again : (seconds micros count : ℕ) (d s : Station) (packet rest : List ℕ) → count - 14 ≡ length packet
    → ethernet_at seconds micros count (address d ++ (address s ++ (ethertype ++ (packet ++ rest))))
    ≡ Some (record { seconds = seconds; micros = micros; source = s; destination = d; packet = packet }, rest)
ethernet_again seconds micros count d s packet rest e =
    rw (
      station_again d (address s ++ (ethertype ++ (packet ++ rest))),
      station_again s (ethertype ++ (packet ++ rest)),
      type_again (packet ++ rest),
      packet_again (count - 14) packet rest e,
    ) refl

numbers_again : (s u n : ℕ) (rest : List ℕ) → s < 2 ^ 32 → u < 2 ^ 32 → n < 2 ^ 32 → is_size n n ≡ true
    → first_frame (number_octets s ++ (number_octets u ++ (number_octets n ++ (number_octets n ++ rest))))
    ≡ ethernet_at s u n rest
numbers_again s u n rest small_s small_u small_n size =
    rw (
      number_again s (number_octets u ++ (number_octets n ++ (number_octets n ++ rest))) small_s,
      number_again u (number_octets n ++ (number_octets n ++ rest)) small_u,
      number_again n (number_octets n ++ rest) small_n,
      number_again n rest small_n,
      size,
    ) refl

regrouped : (f : Framed) (rest : List ℕ) → frame_record f ++ rest
    ≡ number_octets f.seconds ++ (number_octets f.micros ++ (number_octets (frame_octets f)
    ++ (number_octets (frame_octets f)
    ++ (address f.destination ++ (address f.source ++ (ethertype ++ (f.packet ++ rest)))))))
regrouped f rest = simp append_assoc

pub first_again : (f : Framed) (rest : List ℕ) → IsFrame f → first_frame (frame_record f ++ rest) ≡ Some (f, rest)
first_again f rest is =
    ap first_frame (regrouped f rest)
    ∙ numbers_again f.seconds f.micros (14 + length f.packet)
    (address f.destination ++ (address f.source ++ (ethertype ++ (f.packet ++ rest)))) is.seconds is.micros
    (omega (arith, is.short)) (size_again (14 + length f.packet) (omega arith) is.short)
    ∙ ethernet_again f.seconds f.micros (14 + length f.packet) f.destination f.source f.packet rest (omega arith)
