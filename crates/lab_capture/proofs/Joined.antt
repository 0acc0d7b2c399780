-- The octets of a record, field after field.
use Rattle.std.proofs.Common.{ℕ, ◌≡◌, ◌+◌, ◌-◌, List, ◌++◌, length, arith, ap, ◌∙◌}
use Rattle.std.specs.Prelude.{true, nat_le, ◌==◌, ◌&&◌}
use Rattle.std.proofs.lemmas.Bool.{and_parts, eqb-true, leb-true}
use Rattle.std.proofs.lemmas.List.{append_assoc}
use Rattle.lab_capture.specs.Captures.{Framed, address, ethernet_frame, ethertype, frame_octets, frame_record}
use Rattle.lab_capture.specs.Captures.{number_octets}
use Rattle.lab_capture.specs.Reading.{is_size}

-- What follows eight parts follows the last of them.
regrouped : (a b c d e f g h rest : List ℕ)
    → (a ++ (b ++ (c ++ (d ++ (e ++ (f ++ (g ++ h))))))) ++ rest
    ≡ a ++ (b ++ (c ++ (d ++ (e ++ (f ++ (g ++ (h ++ rest)))))))
regrouped a b c d e f g h rest = simp append_assoc

-- Octets that are read part by part.
joined : (octets a r1 b r2 c r3 d r4 e r5 f r6 g r7 h rest : List ℕ) → octets ≡ a ++ r1 → r1 ≡ b ++ r2
    → r2 ≡ c ++ r3 → r3 ≡ d ++ r4 → r4 ≡ e ++ r5 → r5 ≡ f ++ r6 → r6 ≡ g ++ r7 → r7 ≡ h ++ rest
    → octets ≡ (a ++ (b ++ (c ++ (d ++ (e ++ (f ++ (g ++ h))))))) ++ rest
joined octets a r1 b r2 c r3 d r4 e r5 f r6 g r7 h rest p1 p2 p3 p4 p5 p6 p7 p8 =
    cc (regrouped a b c d e f g h rest)

in_order : (out a b c d e f g h : List ℕ) → (((((((out ++ a) ++ b) ++ c) ++ d) ++ e) ++ f) ++ g) ++ h
    ≡ out ++ (a ++ (b ++ (c ++ (d ++ (e ++ (f ++ (g ++ h)))))))
in_order out a b c d e f g h = simp append_assoc

-- Octets that are written part by part.
written : (out a w1 b w2 c w3 d w4 e w5 f w6 g w7 h w8 : List ℕ) → w1 ≡ out ++ a → w2 ≡ w1 ++ b → w3 ≡ w2 ++ c
    → w4 ≡ w3 ++ d → w5 ≡ w4 ++ e → w6 ≡ w5 ++ f → w7 ≡ w6 ++ g → w8 ≡ w7 ++ h
    → w8 ≡ out ++ (a ++ (b ++ (c ++ (d ++ (e ++ (f ++ (g ++ h)))))))
written out a w1 b w2 c w3 d w4 e w5 f w6 g w7 h w8 p1 p2 p3 p4 p5 p6 p7 p8 = cc (in_order out a b c d e f g h)

-- The record of a frame is written part by part, where this is how many octets it has.
pub record_written : (f : Framed) (len : ℕ) (out w1 w2 w3 w4 w5 w6 w7 w8 : List ℕ) → len ≡ frame_octets f
    → w1 ≡ out ++ number_octets f.seconds → w2 ≡ w1 ++ number_octets f.micros → w3 ≡ w2 ++ number_octets len
    → w4 ≡ w3 ++ number_octets len → w5 ≡ w4 ++ address f.destination → w6 ≡ w5 ++ address f.source
    → w7 ≡ w6 ++ ethertype → w8 ≡ w7 ++ f.packet → w8 ≡ out ++ frame_record f
record_written f len out w1 w2 w3 w4 w5 w6 w7 w8 e p1 p2 p3 p4 p5 p6 p7 p8 =
    written out (number_octets f.seconds) w1 (number_octets f.micros) w2 (number_octets len) w3 (number_octets len) w4
    (address f.destination) w5 (address f.source) w6 ethertype w7 f.packet w8 p1 p2 p3 p4 p5 p6 p7 p8
    ∙ ap (λ (n : ℕ). out ++ (number_octets f.seconds ++ (number_octets f.micros
    ++ (number_octets n ++ (number_octets n ++ ethernet_frame f))))) e

sizes : (captured count len : ℕ) → is_size captured count ≡ true → len ≡ count - 14
    → (captured ≡ 14 + len) × (count ≡ 14 + len)
sizes captured count len size e =
    let parts = and_parts (captured == count) (nat_le 14 count && nat_le count 65535) size in
    let same = eqb-true captured count parts.0 in
    let some = leb-true 14 count (and_parts (nat_le 14 count) (nat_le count 65535) parts.1).0 in
    (omega (arith, same, some, e), omega (arith, some, e))

-- The record of a frame is read part by part.
pub record_joined : (f : Framed) (captured count : ℕ) (octets r1 r2 r3 r4 r5 r6 r7 rest : List ℕ)
    → octets ≡ number_octets f.seconds ++ r1 → r1 ≡ number_octets f.micros ++ r2 → r2 ≡ number_octets captured ++ r3
    → r3 ≡ number_octets count ++ r4 → r4 ≡ address f.destination ++ r5 → r5 ≡ address f.source ++ r6
    → r6 ≡ ethertype ++ r7 → r7 ≡ f.packet ++ rest → is_size captured count ≡ true → length f.packet ≡ count - 14
    → octets ≡ frame_record f ++ rest
record_joined f captured count octets r1 r2 r3 r4 r5 r6 r7 rest p1 p2 p3 p4 p5 p6 p7 p8 size len =
    let both = sizes captured count (length f.packet) size len in
    joined octets (number_octets f.seconds) r1 (number_octets f.micros) r2 (number_octets captured) r3
    (number_octets count) r4 (address f.destination) r5 (address f.source) r6 ethertype r7 f.packet rest
    p1 p2 p3 p4 p5 p6 p7 p8
    ∙ ap (λ (n : ℕ). (number_octets f.seconds ++ (number_octets f.micros
    ++ (number_octets n ++ (number_octets count ++ ethernet_frame f)))) ++ rest) both.0
    ∙ ap (λ (n : ℕ). (number_octets f.seconds ++ (number_octets f.micros
    ++ (number_octets (frame_octets f) ++ (number_octets n ++ ethernet_frame f)))) ++ rest) both.1
