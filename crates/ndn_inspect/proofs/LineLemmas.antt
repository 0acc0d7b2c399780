-- Lines one after the other, and the lines of octets as the lines of their elements.
use Rattle.std.proofs.Common.{◌≡◌, ℕ, zero, suc, ◌+◌, ◌-◌, ◌<◌, ◌≤◌, if◌then◌else◌, List, [], ◌∷◌, ◌++◌, length}
use Rattle.std.proofs.Common.{append_assoc, append-nil, Option, Some, None, Err, refl, sym, ap, ◌∙◌, arith}
use Rattle.ndn_tlv.specs.declared.tlv_fault.TlvFault.{TlvFault}
use Rattle.ndn_tlv.specs.Listing.{Listing, ◌then◌}
use Rattle.ndn_tlv.specs.Spelling.{element}
use Rattle.ndn_tlv.specs.Elements.{AreWithin, IsElement, Item, placed, element_at, elements}
use Rattle.ndn_tlv.proofs.Fields.{AreWithin-ends}
use Rattle.ndn_tlv.proofs.Listings.{elements-nil, elements-element, elements-fault, elements_within_octets}
use Rattle.ndn_inspect.specs.Types.{has_elements}
use Rattle.ndn_inspect.specs.Inspection.{Lines, no_lines, ◌before◌, carried_on, ◌and_then◌, element_line, inner_lines}
use Rattle.ndn_inspect.specs.Inspection.{lines_of, lines_within, lines_at}

pub before-before : (a b : List ℕ) (x : Lines) → (a ++ b) before x ≡ a before (b before x)
before-before a b x =
    ap (λ (t : List ℕ). let made : Lines = record { text = t; fault = x.fault } in made) (append_assoc a b x.text)

pub before-and_then : (a t : List ℕ) (f : Option TlvFault) (y : Lines)
    → carried_on (a ++ t) f y ≡ a before carried_on t f y
before-and_then a t None y = before-before a t y
before-and_then a t (Some f) y = refl

pub and_then-assoc : (t : List ℕ) (f : Option TlvFault) (y z : Lines)
    → carried_on (carried_on t f y).text (carried_on t f y).fault z ≡ carried_on t f (y and_then z)
and_then-assoc t None y z = before-and_then t y.text y.fault z
and_then-assoc t (Some f) y z = refl

pub and_then-none : (t : List ℕ) (f : Option TlvFault)
    → carried_on t f no_lines ≡ (let lines : Lines = record { text = t; fault = f } in lines)
and_then-none t None =
    ap (λ (u : List ℕ). let lines : Lines = record { text = u; fault = None } in lines) (append-nil t)
and_then-none t (Some f) = refl

-- ---- more room than octets changes nothing

abbrev pub Reading : Type 0
Reading = ℕ → ℕ → List ℕ → Lines

inner-same : (f g : Reading) (depth : ℕ) (e : Item)
    → f (depth + 1) e.value_start e.value ≡ g (depth + 1) e.value_start e.value
    → inner_lines f depth e ≡ inner_lines g depth e
inner-same f g depth e h = ap (λ (x : Lines). if has_elements e.typ then x else no_lines) h

-- two readings that agree on short octets give the same lines of elements in few octets
lines_of-same : (f g : Reading) (n depth low high : ℕ) (es : List Item) (fault : Option TlvFault)
    → AreWithin low high es → high ≤ low + n + 1
    → ((d o : ℕ) (octets : List ℕ) → length octets ≤ n → f d o octets ≡ g d o octets)
    → lines_of f depth es fault ≡ lines_of g depth es fault
unfolding lines_of
lines_of-same f g n depth low high [] fault w room h = refl
lines_of-same f g n depth low high (e ∷ es) fault w room h =
    let ends = AreWithin-ends e.end high es w.3 in
    let here = inner-same f g depth e (h (depth + 1) e.value_start e.value (omega arith)) in
    let others = lines_of-same f g n depth e.end high es fault w.3 (omega arith) h in
    ap (λ (x : Lines). element_line depth e before x and_then lines_of f depth es fault) here
    ∙ ap (λ (x : Lines). element_line depth e before inner_lines g depth e and_then x) others

within-same : (n m depth offset : ℕ) (octets : List ℕ) → length octets ≤ n → length octets ≤ m
    → lines_within n depth offset octets ≡ lines_within m depth offset octets
unfolding lines_within lines_of
within-same zero zero depth offset octets p q = refl
within-same zero (suc m) depth offset octets p q =
    rw (elements-nil offset octets (omega arith)) refl
within-same (suc n) zero depth offset octets p q =
    rw (elements-nil offset octets (omega arith)) refl
within-same (suc n) (suc m) depth offset octets p q =
    let read = elements offset octets in
    lines_of-same (lines_within n) (lines_within m) (length octets - 1) depth offset (offset + length octets) read.items
    read.fault (elements_within_octets offset octets) (omega arith)
    (λ d o inner short. within-same n m d o inner (omega arith) (omega arith))

-- the lines of elements, those inside them read in full
abbrev pub listed_lines : ℕ → Listing Item TlvFault → Lines
listed_lines depth read = lines_of lines_at depth read.items read.fault

pub lines_at-elements : (depth offset : ℕ) (octets : List ℕ)
    → lines_at depth offset octets ≡ listed_lines depth (elements offset octets)
unfolding lines_at lines_within lines_of
lines_at-elements depth offset [] = rw (elements-nil offset [] refl) refl
lines_at-elements depth offset (b ∷ bs) =
    let read = elements offset (b ∷ bs) in
    lines_of-same (lines_within (length bs)) lines_at (length bs) depth offset (offset + length (b ∷ bs)) read.items
    read.fault (elements_within_octets offset (b ∷ bs)) (omega arith)
    (λ d o inner short. within-same (length bs) (length inner) d o inner short (omega arith))

-- ---- what octets print, element by element

pub lines_at-nil : (depth offset : ℕ) → lines_at depth offset [] ≡ no_lines
unfolding lines_at lines_within
lines_at-nil depth offset = refl

pub lines_at-element : (depth offset typ : ℕ) (value rest : List ℕ) → IsElement typ value
    → let e = placed offset typ value in
    lines_at depth offset (element typ value ++ rest)
    ≡ (element_line depth e before inner_lines lines_at depth e and_then lines_at depth
    (offset + length (element typ value)) rest)
unfolding lines_of
lines_at-element depth offset typ value rest h =
    let e = placed offset typ value in
    let after = offset + length (element typ value) in
    lines_at-elements depth offset (element typ value ++ rest)
    ∙ ap (listed_lines depth) (elements-element offset typ value rest h.0 h.1 h.2)
    ∙ ap (λ (x : Lines). element_line depth e before inner_lines lines_at depth e and_then x)
    (sym (lines_at-elements depth after rest))

pub lines_at-fault : (depth offset : ℕ) (octets : List ℕ) (f : TlvFault) → 0 < length octets
    → element_at offset octets ≡ Err f
    → lines_at depth offset octets ≡ (let ended : Lines = record { text = []; fault = Some f } in ended)
unfolding lines_of
lines_at-fault depth offset octets f some h =
    lines_at-elements depth offset octets ∙ ap (listed_lines depth) (elements-fault offset octets f some h)
