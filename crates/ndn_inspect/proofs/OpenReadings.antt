-- Readings that stand inside each other, the deepest last: what is still to be printed of them, and
-- how much work they are.
use Rattle.std.proofs.Common.{◌≡◌, ℕ, suc, ◌+◌, ◌*◌, ◌^◌, ◌<◌, ◌≤◌, true, false, List, [], ◌∷◌, ◌++◌, length}
use Rattle.std.proofs.Common.{length-append, append-nil, Some, None, refl, sym, ap, ◌∙◌, arith, add-zero, zero-add}
use Rattle.ndn_tlv.specs.declared.tlv_fault.TlvFault.{TlvFault}
use Rattle.ndn_tlv.specs.Listing.{Listing, nothing, only_fault, ◌then◌}
use Rattle.ndn_tlv.specs.Elements.{AreWithin, Item, elements}
use Rattle.ndn_tlv.proofs.Fields.{AreWithin-ends}
use Rattle.ndn_tlv.proofs.Listings.{elements_within_octets}
use Rattle.ndn_inspect.specs.Types.{has_elements}
use Rattle.ndn_inspect.specs.Inspection.{Lines, no_lines, ◌before◌, ◌and_then◌, element_line, inner_lines, lines_of}
use Rattle.ndn_inspect.specs.Inspection.{lines_at}
use Rattle.ndn_inspect.proofs.LineLemmas.{before-before, before-and_then, and_then-assoc, and_then-none, listed_lines}
use Rattle.ndn_inspect.proofs.LineLemmas.{lines_at-elements}

abbrev pub Readings : Type 0
Readings = List (Listing Item TlvFault)

-- the lines that are still to come, the first reading's at this depth, before others
pub pending : ℕ → Readings → Lines → Lines
pending depth [] others = others
pending depth (read ∷ inner) others =
    pending (depth + 1) inner (listed_lines depth read and_then others)

pending-last : (depth : ℕ) (outer : Readings) (read : Listing Item TlvFault) (others : Lines)
    → pending depth (outer ++ read ∷ []) others
    ≡ (listed_lines (depth + length outer) read and_then pending depth outer others)
unfolding pending
pending-last depth [] read others = rw (add-zero depth) refl
pending-last depth (first ∷ outer) read others =
    let there = pending-last (depth + 1) outer read (listed_lines depth first and_then others) in
    let deep : depth + 1 + length outer ≡ depth + suc (length outer) = omega arith in
    rw deep at there

pending-deepest : (outer : Readings) (read : Listing Item TlvFault) (others : Lines)
    → pending 0 (outer ++ read ∷ []) others ≡ (listed_lines (length outer) read and_then pending 0 outer others)
pending-deepest outer read others =
    pending-last 0 outer read others
    ∙ ap (λ (d : ℕ). listed_lines d read and_then pending 0 outer others) (zero-add (length outer))

-- what a text and the readings come to, where the deepest is at its end, at a fault or at an element
module _ (text : List ℕ) (outer : Readings) (read : Listing Item TlvFault) (whole : Lines)
    (so_far : text before pending 0 (outer ++ read ∷ []) no_lines ≡ whole) where
  opened : text before (listed_lines (length outer) read and_then pending 0 outer no_lines) ≡ whole
  opened = ap (λ (x : Lines). text before x) (sym (pending-deepest outer read no_lines)) ∙ so_far

  pub at_end : read ≡ nothing → text before pending 0 outer no_lines ≡ whole
  unfolding lines_of
  at_end e =
      sym (ap
      (λ (r : Listing Item TlvFault). text before (listed_lines (length outer) r and_then pending 0 outer no_lines)) e)
      ∙ opened

  pub at_fault : (f : TlvFault) → read ≡ only_fault f
      → text before (let ended : Lines = record { text = []; fault = Some f } in ended) ≡ whole
  unfolding lines_of
  at_fault f e =
      sym (ap
      (λ (r : Listing Item TlvFault). text before (listed_lines (length outer) r and_then pending 0 outer no_lines)) e)
      ∙ opened

  at_element : (e : Item) (rest : Listing Item TlvFault) → read ≡ (e then rest)
      → (text ++ element_line (length outer) e) before
      (inner_lines lines_at (length outer) e and_then
      (listed_lines (length outer) rest and_then pending 0 outer no_lines))
      ≡ whole
  unfolding lines_of
  at_element e rest is =
      let depth = length outer in
      let others = pending 0 outer no_lines in
      let inner = inner_lines lines_at depth e in
      let both = inner and_then listed_lines depth rest in
      let apart = before-and_then (element_line depth e) both.text both.fault others in
      let grouped = and_then-assoc inner.text inner.fault (listed_lines depth rest) others in
      before-before text (element_line depth e) (inner and_then (listed_lines depth rest and_then others))
      ∙ ap (λ (x : Lines). text before (element_line depth e before x)) (sym grouped)
      ∙ ap (λ (x : Lines). text before x) (sym apart)
      ∙ sym (ap (λ (r : Listing Item TlvFault). text before (listed_lines depth r and_then others)) is)
      ∙ opened

  pub at_leaf : (e : Item) (rest : Listing Item TlvFault) → read ≡ (e then rest)
      → has_elements e.typ ≡ false
      → (text ++ element_line (length outer) e) before pending 0 (outer ++ rest ∷ []) no_lines ≡ whole
  at_leaf e rest is leaf =
      let here = at_element e rest is in
      ap (λ (x : Lines). (text ++ element_line (length outer) e) before x) (pending-deepest outer rest no_lines)
      ∙ (rw leaf at here)

  pub at_nest : (e : Item) (rest : Listing Item TlvFault) → read ≡ (e then rest)
      → has_elements e.typ ≡ true
      → (text ++ element_line (length outer) e) before pending 0
      ((outer ++ rest ∷ []) ++ elements e.value_start e.value ∷ []) no_lines
      ≡ whole
  at_nest e rest is nest =
      let depth = length outer in
      let inner = elements e.value_start e.value in
      let prefix = text ++ element_line depth e in
      let here = rw nest at (at_element e rest is) in
      let read = rw (lines_at-elements (depth + 1) e.value_start e.value) at here in
      let deeper : length (outer ++ rest ∷ []) ≡ depth + 1 = omega (arith, length-append outer (rest ∷ [])) in
      ap (λ (x : Lines). prefix before x) (pending-deepest (outer ++ rest ∷ []) inner no_lines)
      ∙ ap (λ (d : ℕ). prefix before (listed_lines d inner and_then pending 0 (outer ++ rest ∷ []) no_lines)) deeper
      ∙ ap (λ (x : Lines). prefix before (listed_lines (depth + 1) inner and_then x))
      (pending-deepest outer rest no_lines)
      ∙ read

-- where the first reading is opened, and where none is left
pub first_read : (text octets : List ℕ)
    → text before pending 0 (elements 0 octets ∷ []) no_lines ≡ text before lines_at 0 0 octets
unfolding pending
first_read text octets =
    let all = lines_at 0 0 octets in
    ap (λ (x : Lines). text before x)
    (pending-deepest [] (elements 0 octets) no_lines
    ∙ ap (λ (x : Lines). x and_then no_lines) (sym (lines_at-elements 0 0 octets)) ∙ and_then-none all.text all.fault)

pub all_read : (text : List ℕ) (left : Readings) (whole : Lines) → length left ≡ 0
    → text before pending 0 left no_lines ≡ whole
    → (let end : Lines = record { text = text; fault = None } in end) ≡ whole
unfolding pending
all_read text [] whole none h =
    sym (ap (λ (t : List ℕ). let end : Lines = record { text = t; fault = None } in end) (append-nil text)) ∙ h
all_read text (read ∷ others) whole none h = absurd (omega arith)

-- ---- elements that end below 2 ^ 64

pub FitItems : List Item → Type 0
FitItems [] = Unit {0}
FitItems (e ∷ es) = (e.value_start + length e.value < 2 ^ 64) × FitItems es

pub Fit : Readings → Type 0
Fit [] = Unit {0}
Fit (read ∷ inner) = FitItems read.items × Fit inner

within_fit : (low high : ℕ) (es : List Item) → high < 2 ^ 64 → AreWithin low high es → FitItems es
unfolding FitItems
within_fit low high [] h w = tt
within_fit low high (e ∷ es) h w =
    let ends = AreWithin-ends e.end high es w.3 in
    (omega arith, within_fit e.end high es h w.3)

pub elements_fit : (offset : ℕ) (octets : List ℕ) → offset + length octets < 2 ^ 64
    → FitItems (elements offset octets).items
elements_fit offset octets h =
    within_fit offset (offset + length octets) (elements offset octets).items h (elements_within_octets offset octets)

pub Fit-nil : Fit []
unfolding Fit
Fit-nil = tt

pub Fit-last : (outer : Readings) (read : Listing Item TlvFault) → Fit outer → FitItems read.items
    → Fit (outer ++ read ∷ [])
unfolding Fit
Fit-last [] read h here = (here, tt)
Fit-last (first ∷ outer) read h here = (h.0, Fit-last outer read h.1 here)

pub Fit-parts : (outer : Readings) (read : Listing Item TlvFault) → Fit (outer ++ read ∷ [])
    → Fit outer × FitItems read.items
unfolding Fit
Fit-parts [] read h = (tt, h.0)
Fit-parts (first ∷ outer) read h = let parts = Fit-parts outer read h.1 in ((h.0, parts.0), parts.1)

pub Fit-element : (e : Item) (rest : Listing Item TlvFault) (read : Listing Item TlvFault)
    → read ≡ (e then rest) → FitItems read.items
    → (e.value_start + length e.value < 2 ^ 64) × FitItems rest.items
unfolding FitItems
Fit-element e rest read is h = rw is at h

-- ---- how much work is left: two steps for each octet of an element, and one for each reading

pub size : List Item → ℕ
size [] = 0
size (e ∷ es) = 1 + length e.value + size es

pub work : Readings → ℕ
work [] = 0
work (read ∷ inner) = 1 + 2 * size read.items + work inner

size_within : (low high : ℕ) (es : List Item) → AreWithin low high es → low + size es ≤ high
unfolding size
size_within low high [] w = omega (arith, w)
size_within low high (e ∷ es) w = let others = size_within e.end high es w.3 in omega arith

pub size_elements : (offset : ℕ) (octets : List ℕ)
    → size (elements offset octets).items ≤ length octets
size_elements offset octets =
    let s =
    size_within offset (offset + length octets) (elements offset octets).items (elements_within_octets offset octets) in
    omega arith

pub work-last : (outer : Readings) (read : Listing Item TlvFault)
    → work (outer ++ read ∷ []) ≡ work outer + (1 + 2 * size read.items)
unfolding work
work-last [] read = omega arith
work-last (first ∷ outer) read = let others = work-last outer read in omega arith

pub size-then : (e : Item) (rest read : Listing Item TlvFault) → read ≡ (e then rest)
    → size read.items ≡ 1 + length e.value + size rest.items
unfolding size
size-then e rest read is = ap (λ (r : Listing Item TlvFault). size r.items) is
