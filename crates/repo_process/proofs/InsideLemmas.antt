-- The inside of a process that was not published.
use Rattle.std.proofs.Common.{◌≡◌, ℕ, zero, suc, leb, eqb, ◌+◌, ◌-◌, ◌≤◌, ◌<◌, true, false, List, [], length, get_or}
use Rattle.std.proofs.Common.{sym, ap, subst, ◌∙◌, arith}
use Rattle.std.proofs.lemmas.List.{length-map, length-set, map-set, get_or-map}
use Rattle.std.proofs.lemmas.List.Elements.{All-set}
use Rattle.std.proofs.lemmas.Bool.{and_parts, leb-true}
use Rattle.std.specs.List.{All}
use Rattle.std.specs.Vec.{with_item}
use Rattle.std.specs.Prelude.{Vec, slice_set}
use Rattle.std.proofs.Common.{Global}
use Rattle.repo_process.specs.declared.insertion.Insertion.TheInside.{Inside}
use Rattle.repo_process.specs.Processes.{Process, has_index}
use Rattle.repo_process.specs.Fields.{contents_of, process_of, IsInsertion}
use Rattle.repo_process.proofs.ProcessLemmas.{of_contents}

abbrev pub items : Vec ℕ Global → List ℕ
items v = v.items

pub record IsOpen (m : Inside) (p : Process) : Type 0 where
  pub unpublished : m.is_published ≡ false
  pub long : length (contents_of m) ≡ m.last + 1 - m.first
  pub same : p ≡ of_contents m.name m.first m.last (contents_of m)

pub opened : (m : Inside) (p : Process) → IsInsertion m → process_of m ≡ p → p.published ≡ false → IsOpen m p
opened m p is view unpublished =
    let open_ : m.is_published ≡ false = ap (λ (q : Process). q.published) view ∙ unpublished in
    record {
      unpublished = open_;
      long = length-map m.contents.items items ∙ is.places open_;
      same = sym view ∙ ap (λ b. record (process_of m) { published = b }) open_;
    }

-- with another content in one place
abbrev pub placed : Inside → ℕ → Vec ℕ Global → Inside
placed m j v = record {
  name = m.name;
  first = m.first;
  last = m.last;
  contents = with_item m.contents j v;
  is_published = m.is_published;
}

pub contents-placed : (m : Inside) (j : ℕ) (v : Vec ℕ Global)
    → contents_of (placed m j v) ≡ slice_set (contents_of m) j v.items
contents-placed m j v = map-set items m.contents.items j v

pub placed_is : (m : Inside) (p : Process) (j : ℕ) (v : Vec ℕ Global) → IsInsertion m → IsOpen m p
    → length v.items ≤ 8000 → IsInsertion (placed m j v)
placed_is m p j v is o short =
    let P : List (List ℕ) → Type 0 = All (λ c. length c ≤ 8000) in
    record {
      name = is.name;
      named = is.named;
      order = is.order;
      few = is.few;
      places = λ h. length-set m.contents.items j v ∙ is.places h;
      emptied = λ h. absurd cc;
      contents =
          subst P (sym (contents-placed m j v))
          (All-set (λ (c : List ℕ). length c ≤ 8000) (contents_of m) j v.items short is.contents);
    }

pub placed_process : (m : Inside) (p : Process) (j : ℕ) (v : Vec ℕ Global) → IsOpen m p
    → process_of (placed m j v) ≡ of_contents m.name m.first m.last (slice_set (contents_of m) j v.items)
placed_process m p j v o =
    ap (λ b. record (process_of (placed m j v)) { published = b }) o.unpublished
    ∙ ap (of_contents m.name m.first m.last) (contents-placed m j v)

-- the content in a place
pub content_at : (m : Inside) (j : ℕ) (v : Vec ℕ Global) → j < length m.contents.items → v ≡ get_or m.contents.items j v
    → length (get_or (contents_of m) j []) ≡ v.len
content_at m j v within is =
    ap length (get_or-map items m.contents.items j v [] within)
    ∙ ap (λ (w : Vec ℕ Global). length w.items) (sym is)
    ∙ sym v.ok.0

-- an index of the process has a place
pub index_at : (m : Inside) (p : Process) (index : ℕ) → process_of m ≡ p → IsOpen m p → has_index p index ≡ true
    → (m.first ≤ index) × (index - m.first < length (contents_of m))
index_at m p index view o h =
    let parts = and_parts (leb p.first index) (leb index p.last) h in
    let above = leb-true p.first index parts.0 in
    let below = leb-true index p.last parts.1 in
    let first : m.first ≡ p.first = ap (λ (q : Process). q.first) view in
    let last : m.last ≡ p.last = ap (λ (q : Process). q.last) view in
    (omega (arith, above, first), omega (arith, above, below, first, last, o.long))

pub nonzero : (n : ℕ) → false ≡ eqb n 0 → 0 < n
nonzero zero e = absurd cc
nonzero (suc n) e = omega arith
