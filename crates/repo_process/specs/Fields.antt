-- How processes are kept.
use Rattle.std.specs.Prelude.{◌≡◌, ℕ, ◌+◌, ◌-◌, ◌<◌, ◌≤◌, ◌^◌, true, false, IsTrue, List, [], ◌∷◌, length, map}
use Rattle.std.specs.List.{All}
use Rattle.ndn_name.specs.Names.{IsName}
use Rattle.repo_object.specs.Objects.{is_object_name}
use Rattle.repo_process.specs.declared.insertion.Insertion.TheInside as insertion
use Rattle.repo_process.specs.declared.processes.Processes.TheInside as processes
use Rattle.repo_process.specs.Processes.{Process}
use Rattle.repo_process.specs.Insertions.{Insertions}

-- ---- one process

-- The blocks with these contents, at the indexes from `index` on. An empty content stands for a missing block.
abbrev pub blocks_from : ℕ → List (List ℕ) → List (ℕ × List ℕ)
blocks_from index [] = []
blocks_from index ([] ∷ contents) = blocks_from (index + 1) contents
blocks_from index ((octet ∷ octets) ∷ contents) = (index, octet ∷ octets) ∷ blocks_from (index + 1) contents

-- The contents of the blocks by their indexes, empty where a block is missing.
abbrev pub contents_of : insertion.Inside → List (List ℕ)
contents_of m = map (λ c. c.items) m.contents.items

-- What contracts see of an insertion.
abbrev pub process_of : insertion.Inside → Process
process_of m = record {
  name = m.name;
  first = m.first;
  last = m.last;
  blocks = blocks_from m.first (contents_of m);
  published = m.is_published;
}

-- The invariant of an insertion: it has an object's name and at most 200 blocks, each of at most 8,000 octets. There is
-- a place for each block until the object is published, and then none.
pub record IsInsertion (m : insertion.Inside) : Type 0 where
  pub name : IsName m.name
  pub named : IsTrue (is_object_name m.name)
  pub order : m.first ≤ m.last
  pub few : m.last - m.first < 200
  pub places : m.is_published ≡ false → length m.contents.items ≡ m.last + 1 - m.first
  pub emptied : m.is_published ≡ true → m.contents.items ≡ []
  pub contents : All (λ c. length c ≤ 8000) (contents_of m)

-- ---- all processes

-- The values of a list in order, each under a number, from `number` on.
abbrev pub numbered_from : {A : Type 0} → ℕ → List A → List (ℕ × A)
numbered_from number [] = []
numbered_from number (x ∷ xs) = (number, x) ∷ numbered_from (number + 1) xs

-- What contracts see of all processes. The processes have the last numbers that were given.
abbrev pub insertions_of : processes.Inside → Insertions
insertions_of m = record {
  processes = numbered_from (m.next - length m.insertions.items) m.insertions.items;
  next_process = m.next;
}

-- Each process that is kept has a number from 1 on, and numbers have 32 bits.
pub record ProcessesAreNumbered (m : processes.Inside) : Type 0 where
  pub given : length m.insertions.items < m.next
  pub last : m.next ≤ 2 ^ 32
