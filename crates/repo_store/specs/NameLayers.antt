-- The index of a store by name, in three layers of entries: settled and recent ones, each layer in order of its keys,
-- and waiting ones, in no order.
use Rattle.std.specs.Prelude.{◌≡◌, ℕ, ◌+◌, ◌≤◌, ◌==◌, Bool, true, false, not, ◌&&◌, List, [], ◌∷◌, ◌++◌, length}
use Rattle.std.specs.Prelude.{Option, Some, None, vec_len, vec_capacity}
use Rattle.std.specs.List.{filter}
use Rattle.sorted_lists.specs.SortedList.{Rises, contains, keys, value_of}
use Rattle.sorted_lists.specs.Members.{In, HaveSame}
use Rattle.repo_plan.specs.declared.part.Part.{Part}
use Rattle.repo_plan.specs.Parts.{Pair, part_cmp}
use Rattle.repo_plan.specs.Plan.{is_in}
use Rattle.repo_store.specs.declared.names.Names.{Names}
use Rattle.repo_store.specs.PacketTable.{Slots, Stored, PacketTableState}
use Rattle.repo_store.specs.Slots.{held_outside_all}
use Rattle.repo_store.specs.Indexes.{name_matches, AreInOrder}

-- The entries of all layers.
abbrev pub all_of : Names → List Stored
all_of l = l.settled.items ++ (l.recent.items ++ l.waiting.items)

-- The settled entries are in order of their keys, and so are the recent ones.
pub record LayersAreInOrder (slots : Slots) (l : Names) : Type 0 where
  pub settled : AreInOrder slots l.settled.items
  pub recent : AreInOrder slots l.recent.items

-- There is capacity for `n` more waiting entries, and for all waiting ones to become recent, and then settled.
pub record HasRoom (l : Names) (n : ℕ) : Type 0 where
  pub waiting : n + vec_len l.waiting ≤ vec_capacity l.waiting
  pub recent : n + (vec_len l.recent + vec_len l.waiting) ≤ vec_capacity l.recent
  pub settled : n + (length l.settled.items + (vec_len l.recent + vec_len l.waiting)) ≤ l.settled.room

-- Each layer has the same entries in `new` as in `old`.
pub record HasSame (old new : Names) : Type 0 where
  pub settled : new.settled.items ≡ old.settled.items
  pub recent : new.recent.items ≡ old.recent.items
  pub waiting : new.waiting.items ≡ old.waiting.items

-- `merged` has the entries of `settled` and `recent`, and no others, in order of their keys.
pub record IsMerged (slots : Slots) (settled recent merged : List Stored) : Type 0 where
  pub in_order : AreInOrder slots merged
  pub same : HaveSame merged (settled ++ recent)

-- Whether there is a slot, and it is `slot`.
abbrev pub is_slot : ℕ → Option ℕ → Bool
is_slot slot None = false
is_slot slot (Some other) = other == slot

-- Whether `held` has the part of the entry `h`, in the same slot.
abbrev pub is_stored : List Stored → Stored → Bool
is_stored held h = is_slot h.1 (value_of part_cmp held h.0)

-- Whether the entry `h` is held, and the name of its packet is `asked` or, with `can_be_prefix`, begins with `asked`.
abbrev pub is_stored_and_matches : PacketTableState → List ℕ → Bool → Stored → Bool
is_stored_and_matches k asked can_be_prefix h = name_matches k.slots asked can_be_prefix h && is_stored k.held h

-- Each entry of `old` that is held is in `new` too.
abbrev pub WaitsStill : List Stored → List Stored → List Stored → Type 0
WaitsStill held old new = (h : Stored) → In h old → is_stored held h ≡ true → In h new

-- `index` has every entry of `held`. Its settled and recent entries are held and in order of their keys; some of its
-- waiting entries may be held no more.
pub record IsIndexOf (slots : Slots) (held : List Stored) (index : Names) : Type 0 where
  pub rises : Rises part_cmp (keys held)
  pub in_order : LayersAreInOrder slots index
  pub settled : (h : Stored) → In h index.settled.items → In h held
  pub recent : (h : Stored) → In h index.recent.items → In h held
  pub all : (h : Stored) → In h held → In h (all_of index)

-- The settled and the recent entries are held, and each of these layers is in order of its keys.
pub record AreAmong (slots : Slots) (held : List Stored) (l : Names) : Type 0 where
  pub rises : Rises part_cmp (keys held)
  pub in_order : LayersAreInOrder slots l
  pub settled : (h : Stored) → In h l.settled.items → In h held
  pub recent : (h : Stored) → In h l.recent.items → In h held

-- Whether a part that was held is still held after all parts of the publications `pairs` were dropped. A single
-- publication is compared with the part; otherwise the part is looked up in `held`.
abbrev pub is_left : List Pair → List Stored → Part → Bool
is_left [] held t = contains part_cmp (keys held) t
is_left (pair ∷ []) held t = not (is_in pair t)
is_left (pair ∷ other ∷ pairs) held t = contains part_cmp (keys held) t

-- The entries of `named` whose parts are still held after all parts of the publications `pairs` were dropped.
abbrev pub left_of : List Pair → List Stored → List Stored → List Stored
left_of pairs held named = filter (λ (h : Stored). is_left pairs held h.0) named

-- With `true` the entries of `named` without those of the publications `pairs`; with `false` all of them.
abbrev pub taken_out : Bool → List Pair → List Stored → List Stored
taken_out true pairs named = held_outside_all pairs named
taken_out false pairs named = named

-- With `false` the entries of `named` whose parts are still held; with `true`, where they were taken out before, all of
-- `named`.
abbrev pub left_unless : Bool → List Pair → List Stored → List Stored → List Stored
left_unless true pairs held named = named
left_unless false pairs held named = left_of pairs held named
