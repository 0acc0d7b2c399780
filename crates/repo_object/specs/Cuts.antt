-- The pieces that a content is cut into.
use Rattle.std.specs.Prelude.{◌≡◌, ◌<◌, ◌≤◌, ℕ, ◌+◌, ◌*◌, List, [], length, take, drop, map}
use Rattle.std.specs.Int.{div_ceil}
use Rattle.std.specs.List.{All, flat_map, slice_index_or}
use Rattle.sorted_lists.specs.Range.{numbers_from}

-- Piece `i`, counted from 0, of `content` in pieces of `size` octets.
abbrev pub piece : ℕ → List ℕ → ℕ → List ℕ
piece size content i = take size (drop (i * size) content)

-- All pieces of `content`: each has `size` octets but the last, which may be shorter.
abbrev pub pieces : ℕ → List ℕ → List (List ℕ)
pieces size content =
    map (piece size content) (numbers_from 0 (div_ceil (length content) size))

-- ---- the same in the words of the format

-- The pieces `cut`, one after another, are `content`. Each but the last has `size` octets, and the last has 1 to
-- `size` octets.
pub record AreCut (size : ℕ) (content : List ℕ) (cut : List (List ℕ)) : Type 0 where
  pub joined : flat_map (λ piece. piece) cut ≡ content
  pub full : (k : ℕ) → k + 1 < length cut → length (slice_index_or cut k []) ≡ size
  pub none_is_empty : All (λ piece. (0 < length piece) × (length piece ≤ size)) cut
