-- Maps in order that are made of others.
use Rattle.std.specs.Prelude.{List, [], ◌∷◌, Option, Some, None}

-- the map with one more entry in front, if there is a value for it
abbrev pub with_kept : {K W : Type 0} → K → Option W → List (K × W) → List (K × W)
with_kept k None entries = entries
with_kept k (Some w) entries = (k, w) ∷ entries

-- the map of the values that `f` makes of each key and its value, without the keys for which it makes none
abbrev pub kept_values : {K V W : Type 0} → (K → V → Option W) → List (K × V) → List (K × W)
kept_values f [] = []
kept_values f (e ∷ es) = with_kept e.0 (f e.0 e.1) (kept_values f es)
