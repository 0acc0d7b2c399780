-- What the word at a place is called.
use Rattle.std.proofs.Common.{◌≡◌, ℕ, List, map, slice_get, Some, None, ap, sym, ◌∙◌}
use Rattle.std.specs.Option.{option_map}
use Rattle.std.proofs.lemmas.Option.{slice_get-map}
use Rattle.script_lang.specs.declared.place.Place.{Place}
use Rattle.script_lang.specs.WordPlaces.{place_name}

-- The name at a place of the form.
pub name_there : (names : List (List ℕ)) (places : List Place) (k : ℕ) (place : Place)
    → map place_name places ≡ names → slice_get places k ≡ Some place
    → slice_get names k ≡ Some (place_name place)
name_there names places k place named there =
    ap (λ (t : List (List ℕ)). slice_get t k) (sym named) ∙ slice_get-map place_name places k
    ∙ ap (option_map place_name) there

-- There is no name past the end of the form.
pub no_name_there : (names : List (List ℕ)) (places : List Place) (k : ℕ)
    → map place_name places ≡ names → slice_get places k ≡ None → slice_get names k ≡ None
no_name_there names places k named none =
    ap (λ (t : List (List ℕ)). slice_get t k) (sym named) ∙ slice_get-map place_name places k
    ∙ ap (option_map place_name) none
