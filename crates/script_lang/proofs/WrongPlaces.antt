-- Where a line is wrong after the last place of its form.
use Rattle.std.proofs.Common.{◌≡◌, ◌<◌, ℕ, List, [], ◌∷◌, map, length, refl, arith}
use Rattle.script_lang.specs.declared.line_fault.LineFault.{LineFault}
use Rattle.script_lang.specs.declared.place.Place.{Place}
use Rattle.script_lang.specs.declared.verb.Verb.{Verb}
use Rattle.script_lang.specs.WordPlaces.{place_kind}
use Rattle.script_lang.specs.WrongWords.{wrong_from}

-- If `places` is empty, `wrong_from` is the same with no kinds as with the kinds of `places`.
pub no_place_left : (fault : LineFault) (verb : Verb) (place : ℕ) (places : List Place) (words : List (List ℕ))
    → length places < 1 → wrong_from fault verb place [] words
    ≡ wrong_from fault verb place (map place_kind places) words
no_place_left fault verb place [] words none = refl
no_place_left fault verb place (first ∷ others) words none = absurd (omega arith)
