-- What holds of the text of a picture.
use Rattle.std.specs.Prelude.{ℕ, Bool, true, not, ◌==◌, ◌&&◌, ◌||◌, List, [], ◌∷◌, ◌++◌, codes, take}
use Rattle.std.specs.Str.{bytes_eq}
use Rattle.lab_picture.specs.declared.shape.Key.{Key}
use Rattle.lab_picture.specs.declared.shape.Shape.{Shape}
use Rattle.lab_picture.specs.Svg.{element, escaped}

-- What stands after `&` names a character.
abbrev pub names_character : List ℕ → Bool
names_character octets =
    bytes_eq (take 4 octets) (codes "amp;") || bytes_eq (take 3 octets) (codes "lt;")
    || bytes_eq (take 3 octets) (codes "gt;") || bytes_eq (take 5 octets) (codes "quot;")

-- An octet that is no markup, before these octets.
abbrev pub is_character : ℕ → List ℕ → Bool
is_character octet others =
    not (octet == 60) && not (octet == 62) && not (octet == 34) && (not (octet == 38) || names_character others)

-- Text without markup: no `<`, `>` or `"`, and each `&` begins the name of a character.
unfoldable pub is_character_data : List ℕ → Bool
is_character_data [] = true
is_character_data (octet ∷ others) = is_character octet others && is_character_data others

-- Elements with escaped text in them: each tag that opens is closed.
pub data IsMarkup : List ℕ → Type 0 where
  nothing : IsMarkup []
  characters : (text : List ℕ) → IsMarkup (escaped text)
  inside : (s : Shape) (numbers : List (Key × ℕ)) (content : List ℕ) → IsMarkup content
      → IsMarkup (element s numbers content)
  joined : (before after : List ℕ) → IsMarkup before → IsMarkup after → IsMarkup (before ++ after)
