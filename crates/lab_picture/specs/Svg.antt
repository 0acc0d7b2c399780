-- The elements of an SVG picture as text.
use Rattle.std.specs.Prelude.{ℕ, zero, suc, List, [], ◌∷◌, ◌++◌, ◌==◌, ◌&&◌, codes, nat_le, if◌then◌else◌}
use Rattle.std.specs.Fmt.{decimal}
use Rattle.std.specs.List.{flat_map}
use Rattle.lab_picture.specs.declared.shape.Key.{Key}
use Rattle.lab_picture.specs.declared.shape.Key.TheVariants as key
use Rattle.lab_picture.specs.declared.shape.Shape.{Shape}
use Rattle.lab_picture.specs.declared.shape.Shape.TheVariants as shape
use Rattle.lab_picture.specs.declared.shape.Symbol.{Symbol}
use Rattle.lab_picture.specs.declared.shape.Symbol.TheVariants as symbol

-- ---- characters

-- XML has no control characters, and the picture is ASCII: what is neither is shown as a space.
abbrev pub shown_octet : ℕ → ℕ
shown_octet octet = if nat_le 32 octet && nat_le octet 126 then octet else 32

-- A character of a text, escaped where it would be read as markup.
abbrev pub escaped_octet : ℕ → List ℕ
escaped_octet octet =
    if octet == 38 then codes "&amp;"
    else if octet == 60 then codes "&lt;"
    else if octet == 62 then codes "&gt;"
    else if octet == 34 then codes "&quot;"
    else shown_octet octet ∷ []

abbrev pub escaped : List ℕ → List ℕ
escaped text = flat_map escaped_octet text

-- ---- elements

abbrev pub key_word : Key → List ℕ
key_word key.X = codes "x"
key_word key.Y = codes "y"
key_word key.X1 = codes "x1"
key_word key.Y1 = codes "y1"
key_word key.X2 = codes "x2"
key_word key.Y2 = codes "y2"
key_word key.Width = codes "width"
key_word key.Height = codes "height"

-- An attribute that is a number.
abbrev pub attribute : Key → ℕ → List ℕ
attribute key n = codes " " ++ (key_word key ++ (codes "='" ++ (decimal n ++ codes "'")))

-- The name of the element that a symbol is defined as, and its attributes there.
abbrev pub symbol_tag : Symbol → List ℕ
symbol_tag symbol.Publish = codes "circle"
symbol_tag symbol.Withdraw = codes "path"
symbol_tag symbol.Timer = codes "path"
symbol_tag symbol.Restart = codes "path"
symbol_tag symbol.Command = codes "path"
symbol_tag symbol.Fetch = codes "path"
symbol_tag symbol.Loop = codes "path"

abbrev pub symbol_style : Symbol → List ℕ
symbol_style symbol.Publish = codes " id='publish' r='6'"
symbol_style symbol.Withdraw = codes " id='withdraw' d='M0 -7L7 0L0 7L-7 0z'"
symbol_style symbol.Timer = codes " id='timer' d='M-7 -6L7 -6L0 7z'"
symbol_style symbol.Restart = codes " id='restart' d='M-6 -6L6 6M-6 6L6 -6' stroke='#000' stroke-width='3'"
symbol_style symbol.Command = codes " id='command' d='M-6 -6H6V6H-6z' fill='#fff' stroke='#000' stroke-width='2'"
symbol_style symbol.Fetch = codes " id='fetch' d='M-10 -4H10V4H-10z' fill='#555'"
symbol_style symbol.Loop = codes " id='loop' d='M0 -6H24V6H2' fill='none' stroke='#000' marker-end='url(#head)'"

-- The attribute by which a symbol is placed.
abbrev pub symbol_reference : Symbol → List ℕ
symbol_reference symbol.Publish = codes " href='#publish'"
symbol_reference symbol.Withdraw = codes " href='#withdraw'"
symbol_reference symbol.Timer = codes " href='#timer'"
symbol_reference symbol.Restart = codes " href='#restart'"
symbol_reference symbol.Command = codes " href='#command'"
symbol_reference symbol.Fetch = codes " href='#fetch'"
symbol_reference symbol.Loop = codes " href='#loop' stroke-width='1.5'"

-- The name of the element that a shape is.
unfoldable pub tag : Shape → List ℕ
tag shape.Picture = codes "svg"
tag shape.Definitions = codes "defs"
tag shape.Head = codes "marker"
tag shape.HeadPath = codes "path"
tag (shape.Defined s) = symbol_tag s
tag shape.Ground = codes "rect"
tag shape.Life = codes "line"
tag shape.MirrorLife = codes "line"
tag shape.Label = codes "text"
tag shape.MirrorLabel = codes "text"
tag shape.Guide = codes "line"
tag shape.Number = codes "text"
tag shape.Text = codes "text"
tag shape.Count = codes "text"
tag shape.Note = codes "text"
tag shape.LeftNote = codes "text"
tag shape.More = codes "text"
tag (shape.Placed s) = codes "use"
tag shape.DashedLoop = codes "use"
tag shape.Arrow = codes "line"
tag shape.DashedArrow = codes "line"
tag shape.Band = codes "rect"

-- The attributes that each element of a shape has.
unfoldable pub style : Shape → List ℕ
style shape.Picture = codes " xmlns='http://www.w3.org/2000/svg' font-family='monospace' font-size='12'"
style shape.Definitions = []
style shape.Head = codes " id='head' markerWidth='7' markerHeight='6' refX='6' refY='3' orient='auto'"
style shape.HeadPath = codes " d='M0 0L7 3L0 6z'"
style (shape.Defined s) = symbol_style s
style shape.Ground = codes " fill='#fff'"
style shape.Life = codes " stroke='#777' stroke-width='1.5'"
style shape.MirrorLife = codes " stroke='#777' stroke-width='1.5' stroke-dasharray='2 4'"
style shape.Label = codes " text-anchor='middle' font-weight='bold'"
style shape.MirrorLabel = codes " text-anchor='middle' font-weight='bold' font-style='italic'"
style shape.Guide = codes " stroke='#ddd'"
style shape.Number = codes " text-anchor='end' fill='#666'"
style shape.Text = []
style shape.Count = codes " text-anchor='end' font-size='11' font-weight='bold'"
style shape.Note = codes " font-size='11'"
style shape.LeftNote = codes " text-anchor='end' font-size='11'"
style shape.More = codes " font-style='italic'"
style (shape.Placed s) = symbol_reference s
style shape.DashedLoop = codes " href='#loop' stroke-width='1.5' stroke-dasharray='6 4'"
style shape.Arrow = codes " stroke='#000' stroke-width='1.5' marker-end='url(#head)'"
style shape.DashedArrow = codes " stroke='#000' stroke-width='1.5' stroke-dasharray='6 4' marker-end='url(#head)'"
style shape.Band = codes " fill='#bbb' fill-opacity='0.6'"

abbrev pub attributes : List (Key × ℕ) → List ℕ
attributes numbers = flat_map (λ (n : Key × ℕ). attribute n.0 n.1) numbers

-- The tag that opens an element, with its attributes.
unfoldable pub open_tag : Shape → List (Key × ℕ) → List ℕ
open_tag s numbers = codes "<" ++ (tag s ++ (style s ++ (attributes numbers ++ codes ">")))

-- The tag that closes an element.
unfoldable pub close_tag : Shape → List ℕ
close_tag s = codes "</" ++ (tag s ++ codes ">\n")

-- An element, with what is in it.
abbrev pub element : Shape → List (Key × ℕ) → List ℕ → List ℕ
element s numbers content = open_tag s numbers ++ (content ++ close_tag s)

-- An element with nothing in it.
abbrev pub mark : Shape → List (Key × ℕ) → List ℕ
mark s numbers = element s numbers []

-- The attributes of a place.
abbrev pub at : ℕ → ℕ → List (Key × ℕ)
at x y = (key.X, x) ∷ (key.Y, y) ∷ []

-- The attributes of a line between two places.
abbrev pub between : ℕ → ℕ → ℕ → ℕ → List (Key × ℕ)
between x1 y1 x2 y2 = (key.X1, x1) ∷ (key.Y1, y1) ∷ (key.X2, x2) ∷ (key.Y2, y2) ∷ []

-- The attributes of a width and a height.
abbrev pub sized : ℕ → ℕ → List (Key × ℕ)
sized width height = (key.Width, width) ∷ (key.Height, height) ∷ []

-- The attributes of a rectangle at a place.
abbrev pub rectangle : ℕ → ℕ → ℕ → ℕ → List (Key × ℕ)
rectangle x y width height = (key.X, x) ∷ (key.Y, y) ∷ (key.Width, width) ∷ (key.Height, height) ∷ []

-- Three texts one after the other, escaped, at a place.
abbrev pub words_at : Shape → ℕ → ℕ → List ℕ → List ℕ → List ℕ → List ℕ
words_at s x y first middle last = element s (at x y) (escaped first ++ (escaped middle ++ escaped last))

-- `text i` for each number `i` below the first argument, one after the other.
unfoldable pub each : ℕ → (ℕ → List ℕ) → List ℕ
each zero text = []
each (suc n) text = each n text ++ text n
