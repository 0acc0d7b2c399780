-- The page that a picture is on: what is around its rows.
use Rattle.std.specs.Prelude.{ℕ, ◌+◌, ◌-◌, ◌==◌, List, [], ◌++◌, codes, max, nat_lt, if◌then◌else◌}
use Rattle.std.specs.Fmt.{decimal}
use Rattle.lab_picture.specs.declared.shape.Shape.{Shape}
use Rattle.lab_picture.specs.declared.shape.Shape.TheVariants as shape
use Rattle.lab_picture.specs.declared.shape.Symbol.{Symbol}
use Rattle.lab_picture.specs.declared.shape.Symbol.TheVariants as symbol
use Rattle.lab_picture.specs.Svg.{at, between, each, element, mark, sized, words_at}
use Rattle.lab_picture.specs.Marks.{column_x, right_end, row_y}

-- The symbols, each defined once, and the head of arrows.
unfoldable pub head_definition : List ℕ
head_definition = element shape.Head [] (mark shape.HeadPath [])

abbrev pub defined : Symbol → List ℕ
defined s = mark (shape.Defined s) []

unfoldable pub first_definitions : List ℕ
first_definitions = defined symbol.Publish ++ (defined symbol.Withdraw
    ++ (defined symbol.Timer ++ defined symbol.Restart))

unfoldable pub other_definitions : List ℕ
other_definitions =
    defined symbol.Command ++ (defined symbol.Fetch ++ defined symbol.Loop)

unfoldable pub definitions : List ℕ
definitions = element shape.Definitions [] (head_definition ++ (first_definitions ++ other_definitions))

-- ---- columns

-- The first columns are members, the others mirrors.
abbrev pub life_shape : ℕ → ℕ → Shape
life_shape members column = if nat_lt column members then shape.Life else shape.MirrorLife

abbrev pub lifeline : ℕ → ℕ → ℕ → List ℕ
lifeline members bottom column =
    mark (life_shape members column) (between (column_x column) 46 (column_x column) bottom)

unfoldable pub lifelines : ℕ → ℕ → ℕ → List ℕ
lifelines members columns bottom = each columns (lifeline members bottom)

-- The label above a column.
abbrev pub label_shape : ℕ → ℕ → Shape
label_shape members column = if nat_lt column members then shape.Label else shape.MirrorLabel

abbrev pub head : ℕ → ℕ → List ℕ → List ℕ
head members column label = words_at (label_shape members column) (column_x column) 34 label [] []

-- ---- below the rows

-- How many lines more there are than rows are drawn.
unfoldable pub more_text : ℕ → ℕ → List ℕ
more_text rows more =
    if more == 0 then []
    else words_at shape.More 56 (row_y rows + 4) (codes "and ") (decimal more) (codes " more")

-- Where the rows end, with the row that says how many more lines there are, if it is there.
abbrev pub rows_end : ℕ → ℕ → ℕ
rows_end rows more = if more == 0 then row_y rows else row_y rows + 28

-- A symbol, and what it means.
unfoldable pub meaning : Symbol → ℕ → ℕ → List ℕ → List ℕ
meaning s x y text = mark (shape.Placed s) (at x y) ++ words_at shape.Note (x + 16) (y + 4) text [] []

-- An arrow, and what it means.
unfoldable pub arrow_meaning : Shape → ℕ → ℕ → List ℕ → List ℕ
arrow_meaning s x y text =
    mark s (between x y (x + 24) y) ++ words_at shape.Note (x + 32) (y + 4) text [] []

-- A new number of entries, and what it means.
unfoldable pub count_meaning : ℕ → ℕ → List ℕ
count_meaning x y =
    words_at shape.Count x (y + 4) (codes "3") [] []
    ++ words_at shape.Note (x + 6) (y + 4) (codes "entries listed") [] []

-- What the marks mean, in two lines.
unfoldable pub first_meanings : ℕ → List ℕ
first_meanings y =
    meaning symbol.Publish 64 y (codes "publish") ++ (meaning symbol.Withdraw 150 y (codes "withdraw")
    ++ (meaning symbol.Timer 244 y (codes "timer sends") ++ (meaning symbol.Restart 358 y (codes "restart")
    ++ meaning symbol.Command 444 y (codes "command"))))

unfoldable pub other_meanings : ℕ → List ℕ
other_meanings y =
    meaning symbol.Fetch 66 y (codes "came of planned") ++ (arrow_meaning shape.Arrow 202 y (codes "sync or Data")
    ++ (arrow_meaning shape.DashedArrow 330 y (codes "suppressed") ++ count_meaning 460 y))

-- ---- the whole

-- The width of the page. Right of the columns there is space for what stands beside the last one's line.
abbrev pub page_width : ℕ → ℕ
page_width columns = max (right_end columns + 72) 576

-- What stands under the rows: the marks, the ground and the columns' lines.
unfoldable pub under_rows : (members columns rows width height : ℕ) → List ℕ
under_rows members columns rows width height =
    definitions ++ (mark shape.Ground (sized width height) ++ lifelines members columns (row_y rows - 14))

-- What stands below the rows: how many more lines there are, and what the marks mean.
unfoldable pub below_rows : ℕ → ℕ → List ℕ
below_rows rows more =
    more_text rows more ++ (first_meanings (rows_end rows more + 16) ++ other_meanings (rows_end rows more + 40))

-- The labels above the columns, their lines, rows over them, and what the marks mean.
abbrev pub page : (members columns rows more : ℕ) → List ℕ → List ℕ → List ℕ
page members columns rows more heads body =
    element shape.Picture (sized (page_width columns) (rows_end rows more + 60))
    (under_rows members columns rows (page_width columns) (rows_end rows more + 60)
    ++ (heads ++ (body ++ below_rows rows more)))
