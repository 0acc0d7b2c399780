-- Where the marks of a picture stand, and what each is.
use Rattle.std.specs.Prelude.{ℕ, ◌+◌, ◌-◌, ◌*◌, ◌==◌, Bool, List, [], ◌++◌, codes, length, take, nat_lt}
use Rattle.std.specs.Prelude.{Option, Some, None, unwrap_or, slice_get, if◌then◌else◌}
use Rattle.std.specs.Fmt.{decimal}
use Rattle.lab_picture.specs.declared.shape.Shape.{Shape}
use Rattle.lab_picture.specs.declared.shape.Shape.TheVariants as shape
use Rattle.lab_picture.specs.declared.shape.Symbol.{Symbol}
use Rattle.lab_picture.specs.declared.shape.Symbol.TheVariants as symbol
use Rattle.lab_picture.specs.Svg.{at, between, each, mark, rectangle, words_at}

-- The line of a column, counted from 0, and the middle of a row.
abbrev pub column_x : ℕ → ℕ
column_x column = 464 + 128 * column

abbrev pub row_y : ℕ → ℕ
row_y row = 88 + 28 * row

-- Where the columns end.
abbrev pub right_end : ℕ → ℕ
right_end columns = 400 + 128 * columns

-- A mark on a column's line, and a text right of it. Nothing where there is no such column.
abbrev pub marked : Symbol → ℕ → Option ℕ → List ℕ → List ℕ → List ℕ → List ℕ
marked s row None first middle last = []
marked s row (Some column) first middle last =
    mark (shape.Placed s) (at (column_x column) (row_y row))
    ++ words_at shape.Note (column_x column + 16) (row_y row + 4) first middle last

-- An arrow, which is dashed or not, and the one of a member that hears itself.
abbrev pub arrow_shape : Bool → Shape
arrow_shape dashed = if dashed then shape.DashedArrow else shape.Arrow

abbrev pub loop_shape : Bool → Shape
loop_shape dashed = if dashed then shape.DashedLoop else shape.Placed symbol.Loop

-- An arrow between two columns' lines, with a text where it begins.
abbrev pub arrow_between : Bool → ℕ → ℕ → ℕ → List ℕ → List ℕ → List ℕ
arrow_between dashed row from to first last =
    if from == to
    then mark (loop_shape dashed) (at (column_x from) (row_y row))
    ++ words_at shape.Note (column_x from + 32) (row_y row + 4) first last []
    else mark (arrow_shape dashed) (between (column_x from) (row_y row) (column_x to) (row_y row))
    ++ (if nat_lt from to
    then words_at shape.Note (column_x from + 8) (row_y row - 5) first last []
    else words_at shape.LeftNote (column_x from - 8) (row_y row - 5) first last [])

abbrev pub arrow : Bool → ℕ → Option ℕ → Option ℕ → List ℕ → List ℕ → List ℕ
arrow dashed row None to first last = []
arrow dashed row (Some from) None first last = []
arrow dashed row (Some from) (Some to) first last = arrow_between dashed row from to first last

-- A band over all lines.
abbrev pub band : ℕ → ℕ → List ℕ → List ℕ
band row columns kept =
    mark shape.Band (rectangle 400 (row_y row - 13) (128 * columns) 26)
    ++ words_at shape.Note 472 (row_y row + 4) (codes "kept ") kept []

-- ---- numbers of entries

-- The number at the place `place`, or 0 where there is none.
abbrev pub number_at : List ℕ → ℕ → ℕ
number_at numbers place = unwrap_or (slice_get numbers place) 0

-- The new number of entries left of a column's line, where it changed.
abbrev pub change : ℕ → ℕ → ℕ → ℕ → List ℕ
change row column before now =
    if before == now then []
    else words_at shape.Count (column_x column - 14) (row_y row - 5) (decimal now) [] []

abbrev pub changes : ℕ → ℕ → List ℕ → List ℕ → List ℕ
changes row columns before now =
    each columns (λ column. change row column (number_at before column) (number_at now column))

-- ---- a row

-- At most 40 characters of a line are shown.
abbrev pub shown_part : List ℕ → List ℕ
shown_part line = if nat_lt 40 (length line) then take 37 line else line

abbrev pub dots : List ℕ → List ℕ
dots line = if nat_lt 40 (length line) then codes "..." else []

-- A row: the line's number and its text at the left, and its marks.
abbrev pub row_text : ℕ → ℕ → ℕ → List ℕ → List ℕ → List ℕ
row_text row columns number line marks =
    mark shape.Guide (between 56 (row_y row + 14) (right_end columns) (row_y row + 14))
    ++ (words_at shape.Number 44 (row_y row + 4) (decimal number) [] []
    ++ (words_at shape.Text 56 (row_y row + 4) (shown_part line) (dots line) []
    ++ marks))
