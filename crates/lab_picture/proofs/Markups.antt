-- What is drawn is made of elements with escaped text in them.
use Rattle.std.proofs.Common.{ℕ, zero, suc, ◌+◌, ◌-◌, ◌==◌, Bool, true, false, List, [], ◌++◌, Option, Some, None}
use Rattle.std.specs.Fmt.{decimal}
use Rattle.std.specs.Prelude.{codes, nat_lt, if◌then◌else◌}
use Rattle.lab_picture.specs.declared.shape.Key.{Key}
use Rattle.lab_picture.specs.declared.shape.Shape.{Shape}
use Rattle.lab_picture.specs.declared.shape.Shape.TheVariants as shape
use Rattle.lab_picture.specs.declared.shape.Symbol.{Symbol}
use Rattle.lab_picture.specs.declared.shape.Symbol.TheVariants as symbol
use Rattle.lab_picture.specs.Laws.{IsMarkup}
use Rattle.lab_picture.specs.Laws.IsMarkup.{nothing, characters, inside, joined}
use Rattle.lab_picture.specs.Marks.{arrow, arrow_between, arrow_shape, band, change, changes, column_x, dots}
use Rattle.lab_picture.specs.Marks.{loop_shape, marked, number_at, row_text, row_y, shown_part}
use Rattle.lab_picture.specs.Page.{arrow_meaning, below_rows, count_meaning, defined, definitions, first_definitions}
use Rattle.lab_picture.specs.Page.{first_meanings, head, head_definition, label_shape, life_shape, lifelines, meaning}
use Rattle.lab_picture.specs.Page.{more_text, other_definitions, other_meanings, page, page_width, rows_end}
use Rattle.lab_picture.specs.Page.{under_rows}
use Rattle.lab_picture.specs.Svg.{at, between, each, escaped, mark, sized, words_at}

pub mark_is : (s : Shape) (numbers : List (Key × ℕ)) → IsMarkup (mark s numbers)
mark_is s numbers = inside s numbers [] nothing

pub words_are : (s : Shape) (x y : ℕ) (first middle last : List ℕ) → IsMarkup (words_at s x y first middle last)
words_are s x y first middle last =
    inside s (at x y) (escaped first ++ (escaped middle ++ escaped last))
    (joined (escaped first) (escaped middle ++ escaped last) (characters first)
    (joined (escaped middle) (escaped last) (characters middle) (characters last)))

pub each_is : (n : ℕ) (text : ℕ → List ℕ) → ((k : ℕ) → IsMarkup (text k)) → IsMarkup (each n text)
unfolding each
each_is zero text is = nothing
each_is (suc n) text is = joined (each n text) (text n) (each_is n text is) (is n)

chosen : (b : Bool) (one other : List ℕ) → IsMarkup one → IsMarkup other → IsMarkup (if b then one else other)
chosen true one other is are = is
chosen false one other is are = are

pub marked_is : (s : Symbol) (row : ℕ) (column : Option ℕ) (first middle last : List ℕ)
    → IsMarkup (marked s row column first middle last)
marked_is s row None first middle last = nothing
marked_is s row (Some column) first middle last =
    joined (mark (shape.Placed s) (at (column_x column) (row_y row)))
    (words_at shape.Note (column_x column + 16) (row_y row + 4) first middle last)
    (mark_is (shape.Placed s) (at (column_x column) (row_y row)))
    (words_are shape.Note (column_x column + 16) (row_y row + 4) first middle last)

between_is : (dashed : Bool) (row from to : ℕ) (first last : List ℕ)
    → IsMarkup (arrow_between dashed row from to first last)
between_is dashed row from to first last = chosen (from == to) _ _
    (joined _ _ (mark_is (loop_shape dashed) _) (words_are shape.Note _ _ first last []))
    (joined _ _ (mark_is (arrow_shape dashed) _)
    (chosen (nat_lt from to) _ _ (words_are shape.Note _ _ first last []) (words_are shape.LeftNote _ _ first last [])))

pub arrow_is : (dashed : Bool) (row : ℕ) (from to : Option ℕ) (first last : List ℕ)
    → IsMarkup (arrow dashed row from to first last)
arrow_is dashed row None to first last = nothing
arrow_is dashed row (Some from) None first last = nothing
arrow_is dashed row (Some from) (Some to) first last = between_is dashed row from to first last

pub band_is : (row columns : ℕ) (kept : List ℕ) → IsMarkup (band row columns kept)
band_is row columns kept =
    joined _ _ (mark_is shape.Band _) (words_are shape.Note 472 (row_y row + 4) (codes "kept ") kept [])

change_is : (row column before now : ℕ) → IsMarkup (change row column before now)
change_is row column before now = chosen (before == now) [] _ nothing (words_are shape.Count _ _ (decimal now) [] [])

pub changes_are : (row columns : ℕ) (before now : List ℕ) → IsMarkup (changes row columns before now)
changes_are row columns before now =
    each_is columns _ (λ (column : ℕ). change_is row column (number_at before column) (number_at now column))

pub row_is : (row columns number : ℕ) (line marks : List ℕ) → IsMarkup marks
    → IsMarkup (row_text row columns number line marks)
row_is row columns number line marks is =
    joined _ _ (mark_is shape.Guide _) (joined _ _ (words_are shape.Number 44 (row_y row + 4) (decimal number) [] [])
    (joined _ marks (words_are shape.Text 56 (row_y row + 4) (shown_part line) (dots line) []) is))

pub head_is : (members column : ℕ) (label : List ℕ) → IsMarkup (head members column label)
head_is members column label = words_are (label_shape members column) (column_x column) 34 label [] []

head_definition_is : IsMarkup head_definition
unfolding head_definition
head_definition_is = inside shape.Head [] (mark shape.HeadPath []) (mark_is shape.HeadPath [])

defined_is : (s : Symbol) → IsMarkup (defined s)
defined_is s = mark_is (shape.Defined s) []

first_definitions_are : IsMarkup first_definitions
unfolding first_definitions
first_definitions_are = joined _ _ (defined_is symbol.Publish) (joined _ _ (defined_is symbol.Withdraw)
    (joined _ _ (defined_is symbol.Timer) (defined_is symbol.Restart)))

other_definitions_are : IsMarkup other_definitions
unfolding other_definitions
other_definitions_are =
    joined _ _ (defined_is symbol.Command) (joined _ _ (defined_is symbol.Fetch) (defined_is symbol.Loop))

definitions_are : IsMarkup definitions
unfolding definitions
definitions_are = inside shape.Definitions [] (head_definition ++ (first_definitions ++ other_definitions))
    (joined head_definition _ head_definition_is
    (joined first_definitions other_definitions first_definitions_are other_definitions_are))

lifelines_are : (members columns bottom : ℕ) → IsMarkup (lifelines members columns bottom)
unfolding lifelines
lifelines_are members columns bottom =
    each_is columns _ (λ (column : ℕ).
    mark_is (life_shape members column) (between (column_x column) 46 (column_x column) bottom))

more_is : (rows more : ℕ) → IsMarkup (more_text rows more)
unfolding more_text
more_is rows more = chosen (more == 0) [] _ nothing
    (words_are shape.More 56 (row_y rows + 4) (codes "and ") (decimal more) (codes " more"))

meaning_is : (s : Symbol) (x y : ℕ) (text : List ℕ) → IsMarkup (meaning s x y text)
unfolding meaning
meaning_is s x y text =
    joined _ _ (mark_is (shape.Placed s) (at x y)) (words_are shape.Note (x + 16) (y + 4) text [] [])

arrow_meaning_is : (s : Shape) (x y : ℕ) (text : List ℕ) → IsMarkup (arrow_meaning s x y text)
unfolding arrow_meaning
arrow_meaning_is s x y text =
    joined _ _ (mark_is s (between x y (x + 24) y)) (words_are shape.Note (x + 32) (y + 4) text [] [])

count_meaning_is : (x y : ℕ) → IsMarkup (count_meaning x y)
unfolding count_meaning
count_meaning_is x y = joined _ _ (words_are shape.Count x (y + 4) (codes "3") [] [])
    (words_are shape.Note (x + 6) (y + 4) (codes "entries listed") [] [])

first_meanings_are : (y : ℕ) → IsMarkup (first_meanings y)
unfolding first_meanings
first_meanings_are y =
    joined _ _ (meaning_is symbol.Publish 64 y (codes "publish"))
    (joined _ _ (meaning_is symbol.Withdraw 150 y (codes "withdraw"))
    (joined _ _ (meaning_is symbol.Timer 244 y (codes "timer sends"))
    (joined _ _ (meaning_is symbol.Restart 358 y (codes "restart"))
    (meaning_is symbol.Command 444 y (codes "command")))))

other_meanings_are : (y : ℕ) → IsMarkup (other_meanings y)
unfolding other_meanings
other_meanings_are y =
    joined _ _ (meaning_is symbol.Fetch 66 y (codes "came of planned"))
    (joined _ _ (arrow_meaning_is shape.Arrow 202 y (codes "sync or Data"))
    (joined _ _ (arrow_meaning_is shape.DashedArrow 330 y (codes "suppressed")) (count_meaning_is 460 y)))

under_is : (members columns rows width height : ℕ) → IsMarkup (under_rows members columns rows width height)
unfolding under_rows
under_is members columns rows width height = joined definitions _ definitions_are
    (joined _ _ (mark_is shape.Ground (sized width height)) (lifelines_are members columns (row_y rows - 14)))

below_is : (rows more : ℕ) → IsMarkup (below_rows rows more)
unfolding below_rows
below_is rows more = joined (more_text rows more) _ (more_is rows more)
    (joined _ _ (first_meanings_are (rows_end rows more + 16)) (other_meanings_are (rows_end rows more + 40)))

pub page_is : (members columns rows more : ℕ) (heads body : List ℕ) → IsMarkup heads → IsMarkup body
    → IsMarkup (page members columns rows more heads body)
page_is members columns rows more heads body hs bs =
    inside shape.Picture (sized (page_width columns) (rows_end rows more + 60)) _
    (joined (under_rows members columns rows (page_width columns) (rows_end rows more + 60)) _
    (under_is members columns rows (page_width columns) (rows_end rows more + 60))
    (joined heads _ hs (joined body _ bs (below_is rows more))))
