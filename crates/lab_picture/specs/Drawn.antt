-- What a picture keeps from line to line.
use Rattle.std.specs.Prelude.{ℕ, ◌+◌, List, [], ◌∷◌, ◌++◌, length, nat_lt, if◌then◌else◌}
use Rattle.repo_io.specs.InMemory.{one_more}
use Rattle.script_lang.specs.Checking.{Declared}
use Rattle.group_model.specs.World.{World}
use Rattle.script_story.specs.Mirrors.{Mirroring}
use Rattle.lab_picture.specs.Marks.{changes, row_text}
use Rattle.lab_picture.specs.Page.{page}
use Rattle.lab_picture.specs.Sights.{columns_of, counts_of, heads_of, sight}

-- What is drawn so far: the labels above the columns, how many columns there are and how many of them are members, how
-- many entries each lists, how many rows there are, the text of the rows, and how many more lines have no row. The
-- picture is written at the end, since its height stands at its beginning.
pub record Drawn : Type 0 where
  pub heads : List ℕ
  pub members : ℕ
  pub columns : ℕ
  pub listed : List ℕ
  pub rows : ℕ
  pub more : ℕ
  pub body : List ℕ

abbrev pub nothing_drawn : Drawn
nothing_drawn =
    record { heads = []; members = 0; columns = 0; listed = []; rows = 0; more = 0; body = [] }

abbrev pub most_rows : ℕ
most_rows = 2000

-- What is drawn with one more row, or with one more line that is only counted, where there are `most_rows` already.
abbrev pub with_row : Drawn → ℕ → List ℕ → List ℕ → Drawn
with_row m number line marks =
    if nat_lt m.rows most_rows
    then record m { rows = m.rows + 1; body = m.body ++ row_text m.rows m.columns number line marks }
    else record m { more = one_more m.more }

-- A line has a row where something is to be seen.
abbrev pub with_marks : Drawn → ℕ → List ℕ → List ℕ → Drawn
with_marks m number line [] = m
with_marks m number line (octet ∷ marks) = with_row m number line (octet ∷ marks)

-- The marks of a line: what it did, and the numbers of entries that changed.
abbrev pub marks_of : Drawn → List ℕ → List ℕ → Declared → World → List Mirroring → List ℕ
marks_of m line report d w mirrors =
    sight m.rows d w line report ++ changes m.rows m.columns m.listed (counts_of d w mirrors)

-- What is drawn after a line whose world is `w`.
abbrev pub with_event : Drawn → (number : ℕ) (line report : List ℕ) → Declared → World → List Mirroring → Drawn
with_event m number line report d w mirrors =
    with_marks (record m { listed = counts_of d w mirrors }) number line (marks_of m line report d w mirrors)

-- What is drawn with the members and mirrors of `d`, which are declared before the first event and not after it.
abbrev pub with_declared : Drawn → Declared → Drawn
with_declared m d =
    record m { heads = heads_of d; members = length d.members; columns = columns_of d }

abbrev pub picture : Drawn → List ℕ
picture m = page m.members m.columns m.rows m.more m.heads m.body
