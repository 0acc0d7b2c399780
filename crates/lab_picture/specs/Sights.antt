-- What is to be seen of a line.
use Rattle.std.specs.Prelude.{ℕ, zero, suc, ◌+◌, ◌-◌, false, List, [], ◌∷◌, ◌++◌, codes, length, map, nat_lt}
use Rattle.std.specs.Prelude.{Option, Some, None, option_map, slice_get, unwrap_or, if◌then◌else◌}
use Rattle.std.specs.List.{list_all}
use Rattle.std.specs.Str.{bytes_eq}
use Rattle.script_lang.specs.declared.verb.Verb.{Verb}
use Rattle.script_lang.specs.declared.verb.Verb.TheVariants as verb
use Rattle.script_lang.specs.Checking.{Declared, mirror_place, party_label, party_place}
use Rattle.script_lang.specs.Lines.{is_printable, verb_of_word}
use Rattle.group_model.specs.World.{World, catalogue_at}
use Rattle.bench_world.specs.Showing.{sender_at}
use Rattle.script_story.specs.Mirrors.{Mirroring, mirror_of, mirrored_entries}
use Rattle.lab_picture.specs.declared.shape.Symbol.{Symbol}
use Rattle.lab_picture.specs.declared.shape.Symbol.TheVariants as symbol
use Rattle.lab_picture.specs.Svg.{each}
use Rattle.lab_picture.specs.Page.{head}
use Rattle.lab_picture.specs.Marks.{arrow, band, marked}
use Rattle.lab_picture.specs.Words.{number_of, word_at}

-- ---- columns

-- How many columns there are: one for each member and each mirror.
abbrev pub columns_of : Declared → ℕ
columns_of d = length d.members + length d.mirrors

-- A word that can be printed.
abbrev pub printed : List ℕ → Option (List ℕ)
printed word = if list_all is_printable word then Some word else None

-- The column of the member that a word is the label of, and of the mirror.
abbrev pub member_named : Declared → Option (List ℕ) → Option ℕ
member_named d None = None
member_named d (Some label) = party_place label d.members

abbrev pub member_column : Declared → List ℕ → Option ℕ
member_column d word = member_named d (printed word)

abbrev pub mirror_named : Declared → Option (List ℕ) → Option ℕ
mirror_named d None = None
mirror_named d (Some label) = option_map (λ i. length d.members + i) (mirror_place label d.mirrors)

abbrev pub mirror_column : Declared → List ℕ → Option ℕ
mirror_column d word = mirror_named d (printed word)

-- The column of the member that sent the sync Interest of a number.
abbrev pub sent_by : World → Option ℕ → Option ℕ
sent_by w None = None
sent_by w (Some k) = sender_at w k

abbrev pub sender_column : World → List ℕ → Option ℕ
sender_column w word = sent_by w (number_of word)

-- The label of a column.
abbrev pub column_label : Declared → ℕ → List ℕ
column_label d column =
    if nat_lt column (length d.members) then unwrap_or (slice_get (map party_label d.members) column) []
    else unwrap_or (slice_get d.mirrors (column - length d.members)) []

-- The labels above all columns.
abbrev pub heads_of : Declared → List ℕ
heads_of d = each (columns_of d) (λ column. head (length d.members) column (column_label d column))

-- ---- numbers of entries

-- How many entries a member's catalogue lists, and a mirror's.
abbrev pub member_count : World → ℕ → ℕ
member_count w m = if nat_lt m (length w.members) then length (catalogue_at w m) else 0

abbrev pub mirror_count : World → List Mirroring → ℕ → ℕ
mirror_count w mirrors i =
    if nat_lt i (length mirrors) then length (mirrored_entries w (mirror_of mirrors i)) else 0

-- How many entries the catalogue of a column's member or mirror lists.
abbrev pub count_at : Declared → World → List Mirroring → ℕ → ℕ
count_at d w mirrors column =
    if nat_lt column (length d.members) then member_count w column
    else mirror_count w mirrors (column - length d.members)

-- `number i` for each `i` below the first argument, in order.
unfoldable pub numbers_below : ℕ → (ℕ → ℕ) → List ℕ
numbers_below zero number = []
numbers_below (suc n) number = numbers_below n number ++ number n ∷ []

abbrev pub counts_of : Declared → World → List Mirroring → List ℕ
counts_of d w mirrors = numbers_below (columns_of d) (count_at d w mirrors)

-- ---- what a line did

-- A publication or a withdrawal: its number, and that of its sync Interest.
abbrev pub publication : Symbol → ℕ → Declared → List ℕ → List ℕ
publication s row d report =
    marked s row (member_column d (word_at 1 report)) (word_at 2 report) (codes " sync ") (word_at 6 report)

-- A timer that sends.
abbrev pub timer : ℕ → Declared → List ℕ → List ℕ
timer row d report =
    if bytes_eq (word_at 2 report) (codes "sent")
    then marked symbol.Timer row (member_column d (word_at 1 report)) (codes "sync ") (word_at 3 report) []
    else []

-- A sync Interest that a member hears, which is dashed where the member is suppressed then.
abbrev pub delivery : ℕ → Declared → World → List ℕ → List ℕ
delivery row d w report =
    arrow (bytes_eq (word_at 3 report) (codes "suppressed")) row (sender_column w (word_at 1 report))
    (member_column d (word_at 2 report)) (codes "sync ") (word_at 1 report)

-- A sync Interest that a mirror hears.
abbrev pub mirror_delivery : ℕ → Declared → World → List ℕ → List ℕ
mirror_delivery row d w report =
    arrow false row (sender_column w (word_at 1 report)) (mirror_column d (word_at 2 report))
    (codes "sync ") (word_at 1 report)

-- An arrow for Data that a member stored, from the member that was asked.
abbrev pub answer : ℕ → Declared → List ℕ → List ℕ → List ℕ
answer row d line report =
    if bytes_eq (word_at 3 report) (codes "kept")
    then arrow false row (member_column d (word_at 3 line)) (member_column d (word_at 1 report)) (codes "Data") []
    else []

-- How many parts were fetched of those that were planned.
abbrev pub fetch : ℕ → Option ℕ → List ℕ → List ℕ
fetch row column report =
    marked symbol.Fetch row column (word_at 5 report) (codes " of ") (word_at 3 report)

abbrev pub restart : ℕ → Declared → List ℕ → List ℕ
restart row d report = marked symbol.Restart row (member_column d (word_at 1 report)) (codes "restart") [] []

-- What a client's command was answered.
abbrev pub command : ℕ → Declared → List ℕ → List ℕ
command row d report =
    marked symbol.Command row (member_column d (word_at 1 report)) (word_at 0 report) (codes " ") (word_at 2 report)

abbrev pub sight_of : Option Verb → ℕ → Declared → World → List ℕ → List ℕ → List ℕ
sight_of None row d w line report = []
sight_of (Some verb.Publish) row d w line report = publication symbol.Publish row d report
sight_of (Some verb.Withdraw) row d w line report = publication symbol.Withdraw row d report
sight_of (Some verb.Fire) row d w line report = timer row d report
sight_of (Some verb.Deliver) row d w line report = delivery row d w report
sight_of (Some verb.Mdeliver) row d w line report = mirror_delivery row d w report
sight_of (Some verb.Answer) row d w line report = answer row d line report
sight_of (Some verb.Fetch) row d w line report = fetch row (member_column d (word_at 1 report)) report
sight_of (Some verb.Mfetch) row d w line report = fetch row (mirror_column d (word_at 1 report)) report
sight_of (Some verb.Settle) row d w line report = band row (columns_of d) (word_at 4 report)
sight_of (Some verb.Restart) row d w line report = restart row d report
sight_of (Some verb.Delete) row d w line report = command row d report
sight_of (Some verb.Block) row d w line report = command row d report
sight_of (Some _) row d w line report = []

-- The verb that a report begins with.
abbrev pub verb_named_by : Option (List ℕ) → Option Verb
verb_named_by None = None
verb_named_by (Some word) = verb_of_word word

abbrev pub printed_verb : List ℕ → Option Verb
printed_verb report = verb_named_by (printed (word_at 0 report))

abbrev pub sight : ℕ → Declared → World → List ℕ → List ℕ → List ℕ
sight row d w line report = sight_of (printed_verb report) row d w line report
