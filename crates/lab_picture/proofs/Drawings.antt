-- The picture of an input is made of elements with escaped text in them.
use Rattle.std.proofs.Common.{◌≡◌, ℕ, Bool, true, false, List, [], ◌∷◌, Option, Some, None, refl, sym, subst}
use Rattle.std.specs.Prelude.{codes, length, nat_lt, if◌then◌else◌}
use Rattle.std.specs.Str.{bytes_eq}
use Rattle.repo_io.specs.Lines.{lines}
use Rattle.group_model.specs.World.{World}
use Rattle.script_lang.specs.declared.verb.Verb.{Verb}
use Rattle.script_lang.specs.declared.verb.Verb.TheVariants as verb
use Rattle.script_lang.specs.Checking.{Declared}
use Rattle.script_story.specs.Evaluation.{RunEnvironment, State, accepted, foreign, refused, not_evaluated}
use Rattle.script_story.specs.Mirrors.{Mirroring}
use Rattle.lab_lines.specs.Folding.{Lined, NextLine, Passed, after_line, after_note, next_line, nothing_passed}
use Rattle.lab_lines.specs.Folding.{ran_from, ran_line, taken_line}
use Rattle.lab_lines.specs.Folding.NextLine.{noted, scripted}
use Rattle.lab_picture.specs.declared.shape.Symbol.{Symbol}
use Rattle.lab_picture.specs.declared.shape.Symbol.TheVariants as symbol
use Rattle.lab_picture.specs.Laws.{IsMarkup}
use Rattle.lab_picture.specs.Laws.IsMarkup.{nothing, joined}
use Rattle.lab_picture.specs.Drawn.{Drawn, marks_of, most_rows, nothing_drawn, with_declared, with_event, with_marks}
use Rattle.lab_picture.specs.Pictures.{draw_form, draw_of, with_state, with_world}
use Rattle.lab_picture.specs.Sights.{column_label, columns_of, counts_of, member_column, mirror_column}
use Rattle.lab_picture.specs.Sights.{command, fetch, publication, printed_verb, sender_column, sight, sight_of}
use Rattle.lab_picture.specs.Words.{word_at}
use Rattle.lab_picture.proofs.Markups.{arrow_is, band_is, changes_are, each_is, head_is, marked_is, page_is, row_is}

if_seen : (b : Bool) (marks : List ℕ) → IsMarkup marks → IsMarkup (if b then marks else [])
if_seen true marks is = is
if_seen false marks is = nothing

publication_is : (s : Symbol) (row : ℕ) (d : Declared) (report : List ℕ) → IsMarkup (publication s row d report)
publication_is s row d report = marked_is s row (member_column d (word_at 1 report)) (word_at 2 report)
    (codes " sync ") (word_at 6 report)

fetch_is : (row : ℕ) (column : Option ℕ) (report : List ℕ) → IsMarkup (fetch row column report)
fetch_is row column report =
    marked_is symbol.Fetch row column (word_at 5 report) (codes " of ") (word_at 3 report)

command_is : (row : ℕ) (d : Declared) (report : List ℕ) → IsMarkup (command row d report)
command_is row d report = marked_is symbol.Command row (member_column d (word_at 1 report)) (word_at 0 report)
    (codes " ") (word_at 2 report)

verb_is : (v : Option Verb) (row : ℕ) (d : Declared) (w : World) (line report : List ℕ)
    → IsMarkup (sight_of v row d w line report)
verb_is None row d w line report = nothing
verb_is (Some verb.Publish) row d w line report = publication_is symbol.Publish row d report
verb_is (Some verb.Withdraw) row d w line report = publication_is symbol.Withdraw row d report
verb_is (Some verb.Fire) row d w line report = if_seen (bytes_eq (word_at 2 report) (codes "sent")) _
    (marked_is symbol.Timer row (member_column d (word_at 1 report)) (codes "sync ") (word_at 3 report) [])
verb_is (Some verb.Deliver) row d w line report = arrow_is (bytes_eq (word_at 3 report) (codes "suppressed")) row
    (sender_column w (word_at 1 report)) (member_column d (word_at 2 report)) (codes "sync ") (word_at 1 report)
verb_is (Some verb.Mdeliver) row d w line report = arrow_is false row (sender_column w (word_at 1 report))
    (mirror_column d (word_at 2 report)) (codes "sync ") (word_at 1 report)
verb_is (Some verb.Answer) row d w line report = if_seen (bytes_eq (word_at 3 report) (codes "kept")) _
    (arrow_is false row (member_column d (word_at 3 line)) (member_column d (word_at 1 report)) (codes "Data") [])
verb_is (Some verb.Fetch) row d w line report = fetch_is row (member_column d (word_at 1 report)) report
verb_is (Some verb.Mfetch) row d w line report = fetch_is row (mirror_column d (word_at 1 report)) report
verb_is (Some verb.Settle) row d w line report = band_is row (columns_of d) (word_at 4 report)
verb_is (Some verb.Restart) row d w line report =
    marked_is symbol.Restart row (member_column d (word_at 1 report)) (codes "restart") [] []
verb_is (Some verb.Delete) row d w line report = command_is row d report
verb_is (Some verb.Block) row d w line report = command_is row d report
verb_is (Some _) row d w line report = nothing

-- The labels and the rows so far are elements with escaped text in them.
record Kept (m : Drawn) : Type 0 where
  heads : IsMarkup m.heads
  body : IsMarkup m.body

row_kept : (b : Bool) (m n o : Drawn) → Kept n → Kept o → Kept (if b then n else o)
row_kept true m n o k l = k
row_kept false m n o k l = l

marks_kept : (m : Drawn) (number : ℕ) (line marks : List ℕ) → IsMarkup marks → Kept m
    → Kept (with_marks m number line marks)
marks_kept m number line [] is k = k
marks_kept m number line (octet ∷ marks) is k = row_kept (nat_lt m.rows most_rows) m _ _
    (record { heads = k.heads; body = joined m.body _ k.body (row_is m.rows m.columns number line (octet ∷ marks) is) })
    (record { heads = k.heads; body = k.body })

event_kept : (m : Drawn) (number : ℕ) (line report : List ℕ) (d : Declared) (w : World) (mirrors : List Mirroring)
    → Kept m → Kept (with_event m number line report d w mirrors)
event_kept m number line report d w mirrors k =
    marks_kept (record m { listed = counts_of d w mirrors }) number line
    (marks_of m line report d w mirrors) (joined (sight m.rows d w line report) _
    (verb_is (printed_verb report) m.rows d w line report)
    (changes_are m.rows m.columns m.listed (counts_of d w mirrors)))
    (record { heads = k.heads; body = k.body })

declared_kept : (m : Drawn) (d : Declared) → Kept m → Kept (with_declared m d)
declared_kept m d k = record {
  heads = each_is (columns_of d) _ (λ (column : ℕ). head_is (length d.members) column (column_label d column));
  body = k.body;
}

world_kept : (m : Drawn) (at : Lined) (s : State) (w : Option World) → Kept m → Kept (with_world m at s w)
world_kept m at s None k = declared_kept m s.declared k
world_kept m at s (Some w) k = event_kept m at.number at.line at.report s.declared w s.mirrors k

state_kept : (m : Drawn) (at : Lined) (s : Option State) → Kept m → Kept (with_state m at s)
state_kept m at None k = k
state_kept m at (Some s) k = world_kept m at s s.world k

-- Nothing is written before the end, and what is kept stays so.
record Goes (env : RunEnvironment) (p : Passed) (m : Drawn) (ls : List (List ℕ)) : Type 0 where
  text : (ran_from draw_form env p m ls).text ≡ []
  form : Kept (ran_from draw_form env p m ls).form

record LineGoes (env : RunEnvironment) (p : Passed) (m : Drawn) (line : List ℕ) (others : List (List ℕ)) (n : NextLine)
    : Type 0 where
  text : (ran_line draw_form (λ next form. ran_from draw_form env next form others) p m line others n).text ≡ []
  form : Kept (ran_line draw_form (λ next form. ran_from draw_form env next form others) p m line others n).form

line_goes : (env : RunEnvironment) (p : Passed) (m : Drawn) (line : List ℕ) (others : List (List ℕ)) (n : NextLine)
    → ((next : Passed) (form : Drawn) → Kept form → Goes env next form others) → Kept m
    → LineGoes env p m line others n
line_goes env p m line others noted go k =
    let g = go (after_note p line) m k in record { text = g.text; form = g.form }
line_goes env p m line others (scripted (accepted report next)) go k =
    let at = taken_line p line report next in
    let g = go (after_line p line report next) (with_state m at (Some next)) (state_kept m at (Some next) k) in
    record { text = g.text; form = g.form }
line_goes env p m line others (scripted (refused why)) go k = record { text = refl; form = k }
line_goes env p m line others (scripted foreign) go k = record { text = refl; form = k }
line_goes env p m line others (scripted not_evaluated) go k = record { text = refl; form = k }

goes : (env : RunEnvironment) (p : Passed) (m : Drawn) (ls : List (List ℕ)) → Kept m → Goes env p m ls
unfolding ran_from
goes env p m [] k = record { text = refl; form = k }
goes env p m (line ∷ others) k =
    let g = line_goes env p m line others (next_line env p line)
    (λ (next : Passed) (form : Drawn) (l : Kept form). goes env next form others l) k in
    record { text = g.text; form = g.form }

pub picture_is_markup : (env : RunEnvironment) (input : List ℕ) → IsMarkup (draw_of env input).text
picture_is_markup env input =
    let g = goes env nothing_passed nothing_drawn (lines input) (record { heads = nothing; body = nothing }) in
    let ran = ran_from draw_form env nothing_passed nothing_drawn (lines input) in
    joined ran.text _ (subst IsMarkup (sym g.text) nothing)
    (page_is ran.form.members ran.form.columns ran.form.rows ran.form.more ran.form.heads ran.form.body
    g.form.heads g.form.body)
