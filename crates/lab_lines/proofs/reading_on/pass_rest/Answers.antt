use Rattle.std.proofs.Common.{◌∙◌, ◌+◌, sym, ap, subst, List, ℕ, Bool, Ok, length, arith}
use Rattle.std.proofs.lemmas.Bool.{leb-false}
use Rattle.lab_lines.specs.Carrying.{IsPiece, RestIsPassed}
use Rattle.lab_text.specs.Limits.{most_octets}
use Rattle.lab_lines.specs.Written.{Known}
use Rattle.lab_lines.proofs.Rests.{Passing, known_over, known_part, known_passed, known_passing}
use Rattle.lab_lines.proofs.reading_on.pass_rest.Goals as goal

pub returns-then-ended-clause-passed : goal.returns-then-ended-clause-passed
returns-then-ended-clause-passed g c =
    let old = c.args.totals.now in
    let t = c.loop-reader.totals in
    let entry = c.args.reader.now in
    let left = c.next_piece.new.reader in
    let before = g.S.Source.left c.args.source.now in
    let now = g.S.Source.left c.next_piece.new.source in
    let count = c.in_ok-count.count in
    let h = known_passing old t entry c.loop-reader.reader left before (g.S.Source.left c.loop-reader.source) now
    c.in_ok-count.ensures.kept c.loop-reader.invariant.passing in
    let P : Bool → Type 0 = λ ended. IsPiece left now count ended in
    let piece = subst P c.if-ended.true c.in_ok-count.ensures.piece in
    let more : List ℕ → ℕ = λ x. t.octets + length x in
    let octets = c.count_more.ensures.octets ∙ ap more c.prefix.ensures in
    let Q : List ℕ → Type 0 = λ x. Known before now (RestIsPassed old c.count_more.new.self entry x (Ok (tt {0}))) in
    subst Q (sym c.pass.ensures)
    (known_passed old t entry left c.count_more.new.self count octets c.count_more.ensures.lines before now piece h)

pub loop-reader-preserved : goal.loop-reader-preserved
loop-reader-preserved g c =
    let old = c.args.totals.now in
    let t = c.loop-reader.totals in
    let entry = c.args.reader.now in
    let left = c.next_piece.new.reader in
    let before = g.S.Source.left c.args.source.now in
    let now = g.S.Source.left c.next_piece.new.source in
    let count = c.in_ok-count.count in
    let h = known_passing old t entry c.loop-reader.reader left before (g.S.Source.left c.loop-reader.source) now
    c.in_ok-count.ensures.kept c.loop-reader.invariant.passing in
    let P : Bool → Type 0 = λ ended. IsPiece left now count ended in
    let piece = subst P c.if-ended.false c.in_ok-count.ensures.piece in
    let more : List ℕ → ℕ = λ x. t.octets + length x in
    let octets = c.count_more.ensures.octets ∙ ap more c.prefix.ensures in
    let Q : List ℕ → Type 0 = λ x. Known before now (Passing old c.count_more.new.self entry x) in
    record {
      passing = subst Q (sym c.pass.ensures)
          (known_part old t entry left c.count_more.new.self count octets c.count_more.ensures.lines before now piece
          h);
      source = omega (arith, c.loop-reader.invariant.source, c.in_ok-count.ensures.faults);
    }

pub returns-clause-passed : goal.returns-clause-passed
returns-clause-passed g c =
    known_over c.args.totals.now c.loop-reader.totals c.args.reader.now c.loop-reader.reader
    (g.S.Source.left c.args.source.now) (g.S.Source.left c.loop-reader.source)
    (leb-false c.loop-reader.totals.octets most_octets (sym c.is_open.ensures ∙ c.loop-reader-test.false))
    c.loop-reader.invariant.passing
