use Rattle.std.proofs.Common.{sym, subst, Option, ℕ}
use Rattle.std.specs.Option.{MatchOption}
use Rattle.script_lines.specs.Reading.{HasLine, LineIsBegun}
use Rattle.script_lines.proofs.Readings.{line_found, all_free, no_line}
use Rattle.script_lines.proofs.line_reader.find_line.Goals as goal

pub returns-in-Some : goal.returns-in-Some
returns-in-Some c =
    let after = c.split_at.ensures.back in
    let at = c.in-Some.at in
    let place = rw after at c.in-Some.ensures.place in
    let within = rw after at c.in-Some.ensures.within in
    line_found c.args.held.now c.args.searched c.requires.within c.requires.free at within (sym place)

pub returns-in-None : goal.returns-in-None
returns-in-None c =
    let after = c.split_at.ensures.back in
    let place = rw after at c.in-None.ensures.place in
    let free = all_free c.args.held.now c.args.searched c.requires.within c.requires.free (sym place) in
    let Q : Option ℕ → Type 0 = λ r. MatchOption r (LineIsBegun c.args.held.now)
    (λ count. HasLine count c.args.held.now) in
    subst Q (sym c.then_some.ensures) (no_line c.args.held.now free)
