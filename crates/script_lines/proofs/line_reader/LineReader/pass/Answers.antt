use Rattle.std.proofs.Common.{◌≤◌, ◌∙◌, length, drop, ap, sym, subst, List, ℕ}
use Rattle.script_lines.proofs.Readings.{part_after}
use Rattle.script_lines.proofs.line_reader.LineReader.pass.Goals as goal

pub returns : goal.returns
returns c =
    let at = c.self.inside in
    let P : List ℕ → Type 0 = λ held. c.args.count ≤ length held in
    part_after at.room.items at.start at.end c.args.count (subst P (sym c.self.view_is) c.requires)
    ∙ ap (λ (t : List ℕ). drop c.args.count t) c.self.view_is
