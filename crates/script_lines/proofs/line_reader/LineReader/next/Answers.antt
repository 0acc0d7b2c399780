use Rattle.std.proofs.Common.{ℕ, List, ◌∙◌, subst, arith}
use Rattle.std.specs.Io.KnownBytes.{Keeps, prepend_known}
use Rattle.std.proofs.KnownBytes.{Keeps-trans}
use Rattle.script_lines.specs.Reading.{LineIsBegun}
use Rattle.script_lines.proofs.Readings.{no_line_begun}
use Rattle.script_lines.proofs.line_reader.LineReader.next.Goals as goal

pub returns-in-Some-clause-unread : goal.returns-in-Some-clause-unread
returns-in-Some-clause-unread g c count has =
    let still = c.loop-count.invariant.unread count has in (c.line.ensures.held ∙ still.0, still.1)

pub returns-in_err-read-clause-unread : goal.returns-in_err-read-clause-unread
returns-in_err-read-clause-unread g c count has =
    let still = c.loop-count.invariant.unread count has in
    absurd (no_line_begun count c.args.self.now has
    (subst LineIsBegun (c.line.ensures.held ∙ still.0) c.in_default.ensures.line))

pub returns-then-branch-eq0-clause-unread : goal.returns-then-branch-eq0-clause-unread
returns-then-branch-eq0-clause-unread g c count has =
    let still = c.loop-count.invariant.unread count has in
    absurd (no_line_begun count c.args.self.now has
    (subst LineIsBegun (c.line.ensures.held ∙ still.0) c.in_default.ensures.line))

pub loop-count-preserved : goal.loop-count-preserved
loop-count-preserved g c =
    let left = g.S.Source.left in
    let held = subst (λ (octets : List ℕ). Keeps (prepend_known octets (left c.loop-count.source))
    (prepend_known c.read.new.self (left c.read.new.source))) c.line.ensures.held c.in_ok-read.ensures.kept in
    record {
      kept = Keeps-trans (prepend_known c.args.self.now (left c.args.source.now))
          (prepend_known c.loop-count.self (left c.loop-count.source))
          (prepend_known c.read.new.self (left c.read.new.source)) c.loop-count.invariant.kept held;
      faults = omega (arith, c.loop-count.invariant.faults, c.in_ok-read.ensures.faults);
      unread = λ count has.
          let still = c.loop-count.invariant.unread count has in
          absurd (no_line_begun count c.args.self.now has
          (subst LineIsBegun (c.line.ensures.held ∙ still.0) c.in_default.ensures.line));
    }
