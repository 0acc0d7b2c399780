use Rattle.std.proofs.Common.{◌∙◌, sym, ap, ◌++◌, append-nil}
use Rattle.script_report.proofs.Prefixes.{keeps_then}
use Rattle.script_report.proofs.Together.{one_more, totals_more, totals_end}
use Rattle.script_report.proofs.readings.write_summary.Goals as goal

pub returns-in_err-write_totals-clause-kept : goal.returns-in_err-write_totals-clause-kept
returns-in_err-write_totals-clause-kept c = keeps_then _ _ _ c.loop-i.invariant.kept c.write_totals.ensures.kept

pub loop-i-preserved : goal.loop-i-preserved
loop-i-preserved c = record {
  written =
      one_more _ _ _ _ _ _ c.loop-i.invariant.written (totals_more c.args.labels.now c.args.entries.now
      c.args.segments.now c.args.octets.now c.loop-i.i c.index-labels-i.result c.loop-i-test.true
      c.requires.entries c.requires.segments c.requires.octets c.index-labels-i.is)
      (rw c.deref.ensures at c.in_ok-write_totals.ensures.ok);
  kept = keeps_then _ _ _ c.loop-i.invariant.kept c.write_totals.ensures.kept;
}

pub returns-clause-ok : goal.returns-clause-ok
returns-clause-ok c =
    sym (append-nil c.loop-i.out.items)
    ∙ ap (λ s. c.loop-i.out.items ++ s) (sym (totals_end c.args.labels.now c.args.entries.now c.args.segments.now
    c.args.octets.now c.loop-i.i c.loop-i-test.false))
    ∙ c.loop-i.invariant.written
