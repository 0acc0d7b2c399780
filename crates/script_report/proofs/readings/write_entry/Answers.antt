use Rattle.script_report.proofs.readings.write_entry.Goals as goal

pub returns-clause-ok : goal.returns-clause-ok
returns-clause-ok c = rw (c.from.ensures, c.from-2.ensures) at c.write_line.ensures.ok
