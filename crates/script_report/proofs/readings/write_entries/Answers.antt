use Rattle.std.proofs.Common.{◌≡◌, rules, length-append}
use Rattle.std.specs.Slice.Iter.{iter_rest}
use Rattle.std.specs.Iterator.Adapters.{zip_first, zip_second}
use Rattle.std.proofs.lemmas.Slice.Zip.{zip_turn, zip_end}
use Rattle.script_report.proofs.Prefixes.{keeps_then}
use Rattle.script_report.proofs.Together.{writes_none, writes_more, writes_all, entries, entry, entries_are_text}
use Rattle.script_report.proofs.readings.write_entries.Goals as goal

pub loop-label-init : goal.loop-label-init
loop-label-init c = writes_none entries c.args.labels.now c.args.entries.now c.args.out.now.items

pub returns-in_err-write_entry-clause-kept : goal.returns-in_err-write_entry-clause-kept
returns-in_err-write_entry-clause-kept c = keeps_then _ _ _ c.loop-label.invariant.kept c.write_entry.ensures.kept

pub loop-label-preserved : goal.loop-label-preserved
loop-label-preserved c =
    let first : iter_rest (zip_first c.into_iter-label-iterator.result) ≡ c.args.labels.now = search rules in
    let second : iter_rest (zip_second c.into_iter-label-iterator.result) ≡ c.args.entries.now = search rules in
    let turn = zip_turn c.args.labels.now c.args.entries.now c.loop-label.yielded _ _ c.next.new.self c.next.result
    first second c.loop-label.yielded_by (c.in-Some.label, c.in-Some.entry) c.in-Some.is c.next.ensures.steps in
    writes_more entries entry entries_are_text _ _ _ _ _ _ _ _ _ turn.0 turn.1 (turn.2 _) (turn.3 _)
    (length-append c.loop-label.yielded _) c.loop-label.invariant
    (rw c.deref.ensures at c.in_ok-write_entry.ensures.ok) c.write_entry.ensures.kept

pub returns-clause-ok : goal.returns-clause-ok
returns-clause-ok c =
    let first : iter_rest (zip_first c.into_iter-label-iterator.result) ≡ c.args.labels.now = search rules in
    let second : iter_rest (zip_second c.into_iter-label-iterator.result) ≡ c.args.entries.now = search rules in
    writes_all entries entry entries_are_text _ _ _ _ _
    (zip_end c.args.labels.now c.args.entries.now c.loop-label.yielded _ _ c.next.new.self c.next.result first
    second c.loop-label.yielded_by c.in-None.is c.next.ensures.steps) c.loop-label.invariant

pub returns-clause-kept : goal.returns-clause-kept
returns-clause-kept c = c.loop-label.invariant.kept
