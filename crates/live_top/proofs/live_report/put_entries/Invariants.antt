use Rattle.std.proofs.Common.{◌≡◌, ◌++◌, map, string_bytes, length, take}
use Rattle.std.specs.List.{flat_map}
use Rattle.script_report.specs.Texts.{journal_text}
use Rattle.live_top.specs.Journals.{entry_line}
use Rattle.live_top.proofs.live_report.put_entries.Given as goal

abbrev pub invariant-loop-entry : goal.invariant-loop-entry
invariant-loop-entry l =
    l.text.items ≡ (l.fn.text.items ++ journal_text l.own (length l.entries))
    ++ flat_map (entry_line (map string_bytes l.labels)) (take l.entry-index l.entries)
