use Rattle.std.proofs.Common.{◌≡◌, map, take}
use Rattle.std.specs.Prelude.{string_bytes}
use Rattle.script_report.specs.Labels.{publisher_label}
use Rattle.script_report.proofs.labels.publisher_labels.Given as goal

abbrev pub invariant-loop-entry : goal.invariant-loop-entry
invariant-loop-entry l =
    map string_bytes l.named.items ≡ map (publisher_label (map string_bytes l.labels)) (take l.entry-index l.entries)
