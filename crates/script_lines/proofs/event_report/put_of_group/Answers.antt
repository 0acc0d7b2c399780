use Rattle.std.proofs.Common.{map, length, sym}
use Rattle.std.specs.Prelude.{string_bytes}
use Rattle.std.proofs.lemmas.List.{length-map}
use Rattle.script_lines.proofs.Labels.{labels_of_all}
use Rattle.script_lines.proofs.event_report.put_of_group.Goals as goal

pub returns-in-Vector : goal.returns-in-Vector
returns-in-Vector c =
    let env = c.args.labels.now in
    let all = rw c.in-Vector.is at c.requires.all in
    let named =
    labels_of_all (map string_bytes env) (length env) c.in-Vector.members.items
    (sym (length-map env string_bytes)) all.0 in
    rw (c.in-Vector.is, named, ← c.label.ensures, ← c.deref.ensures.value) c.put_vector.ensures

pub returns-in-Summary : goal.returns-in-Summary
returns-in-Summary c =
    let env = c.args.labels.now in
    let all = rw c.in-Summary.is at c.requires.all in
    let named =
    labels_of_all (map string_bytes env) (length env) c.in-Summary.members.items
    (sym (length-map env string_bytes)) all.0 in
    rw (
      c.in-Summary.is,
      named,
      ← c.deref-in-Summary.ensures.value,
      ← c.deref-in-Summary-2.ensures.value,
      ← c.deref-in-Summary-3.ensures.value,
    ) c.put_summary.ensures
