use Rattle.std.proofs.Common.{◌++◌, length}
use Rattle.std.specs.Vec.Iter.{into_iter_items, into_iter_len}
use Rattle.bench_world.specs.Worlds.{world_of}
use Rattle.script_report.specs.Labels.{label_at}
use Rattle.lab_trace.specs.Changes.{changes}
use Rattle.lab_trace.specs.StateNotes.{member_labels, member_values, members_values}
use Rattle.lab_trace.specs.Trace.{member_notes}
use Rattle.lab_trace.proofs.Noted.{AreNoted}
use Rattle.lab_trace.proofs.noting.note_members.Given as goal

abbrev pub invariant-loop-m : goal.invariant-loop-m
invariant-loop-m l =
    let w = world_of l.world in
    let labels = member_labels l.words in
    AreNoted labels (label_at labels) (member_values w) l.m (length w.members) l.last.items (into_iter_items l.noted)
    (into_iter_len l.noted) l.text.items
    (l.fn.text.items ++ member_notes l.words (changes l.fn.last.items (members_values w)))
