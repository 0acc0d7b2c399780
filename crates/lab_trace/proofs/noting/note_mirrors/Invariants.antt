use Rattle.std.proofs.Common.{◌++◌, length, map}
use Rattle.std.specs.Vec.Iter.{into_iter_items, into_iter_len}
use Rattle.bench_world.specs.Worlds.{world_of}
use Rattle.script_report.specs.Labels.{label_at}
use Rattle.script_story.specs.Mirrors.{mirror_as}
use Rattle.lab_trace.specs.Changes.{changes}
use Rattle.lab_trace.specs.StateNotes.{member_labels, mirror_values, mirrors_values}
use Rattle.lab_trace.specs.Trace.{mirror_notes}
use Rattle.lab_trace.proofs.Noted.{AreNoted}
use Rattle.lab_trace.proofs.noting.note_mirrors.Given as goal

abbrev pub invariant-loop-i : goal.invariant-loop-i
invariant-loop-i l =
    let w = world_of l.world in
    let mirrors = map mirror_as l.world.mirrors in
    AreNoted (member_labels l.words) (label_at l.words.mirrors) (mirror_values w mirrors) l.i (length mirrors)
    l.last.items (into_iter_items l.noted) (into_iter_len l.noted) l.text.items
    (l.fn.text.items ++ mirror_notes l.words (changes l.fn.last.items (mirrors_values mirrors w)))
