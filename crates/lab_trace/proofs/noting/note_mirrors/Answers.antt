use Rattle.std.proofs.Common.{arith, length, map}
use Rattle.std.specs.Vec.Iter.{into_iter_items, into_iter_len}
use Rattle.std.proofs.lemmas.List.{length-map}
use Rattle.bench_world.specs.Worlds.{world_of}
use Rattle.script_report.specs.Labels.{label_at}
use Rattle.script_story.specs.Mirrors.{mirror_as}
use Rattle.lab_trace.specs.StateNotes.{member_labels, mirror_values}
use Rattle.lab_trace.proofs.Noted.{all_written, one_noted}
use Rattle.lab_trace.proofs.noting.note_mirrors.Goals as goal

pub loop-i-preserved : goal.loop-i-preserved
loop-i-preserved c =
    let s = c.args.world.now in
    let mirrors = map mirror_as s.mirrors in
    let within = c.loop-i-test.true in
    let count = length-map s.mirrors mirror_as in
    let few = c.mirrors-i-end.ensures.len in
    let now = c.loop-i in
    one_noted (member_labels c.args.words.now) (label_at c.args.words.now.mirrors) (mirror_values (world_of s) mirrors)
    now.i (length mirrors) now.last.items (into_iter_items now.noted) (into_iter_len now.noted) now.text.items _
    c.next.result (into_iter_items c.next.new.self) (into_iter_len c.next.new.self) c.in_ok-mirror.mirror _ _
    now.invariant (omega (arith, within, count, few)) c.next.ensures.items c.next.ensures.cases
    c.in_ok-mirror.ensures.kept c.in_ok-push.ensures.items c.in_ok-mirror.ensures.text

pub returns-clause-text : goal.returns-clause-text
returns-clause-text c =
    let s = c.args.world.now in
    let mirrors = map mirror_as s.mirrors in
    let count = length-map s.mirrors mirror_as in
    let over = c.loop-i-test.false in
    let few = c.mirrors-i-end.ensures.len in
    let most = c.loop-i.auto.i-end in
    let now = c.loop-i in
    all_written (member_labels c.args.words.now) (label_at c.args.words.now.mirrors)
    (mirror_values (world_of s) mirrors) now.i (length mirrors) now.last.items (into_iter_items now.noted)
    (into_iter_len now.noted) now.text.items _ now.invariant (omega (arith, over, count, few, most))
