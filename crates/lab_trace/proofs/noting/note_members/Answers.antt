use Rattle.std.proofs.Common.{List, ap, arith, length}
use Rattle.std.specs.Vec.Iter.{into_iter_items, into_iter_len}
use Rattle.std.proofs.lemmas.List.{length-map}
use Rattle.ndn_name.specs.Names.{Component}
use Rattle.repo_member.specs.Groups.{GroupKeys}
use Rattle.repo_member.specs.InGroup.{in_group}
use Rattle.bench_world.specs.Worlds.{world_of}
use Rattle.script_report.specs.Labels.{label_at}
use Rattle.lab_trace.specs.StateNotes.{member_labels, member_values}
use Rattle.lab_trace.proofs.Noted.{all_written, one_noted}
use Rattle.lab_trace.proofs.noting.note_members.Goals as goal

pub loop-m-preserved : goal.loop-m-preserved
loop-m-preserved c =
    let s = c.args.world.now in
    let labels = member_labels c.args.words.now in
    let within = c.loop-m-test.true in
    let names = c.cite_soundness.ensures.names in
    let count = length-map s.members in_group in
    let roster = c.len-m-end.ensures.len in
    let named = ap (λ (names : List (List Component)). length names) c.roster.ensures.names in
    let group = ap (λ (g : GroupKeys). length g.members.names) c.group.ensures in
    let now = c.loop-m in
    one_noted labels (label_at labels) (member_values (world_of s)) now.m (length (world_of s).members) now.last.items
    (into_iter_items now.noted) (into_iter_len now.noted) now.text.items _ c.next.result
    (into_iter_items c.next.new.self) (into_iter_len c.next.new.self) c.in_ok-member.member _ _ now.invariant
    (omega (arith, within, names, count, roster, named, group)) c.next.ensures.items c.next.ensures.cases
    c.in_ok-member.ensures.kept c.in_ok-push.ensures.items c.in_ok-member.ensures.text

pub returns-clause-text : goal.returns-clause-text
returns-clause-text c =
    let s = c.args.world.now in
    let labels = member_labels c.args.words.now in
    let names = c.cite_soundness.ensures.names in
    let count = length-map s.members in_group in
    let over = c.loop-m-test.false in
    let roster = c.len-m-end.ensures.len in
    let named = ap (λ (names : List (List Component)). length names) c.roster.ensures.names in
    let group = ap (λ (g : GroupKeys). length g.members.names) c.group.ensures in
    let most = c.loop-m.auto.m-end in
    let now = c.loop-m in
    all_written labels (label_at labels) (member_values (world_of s)) now.m (length (world_of s).members)
    now.last.items (into_iter_items now.noted) (into_iter_len now.noted) now.text.items _ now.invariant
    (omega (arith, over, names, count, roster, named, group, most))
