use Rattle.std.proofs.Common.{arith}
use Rattle.std.proofs.lemmas.List.{length-map}
use Rattle.script_lang.specs.Checking.{party_label}
use Rattle.lab_trace.specs.StateNotes.{member_labels}
use Rattle.lab_trace.proofs.Vectors.{known_end, known_more}
use Rattle.lab_trace.proofs.note.put_knows.Goals as goal

pub loop-member-preserved : goal.loop-member-preserved
loop-member-preserved c =
    let within = c.loop-member-test.true in
    let least = c.min-count.ensures in
    let numbers = c.members-2.ensures.len in
    known_more (member_labels c.args.words.now) c.args.vector.now c.loop-member.member c.label.result.now c.get.result
    _ _ _ c.label.ensures (omega (arith, within, least, numbers)) c.get.ensures c.loop-member.invariant
    c.in_ok-put_known.ensures

pub returns : goal.returns
returns c =
    let over = c.loop-member-test.false in
    let least = c.min-count.ensures in
    let labels = c.members.ensures.len in
    let same = length-map c.args.words.now.members party_label in
    let numbers = c.members-2.ensures.len in
    known_end (member_labels c.args.words.now) c.args.vector.now c.loop-member.member _ _
    (omega (arith, over, least, labels, same, numbers)) c.loop-member.invariant
