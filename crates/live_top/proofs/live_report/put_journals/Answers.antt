use Rattle.std.proofs.Common.{◌≡◌, ◌++◌, ◌∙◌, rules, map, string_bytes, length-append, subst, sym}
use Rattle.std.specs.Slice.Iter.{iter_rest}
use Rattle.std.specs.Iterator.Adapters.{zip_first, zip_second}
use Rattle.std.proofs.lemmas.Slice.Zip.{zip_turn, zip_end}
use Rattle.script_report.specs.Pieces.{KeepsPrefix}
use Rattle.script_report.proofs.Prefixes.{keeps_more}
use Rattle.script_report.proofs.Together.{writes_none, writes_more, writes_all}
use Rattle.live_top.specs.Journals.{journal_lines}
use Rattle.live_top.proofs.PrintedMembers.{journals, journal, journals_are_text}
use Rattle.live_top.proofs.live_report.put_journals.Goals as goal

pub loop-own-init : goal.loop-own-init
loop-own-init c =
    writes_none (journals (map string_bytes c.args.labels.now)) c.args.labels.now c.args.rans.now c.args.text.now.items

pub loop-own-preserved : goal.loop-own-preserved
loop-own-preserved c =
    let labels = map string_bytes c.args.labels.now in
    let first : iter_rest (zip_first c.into_iter-own-iterator.result) ≡ c.args.labels.now = search rules in
    let second : iter_rest (zip_second c.into_iter-own-iterator.result) ≡ c.args.rans.now = search rules in
    let turn = zip_turn c.args.labels.now c.args.rans.now c.loop-own.yielded _ _ c.next.new.self c.next.result first
    second c.loop-own.yielded_by (c.in-Some.own, c.in-Some.ran) c.in-Some.is c.next.ensures.steps in
    let more : c.put_entries.new.text.items
    ≡ c.loop-own.text.items ++ journal labels c.in-Some.own.now c.in-Some.ran.now =
    c.in_ok-put_entries.ensures ∙ (λ i. c.loop-own.text.items
    ++ journal_lines labels (c.deref.ensures i) (c.deref-in-loop-own.ensures.value i)) in
    writes_more (journals labels) (journal labels) (journals_are_text labels) _ _ _ _ _ _ _ _ _ turn.0 turn.1
    (turn.2 _) (turn.3 _) (length-append c.loop-own.yielded _) c.loop-own.invariant more
    (subst (KeepsPrefix c.loop-own.text.items) (sym more) (keeps_more c.loop-own.text.items _))

pub returns : goal.returns
returns c =
    let labels = map string_bytes c.args.labels.now in
    let first : iter_rest (zip_first c.into_iter-own-iterator.result) ≡ c.args.labels.now = search rules in
    let second : iter_rest (zip_second c.into_iter-own-iterator.result) ≡ c.args.rans.now = search rules in
    writes_all (journals labels) (journal labels) (journals_are_text labels) _ _ _ _ _
    (zip_end c.args.labels.now c.args.rans.now c.loop-own.yielded _ _ c.next.new.self c.next.result first second
    c.loop-own.yielded_by c.in-None.is c.next.ensures.steps) c.loop-own.invariant
