use Rattle.std.proofs.Common.{◌≡◌, ◌+◌, ◌-◌, ◌<◌, [], length, get_or, sym, ap, ◌∙◌, arith}
use Rattle.std.specs.Prelude.{slice_set}
use Rattle.std.proofs.lemmas.Bool.{eqb-true}
use Rattle.std.proofs.lemmas.List.{length-map}
use Rattle.repo_process.specs.Processes.{with_block}
use Rattle.repo_process.specs.Fields.{contents_of}
use Rattle.repo_process.proofs.ProcessLemmas.{of_contents, with_block-there, with_block-new}
use Rattle.repo_process.proofs.InsideLemmas.{items, opened, placed_is, placed_process, content_at, index_at, nonzero}
use Rattle.repo_process.proofs.insertion.Insertion.keep.Goals as goal

pub returns-then-not-is_empty-clause-ok : goal.returns-then-not-is_empty-clause-ok
returns-then-not-is_empty-clause-ok c =
    let m = c.self.inside in
    let p = c.args.self.now in
    let o = opened m p c.self.invariant c.self.view_is c.requires.open in
    let within = index_at m p c.args.index c.self.view_is o c.requires.index in
    let j = c.args.index - m.first in
    let at : m.first + j ≡ c.args.index = omega (arith, within) in
    let content =
    content_at m j c.index.result.now (omega (arith, within, length-map m.contents.items items)) c.index.ensures in
    let some : 0 < length (get_or (contents_of m) j []) =
    omega (arith, content, nonzero c.index.result.now.len c.if-not-is_empty.ensures) in
    sym (ap (λ n. with_block n c.args.content.now p) (sym at)
    ∙ ap (with_block (m.first + j) c.args.content.now) o.same
    ∙ with_block-there m.name m.first m.last (contents_of m) o.long j c.args.content.now (omega (arith, within)) some
    ∙ sym o.same)

pub invariant_of-self : goal.invariant_of-self
invariant_of-self c =
    let m = c.self.inside in
    let o = opened m c.args.self.now c.self.invariant c.self.view_is c.requires.open in
    placed_is m c.args.self.now (c.args.index - m.first) c.in_ok-self-inside.field-0 c.self.invariant o
    (omega (arith, ap length c.in_ok-self-inside.ensures.items, c.requires.content))

pub returns : goal.returns
returns c =
    let m = c.self.inside in
    let p = c.args.self.now in
    let o = opened m p c.self.invariant c.self.view_is c.requires.open in
    let within = index_at m p c.args.index c.self.view_is o c.requires.index in
    let j = c.args.index - m.first in
    let at : m.first + j ≡ c.args.index = omega (arith, within) in
    let content =
    content_at m j c.index.result.now (omega (arith, within, length-map m.contents.items items)) c.index.ensures in
    let none : length (get_or (contents_of m) j []) ≡ 0 =
    content ∙ eqb-true c.index.result.now.len 0 (sym c.if-not-is_empty.ensures) in
    let kept =
    placed_process m p j c.in_ok-self-inside.field-0 o
    ∙ ap (λ octets. of_contents m.name m.first m.last (slice_set (contents_of m) j octets))
    c.in_ok-self-inside.ensures.items
    ∙ sym (with_block-new m.name m.first m.last (contents_of m) o.long j c.args.content.now c.requires.content.0
    (omega (arith, within)) none)
    ∙ ap (with_block (m.first + j) c.args.content.now) (sym o.same)
    ∙ ap (λ n. with_block n c.args.content.now p) at in
    record { ok = kept; err = tt }
