use Rattle.std.proofs.Common.{ℕ, List, sym, ap, ◌∙◌, take, get_or, arith}
use Rattle.std.proofs.lemmas.List.{take_all, take_more}
use Rattle.repo_plan.specs.Parts.{Pair}
use Rattle.repo_catalog.specs.declared.entry.Entry.{Entry}
use Rattle.repo_catalog.specs.Entries.{EntryList, without, without_all}
use Rattle.repo_catalog.proofs.ManyLemmas.{without_none, without_one_more}
use Rattle.repo_catalog.proofs.catalogue.Catalogue.remove_each.Goals as goal

pub loop-publisher-init : goal.loop-publisher-init
loop-publisher-init c =
    ap (λ (es : List Entry). record c.args.self.now { entries = es }) (sym (without_none c.args.self.now.entries))

pub loop-publisher-preserved : goal.loop-publisher-preserved
loop-publisher-preserved c =
    let pairs : List Pair = c.args.publications.now in
    let i : ℕ = c.loop-publisher.publisher-index in
    let p : Pair = get_or pairs i (0, 0) in
    let es = c.args.self.now.entries in
    c.remove_one.ensures.left
    ∙ ap (λ (l : EntryList). record l { entries = without p l.entries }) c.loop-publisher.invariant
    ∙ ap (λ (xs : List Entry). record c.args.self.now { entries = xs })
    (without_one_more (take i pairs) p es
    ∙ ap (λ (ps : List Pair). without_all ps es) (sym (take_more pairs i (0, 0) c.loop-publisher-test.true)))

pub returns : goal.returns
returns c =
    c.loop-publisher.invariant
    ∙ ap (λ (ps : List Pair). record c.args.self.now { entries = without_all ps c.args.self.now.entries })
    (take_all c.loop-publisher.publisher-index c.args.publications.now (omega (arith, c.loop-publisher-test.false)))
