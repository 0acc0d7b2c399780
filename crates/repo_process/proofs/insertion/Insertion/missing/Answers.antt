use Rattle.std.proofs.Common.{◌≡◌, eqb, sym, ap, ◌∙◌}
use Rattle.std.specs.Prelude.{count_by, vec_len}
use Rattle.std.proofs.lemmas.Bool.{eqb-true, eq-eqb}
use Rattle.repo_process.specs.Processes.{missing, is_whole}
use Rattle.repo_process.specs.Fields.{contents_of}
use Rattle.repo_process.proofs.BlockLemmas.{missing_in, missing-vecs}
use Rattle.repo_process.proofs.ProcessLemmas.{missing-counted, whole-counted}
use Rattle.repo_process.proofs.InsideLemmas.{opened}
use Rattle.repo_process.proofs.insertion.Insertion.missing.Goals as goal

pub returns-clause-count : goal.returns-clause-count
returns-clause-count c =
    let m = c.self.inside in
    let o = opened m c.args.self.now c.self.invariant c.self.view_is c.requires in
    c.count_empty.ensures
    ∙ ap (count_by (λ v. eqb (vec_len v) 0)) c.deref.ensures.value
    ∙ sym (missing-vecs m.contents.items)
    ∙ sym (missing-counted m.name m.first m.last (contents_of m) o.long)
    ∙ ap missing (sym o.same)

pub returns-clause-whole : goal.returns-clause-whole
returns-clause-whole c =
    let m = c.self.inside in
    let o = opened m c.args.self.now c.self.invariant c.self.view_is c.requires in
    let count : c.count_empty.result ≡ missing_in (contents_of m) =
    c.count_empty.ensures
    ∙ ap (count_by (λ v. eqb (vec_len v) 0)) c.deref.ensures.value
    ∙ sym (missing-vecs m.contents.items) in
    let whole : is_whole c.args.self.now ≡ eqb (missing_in (contents_of m)) 0 =
    ap is_whole o.same ∙ whole-counted m.name m.first m.last (contents_of m) o.long in (
      λ yes. count ∙ eqb-true (missing_in (contents_of m)) 0 (sym whole ∙ yes),
      λ none. whole ∙ eq-eqb (missing_in (contents_of m)) 0 (sym count ∙ none),
    )
