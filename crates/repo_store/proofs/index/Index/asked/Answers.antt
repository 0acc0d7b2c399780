use Rattle.std.proofs.Common.{take, subst, sym, ap, ◌∙◌, rules}
use Rattle.std.proofs.lemmas.List.{drop-take}
use Rattle.std.proofs.lemmas.List.Sorted.{IsPartitionPoint-from_clause}
use Rattle.repo_store.specs.Indexes.{AreMatches}
use Rattle.repo_store.proofs.IndexLemmas.{IsFrom, from_place}
use Rattle.repo_store.proofs.AskedLemmas.{test, asked_parted, asked_found}
use Rattle.repo_store.proofs.index.Index.asked.Goals as goal

pub returns-clause-asked : goal.returns-clause-asked
returns-clause-asked c =
    let slots = c.args.self.now.kept.now.slots in
    let held = c.args.self.now.held.now in
    let asked = c.args.asked.now in
    let p = c.args.can_be_prefix in
    let start = c.place-start.result in
    let rest = c.split_at.result.1.now in
    let end = c.partition_point-end.result in
    let from =
    subst (IsFrom slots held asked) (sym c.split_at.ensures.back)
    (from_place slots held asked start c.requires c.place-start.ensures) in
    let point =
    IsPartitionPoint-from_clause (test slots held asked p) rest end c.partition_point-end.ensures.partitioned
    (asked_parted slots held asked p rest from) (λ a r f called. search rules) in
    subst (AreMatches slots held asked p) (ap (take end) c.split_at.ensures.back ∙ sym (drop-take start end held))
    (asked_found slots held asked p rest from end c.partition_point-end.ensures.bound point)
