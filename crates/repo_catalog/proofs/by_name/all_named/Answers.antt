use Rattle.std.proofs.Common.{◌≡◌, ◌+◌, ◌++◌, ◌∷◌, [], List, map, length, Some, None, sym, ap, ◌∙◌, arith}
use Rattle.std.specs.List.{filter}
use Rattle.std.proofs.lemmas.List.{append-nil, append_assoc}
use Rattle.repo_plan.specs.Parts.{Pair}
use Rattle.repo_catalog.specs.Entries.{publication_of, all_named}
use Rattle.repo_catalog.specs.NameKeys.{has_name}
use Rattle.repo_catalog.proofs.AllNamedLemmas.{all_of_both, first_is_found}
use Rattle.repo_catalog.proofs.NamedLemmas.{left, filter_all_from, named_step, named_end}
use Rattle.repo_catalog.proofs.SoughtLemmas.{indexed_of, indexed_rise}
use Rattle.repo_catalog.proofs.by_name.all_named.Goals as goal

pub loop-publisher-smaller : goal.loop-publisher-smaller
loop-publisher-smaller c =
    let name = c.args.name.now in
    let es = c.args.entries.now in
    let ks = c.args.names.now.keys in
    let r = c.requires.in_order in
    let from : Pair = c.loop-publisher.from in
    let p : Pair = (c.in-Some.publisher, c.in-Some.seq) in
    let step =
    named_step name (indexed_of ks es) from p c.from.result (indexed_rise ks es r) c.from.ensures
    (first_is_found name from es r ks (Some p) c.in-Some.ensures) in
    omega (arith, ap length step)

pub loop-publisher-preserved : goal.loop-publisher-preserved
loop-publisher-preserved c =
    let name = c.args.name.now in
    let es = c.args.entries.now in
    let ks = c.args.names.now.keys in
    let r = c.requires.in_order in
    let from : Pair = c.loop-publisher.from in
    let p : Pair = (c.in-Some.publisher, c.in-Some.seq) in
    let done = c.loop-publisher.pairs.items in
    let rest = left name (indexed_of ks es) (p.0, c.from.result + 1) in
    let step : left name (indexed_of ks es) from ≡ p ∷ rest =
    named_step name (indexed_of ks es) from p c.from.result (indexed_rise ks es r) c.from.ensures
    (first_is_found name from es r ks (Some p) c.in-Some.ensures) in
    ap (λ (ps : List Pair). ps ++ rest) c.in_ok-push.ensures.items
    ∙ append_assoc done (p ∷ []) rest
    ∙ ap (λ (ps : List Pair). done ++ ps) (sym step)
    ∙ c.loop-publisher.invariant

pub returns : goal.returns
returns c =
    let name = c.args.name.now in
    let es = c.args.entries.now in
    let ks = c.args.names.now.keys in
    let ws = c.args.names.now.waiting in
    let r = c.requires.in_order in
    let from : Pair = c.loop-publisher.from in
    let done = c.loop-publisher.pairs.items in
    let waits = filter (has_name name es) ws in
    let end : left name (indexed_of ks es) from ≡ [] =
    named_end name (indexed_of ks es) from (first_is_found name from es r ks None c.in_default.ensures) in
    let collected : done ≡ waits ++ all_named name (indexed_of ks es) =
    sym (append-nil done)
    ∙ ap (λ (ps : List Pair). done ++ ps) (sym end)
    ∙ c.loop-publisher.invariant
    ∙ ap (λ (ps : List Pair). waits ++ ps) (ap (map publication_of) (filter_all_from name (indexed_of ks es))) in
    all_of_both name es r ks ws c.requires.indexed done c.sort_unstable.new.self.items c.dedup.new.self.items collected
    c.sort_unstable.ensures.permutation c.sort_unstable.ensures.sorted c.dedup.ensures.filtered
