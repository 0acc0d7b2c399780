use Rattle.std.proofs.Common.{◌≡◌, List, Option, Some, None, not, subst, sym, ap, ◌∙◌}
use Rattle.std.proofs.lemmas.Bool.{not-true}
use Rattle.sorted_lists.specs.SortedList.{Rises, keys, first_from}
use Rattle.repo_plan.specs.Parts.{part_cmp, part_of}
use Rattle.repo_plan.specs.Plan.{is_in}
use Rattle.repo_plan.proofs.Changes.{pair_test}
use Rattle.repo_store.specs.PacketTable.{Stored, PacketTableState}
use Rattle.repo_store.proofs.DropLemmas.{few_none, few_other}
use Rattle.repo_store.proofs.packet_table.PacketTable.has_few.Goals as goal

pub returns-in-Some : goal.returns-in-Some
returns-in-Some c is h i inside =
    let x : Stored = (c.in-Some.part, c.in-Some.field-0-1) in
    let held = ap (λ (k : PacketTableState). k.held) c.self.view_is in
    let test = c.ne.ensures ∙ ap not (pair_test (c.in-Some.part.publisher, c.in-Some.part.seq) c.args.pair) in
    few_other c.args.pair c.args.self.now.held x
    (subst (λ (es : List Stored). Rises part_cmp (keys es)) held c.self.invariant.in_order)
    (subst (λ (es : List Stored). first_from part_cmp (part_of c.args.pair 4) es ≡ Some x) held
    (sym c.in-Some.ensures.found))
    (not-true (is_in c.args.pair c.in-Some.part) (sym test ∙ is)) h i inside

pub returns-in-None : goal.returns-in-None
returns-in-None c is h i inside =
    let held = ap (λ (k : PacketTableState). k.held) c.self.view_is in
    let none : Option Stored = None in
    few_none c.args.pair c.args.self.now.held
    (subst (λ (es : List Stored). first_from part_cmp (part_of c.args.pair 4) es ≡ none) held
    (sym c.in-None.ensures.found)) h i inside
