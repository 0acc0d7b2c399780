use Rattle.std.proofs.Common.{◌≡◌, not, Some, List, subst, sym, ap, ◌∙◌}
use Rattle.std.proofs.lemmas.Bool.{not-true, not-false}
use Rattle.sorted_lists.specs.SortedList.{Rises, keys, first_from}
use Rattle.sorted_lists.proofs.Sets.{In}
use Rattle.repo_plan.specs.Parts.{part_cmp}
use Rattle.repo_plan.specs.Plan.{is_in}
use Rattle.repo_plan.proofs.Orders.{exact_parts}
use Rattle.repo_plan.proofs.Changes.{pair_test}
use Rattle.repo_store.specs.PacketTable.{Stored, PacketTableState}
use Rattle.sorted_lists.proofs.RunOrder.{first_is}
use Rattle.repo_store.proofs.DropLemmas.{first_of, dropping_none, dropped_none, dropped_other, dropping_more}
use Rattle.repo_store.proofs.DropLemmas.{fewer_held}
use Rattle.repo_store.proofs.packet_table.PacketTable.drop_pair.Goals as goal

pub loop-part-init : goal.loop-part-init
loop-part-init c = dropping_none c.args.pair c.args.self.now

pub returns-then-ne-clause-held : goal.returns-then-ne-clause-held
returns-then-ne-clause-held c =
    let x : Stored = (c.in-Some.part, c.in-Some.slot) in
    let held = ap (λ (k : PacketTableState). k.held) c.self.view_is in
    let test = c.ne.ensures ∙ ap not (pair_test (c.in-Some.part.publisher, c.in-Some.part.seq) c.args.pair) in
    dropped_other c.args.pair c.args.self.now c.loop-part.self c.loop-part.invariant x
    (subst (λ (es : List Stored). Rises part_cmp (keys es)) held c.self.invariant.in_order)
    (subst (λ (es : List Stored). first_from part_cmp (first_of c.args.pair) es ≡ Some x) held
    (sym c.in-Some.ensures.found))
    (not-true (is_in c.args.pair c.in-Some.part) (sym test ∙ c.if-ne.true))

pub drop_part-requires : goal.drop_part-requires
drop_part-requires c =
    let x : Stored = (c.in-Some.part, c.in-Some.slot) in
    let k = c.self.inside in
    subst (λ (s : PacketTableState). In x s.held) c.self.view_is
    (first_is exact_parts (first_of c.args.pair) k.parts.entries c.self.invariant.in_order x
    (sym c.in-Some.ensures.found)).is_in

pub loop-part-smaller : goal.loop-part-smaller
loop-part-smaller c =
    let x : Stored = (c.in-Some.part, c.in-Some.slot) in
    let k = c.self.inside in
    let held = ap (λ (s : PacketTableState). s.held) c.self.view_is in
    fewer_held c.args.pair c.args.self.now c.loop-part.self c.loop-part.invariant c.drop_part.new.self x
    (subst (λ (es : List Stored). Rises part_cmp (keys es)) held c.self.invariant.in_order)
    (subst (In x) held (first_is exact_parts (first_of c.args.pair) k.parts.entries c.self.invariant.in_order x
    (sym c.in-Some.ensures.found)).is_in) c.drop_part.ensures.held

pub loop-part-preserved : goal.loop-part-preserved
loop-part-preserved c =
    let x : Stored = (c.in-Some.part, c.in-Some.slot) in
    let held = ap (λ (s : PacketTableState). s.held) c.self.view_is in
    let test = c.ne.ensures ∙ ap not (pair_test (c.in-Some.part.publisher, c.in-Some.part.seq) c.args.pair) in
    dropping_more c.args.pair c.args.self.now c.loop-part.self c.drop_part.new.self x
    (not-false (is_in c.args.pair c.in-Some.part) (sym test ∙ c.if-ne.false)) c.drop_part.ensures.number
    (subst (λ (es : List Stored). Rises part_cmp (keys es)) held c.self.invariant.in_order)
    (subst (λ (es : List Stored). first_from part_cmp (first_of c.args.pair) es ≡ Some x) held
    (sym c.in-Some.ensures.found)) c.drop_part.ensures.held c.drop_part.ensures.same c.drop_part.ensures.spare
    c.loop-part.invariant

pub returns-clause-held : goal.returns-clause-held
returns-clause-held c =
    let held = ap (λ (s : PacketTableState). s.held) c.self.view_is in
    dropped_none c.args.pair c.args.self.now c.loop-part.self c.loop-part.invariant
    (subst (λ (es : List Stored). first_from part_cmp (first_of c.args.pair) es ≡ _) held
    (sym c.in_default.ensures.found))
