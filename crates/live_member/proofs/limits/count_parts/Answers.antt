use Rattle.std.proofs.Common.{◌≡◌, ◌+◌, ◌<◌, List, map, length, get_or, ap, ◌∙◌, subst, drop, arith}
use Rattle.std.specs.List.{All, sum_by}
use Rattle.std.proofs.lemmas.List.{take_all, at_drop_all}
use Rattle.std.proofs.lemmas.List.Elements.{All-more}
use Rattle.std.proofs.lemmas.List.Sums.{sum_by-drop_more}
use Rattle.repo_object.specs.Objects.{NamedContents, IsObject}
use Rattle.live_member.specs.Meanings.{part_count}
use Rattle.live_member.proofs.WithinLimits.{sum_by_map, parts_are_counted}
use Rattle.live_member.proofs.limits.count_parts.Goals as goal

pub loop-list-preserved : goal.loop-list-preserved
loop-list-preserved c =
    let xs = c.args.lists.now in
    let i = c.loop-list.list-index in
    let x = c.list-item.result in
    let less : i < length xs = c.loop-list-test.true in
    let lent : c.deref.result.now ≡ (get_or xs i x).items =
    c.deref.ensures.value ∙ ap (λ l. l.items) c.list-item.is in
    let one : c.count_in_list-parts.result ≡ sum_by part_count (get_or xs i x).items =
    c.count_in_list-parts.ensures.parts ∙ ap (λ (os : List NamedContents). sum_by part_count os) lent in
    let long : length c.deref.result.now ≡ length (get_or xs i x).items = ap length lent in
    let parts : sum_by (λ l. sum_by part_count l.items) (drop i xs)
    ≡ sum_by part_count (get_or xs i x).items + sum_by (λ l. sum_by part_count l.items) (drop (i + 1) xs) =
    sum_by-drop_more (λ l. sum_by part_count l.items) xs i x less in
    let objects : sum_by (λ l. length l.items) (drop i xs)
    ≡ length (get_or xs i x).items + sum_by (λ l. length l.items) (drop (i + 1) xs) =
    sum_by-drop_more (λ l. length l.items) xs i x less in
    record {
      parts = omega (arith, parts, one, c.loop-list.invariant.parts);
      few = omega (arith, objects, long, c.loop-list.invariant.few, c.count_in_list-parts.ensures.few);
      objects = All-more (λ l. All IsObject l.items) xs i x less c.loop-list.invariant.objects
          (subst (All IsObject) lent c.count_in_list-parts.ensures.objects);
    }

pub returns-clause-parts : goal.returns-clause-parts
returns-clause-parts c =
    let xs = c.args.lists.now in
    let none = at_drop_all (λ ls. sum_by (λ l. sum_by part_count l.items) ls) xs c.loop-list.list-index
    c.loop-list-test.false in
    let lists : List (List NamedContents) = map (λ l. l.items) xs in
    omega (
      arith,
      none,
      c.loop-list.invariant.parts,
      parts_are_counted lists,
      sum_by_map (λ (os : List NamedContents). sum_by part_count os) (λ l. l.items) xs,
    )

pub returns-clause-objects : goal.returns-clause-objects
returns-clause-objects c =
    let xs = c.args.lists.now in
    subst (All (λ l. All IsObject l.items)) (take_all c.loop-list.list-index xs c.loop-list-test.false)
    c.loop-list.invariant.objects
