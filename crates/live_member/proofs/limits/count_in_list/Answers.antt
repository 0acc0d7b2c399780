use Rattle.std.proofs.Common.{◌≡◌, ◌+◌, ◌<◌, length, get_or, ap, ◌∙◌, subst, drop, arith}
use Rattle.std.specs.List.{All, sum_by}
use Rattle.std.proofs.lemmas.List.{take_all}
use Rattle.std.proofs.lemmas.List.Elements.{All-more}
use Rattle.std.proofs.lemmas.List.Sums.{sum_by-drop_more}
use Rattle.repo_object.specs.Objects.{IsObject}
use Rattle.live_member.specs.Meanings.{part_count}
use Rattle.live_member.proofs.limits.count_in_list.Goals as goal

pub loop-object-preserved : goal.loop-object-preserved
loop-object-preserved c =
    let xs = c.args.list.now in
    let i = c.loop-object.object-index in
    let x = c.object-item.result in
    let less : i < length xs = c.loop-object-test.true in
    let step : sum_by part_count (drop i xs) ≡ part_count (get_or xs i x) + sum_by part_count (drop (i + 1) xs) =
    sum_by-drop_more part_count xs i x less in
    let one : c.part_count-parts.result ≡ part_count (get_or xs i x) =
    c.part_count-parts.ensures.parts ∙ ap part_count c.object-item.is in
    record {
      parts = omega (arith, step, one, c.loop-object.invariant.parts);
      few = omega (arith, c.loop-object.invariant.few, c.part_count-parts.ensures.few);
      objects = All-more IsObject xs i x less c.loop-object.invariant.objects
          (subst IsObject c.object-item.is c.part_count-parts.ensures.object);
    }

pub returns-clause-objects : goal.returns-clause-objects
returns-clause-objects c =
    let xs = c.args.list.now in
    let i = c.loop-object.object-index in
    subst (All IsObject) (take_all i xs c.loop-object-test.false) c.loop-object.invariant.objects
