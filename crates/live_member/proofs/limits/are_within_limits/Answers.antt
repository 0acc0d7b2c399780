use Rattle.std.proofs.Common.{◌≡◌, ◌≤◌, List, map, length, ap, ◌∙◌, arith}
use Rattle.std.specs.List.{All, sum_by}
use Rattle.std.proofs.lemmas.Bool.{leb-true, le-leb}
use Rattle.std.proofs.lemmas.List.{length-map}
use Rattle.std.proofs.lemmas.List.Elements.{All-map}
use Rattle.repo_object.specs.Objects.{NamedContents, IsObject}
use Rattle.live_member.proofs.WithinLimits.{within}
use Rattle.live_member.proofs.limits.are_within_limits.Goals as goal

pub returns : goal.returns
returns c =
    let xs = c.args.lists.now in
    let g = c.args.g.now in
    let lists : List (List NamedContents) = map (λ l. l.items) xs in
    let width : length lists ≡ length g.members.names =
    length-map xs (λ l. l.items) ∙ c.if-lists-len.false ∙ c.len.ensures.len ∙ ap length c.roster.ensures.names in
    let few : sum_by length lists ≤ 200 = c.are_few.ensures.0 c.if-not-are_few.false in
    λ draws. (
      λ yes. within g lists draws c.cite_soundness.ensures width
          (All-map (λ (os : List NamedContents). All IsObject os) (λ l. l.items) xs c.count_parts.ensures.objects)
          few
          (let most = leb-true c.count_parts.result 4000 yes in omega (arith, most, c.count_parts.ensures.parts)),
      λ those. le-leb c.count_parts.result 4000 (omega (arith, those.parts, c.count_parts.ensures.parts)),
    )
