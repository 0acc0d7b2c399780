use Rattle.std.proofs.Common.{map, List, ℕ, ap, subst, sym, ◌∙◌, arith}
use Rattle.std.specs.List.{All}
use Rattle.std.proofs.lemmas.List.{take_all}
use Rattle.std.proofs.lemmas.List.Elements.{All-map}
use Rattle.repo_object.specs.Objects.{IsContent}
use Rattle.repo_object.proofs.Packing.{items, are_contents}
use Rattle.repo_object.proofs.object.Object.new.Goals as goal

pub from_parts-requires-clause-contents : goal.from_parts-requires-clause-contents
from_parts-requires-clause-contents c =
    let contents = c.args.contents.now in
    let made =
    c.loop-content.invariant ∙ ap (map items) (take_all c.loop-content.content-index contents (omega arith)) in
    let P : List (List ℕ) → Type 0 = All IsContent in
    are_contents c.loop-content.copies.items (subst P (sym made) (All-map IsContent items contents c.requires.contents))
