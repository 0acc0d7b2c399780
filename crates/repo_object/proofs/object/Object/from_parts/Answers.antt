use Rattle.std.proofs.Common.{arith}
use Rattle.std.proofs.lemmas.List.{length-map}
use Rattle.std.proofs.lemmas.List.Elements.{All-map}
use Rattle.repo_object.specs.Objects.{IsContent}
use Rattle.repo_object.proofs.Packing.{items}
use Rattle.repo_object.proofs.object.Object.from_parts.Goals as goal

pub invariant_of-result : goal.invariant_of-result
invariant_of-result c =
    let contents = c.args.contents.items in
    record {
      name = c.cite_soundness.ensures.name;
      named = c.requires.name;
      few = omega (arith, c.requires.few, length-map contents items);
      contents = All-map IsContent items contents c.requires.contents;
    }
