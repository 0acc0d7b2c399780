use Rattle.std.proofs.Common.{List, ℕ, Vec, Global, sym, subst}
use Rattle.std.specs.List.{All}
use Rattle.repo_object.specs.Objects.{IsContent}
use Rattle.repo_object.proofs.Packing.{are_contents}
use Rattle.repo_object.proofs.object.Object.contents.Goals as goal

pub returns-clause-contents : goal.returns-clause-contents
returns-clause-contents c =
    let P : List (Vec ℕ Global) → Type 0 = All (λ v. IsContent v.items) in
    subst P (sym c.deref.ensures.value) (are_contents c.self.inside.contents.items c.self.invariant.contents)
