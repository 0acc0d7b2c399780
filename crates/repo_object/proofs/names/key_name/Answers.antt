use Rattle.std.proofs.Common.{◌++◌, ◌∷◌, [], length, ap, arith}
use Rattle.ndn_name.specs.Names.{encoding}
use Rattle.ndn_name.proofs.OnlyMemory.{only_memory_of_name}
use Rattle.repo_object.proofs.Sizes.{pushed-size}
use Rattle.repo_object.proofs.names.key_name.Goals as goal

pub map_err-requires : goal.map_err-requires
map_err-requires c =
    let node = c.args.node.now in
    let same = ap (λ n. length (encoding (n ++ (8, 75 ∷ 69 ∷ 89 ∷ []) ∷ []))) c.in_ok-name.ensures.cases in
    only_memory_of_name c.push.result _ (λ e. c.push.ensures.too_long.0 e) c.push.ensures.refused
    (omega (arith, same, pushed-size node 8 (75 ∷ 69 ∷ 89 ∷ []) (omega arith) (omega arith)))
