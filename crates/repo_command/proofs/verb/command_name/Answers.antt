use Rattle.std.proofs.Common.{◌∷◌, [], ◌++◌, length, ap, arith}
use Rattle.ndn_name.specs.Names.{encoding}
use Rattle.ndn_name.proofs.OnlyMemory.{only_memory_of_name}
use Rattle.repo_command.proofs.LengthLemmas.{command_name-size}
use Rattle.repo_command.proofs.verb.command_name.Goals as goal

pub map_err-requires : goal.map_err-requires
map_err-requires c =
    let same = ap (λ name. length (encoding (name ++ (8, c.text.result.now) ∷ []))) c.in_ok-name.ensures.cases in
    let text = ap (λ value. length (encoding (c.args.node.now ++ (8, value) ∷ []))) c.text.ensures in
    only_memory_of_name c.push.result _ (λ e. c.push.ensures.too_long.0 e) c.push.ensures.refused
    (omega (arith, same, text, command_name-size c.args.node.now c.args.verb c.requires))
