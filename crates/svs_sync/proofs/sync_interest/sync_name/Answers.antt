use Rattle.std.proofs.Common.{◌∷◌, [], ◌++◌, length, ap, arith}
use Rattle.ndn_name.specs.Names.{encoding}
use Rattle.ndn_name.proofs.OnlyMemory.{only_memory_of_name}
use Rattle.svs_sync.proofs.LengthLemmas.{sync_name_short}
use Rattle.svs_sync.proofs.sync_interest.sync_name.Goals as goal

pub map_err-requires : goal.map_err-requires
map_err-requires c =
    let same = ap (λ name. length (encoding (name ++ (54, 2 ∷ []) ∷ []))) c.in_ok-name.ensures.cases in
    only_memory_of_name c.push.result _ (λ e. c.push.ensures.too_long.0 e) c.push.ensures.refused
    (omega (arith, same, sync_name_short c.args.group.now c.requires))
