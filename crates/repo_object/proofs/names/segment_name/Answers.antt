use Rattle.std.proofs.Common.{arith}
use Rattle.ndn_tlv.specs.NumberField.{number_field}
use Rattle.ndn_name.proofs.OnlyMemory.{only_memory_of_name}
use Rattle.repo_object.proofs.Sizes.{pushed-size, number_field-two}
use Rattle.repo_object.proofs.names.segment_name.Goals as goal

pub map_err-requires : goal.map_err-requires
map_err-requires c =
    let two = number_field-two c.from.result (omega arith) in
    let size = pushed-size c.args.name 0x32 (number_field c.from.result) (omega arith) (omega (arith, two)) in
    only_memory_of_name c.push_number.result _ (λ e. c.push_number.ensures.too_long.0 e) c.push_number.ensures.refused
    (omega (arith, two, size))
