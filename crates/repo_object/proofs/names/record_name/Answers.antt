use Rattle.std.proofs.Common.{◌++◌, length, ap, ◌∙◌, arith}
use Rattle.ndn_tlv.specs.NumberField.{number_field}
use Rattle.ndn_name.specs.Names.{encoding}
use Rattle.ndn_name.proofs.OnlyMemory.{only_memory_of_name}
use Rattle.repo_object.proofs.Sizes.{pushed-size, appended-size, number_field-two}
use Rattle.repo_object.proofs.names.record_name.Goals as goal

pub map_err-requires : goal.map_err-requires
map_err-requires c =
    let field = number_field c.from.result in
    let two = number_field-two c.from.result (omega arith) in
    let name = c.append.new.name in
    let same =
    ap (λ n. length (encoding n))
    (c.in_ok-append.ensures ∙ ap (λ n. n ++ c.args.group.now) c.in_ok-name.ensures.cases) in
    only_memory_of_name c.push_number.result _ (λ e. c.push_number.ensures.too_long.0 e) c.push_number.ensures.refused
    (omega (
      arith,
      same,
      two,
      appended-size c.args.node.now c.args.group.now,
      pushed-size name 0x3a field (omega arith) (omega arith),
    ))
