use Rattle.std.proofs.Common.{ap, ◌∙◌, arith}
use Rattle.ndn_tlv.specs.OrderTable.{fields}
use Rattle.repo_object.specs.Records.{index_table}
use Rattle.repo_object.proofs.RowLemmas.{index_row}
use Rattle.repo_object.proofs.record_fields.DigestReader.of_index.Goals as goal

pub returns-clause-row : goal.returns-clause-row
returns-clause-row c =
    index_row c.args.content.now (λ i. omega (arith, c.type_inv.content i))
    (record { fields = c.new-fields.result; indexes = _; left = c.args.count })
    (c.new-fields.ensures.fields ∙ ap (fields index_table) c.new.ensures.elements)
