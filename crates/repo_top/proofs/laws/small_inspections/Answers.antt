use Rattle.std.proofs.Common.{refl}
use Rattle.std.specs.Fmt.{digits}
use Rattle.hex.specs.Hex.{decode_pairs, encode_with}
use Rattle.ndn_tlv.specs.Elements.{number_at, type_at, element_at, elements_within, elements}
use Rattle.ndn_inspect.specs.Types.{type_name, has_elements}
use Rattle.ndn_inspect.specs.Inspection.{indent, element_line, lines_of, lines_within, lines_at}
use Rattle.script_report.specs.Texts.{line as report_line}
use Rattle.repo_top.specs.Inspection.{inspect_run}
use Rattle.repo_top.proofs.laws.small_inspections.Goals as goal

pub returns-clause-name : goal.returns-clause-name
unfolding digits decode_pairs encode_with number_at type_at element_at elements_within elements type_name has_elements
    indent element_line lines_of lines_within lines_at report_line inspect_run
returns-clause-name c = refl

pub returns-clause-fault : goal.returns-clause-fault
unfolding digits decode_pairs encode_with number_at type_at element_at elements_within elements type_name has_elements
    indent element_line lines_of lines_within lines_at report_line inspect_run
returns-clause-fault c = refl

pub returns-clause-inner_fault : goal.returns-clause-inner_fault
unfolding digits decode_pairs encode_with number_at type_at element_at elements_within elements type_name has_elements
    indent element_line lines_of lines_within lines_at report_line inspect_run
returns-clause-inner_fault c = refl

pub returns-clause-syntax : goal.returns-clause-syntax
unfolding digits decode_pairs encode_with number_at type_at element_at elements_within elements type_name has_elements
    indent element_line lines_of lines_within lines_at report_line inspect_run
returns-clause-syntax c = refl
