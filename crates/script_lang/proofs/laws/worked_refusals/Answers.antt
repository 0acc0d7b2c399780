use Rattle.ndn_name.specs.Names.{encoding}
use Rattle.ndn_tlv.specs.Spelling.{number}
use Rattle.script_lang.specs.Kinds.{label_of, publisher_of, numeral_of, hex_of, content_of, filled_of, uri_of}
use Rattle.ndn_name.specs.UriText.{after_word, cut_at, component_of_text, components_of_texts, name_of_text}
use Rattle.ndn_name.specs.UriText.{octets_of_digits, unescaped}
use Rattle.script_lang.specs.Lines.{values_of, verb_named}
use Rattle.std.proofs.Common.{refl}
use Rattle.script_lang.proofs.laws.worked_refusals.Goals as goal

pub returns : goal.returns
unfolding label_of publisher_of numeral_of hex_of content_of filled_of after_word cut_at component_of_text
    components_of_texts name_of_text octets_of_digits unescaped uri_of values_of verb_named encoding number
returns c = record {
  over = refl;
  syntax_first = refl;
  long_number = refl;
  blocks = refl;
}
