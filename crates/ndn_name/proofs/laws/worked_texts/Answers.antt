use Rattle.std.proofs.Common.{refl}
use Rattle.ndn_name.specs.UriText.{unescaped, cut_at, component_of_text, components_of_texts, after_word, name_of_text}
use Rattle.ndn_name.proofs.laws.worked_texts.Goals as goal

pub returns : goal.returns
unfolding unescaped cut_at component_of_text components_of_texts after_word name_of_text
returns c = record {
  root = refl;
  names = refl;
  escapes = refl;
  digest = refl;
  periods = refl;
  slash = refl;
  zero = refl;
}
