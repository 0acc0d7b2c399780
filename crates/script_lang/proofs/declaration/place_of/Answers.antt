use Rattle.std.proofs.Common.{rules, ◌∙◌}
use borrow.Author.Tests.{tests}
use Rattle.std.specs.Str.{bytes_eq}
use Rattle.std.specs.String.{string_bytes}
use Rattle.std.proofs.lemmas.Iterator.{YieldsList-from_slice}
use Rattle.std.proofs.lemmas.Iterator.Search.{position_from_yields_List}
use Rattle.script_lang.specs.declared.declaration.Declaration.{Declaration}
use Rattle.script_lang.specs.Checking.{Party, party_of}
use Rattle.script_lang.proofs.Parties.{position-map}
use Rattle.script_lang.proofs.declaration.place_of.Goals as goal

pub returns : goal.returns
returns c = position_from_yields_List (λ (d : Declaration). bytes_eq
    (string_bytes d.label) c.args.label.now) _ _ c.position.result c.position.ensures.ran
    (YieldsList-from_slice c.args.parties.now c.iter.ensures.rest) (λ x b q k. search (rules, tests))
    ∙ position-map party_of (λ (p : Party). bytes_eq p.label c.args.label.now) c.args.parties.now
