use Rattle.std.proofs.Common.{rules, ◌∙◌, ◌||◌}
use borrow.Author.Tests.{tests}
use Rattle.std.specs.Str.{bytes_eq}
use Rattle.std.specs.String.{string_bytes}
use Rattle.std.proofs.lemmas.Iterator.{YieldsList-from_slice}
use Rattle.std.proofs.lemmas.Iterator.Search.{any_from_yields_List}
use Rattle.ndn_name.specs.Names.{encoding}
use Rattle.script_lang.specs.declared.declaration.Declaration.{Declaration}
use Rattle.script_lang.specs.Checking.{Party, party_of}
use Rattle.script_lang.proofs.Parties.{any-map}
use Rattle.script_lang.proofs.declaration.is_among.Goals as goal

pub returns : goal.returns
returns c = any_from_yields_List (λ (d : Declaration). bytes_eq
    (string_bytes d.label) c.args.label.now || bytes_eq (encoding d.node) (encoding c.args.node.now)) _
    _ c.any.result c.any.ensures.ran (YieldsList-from_slice c.args.parties.now c.iter.ensures.rest)
    (λ x b q k. search (rules, tests))
    ∙ any-map party_of (λ (p : Party). bytes_eq p.label c.args.label.now || bytes_eq (encoding p.node)
    (encoding c.args.node.now)) c.args.parties.now
