use Rattle.std.specs.Prelude.{String}
use Rattle.std.specs.declared.alloc.Global.{Global}
use Rattle.std.proofs.Common.{rules, ◌∙◌, ℕ, List}
use borrow.Author.Tests.{tests}
use Rattle.std.specs.Str.{bytes_eq}
use Rattle.std.specs.String.{string_bytes}
use Rattle.std.proofs.lemmas.Iterator.{YieldsList-from_slice}
use Rattle.std.proofs.lemmas.Iterator.Search.{position_from_yields_List}
use Rattle.script_lang.proofs.Parties.{position-map}
use Rattle.lab_picture.proofs.columns.mirror_place.Goals as goal

pub returns-clause-place : goal.returns-clause-place
returns-clause-place c = position_from_yields_List
    (λ (mirror : String Global). bytes_eq (string_bytes mirror) c.args.label.now) _ _
    c.position.result c.position.ensures.ran
    (YieldsList-from_slice c.args.mirrors.now c.iter.ensures.rest) (λ x b q k. search (rules, tests))
    ∙ position-map string_bytes (λ (mirror : List ℕ). bytes_eq mirror c.args.label.now) c.args.mirrors.now
