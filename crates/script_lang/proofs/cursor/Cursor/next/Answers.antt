use Rattle.std.proofs.Common.{◌≡◌, [], arith}
use Rattle.std.proofs.lemmas.List.{nil_from_length}
use Rattle.script_lang.proofs.Reading.{took_none}
use Rattle.script_lang.proofs.cursor.Cursor.next.Goals as goal

pub returns-in_default-clause-err : goal.returns-in_default-clause-err
returns-in_default-clause-err c =
    let none : c.self.inside.rest.now ≡ [] = nil_from_length c.self.inside.rest.now (omega arith) in
    rw (← c.self.view_is, none) (λ kind kinds. took_none c.self.inside.over kind kinds)
