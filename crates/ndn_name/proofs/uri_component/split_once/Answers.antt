use Rattle.std.proofs.Common.{ℕ, List, take, sym, subst}
use Rattle.std.proofs.lemmas.List.{take_more}
use Rattle.ndn_name.specs.UriReading.{LacksOctet}
use Rattle.ndn_name.proofs.Separators.{lacks-append}
use Rattle.ndn_name.proofs.uri_component.split_once.Goals as goal

pub loop-i-preserved : goal.loop-i-preserved
loop-i-preserved c =
    let text = c.args.text.now in
    let i = c.loop-i.i in
    let P : List ℕ → Type 0 = λ t. LacksOctet c.args.octet t in
    subst P (sym (take_more text i 0 c.loop-i-test.true))
    (lacks-append c.args.octet (take i text) _ c.loop-i.invariant (c.if-found-octet.false, tt))
