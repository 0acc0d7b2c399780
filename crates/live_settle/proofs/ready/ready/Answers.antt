use Rattle.std.proofs.Common.{◌∙◌}
use Rattle.std.proofs.lemmas.Result.{on_ok_weaker}
use Rattle.live_settle.specs.Ready.{MakesReady}
use Rattle.live_settle.proofs.Prefixes.{continues_on}
use Rattle.live_settle.proofs.ready.ready.Goals as goal

pub returns : goal.returns
returns g c =
    let old = c.args.live.now in
    let mid = c.publish_rest.new.live in
    let new = c.lose_claims.new.live in
    let rest = c.in_ok-publish_rest.ensures in
    on_ok_weaker c.lose_claims.result
    (λ (lost : MakesReady g.L.Lists.meaning 900216 mid new). record {
      ready = lost.ready;
      number = lost.number ∙ rest.number;
      entries = lost.entries;
      prefix = continues_on old.journal mid.journal new.journal rest.prefix lost.prefix;
    })
    c.lose_claims.ensures
