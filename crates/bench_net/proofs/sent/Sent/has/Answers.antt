use Rattle.std.proofs.Common.{sym, ap, ◌∙◌}
use Rattle.bench_net.specs.SentList.{SentList, was_sent}
use Rattle.bench_net.proofs.SentLemmas.{reported_none, sent_some}
use Rattle.bench_net.proofs.sent.Sent.has.Goals as goal

pub returns-in-None : goal.returns-in-None
returns-in-None c =
    let s = c.self.inside in
    let v = c.args.vector.now in
    sym (reported_none s.vectors.keys s.sent_pairs.keys c.args.sender v (sym c.in-None.ensures.index))
    ∙ sym (c.self.invariant.tells.answers c.args.sender v)
    ∙ ap (λ (sent : SentList). was_sent c.args.sender v sent.packets) c.self.view_is

pub returns-in-Some : goal.returns-in-Some
returns-in-Some c =
    let s = c.self.inside in
    let v = c.args.vector.now in
    c.contains.ensures
    ∙ sym (sent_some s.vectors.keys s.sent_pairs.keys c.args.sender v c.in-Some.vector (sym c.in-Some.ensures.index))
    ∙ sym (c.self.invariant.tells.answers c.args.sender v)
    ∙ ap (λ (sent : SentList). was_sent c.args.sender v sent.packets) c.self.view_is
