use Rattle.std.proofs.Common.{◌≡◌, ◌≤◌, [], length, ap, ◌∙◌, arith}
use Rattle.std.proofs.lemmas.Result.{IfOk-weaker}
use Rattle.live_member.specs.Lives.{Living, living, initial_live_member}
use Rattle.live_group.specs.Outs.{OutView, IsOut}
use Rattle.live_group.proofs.Ending.{itself_out, made_anew}
use Rattle.live_group.proofs.closed_place.ClosedPlace.placed.Goals as goal

pub returns-then-number-clause-out : goal.returns-then-number-clause-out
returns-then-number-clause-out g c =
    itself_out g.L.Lists.meaning g.L.Run.turns c.self.inside.left c.self.inside.live c.widen-live.result
    c.widen-live.ensures.same c.widen-live.ensures.live c.self.invariant.1
    (ap (λ (o : OutView). o.left) c.self.view_is ∙ c.requires.none_left)

pub returns-clause-number : goal.returns-clause-number
returns-clause-number g c =
    let n = c.self.inside.number in
    IfOk-weaker c.new.result
    (λ (l : Living). l ≡ living (initial_live_member g.L.Lists.meaning n) [] c.self.inside.objects.items)
    (λ (l : Living). l.state.number ≡ c.args.self.number)
    (λ l is. ap (λ (m : Living). m.state.number) is ∙ ap (λ (o : OutView). o.number) c.self.view_is)
    c.new.ensures.begins

pub returns-clause-room : goal.returns-clause-room
returns-clause-room g c =
    IfOk-weaker c.new.result
    (λ (l : Living). l ≡ living
    (initial_live_member g.L.Lists.meaning c.self.inside.number) [] c.self.inside.objects.items)
    (λ (l : Living). length l.journal ≤ 900000)
    (λ l is. let none : length l.journal ≡ 0 = ap (λ (m : Living). length m.journal) is in omega arith)
    c.new.ensures.begins

pub returns-clause-out : goal.returns-clause-out
returns-clause-out g c =
    let n = c.self.inside.number in
    IfOk-weaker c.new.result
    (λ (l : Living). l ≡ living (initial_live_member g.L.Lists.meaning n) [] c.self.inside.objects.items)
    (IsOut g.L.Lists.meaning g.L.Run.turns)
    (λ l is.
    made_anew g.L.Lists.meaning g.L.Run.turns c.self.inside.left c.self.inside.live c.widen-live.result
    c.widen-live.ensures.same c.widen-live.ensures.live c.self.invariant.1
    (ap (λ (o : OutView). o.left) c.self.view_is ∙ c.requires.none_left) n
    (λ same. c.if-number.false (c.number.ensures ∙ same)) l (ap (λ (m : Living). m.state.number) is)
    (ap (λ (m : Living). m.journal) is))
    c.new.ensures.begins
