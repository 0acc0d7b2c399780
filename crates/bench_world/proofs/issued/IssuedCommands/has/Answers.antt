use Rattle.std.proofs.Common.{sym, ap, ◌∙◌}
use Rattle.bench_world.specs.Commanding.{is_issued}
use Rattle.bench_world.specs.IssuedList.{IssuedList}
use Rattle.bench_world.proofs.issued.IssuedCommands.has.Goals as goal

pub returns : goal.returns
returns c =
    let one = c.args.command.now in
    c.contains.ensures ∙ sym (c.self.invariant.answers one)
    ∙ ap (λ (s : IssuedList). is_issued s.commands one.member (one.client, one.command)) c.self.view_is
