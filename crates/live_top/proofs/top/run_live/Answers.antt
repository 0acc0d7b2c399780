use Rattle.std.proofs.Common.{◌≡◌}
use Rattle.live_top.proofs.Prefixes.{prefix_of_refusal, prefix_of_run, says_refused}
use Rattle.live_top.proofs.top.run_live.Goals as goal

pub returns-in-Ok-clause-prefix : goal.returns-in-Ok-clause-prefix
returns-in-Ok-clause-prefix g c =
    prefix_of_run (g.D.Draws.draw c.args.draws.now) (g.K.Sink.out c.args.sink.now)
    (g.K.Sink.out c.run_script.new.sink) (c.run_script.new.sink ≡ c.args.sink.now) c.run_script.result
    c.run_script.ensures.no_memory (g.S.Source.left c.args.source.now) (g.S.Source.left c.read_script.new.source) _ _
    c.in-Ok.ensures.read c.run_script.ensures.ran

pub returns-in-Err-Refused-clause-prefix : goal.returns-in-Err-Refused-clause-prefix
returns-in-Err-Refused-clause-prefix g c =
    prefix_of_refusal (g.D.Draws.draw c.args.draws.now) (g.K.Sink.out c.args.sink.now)
    (g.K.Sink.out c.refuse.new.sink) (c.refuse.new.sink ≡ c.args.sink.now) c.refuse.result
    c.refuse.ensures.no_memory (g.S.Source.left c.args.source.now) _ _ c.refuse.ensures.refused
    (rw c.in-Err-Refused.field-0-is at c.in-Err-Refused.ensures.halted)

pub returns-in-Err-Refused-clause-refused : goal.returns-in-Err-Refused-clause-refused
returns-in-Err-Refused-clause-refused g c =
    says_refused (g.S.Source.left c.args.source.now) (g.K.Sink.out c.args.sink.now)
    (g.K.Sink.out c.refuse.new.sink) _ _ c.refuse.result c.refuse.ensures.refused
    (rw c.in-Err-Refused.field-0-is at c.in-Err-Refused.ensures.halted)
