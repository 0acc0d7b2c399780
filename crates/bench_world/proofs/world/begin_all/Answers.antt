use Rattle.std.proofs.Common.{length, ap, ◌∙◌}
use Rattle.repo_member.specs.MemberState.{initial_member}
use Rattle.bench_world.specs.Worlds.{begun_one}
use Rattle.bench_world.proofs.Openings.{numbers_more}
use Rattle.bench_world.proofs.world.begin_all.Goals as goal

pub loop-number-preserved : goal.loop-number-preserved
loop-number-preserved g c =
    numbers_more (begun_one (length c.args.g.now.members.names) (g.D.Draws.draw c.args.draws.now)) c.loop-number.number
    c.loop-number.members.items c.push.new.self.items c.in_ok-member.member
    c.loop-number.invariant
    (c.in_ok-member.ensures
    ∙ ap (λ d. initial_member (length c.args.g.now.members.names) c.loop-number.number 0 d) c.draw-draw.ensures)
    c.in_ok-push.ensures.items
