use Rattle.std.proofs.Common.{subst}
use Rattle.std.specs.Prelude.{IfOk}
use Rattle.std.specs.List.{All}
use Rattle.repo_holdings.specs.Taking.{with_fetched_for}
use Rattle.repo_holdings.specs.WholeContents.{IsWholeIn}
use Rattle.repo_member.specs.MemberState.{MemberState}
use Rattle.repo_member.proofs.member.Member.whole_with.Goals as goal

pub returns : goal.returns
returns c =
    subst
    (λ (x : MemberState). IfOk c.whole_with.result
    (λ whole. All (IsWholeIn (with_fetched_for c.args.jobs.now c.args.parts.now x.store)) whole.items))
    c.self.view_is c.whole_with.ensures
