use Rattle.std.proofs.Common.{◌∙◌, ap, sym, subst}
use Rattle.repo_member.specs.MemberState.{MemberState}
use Rattle.repo_member.specs.ConsistentMembers.{IsConsistentMember}
use Rattle.repo_holdings.specs.Listed.{member_catalogue}
use Rattle.live_member.specs.Meanings.{whole_logs}
use Rattle.live_member.specs.Lives.{AreOfPublishedParts}
use Rattle.live_settle.proofs.States.{whole_consistently}
use Rattle.live_settle.proofs.settling.ran.Goals as goal

pub returns-clause-ran : goal.returns-clause-ran
returns-clause-ran g c =
    let t = g.L.Lists.meaning in
    let parts = c.into_parts-journal.ensures in
    let ready = c.requires.ready in
    record {
      replays = rw (parts.journal, parts.member) ready.live.replays;
      brought = subst (AreOfPublishedParts t) (sym parts.journal) ready.live.brought;
      consistent = subst (IsConsistentMember t.group (whole_logs t)) (sym parts.member)
          (whole_consistently t 1000000 c.args.live ready.live ready.unpublished);
      catalogue = ap (λ (a : MemberState). member_catalogue a.store) parts.member ∙ c.requires.catalogue;
    }
