use Rattle.std.proofs.Common.{◌∙◌, ap, sym, subst}
use Rattle.repo_member.specs.Groups.{GroupKeys}
use Rattle.repo_member.specs.Verdicts.{sync_of}
use Rattle.live_member.specs.Reports.{IsReport}
use Rattle.live_member.proofs.Loans.{tells}
use Rattle.live_member.proofs.live.Live.tell.Goals as goal

pub new-requires : goal.new-requires
new-requires g c =
    let t = g.L.Lists.meaning in
    let a = c.self.inside.member in
    subst (IsReport t)
    (sym (c.in_ok-octets.ensures ∙ ap (λ (k : GroupKeys). sync_of k a.number a.known) c.requires))
    (tells t g.row.M a c.self.inside.journal.items c.self.inside.unpublished.items c.self.invariant.live)
