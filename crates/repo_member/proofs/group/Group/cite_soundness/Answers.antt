use Rattle.std.proofs.Common.{subst}
use Rattle.repo_member.specs.Groups.{IsGroup}
use Rattle.repo_member.proofs.group.Group.cite_soundness.Goals as goal

pub returns : goal.returns
returns c = subst IsGroup c.self.view_is (record {
  name = c.self.invariant.name;
  members = c.cite_soundness.ensures;
  clients = c.cite_soundness-2.ensures;
  apart = c.self.invariant.apart;
})
