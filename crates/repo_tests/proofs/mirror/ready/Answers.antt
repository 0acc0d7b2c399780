use Rattle.std.proofs.Common.{◌≤◌, length}
use Rattle.std.proofs.lemmas.List.Elements.{All-weaker}
use Rattle.ndn_name.specs.Names.{encoding}
use Rattle.repo_object.specs.Limits.{node_name_limit}
use Rattle.repo_member.specs.Groups.{IsPlainNodeName}
use Rattle.repo_tests.proofs.mirror.ready.Goals as goal

pub returns-clause-names : goal.returns-clause-names
returns-clause-names g c = record {
  publishers =
      All-weaker IsPlainNodeName (λ n. length (encoding n) ≤ node_name_limit) (λ n plain. plain.short)
      c.args.g.now.members.names c.cite_soundness.ensures.members.node_names;
  group = c.cite_soundness.ensures.name.short;
}
