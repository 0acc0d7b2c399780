use Rattle.std.proofs.Common.{◌≡◌, ◌<◌, [], ◌∷◌, ◌++◌, length, None, ap, ◌∙◌, arith}
use Rattle.ndn_name.specs.Names.{encoding}
use Rattle.ndn_sign.specs.Ring.{pair}
use Rattle.repo_object.specs.Objects.{key_name}
use Rattle.svs_vector.specs.Rosters.{member_of}
use Rattle.repo_member.specs.Groups.{NodeKeys}
use Rattle.repo_member.proofs.GroupLemmas.{have_keys_too}
use Rattle.repo_member.proofs.nodes.Nodes.add.Goals as goal

pub invariant_of-self-2 : goal.invariant_of-self-2
invariant_of-self-2 c =
    let same = ap (λ (nodes : NodeKeys). length nodes.names) c.self.view_is in
    let room : length c.self.inside.names < 16 = omega (arith, c.requires.room, same) in
    let new : member_of c.args.node.now c.self.inside.names ≡ None =
    ap (λ (nodes : NodeKeys). member_of c.args.node.now nodes.names) c.self.view_is ∙ c.requires.new_name in
    let more =
    have_keys_too _ c.args.node.now c.args.key.now c.self.invariant c.requires.name c.requires.key new room in
    let names : c.add_name.new.names ≡ c.self.inside.names ++ c.args.node.now ∷ [] = c.in_ok-add_name.ensures.ok in
    let ring : c.add_pair.new.ring
    ≡ c.self.inside.ring ++ pair (encoding (key_name c.args.node.now)) c.args.key.now ∷ [] =
    cc (c.in_ok-add_pair.ensures.ok, c.in_ok-ring.ensures, c.octets.ensures.spelled, c.in_ok-name.ensures) in
    rw (names, ring) more
