use Rattle.std.proofs.Common.{◌≡◌, false, sym, ◌∙◌, subst}
use Rattle.repo_member.specs.Groups.{GroupKeys, is_name_taken}
use Rattle.repo_member.proofs.GroupLemmas.{member_differs, not_taken}
use Rattle.repo_member.proofs.group.Group.add_member.Goals as goal

pub invariant_of-self : goal.invariant_of-self
invariant_of-self c = rw c.in_err-add.ensures.err c.self.invariant

pub invariant_of-self-2 : goal.invariant_of-self-2
invariant_of-self-2 c =
    let group : GroupKeys =
    record { name = c.self.inside.name; members = c.self.inside.members; clients = c.self.inside.clients } in
    let free : is_name_taken group c.args.node.now ≡ false =
    subst (λ (g : GroupKeys). is_name_taken g c.args.node.now ≡ false) (sym c.self.view_is)
    (sym c.is_taken.ensures ∙ c.if-is_taken.false) in
    let differ =
    member_differs group.members group.clients c.args.node.now c.args.key.now c.self.invariant.apart
    (not_taken group c.args.node.now free).1 in
    rw c.in_ok-add.ensures.ok (record { name = c.self.invariant.name; apart = differ })
