use Rattle.std.proofs.Common.{rules, ◌≡◌, ◌<◌, ◌^◌, ◌∷◌, [], length, refl, ap, ◌∙◌, arith}
use Rattle.repo_object.specs.Objects.Post.{Withdraws}
use Rattle.repo_object.specs.Publication.{packets}
use Rattle.repo_member.specs.Groups.{publisher_at}
use Rattle.repo_member.specs.MemberState.{MemberState, next_seq}
use Rattle.repo_member.proofs.OwnLemmas.{is_publisher, packets_are}
use Rattle.repo_member.proofs.member.Member.prepare_withdrawal.Goals as goal

made : (c : goal.In_ok-sync)
    → c.in_ok-packet.packet.items ∷ []
    ≡ packets (publisher_at c.args.g.now c.args.self.now.number) (next_seq c.args.self.now) (Withdraws c.args.withdrawn)
made c = search rules

alone_in : (c : goal.In_ok-sync) → c.push.new.self.items ≡ c.in_ok-packet.packet.items ∷ []
alone_in c = search rules

pub returns : goal.returns
returns c =
    let number = ap (λ (a : MemberState). a.number) c.self.view_is in
    let known = ap (λ (a : MemberState). length a.known) c.self.view_is in
    let inside : c.args.self.now.number < length c.args.g.now.members.names =
    omega (arith, c.self.invariant.member_state.member, number, known, c.requires.group) in
    let low : next_seq c.args.self.now < 2 ^ 16 = omega (arith, c.requires.numbers) in
    let packed = alone_in c ∙ made c in
    record {
      packed = packed;
      parts =
          packets_are (publisher_at c.args.g.now c.args.self.now.number) (next_seq c.args.self.now)
          (is_publisher c.args.g.now c.args.self.now.number c.cite_soundness.ensures inside) low
          (Withdraws c.args.withdrawn) c.requires.earlier _ refl _ packed;
      synced = c.in_ok-sync.ensures;
    }
