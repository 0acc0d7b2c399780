use Rattle.std.proofs.Common.{◌≡◌, sym, ap, ◌∙◌, arith}
use Rattle.std.proofs.lemmas.List.{get_or_default}
use Rattle.bench_net.specs.SentList.{sent_packet}
use Rattle.repo_member.specs.MemberState.{MemberState}
use Rattle.bench_world.specs.Worlds.{nobody}
use Rattle.bench_world.proofs.OneByOne.{received_pushed}
use Rattle.bench_world.proofs.sync_exchange.tell_all.Goals as goal

pub loop-member-preserved : goal.loop-member-preserved
loop-member-preserved g c =
    let item = c.member-item.result in
    let i = c.loop-member.member-index in
    let number : c.loop-member.sender ≡ c.member-item.result.number =
    c.loop-member.invariant.sender
    ∙ sym (ap (λ (a : MemberState). a.number)
    (c.member-item.is
    ∙ get_or_default c.args.members.now c.loop-member.member-index c.member-item.result nobody (omega arith))
    ∙ c.requires.numbers c.loop-member.member-index (omega arith)) in
    let vector = c.in_ok-vector.ensures ∙ c.vector.ensures.known in
    let octets = c.in_ok-octets.ensures in
    record {
      syncs =
          received_pushed c.args.g.now c.loop-member.syncs.items c.push.new.self.items
          (record { sender = c.loop-member.sender; vector = c.in_ok-vector.vector; octets = c.in_ok-octets.octets })
          c.args.members.now i item (omega arith) c.member-item.is c.in_ok-push.ensures.items
          (λ k. sent_packet (number k) (vector k) (octets k)) c.loop-member.invariant.syncs;
      sender = omega (arith, c.loop-member.invariant.sender);
    }
