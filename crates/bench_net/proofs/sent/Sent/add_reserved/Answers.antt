use Rattle.std.proofs.Common.{◌≡◌, ◌++◌, ◌∷◌, [], ◌+◌, length, length-append, refl, ap, ◌∙◌, arith}
use Rattle.bench_net.specs.declared.sent.Packet.{Packet}
use Rattle.bench_net.specs.SentList.{SentList, sent_packet}
use Rattle.bench_net.specs.SentFields.{lists_of}
use Rattle.bench_net.proofs.SentLemmas.{at_ok, length-packets_of, sent, still_within, still_reports}
use Rattle.bench_net.proofs.sent.Sent.add_reserved.Goals as goal

pub invariant_of-self : goal.invariant_of-self
invariant_of-self c =
    let vectors = c.self.inside.vectors.keys in
    let sent_pairs = c.self.inside.sent_pairs.keys in
    let old = c.self.inside.packets.items in
    let packet : Packet =
    record { sender = c.args.sender; vector = c.unwrap-vector.result.0; octets = c.args.octets } in
    let keys = at_ok c.insert_full.result c.unwrap-vector.result _ c.unwrap-vector.ensures c.insert_full.ensures.keys in
    let index =
    at_ok c.insert_full.result c.unwrap-vector.result _ c.unwrap-vector.ensures c.insert_full.ensures.index in
    let pairs = at_ok c.insert.result c.unwrap.result _ c.unwrap.ensures c.insert.ensures.keys in
    let pushed : c.push.new.self.items ≡ old ++ packet ∷ [] = c.push.ensures.items ∙ rw c.unwrap-2.ensures refl in
    let long : length c.push.new.self.items ≡ length old + 1 = ap length pushed ∙ length-append old (packet ∷ []) in
    let count = ap (λ (s : SentList). length s.packets) c.self.view_is in
    record {
      room = omega (arith, long, c.push.ensures.capacity, c.self.invariant.room, c.requires.spare);
      room_of_vectors = omega (arith, c.insert_full.ensures.spare, c.self.invariant.room_of_vectors);
      room_of_pairs = omega (arith, c.insert.ensures.spare, c.self.invariant.room_of_pairs);
      few = omega (arith, long, count, length-packets_of (lists_of vectors) old, c.requires.few);
      within =
          still_within vectors c.insert_full.new.self.keys sent_pairs c.insert.new.self.keys old c.push.new.self.items
          c.args.vector packet keys index pairs pushed c.self.invariant.within c.self.invariant.tells;
      tells =
          still_reports vectors c.insert_full.new.self.keys sent_pairs c.insert.new.self.keys old c.push.new.self.items
          c.args.vector packet keys index pairs pushed c.self.invariant.within c.self.invariant.tells;
    }

pub returns-clause-sent : goal.returns-clause-sent
returns-clause-sent c =
    let vectors = c.self.inside.vectors.keys in
    let sent_pairs = c.self.inside.sent_pairs.keys in
    let old = c.self.inside.packets.items in
    let packet : Packet =
    record { sender = c.args.sender; vector = c.unwrap-vector.result.0; octets = c.args.octets } in
    let keys = at_ok c.insert_full.result c.unwrap-vector.result _ c.unwrap-vector.ensures c.insert_full.ensures.keys in
    let index =
    at_ok c.insert_full.result c.unwrap-vector.result _ c.unwrap-vector.ensures c.insert_full.ensures.index in
    let pairs = at_ok c.insert.result c.unwrap.result _ c.unwrap.ensures c.insert.ensures.keys in
    let pushed : c.push.new.self.items ≡ old ++ packet ∷ [] = c.push.ensures.items ∙ rw c.unwrap-2.ensures refl in
    sent vectors c.insert_full.new.self.keys sent_pairs c.insert.new.self.keys old c.push.new.self.items c.args.vector
    packet
    keys index pairs pushed c.self.invariant.within c.self.invariant.tells
    ∙ ap (λ (s : SentList). s.packets ++ sent_packet c.args.sender c.args.vector.items c.args.octets.items ∷ [])
    c.self.view_is
