-- That the octets are compared with the publisher's packet.
use Rattle.std.proofs.Common.{◌∙◌, option_map, [], sym, ap}
use Rattle.std.specs.Prelude.{unwrap_or}
use Rattle.std.specs.Str.{bytes_eq}
use Rattle.repo_member.proofs.PublicLaws.{logs_those}
use Rattle.bench_world.proofs.ClaimedPackets.{stored_same, not_none}
use Rattle.bench_world.proofs.answering.is_its_packet.Goals as goal

pub returns-in-Some : goal.returns-in-Some
returns-in-Some g c =
    let r = c.requires in
    c.eq.ensures
    ∙ stored_same c.args.g.now g.logs c.args.publisher.now r.publisher c.args.part c.args.octets.now
    c.in-Some.packet.now c.in-Some.ensures

pub unreachable-requires : goal.unreachable-requires
unreachable-requires g c =
    let r = c.requires in
    let logged =
    c.in_ok-packet.ensures
    ∙ logs_those c.args.g.now g.logs c.args.publisher.now c.args.part r.publisher (sym r.number) r.part.there in
    not_none c.args.g.now g.logs c.args.part r.logs r.part
    (sym logged ∙ ap (option_map (λ p. p.items)) c.in_default-2.is)

pub returns : goal.returns
returns g c =
    let r = c.requires in
    let logged =
    c.in_ok-packet.ensures
    ∙ logs_those c.args.g.now g.logs c.args.publisher.now c.args.part r.publisher (sym r.number) r.part.there in
    c.eq-2.ensures
    ∙ ap (bytes_eq c.args.octets.now)
    (c.as_slice.ensures.value ∙ ap (λ o. unwrap_or (option_map (λ p. p.items) o) []) (sym c.in-Some-2.is)
    ∙ ap (λ o. unwrap_or o []) logged)
