-- That the publisher's packet is taken, and no other.
use Rattle.std.proofs.Common.{◌≡◌, ◌<◌, ◌∙◌, Some, true, List, [], length, sym, ap, subst}
use Rattle.std.specs.Prelude.{unwrap_or, IsOk}
use Rattle.std.specs.Str.{bytes_eq}
use Rattle.repo_plan.specs.declared.part.Part.{Part}
use Rattle.ndn_sign.specs.Ring.{NamedKey}
use Rattle.repo_object.specs.Wants.{WantedPart}
use Rattle.repo_object.specs.Verdict.{CheckedPart, ring_verdict, checked_part}
use Rattle.group_model.specs.Sound.{IsPublishedPart}
use Rattle.repo_member.specs.MemberState.{member_accepts}
use Rattle.repo_member.specs.InGroup.{published_packet}
use Rattle.bench_world.proofs.ClaimedPackets.{claim_published, accepts_its, checked_for_claim, keeps_its, key_there}
use Rattle.bench_world.proofs.ClaimedPackets.{passed_fed}
use Rattle.bench_world.proofs.answering.accept.Goals as goal

same_part : {t u : Part} → Some t ≡ Some u → t ≡ u
same_part h = cc

pub is_its_packet-requires : goal.is_its_packet-requires
is_its_packet-requires g c =
    let r = c.requires in
    record {
      logs = r.logs;
      publisher = r.publisher;
      number = r.number ∙ ap (λ (t : Part). t.publisher) (sym c.part.ensures);
      part =
          subst (IsPublishedPart g.logs) (sym c.part.ensures)
          (claim_published c.args.g.now g.logs c.args.asker.now r.logs r.asker c.args.f c.args.want.now.part r.claim);
    }

pub check_part-requires : goal.check_part-requires
check_part-requires g c =
    let r = c.requires in
    subst (λ (ring : List NamedKey). c.args.want.now.part.publisher < length ring) (sym c.members.ensures.ring)
    (key_there c.args.g.now g.logs c.args.asker.now r.logs r.asker c.args.f c.args.want.now.part r.claim)

pub accept_checked-requires-clause-checked : goal.accept_checked-requires-clause-checked
accept_checked-requires-clause-checked g c =
    let r = c.requires in
    checked_for_claim c.args.g.now g.logs c.args.asker.now r.logs r.asker c.args.f c.args.want.now.part r.claim
    c.args.octets.now c.in-Ok.checked c.args.want.now r.want
    (c.in-Ok.ensures.checked ∙ ap (λ ring. checked_part c.args.want.now ring c.args.octets.now) c.members.ensures.ring)

pub returns-in-Ok-accept_checked-clause-asker : goal.returns-in-Ok-accept_checked-clause-asker
returns-in-Ok-accept_checked-clause-asker g c =
    let r = c.requires in
    let same : bytes_eq c.args.octets.now (unwrap_or (published_packet c.args.g.now g.logs c.args.want.now.part) [])
    ≡ true =
    ap (λ (u : Part). bytes_eq c.args.octets.now (unwrap_or (published_packet c.args.g.now g.logs u) []))
    (sym c.part.ensures)
    ∙ sym c.in_ok-is_its_packet.ensures
    ∙ c.if-not-branch.false in
    let octets : c.in-Ok.checked.octets ≡ c.args.octets.now =
    ap (λ (x : CheckedPart). x.octets) c.in-Ok.ensures.checked in
    let part : c.in-Ok-accept_checked.field-0 ≡ c.args.want.now.part =
    same_part (sym c.in-Ok-accept_checked.ensures.part ∙ r.claim) in
    c.in-Ok-accept_checked.ensures.ok ∙ (λ i. member_accepts c.args.f (part i) (octets i) c.args.asker.now)
    ∙ accepts_its c.args.g.now g.logs c.args.asker.now r.logs r.asker c.args.f c.args.want.now.part r.claim
    c.args.octets.now same

pub returns-in-Ok-accept_checked-clause-fed : goal.returns-in-Ok-accept_checked-clause-fed
returns-in-Ok-accept_checked-clause-fed g c =
    let r = c.requires in
    passed_fed c.args.g.now g.logs c.args.want.now.part c.args.octets.now
    (subst (λ (w : WantedPart). IsOk (ring_verdict w c.args.g.now.members.ring c.args.octets.now)) r.want
    (subst (λ (ring : List NamedKey). IsOk (ring_verdict c.args.want.now ring c.args.octets.now))
    c.members.ensures.ring c.in-Ok.ensures.verdict))

pub returns-in-Ok-accept_checked-clause-kept : goal.returns-in-Ok-accept_checked-clause-kept
returns-in-Ok-accept_checked-clause-kept g c =
    let r = c.requires in
    let same : bytes_eq c.args.octets.now (unwrap_or (published_packet c.args.g.now g.logs c.args.want.now.part) [])
    ≡ true =
    ap (λ (u : Part). bytes_eq c.args.octets.now (unwrap_or (published_packet c.args.g.now g.logs u) []))
    (sym c.part.ensures)
    ∙ sym c.in_ok-is_its_packet.ensures
    ∙ c.if-not-branch.false in
    keeps_its c.args.g.now g.logs c.args.asker.now r.logs r.asker c.args.f c.args.want.now.part r.claim
    c.args.octets.now same
