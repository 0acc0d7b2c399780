use Rattle.std.proofs.Common.{◌≤◌, ◌<◌, List, [], None, length, sym, ap, ◌∙◌, subst, arith}
use Rattle.std.specs.Prelude.{slice_get, unwrap_or}
use Rattle.std.proofs.lemmas.Option.{unwrap_or-slice_get}
use Rattle.ndn_name.specs.Names.{Component, encoding}
use Rattle.ndn_name.proofs.OnlyMemory.{only_memory_of_packet}
use Rattle.ndn_data.specs.WrittenData.{written_data}
use Rattle.repo_object.proofs.PacketSizes.{key_name-size}
use Rattle.repo_member.specs.MemberState.{MemberState}
use Rattle.repo_member.specs.Groups.{IsPlainNodeName}
use Rattle.repo_member.proofs.ReplyLemmas.{reply-size}
use Rattle.repo_member.proofs.member.Member.reply_named.Goals as goal

pub map_err-requires : goal.map_err-requires
map_err-requires c =
    let names = c.args.g.now.members.names in
    let number = c.self.inside.number in
    let inside : number < length names =
    omega (
      arith,
      c.self.invariant.member_state.member,
      c.requires.group,
      ap (λ (a : MemberState). length a.known)
          c.self.view_is,
    ) in
    let node : IsPlainNodeName c.name-2.result.now =
    subst IsPlainNodeName
    (sym (unwrap_or-slice_get names number [])
    ∙ ap (λ o. unwrap_or o []) (ap (λ ns. slice_get ns number) (sym c.roster.ensures.names) ∙ c.name-2.ensures))
    (c.cite_soundness.ensures.members.node_names number [] inside) in
    let keyed : length (encoding c.in_ok-key_name.key_name) ≤ 205 =
    omega (
      arith,
      key_name-size c.name-2.result.now node.short,
      ap (λ (n : List Component). length (encoding n)) c.in_ok-key_name.ensures,
    ) in
    let short : length (encoding c.in_ok-name.name) ≤ 1000 =
    omega (
      arith,
      ap (λ (n : List Component). length (encoding n)) c.in_ok-name.ensures.same,
      c.if-octets-gt-REPLY_NAME_LIMIT.false,
      ap length c.octets.ensures.spelled,
    ) in
    let content = c.deref.ensures.value ∙ c.in_ok-content.ensures in
    let size =
    reply-size c.in_ok-name.name c.args.answer.now c.in_ok-key_name.key_name c.key-key.result.now short keyed in
    let same =
    ap (λ octets. length (written_data c.in_ok-name.name None octets c.in_ok-key_name.key_name c.key-key.result.now))
    content in
    only_memory_of_packet c.write_signed-packet.result _ (λ n e. ((c.write_signed-packet.ensures.too_long n).0 e).0)
    (omega (arith, same, size))
