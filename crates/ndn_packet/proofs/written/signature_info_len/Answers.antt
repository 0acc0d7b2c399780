use Rattle.std.proofs.Common.{length, ap, ◌+◌, ◌∙◌, List, ℕ}
use Rattle.ndn_tlv.specs.Spelling.{head}
use Rattle.ndn_packet.proofs.Lengths.{length-written_info}
use Rattle.ndn_packet.proofs.written.signature_info_len.Goals as goal

pub returns-clause-exact : goal.returns-clause-exact
returns-clause-exact c =
    let name =
    c.element_len-locator.ensures.exact
    ∙ ap (λ (o : List ℕ). length (head 0x07 (length o)) + length o) c.octets.ensures.spelled in
    length-written_info c.args.key_name.now c.element_len-locator.result c.element_len.result name
    c.element_len.ensures.exact
