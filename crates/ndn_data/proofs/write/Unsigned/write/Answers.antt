use Rattle.std.proofs.Common.{◌∙◌, ◌++◌, List, ℕ, ap, drop, length}
use Rattle.ndn_tlv.specs.Spelling.{head}
use Rattle.ndn_data.specs.WrittenData.{unsigned}
use Rattle.ndn_data.proofs.WriteLemmas.{writes}
use Rattle.ndn_data.proofs.write.Unsigned.write.Goals as goal

pub returns : goal.returns
returns c =
    let begins = c.in_ok-put_head.ensures.ok ∙ ap (λ (w : List ℕ). w ++ head 0x06 c.args.body) c.in_ok-writer.ensures in
    let part =
    c.split_at.ensures.back
    ∙ ap (λ (o : List ℕ). drop (length o) c.octets.result.now) c.octets-head.ensures
    ∙ ap (drop (length c.put_head.new.self)) c.octets.ensures in
    c.finish.ensures
    ∙ writes (unsigned c.args.self.now) c.args.key.now c.hmac-mac.result c.put_head.new.self c.put.new.writer
    c.put-2.new.self c.split_at.result.1.now c.args.body c.requires.long begins c.in_ok-put.ensures part
    c.hmac-mac.ensures c.in_ok-put-2.ensures.ok
