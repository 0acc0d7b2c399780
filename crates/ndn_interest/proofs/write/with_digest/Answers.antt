use Rattle.std.proofs.Common.{ℕ, ◌+◌, List, ◌++◌, length, ap, ◌∙◌}
use Rattle.ndn_tlv.specs.Spelling.{head}
use Rattle.ndn_interest.proofs.WriteLemmas.{writes}
use Rattle.ndn_interest.proofs.write.with_digest.Goals as goal

pub returns : goal.returns
returns c =
    let len = length c.octets-components.result.now + 34 in
    let body = c.element_len.result + length c.args.digested.now in
    let begins = c.in_ok-put_head.ensures.ok ∙ ap (λ (w : List ℕ). w ++ head 0x05 body) c.in_ok-writer.ensures in
    let joins =
    c.in_ok-put_octets.ensures.ok
    ∙ ap (λ (o : List ℕ). c.put_head-2.new.self ++ o) c.octets-components.ensures.spelled in
    c.finish.ensures
    ∙ writes c.args.name.now c.args.digested.now c.digest.result c.put_head.new.self c.put_head-2.new.self
    c.put_octets.new.self c.put.new.self c.put_octets-2.new.self len body
    (ap (λ (o : List ℕ). length o + 34) c.octets-components.ensures.spelled)
    (ap (λ (n : ℕ). n + length c.args.digested.now) c.element_len.ensures.exact) c.digest.ensures
    begins c.in_ok-put_head-2.ensures.ok joins c.in_ok-put.ensures.ok c.in_ok-put_octets-2.ensures.ok
