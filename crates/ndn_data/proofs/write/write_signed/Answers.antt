use Rattle.std.proofs.Common.{◌≡◌, ℕ, ◌+◌, ◌-◌, ◌^◌, min, List, length, Err, Result, Vec, Global, sym, ap, ◌∙◌, arith}
use Rattle.ndn_tlv.specs.Spelling.{head}
use Rattle.ndn_name.specs.declared.fault.PacketWriteFault.{PacketWriteFault}
use Rattle.ndn_name.specs.declared.fault.PacketWriteFault.TheVariants.{TooLong}
use Rattle.ndn_packet.proofs.Lengths.{packet_len}
use Rattle.ndn_data.specs.WrittenData.{written_signed, signed}
use Rattle.ndn_data.proofs.WriteLemmas.{length-signed}
use Rattle.ndn_data.proofs.write.write_signed.Goals as goal

abbrev refused : PacketWriteFault → Result (Vec ℕ Global) PacketWriteFault
refused f = Err f

number_of : (m n : ℕ) → refused (TooLong m) ≡ refused (TooLong n) → m ≡ n
number_of m n e = cc

-- the number of octets that was counted is that of the packet
total : (portion key : List ℕ) (body heads octets : ℕ) → body ≡ min (length portion + 34) (2 ^ 64 - 1)
    → heads ≡ length (head 0x06 body)
    → octets ≡ min (body + heads) (2 ^ 64 - 1) → octets ≡ min (length (signed portion key)) (2 ^ 64 - 1)
total portion key body heads octets b h o =
    packet_len 0x06 body octets (length portion + 34) b (o ∙ ap (λ (n : ℕ). min (body + n) (2 ^ 64 - 1)) h)
    ∙ ap (λ (n : ℕ). min n (2 ^ 64 - 1)) (sym (length-signed portion key))

pub returns-then-octets-gt-PACKET_LIMIT-clause-too_long : goal.returns-then-octets-gt-PACKET_LIMIT-clause-too_long
returns-then-octets-gt-PACKET_LIMIT-clause-too_long c =
    let portion = written_signed c.args.name.now c.args.last c.args.content.now c.args.key_name.now in
    let all =
    total portion c.args.key.now c.body_len-body.result c.head_len.result c.saturating_add-octets.result
    c.body_len-body.ensures c.head_len.ensures.exact c.saturating_add-octets.ensures in
    λ n. (
      λ e. (omega arith, sym (number_of c.saturating_add-octets.result n e) ∙ all),
      λ h. ap (λ (m : ℕ). refused (TooLong m)) (all ∙ sym h.1),
    )

pub write-requires-clause-long : goal.write-requires-clause-long
write-requires-clause-long c = omega arith

pub returns-in-Ok-clause-fits : goal.returns-in-Ok-clause-fits
returns-in-Ok-clause-fits c =
    let portion = written_signed c.args.name.now c.args.last c.args.content.now c.args.key_name.now in
    let all =
    total portion c.args.key.now c.body_len-body.result c.head_len.result c.saturating_add-octets.result
    c.body_len-body.ensures c.head_len.ensures.exact c.saturating_add-octets.ensures in
    omega arith

pub returns-in-Ok-clause-too_long : goal.returns-in-Ok-clause-too_long
returns-in-Ok-clause-too_long c =
    let portion = written_signed c.args.name.now c.args.last c.args.content.now c.args.key_name.now in
    let all =
    total portion c.args.key.now c.body_len-body.result c.head_len.result c.saturating_add-octets.result
    c.body_len-body.ensures c.head_len.ensures.exact c.saturating_add-octets.ensures in
    λ n. (λ e. absurd cc, λ h. absurd (omega (arith, h.0)))

pub returns-in-Err-clause-too_long : goal.returns-in-Err-clause-too_long
returns-in-Err-clause-too_long c =
    let portion = written_signed c.args.name.now c.args.last c.args.content.now c.args.key_name.now in
    let all =
    total portion c.args.key.now c.body_len-body.result c.head_len.result c.saturating_add-octets.result
    c.body_len-body.ensures c.head_len.ensures.exact c.saturating_add-octets.ensures in
    λ n. (λ e. absurd cc, λ h. absurd (omega (arith, h.0)))
