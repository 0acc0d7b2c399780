use Rattle.std.proofs.Common.{◌≡◌, ℕ, ◌+◌, ◌-◌, ◌^◌, min, Err, Result, Vec, Global, sym, ap, ◌∙◌, arith}
use Rattle.ndn_name.specs.declared.fault.PacketWriteFault.{PacketWriteFault}
use Rattle.ndn_name.specs.declared.fault.PacketWriteFault.TheVariants.{TooLong}
use Rattle.ndn_interest.proofs.WriteLemmas.{total}
use Rattle.ndn_interest.proofs.write.write_signed.Goals as goal

abbrev refused : PacketWriteFault → Result (Vec ℕ Global) PacketWriteFault
refused f = Err f

number_of : (m n : ℕ) → refused (TooLong m) ≡ refused (TooLong n) → m ≡ n
number_of m n e = cc

pub returns-then-octets-gt-PACKET_LIMIT-clause-too_long : goal.returns-then-octets-gt-PACKET_LIMIT-clause-too_long
returns-then-octets-gt-PACKET_LIMIT-clause-too_long c =
    let body =
    c.saturating_add-body.ensures
    ∙ ap (λ (n : ℕ). min (c.digested_len-digested.result + n) (2 ^ 64 - 1)) c.name_len.ensures.exact in
    let all =
    total c.args.name.now c.args.key_name.now c.args.parameters.now c.args.key.now c.digested_len-digested.result
    c.saturating_add-body.result c.head_len.result c.saturating_add-octets.result c.digested_len-digested.ensures body
    c.head_len.ensures.exact c.saturating_add-octets.ensures in
    λ n. (
      λ e. (omega arith, sym (number_of c.saturating_add-octets.result n e) ∙ all),
      λ h. ap (λ (m : ℕ). refused (TooLong m)) (all ∙ sym h.1),
    )

pub returns-in-Ok-clause-fits : goal.returns-in-Ok-clause-fits
returns-in-Ok-clause-fits c =
    let body =
    c.saturating_add-body.ensures
    ∙ ap (λ (n : ℕ). min (c.digested_len-digested.result + n) (2 ^ 64 - 1)) c.name_len.ensures.exact in
    let all =
    total c.args.name.now c.args.key_name.now c.args.parameters.now c.args.key.now c.digested_len-digested.result
    c.saturating_add-body.result c.head_len.result c.saturating_add-octets.result c.digested_len-digested.ensures body
    c.head_len.ensures.exact c.saturating_add-octets.ensures in
    omega arith

pub returns-in-Ok-clause-too_long : goal.returns-in-Ok-clause-too_long
returns-in-Ok-clause-too_long c =
    let body =
    c.saturating_add-body.ensures
    ∙ ap (λ (n : ℕ). min (c.digested_len-digested.result + n) (2 ^ 64 - 1)) c.name_len.ensures.exact in
    let all =
    total c.args.name.now c.args.key_name.now c.args.parameters.now c.args.key.now c.digested_len-digested.result
    c.saturating_add-body.result c.head_len.result c.saturating_add-octets.result c.digested_len-digested.ensures body
    c.head_len.ensures.exact c.saturating_add-octets.ensures in
    λ n. (λ e. absurd cc, λ h. absurd (omega (arith, h.0)))

pub returns-in-Err-clause-too_long : goal.returns-in-Err-clause-too_long
returns-in-Err-clause-too_long c =
    let body =
    c.saturating_add-body.ensures
    ∙ ap (λ (n : ℕ). min (c.digested_len-digested.result + n) (2 ^ 64 - 1)) c.name_len.ensures.exact in
    let all =
    total c.args.name.now c.args.key_name.now c.args.parameters.now c.args.key.now c.digested_len-digested.result
    c.saturating_add-body.result c.head_len.result c.saturating_add-octets.result c.digested_len-digested.ensures body
    c.head_len.ensures.exact c.saturating_add-octets.ensures in
    λ n. (λ e. absurd cc, λ h. absurd (omega (arith, h.0)))
