use Rattle.std.proofs.Common.{◌≡◌, ℕ, ◌-◌, List, length, length-append, take, take_at, ap, ◌∙◌, arith}
use Rattle.ndn_tlv.specs.Spelling.{element}
use Rattle.ndn_name.specs.Names.{encoding}
use Rattle.ndn_interest.specs.Interest.{without_last}
use Rattle.ndn_interest.proofs.LastLemmas.{digest_ends}
use Rattle.ndn_interest.proofs.parameters_digest.before_digest.Goals as goal

pub overflow_sub-octets : goal.overflow_sub-octets
overflow_sub-octets c =
    let ends = digest_ends c.args.name.now c.octets-octets.ensures.name c.requires in
    omega (
      arith,
      ends.size,
      ap length c.octets-octets.ensures.spelled,
      ap length ends.spelled,
      length-append (encoding (without_last c.args.name.now)) (element 2 ends.digest),
    )

pub returns : goal.returns
returns c =
    let ends = digest_ends c.args.name.now c.octets-octets.ensures.name c.requires in
    let prefix = encoding (without_last c.args.name.now) in
    let last = element 2 ends.digest in
    let whole = c.octets-octets.ensures.spelled ∙ ends.spelled in
    let long : length prefix ≡ length c.octets-octets.result.now - 34 =
    omega (arith, ends.size, ap length whole, length-append prefix last) in
    c.split_at.ensures.front
    ∙ ap (λ (o : List ℕ). take (length c.octets-octets.result.now - 34) o) whole
    ∙ take_at prefix last (length c.octets-octets.result.now - 34) long
