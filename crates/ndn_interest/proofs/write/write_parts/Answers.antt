use Rattle.std.proofs.Common.{length, ap, ◌∙◌, arith}
use Rattle.ndn_interest.proofs.WriteLemmas.{length-digested}
use Rattle.ndn_interest.proofs.write.write_parts.Goals as goal

pub with_digest-requires : goal.with_digest-requires
with_digest-requires c =
    omega (
      arith,
      ap length (c.octets.ensures ∙ c.in_ok-digested.ensures),
      length-digested c.args.name.now c.args.key_name.now c.args.parameters.now c.args.key.now,
    )
