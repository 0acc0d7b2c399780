use Rattle.std.proofs.Common.{◌≡◌, ℕ, ◌-◌, List, Some, None, length, ap, arith}
use Rattle.ndn_name.specs.Names.{Component}
use Rattle.repo_object.specs.Objects.{segment_name}
use Rattle.repo_object.specs.Wants.{wanted_part}
use Rattle.repo_object.proofs.PacketSizes.{segment_name-size}
use Rattle.repo_object.proofs.WantLemmas.{is_spelled, named_octets, segment_octets, segment_valid}
use Rattle.repo_object.proofs.expected.Expected.of_segment.Goals as goal

pub invariant_of-result : goal.invariant_of-result
invariant_of-result c =
    let i = c.args.part.part - c.args.shape.index - 1 in
    let octets = segment_octets c.octets.result.now c.args.name.now i c.octets.ensures.spelled in
    record {
      spelled =
          is_spelled _ (segment_name c.args.name.now i)
          (segment_valid c.args.name.now i c.octets.ensures.name (omega arith)) octets;
      short =
          omega (
            arith,
            ap (λ (o : List ℕ). length o) octets,
            segment_name-size c.args.name.now i (omega arith),
            c.requires.name,
          );
      long = omega arith;
    }

pub returns : goal.returns
returns c =
    let i = c.args.part.part - c.args.shape.index - 1 in
    ap (λ (n : List Component). wanted_part c.args.part n (Some c.args.digest.now) None)
    (named_octets _ (segment_name c.args.name.now i)
    (segment_valid c.args.name.now i c.octets.ensures.name (omega arith))
    (segment_octets c.octets.result.now c.args.name.now i c.octets.ensures.spelled))
