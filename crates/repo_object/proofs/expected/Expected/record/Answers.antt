use Rattle.std.proofs.Common.{◌≡◌, ℕ, List, None, length, ap, arith}
use Rattle.ndn_name.specs.Names.{Component}
use Rattle.repo_object.specs.Objects.{record_name}
use Rattle.repo_object.specs.Wants.{wanted_part}
use Rattle.repo_object.proofs.PacketSizes.{record_name-size}
use Rattle.repo_object.proofs.WantLemmas.{is_spelled, named_octets, record_octets, record_valid}
use Rattle.repo_object.proofs.expected.Expected.record.Goals as goal

pub invariant_of-result : goal.invariant_of-result
invariant_of-result c =
    let name = record_name c.args.node.now c.args.group.now c.args.part.seq in
    let octets =
    record_octets c.octets.result.now c.octets-2.result.now c.args.node.now c.args.group.now c.args.part.seq
    c.octets.ensures.spelled c.octets-2.ensures.spelled in
    record {
      spelled =
          is_spelled _ name
          (record_valid c.args.node.now c.args.group.now c.args.part.seq c.octets.ensures.name c.octets-2.ensures.name
          (omega arith))
          octets;
      short =
          omega (
            arith,
            ap (λ (o : List ℕ). length o) octets,
            record_name-size c.args.node.now c.args.group.now c.args.part.seq c.requires.node c.requires.group
                (omega arith),
          );
      long = tt;
    }

pub returns : goal.returns
returns c =
    ap (λ (n : List Component). wanted_part c.args.part n None None)
    (named_octets _ (record_name c.args.node.now c.args.group.now c.args.part.seq)
    (record_valid c.args.node.now c.args.group.now c.args.part.seq c.octets.ensures.name c.octets-2.ensures.name
    (omega arith))
    (record_octets c.octets.result.now c.octets-2.result.now c.args.node.now c.args.group.now c.args.part.seq
    c.octets.ensures.spelled c.octets-2.ensures.spelled))
