use Rattle.std.proofs.Common.{◌∙◌, ℕ, ◌-◌, List, Some, length, ap, arith}
use Rattle.ndn_name.specs.Names.{Component}
use Rattle.repo_object.specs.Objects.{record_name, segment_name}
use Rattle.repo_object.specs.Wants.{wanted_part}
use Rattle.repo_object.proofs.PacketSizes.{record_name-size, segment_name-size}
use Rattle.repo_object.proofs.WantLemmas.{is_spelled, named_octets, index_octets, record_valid, segment_valid}
use Rattle.repo_object.proofs.expected.Expected.of_index.Goals as goal

pub invariant_of-result : goal.invariant_of-result
invariant_of-result c =
    let part = c.args.part in
    let record_ = record_name c.args.node.now c.args.group.now part.seq in
    let octets =
    index_octets c.octets.result.now c.octets-2.result.now c.args.node.now c.args.group.now part.seq (part.part - 1)
    c.octets.ensures.spelled c.octets-2.ensures.spelled in
    record {
      spelled =
          is_spelled _ (segment_name record_ (part.part - 1))
          (segment_valid record_ (part.part - 1)
          (record_valid c.args.node.now c.args.group.now part.seq c.octets.ensures.name c.octets-2.ensures.name
          (omega arith)) (omega arith))
          octets;
      short =
          omega (
            arith,
            ap (λ (o : List ℕ). length o) octets,
            segment_name-size record_ (part.part - 1) (omega arith),
            record_name-size c.args.node.now c.args.group.now part.seq c.requires.node c.requires.group (omega arith),
          );
      long = omega arith;
    }

pub returns : goal.returns
returns c =
    let part = c.args.part in
    let record_ = record_name c.args.node.now c.args.group.now part.seq in
    ap (λ (n : List Component). wanted_part part n (Some c.args.listed.now) (Some c.listed_in.result))
    (named_octets _ (segment_name record_ (part.part - 1))
    (segment_valid record_ (part.part - 1)
    (record_valid c.args.node.now c.args.group.now part.seq c.octets.ensures.name c.octets-2.ensures.name (omega arith))
    (omega arith))
    (index_octets c.octets.result.now c.octets-2.result.now c.args.node.now c.args.group.now part.seq (part.part - 1)
    c.octets.ensures.spelled c.octets-2.ensures.spelled))
    ∙ ap (λ (n : ℕ). wanted_part part (segment_name record_ (part.part - 1)) (Some c.args.listed.now) (Some n))
    c.listed_in.ensures
