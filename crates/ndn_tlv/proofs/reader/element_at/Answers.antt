use Rattle.std.proofs.Common.{length, refl, slice_index_or, ◌∙◌}
use Rattle.std.specs.List.{between}
use Rattle.ndn_tlv.proofs.ShortElements.{two_and_rest, short_element}
use Rattle.ndn_tlv.proofs.reader.element_at.Goals as goal

pub returns-in-Some-clause-read : goal.returns-in-Some-clause-read
returns-in-Some-clause-read c =
    let octets = c.args.octets.now in
    let split = c.in-Some.ensures.cases in
    short_element c.args.offset octets (slice_index_or octets 0 0) (slice_index_or octets 1 0)
    (between 2 (length octets) octets) (two_and_rest octets c.in-len2-up.len_at_least) c.if-typ-gt0.true
    c.if-typ-lt253.true c.if-len-lt253.true (rw (← c.from.ensures) split.0)
    ∙ rw (c.element_of.ensures, c.from-in-len2-up.ensures, split.3, split.1, split.2, c.from.ensures) refl
