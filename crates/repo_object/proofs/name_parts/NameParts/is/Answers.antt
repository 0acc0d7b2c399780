use Rattle.std.proofs.Common.{◌≡◌, ◌++◌, List, ℕ, [], append_assoc, append-nil, refl, sym, ap, ◌∙◌}
use Rattle.ndn_tlv.specs.Types as types
use Rattle.repo_object.specs.NameParts.{numbered, spelled}
use Rattle.repo_object.specs.declared.name_parts.NameParts.{NameParts}
use Rattle.repo_object.proofs.NameStarts.{begins_so, begins_with_three, not_the_second, are_others, are_those}
use Rattle.repo_object.proofs.name_parts.NameParts.is.Goals as goal

abbrev both : NameParts → List ℕ
both parts = parts.first.now ++ parts.second.now

abbrev seq_of : NameParts → List ℕ
seq_of parts = numbered types.SequenceNumNameComponent parts.seq

abbrev segment_of : NameParts → List ℕ
segment_of parts = numbered types.SegmentNameComponent parts.segment

pub returns-in_default : goal.returns-in_default
returns-in_default c =
    let parts = c.args.self.now in
    are_others c.args.octets.now (spelled parts) (parts.second.now ++ (seq_of parts ++ segment_of parts))
    parts.first.now (append_assoc parts.first.now parts.second.now (seq_of parts ++ segment_of parts))
    c.in_default.ensures

pub returns-in_default-after : goal.returns-in_default-after
returns-in_default-after c =
    let parts = c.args.self.now in
    are_others c.args.octets.now (spelled parts) (seq_of parts ++ segment_of parts) (both parts) refl
    (not_the_second c.args.octets.now parts.first.now parts.second.now c.in-Some.rest.now c.in-Some.ensures
    c.in_default-after.ensures)

pub returns-in_default-after_number : goal.returns-in_default-after_number
returns-in_default-after_number c =
    let parts = c.args.self.now in
    are_others c.args.octets.now (spelled parts) (segment_of parts) (both parts ++ seq_of parts)
    (sym (append_assoc (both parts) (seq_of parts) (segment_of parts)))
    (not_the_second c.args.octets.now (both parts) (seq_of parts) c.in-Some-after.rest.now
    (begins_so c.args.octets.now parts.first.now parts.second.now c.in-Some.rest.now c.in-Some-after.rest.now
    c.in-Some.ensures c.in-Some-after.ensures)
    c.in_default-after_number.ensures)

pub returns-in_default-after_number-2 : goal.returns-in_default-after_number-2
returns-in_default-after_number-2 c =
    let parts = c.args.self.now in
    are_others c.args.octets.now (spelled parts) [] ((both parts ++ seq_of parts) ++ segment_of parts)
    (sym (append_assoc (both parts) (seq_of parts) (segment_of parts))
    ∙ sym (append-nil ((both parts ++ seq_of parts) ++ segment_of parts)))
    (not_the_second c.args.octets.now (both parts ++ seq_of parts) (segment_of parts) c.in-Some-after_number.rest.now
    (begins_with_three c.args.octets.now parts.first.now parts.second.now (seq_of parts) c.in-Some.rest.now
    c.in-Some-after.rest.now c.in-Some-after_number.rest.now c.in-Some.ensures c.in-Some-after.ensures
    c.in-Some-after_number.ensures) c.in_default-after_number-2.ensures)

pub returns : goal.returns
returns c =
    let parts = c.args.self.now in
    let whole =
    begins_so c.args.octets.now (both parts ++ seq_of parts) (segment_of parts) c.in-Some-after_number.rest.now
    c.in-Some-after_number-2.rest.now
    (begins_with_three c.args.octets.now parts.first.now parts.second.now (seq_of parts) c.in-Some.rest.now
    c.in-Some-after.rest.now c.in-Some-after_number.rest.now c.in-Some.ensures c.in-Some-after.ensures
    c.in-Some-after_number.ensures) c.in-Some-after_number-2.ensures in
    c.is_empty.ensures
    ∙ are_those c.args.octets.now (spelled parts) c.in-Some-after_number-2.rest.now
    (whole
    ∙ ap (λ (octets : List ℕ). octets ++ c.in-Some-after_number-2.rest.now)
    (append_assoc (both parts) (seq_of parts) (segment_of parts)))
