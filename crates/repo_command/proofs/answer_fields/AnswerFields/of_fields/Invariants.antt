use Rattle.std.proofs.Common.{◌≡◌, ℕ, ◌+◌, length, map}
use Rattle.ndn_tlv.specs.Elements.{AreWithin, item}
use Rattle.ndn_tlv.specs.Listing.{gathered}
use Rattle.repo_command.specs.Answers.{bad_answer_field, with_answer_field, answer_fields, answer_so_far}
use Rattle.repo_command.proofs.answer_fields.AnswerFields.of_fields.Given as goal

abbrev pub invariant-loop-next : goal.invariant-loop-next
invariant-loop-next l = record {
  so_far : gathered with_answer_field bad_answer_field (answer_so_far l.gathered) l.fields
      ≡ answer_fields (item l.element);
  low : ℕ;
  within : AreWithin low (l.element.value_start + length l.element.value.now) (map (λ f. f.1) l.fields.items);
}

abbrev pub decreases-loop-next : goal.decreases-loop-next
decreases-loop-next l = length l.fields.items
