use Rattle.std.proofs.Common.{List, ℕ, sym, ap, ◌∙◌, subst}
use Rattle.std.specs.Prelude.{IsSome}
use Rattle.repo_plan.specs.declared.part.Part.{Part}
use Rattle.repo_object.specs.Verdict.{stated_in}
use Rattle.repo_member.proofs.OutcomeLemmas.{checked_says, comes_so}
use Rattle.repo_member.proofs.member.fetching.arrived.Goals as goal

pub new-requires : goal.new-requires
new-requires c = record {
  record_part = λ zero.
      subst (λ (octets : List ℕ). IsSome (stated_in octets)) (sym c.in_ok-to_packet.ensures)
      (checked_says c.args.checked.now c.part.ensures.passed
      (ap (λ (t : Part). t.part) (sym c.part.ensures.same) ∙ zero));
}

pub returns-clause-arrival : goal.returns-clause-arrival
returns-clause-arrival c =
    comes_so c.args.checked.now c.part.result c.in_ok-to_packet.field-0 c.new.result c.part.ensures.same
    c.in_ok-to_packet.ensures c.part.ensures.passed c.new.ensures.arrival
