use Rattle.std.proofs.Common.{◌≡◌, inl, inr, List, map, ◌++◌, sym, ap, ◌∙◌, subst, refl, Option, option_map}
use Rattle.std.proofs.Common.{arith}
use Rattle.std.specs.Prelude.{IfSome}
use Rattle.std.specs.List.{All}
use Rattle.std.specs.Slice.Iter.{iter_rest}
use Rattle.std.specs.Iterator.Adapters.{zip_first, zip_second}
use Rattle.std.proofs.lemmas.List.{append-nil}
use Rattle.std.proofs.lemmas.List.Elements.{All-push}
use Rattle.repo_object.specs.Verdict.{CheckedPart}
use Rattle.repo_holdings.specs.declared.record_summary.Arrival.{Arrival}
use Rattle.repo_holdings.specs.declared.holdings.taking.Tried.{Tried}
use Rattle.repo_member.specs.MemberState.{member_plan}
use Rattle.repo_holdings.specs.Taking.{Fetched}
use Rattle.repo_holdings.specs.Gaining.{IsArrival}
use Rattle.repo_member.specs.Outcomes.{outcome_of, IsCheckedFor}
use Rattle.repo_holdings.specs.Taking.{came, CanBeTaken}
use Rattle.repo_member.proofs.OutcomeLemmas.{arrives, nothing_left, first_fetched, one_more, can_be_taken}
use Rattle.repo_member.proofs.OutcomeLemmas.{all_apart, all_counted, all_octets, all_tried}
use Rattle.repo_member.proofs.member.Member.tried.Goals.{in-Some-checked+in_ok-arrived-in-Some-checked, in-None-checked}
use Rattle.repo_member.proofs.member.Member.tried.Goals as goal

same_packet : (c : goal.In_ok-push)
    → option_map (λ (a : Arrival). a.packet) c.match-checked.arrival
    ≡ option_map (λ (k : CheckedPart). k.octets) c.in-Some.checked.now
same_packet c = elim c.match-checked.branch [
  | in-Some-checked+in_ok-arrived-in-Some-checked w ↦
      rw (w.arrival-is, w.in-Some-checked.is, w.in_ok-arrived-in-Some-checked.ensures.octets) refl
  | in-None-checked w ↦ rw (w.arrival-is, w.in-None-checked.is) refl
]

arrived : (c : goal.In_ok-push)
    → IfSome c.match-checked.arrival (λ a. IsArrival c.args.self.now.store c.part.result a.packet a.summary)
arrived c =
    let steps = c.in-Some.ensures.steps in
    let is =
    first_fetched c.args.g.now c.args.self.now c.in-Some.job.now c.in-Some.checked.now c.in-Some.tries.now _ _ _ _ _ _
    steps.0.0 steps.0.1 steps.1 c.loop-job.invariant.rest in
    elim c.match-checked.branch [
      | in-Some-checked+in_ok-arrived-in-Some-checked w ↦
          let checked =
          subst (λ (o : Option CheckedPart). IfSome o (IsCheckedFor c.args.g.now c.in-Some.job.now.want))
          w.in-Some-checked.is is.0.checked in
          rw (w.arrival-is, c.part.ensures)
          (arrives c.args.g.now c.args.self.now c.in-Some.job.now.want.part
          w.in-Some-checked.checked _ _ (checked.same ∙ is.0.wanted)
          w.in_ok-arrived-in-Some-checked.ensures.arrival)
      | in-None-checked w ↦ rw w.arrival-is tt
    ]

pub loop-job-preserved : goal.loop-job-preserved
loop-job-preserved c =
    let inv = c.loop-job.invariant in
    let steps = c.in-Some.ensures.steps in
    let is =
    first_fetched c.args.g.now c.args.self.now c.in-Some.job.now c.in-Some.checked.now c.in-Some.tries.now _ _ _ _ _ _
    steps.0.0 steps.0.1 steps.1 inv.rest in
    let one : Tried =
    record { part = c.part.result; attempts = c.in-Some.tries.now; arrival = c.match-checked.arrival } in
    let later = iter_rest (zip_first (zip_first c.next.new.self)) in
    let after = iter_rest (zip_second (zip_first c.next.new.self)) in
    let rest = iter_rest (zip_second c.next.new.self) in
    let can =
    can_be_taken c.args.g.now c.args.self.now c.in-Some.job.now c.in-Some.checked.now c.in-Some.tries.now one is.0
    c.part.ensures refl (arrived c) in
    let pushed = c.in_ok-push.ensures.items in
    record {
      came =
          ap (λ (xs : List Tried). map came xs ++ outcome_of later after rest) pushed
          ∙ one_more c.args.g.now c.args.self.now c.in-Some.job.now c.in-Some.checked.now c.in-Some.tries.now one _ _ _
          _ _ _ c.loop-job.all.items steps.0.0 steps.0.1 steps.1 c.part.ensures (same_packet c) refl
          ∙ inv.came;
      can =
          subst (All (CanBeTaken (member_plan c.args.self.now) c.args.self.now.store)) (sym pushed)
          (All-push (CanBeTaken (member_plan c.args.self.now) c.args.self.now.store) c.loop-job.all.items one inv.can
          can);
      rest = is.1;
    }

came_all : (c : goal.In-None)
    → map came c.loop-job.all.items ≡ outcome_of c.args.jobs.now c.args.parts.now c.args.attempts.now
came_all c =
    let nothing =
    nothing_left (iter_rest (zip_first (zip_first c.loop-job.job-iterator)))
    (iter_rest (zip_second (zip_first c.loop-job.job-iterator))) (iter_rest (zip_second c.loop-job.job-iterator))
    (elim c.in-None.ensures.steps [
      | inl earlier ↦ elim earlier.1 [ inl jobs ↦ inl jobs.1.0 | inr parts ↦ inr (inl parts.1.0) ]
      | inr tries ↦ inr (inr tries.1.0)
    ]) in
    sym (append-nil (map came c.loop-job.all.items))
    ∙ ap (λ (xs : List Fetched). map came c.loop-job.all.items ++ xs) (sym nothing)
    ∙ c.loop-job.invariant.came

pub returns-clause-came : goal.returns-clause-came
returns-clause-came c = came_all c

pub returns-clause-takable : goal.returns-clause-takable
returns-clause-takable c = record {
  each = c.loop-job.invariant.can;
  apart =
      all_apart c.args.g.now c.args.self.now c.args.jobs.now c.args.parts.now c.args.attempts.now c.requires.outcome
      c.loop-job.all.items (came_all c);
}

pub returns-clause-few : goal.returns-clause-few
returns-clause-few c =
    let many =
    all_tried c.args.g.now c.args.self.now c.args.jobs.now c.args.parts.now c.args.attempts.now c.requires.outcome
    c.loop-job.all.items (came_all c) in
    omega (arith, many, c.in-Ok.ensures, c.loop-job.all.ok)

pub returns-clause-parts : goal.returns-clause-parts
returns-clause-parts c =
    all_counted c.args.g.now c.args.self.now c.args.jobs.now c.args.parts.now c.args.attempts.now c.requires.outcome
    c.loop-job.all.items (came_all c)

pub returns-clause-octets : goal.returns-clause-octets
returns-clause-octets c =
    all_octets c.args.g.now c.args.self.now c.args.jobs.now c.args.parts.now c.args.attempts.now c.requires.outcome
    c.loop-job.all.items (came_all c)
