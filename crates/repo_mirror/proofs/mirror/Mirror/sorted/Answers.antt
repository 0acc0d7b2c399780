use Rattle.std.proofs.Common.{◌≡◌, inl, inr, true, false, List, [], ◌∷◌, ◌++◌, map, length, rules, refl, sym, ap, ◌∙◌}
use Rattle.std.proofs.Common.{subst, slice_index_or, arith}
use Rattle.std.specs.List.{All}
use Rattle.std.specs.Slice.Iter.{iter_rest}
use Rattle.std.specs.Iterator.Adapters.{zip_first, zip_second}
use Rattle.std.proofs.lemmas.Bool.{true≢false, or_cases, false_from_ne_true}
use Rattle.std.proofs.lemmas.List.{append-nil, length-append, map-append}
use Rattle.std.proofs.lemmas.List.Elements.{All-nil, All-push}
use Rattle.std.specs.Ordering.{eq_by_cmp}
use Rattle.sorted_lists.specs.SortedList.{Rises, contains, insert_key, insert_keys}
use Rattle.sorted_lists.proofs.Sets.{contains_in, in_map, eq_same, contains-insert_key, rises_insert}
use Rattle.sorted_lists.proofs.Members.{in_at}
use Rattle.repo_plan.specs.declared.part.Part.{Part}
use Rattle.repo_plan.specs.Parts.{Pair, pair_cmp, part_cmp, pair_of}
use Rattle.repo_plan.specs.Plan.{PlanState}
use Rattle.repo_plan.specs.Sound.{PlanIsSound}
use Rattle.repo_plan.proofs.Orders.{exact_parts, exact_pairs}
use Rattle.repo_object.specs.Verdict.{CheckedPart}
use Rattle.repo_holdings.specs.Taking.{Fetched, came, CanBeTaken, PartsDiffer}
use Rattle.repo_holdings.specs.declared.holdings.taking.Tried.{Tried}
use Rattle.repo_member.specs.Outcomes.{outcome_of}
use Rattle.repo_member.proofs.OutcomeLemmas.{nothing_left, parts_came}
use Rattle.repo_watch.specs.declared.pattern.Pattern.{Pattern}
use Rattle.repo_mirror.specs.PacketsFor.{IsCheckedFetch}
use Rattle.repo_mirror.specs.MirrorState.{MirrorState, fetch_plan}
use Rattle.repo_mirror.specs.Passing.{is_fetch_for, fetches_for, not_kept, IsUnknownIn}
use Rattle.repo_mirror.proofs.MirrorLemmas.{reading}
use Rattle.repo_mirror.proofs.SortedLemmas.{kept_step, passed_still, kept_still, passed_step, passed_record}
use Rattle.repo_mirror.proofs.SortedLemmas.{kept_differ, kept_apart}
use Rattle.repo_mirror.proofs.JobLemmas.{wants_lists, lent_if, lent_octets, outcome_differs, first_job}
use Rattle.repo_mirror.proofs.JobLemmas.{fetched, first_outcome, came_is, can_be_taken, wanted_unknown}
use Rattle.repo_mirror.proofs.mirror.Mirror.sorted.Goals as goal

pub tried-requires : goal.tried-requires
tried-requires g c =
    let steps = c.in-Some.ensures.steps in
    let is =
    first_job c.args.self.now c.in-Some.job.now c.in-Some.checked.now c.in-Some.tries.now _ _ _ _ _ _ steps.0.0
    steps.0.1 steps.1 c.loop-job.invariant.rest in
    record {
      checked =
          lent_if (λ (k : CheckedPart). k.want ≡ c.in-Some.job.now.want) c.as_ref.result c.in-Some.checked.now
          c.as_ref.ensures.value is.0.checked;
    }

pub loop-job-init : goal.loop-job-init
loop-job-init g c =
    let it = c.into_iter-job-iterator.result in
    let jobs : iter_rest (zip_first (zip_first it)) ≡ c.args.jobs.now = search rules in
    let parts : iter_rest (zip_second (zip_first it)) ≡ c.args.parts.now = search rules in
    let tries : iter_rest (zip_second it) ≡ c.args.attempts.now = search rules in
    let pattern = c.args.self.now.pattern in
    let none = c.new-passed.ensures.items in
    let nothing = c.in_ok-kept.ensures.items in
    record {
      kept = λ i. map came (nothing i) ++ fetches_for pattern (outcome_of (jobs i) (parts i) (tries i));
      passed = λ i. insert_keys pair_cmp (not_kept pattern (outcome_of (jobs i) (parts i) (tries i))) (none i);
      in_order = subst (Rises pair_cmp) (sym none) tt;
      checked = subst (λ (xs : List Tried). All IsCheckedFetch (map came xs)) (sym nothing) (All-nil IsCheckedFetch);
      can =
          λ k d low. absurd (let empty = ap (λ (xs : List Tried). length xs) nothing in omega (arith, low, empty));
      unknown =
          λ pair h. absurd (true≢false (sym h ∙ ap (λ (ps : List Pair). contains pair_cmp ps pair) none));
      few =
          let empty = ap (λ (xs : List Tried). length xs) nothing in
          let all = ap (λ (js : List _). length js) jobs in omega (arith, empty, all);
      rest = rw (jobs, parts, tries) c.requires.outcome.each;
    }

pub loop-job-preserved-in-Continue-branch-3 : goal.loop-job-preserved-in-Continue-branch-3
loop-job-preserved-in-Continue-branch-3 g c =
    let m : MirrorState = c.args.self.now in
    let inv = c.loop-job.invariant in
    let steps = c.in-Some.ensures.steps in
    let job = c.in-Some.job.now in
    let part = c.in-Some.checked.now in
    let n = c.in-Some.tries.now in
    let one : Tried = c.in_ok-tried.tried in
    let received = c.in_ok-tried.ensures in
    let is = first_job m job part n _ _ _ _ _ _ steps.0.0 steps.0.1 steps.1 inv.rest in
    let first = first_outcome m job part n _ _ _ _ _ _ steps.0.0 steps.0.1 steps.1 in
    let later = outcome_of (iter_rest (zip_first (zip_first c.next.new.self)))
    (iter_rest (zip_second (zip_first c.next.new.self))) (iter_rest (zip_second c.next.new.self)) in
    let same : came one ≡ fetched m job part n =
    came_is m job part n one is.0 received.part received.attempts
    (received.packet ∙ lent_octets c.as_ref.result part c.as_ref.ensures.value) in
    let kept : is_fetch_for m.pattern (fetched m job part n) ≡ true =
    ap (λ (p : Pattern). is_fetch_for p (fetched m job part n))
    (sym (ap (λ (s : MirrorState). s.pattern) c.self.view_is))
    ∙ ap (is_fetch_for c.self.inside.pattern) (sym same)
    ∙ sym c.is_for.ensures
    ∙ c.if-is_for.true in
    let pushed = c.in_ok-push.ensures.items in
    let arrived = received.arrival m.store (wants_lists m job part n is.0) in
    let can = can_be_taken m job part n one is.0 received.part received.attempts arrived in
    record {
      kept =
          ap (λ (xs : List Tried). map came xs ++ fetches_for m.pattern later) pushed
          ∙ kept_step m.pattern (fetched m job part n) _ _ first kept c.loop-job.kept.items one same
          ∙ inv.kept;
      passed = passed_still m.pattern (fetched m job part n) _ _ first kept c.loop-job.passed.items ∙ inv.passed;
      in_order = inv.in_order;
      checked =
          subst (All IsCheckedFetch)
          (sym (ap (map came) pushed ∙ map-append came c.loop-job.kept.items (one ∷ [])))
          (All-push IsCheckedFetch (map came c.loop-job.kept.items) (came one) inv.checked received.checked);
      can =
          subst (All (CanBeTaken (fetch_plan m) m.store)) (sym pushed)
          (All-push (CanBeTaken (fetch_plan m) m.store) c.loop-job.kept.items one inv.can can);
      unknown = inv.unknown;
      few =
          let long =
          ap (λ (xs : List Tried). length xs) pushed ∙ length-append c.loop-job.kept.items (one ∷ []) in
          let all = ap (λ (js : List _). length js) steps.0.0 in omega (arith, long, all, inv.few);
      rest = is.1;
    }

pub put_in_order-requires : goal.put_in_order-requires
put_in_order-requires g c = c.loop-job.invariant.in_order

pub loop-job-preserved-in_ok-put_in_order : goal.loop-job-preserved-in_ok-put_in_order
loop-job-preserved-in_ok-put_in_order g c =
    let m : MirrorState = c.args.self.now in
    let inv = c.loop-job.invariant in
    let steps = c.in-Some.ensures.steps in
    let job = c.in-Some.job.now in
    let part = c.in-Some.checked.now in
    let n = c.in-Some.tries.now in
    let one : Tried = c.in_ok-tried.tried in
    let received = c.in_ok-tried.ensures in
    let is = first_job m job part n _ _ _ _ _ _ steps.0.0 steps.0.1 steps.1 inv.rest in
    let first = first_outcome m job part n _ _ _ _ _ _ steps.0.0 steps.0.1 steps.1 in
    let later = outcome_of (iter_rest (zip_first (zip_first c.next.new.self)))
    (iter_rest (zip_second (zip_first c.next.new.self))) (iter_rest (zip_second c.next.new.self)) in
    let same : came one ≡ fetched m job part n =
    came_is m job part n one is.0 received.part received.attempts
    (received.packet ∙ lent_octets c.as_ref.result part c.as_ref.ensures.value) in
    let passed : is_fetch_for m.pattern (fetched m job part n) ≡ false =
    ap (λ (p : Pattern). is_fetch_for p (fetched m job part n))
    (sym (ap (λ (s : MirrorState). s.pattern) c.self.view_is))
    ∙ ap (is_fetch_for c.self.inside.pattern) (sym same)
    ∙ sym c.is_for.ensures
    ∙ c.if-is_for.false in
    let here : pair_of one.part ≡ pair_of job.want.part = ap pair_of received.part in
    let more : c.put_in_order.new.passed.items ≡ insert_key pair_cmp (pair_of job.want.part) c.loop-job.passed.items =
    c.in_ok-put_in_order.ensures ∙ ap (λ (k : Pair). insert_key pair_cmp k c.loop-job.passed.items) here in
    let sound : PlanIsSound (fetch_plan m) =
    subst PlanIsSound (reading (λ (p : PlanState). p) c.self.inside m c.self.invariant c.self.view_is)
    c.cite_soundness.ensures in
    let new : IsUnknownIn (fetch_plan m) (pair_of job.want.part) =
    wanted_unknown (fetch_plan m) job.want.part sound is.0.part_wanted
    (passed_record m.pattern (fetched m job part n) passed) in
    record {
      kept =
          kept_still m.pattern (fetched m job part n) _ _ first passed (map came c.loop-job.kept.items) ∙ inv.kept;
      passed =
          ap (insert_keys pair_cmp (not_kept m.pattern later)) more
          ∙ passed_step m.pattern (fetched m job part n) _ _ first passed c.loop-job.passed.items inv.in_order
          ∙ inv.passed;
      in_order =
          subst (Rises pair_cmp) (sym more)
          (rises_insert exact_pairs.total (pair_of job.want.part) c.loop-job.passed.items inv.in_order);
      checked = inv.checked;
      can = inv.can;
      unknown = λ pair h.
          elim (or_cases (eq_by_cmp pair_cmp pair (pair_of job.want.part))
          (contains pair_cmp c.loop-job.passed.items pair)
          (sym (ap (λ (ps : List Pair). contains pair_cmp ps pair) more
          ∙ contains-insert_key exact_pairs (pair_of job.want.part) c.loop-job.passed.items pair)
          ∙ h)) [
            | inl e ↦
                subst (IsUnknownIn (fetch_plan m)) (sym (eq_same exact_pairs pair (pair_of job.want.part) e)) new
            | inr o ↦ inv.unknown pair o
          ];
      few = let all = ap (λ (js : List _). length js) steps.0.0 in omega (arith, all, inv.few);
      rest = is.1;
    }

pub returns-clause-kept : goal.returns-clause-kept
returns-clause-kept g c =
    let nothing =
    nothing_left (iter_rest (zip_first (zip_first c.loop-job.job-iterator)))
    (iter_rest (zip_second (zip_first c.loop-job.job-iterator))) (iter_rest (zip_second c.loop-job.job-iterator))
    (elim c.in-None.ensures.steps [
      | inl earlier ↦ elim earlier.1 [ inl jobs ↦ inl jobs.1.0 | inr parts ↦ inr (inl parts.1.0) ]
      | inr tries ↦ inr (inr tries.1.0)
    ]) in
    sym (append-nil (map came c.loop-job.kept.items))
    ∙ ap (λ (xs : List Fetched). map came c.loop-job.kept.items ++ fetches_for c.args.self.now.pattern xs)
    (sym nothing)
    ∙ c.loop-job.invariant.kept

pub returns-clause-passed : goal.returns-clause-passed
returns-clause-passed g c =
    let nothing =
    nothing_left (iter_rest (zip_first (zip_first c.loop-job.job-iterator)))
    (iter_rest (zip_second (zip_first c.loop-job.job-iterator))) (iter_rest (zip_second c.loop-job.job-iterator))
    (elim c.in-None.ensures.steps [
      | inl earlier ↦ elim earlier.1 [ inl jobs ↦ inl jobs.1.0 | inr parts ↦ inr (inl parts.1.0) ]
      | inr tries ↦ inr (inr tries.1.0)
    ]) in
    ap (λ (xs : List Fetched).
    insert_keys pair_cmp (not_kept c.args.self.now.pattern xs) c.loop-job.passed.items) (sym nothing)
    ∙ c.loop-job.invariant.passed

pub returns-clause-checked : goal.returns-clause-checked
returns-clause-checked g c = c.loop-job.invariant.checked

pub returns-clause-takable : goal.returns-clause-takable
returns-clause-takable g c =
    let m : MirrorState = c.args.self.now in
    let all = outcome_of c.args.jobs.now c.args.parts.now c.args.attempts.now in
    record {
      each = c.loop-job.invariant.can;
      apart =
          subst PartsDiffer
          (sym (parts_came c.loop-job.kept.items
          ∙ ap (map (λ (y : Fetched). y.part)) (returns-clause-kept g c)))
          (kept_differ m.pattern all
          (outcome_differs m c.args.jobs.now c.args.parts.now c.args.attempts.now c.requires.outcome.each
          c.requires.outcome.apart));
    }

pub returns-clause-few : goal.returns-clause-few
returns-clause-few g c =
    omega (arith, c.loop-job.invariant.few, c.requires.few, c.loop-job.kept.ok)

pub returns-clause-apart : goal.returns-clause-apart
returns-clause-apart g c =
    let m : MirrorState = c.args.self.now in
    let all = outcome_of c.args.jobs.now c.args.parts.now c.args.attempts.now in
    let kept : List Tried = c.loop-job.kept.items in
    record {
      unknown = c.loop-job.invariant.unknown;
      others = λ k d low.
          let x : Tried = slice_index_or kept k d in
          false_from_ne_true (contains pair_cmp c.loop-job.passed.items (pair_of x.part)) (λ h.
          let zero = (c.loop-job.invariant.unknown (pair_of x.part) h).record_alone x.part refl
          (c.loop-job.invariant.can k d low).asked in
          let among : contains part_cmp (map (λ (y : Fetched). y.part) (fetches_for m.pattern all)) x.part ≡ true =
          subst (λ (ts : List Part). contains part_cmp ts x.part ≡ true)
          (parts_came kept ∙ ap (map (λ (y : Fetched). y.part)) (returns-clause-kept g c))
          (contains_in exact_parts (map (λ (y : Tried). y.part) kept) x.part
          (in_map (λ (y : Tried). y.part) kept x (in_at kept k d low))) in
          true≢false
          (sym h
          ∙ ap (λ (ps : List Pair). contains pair_cmp ps (pair_of x.part)) (returns-clause-passed g c)
          ∙ kept_apart m.pattern all
          (outcome_differs m c.args.jobs.now c.args.parts.now c.args.attempts.now c.requires.outcome.each
          c.requires.outcome.apart) x.part zero among));
    }
