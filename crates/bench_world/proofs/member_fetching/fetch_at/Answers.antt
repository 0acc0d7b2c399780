use Rattle.std.proofs.Common.{◌≡◌, ℕ, rules, length, sym, ap, subst, ◌∙◌}
use Rattle.std.specs.Prelude.{Result, Ok, Err, IfOk, sum_by}
use Rattle.std.proofs.lemmas.List.{get_or_default}
use Rattle.std.proofs.lemmas.Result.{on_ok_weaker, on_err_weaker, IfOk-weaker}
use Rattle.group_model.specs.World.{World, Environment, logs}
use Rattle.group_model.specs.Steps.{planned_parts, fetched_parts, attempts_made}
use Rattle.repo_member.specs.Groups.{GroupKeys}
use Rattle.repo_member.specs.MemberState.{MemberState, member_holdings}
use Rattle.repo_member.specs.ConsistentMembers.{IsConsistentMember}
use Rattle.bench_world.specs.declared.fetch.FetchReport.{FetchReport}
use Rattle.bench_world.specs.Serving.{environment}
use Rattle.bench_world.specs.Sizes.{size_of}
use Rattle.bench_world.specs.Counts.{AreFetchCounts}
use Rattle.bench_world.specs.Truth.{TriedFew}
use Rattle.bench_world.specs.Worlds.{nobody, AreConsistentMembers, MembersAreNumbered}
use Rattle.bench_world.proofs.ConsistentOthers.{others_consistent}
use Rattle.bench_world.proofs.EitherAnswer.{either_way}
use Rattle.bench_world.proofs.GroupFetches.{fetched_at}
use Rattle.bench_world.proofs.Bounded.{condition, member_passed_on}
use Rattle.bench_world.proofs.member_fetching.fetch_at.Goals as goal

counted : {E : Type 0} (g : GroupKeys) (env : Environment) (w : World) (j tries loss : ℕ) (r : Result FetchReport E)
    → IfOk r (λ x. x.planned ≡ length (planned_parts w j))
    → IfOk r (λ x. x.kept.parts ≡ length (fetched_parts env w j tries loss))
    → IfOk r (λ x. x.kept.octets ≡ sum_by (size_of g (logs w)) (fetched_parts env w j tries loss))
    → IfOk r (λ x. x.attempts ≡ attempts_made env w j tries loss)
    → IfOk r (AreFetchCounts g env w j tries loss)
counted g env w j tries loss (Ok x) planned parts octets attempts =
    record { planned = planned; parts = parts; octets = octets; attempts = attempts }
counted g env w j tries loss (Err e) planned parts octets attempts = tt

pub fetch-fetched-requires : goal.fetch-fetched-requires
fetch-fetched-requires g c κs within =
    let can = condition c.requires in
    let here =
    c.remove-member.ensures.value
    ∙ get_or_default c.args.members.now.items c.args.j c.remove-member.result nobody can.there in
    member_passed_on within (search rules) c.requires
    (record {
      workers = can.workers;
      tries = can.tries;
      logs = can.logs;
      others =
          subst (AreConsistentMembers c.args.g.now (logs g.begun)) (sym c.as_slice.ensures.value)
          (others_consistent c.args.g.now (logs g.begun) c.args.members.now.items c.remove-member.new.self.items
          c.args.j can.consistent c.remove-member.ensures.items);
      consistent =
          subst (IsConsistentMember c.args.g.now (logs g.begun)) (sym here)
          (can.consistent c.args.j can.there);
      tried = subst (λ (a : MemberState). TriedFew (member_holdings a)) (sym here) (can.tried c.args.j can.there);
    })

pub returns : goal.returns
returns g c =
    let can = condition c.requires in
    let r = c.fetch-fetched.result in
    let done =
    fetched_at (g.N.Net.passes c.args.net.now) (λ _ _. 0) c.args.g.now g.begun can.logs.are c.args.members.now.items
    can.begun can.numbers can.consistent c.args.j can.there c.args.tries c.args.loss c.remove-member.new.self.items
    c.as_slice.result.now c.put_back.new.row.items c.remove-member.result c.fetch-fetched.new.holder
    c.remove-member.ensures.value c.remove-member.ensures.items c.as_slice.ensures.value c.put_back.ensures in
    record {
      members = on_ok_weaker r done.after c.fetch-fetched.ensures.new;
      counts =
          counted c.args.g.now (environment c.args.g.now (λ _ _. 0) (g.N.Net.passes c.args.net.now)) g.begun c.args.j
          c.args.tries c.args.loss r
          (IfOk-weaker r _ _ (λ _ planned. planned ∙ done.planned) c.fetch-fetched.ensures.planned)
          (IfOk-weaker r _ _ (λ _ parts. parts ∙ ap length done.came) c.fetch-fetched.ensures.parts)
          (IfOk-weaker r _ _ (λ _ octets. octets ∙ ap (sum_by (size_of c.args.g.now (logs g.begun))) done.came)
          c.fetch-fetched.ensures.octets)
          (IfOk-weaker r _ _ (λ _ attempts. attempts ∙ done.attempts) c.fetch-fetched.ensures.attempts);
      len = done.len;
      consistent =
          either_way r (on_ok_weaker r done.consistent c.fetch-fetched.ensures.new)
          (on_err_weaker r (λ stays.
          subst (AreConsistentMembers c.args.g.now (logs g.begun)) (sym (done.same stays)) can.consistent)
          c.fetch-fetched.ensures.err);
      numbers =
          either_way r (on_ok_weaker r done.numbers c.fetch-fetched.ensures.new)
          (on_err_weaker r (λ stays. subst MembersAreNumbered (sym (done.same stays)) can.numbers)
          c.fetch-fetched.ensures.err);
      err = on_err_weaker r done.same c.fetch-fetched.ensures.err;
    }
