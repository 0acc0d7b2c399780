use Rattle.std.proofs.Common.{rules, List, refl, sym, subst, ◌∙◌}
use Rattle.std.specs.Prelude.{IfOk, OnOk}
use Rattle.std.proofs.lemmas.List.{get_or_default}
use Rattle.repo_member.specs.MemberState.{MemberState, member_holdings}
use Rattle.repo_member.specs.ConsistentMembers.{IsConsistentMember}
use Rattle.bench_world.specs.Truth.{TriedFew}
use Rattle.bench_world.specs.Worlds.{others_than, nobody, state_at, AreConsistentMembers}
use Rattle.bench_world.specs.MemberWords.{member_words}
use Rattle.bench_world.specs.Gathering.{Counts, NothingLeft, one_each}
use Rattle.bench_world.specs.Sizes.{size_of}
use Rattle.bench_world.specs.Touching.{LacksOnlyTouched}
use Rattle.bench_world.proofs.ConsistentOthers.{others_consistent}
use Rattle.bench_world.proofs.TakenOut.{put_at, put_between, put_changed}
use Rattle.bench_world.proofs.Bounded.{condition, member_passed_on}
use Rattle.bench_world.proofs.member_fetches.fetch_all_at.Goals as goal

pub returns-clause-others : goal.returns-clause-others
returns-clause-others g c =
    let can = condition c.requires in
    put_changed nobody c.args.members.now.items c.remove-member.new.self.items c.put_back.new.row.items c.args.j
    c.fetch_all-kept.new.holder can.there
    c.remove-member.ensures.items c.put_back.ensures

pub fetch_all-kept-requires : goal.fetch_all-kept-requires
fetch_all-kept-requires g c κs within =
    let can = condition c.requires in
    let here =
    c.remove-member.ensures.value
    ∙ get_or_default c.args.members.now.items c.args.j c.remove-member.result nobody can.there in
    member_passed_on within (search rules) c.requires
    (record {
      workers = can.workers;
      logs = can.logs;
      others =
          subst (AreConsistentMembers c.args.g.now g.logs) (sym c.as_slice.ensures.value)
          (others_consistent c.args.g.now g.logs c.args.members.now.items c.remove-member.new.self.items c.args.j
          can.members c.remove-member.ensures.items);
      loss = refl;
      consistent =
          subst (IsConsistentMember c.args.g.now g.logs) (sym here)
          (can.members c.args.j can.there);
      tried = subst (λ (a : MemberState). TriedFew (member_holdings a)) (sym here) (can.tried c.args.j can.there);
      lacks =
          subst (λ (others : List MemberState).
          LacksOnlyTouched member_words c.args.touched.now others c.remove-member.result)
          (sym (c.as_slice.ensures.value ∙ c.remove-member.ensures.items))
          (subst (LacksOnlyTouched member_words c.args.touched.now (others_than c.args.j c.args.members.now.items))
          (sym here) can.lacks);
    })

pub returns-clause-left : goal.returns-clause-left
returns-clause-left g c =
    let can = condition c.requires in
    let here =
    put_at nobody c.args.members.now.items c.remove-member.new.self.items c.put_back.new.row.items c.args.j
    c.fetch_all-kept.new.holder can.there c.remove-member.ensures.items c.put_back.ensures in
    subst (λ (others : List MemberState).
    OnOk c.fetch_all-kept.result (NothingLeft member_words others (state_at c.put_back.new.row.items c.args.j)))
    (c.as_slice.ensures.value ∙ c.remove-member.ensures.items)
    (subst (λ (a : MemberState). OnOk c.fetch_all-kept.result (NothingLeft member_words c.as_slice.result.now a))
    (sym here)
    c.fetch_all-kept.ensures.left)

pub returns-clause-parts : goal.returns-clause-parts
returns-clause-parts g c =
    let can = condition c.requires in
    let P : MemberState → MemberState → Type 0 =
    λ a b. IfOk c.fetch_all-kept.result (λ kept. Counts member_words one_each kept.parts a b) in
    put_between nobody c.args.members.now.items c.remove-member.new.self.items c.put_back.new.row.items c.args.j
    c.fetch_all-kept.new.holder can.there c.remove-member.ensures.items c.put_back.ensures c.remove-member.result P
    (c.remove-member.ensures.value
    ∙ get_or_default c.args.members.now.items c.args.j c.remove-member.result nobody can.there)
    c.fetch_all-kept.ensures.parts

pub returns-clause-octets : goal.returns-clause-octets
returns-clause-octets g c =
    let can = condition c.requires in
    let P : MemberState → MemberState → Type 0 =
    λ a b. IfOk c.fetch_all-kept.result (λ kept. Counts member_words (size_of c.args.g.now g.logs) kept.octets a b) in
    put_between nobody c.args.members.now.items c.remove-member.new.self.items c.put_back.new.row.items c.args.j
    c.fetch_all-kept.new.holder can.there c.remove-member.ensures.items c.put_back.ensures c.remove-member.result P
    (c.remove-member.ensures.value
    ∙ get_or_default c.args.members.now.items c.args.j c.remove-member.result nobody can.there)
    c.fetch_all-kept.ensures.octets
