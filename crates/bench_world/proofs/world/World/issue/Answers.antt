use Rattle.std.proofs.Common.{List, ◌<◌, ◌+◌, ◌∷◌, ◌++◌, [], length, set, sym, ap, ◌∙◌, subst}
use Rattle.group_model.specs.World.{Issued, World}
use Rattle.group_model.specs.Steps.{after_issue, command_answer}
use Rattle.repo_member.specs.MemberState.{MemberState}
use Rattle.repo_member.specs.Commanded as commanded
use Rattle.bench_world.specs.declared.issued.IssuedCommand.{IssuedCommand}
use Rattle.bench_world.specs.IssuedCommands.{issued_of}
use Rattle.bench_world.specs.IssuedList.{IssuedList}
use Rattle.bench_world.specs.Kept.{world_state}
use Rattle.bench_world.specs.Unsettled.{NobodyLacks}
use Rattle.bench_world.specs.Worlds.{GroupState, IsConsistentState, in_groups, world_of}
use Rattle.bench_world.proofs.Orders.{issue_answered, taken_is, issue_world, issue_state}
use Rattle.bench_world.proofs.Spreading.{issue_spreads}
use Rattle.bench_world.proofs.NobodyLacking.{all_unchanged, inside_too, nothing_lacks}
use Rattle.bench_world.proofs.world.World.issue.Goals as goal

pub invariant_of-self-2 : goal.invariant_of-self-2
invariant_of-self-2 c =
    let s = world_state c.self.inside in
    let there = subst (λ (x : GroupState). c.args.m < length x.members) (sym c.self.view_is) c.requires.there in
    let few = subst (λ (x : GroupState). x.steps < 100000) (sym c.self.view_is) c.requires.few in
    let known =
    subst (λ (x : GroupState). c.args.client < length x.keys.clients.names) (sym c.self.view_is) c.requires.client in
    let old = c.index_mut-member.result.now in
    let taken =
    taken_is s c.self.invariant.consistent c.args.m there old c.index_mut-member.ensures.value c.args.client
    c.args.command known
    c.requires.spelled c.requires.command c.deref.result.now (c.deref.ensures.value ∙ c.in_ok-octets.ensures) in
    let b_is = c.in_ok-answered.ensures.ok ∙ ap (λ r. commanded.member_after_order r old) taken in
    let one : IssuedCommand = record { member = c.args.m; client = c.args.client; command = c.args.command } in
    let made =
    c.add_reserved.ensures.made
    ∙ ap (λ (x : IssuedList). x.commands ++ issued_of one ∷ []) c.in_ok-reserve.ensures.ok in
    record {
      consistent =
          issue_state s c.self.invariant.consistent c.args.m there old c.index_mut-member.ensures.value c.args.client
          c.args.command
          c.add_reserved.new.self.commands made c.command.new.self b_is few c.requires.short;
      nobody_lacks =
          nothing_lacks s c.args.m there c.self.inside.unsettled c.self.invariant.nobody_lacks
          (set s.members c.args.m c.command.new.self)
          (after_issue (world_of s) c.args.m c.args.client c.args.command)
          (ap (λ (w : World). w.members)
          (issue_world s c.self.invariant.consistent c.args.m there old c.index_mut-member.ensures.value c.args.client
          c.args.command c.add_reserved.new.self.commands made c.command.new.self b_is))
          (λ n. issue_spreads n (world_of s) c.args.m (inside_too s c.args.m there) c.args.client
          c.args.command);
    }

pub returns-clause-issued : goal.returns-clause-issued
returns-clause-issued c =
    let s = world_state c.self.inside in
    let there = subst (λ (x : GroupState). c.args.m < length x.members) (sym c.self.view_is) c.requires.there in
    let known =
    subst (λ (x : GroupState). c.args.client < length x.keys.clients.names) (sym c.self.view_is) c.requires.client in
    let old = c.index_mut-member.result.now in
    let taken =
    taken_is s c.self.invariant.consistent c.args.m there old c.index_mut-member.ensures.value c.args.client
    c.args.command known
    c.requires.spelled c.requires.command c.deref.result.now (c.deref.ensures.value ∙ c.in_ok-octets.ensures) in
    let b_is = c.in_ok-answered.ensures.ok ∙ ap (λ r. commanded.member_after_order r old) taken in
    let one : IssuedCommand = record { member = c.args.m; client = c.args.client; command = c.args.command } in
    let made =
    c.add_reserved.ensures.made
    ∙ ap (λ (x : IssuedList). x.commands ++ issued_of one ∷ []) c.in_ok-reserve.ensures.ok in
    record {
      world =
          issue_world s c.self.invariant.consistent c.args.m there old c.index_mut-member.ensures.value c.args.client
          c.args.command
          c.add_reserved.new.self.commands made c.command.new.self b_is
          ∙ ap (λ (x : GroupState). after_issue (world_of x) c.args.m c.args.client c.args.command) c.self.view_is;
      answer =
          c.in_ok-answered.ensures.answer.answer
          ∙ ap (λ r. commanded.member_order_answer r old) taken
          ∙ issue_answered s c.self.invariant.consistent c.args.m there old c.index_mut-member.ensures.value
          c.args.client c.args.command
          ∙ ap (λ (x : GroupState). command_answer (world_of x) c.args.m c.args.command) c.self.view_is;
      steps = ap (λ (x : GroupState). x.steps + 1) c.self.view_is;
      keys = ap (λ (x : GroupState). x.keys) c.self.view_is;
      mirrors = ap (λ (x : GroupState). x.mirrors) c.self.view_is;
    }

pub invariant_of-self-in_err-answered : goal.invariant_of-self-in_err-answered
invariant_of-self-in_err-answered c =
    let s = world_state c.self.inside in
    let there = subst (λ (x : GroupState). c.args.m < length x.members) (sym c.self.view_is) c.requires.there in
    let back =
    all_unchanged s.members c.args.m there c.index_mut-member.result.now c.index_mut-member.ensures.value
    c.command.new.self c.in_err-answered.ensures.err in
    record {
      consistent =
          subst (λ (ms : List MemberState).
          IsConsistentState (record s { members = ms; issued = c.reserve.new.self.commands }))
          (sym back)
          (subst (λ (is : List Issued). IsConsistentState (record s { issued = is }))
          (sym (ap (λ (x : IssuedList). x.commands) c.in_ok-reserve.ensures.ok)) c.self.invariant.consistent);
      nobody_lacks =
          subst (λ (ms : List MemberState). NobodyLacks c.self.inside.unsettled (in_groups ms) s.mirrors) (sym back)
          c.self.invariant.nobody_lacks;
    }
