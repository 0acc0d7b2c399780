-- What becomes of a world in which each sync state starts again after a settle.
use Rattle.std.proofs.Common.{◌≡◌, ℕ, suc, ◌+◌, ◌≤◌, ◌<◌, ◌^◌, Bool, List, [], ◌∷◌, length, refl, sym, ap, ◌∙◌, subst}
use Rattle.std.proofs.Common.{arith}
use Rattle.group_model.specs.Member.{Member}
use Rattle.group_model.specs.Events.{Event}
use Rattle.group_model.specs.World.{World, Environment}
use Rattle.group_model.specs.Laws.{NothingDeleted, AllJoined}
use Rattle.group_model.specs.Limits.{IsWithinSteps}
use Rattle.group_model.specs.Steps.{after_gathering, after_settle, reset_each}
use Rattle.group_model.proofs.PublicLaws.{settle_joins}
use Rattle.repo_member.specs.MemberState.{MemberState, member_resets}
use Rattle.repo_member.specs.InGroup.{in_group}
use Rattle.repo_member.specs.ConsistentMembers.{IsConsistentMember}
use Rattle.repo_member.proofs.PublicLaws.{resets_consistent}
use Rattle.bench_world.specs.Serving.{environment, lossless}
use Rattle.bench_world.specs.Worlds.{GroupState, IsConsistentState, state_at, in_groups, logs_around, world_of}
use Rattle.bench_world.proofs.States.{member_within, changed_state, sound_state, within_more}
use Rattle.bench_world.proofs.PacketSizes.{size_short}

pub all_few : (s : GroupState) → IsConsistentState s → (j : ℕ) → (state_at s.members j).machine.draws < 2 ^ 62
all_few s is j =
    let a : (state_at s.members j).machine.draws ≤ s.steps + 1 = (member_within s is j).draws in
    let few = is.steps in omega (arith, a, few)

resets_from : (env : Environment) (time k : ℕ) (ms new : List MemberState) → length new ≡ length ms
    → ((j : ℕ) → j < length ms
    → state_at new j ≡ member_resets time (env.draw (k + j) (state_at ms j).machine.draws) (state_at ms j))
    → in_groups new ≡ reset_each env time k (in_groups ms)
resets_from env time k [] [] len each = refl
resets_from env time k [] (x ∷ xs) len each = absurd (omega (arith, len))
resets_from env time k (m ∷ ms) [] len each = absurd (omega (arith, len))
resets_from env time k (m ∷ ms) (n ∷ ns) len each =
    let none : k + 0 ≡ k = omega arith in
    let head : in_group n ≡ in_group (member_resets time (env.draw k m.machine.draws) m) =
    ap in_group (each 0 (omega arith) ∙ ap (λ (i : ℕ). member_resets time (env.draw i m.machine.draws) m) none) in
    let tail : in_groups ns ≡ reset_each env time (k + 1) (in_groups ms) =
    resets_from env time (k + 1) ms ns (omega (arith, len)) (λ j l.
    let next : k + suc j ≡ k + 1 + j = omega arith in
    each (suc j) (omega (arith, l))
    ∙ ap (λ (i : ℕ). member_resets time (env.draw i (state_at ms j).machine.draws) (state_at ms j)) next) in
    λ i. head i ∷ tail i

module _ (s : GroupState) (is : IsConsistentState s) (few : s.steps < 100000) (draw : ℕ → ℕ → ℕ)
    (passes : ℕ → ℕ → ℕ → ℕ → ℕ → ℕ → Bool) (mid : GroupState) (consistent : IsConsistentState mid)
    (world_is : world_of mid ≡ after_gathering (lossless s.keys) (world_of s)) (steps_are : mid.steps ≡ s.steps + 1)
    (new : List MemberState) (len : length new ≡ length mid.members)
    (each : (j : ℕ) → j < length mid.members
    → state_at new j
    ≡ member_resets mid.time (draw j (state_at mid.members j).machine.draws) (state_at mid.members j)) where
  abbrev env : Environment
  env = environment s.keys draw passes

  pub reset_world : world_of (record mid { members = new }) ≡ after_settle env (world_of s)
  reset_world =
      let members : in_groups new ≡ reset_each env mid.time 0 (in_groups mid.members) =
      resets_from env mid.time 0 mid.members new len (λ j l.
      let none : j ≡ 0 + j = omega arith in
      each j l
      ∙ ap (λ (i : ℕ). member_resets mid.time (draw i (state_at mid.members j).machine.draws) (state_at mid.members j))
      none) in
      ap (λ (ms : List Member). let w : World = record (world_of mid) { members = ms } in w) members
      ∙ ap (λ (w : World). let x : World = record w { members = reset_each env w.time 0 w.members } in x) world_is

  pub reset_joined : NothingDeleted (world_of (record mid { members = new }))
      → AllJoined (world_of (record mid { members = new }))
  reset_joined =
      subst (λ (w : World). NothingDeleted w → AllJoined w) (sym reset_world)
      (settle_joins env (world_of s) (sound_state s is))

  pub reset_state : IsConsistentState (record mid { members = new })
  reset_state =
      let within : IsWithinSteps (s.steps + 1) (after_settle env (world_of s)) =
      within_more s is few env (λ t. size_short s.keys (logs_around s.members) is.are t) Event.Settle tt in
      changed_state mid consistent new mid.sent mid.time mid.tally mid.steps len
      (λ j l. ap (λ (a : MemberState). a.number) (each j (omega (arith, l, len)))
      ∙ consistent.numbers j (omega (arith, l, len)))
      (λ j l. subst (IsConsistentMember mid.keys (logs_around mid.members)) (sym (each j (omega (arith, l, len))))
      (resets_consistent mid.keys (logs_around mid.members) mid.time (draw j (state_at mid.members j).machine.draws)
      (state_at mid.members j) (consistent.members j (omega (arith, l, len)))))
      consistent.sent (omega arith) consistent.steps
      (subst (λ (k : ℕ). IsWithinSteps k (world_of (record mid { members = new }))) (sym steps_are)
      (subst (IsWithinSteps (s.steps + 1)) (sym reset_world) within))
