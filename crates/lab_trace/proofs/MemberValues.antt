-- What is noted of a member is what its group says.
use Rattle.std.proofs.Common.{◌≡◌, ◌∙◌, ◌<◌, ℕ, zero, suc, List, [], ◌∷◌, Option, Some, length, refl, sym, ap, subst}
use Rattle.std.proofs.Common.{arith}
use Rattle.std.specs.Prelude.{slice_index_or}
use Rattle.svs_sync.specs.Suppression.{mode_of}
use Rattle.repo_plan.specs.Plan.{PlanState, wanted}
use Rattle.repo_catalog.specs.declared.entry.Entry.{Entry}
use Rattle.repo_holdings.specs.Listed.{member_catalogue}
use Rattle.group_model.specs.Member.{Member, plan_of}
use Rattle.group_model.specs.World.{World, catalogue_at, logs, member, no_member}
use Rattle.repo_member.specs.MemberState.{MemberState, member_plan}
use Rattle.repo_member.specs.InGroup.{in_group}
use Rattle.repo_member.specs.ConsistentMembers.{IsConsistentMember}
use Rattle.repo_member.proofs.PublicLaws.{consistent_stores, plans_alike}
use Rattle.bench_world.specs.Worlds.{GroupState, IsConsistentState, in_groups, state_at, world_of}
use Rattle.lab_trace.specs.declared.values.Timer.{Timer}
use Rattle.lab_trace.specs.declared.values.Figures.{Figures}
use Rattle.lab_trace.specs.SameValues.{values_of}
use Rattle.lab_trace.specs.StateNotes.{member_figures, member_values}

at_member : (members : List MemberState) (m : ℕ) → m < length members
    → slice_index_or (in_groups members) m no_member ≡ in_group (state_at members m)
at_member [] m there = absurd (omega (arith, there))
at_member (a ∷ members) zero there = refl
at_member (a ∷ members) (suc m) there = at_member members m (omega (arith, there))

abbrev timer_of : Member → Option Timer
timer_of x = Some (record { mode = mode_of x.machine.heard; deadline = x.machine.deadline })

-- The member as its group has it.
in_its_world : (s : GroupState) (m : ℕ) (a : MemberState) → m < length s.members → a ≡ state_at s.members m
    → in_group a ≡ member (world_of s) m
in_its_world s m a there is = ap in_group is ∙ sym (at_member s.members m there)

pub members_figures : (s : GroupState) (m : ℕ) (a : MemberState) (figures : Figures) → IsConsistentState s
    → m < length s.members → a ≡ state_at s.members m
    → figures.timer ≡ Some (record { mode = mode_of a.machine.heard; deadline = a.machine.deadline })
    → figures.counts.holds ≡ length (member_plan a).held → figures.counts.wants ≡ length (wanted (member_plan a))
    → figures.counts.lists ≡ length (member_catalogue a.store) → member_catalogue a.store ≡ catalogue_at (world_of s) m
    → figures ≡ member_figures (world_of s) m
members_figures s m a figures consistent there is timer held wants lists listed =
    let w : World = world_of s in
    let at : in_group a ≡ member w m = in_its_world s m a there is in
    let its : IsConsistentMember s.keys (logs w) a =
    subst (IsConsistentMember s.keys (logs w)) (sym is) (consistent.members m there) in
    λ i. record {
      timer = (timer ∙ ap timer_of at) i;
      counts = record {
        holds = (held ∙ ap (λ (x : Member). length x.held) at) i;
        wants = (wants ∙ ap (λ (p : PlanState). length (wanted p))
            (plans_alike s.keys (logs w) a consistent.are (consistent_stores s.keys (logs w) a its)
            ∙ ap (plan_of (logs w)) at)) i;
        lists = (lists ∙ ap (λ (es : List Entry). length es) listed) i;
      };
    }

-- The values that a note says of a member are those of the world.
pub members_values_are : (s : GroupState) (m : ℕ) (a : MemberState) (known : List ℕ) (figures : Figures)
    → m < length s.members → a ≡ state_at s.members m → known ≡ a.known → figures ≡ member_figures (world_of s) m
    → values_of known figures ≡ member_values (world_of s) m
members_values_are s m a known figures there is knows are =
    let at = knows ∙ ap (λ (x : Member). x.known) (in_its_world s m a there is) in
    λ i. values_of (at i) (are i)
