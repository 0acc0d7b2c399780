-- What claims make of a world.
use Rattle.std.proofs.Common.{◌≡◌, ℕ, ◌+◌, ◌-◌, ◌<◌, List, length, get_or, set, Option, Some, None, refl, sym, ap, ◌∙◌}
use Rattle.std.proofs.Common.{subst, arith}
use Rattle.std.proofs.lemmas.List.{map-set, set-get_or}
use Rattle.repo_plan.specs.declared.part.Part.{Part}
use Rattle.repo_plan.specs.Plan.{claim_of, unclaimed, first}
use Rattle.group_model.specs.Member.{Member}
use Rattle.group_model.specs.Events.{Event}
use Rattle.group_model.specs.Changes.{member_with_claim}
use Rattle.group_model.specs.World.{World, no_member, member, with_member}
use Rattle.group_model.specs.Steps.{claim_at, to_claim, after_claiming}
use Rattle.repo_member.specs.MemberState.{MemberState, member_plan, member_claims}
use Rattle.repo_member.specs.InGroup.{in_group}
use Rattle.repo_member.specs.ConsistentMembers.{IsConsistentMember}
use Rattle.repo_member.proofs.PublicLaws.{open_parts_alike, claims_consistent, loses_consistent}
use Rattle.bench_world.specs.Worlds.{GroupState, IsConsistentState, in_groups, logs_around, world_of, drawing}
use Rattle.bench_world.proofs.States.{consistent, number_is, member_is, in_world, consistent_in, stepped_at}

module _ (s : GroupState) (is : IsConsistentState s) (m : ℕ) (there : m < length s.members) (old : MemberState)
    (old_is : old ≡ get_or s.members m old) where
  pub claim_is : (f : ℕ) → claim_at (world_of s) m f ≡ claim_of (member_plan old) f
  claim_is f = ap (λ (x : Member). get_or x.claims (f - 1) None) (member_is s is m there old old_is)

  pub to_claim_is : to_claim (world_of s) m ≡ first (unclaimed (member_plan old))
  to_claim_is =
      ap first
      (open_parts_alike (world_of s) m s.keys old (in_world s is m there old old_is)
      (consistent_in s is m there old old_is))

  -- ---- a fetcher claims a part, or nothing

  module _ (f : ℕ) (claim : Option Part) (first_is : claim ≡ first (unclaimed (member_plan old))) (b : MemberState)
      (b_is : b ≡ member_claims f claim old) (idle : claim_of (member_plan old) f ≡ None) where
    -- So it is for a claim of nothing too, since the fetcher claimed nothing.
    same_claims : (c : Option Part) → claim ≡ c
        → world_of (record s { members = set s.members m b; steps = s.steps + 1 }) ≡ after_claiming (world_of s) m f c
    same_claims c e = go c e where
      made : in_groups (set s.members m b)
          ≡ set (in_groups s.members) m (member_with_claim f claim (member (world_of s) m))
      made =
          map-set in_group s.members m b
          ∙ ap (set (in_groups s.members) m)
          (ap in_group b_is ∙ ap (member_with_claim f claim) (sym (member_is s is m there old old_is)))

      nothing : member_with_claim f None (member (world_of s) m) ≡ member (world_of s) m
      nothing =
          let none : get_or (member (world_of s) m).claims (f - 1) None ≡ None = claim_is f ∙ idle in
          ap (λ (c : Option Part). member_with_claim f c (member (world_of s) m)) (sym none)
          ∙ ap (λ (cs : List (Option Part)). let x : Member = record (member (world_of s) m) { claims = cs } in x)
          (set-get_or (member (world_of s) m).claims (f - 1) None)

      go : (c : Option Part) → claim ≡ c
          → world_of (record s { members = set s.members m b; steps = s.steps + 1 }) ≡ after_claiming (world_of s) m f c
      go None e =
          ap (λ (ms : List Member). let w : World = record (world_of s) { members = ms } in w)
          (made
          ∙ ap (λ (c : Option Part). set (in_groups s.members) m (member_with_claim f c (member (world_of s) m))) e
          ∙ ap (set (in_groups s.members) m) nothing ∙ set-get_or (in_groups s.members) m no_member)
      go (Some t) e =
          ap (λ (ms : List Member). let w : World = record (world_of s) { members = ms } in w)
          (made
          ∙ ap (λ (c : Option Part). set (in_groups s.members) m (member_with_claim f c (member (world_of s) m))) e)

    pub claimed_world : world_of (record s { members = set s.members m b; steps = s.steps + 1 })
        ≡ after_claiming (world_of s) m f (to_claim (world_of s) m)
    claimed_world = same_claims claim refl ∙ ap (after_claiming (world_of s) m f) (first_is ∙ sym to_claim_is)

    pub claimed_state : s.steps < 100000 → IsConsistentState
        (record s { members = set s.members m b; steps = s.steps + 1 })
    claimed_state few =
        let one :
        IsConsistentMember s.keys (logs_around s.members) (member_claims f (first (unclaimed (member_plan old))) old) =
        claims_consistent s.keys (logs_around s.members) f old is.are (consistent s is m there old old_is) in
        stepped_at s is few (drawing (λ _ _. 0)) (λ t. omega arith) (Event.Claim m f) tt m there b
        (ap (λ (a : MemberState). a.number) b_is ∙ number_is s is m there old old_is)
        (subst (IsConsistentMember s.keys (logs_around s.members))
        (sym (b_is ∙ ap (λ (c : Option Part). member_claims f c old) first_is)) one)
        s.sent s.time s.tally is.sent claimed_world

  -- ---- a claim ends

  module _ (f : ℕ) (b : MemberState) (b_is : b ≡ member_claims f None old) where
    pub lost_world : world_of (record s { members = set s.members m b; steps = s.steps + 1 })
        ≡ with_member (world_of s) m (member_with_claim f None (member (world_of s) m))
    lost_world =
        ap (λ (ms : List Member). let w : World = record (world_of s) { members = ms } in w)
        (map-set in_group s.members m b
        ∙ ap (set (in_groups s.members) m)
        (ap in_group b_is ∙ ap (member_with_claim f None) (sym (member_is s is m there old old_is))))

    pub lost_state : s.steps < 100000 → IsConsistentState
        (record s { members = set s.members m b; steps = s.steps + 1 })
    lost_state few =
        stepped_at s is few (drawing (λ _ _. 0)) (λ t. omega arith) (Event.Lose m f) tt m there b
        (ap (λ (a : MemberState). a.number) b_is ∙ number_is s is m there old old_is)
        (subst (IsConsistentMember s.keys (logs_around s.members)) (sym b_is)
        (loses_consistent s.keys (logs_around s.members) f old (consistent s is m there old old_is)))
        s.sent s.time s.tally is.sent lost_world
