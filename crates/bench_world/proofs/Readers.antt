-- What is read of a world.
use Rattle.std.proofs.Common.{◌≡◌, ℕ, ◌+◌, ◌<◌, Bool, cond, List, length, get_or, Option, Some, None, refl, sym, ap}
use Rattle.std.proofs.Common.{◌∙◌, arith}
use Rattle.std.specs.Prelude.{is_some}
use Rattle.repo_plan.specs.declared.part.Part.{Part}
use Rattle.sorted_lists.specs.SortedList.{keys, value_of, contains}
use Rattle.repo_plan.specs.Parts.{part_cmp}
use Rattle.group_model.specs.Member.{Member, member_holds}
use Rattle.group_model.specs.Events.{Event}
use Rattle.group_model.specs.World.{member}
use Rattle.repo_member.specs.MemberState.{MemberState}
use Rattle.repo_member.specs.InGroup.{published_packet}
use Rattle.repo_member.specs.ConsistentMembers.{published_packets}
use Rattle.repo_member.proofs.PublicLaws.{stores_those, contains-value}
use Rattle.bench_world.specs.Worlds.{GroupState, IsConsistentState, logs_around, world_of, drawing}
use Rattle.bench_world.proofs.States.{consistent, member_is, stepped}

pub counted_state : (s : GroupState) → IsConsistentState s → s.steps < 100000
    → IsConsistentState (record s { steps = s.steps + 1 })
counted_state s is few =
    stepped s is few (drawing (λ _ _. 0)) (λ t. omega arith) Event.Traffic tt s.members s.sent s.time s.tally refl
    is.numbers is.members is.sent refl

module _ (s : GroupState) (is : IsConsistentState s) (m : ℕ) (there : m < length s.members) (old : MemberState)
    (old_is : old ≡ get_or s.members m old) where
  held_is : (member (world_of s) m).held ≡ keys old.store
  held_is = ap (λ (x : Member). x.held) (member_is s is m there old old_is)

  -- The packet of a part that the member holds is its publisher's.
  pub packet_of_held : (t : Part)
      → value_of part_cmp old.store t
      ≡ cond (member_holds (member (world_of s) m) t) (published_packet s.keys (logs_around s.members) t) None
  packet_of_held t =
      go (value_of part_cmp old.store t) refl
      ∙ ap (λ (b : Bool). cond b (published_packet s.keys (logs_around s.members) t) None) (sym held) where
        held : member_holds (member (world_of s) m) t ≡ is_some (value_of part_cmp old.store t)
        held = ap (λ (ts : List Part). contains part_cmp ts t) held_is ∙ contains-value old.store t

        go : (x : Option (List ℕ)) → value_of part_cmp old.store t ≡ x
            → x ≡ cond (is_some x) (published_packet s.keys (logs_around s.members) t) None
        go None k = refl
        go (Some octets) k = sym ((consistent s is m there old old_is).packets t octets k)

  -- It stores the packets of the parts that it holds.
  pub store_at : old.store ≡ published_packets s.keys (logs_around s.members) (member (world_of s) m).held
  store_at =
      stores_those s.keys (logs_around s.members) old (consistent s is m there old old_is)
      ∙ ap (published_packets s.keys (logs_around s.members)) (sym held_is)
