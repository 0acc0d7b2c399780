-- How many octets the packets of parts have at most.
use Rattle.std.proofs.Common.{◌≡◌, ℕ, ◌≤◌, Bool, true, false, cond, List, [], length, Option, Some, None, refl, arith}
use Rattle.std.specs.Prelude.{unwrap_or, IsSomeAnd}
use Rattle.repo_plan.specs.declared.part.Part.{Part}
use Rattle.sorted_lists.specs.SortedList.{contains}
use Rattle.repo_plan.specs.Parts.{part_cmp}
use Rattle.group_model.specs.Publications.{Logs, all_parts}
use Rattle.group_model.proofs.PublicLaws.{parts_are_those}
use Rattle.repo_member.specs.Groups.{GroupKeys}
use Rattle.repo_member.specs.InGroup.{AreLogs, published_packet}
use Rattle.repo_member.proofs.PublicLaws.{packets_are_there}
use Rattle.bench_world.specs.Sizes.{size_of}

-- A packet has at most 8,800 octets.
pub size_short : (g : GroupKeys) (logs : Logs) → AreLogs g logs → (t : Part) → size_of g logs t ≤ 8800
size_short g logs are t =
    go (contains part_cmp (all_parts logs) t) (published_packet g logs t)
    (λ h. packets_are_there g logs t are ((parts_are_those logs t).0 h)) where
      go : (b : Bool) (o : Option (List ℕ)) → (b ≡ true → IsSomeAnd o (λ octets. length octets ≤ 8800))
          → cond b (length (unwrap_or o [])) 0 ≤ 8800
      go true None h = omega arith
      go true (Some octets) h = h refl
      go false o h = omega arith
