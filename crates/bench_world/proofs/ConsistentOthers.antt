-- All members but one.
use Rattle.std.proofs.Common.{◌≡◌, ℕ, suc, zero, List, [], ◌∷◌, sym, subst, arith}
use Rattle.std.specs.List.{remove}
use Rattle.repo_member.specs.Groups.{GroupKeys}
use Rattle.repo_member.specs.MemberState.{MemberState}
use Rattle.group_model.specs.Publications.{Logs}
use Rattle.bench_world.specs.Worlds.{AreConsistentMembers}

-- If all members are consistent, all but one are.
without : (g : GroupKeys) (logs : Logs) (xs : List MemberState) (k : ℕ) → AreConsistentMembers g logs xs
    → AreConsistentMembers g logs (remove xs k)
without g logs [] zero all j l = absurd (omega (arith, l))
without g logs [] (suc k) all j l = absurd (omega (arith, l))
without g logs (m ∷ ms) zero all j l = all (suc j) (omega (arith, l))
without g logs (m ∷ ms) (suc k) all zero l = all 0 (omega arith)
without g logs (m ∷ ms) (suc k) all (suc j) l =
    without g logs ms k (λ i h. all (suc i) (omega (arith, h))) j (omega (arith, l))

pub others_consistent : (g : GroupKeys) (logs : Logs) (ms mid : List MemberState) (j : ℕ)
    → AreConsistentMembers g logs ms
    → mid ≡ remove ms j → AreConsistentMembers g logs mid
others_consistent g logs ms mid j consistent e = subst (AreConsistentMembers g logs) (sym e)
    (without g logs ms j consistent)
