-- How far the counts of one member go.
use Rattle.std.proofs.Common.{◌≡◌, ℕ, suc, zero, ◌+◌, ◌-◌, ◌*◌, ◌≤◌, Bool, true, false, cond, not, List, [], ◌∷◌}
use Rattle.std.proofs.Common.{length, get_or, set, refl, sym, ap, ◌∙◌, subst, arith, Option, Some, None}
use Rattle.std.specs.Ordering.{nat_cmp, eq_by_cmp}
use Rattle.repo_plan.specs.declared.part.Part.{Part}
use Rattle.sorted_lists.specs.SortedList.{value_of, with_value}
use Rattle.sorted_lists.proofs.Orders.{exact_numbers}
use Rattle.sorted_lists.proofs.Sets.{value_of-with_value}
use Rattle.svs_sync.specs.SyncStates.{SyncState}
use Rattle.repo_process.specs.Processes.{Process, BlockState, indexes, has_index, has_block, with_block, with_it}
use Rattle.repo_process.specs.Processes.{is_whole, block_in}
use Rattle.repo_process.specs.Processes.BlockState.{Unknown, Already, Waiting, Whole}
use Rattle.group_model.specs.Member.{Member, tries_of}
use Rattle.group_model.specs.World.{no_member}
use Rattle.group_model.specs.Limits.{IsMemberWithin}

-- a change that uses at most one draw, tries no part more than 16 times, and keeps insertions short
pub mem_change : (old new : ℕ) (m n : Member) → n.machine.draws ≤ m.machine.draws + (new - old)
    → ((t : Part) → tries_of n.attempts t ≤ tries_of m.attempts t + (new - old) * 16)
    → ((i : ℕ) (p : Process) → value_of nat_cmp n.processes i ≡ Some p → length (indexes p) ≤ 200) → old ≤ new
    → IsMemberWithin old m → IsMemberWithin new n
mem_change old new m n d a b l h = record {
  draws = let x : m.machine.draws ≤ old + 1 = h.draws in omega (arith, d, x, l);
  tried = λ t.
      let x : tries_of m.attempts t ≤ old * 16 = h.tried t in
      let y : tries_of n.attempts t ≤ tries_of m.attempts t + (new - old) * 16 = a t in omega (arith, x, y, l);
  blocks = b;
}

-- a change of neither sync state, attempts nor processes
pub mem_beside : (old new : ℕ) (m n : Member) → n.machine ≡ m.machine → n.attempts ≡ m.attempts
    → n.processes ≡ m.processes → old ≤ new → IsMemberWithin old m → IsMemberWithin new n
mem_beside old new m n k a p l h = mem_change old new m n
    (let e : n.machine.draws ≡ m.machine.draws = ap (λ (x : SyncState). x.draws) k in omega (arith, e))
    (λ t.
    let e : tries_of n.attempts t ≡ tries_of m.attempts t = ap (λ (x : List (Part × ℕ)). tries_of x t) a in
    omega (arith, e))
    (λ i q e. h.blocks i q (sym (ap (λ (x : List (ℕ × Process)). value_of nat_cmp x i) p) ∙ e)) l h

-- a change of the sync state, by at most one draw
pub mem_machine : (s : ℕ) (m n : Member) → n.machine.draws ≤ m.machine.draws + 1 → n.attempts ≡ m.attempts
    → ((i : ℕ) (q : Process) → value_of nat_cmp n.processes i ≡ Some q → length (indexes q) ≤ 200) → IsMemberWithin s m
    → IsMemberWithin (s + 1) n
mem_machine s m n d a b h = mem_change s (s + 1) m n
    (omega (arith, d))
    (λ t.
    let e : tries_of n.attempts t ≡ tries_of m.attempts t = ap (λ (x : List (Part × ℕ)). tries_of x t) a in
    omega (arith, e))
    b (omega arith) h

abbrev pub AreShort : List (ℕ × Process) → Type 0
AreShort ps = (i : ℕ) (q : Process) → value_of nat_cmp ps i ≡ Some q → length (indexes q) ≤ 200

pub short_process : (ps : List (ℕ × Process)) (number : ℕ) (p : Process) → length (indexes p) ≤ 200 → AreShort ps
    → AreShort (with_value nat_cmp number p ps)
short_process ps number p short each i q e =
    go (eq_by_cmp nat_cmp i number) (sym (value_of-with_value exact_numbers number p ps i) ∙ e) where
      go : (b : Bool) → cond b (Some p) (value_of nat_cmp ps i) ≡ Some q → length (indexes q) ≤ 200
      go true e = let same : p ≡ q = cc in subst (λ (x : Process). length (indexes x) ≤ 200) same short
      go false e = each i q e

-- a change of insertions alone
pub mem_process : (old new : ℕ) (m n : Member) → n.machine ≡ m.machine → n.attempts ≡ m.attempts → AreShort n.processes
    → old ≤ new → IsMemberWithin old m → IsMemberWithin new n
mem_process old new m n k a short l h = mem_change old new m n
    (let e : n.machine.draws ≡ m.machine.draws = ap (λ (x : SyncState). x.draws) k in omega (arith, e))
    (λ t.
    let e : tries_of n.attempts t ≡ tries_of m.attempts t = ap (λ (x : List (Part × ℕ)). tries_of x t) a in
    omega (arith, e))
    short l h

-- ---- blocks

-- a process after a block has at most 200 blocks
abbrev pub HasFewBlocks : BlockState → Type 0
HasFewBlocks Unknown = Unit {0}
HasFewBlocks Already = Unit {0}
HasFewBlocks (Waiting p) = length (indexes p) ≤ 200
HasFewBlocks (Whole p) = length (indexes p) ≤ 200

few_with_it : (p : Process) → length (indexes p) ≤ 200 → HasFewBlocks (with_it p)
few_with_it p h = go (is_whole p) where
  go : (b : Bool) → HasFewBlocks (cond b (Whole p) (Waiting p))
  go true = h
  go false = h

few_with_block : (index : ℕ) (content : List ℕ) (p : Process) → length (indexes p) ≤ 200
    → length (indexes (with_block index content p)) ≤ 200
few_with_block index content p h = go (has_block p index) where
  go : (b : Bool) → length (indexes (cond b p (record p { blocks = with_value nat_cmp index content p.blocks }))) ≤ 200
  go true = h
  go false = h

pub few_in : (index : ℕ) (content : List ℕ) (p : Option Process)
    → ((q : Process) → p ≡ Some q → length (indexes q) ≤ 200) → HasFewBlocks (block_in index content p)
few_in index content None each = tt
few_in index content (Some p) each = go (not (has_index p index)) p.published where
  go : (a b : Bool) → HasFewBlocks (cond a Unknown (cond b Already (with_it (with_block index content p))))
  go true b = tt
  go false true = tt
  go false false = few_with_it (with_block index content p) (few_with_block index content p (each p refl))

-- ---- any member of a list

pub mem_more : (old new : ℕ) (m : Member) → old ≤ new → IsMemberWithin old m → IsMemberWithin new m
mem_more old new m l h = mem_beside old new m m refl refl refl l h

pub each_set : (s : ℕ) (ms : List Member) (i : ℕ) (m : Member) → ((j : ℕ) → IsMemberWithin s (get_or ms j no_member))
    → IsMemberWithin s m → (j : ℕ) → IsMemberWithin s (get_or (set ms i m) j no_member)
each_set s [] i m each h j = each j
each_set s (x ∷ xs) zero m each h zero = h
each_set s (x ∷ xs) zero m each h (suc j) = each (suc j)
each_set s (x ∷ xs) (suc i) m each h zero = each zero
each_set s (x ∷ xs) (suc i) m each h (suc j) = each_set s xs i m (λ k. each (suc k)) h j
