-- A member of which insertion processes or hidden publications change.
use Rattle.std.proofs.Common.{◌≡◌, ◌⊎◌, inl, inr, ℕ, zero, suc, ◌+◌, ◌-◌, ◌<◌, ◌≤◌, Bool, true, false, cond, List, []}
use Rattle.std.proofs.Common.{◌∷◌, length, get_or, Some, refl, sym, ap, ◌∙◌, subst, arith}
use Rattle.std.specs.List.{All, list_all}
use Rattle.std.specs.Ordering.{nat_cmp, eq_by_cmp}
use Rattle.std.proofs.lemmas.Bool.{or_cases}
use Rattle.ndn_name.specs.Names.{Component}
use Rattle.sorted_lists.specs.SortedList.{value_of, contains, insert_key}
use Rattle.sorted_lists.specs.Range.{numbers_from}
use Rattle.repo_plan.specs.Parts.{Pair, pair_cmp}
use Rattle.repo_plan.specs.Plan.{knows}
use Rattle.repo_plan.proofs.Orders.{exact_pairs}
use Rattle.sorted_lists.proofs.Sets.{In, eq_same, contains-insert_key, value_of-with_value}
use Rattle.sorted_lists.proofs.Orders.{exact_numbers}
use Rattle.repo_process.specs.Processes.{Process, starting, has_block, is_whole}
use Rattle.repo_process.specs.Insertions.{Insertions, starts, with_process}
use Rattle.group_model.proofs.Lists.{at_in}
use Rattle.repo_member.specs.declared.member.Member.TheInside.{Inside}
use Rattle.repo_member.specs.MemberState.{member_plan}
use Rattle.repo_holdings.specs.HoldingsState.{HoldingsState, AreInOrder}
use Rattle.repo_holdings.specs.Hiding.{with_hidden, hides_all}
use Rattle.repo_member.specs.Posts.{posts_of, IsKeptLog}
use Rattle.repo_member.specs.Members.{member_state, AreWaiting, IsMember}

-- ---- insertion processes

-- one process more, or another under a number
pub waiting_with : (insertions : Insertions) (number : ℕ) (p : Process) → (p.published ≡ false → is_whole p ≡ false)
    → AreWaiting insertions.processes → AreWaiting (with_process number p insertions).processes
waiting_with insertions number p waits are n q found =
    go (eq_by_cmp nat_cmp n number)
    (sym (value_of-with_value exact_numbers number p insertions.processes n) ∙ found) where
      go : (b : Bool) → cond b (Some p) (value_of nat_cmp insertions.processes n) ≡ Some q → q.published ≡ false
          → is_whole q ≡ false
      go true h = let same : p ≡ q = cc in subst (λ (r : Process). r.published ≡ false → is_whole r ≡ false) same waits
      go false h = are n q h

-- a process that begins has no block
begun_waits : (name : List Component) (first last : ℕ) → first ≤ last → is_whole (starting name first last) ≡ false
begun_waits name first last order = go (last + 1 - first) (omega (arith, order)) where
  go : (n : ℕ) → 1 ≤ n → list_all (has_block (starting name first last)) (numbers_from first n) ≡ false
  go zero h = absurd (omega (arith, h))
  go (suc n) h = refl

pub waiting_starts : (insertions : Insertions) (name : List Component) (first last : ℕ) → first ≤ last
    → AreWaiting insertions.processes → AreWaiting (starts name first last insertions).processes
waiting_starts insertions name first last order are =
    waiting_with insertions insertions.next_process (starting name first last) (λ h. begun_waits name first last order)
    are

-- other processes
pub with_processes : (m : Inside) (processes : Insertions) → IsMember m → AreWaiting processes.processes
    → IsMember (record m { processes = processes })
with_processes m processes is waiting = record {
  member_state = record {
    member = is.member_state.member;
    own = is.member_state.own;
    width = is.member_state.width;
    in_order = is.member_state.in_order;
    hidden = is.member_state.hidden;
  };
  known = is.known;
  log = is.log;
  waiting = waiting;
}

-- ---- hidden publications

hidden_cases : (pairs hidden : List Pair) (q : Pair) → contains pair_cmp (with_hidden pairs hidden) q ≡ true
    → (In q pairs) ⊎ (contains pair_cmp hidden q ≡ true)
hidden_cases [] hidden q h = inr h
hidden_cases (p ∷ pairs) hidden q h = elim (hidden_cases pairs (insert_key pair_cmp p hidden) q h) [
  | inl i ↦ inl (inr i)
  | inr there ↦
      elim (or_cases (eq_by_cmp pair_cmp q p) (contains pair_cmp hidden q)
      (sym (contains-insert_key exact_pairs p hidden q) ∙ there)) [
        | inl same ↦ inl (inl (eq_same exact_pairs q p same))
        | inr before ↦ inr before
      ]
]

all_in : (P : Pair → Type 0) (pairs : List Pair) (q : Pair) → All P pairs → In q pairs → P q
all_in P pairs q all i =
    let at : (k : ℕ) × (k < length pairs) × (q ≡ get_or pairs k q) = at_in pairs q q i in
    subst P (sym at.2) (all at.0 q at.1)

-- a member that has hidden known publications
pub hidden_is : (m next : Inside) (pairs : List Pair) → IsMember m → next.number ≡ m.number
    → next.log.items ≡ m.log.items → next.vector ≡ m.vector → next.machine ≡ m.machine → next.processes ≡ m.processes
    → next.held ≡ hides_all pairs m.held → AreInOrder next.held
    → All (λ pair. knows (member_plan (member_state m)) pair ≡ true) pairs → IsMember next
hidden_is m next pairs is number log vector machine processes hiding in_order each = record {
  member_state = record {
    member = omega (arith, number, ap (λ (v : List ℕ). length v) vector, is.member_state.member);
    own =
        ap (λ (v : List ℕ). get_or v next.number 0) vector
        ∙ ap (λ (n : ℕ). get_or m.vector n 0) number
        ∙ is.member_state.own
        ∙ sym (ap (λ l. length (posts_of l)) log);
    width = ap (λ k. k.members) machine ∙ is.member_state.width ∙ sym (ap (λ (v : List ℕ). length v) vector);
    in_order = in_order;
    hidden =
        λ q h. ap (λ (v : List ℕ). knows (record (member_plan (member_state m)) { known = v }) q) vector
        ∙ at q (hidden_cases pairs m.held.hidden q
        (ap (λ (x : HoldingsState). contains pair_cmp x.hidden q) (sym hiding) ∙ h));
  };
  known = ap (λ (x : HoldingsState). x.known) hiding ∙ is.known ∙ sym vector;
  log = subst IsKeptLog (sym log) is.log;
  waiting = subst (λ (i : Insertions). AreWaiting i.processes) (sym processes) is.waiting;
} where
  at : (q : Pair) → ((In q pairs) ⊎ (contains pair_cmp m.held.hidden q ≡ true)) → knows (member_plan (member_state m)) q
      ≡ true
  at q (inl i) = all_in (λ (pair : Pair). knows (member_plan (member_state m)) pair ≡ true) pairs q each i
  at q (inr before) = is.member_state.hidden q before
