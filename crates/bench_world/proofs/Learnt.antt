-- Members after each joined all vectors to its own in a settle.
use Rattle.std.proofs.Common.{◌≡◌, inl, inr, ℕ, suc, zero, ◌≤◌, ◌<◌, List, [], ◌∷◌, map, length, get_or, refl, sym, ap}
use Rattle.std.proofs.Common.{◌∙◌, subst, arith}
use Rattle.std.specs.Prelude.{slice_index}
use Rattle.std.proofs.lemmas.Bool.{cases_lt}
use Rattle.std.proofs.lemmas.List.{ext_get_or, get_or-map, length-map}
use Rattle.svs_vector.specs.Vectors.{join, join_all}
use Rattle.svs_vector.proofs.JoinLemmas.{join_covered, covers_each}
use Rattle.group_model.specs.Publications.{Logs, last_of}
use Rattle.group_model.specs.Member.{Member}
use Rattle.group_model.specs.World.{World, no_member, member, logs}
use Rattle.group_model.specs.Settles.{learnt_member}
use Rattle.group_model.specs.Sound.{IsSoundGroup, IsConsistentVector}
use Rattle.group_model.specs.Steps.{settled_vector}
use Rattle.group_model.proofs.Settles.{settled_no_more}
use Rattle.repo_member.specs.Groups.{GroupKeys}
use Rattle.repo_member.specs.MemberState.{MemberState, member_holdings, member_learns, member_ends_claims}
use Rattle.repo_member.specs.InGroup.{in_group, AreLogs}
use Rattle.repo_member.specs.ConsistentMembers.{IsConsistentMember}
use Rattle.repo_member.proofs.PublicLaws.{learns_consistent, ends_claims_consistent}
use Rattle.bench_world.specs.Settling.{StayConsistent, IsPartlySettled, ArePartlySettled}
use Rattle.bench_world.specs.Truth.{TriedFew, AllTriedFew}
use Rattle.bench_world.specs.Worlds.{nobody, state_at, in_groups, AllCountsStay, AreConsistentMembers}
use Rattle.bench_world.specs.Worlds.{MembersAreNumbered}
use Rattle.bench_world.proofs.KnownByAll.{knowns, joined_width}
use Rattle.bench_world.proofs.MemberGathering.{partly_begun}
use Rattle.bench_world.proofs.AllGathering.{member_of}

nobody_there : (ms : List MemberState) (j : ℕ) → length ms ≤ j → state_at ms j ≡ nobody
nobody_there [] j l = refl
nobody_there (m ∷ ms) zero l = absurd (omega (arith, l))
nobody_there (m ∷ ms) (suc j) l = nobody_there ms j (omega (arith, l))

-- All claims have ended, and each member has joined all vectors to its own.
pub record HaveLearnt (g : GroupKeys) (w : World) (members new : List MemberState) : Type 0 where
  pub learnt : in_groups new ≡ map (learnt_member w) w.members
  pub consistent : AreConsistentMembers g (logs w) new
  pub numbers : MembersAreNumbered members → MembersAreNumbered new
  pub tried : AllTriedFew members → AllTriedFew new
  pub counts : AllCountsStay members new

module _ (g : GroupKeys) (w : World) (are : AreLogs g (logs w)) (group : IsSoundGroup w) (members : List MemberState)
    (begun : in_groups members ≡ w.members) (consistent : AreConsistentMembers g (logs w) members) where
  many : length w.members ≡ length members
  many = sym (ap length begun) ∙ length-map members in_group

  pub long : length (logs w) ≡ length members
  long = length-map w.members (λ (m : Member). m.log) ∙ many

  pub few_members : length members ≤ 16
  few_members = let a = are.width in let b = are.group.members.roster.few in omega (arith, long, a, b)

  -- Before a settle each member is partly settled.
  pub partly_none : ArePartlySettled w (in_groups members)
  partly_none = record {
    len = ap length begun;
    each =
        λ j l. subst (λ (ms : List Member). IsPartlySettled w (member w j) (get_or ms j no_member)) (sym begun)
        (partly_begun w group j l);
  }

  knowns_are : (ms : List MemberState) → map (λ (m : Member). m.known) (in_groups ms) ≡ knowns ms
  knowns_are [] = refl
  knowns_are (a ∷ ms) = ap (λ (vs : List (List ℕ)). a.known ∷ vs) (knowns_are ms)

  pub all_is_settled : join_all (knowns members) ≡ settled_vector w
  all_is_settled = ap join_all (sym (knowns_are members) ∙ ap (map (λ (m : Member). m.known)) begun)

  pub widths : (j : ℕ) → j < length members → length (state_at members j).known ≡ length members
  widths j l = (consistent j l).sound.width ∙ long

  module _ (all : List ℕ) (all_is : all ≡ join_all (knowns members)) where
    pub all_width : (j : ℕ) → j < length members → length all ≡ length members
    all_width j l = ap length all_is ∙ joined_width members (length members) (omega (arith, l)) widths

    pub consistent_vector : (j : ℕ) → j < length members → IsConsistentVector (logs w) all
    consistent_vector j l = record {
      width = all_width j l ∙ sym long;
      no_more =
          λ p. subst (λ (v : List ℕ). slice_index v p ≤ last_of (logs w) p) (sym (all_is ∙ all_is_settled))
          (settled_no_more w group j (omega (arith, l, many)) p);
    }

    pub own_known : (j : ℕ) → j < length members
        → slice_index all (state_at members j).number ≤ length (state_at members j).log
    own_known j l =
        let a = (consistent_vector j l).no_more (state_at members j).number in
        let b = ap length (consistent j l).log in
        omega (arith, a, b)

    covered : (j : ℕ) → j < length members → join (state_at members j).known all ≡ all
    covered j l =
        ap (join (state_at members j).known) all_is
        ∙ join_covered (state_at members j).known (join_all (knowns members))
        (covers_each (knowns members) (state_at members j).known j
        (omega (arith, l, length-map members (λ (a : MemberState). a.known)))
        (get_or-map (λ (a : MemberState). a.known) members j nobody (state_at members j).known l))
        ∙ sym all_is

    module _ (new : List MemberState) (len : length new ≡ length members)
        (each : (j : ℕ) → j < length members
        → state_at new j ≡ member_learns all (member_ends_claims (state_at members j))) where
      learnt_all : in_groups new ≡ map (learnt_member w) w.members
      learnt_all = ext_get_or no_member (in_groups new) (map (learnt_member w) w.members)
          (length-map new in_group ∙ len ∙ sym many ∙ sym (length-map w.members (learnt_member w))) (λ i l.
          let inside_new : i < length new = subst (λ (n : ℕ). i < n) (length-map new in_group) l in
          let inside : i < length members = omega (arith, inside_new, len) in
          member_of new i inside_new
          ∙ ap in_group (each i inside)
          ∙ ap (λ (k : List ℕ).
          let m : Member = record (in_group (member_ends_claims (state_at members i))) { known = k } in m)
          (covered i inside ∙ all_is ∙ all_is_settled)
          ∙ ap (learnt_member w)
          (sym (member_of members i inside) ∙ ap (λ (ms : List Member). get_or ms i no_member) begun)
          ∙ sym (get_or-map (learnt_member w) w.members i no_member no_member (omega (arith, inside, many))))

      learnt_consistently : AreConsistentMembers g (logs w) new
      learnt_consistently j l =
          let inside : j < length members = omega (arith, l, len) in
          subst (IsConsistentMember g (logs w)) (sym (each j inside))
          (learns_consistent g (logs w) all (member_ends_claims (state_at members j)) (consistent_vector j inside)
          (ends_claims_consistent g (logs w) (state_at members j) (consistent j inside)))

      learnt_numbers : MembersAreNumbered members → MembersAreNumbered new
      learnt_numbers numbers j l =
          let inside : j < length members = omega (arith, l, len) in
          ap (λ (a : MemberState). a.number) (each j inside) ∙ numbers j inside

      learnt_tried : AllTriedFew members → AllTriedFew new
      learnt_tried tried j l =
          let inside : j < length members = omega (arith, l, len) in
          subst (λ (a : MemberState). TriedFew (member_holdings a)) (sym (each j inside)) (tried j inside)

      learnt_counts : AllCountsStay members new
      learnt_counts j = elim (cases_lt j (length members)) [
        | inl inside ↦ record {
          machine = ap (λ (a : MemberState). a.machine) (each j inside);
          attempts = ap (λ (a : MemberState). a.attempts) (each j inside);
        }
        | inr environment ↦
            let same : state_at new j ≡ state_at members j =
            nobody_there new j (omega (arith, environment, len)) ∙ sym (nobody_there members j environment) in
            record {
              machine = ap (λ (a : MemberState). a.machine) same;
              attempts = ap (λ (a : MemberState). a.attempts)
                  same;
            }
      ]

      pub have_learnt : HaveLearnt g w members new
      have_learnt = record {
        learnt = learnt_all;
        consistent = learnt_consistently;
        numbers = learnt_numbers;
        tried = learnt_tried;
        counts = learnt_counts;
      }

-- Sync states and attempts that two changes leave unchanged are unchanged by both together.
counts_then : (a b c : List MemberState) → AllCountsStay a b → AllCountsStay b c → AllCountsStay a c
counts_then a b c one two j =
    record { machine = (two j).machine ∙ (one j).machine; attempts = (two j).attempts ∙ (one j).attempts }

-- Members that stay consistent after they have learnt have stayed so.
pub stay_then : (g : GroupKeys) (ls : Logs) (a b c : List MemberState) → length b ≡ length a → AllCountsStay a b
    → StayConsistent g ls b c → StayConsistent g ls a c
stay_then g ls a b c len counts stay = record {
  len = stay.len ∙ len;
  consistent = stay.consistent;
  numbers = stay.numbers;
  counts = counts_then a b c counts stay.counts;
}
