-- What a delivery makes of a world.
use Rattle.std.proofs.Common.{◌≡◌, ℕ, ◌+◌, ◌-◌, ◌≤◌, ◌<◌, ◌==◌, Bool, true, false, cond, List, map, length, get_or, set}
use Rattle.std.proofs.Common.{Option, Some, None, option_map, refl, sym, ap, ◌∙◌, subst, arith}
use Rattle.std.specs.Prelude.{slice_get, slice_index, nat_le, ◌&&◌}
use Rattle.std.proofs.Math.Bool.{and-false}
use Rattle.std.proofs.lemmas.Bool.{eqb-true, eqb-false, le-leb, leb-false, leb-true}
use Rattle.std.proofs.lemmas.List.{length-map, map-set, get_or-map}
use Rattle.std.proofs.lemmas.Option.{slice_get-get_or, slice_get_past}
use Rattle.bench_net.specs.SentList.{SentPacket}
use Rattle.group_model.specs.Publications.{last_of}
use Rattle.group_model.specs.Member.{Member}
use Rattle.group_model.specs.Events.{SyncInterest, Event}
use Rattle.group_model.specs.World.{World, no_sync, member, sent_at}
use Rattle.group_model.specs.Steps.{after_deliver, drawn}
use Rattle.group_model.specs.Refusals.{Refusal, unless, unless_sent}
use Rattle.group_model.specs.Changes as group
use Rattle.repo_member.specs.MemberState.{MemberState, member_hears}
use Rattle.repo_member.specs.InGroup.{in_group}
use Rattle.repo_member.specs.Verdicts.{sync_of}
use Rattle.repo_member.specs.ConsistentMembers.{IsConsistentMember}
use Rattle.repo_member.proofs.PublicLaws.{hears_consistent}
use Rattle.bench_world.specs.Worlds.{GroupState, IsConsistentState, IsConsistentSync, in_groups, logs_around, sync_in}
use Rattle.bench_world.specs.Worlds.{world_of}
use Rattle.bench_world.specs.Worlds.{no_packet, drawing}
use Rattle.bench_world.proofs.States.{many, few_members, consistent, number_is, member_is, stepped_at}

-- ---- packets by number

-- What there is of the packet of a number, as its octets and its vector.
abbrev read_at : (SentPacket → List ℕ) → List SentPacket → ℕ → Option (List ℕ)
read_at of packets k = cond (k == 0) None (option_map of (slice_get packets (k - 1)))

-- There is a packet of a number, or none.
data AtNumber (of : SentPacket → List ℕ) (packets : List SentPacket) (k : ℕ) : Type 0 where
  There : 1 ≤ k → k ≤ length packets → read_at of packets k ≡ Some (of (get_or packets (k - 1) no_packet))
      → AtNumber of packets k
  Nowhere : (nat_le 1 k && nat_le k (length packets)) ≡ false → read_at of packets k ≡ None → AtNumber of packets k

at_number : (of : SentPacket → List ℕ) (packets : List SentPacket) (k : ℕ) → AtNumber of packets k
at_number of packets k = go (k == 0) (nat_le k (length packets)) refl refl where
  read : Bool → Option (List ℕ)
  read b = cond b None (option_map of (slice_get packets (k - 1)))

  go : (b c : Bool) → (k == 0) ≡ b → nat_le k (length packets) ≡ c → AtNumber of packets k
  go true c p q =
      Nowhere (let z : k ≡ 0 = eqb-true k 0 p in ap (λ (n : ℕ). nat_le 1 n && nat_le n (length packets)) z) (ap read p)
  go false c p q = inside c q (let z : k ≡ 0 → ⊥ = eqb-false k 0 p in omega (arith, z)) where
    inside : (c : Bool) → nat_le k (length packets) ≡ c → 1 ≤ k → AtNumber of packets k
    inside true q one =
        let last : k ≤ length packets = leb-true k (length packets) q in
        There one last
        (ap read p ∙ ap (option_map of)
        (slice_get-get_or packets (k - 1) no_packet (omega (arith, one, last))))
    inside false q one =
        let env : length packets < k = leb-false k (length packets) q in
        Nowhere (ap (λ (b : Bool). nat_le 1 k && b) q ∙ and-false (nat_le 1 k))
        (ap read p
        ∙ ap (option_map of) (slice_get_past packets (k - 1) (omega (arith, one, env))))

pub record IsThere (of : SentPacket → List ℕ) (packets : List SentPacket) (k : ℕ) (x : List ℕ) : Type 0 where
  pub first : 1 ≤ k
  pub last : k ≤ length packets
  pub same : x ≡ of (get_or packets (k - 1) no_packet)

pub there : (of : SentPacket → List ℕ) (packets : List SentPacket) (k : ℕ) (x : List ℕ)
    → Some x ≡ read_at of packets k → IsThere of packets k x
there of packets k x e = go (at_number of packets k) where
  go : AtNumber of packets k → IsThere of packets k x
  go (There one last at) = record {
    first = one;
    last = last;
    same = let h : Some x ≡ Some (of (get_or packets (k - 1) no_packet)) = e ∙ at in cc;
  }
  go (Nowhere none at) = absurd (let h : Some x ≡ None = e ∙ at in cc)

nowhere : (of : SentPacket → List ℕ) (packets : List SentPacket) (k : ℕ) → None ≡ read_at of packets k
    → (nat_le 1 k && nat_le k (length packets)) ≡ false
nowhere of packets k e = go (at_number of packets k) where
  go : AtNumber of packets k → (nat_le 1 k && nat_le k (length packets)) ≡ false
  go (There one last at) = absurd (let h : None ≡ Some (of (get_or packets (k - 1) no_packet)) = e ∙ at in cc)
  go (Nowhere none at) = none

module _ (s : GroupState) (k : ℕ) where
  many_sent : length (map sync_in s.sent) ≡ length s.sent
  many_sent = length-map s.sent sync_in

  -- A number that was sent isn't refused, and one that wasn't is.
  pub not_refused : 1 ≤ k → k ≤ length s.sent → unless_sent (world_of s) k ≡ None
  not_refused one last =
      let inside : k ≤ length (map sync_in s.sent) = omega (arith, last, many_sent) in
      (λ i. unless (le-leb 1 k one i && le-leb k (length (map sync_in s.sent)) inside i) Refusal.NoSuchPacket)

  pub refused_so : (of : SentPacket → List ℕ) → None ≡ read_at of s.sent k
      → unless_sent (world_of s) k ≡ Some Refusal.NoSuchPacket
  refused_so of e =
      ap (λ (n : ℕ). unless (nat_le 1 k && nat_le k n) Refusal.NoSuchPacket) many_sent
      ∙ ap (λ (b : Bool). unless b Refusal.NoSuchPacket) (nowhere of s.sent k e)

module _ (s : GroupState) (is : IsConsistentState s) (k : ℕ) (one : 1 ≤ k) (last : k ≤ length s.sent) where
  pub sync : IsConsistentSync s.keys (logs_around s.members) (get_or s.sent (k - 1) no_packet)
  sync = is.sent (k - 1) no_packet (omega (arith, one, last))

  pub sent_is : sent_at (world_of s) k ≡ sync_in (get_or s.sent (k - 1) no_packet)
  sent_is = get_or-map sync_in s.sent (k - 1) no_packet no_sync (omega (arith, one, last))

  -- The octets of the packet are those of the sync Interest.
  pub octets_are : (get_or s.sent (k - 1) no_packet).octets
      ≡ sync_of s.keys (sent_at (world_of s) k).sender (sent_at (world_of s) k).vector
  octets_are = sync.octets ∙ ap (λ (p : SyncInterest). sync_of s.keys p.sender p.vector) (sym sent_is)

  -- The vector has at most 16 numbers.
  pub few_numbers : (received : List ℕ) → received ≡ (get_or s.sent (k - 1) no_packet).vector → length received ≤ 16
  few_numbers received same =
      let e = ap length same in let w = sync.vector.width in let n = many s is in let few = few_members s is in
      omega (arith, e, w, n, few)

  module _ (m : ℕ) (there : m < length s.members) (old b : MemberState) (old_is : old ≡ get_or s.members m old) where
    pub fits : length (get_or s.sent (k - 1) no_packet).vector ≡ length old.known
    fits = sync.vector.width ∙ sym (consistent s is m there old old_is).sound.width

    -- The vector reports no more publications of member `m` than the member made.
    pub no_more : (received : List ℕ) → received ≡ (get_or s.sent (k - 1) no_packet).vector
        → slice_index received old.number ≤ length old.log
    no_more received at =
        let here = ap (λ (v : List ℕ). slice_index v old.number) at in
        let most = sync.vector.no_more old.number in
        let own : last_of (logs_around s.members) old.number ≡ length old.log =
        ap length (consistent s is m there old old_is).log in
        omega (arith, here, most, own)

    received_is : (sent_at (world_of s) k).vector ≡ (get_or s.sent (k - 1) no_packet).vector
    received_is = ap (λ (p : SyncInterest). p.vector) sent_is

    module _ (draws : ℕ → ℕ → ℕ) (draw : ℕ)
        (e : b ≡ member_hears (get_or s.sent (k - 1) no_packet).vector s.time draw old)
        (d : draw ≡ draws m old.machine.draws) where
      pub heard_world : world_of (record s {
        members = set s.members m b;
        tally = record s.tally { delivered = s.tally.delivered + 1 };
        steps = s.steps + 1;
      })
          ≡ after_deliver (drawing draws) (world_of s) m (sent_at (world_of s) k).vector
      heard_world =
          let changed : in_groups (set s.members m b)
          ≡ set (in_groups s.members) m
          (group.learns (drawn (drawing draws) (world_of s) m) s.time (sent_at (world_of s) k).vector
          (member (world_of s) m)) =
          map-set in_group s.members m b
          ∙ ap (set (in_groups s.members) m) (ap in_group e
          ∙ ap (λ (n : ℕ). group.learns n s.time (get_or s.sent (k - 1) no_packet).vector (in_group old)) d
          ∙ ap
          (λ (x : Member). group.learns (draws m x.machine.draws) s.time (get_or s.sent (k - 1) no_packet).vector x)
          (sym (member_is s is m there old old_is))
          ∙ ap (λ (v : List ℕ). group.learns (drawn (drawing draws) (world_of s) m) s.time v (member (world_of s) m))
          (sym received_is)) in
          ap (λ (ms : List Member).
          let w : World = record {
            members = ms;
            sent = map sync_in s.sent;
            time = s.time;
            issued = s.issued;
            tally = record s.tally { delivered = s.tally.delivered + 1 };
          } in
          w) changed

      pub heard_state : s.steps < 100000
          → IsConsistentState (record s {
            members = set s.members m b;
            tally = record s.tally { delivered = s.tally.delivered + 1 };
            steps = s.steps + 1;
          })
      heard_state few =
          stepped_at s is few (drawing draws) (λ t. omega arith) (Event.Deliver k m) tt m there b
          (ap (λ (a : MemberState). a.number) e ∙ number_is s is m there old old_is)
          (subst (IsConsistentMember s.keys (logs_around s.members)) (sym e)
          (hears_consistent s.keys (logs_around s.members) (get_or s.sent (k - 1) no_packet).vector s.time draw old
          sync.vector (consistent s is m there old old_is)))
          s.sent s.time (record s.tally { delivered = s.tally.delivered + 1 }) is.sent heard_world
