-- What commands make of a world.
use Rattle.std.proofs.Common.{◌≡◌, ℕ, ◌+◌, ◌-◌, ◌≤◌, ◌<◌, Bool, true, false, cond, List, [], ◌∷◌, ◌++◌, length, get_or}
use Rattle.std.proofs.Common.{set, Option, Some, None, refl, sym, ap, ◌∙◌, subst, arith}
use Rattle.std.specs.Prelude.{Result, Ok, Err, IsTrue, nat_le, nat_lt, ◌&&◌}
use Rattle.std.proofs.lemmas.Bool.{and_parts, leb-true, ltb-true}
use Rattle.repo_object.specs.Objects.{is_object_name}
use Rattle.repo_command.specs.Verdict.{command_verdict}
use Rattle.repo_command.specs.declared.command_refusal.CommandRefusal.{CommandRefusal}
use Rattle.repo_command.proofs.TakenLemmas.{taken_commands}
use Rattle.repo_member.specs.Groups.{GroupKeys, node_at}
use Rattle.std.proofs.lemmas.List.{map-set, set-get_or, get_or-set_same}
use Rattle.repo_command.specs.declared.command.Command.{Command}
use Rattle.repo_command.specs.declared.command.Command.TheVariants.{Insert, Check, Delete}
use Rattle.repo_command.specs.declared.answer.Answer.{Answer}
use Rattle.repo_command.specs.Commands.{is_command, CommandIsSpelled}
use Rattle.repo_process.specs.Insertions.{next_number}
use Rattle.group_model.specs.Changes as group
use Rattle.group_model.specs.Events.{Event}
use Rattle.group_model.specs.Limits.{IsInRange, IsShortInsertion}
use Rattle.group_model.specs.Member.{Member, catalogued_under, deletes_all}
use Rattle.group_model.specs.Replies.{Reply}
use Rattle.group_model.specs.World.{Issued, World, no_member, member, with_member, logs}
use Rattle.group_model.specs.Steps.{can_start, after_command, after_order, after_issue, command_answer, order_answer}
use Rattle.repo_member.specs.MemberState.{MemberState}
use Rattle.repo_member.specs.Commanded as commanded
use Rattle.repo_member.specs.InGroup.{in_group}
use Rattle.repo_member.specs.ConsistentMembers.{IsConsistentMember}
use Rattle.repo_member.proofs.PublicLaws.{order_is_event, order_is_answered, issue_is_answered, obeys_consistent}
use Rattle.repo_member.proofs.PublicLaws.{made_orders_are_taken}
use Rattle.bench_world.specs.Worlds.{GroupState, IsConsistentState, in_groups, logs_around, world_of, drawing}
use Rattle.bench_world.proofs.States.{many, consistent, number_is, among, in_world, consistent_in, stepped_at}

-- ---- one member changes, if any does

module _ (w : World) (j : ℕ) (there : j < length w.members) where
  still : w ≡ record w { members = set w.members j (member w j) }
  still =
      ap (λ (ms : List Member). let x : World = record w { members = ms } in x) (sym (set-get_or w.members j no_member))

  one : (x : Member) → with_member w j x ≡ record w { members = set w.members j (member (with_member w j x) j) }
  one x =
      ap (λ (y : Member). let v : World = record w { members = set w.members j y } in v)
      (sym (get_or-set_same w.members j x no_member there))

  only_one : (r : Result (ℕ × Command) ℕ)
      → after_order w j r ≡ record w { members = set w.members j (member (after_order w j r) j) }
  only_one (Err code) = still
  only_one (Ok order) = by order.1 where
    by : (c : Command) → after_command w j c ≡ record w { members = set w.members j (member (after_command w j c) j) }
    by (Insert name first last) = go (can_start (member w j)) where
      go : (b : Bool)
          → cond b (with_member w j (group.member_starts name first last (member w j))) w ≡ record w {
            members =
                set w.members j
                (member (cond b (with_member w j (group.member_starts name first last (member w j))) w) j);
          }
      go true = one (group.member_starts name first last (member w j))
      go false = still
    by (Check process) = still
    by (Delete name) = one (deletes_all (catalogued_under (logs w) (member w j) name) (member w j))

-- ---- a command is carried out

same_answer : (a b : Answer) → Reply.Commanded a ≡ Reply.Commanded b → a ≡ b
same_answer a b h = cc

module _ (s : GroupState) (is : IsConsistentState s) (m : ℕ) (there : m < length s.members) (old : MemberState)
    (old_is : old ≡ get_or s.members m old) (r : Result (ℕ × Command) ℕ) where
  pub order_answered : commanded.member_order_answer r old ≡ order_answer (world_of s) m r
  order_answered =
      sym (same_answer (order_answer (world_of s) m r) (commanded.member_order_answer r old)
      (order_is_answered (drawing (λ _ _. 0)) (world_of s) m r s.keys old (in_world s is m there old old_is)
      (consistent_in s is m there old old_is)))

  module _ (b : MemberState) (b_is : b ≡ commanded.member_after_order r old) where
    pub obeyed_world : world_of (record s { members = set s.members m b; steps = s.steps + 1 })
        ≡ after_order (world_of s) m r
    obeyed_world =
        let now : in_group b ≡ member (after_order (world_of s) m r) m =
        ap in_group b_is
        ∙ sym (order_is_event (drawing (λ _ _. 0)) (world_of s) m r s.keys old (in_world s is m there old old_is)
        (consistent_in s is m there old old_is)) in
        ap (λ (ms : List Member). let w : World = record (world_of s) { members = ms } in w)
        (map-set in_group s.members m b ∙ ap (set (in_groups s.members) m) now)
        ∙ sym (only_one (world_of s) m (among s is m there old old_is) r)

    same_number : (r : Result (ℕ × Command) ℕ) → (commanded.member_after_order r old).number ≡ old.number
    same_number (Err code) = refl
    same_number (Ok order) = by order.1 where
      by : (c : Command) → (commanded.member_obeys c old).number ≡ old.number
      by (Insert name first last) = go (next_number old.insertions) where
        go : (o : Option ℕ) → (commanded.member_state_starts name first last old o).number ≡ old.number
        go None = refl
        go (Some number) = refl
      by (Check process) = refl
      by (Delete name) = refl

    still_consistent : (r : Result (ℕ × Command) ℕ)
        → IsConsistentMember s.keys (logs_around s.members) (commanded.member_after_order r old)
    still_consistent (Err code) = consistent s is m there old old_is
    still_consistent (Ok order) = obeys_consistent s.keys (logs_around s.members) order.1 old is.are
        (consistent s is m there old old_is)

    pub obeyed_state : s.steps < 100000 → IsInRange (Event.Order m r)
        → IsConsistentState (record s { members = set s.members m b; steps = s.steps + 1 })
    obeyed_state few range =
        stepped_at s is few (drawing (λ _ _. 0)) (λ t. omega arith) (Event.Order m r) range m there b
        (ap (λ (a : MemberState). a.number) b_is ∙ same_number r ∙ number_is s is m there old old_is)
        (subst (IsConsistentMember s.keys (logs_around s.members)) (sym b_is) (still_consistent r))
        s.sent s.time s.tally is.sent obeyed_world

-- ---- a command is made and carried out

pub issued_state : (s : GroupState) (made : List Issued) → IsConsistentState s
    → IsConsistentState (record s { issued = made })
issued_state s made is = record {
  are = is.are;
  numbers = is.numbers;
  members = is.members;
  sent = is.sent;
  within = record {
    time = is.within.time;
    sent = is.within.sent;
    published = is.within.published;
    segments = is.within.segments;
    members = is.within.members;
    tally = is.within.tally;
  };
  steps = is.steps;
  mirrors = is.mirrors;
  mirrors_tried = is.mirrors_tried;
  mirrors_few = is.mirrors_few;
}

module _ (s : GroupState) (is : IsConsistentState s) (m : ℕ) (there : m < length s.members) (old : MemberState)
    (old_is : old ≡ get_or s.members m old) (client : ℕ) (command : Command) where
  abbrev one_made : Issued
  one_made = record { member = m; client = client; command = command }

  pub issue_answered : commanded.answer_to command old ≡ command_answer (world_of s) m command
  issue_answered =
      sym (same_answer (command_answer (world_of s) m command) (commanded.answer_to command old)
      (issue_is_answered (drawing (λ _ _. 0)) (world_of s) m client command s.keys old
      (in_world s is m there old old_is) (consistent_in s is m there old old_is)))

  -- What a client of the group makes is that client's command.
  pub taken_is : client < length s.keys.clients.names → CommandIsSpelled command → is_command command ≡ true
      → (octets : List ℕ) → octets ≡ commanded.order_made s.keys m client command
      → commanded.order_of s.keys old.number octets ≡ Ok (client, command)
  taken_is known spelled within octets e =
      let inside : m < length s.keys.members.names =
      let w = is.are.width in let l = many s is in omega (arith, there, w, l) in
      ap (λ (k : ℕ). commanded.order_of s.keys k octets) (number_is s is m there old old_is)
      ∙ ap (commanded.order_of s.keys m) e
      ∙ made_orders_are_taken s.keys m client command is.are.group inside known spelled within

  module _ (made : List Issued) (made_is : made ≡ s.issued ++ one_made ∷ []) (b : MemberState)
      (b_is : b ≡ commanded.member_obeys command old) where
    pub issue_world : world_of (record s { members = set s.members m b; issued = made; steps = s.steps + 1 })
        ≡ after_issue (world_of s) m client command
    issue_world =
        ap
        (λ (is_ : List Issued). world_of (record s { members = set s.members m b; issued = is_; steps = s.steps + 1 }))
        made_is
        ∙ obeyed_world (record s { issued = s.issued ++ one_made ∷ [] }) (issued_state s (s.issued ++ one_made ∷ []) is)
        m there old old_is (Ok (client, command)) b b_is

    pub issue_state : s.steps < 100000 → IsShortInsertion command
        → IsConsistentState (record s { members = set s.members m b; issued = made; steps = s.steps + 1 })
    issue_state few short =
        obeyed_state (record s { issued = made }) (issued_state s made is) m there old old_is (Ok (client, command)) b
        b_is few short

-- An order that passes is within the limits.
pub order_range : (g : GroupKeys) (m : ℕ) (octets : List ℕ) → IsInRange (Event.Order m (commanded.order_of g m octets))
order_range g m octets = go (command_verdict (node_at g m) g.clients.ring octets) refl where
  short : (c : Command) → IsTrue (is_command c) → IsShortInsertion c
  short (Insert name first last) is =
      let inner : (nat_le first last && nat_lt (last - first) 200) ≡ true =
      (and_parts (is_object_name name) (nat_le first last && nat_lt (last - first) 200) is).1 in
      let few : last - first < 200 =
      ltb-true (last - first) 200 (and_parts (nat_le first last) (nat_lt (last - first) 200) inner).1 in
      let order : first ≤ last =
      leb-true first last (and_parts (nat_le first last) (nat_lt (last - first) 200) inner).0 in
      omega (arith, few, order)
  short (Check process) is = tt
  short (Delete name) is = tt

  go : (r : Result (ℕ × Command) CommandRefusal) → command_verdict (node_at g m) g.clients.ring octets ≡ r
      → IsInRange (Event.Order m (commanded.coded r))
  go (Ok order) e = short order.1 (taken_commands (node_at g m) g.clients.ring octets order.0 order.1 e).0
  go (Err refusal) e = tt
