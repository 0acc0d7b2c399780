-- What commands and blocks make of a member by itself is what their events make of it.
use Rattle.std.proofs.Common.{◌≡◌, ℕ, ◌-◌, Bool, true, false, cond, not, ◌==◌, List, [], ◌∷◌, ◌++◌, length, Some, None}
use Rattle.std.proofs.Common.{Ok, Err, refl, sym, ap, ◌∙◌, arith}
use Rattle.std.specs.Prelude.{nat_le, nat_lt}
use Rattle.std.specs.Ordering.{nat_cmp}
use Rattle.std.proofs.lemmas.Bool.{leb-false, lt-ltb}
use Rattle.std.proofs.lemmas.List.{length-map, length-set}
use Rattle.ndn_name.specs.Names.{Component}
use Rattle.sorted_lists.specs.SortedList.{value_of}
use Rattle.repo_command.specs.declared.command.Command.{Command}
use Rattle.repo_command.specs.declared.command.Command.TheVariants.{Insert, Check, Delete}
use Rattle.repo_command.specs.declared.answer.Answer.{Answer}
use Rattle.repo_command.specs.Answers.{code_only}
use Rattle.repo_object.specs.Objects.Post.{Offers}
use Rattle.repo_process.specs.Processes.{Process, BlockState, object_of, closed, block_state}
use Rattle.repo_process.specs.Processes.BlockState.{Unknown, Already, Waiting, Whole}
use Rattle.group_model.specs.Publications.{pair_in}
use Rattle.group_model.specs.Member.{Member, catalogued_under, deletes_all}
use Rattle.group_model.specs.Changes as group
use Rattle.group_model.specs.Replies.{Reply}
use Rattle.group_model.specs.World.{World, member, with_member, logs}
use Rattle.group_model.specs.Steps.{drawn, can_start, check_answer, after_command, command_answer, packets_dropped}
use Rattle.group_model.specs.Steps.{with_process_at, after_block}
use Rattle.group_model.specs.Refusals.{Refusal, unless, if_whole}
use Rattle.repo_member.specs.Groups.{GroupKeys}
use Rattle.repo_member.specs.MemberState.{MemberState, member_publishes}
use Rattle.repo_member.specs.Deleting as member_state
use Rattle.repo_member.specs.Deleting.{catalogued_named, member_deletes}
use Rattle.repo_member.specs.Commanded.{member_state_starts, member_obeys, start_answer, answer_to}
use Rattle.repo_member.specs.Blocks as own
use Rattle.repo_member.specs.Blocks.{member_block, member_keeps}
use Rattle.repo_member.specs.InGroup.{in_group, StartsAlike, KeepsAlike}
use Rattle.repo_member.specs.InEvents.{IsMemberOf, IsConsistentIn, OrderIsEvent, OrderIsAnswered, IssueIsEvent}
use Rattle.repo_member.specs.InEvents.{IssueIsAnswered, BlockStatesAlike, BlockIsEvent}
use Rattle.repo_member.proofs.DeletionLemmas.{named_alike, deletes_alike}
use Rattle.repo_member.proofs.EventLemmas.{changed, publish_is_event}

-- ---- commands

pub starts_alike : StartsAlike
starts_alike name first last a = go (nat_le a.insertions.next_process 4294967295) where
  go : (b : Bool)
      → in_group (member_state_starts name first last a (cond b (Some a.insertions.next_process) None))
      ≡ cond b (group.member_starts name first last (in_group a)) (in_group a)
  go true = refl
  go false = refl

pub keeps_alike : KeepsAlike
keeps_alike number p a = refl

module _ (w : World) (j : ℕ) (g : GroupKeys) (a : MemberState) (is : IsMemberOf w j a)
    (consistent : IsConsistentIn g w a) where
  obeyed : (command : Command) → member (after_command w j command) j ≡ in_group (member_obeys command a)
  obeyed (Insert name first last) =
      ap (λ (m : Member).
      member (cond (can_start m) (with_member w j (group.member_starts name first last (member w j))) w) j) is.same
      ∙ go (can_start (in_group a)) ∙ sym (starts_alike name first last a) where
        go : (b : Bool)
            → member (cond b (with_member w j (group.member_starts name first last (member w j))) w) j
            ≡ cond b (group.member_starts name first last (in_group a)) (in_group a)
        go true = changed w j a is (group.member_starts name first last)
        go false = is.same
  obeyed (Check process) = is.same
  obeyed (Delete name) =
      changed w j a is (λ m. deletes_all (catalogued_under (logs w) m name) m)
      ∙ sym (deletes_alike g (logs w) name a consistent.published consistent.stores)

  stored_before : length (member w j).held ≡ length a.store
  stored_before = ap (λ (m : Member). length m.held) is.same ∙ length-map a.store (λ e. e.0)

  stored_after : (name : List Component)
      → length (member (after_command w j (Delete name)) j).held ≡ length (member_deletes name a).store
  stored_after name =
      ap (λ (m : Member). length m.held) (obeyed (Delete name)) ∙ length-map (member_deletes name a).store (λ e. e.0)

  dropped_alike : (name : List Component) → packets_dropped w j (Delete name) ≡ member_state.member_drops name a
  dropped_alike name =
      ap (λ (n : ℕ). n - length (member (after_command w j (Delete name)) j).held) stored_before
      ∙ ap (λ (n : ℕ). length a.store - n) (stored_after name)

  named_many : (name : List Component)
      → length (catalogued_under (logs w) (member w j) name) ≡ length (catalogued_named name a)
  named_many name =
      ap (λ (m : Member). length (catalogued_under (logs w) m name)) is.same
      ∙ sym (length-map (catalogued_under (logs w) (in_group a) name) pair_in)
      ∙ ap length (sym (named_alike g (logs w) name a consistent.published consistent.stores))

  answered : (command : Command) → command_answer w j command ≡ answer_to command a
  answered (Insert name first last) =
      ap (λ (m : Member). cond (can_start m) (started m.next_process) (code_only 403)) is.same
      ∙ go (nat_le a.insertions.next_process 4294967295) where
        started : ℕ → Answer
        started n = record (code_only 100) { process = Some n }

        go : (b : Bool)
            → cond b (started a.insertions.next_process) (code_only 403)
            ≡ start_answer (cond b (Some a.insertions.next_process) None)
        go true = refl
        go false = refl
  answered (Check process) = ap (λ (m : Member). check_answer (value_of nat_cmp m.processes process)) is.same
  answered (Delete name) =
      ap (λ (n : ℕ). cond (n == 0) (code_only 404) (done (packets_dropped w j (Delete name)))) (named_many name)
      ∙ ap (λ (n : ℕ). cond (length (catalogued_named name a) == 0) (code_only 404) (done n))
      (dropped_alike name) where
        done : ℕ → Answer
        done n = record (code_only 200) { deleted = Some n }

pub order_is_event : OrderIsEvent
order_is_event env w j (Ok order) g a is consistent = obeyed w j g a is consistent order.1
order_is_event env w j (Err code) g a is consistent = is.same

pub order_is_answered : OrderIsAnswered
order_is_answered env w j (Ok order) g a is consistent =
    ap (λ (x : Answer). Reply.Commanded x) (answered w j g a is consistent order.1)
order_is_answered env w j (Err code) g a is consistent = refl

pub issue_is_event : IssueIsEvent
issue_is_event env w j client command g a is consistent =
    let made : World =
    record w { issued = w.issued ++ record { member = j; client = client; command = command } ∷ [] } in
    obeyed made j g a (record { there = is.there; number = is.number; same = is.same })
    (record { published = consistent.published; stores = consistent.stores }) command

pub issue_is_answered : IssueIsAnswered
issue_is_answered env w j client command g a is consistent =
    ap (λ (x : Answer). Reply.Commanded x) (answered w j g a is consistent command)

-- ---- blocks

pub block_states_alike : BlockStatesAlike
block_states_alike w j process index content a is =
    ap (λ (m : Member). block_state m.processes process index content) is.same

-- the member still is, with another process
kept_member : (w : World) (j number : ℕ) (p : Process) (a : MemberState) → IsMemberOf w j a
    → IsMemberOf (with_process_at w j number p) j (member_keeps number p a)
kept_member w j number p a is = record {
  there = omega (arith, is.there, length-set w.members j (group.member_with_process number p (member w j)));
  number = is.number;
  same = changed w j a is (group.member_with_process number p);
}

not_spent : (n : ℕ) → unless (not (nat_le 65535 n)) Refusal.NumbersSpent ≡ None → nat_lt n 65535 ≡ true
not_spent n h = go (nat_le 65535 n) refl h where
  go : (b : Bool) → nat_le 65535 n ≡ b → unless (not b) Refusal.NumbersSpent ≡ None → nat_lt n 65535 ≡ true
  go true e k = absurd cc
  go false e k = lt-ltb n 65535 (omega (arith, leb-false 65535 n e))

pub block_is_event : BlockIsEvent
block_is_event env w j process index content g a is order taken =
    ap (λ (s : BlockState). member (after_block env w j process s) j)
    (block_states_alike w j process index content a is)
    ∙ go (member_block a process index content)
    (ap (if_whole w j) (sym (block_states_alike w j process index content a is)) ∙ taken) where
      log : length (member w j).log ≡ length a.log
      log = ap (λ (m : Member). length m.log) is.same

      go : (state : BlockState) → if_whole w j state ≡ None
          → member (after_block env w j process state) j
          ≡ in_group (own.after_block g process w.time (drawn env w j) a state)
      go Unknown k = is.same
      go Already k = is.same
      go (Waiting p) k = changed w j a is (group.member_with_process process p)
      go (Whole p) k =
          let v : World = with_process_at w j process (closed p) in
          let kept : MemberState = member_keeps process (closed p) a in
          let still = kept_member w j process (closed p) a is in
          let room : nat_lt (length a.log) 65535 ≡ true =
          ap (λ (n : ℕ). nat_lt n 65535) (sym log) ∙ not_spent (length (member w j).log) k in
          let draws : drawn env v j ≡ drawn env w j =
          ap (λ (m : Member). env.draw j m.machine.draws)
          (still.same ∙ sym (ap (group.member_with_process process (closed p)) is.same)) in
          publish_is_event env v j g (object_of p) kept still order
          ∙ ap (λ (d : ℕ). in_group (member_publishes g (Offers (object_of p)) w.time d kept)) draws
          ∙ sym
          (ap
          (λ (b : Bool). in_group (cond b (member_publishes g (Offers (object_of p)) w.time (drawn env w j) kept) a))
          room)
