-- What is published in a script is within the limits: an event that a line states publishes an object within those of
-- objects, withdraws an earlier one, or begins or goes on with an insertion that is within them.
use Rattle.std.proofs.Common.{◌≡◌, ◌∙◌, ℕ, zero, suc, ◌+◌, ◌-◌, ◌≤◌, ◌<◌, Bool, true, false, cond, not}
use Rattle.std.proofs.Common.{◌&&◌, ◌||◌, List, [], ◌∷◌, ◌++◌}
use Rattle.std.proofs.Common.{eqb, length, get_or, set, Option, Some, None, Result, Ok, Err, refl, sym, ap, subst}
use Rattle.std.proofs.Common.{arith}
use Rattle.std.specs.Prelude.{is_some, nat_le}
use Rattle.std.specs.Cmp.{second_so}
use Rattle.std.specs.List.{All, list_any}
use Rattle.std.specs.Ordering.{eq_by_cmp, nat_cmp}
use Rattle.std.proofs.lemmas.Bool.{and_parts, false≢true, leb-false, leb-true}
use Rattle.std.proofs.lemmas.List.{get_or-map, get_or-set_same, length-map, length-set, map-set}
use Rattle.std.proofs.lemmas.List.Elements.{All-head, All-push, All-tail}
use Rattle.repo_plan.specs.declared.part.Part.{Part}
use Rattle.sorted_lists.specs.SortedList.{value_of, with_value}
use Rattle.sorted_lists.proofs.Orders.{exact_numbers}
use Rattle.sorted_lists.proofs.Sets.{value_of-with_value}
use Rattle.svs_sync.specs.declared.fired.Fired.{Fired}
use Rattle.svs_sync.specs.declared.fired.Fired.TheVariants.{Early, Quiet, Send}
use Rattle.repo_object.specs.Objects.{Post, IsContent, IsObject, IsPost, offered, withdraws_number}
use Rattle.repo_object.specs.Objects.Post.{Offers, Withdraws}
use Rattle.repo_process.specs.Processes.{Process, BlockState, block_in, closed, has_index}
use Rattle.repo_process.specs.Processes.{is_whole, object_of, starting, with_block, with_it}
use Rattle.repo_process.specs.Processes.BlockState.{Unknown, Already, Waiting, Whole}
use Rattle.repo_command.specs.declared.command.Command.{Command}
use Rattle.repo_command.specs.declared.command.Command.TheVariants.{Insert, Check, Delete}
use Rattle.group_model.specs.Publications.{Publication, has_unwithdrawn, last_of, no_post, pair_in}
use Rattle.group_model.specs.Commands.{is_equal_command}
use Rattle.group_model.specs.Member.{Member, catalogued_under, deletes_all, deletes_publication}
use Rattle.group_model.specs.Changes.{member_starts, publishes}
use Rattle.group_model.specs.Events.{SyncInterest, Response, Event}
use Rattle.group_model.specs.Events.Response.{Nothing, Its, Another}
use Rattle.group_model.specs.World.{Issued, Environment, World, logs, logs_of, member, no_member, sent_at}
use Rattle.group_model.specs.World.{with_member as world_with}
use Rattle.group_model.specs.Steps.{after_block, after_response, after_claiming, after_command, after_deliver}
use Rattle.group_model.specs.Steps.{after_event}
use Rattle.group_model.specs.Steps.{after_fire, after_hear, after_order, after_publish, after_settle, block_at}
use Rattle.group_model.specs.Steps.{response_read}
use Rattle.group_model.specs.Steps.{response_from, can_start, claim_at, drawn, exceeds_log, timer_at, to_claim}
use Rattle.group_model.specs.Steps.{tried_once, with_process_at}
use Rattle.group_model.specs.Refusals.{Refusal, EventIsTaken, has_issued, if_no_object_or_spent, if_spent, if_unissued}
use Rattle.group_model.specs.Refusals.{if_whole, unless}
use Rattle.group_model.proofs.Settles.{settle_each, logs_settled}
use Rattle.group_model.proofs.Worlds.{same_logs}
use Rattle.repo_member.specs.Groups.{GroupKeys}
use Rattle.repo_member.specs.InGroup.{AreLogs}
use Rattle.repo_member.specs.Blocks.{IsWithinLimits, AreWithinLimits}
use Rattle.repo_member.proofs.PublicLaws.{block_within, closed_within, logs_grow, object_within}
use Rattle.bench_world.specs.IssuedCommands.{derived_is_equal, same_is}
use Rattle.bench_world.specs.declared.issued.IssuedCommand.{IssuedCommand}

-- ---- what is kept

-- A command that begins an insertion begins it within the limits.
abbrev pub BeginsWithin : Command → Type 0
BeginsWithin (Insert name first last) = IsWithinLimits (starting name first last)
BeginsWithin (Check process) = Unit {0}
BeginsWithin (Delete name) = Unit {0}

abbrev IsBegunWithin : Issued → Type 0
IsBegunWithin i = BeginsWithin i.command

-- What was published is what members of the group can publish, and insertions and the commands that were issued are
-- within the limits.
pub record IsLimited (g : GroupKeys) (w : World) : Type 0 where
  pub are : AreLogs g (logs w)
  pub insertions : (j : ℕ) → AreWithinLimits (member w j).processes
  pub issued : All IsBegunWithin w.issued

-- What an event brings is within the limits.
abbrev pub BringsWithin : Event → Type 0
BringsWithin (Event.Publish j o) = IsObject o
BringsWithin (Event.Issue j client command) = BeginsWithin command
BringsWithin (Event.Block j process index content) = IsContent content
BringsWithin _ = Unit {0}

-- ---- commands that were made

same_commands : (a b : Command) → is_equal_command a b ≡ true → a ≡ b
same_commands a b is =
    let x : IssuedCommand = record { member = 0; client = 0; command = a } in
    let y : IssuedCommand = record { member = 0; client = 0; command = b } in
    ap (λ (c : IssuedCommand). c.command) (same_is x y (derived_is_equal a b ∙ is))

abbrev is_it : ℕ → ℕ × Command → Issued → Bool
is_it j order i = eqb i.member j && (eqb i.client order.0 && is_equal_command i.command order.1)

-- A command that was issued before begins an insertion within the limits, as the issued one does.
among : (j : ℕ) (order : ℕ × Command) (issued : List Issued) → All IsBegunWithin issued
    → list_any (is_it j order) issued ≡ true → BeginsWithin order.1
among j order [] all found = absurd (false≢true found)
among j order (i ∷ issued) all found =
    go (is_it j order i) refl found (among j order issued (All-tail IsBegunWithin i issued all)) where
      go : (b : Bool) → is_it j order i ≡ b → (b || list_any (is_it j order) issued) ≡ true
          → (list_any (is_it j order) issued ≡ true → BeginsWithin order.1) → BeginsWithin order.1
      go true is k after =
          subst BeginsWithin
          (same_commands i.command order.1
          (second_so (eqb i.client order.0) (is_equal_command i.command order.1)
          (second_so (eqb i.member j) (eqb i.client order.0 && is_equal_command i.command order.1) is)))
          (All-head IsBegunWithin i issued all)
      go false is k after = after k

-- ---- members that change

abbrev pub AllWithin : List Member → Type 0
AllWithin ms = (j : ℕ) → AreWithinLimits (get_or ms j no_member).processes

within_set : (ms : List Member) (i : ℕ) (m : Member) → AllWithin ms → AreWithinLimits m.processes
    → AllWithin (set ms i m)
within_set [] i m each h j = each j
within_set (x ∷ xs) zero m each h zero = h
within_set (x ∷ xs) zero m each h (suc j) = each (suc j)
within_set (x ∷ xs) (suc i) m each h zero = each zero
within_set (x ∷ xs) (suc i) m each h (suc j) = within_set xs i m (λ k. each (suc k)) h j

-- ---- insertions

-- one more process, or another under its number, leaves all within the limits
one_more : (ps : List (ℕ × Process)) (number : ℕ) (p : Process) → IsWithinLimits p → AreWithinLimits ps
    → AreWithinLimits (with_value nat_cmp number p ps)
one_more ps number p is are n q found =
    go (eq_by_cmp nat_cmp n number) (sym (value_of-with_value exact_numbers number p ps n) ∙ found) where
      go : (b : Bool) → cond b (Some p) (value_of nat_cmp ps n) ≡ Some q → IsWithinLimits q
      go true h = let same : p ≡ q = cc in subst IsWithinLimits same is
      go false h = are n q h

-- What a block makes of its process is within the limits.
abbrev ComesWithin : BlockState → Type 0
ComesWithin Unknown = Unit {0}
ComesWithin Already = Unit {0}
ComesWithin (Waiting p) = IsWithinLimits p
ComesWithin (Whole p) = IsWithinLimits p × IsObject (object_of p)

comes_in : (index : ℕ) (content : List ℕ) (o : Option Process) → IsContent content
    → ((p : Process) → o ≡ Some p → IsWithinLimits p) → ComesWithin (block_in index content o)
comes_in index content None is within = tt
comes_in index content (Some p) is within = go (not (has_index p index)) p.published where
  new : Process
  new = with_block index content p

  new_within : IsWithinLimits new
  new_within = block_within index content p is (within p refl)

  whole : (b : Bool) → is_whole new ≡ b → ComesWithin (cond b (Whole new) (Waiting new))
  whole true e = (new_within, object_within new new_within e)
  whole false e = new_within

  go : (a b : Bool) → ComesWithin (cond a Unknown (cond b Already (with_it new)))
  go true b = tt
  go false true = tt
  go false false = whole (is_whole new) refl

module _ (g : GroupKeys) where
  -- no member changes
  none : (w new : World) → new.members ≡ w.members → new.issued ≡ w.issued → IsLimited g w → IsLimited g new
  none w new members issued h = record {
    are = subst (λ (ms : List Member). AreLogs g (logs_of ms)) (sym members) h.are;
    insertions = subst AllWithin (sym members) h.insertions;
    issued = subst (All IsBegunWithin) (sym issued) h.issued;
  }

  -- one changes, and publishes nothing
  one : (w new : World) (i : ℕ) (m : Member) → new.members ≡ set w.members i m → new.issued ≡ w.issued
      → m.log ≡ (member w i).log → AreWithinLimits m.processes → IsLimited g w → IsLimited g new
  one w new i m members issued log within h = record {
    are = subst (AreLogs g) (sym (ap logs_of members ∙ same_logs w.members i m log)) h.are;
    insertions = subst AllWithin (sym members) (within_set w.members i m h.insertions within);
    issued = subst (All IsBegunWithin) (sym issued) h.issued;
  }

  -- one publishes an object or a withdrawal
  publishing : (out : Environment) (w : World) (j : ℕ) (post : Post) → j < length w.members
      → IsPost (length (member w j).log + 1) post → length (member w j).log < 65535 → IsLimited g w
      → IsLimited g (after_publish out w j post)
  publishing out w j post there is_post few h =
      let m : Member = publishes (drawn out w j) w.time j post (member w j) in
      let log_at : get_or (logs w) j [] ≡ (member w j).log =
      get_or-map (λ (x : Member). x.log) w.members j no_member [] there in
      let count : length (logs w) ≡ length w.members = length-map w.members (λ (x : Member). x.log) in
      let last : last_of (logs w) j ≡ length (member w j).log = ap length log_at in
      let its_number : IsPost (last_of (logs w) j + 1) post =
      subst (λ (n : ℕ). IsPost (n + 1) post) (sym last) is_post in
      let grown : AreLogs g (set (logs w) j ((member w j).log ++ post ∷ [])) =
      subst (AreLogs g) (ap (λ (l : List Post). set (logs w) j (l ++ post ∷ [])) log_at)
      (logs_grow g (logs w) j post h.are (omega (arith, there, count)) its_number (omega (arith, last, few))) in
      record {
        are = subst (AreLogs g) (sym (map-set (λ (x : Member). x.log) w.members j m)) grown;
        insertions = within_set w.members j m h.insertions (h.insertions j);
        issued = h.issued;
      }

  claiming : (w : World) (j f : ℕ) (c : Option Part) → IsLimited g w → IsLimited g (after_claiming w j f c)
  claiming w j f None h = h
  claiming w j f (Some t) h = one w (after_claiming w j f (Some t)) j _ refl refl refl (h.insertions j) h

  coming : (out : Environment) (w : World) (j f : ℕ) (c : Option Part) (came : Response) → IsLimited g w
      → IsLimited g (after_response out w j f c came)
  coming out w j f None came h = h
  coming out w j f (Some t) Nothing h = h
  coming out w j f (Some t) Its h = one w (after_response out w j f (Some t) Its) j _ refl refl refl (h.insertions j) h
  coming out w j f (Some t) Another h =
      one w (after_response out w j f (Some t) Another) j _ refl refl refl (h.insertions j) h

  firing : (out : Environment) (w : World) (j : ℕ) (f : Fired) → IsLimited g w → IsLimited g (after_fire out w j f)
  firing out w j Early h = h
  firing out w j Quiet h = one w (after_fire out w j Quiet) j _ refl refl refl (h.insertions j) h
  firing out w j Send h = one w (after_fire out w j Send) j _ refl refl refl (h.insertions j) h

  delivering : (out : Environment) (w : World) (j : ℕ) (printed : List ℕ) → IsLimited g w
      → IsLimited g (after_deliver out w j printed)
  delivering out w j printed h = one w (after_deliver out w j printed) j _ refl refl refl (h.insertions j) h

  hearing : (out : Environment) (w : World) (j : ℕ) (read : Option SyncInterest) → IsLimited g w
      → IsLimited g (after_hear out w j read)
  hearing out w j None h = h
  hearing out w j (Some sync) h = go (exceeds_log w j sync) where
    go : (b : Bool) → IsLimited g (cond b w (after_deliver out w j sync.vector))
    go true = h
    go false = delivering out w j sync.vector h

  -- ---- a settle

  each_settled : (out : Environment) (w : World) (k : ℕ) (ms : List Member) → AllWithin ms
      → AllWithin (settle_each out w k ms)
  each_settled out w k [] each j = each j
  each_settled out w k (m ∷ ms) each zero = each zero
  each_settled out w k (m ∷ ms) each (suc j) = each_settled out w (k + 1) ms (λ i. each (suc i)) j

  settling : (out : Environment) (w : World) → IsLimited g w → IsLimited g (after_settle out w)
  settling out w h = record {
    are = subst (AreLogs g) (sym (logs_settled out w 0 w.members)) h.are;
    insertions = each_settled out w 0 w.members h.insertions;
    issued = h.issued;
  }

  -- ---- commands

  -- Deletions leave logs and insertions as they are.
  beside : (ps : List Publication) (m : Member)
      → ((deletes_all ps m).log ≡ m.log) × ((deletes_all ps m).processes ≡ m.processes)
  beside [] m = (refl, refl)
  beside (p ∷ ps) m = beside ps (deletes_publication (pair_in p) m)

  commanding : (w : World) (j : ℕ) (command : Command) → BeginsWithin command → IsLimited g w
      → IsLimited g (after_command w j command)
  commanding w j (Insert name first last) begins h = go (can_start (member w j)) where
    go : (b : Bool) → IsLimited g (cond b (world_with w j (member_starts name first last (member w j))) w)
    go true =
        one w (world_with w j (member_starts name first last (member w j))) j _ refl refl refl
        (one_more (member w j).processes (member w j).next_process (starting name first last) begins (h.insertions j)) h
    go false = h
  commanding w j (Check process) begins h = h
  commanding w j (Delete name) begins h =
      let ps : List Publication = catalogued_under (logs w) (member w j) name in
      let b = beside ps (member w j) in
      one w (after_command w j (Delete name)) j _ refl refl b.0
      (subst AreWithinLimits (sym b.1) (h.insertions j)) h

  issuing : (w : World) (j client : ℕ) (command : Command) → BeginsWithin command → IsLimited g w
      → IsLimited g (record w { issued = w.issued ++ record { member = j; client = client; command = command } ∷ [] })
  issuing w j client command begins h = record {
    are = h.are;
    insertions = h.insertions;
    issued =
        All-push IsBegunWithin w.issued (record { member = j; client = client; command = command }) h.issued begins;
  }

  ordering : (w : World) (j : ℕ) (read : Result (ℕ × Command) ℕ) → if_unissued w j read ≡ None → IsLimited g w
      → IsLimited g (after_order w j read)
  ordering w j (Err code) taken h = h
  ordering w j (Ok order) taken h = commanding w j order.1 (made (has_issued w j order) refl taken) h where
    made : (b : Bool) → has_issued w j order ≡ b → unless b Refusal.Foreign ≡ None → BeginsWithin order.1
    made true is k = among j order w.issued h.issued is
    made false is k = cc

  -- ---- blocks

  has_room : (w : World) (j : ℕ) → if_spent w j ≡ None → length (member w j).log < 65535
  has_room w j taken = go (nat_le 65535 (length (member w j).log)) refl taken where
    go : (b : Bool) → nat_le 65535 (length (member w j).log) ≡ b → unless (not b) Refusal.NumbersSpent ≡ None
        → length (member w j).log < 65535
    go true is k = cc
    go false is k = leb-false 65535 (length (member w j).log) is

  keeping : (w : World) (j number : ℕ) (p : Process) → IsWithinLimits p → IsLimited g w
      → IsLimited g (with_process_at w j number p)
  keeping w j number p is h =
      one w (with_process_at w j number p) j _ refl refl refl
      (one_more (member w j).processes number p is (h.insertions j)) h

  blocking : (out : Environment) (w : World) (j process : ℕ) (state : BlockState) → ComesWithin state → j
      < length w.members
      → if_whole w j state ≡ None → IsLimited g w → IsLimited g (after_block out w j process state)
  blocking out w j process Unknown within there taken h = h
  blocking out w j process Already within there taken h = h
  blocking out w j process (Waiting p) within there taken h = keeping w j process p within h
  blocking out w j process (Whole p) within there taken h =
      let v : World = with_process_at w j process (closed p) in
      let kept : length v.members ≡ length w.members = length-set w.members j _ in
      let same : (member v j).log ≡ (member w j).log =
      ap (λ (m : Member). m.log) (get_or-set_same w.members j _ no_member there) in
      let few : length (member w j).log < 65535 = has_room w j taken in
      publishing out v j (Offers (object_of p)) (omega (arith, kept, there)) within.1
      (subst (λ (log : List Post). length log < 65535) (sym same) few)
      (keeping w j process (closed p) (closed_within p within.0) h)

  -- ---- withdrawals

  -- What is withdrawn was published before, and there is a number for its withdrawal.
  withdrawing : (out : Environment) (w : World) (j seq : ℕ) → j < length w.members → if_no_object_or_spent w j seq
      ≡ None
      → IsLimited g w → IsLimited g (after_publish out w j (Withdraws seq))
  withdrawing out w j seq there taken h = go (has_unwithdrawn log seq) refl taken where
    log : List Post
    log = (member w j).log

    go : (b : Bool) → has_unwithdrawn log seq ≡ b → cond b (if_spent w j) (Some Refusal.NoSuchNumber) ≡ None
        → IsLimited g (after_publish out w j (Withdraws seq))
    go true is k =
        let object : Bool = is_some (offered (get_or log (seq - 1) no_post)) in
        let once : Bool = not (list_any (λ o. withdraws_number o seq) log) in
        let places : (nat_le 1 seq && nat_le seq (length log)) ≡ true =
        (and_parts (nat_le 1 seq && nat_le seq (length log)) (object && once) is).0 in
        let both = and_parts (nat_le 1 seq) (nat_le seq (length log)) places in
        let low : 1 ≤ seq = leb-true 1 seq both.0 in
        let high : seq ≤ length log = leb-true seq (length log) both.1 in
        publishing out w j (Withdraws seq) there (omega (arith, low), omega (arith, high)) (has_room w j k) h
    go false is k = cc

  -- ---- any event

  pub limited_after : (out : Environment) (w : World) (e : Event) → BringsWithin e → EventIsTaken out w e
      → IsLimited g w
      → IsLimited g (after_event out w e)
  limited_after out w (Event.Publish j o) within taken h =
      publishing out w j (Offers o) taken.named within (has_room w j taken.taken) h
  limited_after out w (Event.Withdraw j seq) within taken h = withdrawing out w j seq taken.named taken.taken h
  limited_after out w (Event.Deliver k j) within taken h = delivering out w j (sent_at w k).vector h
  limited_after out w (Event.Sync k) within taken h = h
  limited_after out w (Event.Advance ms) within taken h = none w (after_event out w (Event.Advance ms)) refl refl h
  limited_after out w (Event.Fire j) within taken h = firing out w j (timer_at w j) h
  limited_after out w (Event.Restart j) within taken h =
      one w (after_event out w (Event.Restart j)) j _ refl refl refl (λ number p found. absurd cc) h
  limited_after out w (Event.Vector j) within taken h = h
  limited_after out w (Event.Catalogue j) within taken h = h
  limited_after out w (Event.Claim j f) within taken h = claiming w j f (to_claim w j) h
  limited_after out w (Event.Lose j f) within taken h =
      one w (after_event out w (Event.Lose j f)) j _ refl refl refl (h.insertions j) h
  limited_after out w (Event.Answer j f q) within taken h =
      coming out (tried_once w) j f (claim_at w j f) (response_from out w q (claim_at w j f))
      (none w (tried_once w) refl refl h)
  limited_after out w (Event.Fetch j tries loss) within taken h =
      one w (after_event out w (Event.Fetch j tries loss)) j _ refl refl refl (h.insertions j) h
  limited_after out w Event.Settle within taken h = settling out w h
  limited_after out w (Event.Dump j t) within taken h = h
  limited_after out w (Event.Hear j read) within taken h = hearing out w j read h
  limited_after out w (Event.Ask j find) within taken h = h
  limited_after out w (Event.Feed j f read) within taken h =
      coming out w j f (claim_at w j f) (response_read w read (claim_at w j f)) h
  limited_after out w (Event.Order j read) within taken h = ordering w j read taken.taken h
  limited_after out w (Event.Issue j client command) within taken h =
      commanding (record w { issued = w.issued ++ record { member = j; client = client; command = command } ∷ [] }) j
      command within (issuing w j client command within h)
  limited_after out w (Event.Block j process index content) within taken h =
      blocking out w j process (block_at w j process index content)
      (comes_in index content (value_of nat_cmp (member w j).processes process) within
      (λ p found. h.insertions j process p found)) taken.named taken.taken h
  limited_after out w Event.Summary within taken h = h
  limited_after out w Event.Traffic within taken h = h
