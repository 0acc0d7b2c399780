-- What the events of a group make of all members: what someone comes to hold was held before, or is noted.
use Rattle.std.proofs.Common.{◌≡◌, inl, inr, ℕ, ◌+◌, ◌<◌, Bool, true, false, cond, not, List, [], ◌∷◌, ◌++◌, length}
use Rattle.std.proofs.Common.{set, Option, Some, None, option_map, Result, Ok, Err, refl, sym, ap, ◌∙◌}
use Rattle.std.proofs.Common.{arith}
use Rattle.std.specs.Prelude.{is_some}
use Rattle.std.specs.Ordering.{eq_by_cmp}
use Rattle.std.proofs.lemmas.Bool.{true≢false, cases_Bool, and_parts, and_from, not_from_false, or_cases, or_left}
use Rattle.std.proofs.lemmas.Bool.{or_right}
use Rattle.std.proofs.lemmas.List.{length-set, get_or-set_same}
use Rattle.sorted_lists.specs.SortedList.{contains}
use Rattle.sorted_lists.proofs.Sets.{in_contains, eq_same, eq_itself, contains-insert_key, contains-filter}
use Rattle.sorted_lists.proofs.Members.{in_filtered}
use Rattle.repo_plan.specs.declared.part.Part.{Part}
use Rattle.repo_plan.specs.Parts.{Pair, pair_cmp, part_cmp, pair_of, parts_of, last_part}
use Rattle.repo_plan.specs.Plan.{is_in}
use Rattle.repo_plan.proofs.Known.{from_parts_of}
use Rattle.repo_plan.proofs.Orders.{exact_parts, exact_pairs}
use Rattle.repo_object.specs.Objects.{Post, shape_in}
use Rattle.repo_object.specs.Objects.Post.{Offers}
use Rattle.repo_process.specs.Processes.{Process, BlockState, closed, object_of}
use Rattle.repo_process.specs.Processes.BlockState.{Unknown, Already, Waiting, Whole}
use Rattle.repo_command.specs.declared.command.Command.{Command}
use Rattle.repo_command.specs.declared.command.Command.TheVariants.{Insert, Check, Delete}
use Rattle.group_model.specs.Publications.{Publication, pair_in}
use Rattle.group_model.specs.Changes.{publishes, takes, member_starts, member_with_process}
use Rattle.group_model.specs.Events.{Response}
use Rattle.group_model.specs.Events.Response.{Nothing, Its, Another}
use Rattle.group_model.specs.Member.{Member, member_holds, has_deleted, deletes_publication, deletes_all}
use Rattle.group_model.specs.Member.{catalogued_under}
use Rattle.group_model.specs.World.{Issued, World, Environment, no_member, member, logs, someone_holds}
use Rattle.group_model.specs.World.{with_member}
use Rattle.group_model.specs.Steps.{after_response, after_fetch, after_command, after_order, after_issue, after_publish}
use Rattle.group_model.specs.Steps.{after_block}
use Rattle.group_model.specs.Steps.{drawn, others_of, attempt, fetched_parts, planned_parts, fetches, can_start}
use Rattle.group_model.specs.Steps.{with_process_at}
use Rattle.group_model.proofs.Gains.{held_either, held_too}
use Rattle.group_model.proofs.Lists.{contains-insert_keys}
use Rattle.bench_world.specs.declared.touched.Touched.{Touched}
use Rattle.bench_world.specs.Touching.{touches, NotesAny}
use Rattle.bench_world.proofs.Lacking.{KeepsHeld, same_kept, kept_on, Spreads, same_spreads, spreads_on, set_spreads}
use Rattle.bench_world.proofs.Lacking.{in_set, here_someone}

-- What was noted before is still noted.
pub any_more : (n : Touched) (o : Option Pair) (later : Touched) → NotesAny n o later
    → (q : Pair) → touches n q ≡ true → touches later q ≡ true
any_more n None later notes = notes
any_more n (Some pair) later notes = notes.kept

-- ---- what is hidden

hides_kept : (pair : Pair) (m : Member) → KeepsHeld m (deletes_publication pair m)
hides_kept pair m = record {
  held = λ t h. elim (cases_Bool (is_in pair t)) [
    | inl on ↦
        let same : pair ≡ pair_of t = eq_same exact_pairs pair (pair_of t) on in
        inr (contains-insert_key exact_pairs pair m.hidden (pair_of t)
        ∙ or_left (eq_by_cmp pair_cmp (pair_of t) pair) (has_deleted m (pair_of t))
        (ap (eq_by_cmp pair_cmp (pair_of t)) same ∙ eq_itself exact_pairs (pair_of t)))
    | inr off ↦
        inl (contains-filter exact_parts (λ u. not (is_in pair u)) m.held t
        ∙ and_from (not (is_in pair t)) (member_holds m t) (not_from_false (is_in pair t) off) h)
  ];
  hidden = λ q h.
      contains-insert_key exact_pairs pair m.hidden q
      ∙ or_right (eq_by_cmp pair_cmp q pair) (has_deleted m q) h;
}

hides_all_kept : (ps : List Publication) (m : Member) → KeepsHeld m (deletes_all ps m)
hides_all_kept [] m = same_kept m
hides_all_kept (p ∷ ps) m =
    kept_on m (deletes_publication (pair_in p) m) (deletes_all (p ∷ ps) m) (hides_kept (pair_in p) m)
    (hides_all_kept ps (deletes_publication (pair_in p) m))

-- Nothing comes to be held by hiding.
hides_less : (ps : List Publication) (m : Member) (t : Part) → member_holds (deletes_all ps m) t ≡ true
    → member_holds m t ≡ true
hides_less [] m t h = h
hides_less (p ∷ ps) m t h =
    (and_parts (not (is_in (pair_in p) t)) (member_holds m t)
    (sym (contains-filter exact_parts (λ u. not (is_in (pair_in p) u)) m.held t)
    ∙ hides_less ps (deletes_publication (pair_in p) m) t h)).1

-- ---- one member

module _ (later : Touched) (w : World) (j : ℕ) (inside : j < length w.members) where
  -- The member of number `j` still holds and hides the same.
  alike_spreads : (b : Member) → b.held ≡ (member w j).held → b.hidden ≡ (member w j).hidden
      → Spreads later w.members (set w.members j b)
  alike_spreads b held hidden =
      set_spreads later w.members j inside b
      (λ t h. inl (here_someone w.members j t inside
      (sym (ap (λ (ts : List Part). contains part_cmp ts t) held) ∙ h)))
      (record {
        held = λ t h. inl (ap (λ (ts : List Part). contains part_cmp ts t) held ∙ h);
        hidden = λ q h. ap (λ (pairs : List Pair). contains pair_cmp pairs q) hidden ∙ h;
      })

  part_spreads : (f : ℕ) (t : Part) → touches later (pair_of t) ≡ true
      → Spreads later w.members (set w.members j (takes f t (member w j)))
  part_spreads f t noted =
      set_spreads later w.members j inside (takes f t (member w j))
      (λ u h. elim (held_either (t ∷ []) (member w j) u h) [
        | inl (inl same) ↦ inr (ap (λ (x : Part). touches later (pair_of x)) same ∙ noted)
        | inl (inr none) ↦ absurd none
        | inr was ↦ inl (here_someone w.members j u inside was)
      ])
      (record { held = λ u h. inl (held_too (t ∷ []) (member w j) u h); hidden = λ q h. h })

  -- What is received for a claim is noted.
  pub came_spreads : (env : Environment) (f : ℕ) (o : Option Part) (k : Response) (n : Touched)
      → NotesAny n (option_map pair_of o) later → Spreads later w.members (after_response env w j f o k).members
  came_spreads env f None k n notes = same_spreads later w.members
  came_spreads env f (Some t) Nothing n notes = same_spreads later w.members
  came_spreads env f (Some t) Its n notes = part_spreads f t notes.there
  came_spreads env f (Some t) Another n notes = part_spreads f t notes.there

  -- What a fetch brings was held by other members.
  pub fetch_spreads : (env : Environment) (tries loss : ℕ)
      → Spreads later w.members (after_fetch env w j tries loss).members
  fetch_spreads env tries loss =
      set_spreads later w.members j inside (fetches env w j tries loss (member w j))
      (λ t h. elim (held_either (fetched_parts env w j tries loss) (member w j) t h) [
        | inl came ↦
            let r = in_filtered (λ u. is_some (attempt env w j tries loss u)) (planned_parts w j) t came in
            inl (elim (in_set w.members j no_member t (lent t r.1)) [
              | inl none ↦ absurd (true≢false (sym none))
              | inr was ↦ was
            ])
        | inr was ↦ inl (here_someone w.members j t inside was)
      ])
      (record {
        held = λ t h. inl (held_too (fetched_parts env w j tries loss) (member w j) t h);
        hidden =
            λ q h. h;
      }) where
        go : (b : Bool) (o : Option ℕ) → is_some (cond b o None) ≡ true → b ≡ true
        go true o h = refl
        go false o h = absurd cc

        lent : (t : Part) → is_some (attempt env w j tries loss t) ≡ true
            → someone_holds (others_of w j) t ≡ true
        lent t h = go (someone_holds (others_of w j) t) _ h

  -- No member gains a part by a command.
  pub command_spreads : (command : Command) → Spreads later w.members (after_command w j command).members
  command_spreads (Insert name first last) = go (can_start (member w j)) where
    go : (b : Bool) → Spreads later w.members
        (let after : World = cond b (with_member w j (member_starts name first last (member w j))) w in after.members)
    go true = alike_spreads (member_starts name first last (member w j)) refl refl
    go false = same_spreads later w.members
  command_spreads (Check process) = same_spreads later w.members
  command_spreads (Delete name) =
      set_spreads later w.members j inside (deletes_all ps (member w j))
      (λ t h. inl (here_someone w.members j t inside (hides_less ps (member w j) t h)))
      (hides_all_kept ps (member w j)) where
        ps : List Publication
        ps = catalogued_under (logs w) (member w j) name

  pub order_spreads : (r : Result (ℕ × Command) ℕ) → Spreads later w.members (after_order w j r).members
  order_spreads (Ok order) = command_spreads order.1
  order_spreads (Err code) = same_spreads later w.members

  -- What is published is noted.
  pub publish_spreads : (env : Environment) (post : Post)
      → touches later (j, length (member w j).log + 1) ≡ true
      → Spreads later w.members (after_publish env w j post).members
  publish_spreads env post noted =
      set_spreads later w.members j inside (publishes (drawn env w j) w.time j post (member w j))
      (λ t h. elim (or_cases (contains part_cmp made t) (member_holds (member w j) t)
      (sym (contains-insert_keys made (member w j).held t) ∙ h)) [
        | inl new ↦
            inr (ap (touches later)
            (from_parts_of (j, length (member w j).log + 1) (last_part (shape_in post)) t
            (in_contains exact_parts made t new)).0 ∙ noted)
        | inr was ↦ inl (here_someone w.members j t inside was)
      ])
      (record {
        held = λ t h. inl (contains-insert_keys made (member w j).held t
            ∙ or_right (contains part_cmp made t) (member_holds (member w j) t) h);
        hidden = λ q h. h;
      }) where
        made : List Part
        made = parts_of (j, length (member w j).log + 1) (last_part (shape_in post))

-- No member gains a part by a command that a client makes.
pub issue_spreads : (later : Touched) (w : World) (j : ℕ) → j < length w.members → (client : ℕ) (command : Command)
    → Spreads later w.members (after_issue w j client command).members
issue_spreads later w j inside client command =
    let made : Issued = record { member = j; client = client; command = command } in
    command_spreads later (record w { issued = w.issued ++ made ∷ [] }) j inside command

-- A block publishes an object that is noted, or no member gains a part by it.
pub block_spreads : (later : Touched) (w : World) (j : ℕ) → j < length w.members → (env : Environment) (process : ℕ)
    (x : BlockState)
    → ((p : Process) → x ≡ Whole p → touches later (j, length (member w j).log + 1) ≡ true)
    → Spreads later w.members (after_block env w j process x).members
block_spreads later w j inside env process Unknown noted = same_spreads later w.members
block_spreads later w j inside env process Already noted = same_spreads later w.members
block_spreads later w j inside env process (Waiting p) noted =
    alike_spreads later w j inside (member_with_process process p (member w j)) refl refl
block_spreads later w j inside env process (Whole p) noted =
    let b : Member = member_with_process process (closed p) (member w j) in
    let mid : World = with_process_at w j process (closed p) in
    let here : member mid j ≡ b = get_or-set_same w.members j b no_member inside in
    let long : length mid.members ≡ length w.members = length-set w.members j b in
    spreads_on later w.members mid.members (after_block env w j process (Whole p)).members
    (alike_spreads later w j inside b refl refl)
    (publish_spreads later mid j (omega (arith, inside, long)) env (Offers (object_of p))
    (ap (λ (m : Member). touches later (j, length m.log + 1)) here ∙ noted p refl))
