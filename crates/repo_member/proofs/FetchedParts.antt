-- What a fetch's outcome makes of a member that calls reach.
use Rattle.std.proofs.Common.{◌≡◌, ℕ, true, false, not, List, [], ◌∷◌, map, Option, Some, None, option_map}
use Rattle.std.proofs.Common.{is_some, refl, sym, ap, ◌∙◌, subst}
use Rattle.std.specs.Prelude.{IsOk, IfSome}
use Rattle.std.specs.List.{All}
use Rattle.std.specs.Ordering.{eq_by_cmp}
use Rattle.std.proofs.lemmas.Bool.{and_parts, and_from, or_parts, not-true}
use Rattle.std.proofs.lemmas.List.Elements.{All-head, All-tail}
use Rattle.repo_plan.specs.declared.part.Part.{Part}
use Rattle.sorted_lists.specs.SortedList.{contains, value_of}
use Rattle.repo_plan.specs.declared.shape.Shape.{Shape}
use Rattle.repo_plan.specs.Parts.{Pair, part_cmp}
use Rattle.repo_plan.specs.Plan.{holds, shape_of, is_wanted, is_claimed, is_unclaimed}
use Rattle.repo_plan.specs.Sound.{CanBeHeld}
use Rattle.repo_plan.proofs.Orders.{exact_parts}
use Rattle.sorted_lists.proofs.Sets.{eq_turned}
use Rattle.repo_plan.proofs.Changes.{Keeps, IsWanted, wanted_parts, wanted_from, asked_kept}
use Rattle.repo_object.specs.declared.job.Job.{Job}
use Rattle.repo_object.specs.Publication.{RecordSays}
use Rattle.repo_object.specs.Wants.{WantedPart}
use Rattle.repo_object.specs.Verdict.{CheckedPart, IsChecked, stated_in, part_verdict, ring_verdict, publisher_key}
use Rattle.repo_store.specs.StoreList.{with_packet}
use Rattle.repo_holdings.specs.Listed.{stated_at}
use Rattle.repo_object.specs.Publication.{shape_stated}
use Rattle.repo_member.specs.Groups.{GroupKeys}
use Rattle.group_model.specs.Member.{with_tries}
use Rattle.repo_member.specs.MemberState.{MemberState, member_plan, want_of, member_takes}
use Rattle.repo_member.specs.Outcomes.{outcome_of, IsCheckedFor, AreFetched, IsOutcome}
use Rattle.repo_holdings.specs.Taking.{PartsDiffer}
use Rattle.repo_holdings.proofs.GainingLemmas.{contains-value, put_elsewhere, shape_stored}
use Rattle.repo_member.proofs.PlanChanges.{gains, sound_tried}
use Rattle.repo_member.proofs.HeldParts.{IsReached, PassesNow, StaysStored, read_still, want_stays, stays_stored}
use Rattle.repo_member.proofs.HeldParts.{missing_value, not_there, reached_with, reached_gains}
use Rattle.repo_member.proofs.ConsistentPackets.{is_there}

-- ---- jobs whose outcome can be taken

-- what was received for a job passes for its want
abbrev Passed : GroupKeys → Job → Option CheckedPart → Type 0
Passed g job part = IfSome part (λ c. IsOk (ring_verdict job.want g.members.ring c.octets))

-- a job of the member: its part is wanted and unclaimed, and its want is the member's
abbrev IsOpen : GroupKeys → MemberState → Job → Type 0
IsOpen g a job = (is_unclaimed (member_plan a) job.want.part ≡ true) × (job.want ≡ want_of g a.store job.want.part)

-- the jobs, the parts and the attempts are lists of the same length, and each job with its result is open
abbrev AreOpen : GroupKeys → MemberState → List Job → List (Option CheckedPart) → List ℕ → Type 0
AreOpen g a [] [] [] = Unit {0}
AreOpen g a (job ∷ jobs) (part ∷ parts) (n ∷ ns) = (IsOpen g a job × Passed g job part) × AreOpen g a jobs parts ns
AreOpen g a [] [] (n ∷ ns) = ⊥
AreOpen g a [] (part ∷ parts) ns = ⊥
AreOpen g a (job ∷ jobs) [] ns = ⊥
AreOpen g a (job ∷ jobs) (part ∷ parts) [] = ⊥

-- what was checked for a want passes for it
pub checked_passes : (g : GroupKeys) (want : WantedPart) (c : CheckedPart) → IsCheckedFor g want c → IsChecked c
    → IsOk (ring_verdict want g.members.ring c.octets)
checked_passes g want c h k =
    subst (λ (key : List ℕ). IsOk (part_verdict want (publisher_key g.members.ring want).name key c.octets)) h.key
    (subst (λ (name : List ℕ). IsOk (part_verdict want name c.key c.octets)) h.key_name
    (subst (λ (w : WantedPart). IsOk (part_verdict w c.key_name c.key c.octets)) h.same k))

part_passes : (g : GroupKeys) (job : Job) (part : Option CheckedPart) → IfSome part (IsCheckedFor g job.want)
    → IfSome part IsChecked → Passed g job part
part_passes g job None h k = tt
part_passes g job (Some c) h k = checked_passes g job.want c h k

abbrev IfChecked : Option CheckedPart → Type 0
IfChecked part = IfSome part IsChecked

fetched_open : (g : GroupKeys) (a : MemberState) (jobs : List Job) (parts : List (Option CheckedPart)) (ns : List ℕ)
    → AreFetched g a jobs parts ns → All IfChecked parts → AreOpen g a jobs parts ns
fetched_open g a [] [] [] h k = tt
fetched_open g a (job ∷ jobs) (part ∷ parts) (n ∷ ns) h k = (
  ((h.0.unclaimed, h.0.wanted), part_passes g job part h.0.checked (All-head IfChecked part parts k)),
  fetched_open g a jobs parts ns h.1 (All-tail IfChecked part parts k),
)
fetched_open g a [] [] (n ∷ ns) h k = absurd h
fetched_open g a [] (part ∷ parts) ns h k = absurd h
fetched_open g a (job ∷ jobs) [] ns h k = absurd h
fetched_open g a (job ∷ jobs) (part ∷ parts) [] h k = absurd h

-- ---- one part

record IsFree (a : MemberState) (t : Part) : Type 0 where
  wanted : IsWanted (member_plan a) t
  not_claimed : is_claimed (member_plan a) t ≡ false

free_from : (a : MemberState) (t : Part) → is_unclaimed (member_plan a) t ≡ true → IsFree a t
free_from a t h =
    let both = and_parts (is_wanted (member_plan a) t) (not (is_claimed (member_plan a) t)) h in
    record {
      wanted = wanted_parts (member_plan a) t both.0;
      not_claimed = not-true (is_claimed (member_plan a) t) both.1;
    }

free_can : (a : MemberState) (t : Part) → IsFree a t → CanBeHeld (member_plan a) t
free_can a t free =
    record { asked = free.wanted.asked; not_hidden = free.wanted.not_hidden; not_claimed = free.not_claimed }

no_shape : (n : Shape) → (let o : Option Shape = None in o) ≡ Some n → ⊥
no_shape n h = cc

module _ (g : GroupKeys) (a : MemberState) (t : Part) (octets : List ℕ) (r : IsReached g a) (free : IsFree a t)
    (passed : PassesNow g a.store t octets) where
  fresh : holds (member_plan a) t ≡ false
  fresh = free.wanted.not_held

  next : IsReached g (gains t octets a)
  next = reached_gains g a t octets r (free_can a t free) fresh passed

  stays : StaysStored a.store (with_packet t octets a.store)
  stays = stays_stored g a t octets r (free_can a t free) fresh

  keeps : Keeps (member_plan a) (member_plan (gains t octets a))
  keeps = record {
    knows = λ pair h. h;
    held = λ u h.
        let there = is_there (value_of part_cmp a.store u) (sym (contains-value a.store u) ∙ h) in
        contains-value (with_packet t octets a.store) u ∙ ap is_some (stays.still u there.0 there.1);
    shapes =
        λ pair shape h. go pair shape (stated_at a.store pair) refl
        (sym (shape_stored (member_plan a) a.store pair r.tied) ∙ h);
  } where
    go : (pair : Pair) (shape : Shape) (o : Option RecordSays) → stated_at a.store pair ≡ o
        → option_map shape_stated o ≡ Some shape → shape_of (member_plan (gains t octets a)) pair ≡ Some shape
    go pair shape None p q = absurd (no_shape shape q)
    go pair shape (Some says) p q =
        shape_stored (member_plan (gains t octets a)) (with_packet t octets a.store) pair next.tied
        ∙ ap (option_map shape_stated)
        (read_still stated_in a.store (with_packet t octets a.store) pair 0 says stays p) ∙ q

  -- another job can be taken still
  open_still : (job : Job) → eq_by_cmp part_cmp t job.want.part ≡ false → IsOpen g a job
      → IsOpen g (gains t octets a) job
  open_still job other is =
      let u = job.want.part in
      let its = free_from a u is.0 in
      let missing =
      put_elsewhere a.store t octets fresh u (eq_turned exact_parts u t ∙ other)
      ∙ missing_value a.store u its.wanted.not_held in
      let wanted = wanted_from (member_plan (gains t octets a)) u (record {
        asked = asked_kept (member_plan a) (member_plan (gains t octets a)) u keeps its.wanted.asked;
        not_held = not_there (with_packet t octets a.store) u missing;
        not_hidden = its.wanted.not_hidden;
      }) in (
        and_from (is_wanted (member_plan (gains t octets a)) u) (not (is_claimed (member_plan a) u)) wanted
            (and_parts (is_wanted (member_plan a) u) (not (is_claimed (member_plan a) u)) is.0).1,
        is.1 ∙ sym (want_stays g a (with_packet t octets a.store) u r.tied stays its.wanted.asked),
      )

  all_open_still : (jobs : List Job) (parts : List (Option CheckedPart)) (ns : List ℕ)
      → contains part_cmp (map (λ (job : Job). job.want.part) jobs) t ≡ false → AreOpen g a jobs parts ns
      → AreOpen g (gains t octets a) jobs parts ns
  all_open_still [] [] [] other h = tt
  all_open_still (job ∷ jobs) (part ∷ parts) (n ∷ ns) other h =
      let both =
      or_parts (eq_by_cmp part_cmp t job.want.part) (contains part_cmp (map (λ (x : Job). x.want.part) jobs) t) other in
      ((open_still job both.0 h.0.0, h.0.1), all_open_still jobs parts ns both.1 h.1)
  all_open_still [] [] (n ∷ ns) other h = absurd h
  all_open_still [] (part ∷ parts) ns other h = absurd h
  all_open_still (job ∷ jobs) [] ns other h = absurd h
  all_open_still (job ∷ jobs) (part ∷ parts) [] other h = absurd h

-- ---- all parts

tried : (g : GroupKeys) (a : MemberState) (t : Part) (n : ℕ) → IsReached g a
    → IsReached g (record a { attempts = with_tries t n a.attempts })
tried g a t n r = reached_with g a a.claims (with_tries t n a.attempts) a.machine refl (sound_tried a t n r.sound) r

takes_open : (g : GroupKeys) (a : MemberState) (jobs : List Job) (parts : List (Option CheckedPart)) (ns : List ℕ)
    → PartsDiffer (map (λ (job : Job). job.want.part) jobs) → AreOpen g a jobs parts ns → IsReached g a
    → IsReached g (member_takes (outcome_of jobs parts ns) a)
takes_open g a [] [] [] apart h r = r
takes_open g a (job ∷ jobs) (None ∷ parts) (n ∷ ns) apart h r =
    takes_open g (record a { attempts = with_tries job.want.part n a.attempts }) jobs parts ns apart.1 h.1
    (tried g a job.want.part n r)
takes_open g a (job ∷ jobs) (Some c ∷ parts) (n ∷ ns) apart h r =
    let t = job.want.part in
    let free = free_from a t h.0.0.0 in
    let passed : PassesNow g a.store t c.octets =
    subst (λ (want : WantedPart). IsOk (ring_verdict want g.members.ring c.octets)) h.0.0.1 h.0.1 in
    let gained = gains t c.octets a in
    takes_open g (record gained { attempts = with_tries t n a.attempts }) jobs parts ns apart.1
    (all_open_still g a t c.octets r free passed jobs parts ns apart.0 h.1)
    (tried g gained t n (next g a t c.octets r free passed))
takes_open g a [] [] (n ∷ ns) apart h r = absurd h
takes_open g a [] (part ∷ parts) ns apart h r = absurd h
takes_open g a (job ∷ jobs) [] ns apart h r = absurd h
takes_open g a (job ∷ jobs) (part ∷ parts) [] apart h r = absurd h

pub reached_takes : (g : GroupKeys) (a : MemberState) (jobs : List Job) (parts : List (Option CheckedPart))
    (ns : List ℕ)
    → IsOutcome g a jobs parts ns → All IfChecked parts → IsReached g a
    → IsReached g (member_takes (outcome_of jobs parts ns) a)
reached_takes g a jobs parts ns is checked r =
    takes_open g a jobs parts ns is.apart (fetched_open g a jobs parts ns is.each checked) r
