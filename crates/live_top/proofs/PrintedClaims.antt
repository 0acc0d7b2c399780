-- What an event makes of the vector and the claims of a member.
use Rattle.std.proofs.Common.{◌≡◌, inl, inr, ℕ, ◌+◌, ◌-◌, ◌<◌, ◌≤◌, Bool, true, false, List, length}
use Rattle.std.proofs.Common.{get_or, map, Option, Some, None, refl, sym, ◌∙◌, subst, arith}
use Rattle.std.proofs.lemmas.Bool.{and_parts, cases_lt}
use Rattle.std.proofs.lemmas.List.{get_or_past, get_or-set_same, length-map, length-set}
use Rattle.std.proofs.lemmas.List.Elements.{All-set}
use Rattle.std.specs.Prelude.{is_some, is_none, if◌then◌else◌}
use Rattle.std.specs.List.{All}
use Rattle.sorted_lists.proofs.Members.{in_filtered}
use Rattle.repo_plan.specs.declared.part.Part.{Part}
use Rattle.repo_plan.specs.Plan.{is_wanted, is_unclaimed, known_parts, unclaimed, first}
use Rattle.repo_object.specs.Objects.Post.{Offers}
use Rattle.repo_member.specs.Verdicts.{group_verdict}
use Rattle.repo_member.proofs.PublicLaws.{long_join}
use Rattle.group_model.specs.Events.{SyncInterest, Response}
use Rattle.group_model.specs.Events.Response.{Nothing, Its, Another}
use Rattle.group_model.specs.Publications.{Logs}
use Rattle.group_model.specs.Member.{Member, plan_of}
use Rattle.group_model.specs.Changes.{publishes, learns, member_with_claim, takes}
use Rattle.group_model.specs.World.{World, member, with_member, no_member, logs}
use Rattle.group_model.specs.Steps.{claim_at, to_claim, after_claiming, after_hear, after_response}
use Rattle.group_model.specs.Steps.{response_read, drawn, exceeds_log, after_deliver}
use Rattle.group_model.proofs.Lists.{in_first}
use Rattle.group_model.proofs.Plans.{wanted_parts}
use Rattle.live_member.specs.declared.event.LiveEvent.{LiveEvent}
use Rattle.live_member.specs.declared.event.LiveEvent.TheVariants as event
use Rattle.live_member.specs.Meanings.{Meaning, as_posts, whole_logs, with_log, world_at, environment}
use Rattle.live_member.specs.Replay.{after, next_object, sync_read, fed}

-- ---- claims

-- a claimed part's publisher is below `n`, the number of members
abbrev pub IsBelow : ℕ → Option Part → Type 0
IsBelow n None = Unit {0}
IsBelow n (Some t) = t.publisher < n

pub below_at : (n : ℕ) (claims : List (Option Part)) (k : ℕ) → All (IsBelow n) claims
    → IsBelow n (get_or claims k None)
below_at n claims k each = elim (cases_lt k (length claims)) [
  | inl less ↦ each k None less
  | inr past ↦ subst (IsBelow n) (sym (get_or_past claims k None past)) tt
]

known_place : (known : List ℕ) (p s : ℕ) → 1 ≤ s → s ≤ get_or known p 0 → p < length known
known_place known p s one most = elim (cases_lt p (length known)) [
  | inl less ↦ less
  | inr past ↦ let none : get_or known p 0 ≡ 0 = get_or_past known p 0 past in absurd (omega (arith, none, one, most))
]

-- a part that can be claimed is of a publisher that has a number in the vector
pub open_below : (ls : Logs) (m : Member) (c : Option Part) → first (unclaimed (plan_of ls m)) ≡ c
    → IsBelow (length m.known) c
open_below ls m None is = tt
open_below ls m (Some t) is =
    let p = plan_of ls m in
    let free : is_unclaimed p t ≡ true =
    (in_filtered (is_unclaimed p) (known_parts p) t (in_first (unclaimed p) t is)).1 in
    let known = (wanted_parts ls m t (and_parts (is_wanted p t) _ free).0).known in
    known_place m.known t.publisher t.seq known.from_one known.to_known

-- ---- events

-- the vector gets no shorter; and where the publishers of all claims are below `n`, which is at least the length of the
-- old vector, they still are afterwards
pub record GoesOn (from to : Member) : Type 0 where
  pub longer : length from.known ≤ length to.known
  pub claims : (n : ℕ) → length from.known ≤ n → All (IsBelow n) from.claims → All (IsBelow n) to.claims

stays : (m : Member) → GoesOn m m
stays m = record { longer = omega arith; claims = λ n wide each. each }

claims_on : (f : ℕ) (c : Option Part) (m : Member) → IsBelow (length m.known) c → GoesOn m (member_with_claim f c m)
claims_on f c m below = record {
  longer = omega arith;
  claims = λ n wide each. All-set (IsBelow n) m.claims (f - 1) c (wider n wide c below) each;
} where
  wider : (n : ℕ) → length m.known ≤ n → (c : Option Part) → IsBelow (length m.known) c → IsBelow n c
  wider n wide None b = tt
  wider n wide (Some t) b = omega (arith, wide, b)

takes_on : (f : ℕ) (t : Part) (m : Member) → GoesOn m (takes f t m)
takes_on f t m = record {
  longer = omega arith;
  claims = λ n wide each. All-set (IsBelow n) m.claims (f - 1) None tt each;
}

module _ (t : Meaning) (j : ℕ) (there : j < length t.lists) (m : Member) where
  abbrev w : World
  w = world_at t j m

  before : length (map with_log (whole_logs t)) ≡ length t.lists
  before = length-map (whole_logs t) with_log ∙ length-map t.lists as_posts

  pub same : member w j ≡ m
  same = get_or-set_same (map with_log (whole_logs t)) j m no_member (omega (arith, there, before))

  -- what the member at the place `j` has become
  becomes : (x : Member) → GoesOn (member w j) x → GoesOn m (member (with_member w j x) j)
  becomes x goes =
      let wide : j < length w.members =
      omega (arith, there, before, length-set (map with_log (whole_logs t)) j m) in
      subst (λ (y : Member). GoesOn y (member (with_member w j x) j)) same
      (subst (GoesOn (member w j)) (sym (get_or-set_same w.members j x no_member wide)) goes)

  same_as_before : GoesOn m (member w j)
  same_as_before = subst (GoesOn m) (sym same) (stays m)

  hears : (read : Option SyncInterest) → GoesOn m (member (after_hear (environment t) w j read) j)
  hears None = same_as_before
  hears (Some sync) = go (exceeds_log w j sync) where
    go : (ahead : Bool)
        → GoesOn m (member (if ahead then w else after_deliver (environment t) w j sync.vector) j)
    go true = same_as_before
    go false = becomes (learns (drawn (environment t) w j) w.time sync.vector (member w j))
        (record { longer = long_join (member w j).known sync.vector; claims = λ n wide each. each })

  claims : (f : ℕ) (c : Option Part) → to_claim w j ≡ c → GoesOn m (member (after_claiming w j f c) j)
  claims f None is = same_as_before
  claims f (Some part) is =
      becomes (member_with_claim f (Some part) (member w j))
      (claims_on f (Some part) (member w j) (open_below (logs w) (member w j) (Some part) is))

  comes : (f : ℕ) (c : Option Part) (came : Response)
      → GoesOn m (member (after_response (environment t) w j f c came) j)
  comes f None came = same_as_before
  comes f (Some part) Nothing = same_as_before
  comes f (Some part) Its = becomes (takes f part (member w j)) (takes_on f part (member w j))
  comes f (Some part) Another = becomes (takes f part (member w j)) (takes_on f part (member w j))

  unless : (refused : Bool) (x : Member) → GoesOn m x → GoesOn m (if refused then m else x)
  unless true x goes = stays m
  unless false x goes = goes

  pub goes_on : (e : LiveEvent) → GoesOn m (after t j m e)
  goes_on event.Publish =
      becomes (publishes (drawn (environment t) w j) w.time j (Offers (next_object t j m)) (member w j)) (record {
        longer = omega (arith, length-set (member w j).known j (length (member w j).log + 1));
        claims = λ n wide each. each;
      })
  goes_on (event.Hear octets) = hears (sync_read (group_verdict t.group octets))
  goes_on (event.Claim f) = unless (is_some (claim_at w j f)) _ (claims f (to_claim w j) refl)
  goes_on (event.Accept f part) = comes f (claim_at w j f) (response_read w (fed part) (claim_at w j f))
  goes_on (event.Lose f) =
      unless (is_none (claim_at w j f)) _
      (becomes (member_with_claim f None (member w j)) (claims_on f None (member w j) tt))
