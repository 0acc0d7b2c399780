-- A part that a fetcher claims is of a member.
use Rattle.std.proofs.Common.{◌≡◌, ℕ, ◌-◌, ◌<◌, inl, inr}
use Rattle.std.proofs.Common.{map, length, get_or, set}
use Rattle.std.proofs.Common.{refl, sym, ap, ◌∙◌, subst, arith, Option, Some, None}
use Rattle.std.specs.Prelude.{is_some, if◌then◌else◌}
use Rattle.std.proofs.lemmas.Bool.{cases_lt}
use Rattle.std.proofs.lemmas.List.{get_or-set_same, length-set, length-map}
use Rattle.repo_plan.specs.declared.part.Part.{Part}
use Rattle.repo_plan.specs.Calls.{IsFetcher}
use Rattle.group_model.specs.Member.{Member}
use Rattle.group_model.specs.World.{World, member, no_member}
use Rattle.group_model.specs.Replies.{Reply}
use Rattle.group_model.specs.Steps.{claim_at, to_claim, after_claiming}
use Rattle.group_model.specs.Changes.{member_with_claim}
use Rattle.group_model.proofs.Plans.{wanted_parts}
use Rattle.repo_member.specs.InGroup.{in_group}
use Rattle.live_member.specs.declared.event.LiveEvent.TheVariants as event
use Rattle.live_member.specs.declared.event.LiveReply.{LiveReply}
use Rattle.live_member.specs.declared.event.LiveReply.TheVariants as reply
use Rattle.live_member.specs.Meanings.{Meaning, logs_at, whole_logs, world_at, with_log, as_posts}
use Rattle.live_member.specs.Replay.{live_reply, after}
use Rattle.live_member.specs.Lives.{Living}
use Rattle.live_member.specs.LockedCalls.{IsEntered, StepsBy}
use Rattle.live_actors.specs.ActorCalls.{IsOfMember}
use Rattle.live_settle.proofs.Turning.{in_range}

received_part : (c d : Option Part) (part : Part)
    → (if is_some c then reply.Refused else live_reply (Reply.Claimed d)) ≡ reply.Claimed part
    → (c ≡ None) × (d ≡ Some part)
received_part (Some p) d part is = absurd cc
received_part None None part is = absurd cc
received_part None (Some p) part is = (refl, cc)

module _ (t : Meaning) (most : ℕ) (old new : Living) (r : LiveReply) (f : ℕ) (part : Part) (fetcher : IsFetcher f)
    (steps : StepsBy t most (event.Claim f) old new r) (its : r ≡ reply.Claimed part) where
  is : StepsBy t most (event.Claim f) old new (reply.Claimed part)
  is = subst (λ (s : LiveReply). StepsBy t most (event.Claim f) old new s) its steps

  entered : IsEntered t (event.Claim f) old new (reply.Claimed part)
  entered = elim (cases_lt (length old.journal) most) [
    | inl room ↦ (is.1 room).0
    | inr full ↦ let none = (is.0 full).0 in absurd cc
  ]

  abbrev j : ℕ
  j = old.state.number

  abbrev m : Member
  m = in_group old.state

  abbrev w : World
  w = world_at t j m

  claims_it : (claim_at w j f ≡ None) × (to_claim w j ≡ Some part)
  claims_it = received_part (claim_at w j f) (to_claim w j) part (sym entered.replied)

  wide : length w.members ≡ length t.lists
  wide =
      length-set (map with_log (whole_logs t)) j m ∙ length-map (whole_logs t) with_log ∙ length-map t.lists as_posts

  wide_logs : length (logs_at t new.state.number new.state.log) ≡ length t.lists
  wide_logs = length-set (whole_logs t) new.state.number new.state.log ∙ length-map t.lists as_posts

  there : j < length w.members
  there =
      let less = is.2.consistent.there in
      let same = entered.number in omega (arith, wide, wide_logs, less, same)

  abbrev claimed : Member
  claimed = member_with_claim f (Some part) (member w j)

  after_is : in_group new.state ≡ claimed
  after_is =
      entered.changed
      ∙ after_by claims_it.0 claims_it.1
      ∙ get_or-set_same w.members j claimed no_member there where
        after_by : claim_at w j f ≡ None → to_claim w j ≡ Some part
            → after t j m (event.Claim f) ≡ get_or (set w.members j claimed) j no_member
        after_by free first_open =
            ap (λ (c : Option Part). if is_some c then m
            else member (after_claiming w j f (to_claim w j)) j) free
            ∙ ap (λ (c : Option Part). member (after_claiming w j f c) j) first_open

  sixteen : length (member w j).claims ≡ 16
  sixteen =
      sym (length-set (member w j).claims (f - 1) (Some part))
      ∙ ap (λ (x : Member). length x.claims) (sym after_is)
      ∙ is.2.consistent.sound.fetchers

  its_claim : get_or (in_group new.state).claims (f - 1) None ≡ Some part
  its_claim =
      ap (λ (x : Member). get_or x.claims (f - 1) None) after_is
      ∙ get_or-set_same (member w j).claims (f - 1) (Some part) None
      (let one = fetcher.from_one in let last = fetcher.to_last in omega (arith, sixteen, one, last))

  -- the part's publisher is a member
  pub publisher_there : part.publisher < length t.lists
  publisher_there =
      let ls = logs_at t new.state.number new.state.log in
      let sound = is.2.consistent.sound in
      let known = (wanted_parts ls (in_group new.state) part (sound.claimed (f - 1) part its_claim)).known in
      let most_received = sound.known part.publisher in
      let less = in_range ls part.publisher part.seq known.from_one (omega (arith, known.to_known, most_received)) in
      omega (arith, less, wide_logs)

-- what is claimed, whatever is replied
pub of_member : (t : Meaning) (most : ℕ) (old new : Living) (r : LiveReply) (f : ℕ) → IsFetcher f
    → StepsBy t most (event.Claim f) old new r → IsOfMember (length t.lists) r
of_member t most old new (reply.Claimed part) f fetcher steps =
    publisher_there t most old new (reply.Claimed part) f part fetcher steps refl
of_member t most old new (reply.Published n) f fetcher steps = tt
of_member t most old new reply.Steady f fetcher steps = tt
of_member t most old new reply.Suppressed f fetcher steps = tt
of_member t most old new reply.NoPart f fetcher steps = tt
of_member t most old new reply.Kept f fetcher steps = tt
of_member t most old new (reply.Lost part) f fetcher steps = tt
of_member t most old new reply.Refused f fetcher steps = tt
of_member t most old new reply.Full f fetcher steps = tt
