-- A claim and a loss keep what holds under the lock.
use Rattle.std.proofs.Common.{◌≡◌, ℕ, ◌-◌, List, Option, Some, None, refl, ap, sym, ◌∙◌, get_or, arith}
use Rattle.std.specs.Prelude.{is_some, is_none, if◌then◌else◌}
use Rattle.repo_plan.specs.declared.part.Part.{Part}
use Rattle.repo_plan.specs.Plan.{claim_of, unclaimed, first}
use Rattle.repo_member.specs.MemberState.{MemberState, member_plan}
use Rattle.repo_member.specs.InGroup.{AreLogs, in_group}
use Rattle.repo_member.specs.ConsistentMembers.{IsConsistentMember}
use Rattle.repo_member.proofs.PublicLaws.{claim_is_event, lose_is_event, open_parts_alike, claims_consistent}
use Rattle.repo_member.proofs.PublicLaws.{loses_consistent}
use Rattle.group_model.specs.Events.{Event}
use Rattle.group_model.specs.Member.{Member}
use Rattle.group_model.specs.World.{World, member}
use Rattle.group_model.specs.Replies.{Reply}
use Rattle.group_model.specs.Steps.{claim_at, after_event, reply_to}
use Rattle.live_member.specs.declared.event.LiveEvent.TheVariants as event
use Rattle.live_member.specs.declared.event.LiveReply.TheVariants as reply
use Rattle.live_member.specs.Meanings.{Meaning, logs_at, world_at, environment}
use Rattle.live_member.specs.Replay.{live_reply}
use Rattle.live_member.specs.Calls.{claim_change_of, claim_reply_of, part_reply, lose_change_of, lose_reply_of}
use Rattle.live_member.proofs.Around.{member_around, number_there, is_member, is_consistent_in}
use Rattle.live_member.proofs.Journals.{IsAfter, IsQuiet}

received_of_part : (c : Option Part) → live_reply (Reply.Claimed c) ≡ part_reply c
received_of_part None = refl
received_of_part (Some t) = refl

module _ (t : Meaning) (a : MemberState) (f : ℕ) (own : AreLogs t.group (logs_at t a.number a.log))
    (consistent : IsConsistentMember t.group (logs_at t a.number a.log) a) where
  abbrev w : World
  w = world_at t a.number (in_group a)

  pub claim_alike : (c : Option Part) → claim_of (member_plan a) f ≡ c → claim_at w a.number f ≡ c
  claim_alike c is =
      ap (λ (m : Member). get_or m.claims (f - 1) None)
      (member_around t a.number (in_group a) (number_there t a own consistent)) ∙ is

  pub claim_after : (c : Option Part) → claim_of (member_plan a) f ≡ c
      → IsAfter t (event.Claim f) (claim_reply_of c a) a (claim_change_of c f a)
  claim_after None is =
      let idle = claim_alike None is in
      let m = is_member t a own consistent in
      let consistent_in = is_consistent_in t a own consistent in
      record {
        replied = sym (ap (λ (c : Option Part). if is_some c then reply.Refused
            else live_reply (reply_to (environment t) w (Event.Claim a.number f))) idle
            ∙ ap (λ (ps : List Part). live_reply (Reply.Claimed (first ps)))
            (open_parts_alike w a.number t.group a m consistent_in)
            ∙ received_of_part (first (unclaimed (member_plan a))));
        changed = sym (ap (λ (c : Option Part). if is_some c then in_group a
            else member (after_event (environment t) w (Event.Claim a.number f)) a.number) idle
            ∙ claim_is_event (environment t) w a.number f t.group a m consistent_in is);
        number = refl;
      }
  claim_after (Some p) is =
      let busy = claim_alike (Some p) is in
      record {
        replied = sym (ap (λ (c : Option Part). if is_some c then reply.Refused
            else live_reply (reply_to (environment t) w (Event.Claim a.number f))) busy);
        changed = sym (ap (λ (c : Option Part). if is_some c then in_group a
            else member (after_event (environment t) w (Event.Claim a.number f)) a.number) busy);
        number = refl;
      }

  pub claim_quiet : (c : Option Part) → claim_of (member_plan a) f ≡ c → IsQuiet t a (claim_change_of c f a)
  claim_quiet None is = record {
    log = refl;
    hidden = refl;
    draws = omega arith;
    consistent = claims_consistent t.group (logs_at t a.number a.log) f a own consistent;
  }
  claim_quiet (Some p) is = record { log = refl; hidden = refl; draws = omega arith; consistent = consistent }

  pub lose_after : (c : Option Part) → claim_of (member_plan a) f ≡ c
      → IsAfter t (event.Lose f) (lose_reply_of c) a (lose_change_of c f a)
  lose_after None is =
      let idle = claim_alike None is in
      record {
        replied = sym (ap (λ (c : Option Part). if is_none c then reply.Refused
            else live_reply (reply_to (environment t) w (Event.Lose a.number f))) idle);
        changed = sym (ap (λ (c : Option Part). if is_none c then in_group a
            else member (after_event (environment t) w (Event.Lose a.number f)) a.number) idle);
        number = refl;
      }
  lose_after (Some p) is =
      let busy = claim_alike (Some p) is in
      record {
        replied = sym (ap (λ (c : Option Part). if is_none c then reply.Refused
            else live_reply (reply_to (environment t) w (Event.Lose a.number f))) busy
            ∙ ap (λ (c : Option Part). live_reply (Reply.Lost c)) busy);
        changed = sym (ap (λ (c : Option Part). if is_none c then in_group a
            else member (after_event (environment t) w (Event.Lose a.number f)) a.number) busy
            ∙ lose_is_event (environment t) w a.number f a (is_member t a own consistent));
        number = refl;
      }

  pub lose_quiet : (c : Option Part) → IsQuiet t a (lose_change_of c f a)
  lose_quiet None = record { log = refl; hidden = refl; draws = omega arith; consistent = consistent }
  lose_quiet (Some p) = record {
    log = refl;
    hidden = refl;
    draws = omega arith;
    consistent = loses_consistent t.group (logs_at t a.number a.log) f a consistent;
  }
