-- A packet that a fetcher is given keeps what holds under the lock.
use Rattle.std.proofs.Common.{◌≡◌, ℕ, ◌-◌, Bool, true, false, cond, List, Option, Some, None, Ok, refl, ap, sym, ◌∙◌}
use Rattle.std.proofs.Common.{subst, arith, ◌&&◌, ◌==◌}
use Rattle.std.specs.Prelude.{if◌then◌else◌}
use Rattle.std.proofs.lemmas.Bool.{and_parts, eqb-true}
use Rattle.repo_plan.specs.declared.part.Part.{Part}
use Rattle.repo_plan.specs.Plan.{PlanState, claim_of, is_wanted}
use Rattle.repo_object.specs.Objects.{NamedContents}
use Rattle.repo_member.specs.MemberState.{MemberState, member_plan, member_accepts}
use Rattle.repo_member.specs.InGroup.{in_group, published_packet}
use Rattle.repo_member.specs.InEvents.{IsMemberOf}
use Rattle.repo_member.specs.Verdicts.{accept_verdict}
use Rattle.repo_member.proofs.PublicLaws.{feed_is_event, plans_alike, consistent_stores, wants_published}
use Rattle.repo_member.proofs.PublicLaws.{takes_the_consistent}
use Rattle.repo_member.proofs.PublicLaws.{accepts_consistent}
use Rattle.group_model.specs.Events.Response.{Nothing, Its}
use Rattle.group_model.specs.World.{World, member}
use Rattle.group_model.specs.Replies.{Reply}
use Rattle.group_model.specs.Steps.{claim_at, passes_checks, response_read, after_response}
use Rattle.live_member.specs.declared.event.LiveEvent.TheVariants as event
use Rattle.live_member.specs.declared.event.LiveReply.TheVariants as reply
use Rattle.live_member.specs.declared.event.LiveEntry.{LiveEntry}
use Rattle.live_member.specs.Meanings.{Meaning, whole_logs, logs_at, world_at, environment}
use Rattle.live_member.specs.Lives.{IsLive, living}
use Rattle.live_member.specs.Replay.{is_part, fed, live_reply, after, reply_of}
use Rattle.live_member.specs.Calls.{is_claim, accept_change, accept_reply}
use Rattle.live_member.proofs.Around.{number_there, is_member, packet_alike}
use Rattle.live_member.proofs.ClaimSteps.{claim_alike}
use Rattle.live_member.proofs.Journals.{IsAfter, IsQuiet}

same_part : (t u : Part) → is_part t u ≡ true → t ≡ u
same_part t u h =
    let both = and_parts (t.publisher == u.publisher) ((t.seq == u.seq) && (t.part == u.part)) h in
    let rest = and_parts (t.seq == u.seq) (t.part == u.part) both.1 in
    let p : t.publisher ≡ u.publisher = eqb-true t.publisher u.publisher both.0 in
    let s : t.seq ≡ u.seq = eqb-true t.seq u.seq rest.0 in
    let x : t.part ≡ u.part = eqb-true t.part u.part rest.1 in
    λ i. record { publisher = p i; seq = s i; part = x i }

pub claims_it : (t : Part) (c : Option Part) → is_claim t c ≡ true → c ≡ Some t
claims_it t None h = absurd cc
claims_it t (Some u) h = ap (λ (v : Part). Some v) (sym (same_part t u h))

passes_so : (b : Bool) → passes_checks (if b then Its else Nothing) ≡ b
passes_so true = refl
passes_so false = refl

fed_reply : (b : Bool) → live_reply (Reply.Fed b) ≡ (if b then reply.Kept else reply.Refused)
fed_reply true = refl
fed_reply false = refl

module _ (t : Meaning) (most : ℕ) (a : MemberState) (journal : List LiveEntry) (unpublished : List NamedContents)
    (f : ℕ) (part : Part) (octets : List ℕ) (live : IsLive t most (living a journal unpublished))
    (lent : published_packet t.group (whole_logs t) part ≡ Some octets) where
  abbrev w : World
  w = world_at t a.number (in_group a)

  abbrev claim : Option Part
  claim = claim_of (member_plan a) f

  member_is : IsMemberOf w a.number a
  member_is = is_member t a live.logs live.consistent

  -- a claimed part is one of a publication, and `octets` are its packet
  claimed_packet : claim ≡ Some part → published_packet t.group (logs_at t a.number a.log) part ≡ Some octets
  claimed_packet is =
      let ls = logs_at t a.number a.log in
      let wanted : is_wanted (member_plan a) part ≡ true =
      subst (λ (p : PlanState). is_wanted p part ≡ true)
      (sym (plans_alike t.group ls a live.logs (consistent_stores t.group ls a live.consistent)))
      (live.consistent.sound.claimed (f - 1) part is) in
      packet_alike t a.number a.log unpublished live.list (number_there t a live.logs live.consistent) part
      (wants_published t.group ls a part live.logs live.consistent wanted).there ∙ lent

  pub passes : claim ≡ Some part → accept_verdict t.group a f octets ≡ Ok part
  passes is =
      takes_the_consistent t.group (logs_at t a.number a.log) a f part octets live.logs live.consistent is
      (claimed_packet is)

  claim_so : (c : Option Part) → claim ≡ c → claim_at w a.number f ≡ c
  claim_so c is = claim_alike t a f live.logs live.consistent c is

  abbrev changed_by : Option Part → MemberState
  changed_by c = if is_claim part c then member_accepts f part octets a else a

  taken : (u : Part) → in_group (if is_part part u then member_accepts f u octets a else a)
      ≡ in_group (changed_by (Some u))
  taken u = go (is_part part u) refl where
    go : (b : Bool) → is_part part u ≡ b
        → in_group (cond b (member_accepts f u octets a) a) ≡ in_group (cond b (member_accepts f part octets a) a)
    go true h = ap (λ (v : Part). in_group (member_accepts f v octets a)) (sym (same_part part u h))
    go false h = refl

  comes : (c : Option Part) → claim ≡ c
      → after t a.number (in_group a) (event.Accept f part) ≡ in_group (changed_by c)
  comes None is =
      ap (λ (c : Option Part).
      member (after_response (environment t) w a.number f c (response_read w (fed part) c)) a.number)
      (claim_so None is)
      ∙ member_is.same
  comes (Some u) is =
      feed_is_event (environment t) w a.number f (fed part) u octets a member_is
      (consistent_stores t.group (logs_at t a.number a.log) a live.consistent).in_order is
      ∙ ap (λ (b : Bool). in_group (if b then member_accepts f u octets a else a)) (passes_so (is_part part u))
      ∙ taken u

  answers : (c : Option Part) → claim ≡ c
      → (if is_claim part c then reply.Kept else reply.Refused) ≡ reply_of t a.number (in_group a) (event.Accept f part)
  answers c is = sym (
      ap (λ (d : Option Part). live_reply (Reply.Fed (passes_checks (response_read w (fed part) d)))) (claim_so c is)
      ∙ go c) where
        go : (d : Option Part)
            → live_reply (Reply.Fed (passes_checks (response_read w (fed part) d)))
            ≡ (if is_claim part d then reply.Kept else reply.Refused)
        go None = refl
        go (Some u) =
            ap (λ (b : Bool). live_reply (Reply.Fed b)) (passes_so (is_part part u)) ∙ fed_reply (is_part part u)

  number_stays : (b : Bool) → (if b then member_accepts f part octets a else a).number ≡ a.number
  number_stays true = refl
  number_stays false = refl

  pub accept_after : IsAfter t (event.Accept f part) (accept_reply part f a) a (accept_change part octets f a)
  accept_after = record {
    replied = answers claim refl;
    changed = sym (comes claim refl);
    number = number_stays (is_claim part claim);
  }

  quiet_by : (c : Option Part) → claim ≡ c → (b : Bool) → is_claim part c ≡ b
      → IsQuiet t a (if b then member_accepts f part octets a else a)
  quiet_by c is false h = record { log = refl; hidden = refl; draws = omega arith; consistent = live.consistent }
  quiet_by None is true h = absurd cc
  quiet_by (Some u) is true h =
      let its : claim ≡ Some part = is ∙ ap (λ (v : Part). Some v) (sym (same_part part u h)) in
      record {
        log = refl;
        hidden = refl;
        draws = omega arith;
        consistent = accepts_consistent t.group (logs_at t a.number a.log) f part octets a live.logs its
            (claimed_packet its)
            live.consistent;
      }

  pub accept_quiet : IsQuiet t a (accept_change part octets f a)
  accept_quiet = quiet_by claim refl (is_claim part claim) refl
