-- What the calls under the lock make of a member whose whole list is published.
use Rattle.std.proofs.Common.{◌≡◌, inl, inr, ℕ, ◌+◌, ◌≤◌, ◌<◌, max, List}
use Rattle.std.proofs.Common.{[]}
use Rattle.std.proofs.Common.{◌++◌, length, get_or, set, refl, sym, ap, ◌∙◌, subst, arith, Some, Ok}
use Rattle.std.specs.Prelude.{slice_index}
use Rattle.std.proofs.lemmas.Bool.{cases_eq}
use Rattle.std.proofs.lemmas.List.{append-nil, set-get_or, length-append}
use Rattle.repo_object.specs.Objects.{NamedContents, Post}
use Rattle.repo_plan.specs.declared.part.Part.{Part}
use Rattle.repo_plan.specs.Plan.{claim_of}
use Rattle.svs_vector.specs.Vectors.{join}
use Rattle.svs_vector.proofs.JoinLemmas.{join-at}
use Rattle.group_model.specs.Publications.{Logs, last_of}
use Rattle.group_model.specs.Member.{Member}
use Rattle.group_model.specs.Sound.{IsConsistentVector}
use Rattle.repo_member.specs.MemberState.{member_plan}
use Rattle.repo_member.specs.InGroup.{in_group, published_packet}
use Rattle.repo_member.specs.ConsistentMembers.{IsConsistentMember}
use Rattle.repo_member.specs.Verdicts.{sync_of, hear_verdict}
use Rattle.repo_member.proofs.PublicLaws.{syncs_are_taken}
use Rattle.live_member.specs.declared.event.LiveEvent.TheVariants as event
use Rattle.live_member.specs.declared.event.LiveReply.{LiveReply}
use Rattle.live_member.specs.Meanings.{Meaning, as_posts, whole_logs, logs_at}
use Rattle.live_member.specs.Reports.{IsReport}
use Rattle.live_member.specs.Lives.{Living, IsLive}
use Rattle.live_member.specs.LockedCalls.{IsEntered, StepsBy}
use Rattle.live_member.specs.Calls.{claim_change, claim_reply, accept_change, accept_reply, hear_change}
use Rattle.live_member.proofs.PublicLaws.{width_whole, number_there, whole_at, claim_after}
use Rattle.live_member.proofs.PublicLaws.{hear_after, accept_after}
use Rattle.live_settle.specs.Ready.{Continues, IsReady, KnowsThose}
use Rattle.live_settle.proofs.Prefixes.{continues_with}

-- ---- the calls, by the member itself

module _ (t : Meaning) (most : ℕ) (l new : Living) (live : IsLive t most l) where
  pub claim_state : (f : ℕ) (r : LiveReply) → IsEntered t (event.Claim f) l new r
      → (in_group new.state ≡ in_group (claim_change f l.state)) × (r ≡ claim_reply f l.state)
  claim_state f r is =
      let law = claim_after t l.state f live.logs live.consistent (claim_of (member_plan l.state) f) refl in
      (is.changed ∙ sym law.changed, is.replied ∙ sym law.replied)

  pub hear_state : (octets : List ℕ) (r : LiveReply) → IsReport t octets → IsEntered t (event.Hear octets) l new r
      → in_group new.state
      ≡ in_group (hear_change (hear_verdict t.group l.state octets) (slice_index t.draws l.state.number) l.state)
  hear_state octets r tell is =
      let law = hear_after t most l.state l.journal l.unpublished octets
      (slice_index t.draws l.state.number) live tell refl in
      is.changed ∙ sym law.changed

  pub accept_state : (f : ℕ) (part : Part) (octets : List ℕ) (r : LiveReply)
      → published_packet t.group (whole_logs t) part ≡ Some octets → IsEntered t (event.Accept f part) l new r
      → (in_group new.state ≡ in_group (accept_change part octets f l.state)) × (r ≡ accept_reply part f l.state)
  accept_state f part octets r lent is =
      let law = accept_after t most l.state l.journal l.unpublished f part octets live lent in
      (is.changed ∙ sym law.changed, is.replied ∙ sym law.replied)

-- ---- a member whose whole list is published

module _ (t : Meaning) (most : ℕ) (l : Living) (live : IsLive t most l) (unpublished : l.unpublished ≡ []) where
  whole_log : logs_at t l.state.number l.state.log ≡ whole_logs t
  whole_log =
      let j : ℕ = l.state.number in
      let there : j < length t.lists = number_there t l.state live.logs live.consistent in
      let log : l.state.log ≡ get_or (whole_logs t) j [] =
      sym (append-nil l.state.log)
      ∙ ap (λ (cs : List NamedContents). l.state.log ++ as_posts cs) (sym unpublished)
      ∙ sym (whole_at t j l.state.log l.unpublished live.list there) in
      ap (λ (log : List Post). set (whole_logs t) j log) log ∙ set-get_or (whole_logs t) j []

  pub whole_consistently : IsConsistentMember t.group (whole_logs t) l.state
  whole_consistently = subst (λ (ls : Logs). IsConsistentMember t.group ls l.state) whole_log live.consistent

-- ---- what is heard

hears_one_more : (ls : Logs) (n : ℕ) (known told : List ℕ) → KnowsThose ls n known
    → slice_index told n ≡ last_of ls n → KnowsThose ls (n + 1) (join known told)
hears_one_more ls n known told knows e p l =
    let joined : get_or (join known told) p 0 ≡ max (get_or known p 0) (get_or told p 0) = join-at known
    told p in
    elim (cases_eq p n) [
      | inl same ↦
          let here : get_or told p 0 ≡ last_of ls p =
          subst (λ (k : ℕ). get_or told k 0 ≡ last_of ls k) (sym same) e in
          omega (arith, joined, here)
      | inr d ↦
          let h : last_of ls p ≤ get_or known p 0 = knows p (omega (arith, l, d)) in
          omega (arith, joined, h)
    ]

-- one member hears another
pub record HasHeard (t : Meaning) (n : ℕ) (l new : Living) : Type 0 where
  pub ready : IsReady t new
  pub number : new.state.number ≡ l.state.number
  pub knows : KnowsThose (whole_logs t) n new.state.known
  pub entries : length new.journal ≡ length l.journal + 1
  pub prefix : Continues l.journal new.journal

pub has_heard : (t : Meaning) (l other new : Living) (p : ℕ) (octets : List ℕ) (r : LiveReply) → IsReady t l
    → IsReady t other → other.state.number ≡ p → KnowsThose (whole_logs t) p l.state.known
    → length l.journal < 1000000 → octets ≡ sync_of t.group other.state.number other.state.known
    → StepsBy t 1000000 (event.Hear octets) l new r → HasHeard t (p + 1) l new
has_heard t l other new p octets r is others number knows room told steps =
    let ls : Logs = whole_logs t in
    let consistent = whole_consistently t 1000000 l is.live is.unpublished in
    let theirs = whole_consistently t 1000000 other others.live others.unpublished in
    let v : IsConsistentVector ls other.state.known =
    record { width = theirs.sound.width; no_more = theirs.sound.known } in
    let tell : IsReport t octets = record {
      sender = other.state.number;
      vector = other.state.known;
      there = omega (arith, theirs.there, width_whole t);
      consistent = v;
      told = told;
    } in
    let taken : hear_verdict t.group l.state octets ≡ Ok other.state.known =
    ap (hear_verdict t.group l.state) told
    ∙ syncs_are_taken t.group ls l.state other.state.number other.state.known is.live.within.logs consistent
    (omega (arith, theirs.there, is.live.within.logs.width)) v in
    let entered : IsEntered t (event.Hear octets) l new r = (steps.1 room).0 in
    let state =
    hear_state t 1000000 l new is.live octets r tell entered
    ∙ ap (λ v. in_group (hear_change v (slice_index t.draws l.state.number) l.state)) taken in
    let known : new.state.known ≡ join l.state.known other.state.known = ap (λ (m : Member). m.known) state in
    record {
      ready = record {
        live = steps.2;
        unpublished = (steps.1 room).1 ∙ is.unpublished;
        claims = ap (λ (m : Member). m.claims) state ∙ is.claims;
      };
      number = entered.number;
      knows = subst (KnowsThose ls (p + 1)) (sym known)
          (hears_one_more ls p l.state.known other.state.known knows
          (subst (λ (k : ℕ). slice_index other.state.known k ≡ last_of ls k) number theirs.sound.own));
      entries = ap length entered.entered ∙ length-append l.journal _;
      prefix = continues_with l.journal _ new.journal entered.entered refl;
    }
