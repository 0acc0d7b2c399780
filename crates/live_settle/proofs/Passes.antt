-- The calls of a settle over members in their places.
use Rattle.std.proofs.Common.{refl, ◌≡◌, ℕ, ◌+◌, ◌-◌, ◌≤◌, ◌<◌, List, length, get_or, set}
use Rattle.std.proofs.Common.{inl, inr, sym, ap, ◌∙◌}
use Rattle.std.proofs.Common.{subst, arith, true, false, Option, Some, None}
use Rattle.std.specs.Prelude.{IsSomeAnd, slice_index}
use Rattle.std.proofs.lemmas.Bool.{cases_eq}
use Rattle.std.proofs.lemmas.List.{get_or-set_other, get_or_default, length-set, length-append}
use Rattle.repo_plan.specs.declared.part.Part.{Part}
use Rattle.sorted_lists.specs.SortedList.{keys}
use Rattle.repo_plan.specs.Plan.{unclaimed, first}
use Rattle.group_model.specs.Publications.{last_of}
use Rattle.repo_member.specs.MemberState.{member_plan, logged}
use Rattle.repo_member.specs.InGroup.{published_packet}
use Rattle.repo_member.specs.Verdicts.{sync_of}
use Rattle.live_member.specs.declared.event.LiveEvent.TheVariants as event
use Rattle.live_member.specs.declared.event.LiveReply.{LiveReply}
use Rattle.live_member.specs.declared.event.LiveReply.TheVariants as reply
use Rattle.live_member.specs.Meanings.{Meaning, whole_logs}
use Rattle.live_member.specs.Reports.{Loan}
use Rattle.live_member.specs.Lives.{Living}
use Rattle.live_member.specs.LockedCalls.{StepsBy}
use Rattle.live_member.proofs.PublicLaws.{width_whole}
use Rattle.live_settle.specs.Ready.{at, IsReady, AreReady, KnowsThose, Hears, IsGathering, Turned}
use Rattle.live_settle.specs.Ready.{Joins, EntersTurn, IsJoined, missing_of}
use Rattle.live_settle.proofs.Prefixes.{continues_with}
use Rattle.live_settle.proofs.Missing.{missing_few}
use Rattle.live_settle.proofs.Places.{no_living, at_set, at_found, only_set, only_again, only_itself, only_then}
use Rattle.live_settle.proofs.States.{HasHeard, has_heard, whole_consistently}
use Rattle.live_settle.proofs.Turning.{next_part, nothing_left, enters_none, entered, publisher_there, publisher_other}
use Rattle.live_settle.proofs.Turning.{lends, HasTurned, has_turned}

-- ---- what is heard

pub heard_at : (t : Meaning) (ls : List Living) (j p : ℕ) (d e new : Living) (octets : List ℕ) (r : LiveReply)
    → AreReady t ls → j < length ls → p < length ls → length (at ls j).journal < 1000000
    → KnowsThose (whole_logs t) p (at ls j).state.known
    → octets ≡ sync_of t.group (get_or ls p e).state.number (get_or ls p e).state.known
    → StepsBy t 1000000 (event.Hear octets) (get_or ls j d) new r → Hears t j (p + 1) 1 ls (set ls j new)
heard_at t ls j p d e new octets r ready there other room knows told steps =
    let mine = at_found ls j d there in
    let theirs = at_found ls p e other in
    let h : HasHeard t (p + 1) (at ls j) new =
    has_heard t (at ls j) (at ls p) new p octets r (ready.each j there) (ready.each p other)
    (ready.placed.numbers p other) knows room
    (told ∙ ap (λ (m : Living). sync_of t.group m.state.number m.state.known) theirs)
    (subst (λ (m : Living). StepsBy t 1000000 (event.Hear octets) m new r) mine steps) in
    let here = at_set ls j new there in
    record {
      only = only_set ls j new there h.number h.prefix;
      ready = subst (IsReady t) (sym here) h.ready;
      knows = subst (λ (m : Living). KnowsThose (whole_logs t) (p + 1) m.state.known) (sym here) h.knows;
      few =
          let same = ap (λ (m : Living). length m.journal) here in
          let longer = h.entries in omega (arith, same, longer);
    }

-- a member knows of its own list without hearing itself
pub heard_itself : (t : Meaning) (ls : List Living) (j p : ℕ) → AreReady t ls → j < length ls → p ≡ j
    → KnowsThose (whole_logs t) p (at ls j).state.known → Hears t j (p + 1) 1 ls ls
heard_itself t ls j p ready there same knows =
    let is : IsReady t (at ls j) = ready.each j there in
    let known : List ℕ = (at ls j).state.known in
    let own : slice_index known p ≡ last_of (whole_logs t) p =
    subst (λ (k : ℕ). slice_index known k ≡ last_of (whole_logs t) k) (ready.placed.numbers j there ∙ sym same)
    (whole_consistently t 1000000 (at ls j) is.live is.unpublished).sound.own in
    record {
      only = only_itself ls j;
      ready = is;
      knows = λ q less. elim (cases_eq q p) [
        | inl e ↦
            subst (λ (k : ℕ). last_of (whole_logs t) k ≤ slice_index known k) (sym e) (omega (arith, own))
        | inr d ↦ knows q (omega (arith, less, d))
      ];
      few = omega arith;
    }

pub one_heard : (t : Meaning) (j p : ℕ) (old mid new : List Living) → Hears t j p p old mid
    → Hears t j (p + 1) 1 mid new → Hears t j (p + 1) (p + 1) old new
one_heard t j p old mid new before h = record {
  only = only_then j old mid new before.only h.only;
  ready = h.ready;
  knows = h.knows;
  few = omega (arith, before.few, h.few);
}

pub hears_gathering : (t : Meaning) (j : ℕ) (old new : List Living) → Hears t j (length t.lists) 16 old new
    → IsGathering t (at new j)
hears_gathering t j old new h = record {
  ready = h.ready;
  knows = λ p less. h.knows p (omega (arith, less, width_whole t));
}

-- ---- what comes

module _ (t : Meaning) (ls : List Living) (j : ℕ) (d mid : Living) (r : LiveReply) (ready : AreReady t ls)
    (there : j < length ls) (is : IsGathering t (at ls j)) (room : length (at ls j).journal ≤ 999000)
    (steps : StepsBy t 1000000 (event.Claim 1) (get_or ls j d) mid r) where
  less : length (at ls j).journal < 1000000
  less = omega (arith, room)

  here : StepsBy t 1000000 (event.Claim 1) (at ls j) mid r
  here = subst (λ (m : Living). StepsBy t 1000000 (event.Claim 1) m mid r) (at_found ls j d there) steps

  mid_number : mid.state.number ≡ (at ls j).state.number
  mid_number = (entered t (at ls j) mid r is less here).number

  pub joins_at : ((part : Part) → r ≡ reply.Claimed part → ⊥)
      → Joins t j ls (set ls j mid) × EntersTurn (at ls j) (at (set ls j mid) j) false
  joins_at none =
      let now = at_set ls j mid there in (
        record {
          only = only_set ls j mid there mid_number
              (continues_with (at ls j).journal _ mid.journal (enters_none t (at ls j) mid r is less here none) refl);
          joined = subst (IsJoined t) (sym now) (nothing_left t (at ls j) mid r is less here none);
        },
        subst (λ (m : Living). EntersTurn (at ls j) m false) (sym now)
            (enters_none t (at ls j) mid r is less here none),
      )

  module _ (part : Part) (its : r ≡ reply.Claimed part) where
    next : first (unclaimed (member_plan (at ls j).state)) ≡ Some part
    next = next_part t (at ls j) mid r is less here part its

    pub publisher_in : part.publisher < length ls
    publisher_in =
        let inside = publisher_there t (at ls j) is part next in
        omega (arith, inside, width_whole t, ready.placed.width)

    other : part.publisher ≡ j → ⊥
    other e = publisher_other t (at ls j) is part next (e ∙ sym (ready.placed.numbers j there))

    pub publisher_found : (e : Living) → get_or (set ls j mid) part.publisher e ≡ at ls part.publisher
    publisher_found e =
        get_or-set_other ls j part.publisher mid e other ∙ get_or_default ls part.publisher e no_living publisher_in

    pub lent : IsSomeAnd (logged t.group (at ls part.publisher).state part)
        (λ octets. published_packet t.group (whole_logs t) part ≡ Some octets)
    lent =
        lends t (at ls j) is part next (at ls part.publisher) (ready.each part.publisher publisher_in)
        (sym (ready.placed.numbers part.publisher publisher_in))

    pub never_none : (e : Living) → logged t.group (get_or (set ls j mid) part.publisher e).state part ≡ None → ⊥
    never_none e h =
        subst (λ (o : Option (List ℕ)). IsSomeAnd o (λ octets. published_packet t.group (whole_logs t) part
        ≡ Some octets))
        (sym (ap (λ (m : Living). logged t.group m.state part) (publisher_found e)) ∙ h) lent

    pub packet_so : (e : Living) (octets : List ℕ)
        → logged t.group (get_or (set ls j mid) part.publisher e).state part ≡ Some octets
        → published_packet t.group (whole_logs t) part ≡ Some octets
    packet_so e octets h =
        subst (λ (o : Option (List ℕ)). IsSomeAnd o (λ octets. published_packet t.group (whole_logs t) part
        ≡ Some octets))
        (sym (ap (λ (m : Living). logged t.group m.state part) (publisher_found e)) ∙ h) lent

    pub turned_at : (e f new : Living) (s : LiveReply) (loan : Loan) → loan.part ≡ part
        → logged t.group (get_or (set ls j mid) part.publisher e).state part ≡ Some loan.octets
        → StepsBy t 1000000 (event.Accept 1 loan.part) (get_or (set ls j mid) j f) new s
        → Turned t j 1 ls (set (set ls j mid) j new) × EntersTurn (at ls j) (at (set (set ls j mid) j new) j) true
    turned_at e f new s loan same its_packet accept =
        let wide : j < length (set ls j mid) = omega (arith, there, length-set ls j mid) in
        let mine : get_or (set ls j mid) j f ≡ mid =
        at_found (set ls j mid) j f wide ∙ at_set ls j mid there in
        let h : HasTurned t (at ls j) new =
        has_turned t (at ls j) mid new r s part loan is room here its same (packet_so e loan.octets its_packet)
        (subst (λ (m : Living). StepsBy t 1000000 (event.Accept 1 loan.part) m new s) mine accept) in
        let now : at (set (set ls j mid) j new) j ≡ new = at_set (set ls j mid) j new wide in (
          record {
            only = only_again ls j mid new there h.number
                (continues_with (at ls j).journal _ new.journal h.entries.journal refl);
            gathering = subst (IsGathering t) (sym now) h.gathering;
            fewer = subst (λ (m : Living). missing_of t m.state + 1 ≤ missing_of t (at ls j).state) (sym now) h.fewer;
            few =
                let long = ap (λ (m : Living). length m.journal) now in
                let more = ap length h.entries.journal ∙ length-append (at ls j).journal _ in
                omega (arith, long, more);
          },
          subst (λ (m : Living). EntersTurn (at ls j) m true) (sym now) h.entries,
        )

-- a turn for each part that has come
abbrev pub HaveTurned : Meaning → ℕ → List Living → List Living → Type 0
HaveTurned t j old new = Turned t j (missing_of t (at old j).state - missing_of t (at new j).state) old new

pub no_turn : (t : Meaning) (j : ℕ) (ls : List Living) → IsGathering t (at ls j) → HaveTurned t j ls ls
no_turn t j ls is = record {
  only = only_itself ls j;
  gathering = is;
  fewer = omega arith;
  few = omega arith;
}

-- there are at most 4,000 turns, since each gains a part
pub turns_end : (t : Meaning) (j n : ℕ) (old new : List Living) → Turned t j n old new → n ≤ 4000
turns_end t j n old new is =
    let most = missing_few (whole_logs t) (keys (at old j).state.store) in
    let within = is.gathering.ready.live.within.parts in
    omega (arith, is.fewer, most, within)
