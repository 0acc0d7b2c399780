-- A turn of a settle: a member claims a part and takes its publisher's packet.
use Rattle.std.proofs.Common.{◌≡◌, ◌≢◌, ◌⊎◌, inl, inr, ℕ, ◌+◌, ◌≤◌, ◌<◌, Bool, true, false, not, ◌&&◌, ◌==◌, List, []}
use Rattle.std.proofs.Common.{◌∷◌, ◌++◌, length, append_assoc}
use Rattle.std.proofs.Common.{get_or, set, refl, sym, ap, ◌∙◌, subst, arith, Option, Some, None}
use Rattle.std.specs.Prelude.{IsSomeAnd, filter, if◌then◌else◌}
use Rattle.std.specs.List.{list_any}
use Rattle.std.proofs.lemmas.Bool.{true≢false, and_parts, and_from, eq-eqb, cases_lt}
use Rattle.std.proofs.lemmas.List.{length-append, get_or_past}
use Rattle.repo_object.specs.Objects.{Post}
use Rattle.repo_plan.specs.declared.part.Part.{Part}
use Rattle.sorted_lists.specs.SortedList.{contains, keys, insert_key}
use Rattle.repo_plan.specs.Parts.{Pair, part_cmp, pair_cmp, pair_of, part_of}
use Rattle.repo_plan.specs.Plan.{PlanState, no_claims, wanted, unclaimed, is_wanted, is_unclaimed, is_claimed}
use Rattle.repo_plan.specs.Plan.{is_claim_of}
use Rattle.repo_plan.specs.Plan.{known_parts, first, claim_of}
use Rattle.repo_plan.proofs.Orders.{exact_parts}
use Rattle.sorted_lists.proofs.Sets.{contains_in, in_contains}
use Rattle.repo_plan.proofs.Known.{contains-unclaimed}
use Rattle.group_model.specs.Publications.{Logs, last_of, count, all_parts, join_of}
use Rattle.group_model.specs.Member.{Member, plan_of, member_holds, has_deleted, catalogue}
use Rattle.group_model.specs.Changes.{takes}
use Rattle.group_model.specs.OneMember.{KnowsAll}
use Rattle.group_model.specs.Sound.{IsPublished, IsPublishedPart}
use Rattle.std.proofs.Math.Bool.{and-true}
use Rattle.group_model.proofs.Lists.{in_first}
use Rattle.group_model.proofs.Plans.{IsWanted, wanted_parts}
use Rattle.group_model.proofs.PublicLaws.{parts_are_those, joins_by_itself}
use Rattle.repo_member.specs.MemberState.{MemberState, member_plan, member_claims, member_accepts, logged}
use Rattle.repo_member.specs.InGroup.{AreLogs, StoresInOrder, in_group, published_packet}
use Rattle.repo_member.specs.ConsistentMembers.{IsConsistentMember}
use Rattle.repo_member.proofs.PublicLaws.{plans_alike, lists_alike, consistent_stores, accepts_alike, wants_published}
use Rattle.repo_member.proofs.PublicLaws.{packets_are_there, logs_those}
use Rattle.repo_holdings.specs.Listed.{member_catalogue}
use Rattle.live_member.specs.declared.event.LiveEvent.TheVariants as event
use Rattle.live_member.specs.declared.event.LiveReply.{LiveReply}
use Rattle.live_member.specs.declared.event.LiveReply.TheVariants as reply
use Rattle.live_member.specs.declared.event.LiveEntry.{LiveEntry}
use Rattle.live_member.specs.Meanings.{Meaning, whole_logs}
use Rattle.live_member.specs.Reports.{Loan}
use Rattle.live_member.specs.Lives.{Living}
use Rattle.live_member.specs.LockedCalls.{entry, IsEntered, StepsBy}
use Rattle.live_member.specs.Replay.{is_part}
use Rattle.live_member.specs.Calls.{claim_change_of, claim_reply_of, part_reply, is_claim, accept_change}
use Rattle.live_member.specs.Calls.{accept_reply}
use Rattle.live_settle.specs.Ready.{IsReady, IsGathering, IsJoined, missing, missing_of, ClaimsAndTakes}
use Rattle.live_settle.specs.Ready.{EntersTurn}
use Rattle.live_settle.proofs.Missing.{one_less}
use Rattle.live_settle.proofs.States.{whole_consistently, claim_state, accept_state}

none_first : (ts : List Part) → first ts ≡ None → ts ≡ []
none_first [] e = refl
none_first (t ∷ ts) e = absurd cc

module _ (p : PlanState) (claims : p.claims ≡ no_claims) where
  free : (t : Part) → is_claimed p t ≡ false
  free t = ap (λ (cs : List (Option Part)). list_any (is_claim_of t) cs) claims

  all_open : (t : Part) → is_unclaimed p t ≡ is_wanted p t
  all_open t = ap (λ (b : Bool). is_wanted p t && not b) (free t) ∙ and-true (is_wanted p t)

  nothing_wanted : first (unclaimed p) ≡ None → wanted p ≡ []
  nothing_wanted e = (λ i. filter (λ t. sym (all_open t) i) (known_parts p)) ∙ none_first (unclaimed p) e

pub in_range : (ls : Logs) (p n : ℕ) → 1 ≤ n → n ≤ last_of ls p → p < length ls
in_range ls p n a b = elim (cases_lt p (length ls)) [
  | inl h ↦ h
  | inr h ↦
      let none : last_of ls p ≡ 0 = ap (λ (log : List Post). length log) (get_or_past ls p [] h) in
      absurd (omega (arith, none, a, b))
]

part_itself : (t : Part) → is_part t t ≡ true
part_itself t =
    and_from (t.publisher == t.publisher) ((t.seq == t.seq) && (t.part == t.part)) (eq-eqb t.publisher t.publisher refl)
    (and_from (t.seq == t.seq) (t.part == t.part) (eq-eqb t.seq t.seq refl) (eq-eqb t.part t.part refl))

some_part : (c : Option Part) (t : Part) → part_reply c ≡ reply.Claimed t → c ≡ Some t
some_part None t h = absurd cc
some_part (Some u) t h = cc

no_part : (c : Option Part) → ((t : Part) → part_reply c ≡ reply.Claimed t → ⊥) → c ≡ None
no_part None h = refl
no_part (Some u) h = absurd (h u refl)

-- what was not wanted, and its publisher
module _ (t : Meaning) (l : Living) (is : IsGathering t l) where
  abbrev ls : Logs
  ls = whole_logs t

  abbrev a : MemberState
  a = l.state

  are : AreLogs t.group ls
  are = is.ready.live.within.logs

  consistent : IsConsistentMember t.group ls a
  consistent = whole_consistently t 1000000 l is.ready.live is.ready.unpublished

  same_plan : member_plan a ≡ plan_of ls (in_group a)
  same_plan = plans_alike t.group ls a are (consistent_stores t.group ls a consistent)

  idle : claim_of (member_plan a) 1 ≡ None
  idle = ap (λ (cs : List (Option Part)). get_or cs 0 None) is.ready.claims

  -- where nothing is to be claimed its catalogue is the join
  joined : first (unclaimed (member_plan a)) ≡ None → member_catalogue a.store ≡ join_of ls
  joined none =
      lists_alike t.group ls a are (consistent_stores t.group ls a consistent)
      ∙ joins_by_itself ls (in_group a) is.knows is.ready.live.hidden
      (ap wanted (sym same_plan) ∙ nothing_wanted (member_plan a) is.ready.claims none)

  module _ (part : Part) (next : first (unclaimed (member_plan a)) ≡ Some part) where
    is_open : is_unclaimed (member_plan a) part ≡ true
    is_open =
        sym (contains-unclaimed (member_plan a) part)
        ∙ contains_in exact_parts (unclaimed (member_plan a)) part (in_first (unclaimed (member_plan a)) part next)

    reports_wanted : is_wanted (member_plan a) part ≡ true
    reports_wanted = (and_parts (is_wanted (member_plan a) part) _ is_open).0

    in_words : IsWanted ls (in_group a) part
    in_words =
        wanted_parts ls (in_group a) part
        (subst (λ (p : PlanState). is_wanted p part ≡ true) same_plan reports_wanted)

    there : IsPublishedPart ls part
    there = wants_published t.group ls a part are consistent reports_wanted

    pub publisher_there : part.publisher < length ls
    publisher_there = in_range ls part.publisher part.seq there.there.from_one there.there.to_last

    pub publisher_other : part.publisher ≢ a.number
    publisher_other own =
        let mine = subst
        (λ (j : ℕ).
        (s : ℕ) → IsPublished ls (j, s)
        → (has_deleted (in_group a) (j, s) ≡ true)
        ⊎ ((x : ℕ) → x ≤ count ls (j, s) → member_holds (in_group a) (part_of (j, s) x) ≡ true))
        (sym own) consistent.sound.own_held in
        elim (mine part.seq there.there) [
          | inl h ↦
              true≢false (sym h ∙ ap (λ (xs : List Pair). contains pair_cmp xs (pair_of part)) is.ready.live.hidden)
          | inr each ↦ true≢false (sym (each part.part there.counted) ∙ in_words.not_held)
        ]

    -- the publisher lends its packet
    pub lends : (b : Living) → IsReady t b → part.publisher ≡ b.state.number
        → IsSomeAnd (logged t.group b.state part) (λ octets. published_packet t.group ls part ≡ Some octets)
    lends b ready own =
        subst (λ (o : Option (List ℕ)). IsSomeAnd o (λ octets. published_packet t.group ls part ≡ Some octets))
        (sym (logs_those t.group ls b.state part (whole_consistently t 1000000 b ready.live ready.unpublished) own
        there.there))
        (go (published_packet t.group ls part) refl (packets_are_there t.group ls part are there)) where
          go : (o : Option (List ℕ)) → published_packet t.group ls part ≡ o
              → IsSomeAnd o (λ octets. length octets ≤ 8800)
              → IsSomeAnd o (λ octets. published_packet t.group ls part ≡ Some octets)
          go None e h = absurd h
          go (Some x) e h = e

    -- one part less is missing
    fewer : length (missing ls (insert_key part_cmp part (keys a.store))) + 1 ≤ missing_of t a
    fewer =
        one_less ls (keys a.store) part
        (in_contains exact_parts (all_parts ls) part ((parts_are_those ls part).1 there)) in_words.not_held

-- ---- the calls of a turn

-- a claim of nothing
module _ (t : Meaning) (l new : Living) (r : LiveReply) (is : IsGathering t l) (room : length l.journal < 1000000)
    (steps : StepsBy t 1000000 (event.Claim 1) l new r) where
  abbrev open_part : Option Part
  open_part = first (unclaimed (member_plan l.state))

  pub entered : IsEntered t (event.Claim 1) l new r
  entered = (steps.1 room).0

  claimed : (in_group new.state ≡ in_group (member_claims 1 open_part l.state)) × (r ≡ part_reply open_part)
  claimed =
      let state = claim_state t 1000000 l new is.ready.live 1 r entered in (
        state.0 ∙ ap (λ (c : Option Part). in_group (claim_change_of c 1 l.state)) (idle t l is),
        state.1 ∙ ap (λ (c : Option Part). claim_reply_of c l.state) (idle t l is),
      )

  pub next_part : (part : Part) → r ≡ reply.Claimed part → open_part ≡ Some part
  next_part part e = some_part open_part part (sym claimed.1 ∙ e)

  pub claims_so : (part : Part) → r ≡ reply.Claimed part
      → in_group new.state ≡ in_group (member_claims 1 (Some part) l.state)
  claims_so part e = claimed.0 ∙ ap (λ (c : Option Part). in_group (member_claims 1 c l.state)) (next_part part e)

  pub enters_none : ((part : Part) → r ≡ reply.Claimed part → ⊥) → EntersTurn l new false
  enters_none none =
      let nothing : open_part ≡ None = no_part open_part (λ part e. none part (claimed.1 ∙ e)) in
      entered.entered
      ∙ ap (λ (s : LiveReply). l.journal ++ entry (event.Claim 1) s ∷ []) (claimed.1 ∙ ap part_reply nothing)

  pub nothing_left : ((part : Part) → r ≡ reply.Claimed part → ⊥) → IsJoined t new
  nothing_left none =
      let nothing : open_part ≡ None = no_part open_part (λ part e. none part (claimed.1 ∙ e)) in
      let state : in_group new.state ≡ in_group (member_claims 1 None l.state) =
      claimed.0 ∙ ap (λ (c : Option Part). in_group (member_claims 1 c l.state)) nothing in
      let ready : IsReady t new = record {
        live = steps.2;
        unpublished = (steps.1 room).1 ∙ is.ready.unpublished;
        claims = ap (λ (m : Member). m.claims) state
            ∙ ap (λ (cs : List (Option Part)). set cs 0 None) is.ready.claims;
      } in
      let logs = is.ready.live.within.logs in
      let ls : Logs = whole_logs t in
      record {
        ready = ready;
        catalogue =
            lists_alike t.group ls new.state logs
            (consistent_stores t.group ls new.state (whole_consistently t 1000000 new ready.live ready.unpublished))
            ∙ ap (λ (m : Member). catalogue ls m) state
            ∙ sym (lists_alike t.group ls l.state logs
            (consistent_stores t.group ls l.state (whole_consistently t 1000000 l is.ready.live is.ready.unpublished)))
            ∙ joined t l is nothing;
      }

-- a part comes
pub record HasTurned (t : Meaning) (l new : Living) : Type 0 where
  pub gathering : IsGathering t new
  pub number : new.state.number ≡ l.state.number
  pub fewer : missing_of t new.state + 1 ≤ missing_of t l.state
  pub entries : ClaimsAndTakes l new

module _ (t : Meaning) (l mid new : Living) (r s : LiveReply) (part : Part) (lent : Loan) (is : IsGathering t l)
    (room : length l.journal ≤ 999000) (claim : StepsBy t 1000000 (event.Claim 1) l mid r)
    (its : r ≡ reply.Claimed part) (same : lent.part ≡ part)
    (packet : published_packet t.group (whole_logs t) part ≡ Some lent.octets)
    (accept : StepsBy t 1000000 (event.Accept 1 lent.part) mid new s) where
  less : length l.journal < 1000000
  less = omega (arith, room)

  first_entry : IsEntered t (event.Claim 1) l mid r
  first_entry = entered t l mid r is less claim

  long : length mid.journal ≡ length l.journal + 1
  long = ap length first_entry.entered ∙ length-append l.journal _

  less_too : length mid.journal < 1000000
  less_too = omega (arith, room, long)

  state_mid : in_group mid.state ≡ in_group (member_claims 1 (Some part) l.state)
  state_mid = claims_so t l mid r is less claim part its

  accepted : StepsBy t 1000000 (event.Accept 1 part) mid new s
  accepted = subst (λ (u : Part). StepsBy t 1000000 (event.Accept 1 u) mid new s) same accept

  second_entry : IsEntered t (event.Accept 1 part) mid new s
  second_entry = (accepted.1 less_too).0

  mid_claim : claim_of (member_plan mid.state) 1 ≡ Some part
  mid_claim =
      ap (λ (m : Member). get_or m.claims 0 None) state_mid
      ∙ ap (λ (cs : List (Option Part)). get_or (set cs 0 (Some part)) 0 None) is.ready.claims

  second : (in_group new.state ≡ in_group (accept_change part lent.octets 1 mid.state))
      × (s ≡ accept_reply part 1 mid.state)
  second = accept_state t 1000000 mid new claim.2 1 part lent.octets s packet second_entry

  kept : s ≡ reply.Kept
  kept =
      second.1
      ∙ ap (λ (c : Option Part). if is_claim part c then reply.Kept else reply.Refused) mid_claim
      ∙ ap (λ (b : Bool). if b then reply.Kept else reply.Refused) (part_itself part)

  state_new : in_group new.state ≡ in_group (member_accepts 1 part lent.octets mid.state)
  state_new =
      second.0
      ∙ ap (λ (c : Option Part).
      in_group (if is_claim part c then member_accepts 1 part lent.octets mid.state else mid.state)) mid_claim
      ∙ ap (λ (b : Bool). in_group (if b then member_accepts 1 part lent.octets mid.state else mid.state))
      (part_itself part)

  mid_in_order : StoresInOrder mid.state
  mid_in_order = (consistent_stores t.group _ mid.state claim.2.consistent).in_order

  taken : in_group new.state ≡ takes 1 part (in_group (member_claims 1 (Some part) l.state))
  taken = state_new ∙ accepts_alike 1 part lent.octets mid.state mid_in_order ∙ ap (takes 1 part) state_mid

  both_entries : new.journal
      ≡ l.journal ++ entry (event.Claim 1) (reply.Claimed part) ∷ entry (event.Accept 1 part) reply.Kept ∷ []
  both_entries =
      second_entry.entered
      ∙ ap (λ (js : List LiveEntry). js ++ entry (event.Accept 1 part) s ∷ []) first_entry.entered
      ∙ append_assoc l.journal (entry (event.Claim 1) r ∷ []) (entry (event.Accept 1 part) s ∷ [])
      ∙ ap (λ (a : LiveReply). l.journal ++ entry (event.Claim 1) a ∷ entry (event.Accept 1 part) s ∷ []) its
      ∙ ap (λ (a : LiveReply).
      l.journal ++ entry (event.Claim 1) (reply.Claimed part) ∷ entry (event.Accept 1 part) a ∷ []) kept

  pub has_turned : HasTurned t l new
  has_turned = record {
    gathering = record {
      ready = record {
        live = accepted.2;
        unpublished = (accepted.1 less_too).1 ∙ (claim.1 less).1 ∙ is.ready.unpublished;
        claims = ap (λ (m : Member). m.claims) taken
            ∙ ap (λ (cs : List (Option Part)). set (set cs 0 (Some part)) 0 None) is.ready.claims;
      };
      knows = subst (KnowsAll (whole_logs t)) (sym (ap (λ (m : Member). m.known) taken)) is.knows;
    };
    number = second_entry.number ∙ first_entry.number;
    fewer =
        subst (λ (held : List Part). length (missing (whole_logs t) held) + 1 ≤ missing_of t l.state)
        (sym (ap (λ (m : Member). m.held) taken))
        (fewer t l is part (next_part t l mid r is less claim part its));
    entries = record { part = part; journal = both_entries };
  }
