-- What each call makes of a member by itself, and what is replied.
use Rattle.std.specs.Prelude.{ℕ, Bool, false, List, Option, Some, None, Result, Ok, Err, if◌then◌else◌}
use Rattle.repo_plan.specs.declared.part.Part.{Part}
use Rattle.repo_plan.specs.Plan.{claim_of, unclaimed, first}
use Rattle.svs_sync.specs.Suppression.{mode_of}
use Rattle.repo_member.specs.declared.refusals.HearRefusal.{HearRefusal}
use Rattle.repo_member.specs.MemberState.{MemberState, member_plan, member_claims, member_hears, member_accepts}
use Rattle.live_member.specs.declared.event.LiveReply.{LiveReply}
use Rattle.live_member.specs.declared.event.LiveReply.TheVariants as reply
use Rattle.live_member.specs.Replay.{is_part, mode_reply}

-- ---- a claim, by what the fetcher claims

-- The member `a` after a claim by the fetcher `f`, by what `f` claimed before. Where that was nothing, `f` claims the
-- first wanted part that no fetcher claims, if there is one. Where it was a part, nothing changes.
abbrev pub claim_change_of : Option Part → ℕ → MemberState → MemberState
claim_change_of None f a = member_claims f (first (unclaimed (member_plan a))) a
claim_change_of (Some t) f a = a

-- The member `a` after a claim by the fetcher `f`.
abbrev pub claim_change : ℕ → MemberState → MemberState
claim_change f a = claim_change_of (claim_of (member_plan a) f) f a

-- The reply that this part is claimed now, or that there was none to claim.
abbrev pub part_reply : Option Part → LiveReply
part_reply None = reply.NoPart
part_reply (Some t) = reply.Claimed t

-- The reply to a claim by a fetcher, by what it claimed before. Where that was a part, the claim is refused.
abbrev pub claim_reply_of : Option Part → MemberState → LiveReply
claim_reply_of None a = part_reply (first (unclaimed (member_plan a)))
claim_reply_of (Some t) a = reply.Refused

-- The reply to a claim by the fetcher `f`.
abbrev pub claim_reply : ℕ → MemberState → LiveReply
claim_reply f a = claim_reply_of (claim_of (member_plan a) f) a

-- ---- a loss, by what the fetcher claims

-- The member `a` after a loss by the fetcher `f`, by what `f` claimed. Where that was a part, the claim ends.
abbrev pub lose_change_of : Option Part → ℕ → MemberState → MemberState
lose_change_of None f a = a
lose_change_of (Some t) f a = member_claims f None a

-- The member `a` after a loss by the fetcher `f`.
abbrev pub lose_change : ℕ → MemberState → MemberState
lose_change f a = lose_change_of (claim_of (member_plan a) f) f a

-- The reply to a loss by a fetcher, by what it claimed. Where it claimed nothing, the loss is refused.
abbrev pub lose_reply_of : Option Part → LiveReply
lose_reply_of None = reply.Refused
lose_reply_of (Some t) = reply.Lost t

-- The reply to a loss by the fetcher `f`.
abbrev pub lose_reply : ℕ → MemberState → LiveReply
lose_reply f a = lose_reply_of (claim_of (member_plan a) f)

-- ---- a sync Interest, by the verdict on it

-- The member `a` after octets that have this verdict as a sync Interest. It hears the vector of a sync Interest that
-- passes. A refusal changes nothing.
abbrev pub hear_change : Result (List ℕ) HearRefusal → ℕ → MemberState → MemberState
hear_change (Ok told) draw a = member_hears told 0 draw a
hear_change (Err refusal) draw a = a

-- The reply to octets that have this verdict as a sync Interest: the mode of the sync state afterwards, or a refusal.
abbrev pub hear_reply : Result (List ℕ) HearRefusal → ℕ → MemberState → LiveReply
hear_reply (Ok told) draw a = mode_reply (mode_of (member_hears told 0 draw a).machine.heard)
hear_reply (Err refusal) draw a = reply.Refused

-- ---- the packet of a part, by what the fetcher claims

-- The part `t` is the one that is claimed.
abbrev pub is_claim : Part → Option Part → Bool
is_claim t None = false
is_claim t (Some u) = is_part t u

-- The member `a` after the fetcher `f` was given the packet of the part `t`. Where `f` claims `t`, the packet is stored
-- and the claim ends. Else nothing changes.
abbrev pub accept_change : Part → List ℕ → ℕ → MemberState → MemberState
accept_change t octets f a =
    if is_claim t (claim_of (member_plan a) f) then member_accepts f t octets a else a

-- The reply where the fetcher `f` is given the packet of the part `t`: kept if `f` claims `t`, else refused.
abbrev pub accept_reply : Part → ℕ → MemberState → LiveReply
accept_reply t f a = if is_claim t (claim_of (member_plan a) f) then reply.Kept else reply.Refused
