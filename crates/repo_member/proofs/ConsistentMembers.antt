-- What a group's publications say of a consistent member.
use Rattle.std.proofs.Common.{◌≡◌, ℕ, ◌-◌, true, List, [], length, get_or, Some, Result, Ok, Err, refl, sym, ap, ◌∙◌}
use Rattle.std.proofs.Common.{subst, arith}
use Rattle.std.specs.Prelude.{nat_le, slice_get, IsOk}
use Rattle.std.proofs.lemmas.Bool.{true≢false, and_from, le-leb}
use Rattle.std.proofs.lemmas.Option.{slice_get-get_or}
use Rattle.ndn_data.specs.Data.{Data}
use Rattle.repo_plan.specs.declared.part.Part.{Part}
use Rattle.repo_plan.specs.Parts.{pair_of}
use Rattle.repo_plan.specs.Plan.{PlanState, is_wanted, claim_of}
use Rattle.repo_object.specs.declared.part_refusal.PartRefusal.{PartRefusal}
use Rattle.repo_object.specs.Objects.{Post}
use Rattle.repo_object.specs.Publication.{packet_at}
use Rattle.repo_object.specs.Verdict.{ring_verdict}
use Rattle.group_model.specs.Publications.{Logs, no_post, post_at}
use Rattle.repo_member.specs.Groups.{GroupKeys, publisher_at}
use Rattle.repo_member.specs.MemberState.{MemberState, member_holdings, member_plan, want_of}
use Rattle.repo_member.specs.Verdicts.{passed, claim_verdict}
use Rattle.repo_member.specs.InGroup.{AreLogs}
use Rattle.repo_member.specs.ConsistentMembers.{IsConsistentMember, ConsistentIsMemberState, ConsistentIsOf}
use Rattle.repo_member.specs.ConsistentMembers.{ConsistentStores}
use Rattle.repo_member.specs.ConsistentMembers.{StoresThose, LogsThose, WantsPublished, WantsAreConsistent}
use Rattle.repo_member.specs.ConsistentMembers.{PacketsPassForMembers, AcceptsTheClaimed, TakesTheConsistent}
use Rattle.repo_member.proofs.CallReach.{accepted}
use Rattle.repo_member.proofs.GroupPlans.{plans_alike, sound_stores_consistently}
use Rattle.repo_member.proofs.OwnLemmas.{logged_own}
use Rattle.repo_member.proofs.ConsistentHolders.{member_is_holder, holder_stores_those, holders_want_published}
use Rattle.repo_member.proofs.ConsistentHolders.{holders_want_consistently, packets_pass_for_holders}

-- ---- what follows

pub consistent_is_member_state : ConsistentIsMemberState
consistent_is_member_state g logs a t = record {
  member = let wide : length a.known ≡ length logs = t.sound.width in omega (arith, t.there, wide);
  own = t.sound.own ∙ ap length t.log;
  width = t.machine ∙ sym t.sound.width;
  in_order = t.sound.in_order.held;
  hidden = λ pair h.
      let known = (t.sound.hidden pair h).known in
      and_from (nat_le 1 pair.1) (nat_le pair.1 (get_or a.known pair.0 0)) (le-leb 1 pair.1 known.from_one)
      (le-leb pair.1 (get_or a.known pair.0 0) known.to_known);
}

pub consistent_is_of : ConsistentIsOf
consistent_is_of g logs a are t = sym are.width ∙ sym t.sound.width

pub consistent_stores : ConsistentStores
consistent_stores g logs a t = sound_stores_consistently g logs a t.sound t.packets

pub stores_those : StoresThose
stores_those g logs a t = holder_stores_those g logs (member_holdings a) (member_is_holder g logs a t)

pub logs_those : LogsThose
logs_those g logs a t consistent own there =
    let here : get_or logs t.publisher [] ≡ a.log = ap (λ (p : ℕ). get_or logs p []) own ∙ consistent.log in
    let long : length (get_or logs t.publisher []) ≡ length a.log = ap length here in
    let post : Post = get_or a.log (t.seq - 1) no_post in
    let inside : slice_get a.log (t.seq - 1) ≡ Some post =
    slice_get-get_or a.log (t.seq - 1) no_post (omega (arith, there.from_one, there.to_last, long)) in
    let same : post_at logs (pair_of t) ≡ post =
    ap (λ (log : List Post). get_or log (t.seq - 1) no_post) here in
    logged_own g a t post own (omega (arith, there.from_one)) inside
    ∙ (λ i. packet_at (publisher_at g (sym own i)) t.seq (sym same i) t.part)

-- ---- what is wanted

pub wants_published : WantsPublished
wants_published g logs a t are consistent w =
    holders_want_published g logs (member_holdings a) t are (member_is_holder g logs a consistent) w

pub wants_are_consistent : WantsAreConsistent
wants_are_consistent g logs a t are consistent w =
    holders_want_consistently g logs (member_holdings a) t are (member_is_holder g logs a consistent) w

pub packets_pass_for_members : PacketsPassForMembers
packets_pass_for_members g logs a t octets are consistent w its =
    packets_pass_for_holders g logs (member_holdings a) t octets are (member_is_holder g logs a consistent) w its

pub claimed_wanted : (g : GroupKeys) (logs : Logs) (a : MemberState) → AreLogs g logs → IsConsistentMember g logs a
    → (f : ℕ)
    (t : Part) → claim_of (member_plan a) f ≡ Some t → is_wanted (member_plan a) t ≡ true
claimed_wanted g logs a are consistent f t claim =
    subst (λ (p : PlanState). is_wanted p t ≡ true)
    (sym (plans_alike g logs a are (consistent_stores g logs a consistent)))
    (consistent.sound.claimed (f - 1) t claim)

-- ---- what is accepted

pub accepts_the_claimed : AcceptsTheClaimed
accepts_the_claimed g a f octets t h = (accepted g a f t octets h).claimed

pub takes_the_consistent : TakesTheConsistent
takes_the_consistent g logs a f t octets are consistent claim its =
    ap (claim_verdict g a octets) claim
    ∙ go (ring_verdict (want_of g a.store t) g.members.ring octets)
    (packets_pass_for_members g logs a t octets are consistent (claimed_wanted g logs a are consistent f t claim)
    its) where
      go : (v : Result Data PartRefusal) → IsOk v → passed t v ≡ Ok t
      go (Ok d) ok = refl
      go (Err refusal) ok = absurd (true≢false (sym ok))
