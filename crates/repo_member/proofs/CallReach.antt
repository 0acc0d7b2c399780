-- What holds of every member that calls reach.
use Rattle.std.proofs.Common.{◌≡◌, ℕ, ◌-◌, Bool, true, false, cond, List, [], ◌∷◌, length, Option, Some, None, Result}
use Rattle.std.proofs.Common.{Ok, Err, refl, sym, ap, ◌∙◌, subst, arith}
use Rattle.std.specs.Prelude.{◌+◌, ◌<◌, ◌&&◌, not, nat_le, nat_lt, is_ok, is_some, slice_index_or, IfSome, IfOk}
use Rattle.std.specs.List.{list_any}
use Rattle.std.proofs.lemmas.Bool.{and_parts, leb-true, ltb-true}
use Rattle.svs_sync.specs.SyncStates.{SyncState, becomes_steady, after_hearing, state_after_firing}
use Rattle.ndn_data.specs.Data.{Data}
use Rattle.repo_plan.specs.declared.part.Part.{Part}
use Rattle.repo_plan.specs.Plan.{claim_of, unclaimed, first}
use Rattle.repo_plan.specs.Sound.{PlanIsSound}
use Rattle.repo_plan.specs.Calls.{ClaimsOnce}
use Rattle.repo_plan.proofs.Changes.{wanted_parts, sound_first, sound_release, sound_end, released_can_be_held}
use Rattle.repo_object.specs.declared.part_refusal.PartRefusal.{PartRefusal}
use Rattle.repo_object.specs.Objects.{Post, IsPost, offered, withdraws_number}
use Rattle.repo_object.specs.Objects.Post.{Offers, Withdraws}
use Rattle.repo_object.specs.Verdict.{CheckedPart, ring_verdict}
use Rattle.repo_command.specs.declared.command.Command as commands
use Rattle.repo_command.specs.declared.command_refusal.CommandRefusal.{CommandRefusal}
use Rattle.repo_command.specs.Commands.{CommandIsSpelled}
use Rattle.group_model.specs.Publications.{has_unwithdrawn, no_post}
use Rattle.repo_member.specs.declared.refusals.HearRefusal.{HearRefusal}
use Rattle.repo_member.specs.declared.refusals.AcceptRefusal.{AcceptRefusal}
use Rattle.repo_member.specs.Groups.{GroupKeys}
use Rattle.repo_member.specs.MemberState.{MemberState, member_plan, member_publishes, member_learns, member_claims}
use Rattle.repo_member.specs.MemberState.{member_accepts}
use Rattle.repo_member.specs.MemberState.{member_ends_claims, member_ends_insertions, next_seq, want_of}
use Rattle.repo_member.specs.Verdicts.{hear_verdict, vector_verdict, passed, claim_verdict, accept_verdict}
use Rattle.repo_member.specs.Outcomes.{IsCheckedFor}
use Rattle.repo_member.specs.Commanded.{coded, order_of}
use Rattle.repo_member.specs.Calls.{MemberCall, Publish, Withdraw, if_numbers, Hear, HearVector, JoinFrom, JoinVector}
use Rattle.repo_member.specs.Calls.{Fire, Claim, Lose, Accept, AcceptChecked, TakeOutcome, TakeDigested, Command}
use Rattle.repo_member.specs.Calls.{CommandChecked, Block, EndClaims, Reset, Restart, OrderNames, if_heard, if_joined}
use Rattle.repo_member.specs.Calls.{if_claimed, if_lost, if_claimed_held, if_accepted, after_call, after_calls}
use Rattle.repo_member.specs.Calls.{CanBeReceived, IsCheckedForClaim, IsAllowedCall, AreAllowedCalls, InEveryMember}
use Rattle.repo_member.proofs.MemberLemmas.{still_wide}
use Rattle.repo_member.proofs.CallVectors.{received_is, taken_vector}
use Rattle.svs_sync.proofs.ReceivedWidth.{received_wide}
use Rattle.repo_member.proofs.HeldParts.{IsReached, PassesNow, reached_opening, reached_with, reached_learns}
use Rattle.repo_member.proofs.HeldParts.{reached_gains}
use Rattle.repo_member.proofs.PublishedParts.{reached_publishes}
use Rattle.repo_member.proofs.FetchedParts.{checked_passes, reached_takes}
use Rattle.repo_member.proofs.InsertionParts.{reached_order, reached_blocks, reached_clears}

-- ---- a call

-- what octets tell can be reported
received_so : (g : GroupKeys) (a : MemberState) (octets received : List ℕ) → IsReached g a → hear_verdict g a octets
    ≡ Ok received
    → CanBeReceived a received
received_so g a octets received r verdict =
    let is = received_is g a octets received verdict in
    record {
      width = received_wide g.members.names g.name g.members.ring octets (is.signer, received) is.verdict ∙ r.of;
      own = is.not_ahead;
    }

-- so can a vector that is taken
taken_by : (a : MemberState) (received taken : List ℕ) → CanBeReceived a received → vector_verdict a received ≡ Ok taken
    → CanBeReceived a taken
taken_by a received taken can verdict = subst (CanBeReceived a) (taken_vector a received taken verdict).0 can

-- a member takes a vector that it can receive
learnt : (g : GroupKeys) (a : MemberState) (received : List ℕ) → CanBeReceived a received → IsReached g a
    → IsReached g (member_learns received a)
learnt g a received can r = reached_learns g a received (can.width ∙ sym r.of) can.own r

-- only the sync state changes
machine_too : (g : GroupKeys) (a : MemberState) (machine : SyncState) → machine.members ≡ a.machine.members
    → IsReached g a
    → IsReached g (record a { machine = machine })
machine_too g a machine wide r = reached_with g a a.claims a.attempts machine wide r.sound r

pub fired_wide : (time draw : ℕ) (k : SyncState) → (state_after_firing time draw k).members ≡ k.members
fired_wide time draw k = go (nat_lt time k.deadline) where
  go : (b : Bool) → (cond b k (becomes_steady time draw k)).members ≡ k.members
  go true = refl
  go false = refl

-- only claims change
claims_too : (g : GroupKeys) (a : MemberState) (claims : List (Option Part))
    → PlanIsSound (member_plan (record a { claims = claims })) → IsReached g a
    → IsReached g (record a { claims = claims })
claims_too g a claims sound r = reached_with g a claims a.attempts a.machine refl sound r

-- what is accepted passes for the part that is claimed
pub record IsAccepted (g : GroupKeys) (a : MemberState) (f : ℕ) (t : Part) (octets : List ℕ) : Type 0 where
  pub claimed : claim_of (member_plan a) f ≡ Some t
  pub passes : PassesNow g a.store t octets

pub accepted : (g : GroupKeys) (a : MemberState) (f : ℕ) (t : Part) (octets : List ℕ) → accept_verdict g a f octets
    ≡ Ok t
    → IsAccepted g a f t octets
accepted g a f t octets h = go (claim_of (member_plan a) f) refl h where
  of_part : (u : Part) → claim_of (member_plan a) f ≡ Some u → (v : Result Data PartRefusal)
      → ring_verdict (want_of g a.store u) g.members.ring octets ≡ v → passed u v ≡ Ok t → IsAccepted g a f t octets
  of_part u p (Err refusal) q k = absurd cc
  of_part u p (Ok d) q k =
      let same : u ≡ t = cc in
      let passes : PassesNow g a.store u octets = ap (λ v. is_ok v) q in
      record {
        claimed = p ∙ ap (λ (x : Part). Some x) same;
        passes = subst (λ (x : Part). PassesNow g a.store x octets) same passes;
      }

  go : (claim : Option Part) → claim_of (member_plan a) f ≡ claim → claim_verdict g a octets claim ≡ Ok t
      → IsAccepted g a f t octets
  go None p k = absurd cc
  go (Some u) p k = of_part u p (ring_verdict (want_of g a.store u) g.members.ring octets) refl k

reached_accepts : (g : GroupKeys) (a : MemberState) (f : ℕ) (t : Part) (octets : List ℕ) → IsAccepted g a f t octets
    → IsReached g a → IsReached g (member_accepts f t octets a)
reached_accepts g a f t octets is r =
    let released = member_claims f None a in
    let wanted = wanted_parts (member_plan a) t (r.sound.claimed (f - 1) t is.claimed) in
    reached_gains g released t octets (claims_too g a released.claims (sound_release f (member_plan a) r.sound) r)
    (released_can_be_held f t (member_plan a) r.sound is.claimed) wanted.not_held is.passes

reached_numbers : (g : GroupKeys) (post : Post) (time draw : ℕ) (a : MemberState) → IsPost (next_seq a) post
    → IsReached g a
    → (b : Bool) → nat_lt (length a.log) 65535 ≡ b → IsReached g (cond b (member_publishes g post time draw a) a)
reached_numbers g post time draw a is r true p =
    reached_publishes g post time draw a is (ltb-true (length a.log) 65535 p) r
reached_numbers g post time draw a is r false p = r

-- what can be withdrawn has an earlier number
withdraws_earlier : (log : List Post) (seq : ℕ) → has_unwithdrawn log seq ≡ true → (0 < seq) × (seq < length log + 1)
withdraws_earlier log seq h =
    let both =
    and_parts (nat_le 1 seq) (nat_le seq (length log))
    (and_parts (nat_le 1 seq && nat_le seq (length log))
    (is_some (offered (slice_index_or log (seq - 1) no_post))
    && not (list_any (λ o. withdraws_number o seq) log)) h).0 in
    let low = leb-true 1 seq both.0 in
    let high = leb-true seq (length log) both.1 in
    (omega (arith, low), omega (arith, high))

reached_heard : (g : GroupKeys) (time draw : ℕ) (a : MemberState) (v : Result (List ℕ) HearRefusal)
    → ((received : List ℕ) → v ≡ Ok received → CanBeReceived a received) → IsReached g a
    → IsReached g (if_heard time draw a v)
reached_heard g time draw a (Ok received) can r =
    let machine = after_hearing time received a.known draw a.machine a.machine.heard in
    machine_too g (member_learns received a) machine (still_wide time received a.known draw a.machine machine refl)
    (learnt g a received (can received refl) r)
reached_heard g time draw a (Err refusal) can r = r

reached_joined : (g : GroupKeys) (a : MemberState) (v : Result (List ℕ) HearRefusal)
    → ((received : List ℕ) → v ≡ Ok received → CanBeReceived a received) → IsReached g a → IsReached g (if_joined a v)
reached_joined g a (Ok received) can r = learnt g a received (can received refl) r
reached_joined g a (Err refusal) can r = r

-- what was checked for the want of the part that is claimed
checked_claim : (g : GroupKeys) (f : ℕ) (checked : CheckedPart) (a : MemberState) → IsCheckedForClaim g a f checked
    → IsReached g a → (claim : Option Part) → claim_of (member_plan a) f ≡ claim
    → IsReached g (if_claimed_held f checked.octets a claim)
checked_claim g f checked a can r None p = r
checked_claim g f checked a can r (Some t) p =
    let for_it : IsCheckedFor g (want_of g a.store t) checked =
    subst (λ (o : Option Part). IfSome o (λ part. IsCheckedFor g (want_of g a.store part) checked)) p can.0 in
    reached_accepts g a f t checked.octets
    (record { claimed = p; passes = checked_passes g (want_of g a.store t) checked for_it can.1 }) r

-- what is a command by its verdict is one by its octets
spelled_so : (verdict : Result (ℕ × commands.Command) CommandRefusal) (order : Result (ℕ × commands.Command) ℕ)
    → coded verdict ≡ order → IfOk verdict (λ o. CommandIsSpelled o.1) → IfOk order (λ o. CommandIsSpelled o.1)
spelled_so verdict order same spelled =
    subst (λ (r : Result (ℕ × commands.Command) ℕ). IfOk r (λ o. CommandIsSpelled o.1)) same (go verdict spelled) where
      go : (v : Result (ℕ × commands.Command) CommandRefusal) → IfOk v (λ o. CommandIsSpelled o.1)
          → IfOk (coded v) (λ o. CommandIsSpelled o.1)
      go (Ok order) h = h
      go (Err refusal) h = tt

reached_call : (g : GroupKeys) (call : MemberCall) (a : MemberState) → IsAllowedCall g a call → IsReached g a
    → IsReached g (after_call g call a)
reached_call g (Publish object time draw) a can r =
    reached_numbers g (Offers object) time draw a can r (nat_lt (length a.log) 65535) refl
reached_call g (Withdraw seq time draw) a can r = go (has_unwithdrawn a.log seq) refl where
  go : (b : Bool) → has_unwithdrawn a.log seq ≡ b → IsReached g (cond b (if_numbers g (Withdraws seq) time draw a) a)
  go true there =
      reached_numbers g (Withdraws seq) time draw a (withdraws_earlier a.log seq there) r
      (nat_lt (length a.log) 65535) refl
  go false there = r
reached_call g (Hear octets time draw) a can r =
    reached_heard g time draw a (hear_verdict g a octets) (λ received p. received_so g a octets received r p) r
reached_call g (HearVector received time draw) a can r =
    reached_heard g time draw a (vector_verdict a received) (λ taken p. taken_by a received taken can p) r
reached_call g (JoinFrom octets) a can r =
    reached_joined g a (hear_verdict g a octets) (λ received p. received_so g a octets received r p) r
reached_call g (JoinVector received) a can r =
    reached_joined g a (vector_verdict a received) (λ taken p. taken_by a received taken can p) r
reached_call g (Fire time draw) a can r =
    machine_too g a (state_after_firing time draw a.machine) (fired_wide time draw a.machine) r
reached_call g (Claim f) a can r = go (claim_of (member_plan a) f) where
  go : (claim : Option Part) → IsReached g (if_claimed f a claim)
  go None =
      let claims = (member_claims f (first (unclaimed (member_plan a))) a).claims in
      claims_too g a claims (sound_first f (member_plan a) (first (unclaimed (member_plan a))) refl r.sound) r
  go (Some t) = r
reached_call g (Lose f) a can r = go (claim_of (member_plan a) f) where
  go : (claim : Option Part) → IsReached g (if_lost f a claim)
  go None = r
  go (Some t) = claims_too g a (member_claims f None a).claims (sound_release f (member_plan a) r.sound) r
reached_call g (Accept f octets) a can r = go (accept_verdict g a f octets) refl where
  go : (v : Result Part AcceptRefusal) → accept_verdict g a f octets ≡ v → IsReached g (if_accepted f octets a v)
  go (Ok t) p = reached_accepts g a f t octets (accepted g a f t octets p) r
  go (Err refusal) p = r
reached_call g (AcceptChecked f checked) a can r =
    checked_claim g f checked a can.1 r (claim_of (member_plan a) f) refl
reached_call g (TakeOutcome jobs parts attempts) a can r = reached_takes g a jobs parts attempts can.0 can.1 r
reached_call g (TakeDigested jobs parts attempts digests) a can r =
    reached_takes g a jobs parts attempts can.0.0 can.0.1 r
reached_call g (Command octets) a can r = reached_order g octets a can r
reached_call g (CommandChecked octets verdict) a can r =
    reached_order g octets a (spelled_so verdict (order_of g a.number octets) can.0 can.1) r
reached_call g (Block process index content time draw) a can r =
    reached_blocks g process index content time draw a can r
reached_call g EndClaims a can r = claims_too g a (member_ends_claims a).claims (sound_end (member_plan a) r.sound) r
reached_call g (Reset time draw) a can r = machine_too g a (becomes_steady time draw a.machine) refl r
reached_call g (Restart time draw) a can r =
    let ended = member_ends_claims a in
    machine_too g (member_ends_insertions ended) (becomes_steady time draw a.machine) refl
    (reached_clears g ended (claims_too g a ended.claims (sound_end (member_plan a) r.sound) r))
reached_call g OrderNames a can r = r

-- ---- all calls

reached_calls : (g : GroupKeys) (calls : List MemberCall) (a : MemberState) → AreAllowedCalls g a calls → IsReached g a
    → IsReached g (after_calls g calls a)
reached_calls g [] a can r = r
reached_calls g (call ∷ calls) a can r =
    reached_calls g calls (after_call g call a) can.1 (reached_call g call a can.0 r)

pub in_every_member : (P : GroupKeys → MemberState → Type 0)
    → ((g : GroupKeys) (a : MemberState) → IsReached g a → P g a)
    → InEveryMember P
in_every_member P h g number time draw calls group inside can =
    h g (after_calls g calls _) (reached_calls g calls _ can (reached_opening g number time draw group inside))

-- ---- the laws

pub claims_once : (g : GroupKeys) (a : MemberState) → IsReached g a → ClaimsOnce (member_plan a)
claims_once g a r = record {
  once =
      λ f h t is_f is_h differ e k.
      differ (omega (arith, is_f.from_one, is_h.from_one, r.sound.apart (f - 1) (h - 1) t e k));
  wanted = λ f t e. r.sound.claimed (f - 1) t e;
}
