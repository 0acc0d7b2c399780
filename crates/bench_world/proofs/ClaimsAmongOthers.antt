-- The answer for a claim of a member, which is taken out from among the others and put back.
use Rattle.std.proofs.Common.{◌≡◌, ◌≢◌, ◌⊎◌, inl, inr, ℕ, ◌<◌, List, length, set, Option, Some, None, option_map, sym}
use Rattle.std.proofs.Common.{ap, ◌∙◌, subst, arith}
use Rattle.std.specs.Prelude.{IfOk, IfErr, OnOk, OnErr, Result, Ok, Err}
use Rattle.std.specs.List.{remove, insert}
use Rattle.std.proofs.lemmas.Result.{on_ok_weaker, on_err_weaker}
use Rattle.repo_plan.specs.declared.part.Part.{Part}
use Rattle.sorted_lists.specs.SortedList.{keys}
use Rattle.repo_plan.specs.Plan.{claim_of}
use Rattle.repo_plan.specs.Parts.{pair_of}
use Rattle.repo_object.specs.Wants.{WantedPart}
use Rattle.repo_store.specs.Served.{served}
use Rattle.group_model.specs.Publications.{Logs}
use Rattle.group_model.specs.Events.{Response}
use Rattle.group_model.specs.Events.Response.{Nothing, Its, Another}
use Rattle.repo_member.specs.Groups.{GroupKeys}
use Rattle.repo_member.specs.Records.{Packet}
use Rattle.repo_member.specs.MemberState.{MemberState, member_plan}
use Rattle.repo_member.specs.ConsistentMembers.{IsConsistentMember, published_want, published_packets}
use Rattle.repo_member.proofs.PublicLaws.{stores_those}
use Rattle.bench_world.specs.declared.event.EventError.{EventError}
use Rattle.bench_world.specs.declared.answering.Fed.{Fed}
use Rattle.bench_world.specs.Worlds.{nobody, state_at}
use Rattle.bench_world.specs.Conditions.{CanAccept, CanGetAt}
use Rattle.bench_world.specs.Serving.{octets_response, packet_response, found}
use Rattle.bench_world.specs.Answering.{answered, claim_in, holder_response, outside_response, fed_as, kept_of}
use Rattle.bench_world.specs.Answering.{accepts_claimed}
use Rattle.bench_world.specs.Answering.{after_claimed}
use Rattle.bench_world.proofs.ClaimedPackets.{claim_published, claim_of_another, publisher_there}
use Rattle.bench_world.proofs.TakenOut.{put_in, put_back}

-- ---- parts of answers

if_err : {T E : Type 0} {P Q : E → Type 0} (r : Result T E) → IfErr r P → ((e : E) → P e → Q e) → IfErr r Q
if_err (Ok x) p f = tt
if_err (Err e) p f = f e p

-- ---- a member and its claim

module _ (g : GroupKeys) (logs : Logs) (f m : ℕ) (ms : List MemberState) (can : CanGetAt g logs f m ms)
    (want : WantedPart)
    (claim : claim_of (member_plan (state_at ms m)) f ≡ Some want.part) where
  -- The publisher of what is claimed is another member.
  pub publisher_in : want.part.publisher < length ms
  publisher_in =
      let p =
      publisher_there logs (pair_of want.part)
      (claim_published g logs (state_at ms m) can.logs (can.consistent m can.there) f want.part claim).there in
      omega (arith, p, can.width)

  pub publisher_other : want.part.publisher ≢ m
  publisher_other same =
      claim_of_another g logs (state_at ms m) can.logs (can.consistent m can.there) f want.part claim
      (same ∙ sym (can.numbers m can.there))

  module _ (want_is : want ≡ published_want g logs want.part) where
    -- The fetcher `f` of member `m` can accept a packet for its want.
    pub can_accept : (x p : MemberState) → x ≡ state_at ms m → p ≡ state_at ms want.part.publisher
        → CanAccept g logs f want p x
    can_accept x p x_is p_is = record {
      logs = can.logs;
      publisher = subst (IsConsistentMember g logs) (sym p_is) (can.consistent want.part.publisher publisher_in);
      number = ap (λ (a : MemberState). a.number) p_is ∙ can.numbers want.part.publisher publisher_in;
      asker = subst (IsConsistentMember g logs) (sym x_is) (can.consistent m can.there);
      fetcher = can.fetcher;
      claim = ap (λ (a : MemberState). claim_of (member_plan a) f) x_is ∙ claim;
      want = want_is;
    }

    -- What member `q` serves is read as `holder_response` says.
    pub served_is : (q : ℕ) → q < length ms → (b : MemberState) → b ≡ state_at ms q
        → packet_response g logs want.part (found (served want.interest b.store))
        ≡ holder_response g logs ms q (claim_in ms m f)
    served_is q other b b_is =
        ap (λ (a : MemberState). packet_response g logs want.part (found (served want.interest a.store))) b_is
        ∙ ap (λ (es : List Packet). packet_response g logs want.part (found (served want.interest es)))
        (stores_those g logs (state_at ms q) (can.consistent q other))
        ∙ ap (λ (w : WantedPart).
        packet_response g logs want.part (found (served w.interest
        (published_packets g logs (keys (state_at ms q).store)))))
        want_is
        ∙ ap (holder_response g logs ms q) (sym claim)

  -- ---- by what was received

  module _ (came k : Response) (same : k ≡ came) where
    pub kept_so : {E : Type 0} (r : Result (Option ℕ) E) → IfOk r (λ kept. answered g logs (Some want.part) k ≡ Ok kept)
        → IfOk r (λ kept. answered g logs (claim_in ms m f) came ≡ Ok kept)
    kept_so r h =
        subst (λ (o : Option Part). IfOk r (λ kept. answered g logs o came ≡ Ok kept)) (sym claim)
        (subst (λ (c : Response). IfOk r (λ kept. answered g logs (Some want.part) c ≡ Ok kept)) same h)

    pub fed_so : {E : Type 0} (octets : List ℕ) (r : Result Fed E)
        → IfOk r (λ fed. answered g logs (Some want.part) k ≡ Ok (kept_of octets fed))
        → IfOk r (λ fed. answered g logs (claim_in ms m f) came ≡ Ok (kept_of octets fed))
    fed_so octets r h =
        subst (λ (o : Option Part). IfOk r (λ fed. answered g logs o came ≡ Ok (kept_of octets fed))) (sym claim)
        (subst (λ (c : Response). IfOk r (λ fed. answered g logs (Some want.part) c ≡ Ok (kept_of octets fed))) same h)

    pub refused_so : {T : Type 0} (r : Result T EventError)
        → IfErr r (λ fault. (fault ≡ EventError.NoMemory) ⊎ (answered g logs (Some want.part) k ≡ Err fault))
        → IfErr r (λ fault. (fault ≡ EventError.NoMemory) ⊎ (answered g logs (claim_in ms m f) came ≡ Err fault))
    refused_so r h =
        subst
        (λ (o : Option Part). IfErr r (λ fault. (fault ≡ EventError.NoMemory) ⊎ (answered g logs o came ≡ Err fault)))
        (sym claim)
        (subst (λ (c : Response).
        IfErr r (λ fault. (fault ≡ EventError.NoMemory) ⊎ (answered g logs (Some want.part) c ≡ Err fault))) same h)

    module _ (mid new : List MemberState) (x y : MemberState) (x_is : x ≡ state_at ms m) (mid_is : mid ≡ remove ms m)
        (new_is : new ≡ insert mid m y) where
      pub members_so : {T E : Type 0} (r : Result T E) → OnOk r (y ≡ accepts_claimed g logs f want.part k x)
          → OnOk r (new ≡ set ms m (after_claimed g logs f (claim_in ms m f) came (state_at ms m)))
      members_so r = on_ok_weaker r (λ e.
          put_in ms mid new m y can.there mid_is new_is
          ∙ ap (set ms m) (e ∙ ap (accepts_claimed g logs f want.part k) x_is
          ∙ ap (λ (c : Response). accepts_claimed g logs f want.part c (state_at ms m)) same
          ∙ ap (λ (o : Option Part). after_claimed g logs f o came (state_at ms m)) (sym claim)))

      pub still_so : {T E : Type 0} (r : Result T E) → OnErr r (y ≡ x) → OnErr r (new ≡ ms)
      still_so r = on_err_weaker r (λ e. put_back nobody ms mid new m y can.there mid_is new_is (e ∙ x_is))

  -- It isn't refused for want of a claim.
  pub busy_so : {T : Type 0} (k : Response) (r : Result T EventError)
      → IfErr r (λ fault. (fault ≡ EventError.NoMemory) ⊎ (answered g logs (Some want.part) k ≡ Err fault))
      → (r ≡ Err EventError.FetcherIdle → claim_in ms m f ≡ None)
      × (claim_in ms m f ≡ None → r ≡ Err EventError.FetcherIdle)
  busy_so k r h = (
    λ e. absurd
        (go k (subst
        (λ x. IfErr x (λ fault.
        (fault ≡ EventError.NoMemory) ⊎ (answered g logs (Some want.part) k ≡ Err fault))) e h)),
    λ none. absurd (claims (sym claim ∙ none)),
  ) where
    claims : Some want.part ≡ None → ⊥
    claims e = cc

    go : (k : Response)
        → (EventError.FetcherIdle ≡ EventError.NoMemory)
        ⊎ (answered g logs (Some want.part) k ≡ Err EventError.FetcherIdle)
        → ⊥
    go k (inl memory) = cc
    go Nothing (inr e) = cc
    go Its (inr e) = cc
    go Another (inr e) = cc

  -- ---- octets from outside

  pub came_for_it : (octets : List ℕ)
      → octets_response g logs want.part octets ≡ outside_response g logs octets (claim_in ms m f)
  came_for_it octets = ap (outside_response g logs octets) (sym claim)

  pub reported_so : {E : Type 0} (octets : List ℕ) (r : Result Fed E)
      → IfOk r (λ fed. fed ≡ fed_as g logs octets want.part)
      → IfOk r (λ fed. option_map (fed_as g logs octets) (claim_in ms m f) ≡ Some fed)
  reported_so octets r h =
      subst (λ (o : Option Part). IfOk r (λ fed. option_map (fed_as g logs octets) o ≡ Some fed)) (sym claim)
      (go r h) where
        go : {E : Type 0} (r : Result Fed E) → IfOk r (λ fed. fed ≡ fed_as g logs octets want.part)
            → IfOk r (λ fed. Some (fed_as g logs octets want.part) ≡ Some fed)
        go (Ok fed) e = ap (λ (x : Fed). let o : Option Fed = Some x in o) (sym e)
        go (Err x) e = tt

  -- They are foreign where they pass and aren't the publisher's.
  pub foreign_so : {T : Type 0} (octets : List ℕ) (r : Result T EventError)
      → IfErr r (λ fault.
      (fault ≡ EventError.NoMemory)
      ⊎ ((fault ≡ EventError.Foreign) × (octets_response g logs want.part octets ≡ Another)))
      → IfErr r (λ fault. (fault ≡ EventError.NoMemory)
      ⊎ (answered g logs (Some want.part) (octets_response g logs want.part octets) ≡ Err fault))
  foreign_so octets r h = if_err r h (λ fault k. elim k [
    | inl memory ↦ inl memory
    | inr foreign ↦
        inr (ap (answered g logs (Some want.part)) foreign.1
        ∙ ap (λ (e : EventError). let a : Result (Option ℕ) EventError = Err e in a) (sym foreign.0))
  ])
