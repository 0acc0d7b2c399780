-- The members that come out of the threads, after the settle.
use Rattle.std.proofs.Common.{◌≡◌, ℕ, ◌<◌, List, [], map, length, get_or}
use Rattle.std.proofs.Common.{refl, sym, ap, ◌∙◌, subst, arith, inl, inr, Vec, Global}
use Rattle.std.specs.Prelude.{Result, Ok, Err, IfOk, ◌≢◌, ◌⊎◌}
use Rattle.std.specs.List.{All}
use Rattle.std.proofs.lemmas.List.{get_or-map, length-map}
use Rattle.std.proofs.lemmas.List.Sums.{sum_by-append}
use Rattle.repo_member.specs.MemberState.{initial_member}
use Rattle.live_member.specs.declared.event.LiveEntry.{LiveEntry}
use Rattle.live_member.specs.Meanings.{Meaning}
use Rattle.live_member.specs.Lives.{Living, living, IsLive}
use Rattle.live_member.specs.Entries.{is_claim_by, claims_by}
use Rattle.live_settle.specs.declared.ran.Ran.{Ran}
use Rattle.live_settle.specs.Ready.{at, Continues}
use Rattle.live_settle.specs.Rans.{numbers_below, AreRans, AreContinued}
use Rattle.live_group.specs.Desks.{HasRoom, HasActed, HasEnded}
use Rattle.live_group.specs.Outs.{BeginsAnew, GoesOn, HasRun, IsOut}

-- the claims of fetcher 2 in a journal that goes on
pub still_claims : (old new : List LiveEntry) → Continues old new → claims_by 2 new ≡ claims_by 2 old
still_claims old new is =
    let both = sum_by-append (λ (e : LiveEntry). is_claim_by 2 e.event) old is.more in
    let none = is.second in omega (arith, ap (claims_by 2) is.journal, both, none)

pub has_run : (t : Meaning) (turns : ℕ) (l : Living) (r : Ran) → IsOut t turns l → l.state.number ≡ r.member.number
    → Continues l.journal r.journal.items → HasRun t turns r
has_run t turns l r o number continues =
    record { out = o.out; live = o.live; acted = o.acted; goes_on = go o.goes_on } where
      go : (l ≡ o.out) ⊎ ((o.out.state.number ≢ l.state.number) × (l.journal ≡ []))
          → GoesOn turns o.out r ⊎ BeginsAnew o.out r
      go (inl same) =
          let journal : Continues o.out.journal r.journal.items =
          subst (λ (m : Living). Continues m.journal r.journal.items) same continues in
          inl (record {
            journal = journal;
            second = λ room. still_claims o.out.journal r.journal.items journal ∙ (o.acted room).second;
          })
      go (inr anew) = inr (record {
        other = λ same. anew.0 (same ∙ sym number);
        none = still_claims l.journal r.journal.items continues ∙ ap (claims_by 2) anew.1;
      })

module _ (t : Meaning) (turns : ℕ) (lives : List Living) (numbers : List ℕ)
    (placed : map (λ l. l.state.number) lives ≡ numbers) (outs : All (IsOut t turns) lives) where
  all_run : (rans : List Ran) → map (λ r. r.member.number) rans ≡ numbers → AreContinued lives rans
      → All (HasRun t turns) rans
  all_run rans same continued k d less =
      let r = get_or rans k d in
      let wide : length lives ≡ length rans =
      let one = length-map lives (λ (l : Living). l.state.number) in
      let two = length-map rans (λ (r : Ran). r.member.number) in
      let long = ap (λ (ns : List ℕ). length ns) placed in
      let longer = ap (λ (ns : List ℕ). length ns) same in omega (arith, one, two, long, longer) in
      let there : k < length lives = omega (arith, less, wide) in
      let number : (at lives k).state.number ≡ r.member.number =
      sym (get_or-map (λ (l : Living). l.state.number) lives k (living (initial_member 0 0 0 0) [] []) 0 there)
      ∙ ap (λ (ns : List ℕ). get_or ns k 0) (placed ∙ sym same)
      ∙ get_or-map (λ (r : Ran). r.member.number) rans k d 0 less in
      has_run t turns (at lives k) r (outs k (living (initial_member 0 0 0 0) [] []) there) number
      (subst (Continues (at lives k).journal) (get_or-map (λ (r : Ran). r.journal.items) rans k d [] less)
      (continued k))

  pub have_run : {A : Type 0} (r : Result (Vec Ran Global) A) → numbers ≡ numbers_below (length t.lists)
      → IfOk r (λ rans. AreRans t rans.items) → IfOk r (λ rans. AreContinued lives rans.items)
      → IfOk r (λ rans. All (HasRun t turns) rans.items)
  have_run (Ok rans) all are continued = all_run rans.items (are.numbers ∙ sym all) continued
  have_run (Err want) all are continued = tt

-- the run goes on with the member that lay under the lock, or with one that was made anew, since another place's lay
-- there
module _ (t : Meaning) (turns left : ℕ) (was out : Living) (same : out ≡ was) (live : IsLive t 1000000 out)
    (ended : HasEnded turns was left) (none : left ≡ 0) where
  has_acted : HasRoom out → HasActed turns out
  has_acted = subst (λ (l : Living). HasRoom l → HasActed turns l) (sym same) (ended none)

  pub itself_out : IsOut t turns out
  itself_out = record { out = out; live = live; acted = has_acted; goes_on = inl refl }

  pub made_anew : (number : ℕ) → (out.state.number ≡ number → ⊥) → (l : Living) → l.state.number ≡ number
      → l.journal ≡ [] → IsOut t turns l
  made_anew number other l its empty = record {
    out = out;
    live = live;
    acted = has_acted;
    goes_on = inr (λ equal. other (equal ∙ its), empty);
  }
