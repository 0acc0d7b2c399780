-- What calls make of a member under its lock, and of the claims in its journal.
use Rattle.std.proofs.Common.{◌≡◌, ◌≢◌, inl, inr, ℕ, ◌+◌, List, [], ◌∷◌, ◌++◌, length}
use Rattle.std.proofs.Common.{sym, ap, ◌∙◌, subst, arith}
use Rattle.std.specs.Prelude.{Result, Ok, Err}
use Rattle.std.proofs.lemmas.Bool.{cases_lt}
use Rattle.std.proofs.lemmas.List.{length-append}
use Rattle.std.proofs.lemmas.List.Sums.{sum_by-append, sum_by-cons}
use Rattle.live_member.specs.declared.event.LiveEvent.{LiveEvent}
use Rattle.live_member.specs.declared.event.LiveEvent.TheVariants as event
use Rattle.live_member.specs.declared.event.LiveReply.{LiveReply}
use Rattle.live_member.specs.declared.event.LiveEntry.{LiveEntry}
use Rattle.live_member.specs.Meanings.{Meaning}
use Rattle.live_member.specs.Lives.{Living}
use Rattle.live_member.specs.Entries.{is_claim_by, claims_by}
use Rattle.live_member.specs.LockedCalls.{entry, StepsBy, Steps, IsNext}
use Rattle.live_group.specs.Desks.{HasBegun, IsDesk, HasEnded}

-- a member that begins
pub begins : (turns : ℕ) (l : Living) → HasBegun l → IsDesk turns l turns turns 1 0
begins turns l begun = record {
  tickets = omega arith;
  firsts = λ room. omega (arith, ap (claims_by 1) begun);
  seconds = λ room. omega (arith, ap (claims_by 2) begun);
  published = λ room none. absurd (let e = none in omega (arith, e));
}

-- one entry more
module _ (old new : Living) (e : LiveEvent) (r : LiveReply) (is : new.journal ≡ old.journal ++ entry e r ∷ []) where
  pub longer : length new.journal ≡ length old.journal + 1
  longer = let long = length-append old.journal (entry e r ∷ []) in omega (arith, ap length is, long)

  pub counted : (f : ℕ) → claims_by f new.journal ≡ claims_by f old.journal + is_claim_by f e
  counted f =
      let count : LiveEntry → ℕ = λ x. is_claim_by f x.event in
      let both = sum_by-append count old.journal (entry e r ∷ []) in
      let one = sum_by-cons count (entry e r) [] in
      omega (arith, ap (claims_by f) is, both, one)

module _ (t : Meaning) (turns : ℕ) (old new : Living) (first second look spent : ℕ)
    (is : IsDesk turns old first second look spent) where
  -- a call that is no claim
  module _ (e : LiveEvent) (none : is_claim_by 1 e ≡ 0) (nor : is_claim_by 2 e ≡ 0) where
    pub other_steps : (r : LiveReply) → StepsBy t 900000 e old new r → IsDesk turns new first second look spent
    other_steps r steps = elim (cases_lt (length old.journal) 900000) [
      | inr full ↦ subst (λ (l : Living). IsDesk turns l first second look spent) (sym (steps.0 full).1) is
      | inl room ↦
          let entered = (steps.1 room).0.entered in
          record {
            tickets = is.tickets;
            firsts = λ there. let had = is.firsts room in omega (arith, had, none, counted old new e r entered 1);
            seconds = λ there. let had = is.seconds room in omega (arith, had, nor, counted old new e r entered 2);
            published = λ there no_look. (steps.1 room).1 ∙ is.published room no_look;
          }
    ]

    pub other_call : {A : Type 0} (r : Result LiveReply A) → Steps t 900000 e old new r
        → IsDesk turns new first second look spent
    other_call (Ok r) steps = other_steps r steps
    other_call (Err want) same = subst (λ (l : Living). IsDesk turns l first second look spent) (sym same) is

  -- a claim of fetcher 1 or 2
  pub claims : (f : ℕ) (r : LiveReply) → StepsBy t 900000 (event.Claim f) old new r → (left_first left_second : ℕ)
      → left_first + is_claim_by 1 (event.Claim f) ≡ first → left_second + is_claim_by 2 (event.Claim f) ≡ second
      → (now : ℕ) → now + left_first + left_second ≡ spent + first + second
      → IsDesk turns new left_first left_second look now
  claims f r steps left_first left_second one two now more = elim (cases_lt (length old.journal) 900000) [
    | inr full ↦
        let same = ap (λ (l : Living). length l.journal) (steps.0 full).1 in
        record {
          tickets = let all = is.tickets in omega (arith, all, more);
          firsts = λ there. absurd (omega (arith, there, same, full));
          seconds = λ there. absurd (omega (arith, there, same, full));
          published = λ there. absurd (omega (arith, there, same, full));
        }
    | inl room ↦
        let entered = (steps.1 room).0.entered in
        record {
          tickets = let all = is.tickets in omega (arith, all, more);
          firsts =
              λ there.
              let had = is.firsts room in omega (arith, had, one, counted old new (event.Claim f) r entered 1);
          seconds =
              λ there.
              let had = is.seconds room in omega (arith, had, two, counted old new (event.Claim f) r entered 2);
          published = λ there no_look. (steps.1 room).1 ∙ is.published room no_look;
        }
  ]

  -- a publication, where the last look is still to be made
  pub next_published : (octets : List ℕ) → IsNext t 900000 old new octets → look ≢ 0
      → IsDesk turns new first second look spent
  next_published octets published still =
      let entered = published.entered.entered in
      let e = event.Publish in
      let r = published.reply in
      record {
        tickets = is.tickets;
        firsts = λ there. let had = is.firsts published.room in omega (arith, had, counted old new e r entered 1);
        seconds = λ there. let had = is.seconds published.room in omega (arith, had, counted old new e r entered 2);
        published = λ there no_look. absurd (still no_look);
      }

  -- no claim and no look is still to be made
  pub has_ended : (left : ℕ) → left ≡ first + second + look → HasEnded turns old left
  has_ended left sum none room = record {
    first = let had = is.firsts room in omega (arith, had, sum, none);
    second = let had = is.seconds room in omega (arith, had, sum, none);
    published = is.published room (omega (arith, sum, none));
  }
