-- What a member hears, entry by entry.
use Rattle.std.proofs.Common.{◌≡◌, ◌≢◌, inl, inr, ℕ, ◌+◌, ◌<◌, Bool, true, false, cond, not, ◌==◌, List, [], ◌∷◌}
use Rattle.std.proofs.Common.{◌++◌, map, length, get_or, set, refl, sym, ap, ◌∙◌, subst, append_assoc, add-one}
use Rattle.std.proofs.Common.{eq-eqb}
use Rattle.std.specs.Prelude.{filter}
use Rattle.std.proofs.lemmas.Bool.{cases_eq, ne_eqb}
use Rattle.std.proofs.lemmas.List.{append-nil, map-append}
use Rattle.std.proofs.lemmas.List.Elements.{filter-append}
use Rattle.repo_member.specs.Verdicts.{sync_of}
use Rattle.live_member.specs.declared.event.LiveEvent.{LiveEvent}
use Rattle.live_member.specs.declared.event.LiveEvent.TheVariants as event
use Rattle.live_member.specs.declared.event.LiveReply.{LiveReply}
use Rattle.live_member.specs.declared.event.LiveEntry.{LiveEntry}
use Rattle.live_member.specs.Meanings.{Meaning}
use Rattle.live_member.specs.Lives.{Living}
use Rattle.live_member.specs.LockedCalls.{entry, IsEntered, StepsBy}
use Rattle.live_settle.specs.Ready.{at, Only}
use Rattle.live_settle.specs.Rans.{numbers_below}
use Rattle.live_settle.specs.Hearings.{hearing, HearsReport, hearings, HearsFirst}
use Rattle.live_settle.proofs.Places.{at_set, at_found}

pub hears_report : (t : Meaning) (ls : List Living) (j p : ℕ) (d e new : Living) (octets : List ℕ) (r : LiveReply)
    → j < length ls → p < length ls → length (at ls j).journal < 1000000
    → octets ≡ sync_of t.group (get_or ls p e).state.number (get_or ls p e).state.known
    → StepsBy t 1000000 (event.Hear octets) (get_or ls j d) new r
    → HearsReport t (at ls p) (at ls j) (at (set ls j new) j)
hears_report t ls j p d e new octets r there other room told steps =
    let its : octets ≡ sync_of t.group (at ls p).state.number (at ls p).state.known =
    told ∙ ap (λ (m : Living). sync_of t.group m.state.number m.state.known) (at_found ls p e other) in
    let here : StepsBy t 1000000 (event.Hear octets) (at ls j) new r =
    subst (λ (m : Living). StepsBy t 1000000 (event.Hear octets) m new r) (at_found ls j d there) steps in
    let entered : IsEntered t (hearing t (at ls p)) (at ls j) new r =
    subst (λ (os : List ℕ). IsEntered t (event.Hear os) (at ls j) new r) its (here.1 room).0 in
    record {
      reply = r;
      entered = subst (λ (m : Living). IsEntered t (hearing t (at ls p)) (at ls j) m r)
          (sym (at_set ls j new there)) entered;
    }

-- ---- one more is heard

module _ (t : Meaning) (j n : ℕ) (ls : List Living) where
  told : ℕ → LiveEvent
  told p = hearing t (at ls p)

  other : ℕ → Bool
  other p = not (p == j)

  one_more_hearing : (b : Bool) → n == j ≡ b
      → hearings t j (n + 1) ls ≡ hearings t j n ls ++ cond b [] (hearing t (at ls n) ∷ [])
  unfolding told other
  one_more_hearing b e =
      ap (λ (k : ℕ). hearings t j k ls) (add-one n)
      ∙ ap (map told) (filter-append other (numbers_below n) (n ∷ []))
      ∙ map-append told (filter other (numbers_below n)) (filter other (n ∷ []))
      ∙ ap (λ (b : Bool). hearings t j n ls ++ map told (cond (not b) (n ∷ []) [])) e
      ∙ last b where
        last : (b : Bool) → hearings t j n ls ++ map told (cond (not b) (n ∷ []) [])
            ≡ hearings t j n ls ++ cond b [] (hearing t (at ls n) ∷ [])
        last true = refl
        last false = refl

module _ (t : Meaning) (j n : ℕ) (old mid new : List Living) (before : HearsFirst t j n old mid) where
  first_itself : n ≡ j → new ≡ mid → HearsFirst t j (n + 1) old new
  first_itself is same = record {
    more = before.more;
    journal = ap (λ (ls : List Living). (at ls j).journal) same ∙ before.journal;
    events = before.events ∙ sym (one_more_hearing t j n old true (eq-eqb n j is) ∙ append-nil (hearings t j n old));
  }

  first_other : n ≢ j → HearsReport t (at old n) (at mid j) (at new j) → HearsFirst t j (n + 1) old new
  first_other differs heard =
      let one : List LiveEntry = entry (hearing t (at old n)) heard.reply ∷ [] in
      record {
        more = before.more ++ one;
        journal = heard.entered.entered
            ∙ ap (λ (js : List LiveEntry). js ++ one) before.journal
            ∙ append_assoc (at old j).journal before.more one;
        events = map-append (λ (e : LiveEntry). e.event) before.more one
            ∙ ap (λ (es : List LiveEvent). es ++ hearing t (at old n) ∷ []) before.events
            ∙ sym (one_more_hearing t j n old false (ne_eqb n j differs));
      }

  pub one_more_heard : Only j old mid → (n ≡ j → new ≡ mid)
      → (n ≢ j → HearsReport t (at mid n) (at mid j) (at new j)) → HearsFirst t j (n + 1) old new
  one_more_heard only itself heard = elim (cases_eq n j) [
    | inl e ↦ first_itself e (itself e)
    | inr d ↦
        first_other d (subst (λ (m : Living). HearsReport t m (at mid j) (at new j)) (only.others n d) (heard d))
  ]
