-- One member more has been taken out.
use Rattle.std.proofs.Common.{◌≡◌, ℕ, zero, suc, List, [], ◌∷◌, ◌++◌, map, length, get_or, refl, sym, ap, ◌∙◌, subst}
use Rattle.std.proofs.Common.{append_assoc}
use Rattle.std.specs.List.{All}
use Rattle.std.proofs.lemmas.List.{map-append}
use Rattle.std.proofs.lemmas.List.Elements.{All-tail, All-push}
use Rattle.repo_member.specs.MemberState.{MemberState}
use Rattle.live_member.specs.declared.event.LiveEntry.{LiveEntry}
use Rattle.live_member.specs.Meanings.{Meaning}
use Rattle.live_member.specs.Lives.{Living}
use Rattle.live_settle.specs.declared.ran.Ran.{Ran}
use Rattle.live_settle.specs.Ready.{at, Continues, KeepPrefixes, IsJoined}
use Rattle.live_settle.specs.Rans.{numbers_below, IsRan, AreContinued}

-- the results `rans` are made, and the members `rest` are still to be taken out
pub record IsEnding (t : Meaning) (lives : List Living) (rans : List Ran) (rest : List Living) : Type 0 where
  pub joined : All (IsJoined t) rest
  pub numbers : map (λ r. r.member.number) rans ++ map (λ l. l.state.number) rest ≡ numbers_below (length t.lists)
  pub journals : map (λ r. r.journal.items) rans ++ map (λ l. l.journal) rest ≡ map (λ l. l.journal) lives
  pub members : map (λ r. r.member) rans ++ map (λ l. l.state) rest ≡ map (λ l. l.state) lives
  pub each : All (IsRan t) rans

module _ (t : Meaning) (lives : List Living) (rans : List Ran) (rest later : List Living) (l : Living) (r : Ran)
    (is : IsEnding t lives rans rest) (first : rest ≡ l ∷ later) (journal : r.journal.items ≡ l.journal)
    (member : r.member ≡ l.state) (ran : IsRan t r) where
  one_moves : {X : Type 0} (f : Ran → X) (g : Living → X) (all : List X) → f r ≡ g l
      → map f rans ++ map g rest ≡ all → map f (rans ++ r ∷ []) ++ map g later ≡ all
  one_moves {X} f g all same before =
      ap (λ (xs : List X). xs ++ map g later) (map-append f rans (r ∷ []))
      ∙ append_assoc (map f rans) (f r ∷ []) (map g later)
      ∙ ap (λ (x : X). map f rans ++ x ∷ map g later) same
      ∙ ap (λ (ls : List Living). map f rans ++ map g ls) (sym first)
      ∙ before

  pub one_ended : IsEnding t lives (rans ++ r ∷ []) later
  one_ended = record {
    joined = All-tail (IsJoined t) l later (subst (All (IsJoined t)) first is.joined);
    numbers = one_moves (λ r. r.member.number) (λ l. l.state.number) _ (ap (λ (a : MemberState). a.number) member)
        is.numbers;
    journals = one_moves (λ r. r.journal.items) (λ l. l.journal) _ journal is.journals;
    members = one_moves (λ r. r.member) (λ l. l.state) _ member is.members;
    each = All-push (IsRan t) rans r is.each ran;
  }

-- ---- the journals that come out

journal_at : (ls : List Living) (p : ℕ) → get_or (map (λ (l : Living). l.journal) ls) p [] ≡ (at ls p).journal
journal_at [] p = refl
journal_at (l ∷ ls) zero = refl
journal_at (l ∷ ls) (suc p) = journal_at ls p

pub prefixes_come_out : (old new taken : List Living) (rans : List Ran) → KeepPrefixes old new → taken ≡ new
    → map (λ r. r.journal.items) rans ≡ map (λ l. l.journal) taken → AreContinued old rans
prefixes_come_out old new taken rans prefixes same journals p =
    let its : get_or (map (λ (r : Ran). r.journal.items) rans) p [] ≡ (at new p).journal =
    ap (λ (js : List (List LiveEntry)). get_or js p []) journals
    ∙ journal_at taken p
    ∙ ap (λ (ls : List Living). (at ls p).journal) same in
    subst (Continues (at old p).journal) (sym its) (prefixes p)
