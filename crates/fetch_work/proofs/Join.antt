-- Two seats that know the results of their attempts, put together; and the one seat at the end.
use Rattle.std.proofs.Common.{◌≡◌, ⊎_elim, ℕ, ◌+◌, ◌<◌, List, [], ◌∷◌, ◌++◌, length, ap, sym, subst, ◌∙◌, arith, ne_eqb}
use Rattle.std.specs.Prelude.{Option, Some, None, All, Result, Ok, Err, IfOk, get_or, fold}
use Rattle.std.proofs.lemmas.List.Elements.{All-head, All-tail}
use Rattle.fetch_board.specs.declared.outcome.Outcome.{Outcome}
use Rattle.std.proofs.lemmas.List.{get_or_append_left, length-append}
use Rattle.std.proofs.Math.Seq.{get_or-append_seam}
use Rattle.std.proofs.lemmas.Bool.{lt-ltb}
use Rattle.fetch_board.specs.Counts.{one, pairs, triples}
use Rattle.fetch_board.specs.Seats.{BoardTerms, SeatData, combined}
use Rattle.fetch_board.specs.Answers.{Settled}
use Rattle.fetch_board.proofs.Marks.{pairs-append, items-append, triples-append, has-append}
use Rattle.fetch_board.proofs.Seats.{either}
use Rattle.fetch_work.specs.Teams.{Knows, HasWorked, IsFirst}

-- what holds of each element of a list holds of its prefix and of its last
pub all_parts : {A : Type 0} (F : A → Type 0) (xs : List A) (x : A) (ys : List A) → ys ≡ xs ++ x ∷ [] → All F ys
    → All F xs × F x
all_parts F xs x ys e h = let h' : All F (xs ++ x ∷ []) = subst (All F) e h in (
  (λ k d l. subst F (get_or_append_left xs (x ∷ []) d k l) (h' k d (omega (arith, length-append xs (x ∷ []))))),
  subst F (get_or-append_seam xs x [] x) (h' (length xs) x (omega (arith, length-append xs (x ∷ [])))),
)

module _ {T : Type 0} (packet_at : ℕ → ℕ → Option T) (count : ℕ) where
  pub knows_both : (v w : SeatData T) → Knows packet_at count v → Knows packet_at count w
      → Knows packet_at count (combined v w)
  knows_both v w p q = record {
    holds = ap (λ l. l ++ w.held) p.holds ∙ q.holds;
    owes = ap (λ l. l ++ w.owed) p.owes ∙ q.owes;
    passed = λ i l. let a = items-append i v.passed w.passed in let b = p.passed i l in omega arith;
    brought = λ i a x has. ⊎_elim (p.brought i a x) (q.brought i a x) (has-append (i, a, x) v.done w.done has);
    missed = λ i a some z. let t = triples-append i a v.done w.done in let k = pairs-append i a v.tried w.tried in
        ⊎_elim (λ l. p.missed i a l (omega arith)) (λ l. q.missed i a l (omega arith))
        (either (pairs i a v.tried) (pairs i a w.tried) (omega arith));
  }

  pub first_found : (v : SeatData T) → Knows packet_at count v → (i n : ℕ) (h : Option T) → Settled v i h n
      → IsFirst (packet_at i) v.tries h n
  first_found v p i n (Some x) s = (
    s.0,
    s.6,
    s.2,
    p.brought i s.0 x s.1,
    λ b l. let t : pairs i b v.tried ≡ 1 = s.5 b ∙ ap one (lt-ltb b n (omega (arith, s.2))) in
        let d : triples i b v.done ≡ 0 = s.4 b ∙ ap one (ne_eqb s.0 b (λ e. omega arith)) in
        p.missed i b (omega arith) d,
  )
  first_found v p i n None s = (
    s.2,
    λ b l. let t : pairs i b v.tried ≡ 1 = s.3 b ∙ ap one (lt-ltb b n (omega (arith, s.2))) in
        p.missed i b (omega arith) (s.1 b),
  )

  -- the seats of all that have worked, joined into one
  pub knows_all : (board : BoardTerms) (v : SeatData T) (vs : List (SeatData T)) → Knows packet_at count v
      → All (λ u. HasWorked packet_at count board u) vs
      → Knows packet_at count (fold combined v vs) × ((fold combined v vs).shares ≡ v.shares + length vs)
  knows_all board v [] k all = (k, omega arith)
  knows_all board v (w ∷ ws) k all =
      let one = All-head (λ u. HasWorked packet_at count board u) w ws all in
      let rest = knows_all board (combined v w) ws (knows_both v w k one.knows)
      (All-tail (λ u. HasWorked packet_at count board u) w ws all) in
      let sum = rest.1 in
      let share = one.share in (rest.0, omega arith)

  -- of all seats the last was taken, and the others were joined into it
  pub team_knows : (board : BoardTerms) (all vs : List (SeatData T)) (v s : SeatData T) → all ≡ vs ++ v ∷ []
      → All (λ u. HasWorked packet_at count board u) all → s ≡ fold combined v vs
      → Knows packet_at count s × (s.shares ≡ length all)
  team_knows board all vs v s last each joined =
      let parts = all_parts (λ u. HasWorked packet_at count board u) vs v all last each in
      let whole = knows_all board v vs parts.1.knows parts.0 in
      let sum = whole.1 in
      let one = parts.1.share in
      let long = ap length last in
      let ends = length-append vs (v ∷ []) in
      subst (λ u. Knows packet_at count u × (u.shares ≡ length all)) (sym joined) (whole.0, omega arith)

module _ {T : Type 0} (packet_at : ℕ → ℕ → Option T) (count : ℕ) where
  -- what became of the items is for each what its first attempt brings that brings anything
  pub first_all : {E : Type 0} (n tries : ℕ) (v : SeatData T) → Knows packet_at count v → n ≡ count → v.tries ≡ tries
      → (r : Result (Outcome T) E)
      → IfOk r (λ o. (i : ℕ) → i < n → Settled v i (get_or o.values.items i None) (get_or o.attempts.items i 0))
      → IfOk r
      (λ o. (i : ℕ) → i < count
      → IsFirst (packet_at i) tries (get_or o.values.items i None) (get_or o.attempts.items i 0))
  first_all n tries v k same is (Ok o) h = λ i l. subst
      (λ m. IsFirst (packet_at i) m (get_or o.values.items i None) (get_or o.attempts.items i 0)) is
      (first_found packet_at count v k i (get_or o.attempts.items i 0) (get_or o.values.items i None)
      (h i (omega arith)))
  first_all n tries v k same is (Err e) h = tt
