-- What the one seat with every share knows at the end.
use Rattle.std.proofs.Common.{◌≡◌, ◌≢◌, ◌⊎◌, inl, inr, ⊎_elim, ℕ, zero, suc, ◌+◌, ◌*◌, ◌/◌, ◌<◌, eqb, List, [], ◌∷◌}
use Rattle.std.proofs.Common.{length, get_or, set, refl, sym, ap, subst, ◌∙◌, arith}
use Rattle.std.specs.Prelude.{Option, Some, None}
use mathlib.Core.Option.{some, some-injective, some-ne-none}
use lib.ListN.{get_elem?}
use Rattle.atomic_table.specs.Table.{Seen, Final}
use Rattle.fetch_board.specs.declared.seat_knowledge.SeatKnowledge.{SeatKnowledge}
use Rattle.fetch_board.specs.Counts.{one, items, pairs, triples, total}
use Rattle.fetch_board.specs.Rule.{Phase, wanted, held, placing, done, spent, code, Within, Mark, holds, places}
use Rattle.fetch_board.specs.Rule.{finished, spends, tried, entries_due, IsWanted, phase, marks, Lies, founder, Kept}
use Rattle.fetch_board.specs.Seats.{BoardId, SeatData}
use Rattle.fetch_board.specs.Answers.{Settled}
use Rattle.fetch_board.specs.Steps.{data_of}
use Rattle.fetch_board.proofs.Totals.{total_set}
use Rattle.fetch_board.proofs.Marks.{own, found_triple}
use Rattle.fetch_board.proofs.Moves.{St, each_view}
use Rattle.fetch_board.proofs.Phases.{found}
use Rattle.fetch_board.proofs.Ends.{there}
use Rattle.fetch_board.proofs.Seats.{none_of}

at_below : {A : Type 0} (xs : List A) (i : ℕ) (x : A) → get_elem? xs i ≡ some x → i < length xs
at_below [] i x e = absurd (some-ne-none x (sym e))
at_below (y ∷ ys) zero x e = omega arith
at_below (y ∷ ys) (suc i) x e = let h = at_below ys i x e in omega arith

at_or : {A : Type 0} (xs : List A) (i : ℕ) (x d : A) → get_elem? xs i ≡ some x → get_or xs i d ≡ x
at_or [] i x d e = absurd (some-ne-none x (sym e))
at_or (y ∷ ys) zero x d e = some-injective y x e
at_or (y ∷ ys) (suc i) x d e = at_or ys i x d e

module _ {T : Type 0} where
  -- where no seat has a share, nothing is known
  all_idle : (f : SeatKnowledge T → ℕ) → f (founder 0 0) ≡ 0 → (vs : List (SeatKnowledge T)) → total (λ v. v.shares) vs
      ≡ 0
      → ((k : ℕ) (u : SeatKnowledge T) → get_elem? vs k ≡ some u → u.shares ≡ 0 → u ≡ founder 0 0) → total f vs ≡ 0
  all_idle f z [] zero_sum idle = refl
  all_idle f z (v ∷ vs) zero_sum idle = let is : f v ≡ f (founder 0 0) = ap f (idle 0 v refl (omega arith)) in
      let rest = all_idle f z vs (omega arith) (λ k u e. idle (suc k) u e) in omega arith

module _ {T : Type 0} (tries seats : ℕ) (s : St T) (r : Kept tries seats s) (id : ℕ) (v : SeatKnowledge T)
    (at : get_elem? s.views id ≡ some v) (tries_known : v.tries ≡ tries) (every : v.shares ≡ seats) (b : BoardId) where
  -- the others know nothing
  alone : (f : SeatKnowledge T → ℕ) → f (founder 0 0) ≡ 0 → total f s.views ≡ f v
  alone f z = let gone : SeatKnowledge T = founder 0 0 in let vs : List (SeatKnowledge T) = set s.views id gone in
      let a = total_set (λ u. u.shares) s.views id v gone at in let c = r.shared in
      let i = each_view tries seats s.views id gone (λ u. u.shares ≡ 0 → u ≡ founder 0 0) (λ _. refl) r.idle in
      let b = all_idle f z vs (omega arith) i in let d = total_set f s.views id v gone at in omega arith

  all_mine : (i : ℕ) (m : Mark) → marks v i m ≡ entries_due tries (phase r.phases i) m
  all_mine i m = sym (alone (λ u. marks u i m) (none_of T 0 0 i m)) ∙ r.counted i m

  module _ (i : ℕ) (holds_none : v.held ≡ []) (places_none : v.placing ≡ []) (owes_none : v.owed ≡ [])
      (passed : 0 < items i v.passed) where
    ended : (p : Phase) → phase r.phases i ≡ p → ((a : ℕ) × (p ≡ done a)) ⊎ (p ≡ spent)
    ended (wanted a) is =
        let all : total (λ u. items i u.passed) s.views ≡ items i v.passed = alone (λ u. items i u.passed) refl in
        let owed : total (λ u. items i u.owed) s.views ≡ items i v.owed = alone (λ u. items i u.owed) refl in
        let z : items i v.owed ≡ 0 = ap (items i) owes_none in
        let c = r.owes i (subst IsWanted (sym is) tt) (omega arith) in absurd (omega arith)
    ended (held a) is = let c : pairs i a v.held ≡ entries_due tries (held a) (holds a) = all_mine i (holds a)
        ∙ ap (λ p. entries_due tries p (holds a)) is in let z : pairs i a v.held ≡ 0 = ap (pairs i a) holds_none in
        let o : one (eqb a a) ≡ 1 = ap one (own a) in absurd (omega arith)
    ended (placing a) is =
        let c : pairs i a v.placing ≡ entries_due tries (placing a) (places a) = all_mine i (places a)
        ∙ ap (λ p. entries_due tries p (places a)) is in let z : pairs i a v.placing ≡ 0 = ap (pairs i a) places_none in
        let o : one (eqb a a) ≡ 1 = ap one (own a) in absurd (omega arith)
    ended (done a) is = inl (a, refl)
    ended spent is = inr refl

    at_done : (a : ℕ) → phase r.phases i ≡ done a
        → (x : T) × Settled (data_of b v) i (Some x) (a + 1) × (get_elem? s.homes i ≡ some (some (Some x)))
    at_done a is =
        let mine : (m : Mark) → marks v i m ≡ entries_due tries (done a) m =
        λ m. all_mine i m ∙ ap (λ p. entries_due tries p m) is in
        let o : one (eqb a a) ≡ 1 = ap one (own a) in
        let c : triples i a v.done ≡ one (eqb a a) = mine (finished a) in
        let f = found_triple i a v.done (omega arith) in
        let low : a < tries = subst (Within tries) is (r.within i) in (
          f.0,
          (
            a,
            f.1,
            refl,
            mine spends,
            (λ k. mine (finished k)),
            (λ k. mine (tried k)),
            subst (λ n. a < n) (sym tries_known) low,
          ),
          r.values id v at i a f.0 f.1,
        )

    at_spent : phase r.phases i ≡ spent → Settled (data_of b v) i None tries
    at_spent is =
        let mine : (m : Mark) → marks v i m ≡ entries_due tries spent m =
        λ m. all_mine i m ∙ ap (λ p. entries_due tries p m) is in
        (mine spends, (λ k. mine (finished k)), sym tries_known, λ k. mine (tried k))

module _ {T : Type 0} (tries seats id : ℕ) (v : SeatKnowledge T) (ws : List ℕ) (xs : List (Option T))
    (b : BoardId) where
  -- what the word n and the place's value h say of an item at the end
  pub closes : Final (Seen (Kept tries seats) id v) ws xs → v.tries ≡ tries → v.shares ≡ seats → v.held ≡ []
      → v.placing ≡ [] → v.owed ≡ []
      → (i n : ℕ) (h : Option T) → 0 < items i v.passed → get_elem? ws i ≡ some n → get_elem? xs i ≡ some h
      → ((n ≡ 3) × Settled (data_of b v) i h tries)
      ⊎ ((n ≢ 3) × (n / 4 < tries) × Settled (data_of b v) i h (n / 4 + 1))
  closes fin tries_known every hs ps os i n h passed word value =
      let s : St T = fin.0 in
      let r : Kept tries seats s = fin.1.0 in
      let at = fin.1.1 in
      let p : Phase = phase r.phases i in
      let d : SeatData T = data_of b v in
      let near : i < length s.homes = subst (λ k. i < k) (sym fin.3) (at_below xs i h value) in
      let is_n : code p ≡ n = sym (found tries seats s r i) ∙ (ap (λ l. get_or l i 0) fin.2 ∙ at_or ws i n 0 word) in
      ⊎_elim
      (λ e.
      let a : ℕ = e.0 in
      let got = at_done tries seats s r id v at tries_known every b i hs ps os passed a e.1 in
      let x : T = got.0 in
      let same : Some x ≡ h = some-injective (Some x) h (sym (fin.4 i (Some x) got.2) ∙ value) in
      let num : 4 * a + 2 ≡ n = sym (ap code e.1) ∙ is_n in
      let low : a < tries = subst (Within tries) e.1 (r.within i) in
      let quot : a ≡ n / 4 = omega arith in
      inr (
        (λ e. omega arith),
        omega arith,
        subst (λ o. Settled d i o (n / 4 + 1)) same (subst (λ k. Settled d i (Some x) (k + 1)) quot got.1),
      ))
      (λ e.
      let t = there s.homes i near in
      let none_is : t.0 ≡ some None = subst (λ q. Lies q t.0) e (r.lies i t.0 t.1) in
      let same : None ≡ h = some-injective None h (sym (fin.4 i None (t.1 ∙ ap some none_is)) ∙ value) in
      inl (
        sym is_n ∙ ap code e,
        subst (λ o. Settled d i o tries) same
            (at_spent tries seats s r id v at tries_known every b i hs ps os passed e),
      ))
      (ended tries seats s r id v at tries_known every b i hs ps os passed p refl)

  -- the same, by what `settle` says
  pub closes_at : Final (Seen (Kept tries seats) id v) ws xs → v.tries ≡ tries → v.shares ≡ seats → v.held ≡ []
      → v.placing ≡ [] → v.owed ≡ []
      → (i : ℕ) → 0 < items i v.passed → (h : Option T) → get_elem? xs i ≡ some h → (m : ℕ)
      → (n : ℕ) × (get_elem? ws i ≡ some n) × (n ≡ 3 → m ≡ tries) × (n ≢ 3 → m ≡ n / 4 + 1)
      → Settled (data_of b v) i h m
  closes_at fin tries_known every hs ps os i passed h value m tells = ⊎_elim
      (λ e. subst (Settled (data_of b v) i h) (sym (tells.2 e.0)) e.1)
      (λ e. subst (Settled (data_of b v) i h) (sym (tells.3 e.0)) e.2)
      (closes fin tries_known every hs ps os i tells.0 h passed tells.1 value)
