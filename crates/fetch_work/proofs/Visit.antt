-- A visit of an item keeps what a worker's seat knows.
use Rattle.std.proofs.Common.{◌≡◌, ⊎_elim, ℕ, ◌<◌, ◌≤◌, eqb, ◌&&◌, Bool, true, false, List, [], ◌∷◌, length}
use Rattle.std.proofs.Common.{refl, sym, ap, subst, ◌∙◌, arith, ne_eqb}
use Rattle.std.specs.Prelude.{Option, Some, None}
use Rattle.std.proofs.lemmas.Bool.{cases_eq, true≢false}
use Rattle.fetch_board.specs.declared.taken.Taken.{Taken}
use Rattle.fetch_board.specs.declared.taken.Taken.TheVariants as taken
use Rattle.fetch_board.specs.Counts.{one, items, pairs, triples, paid, released, keep_unless}
use Rattle.fetch_board.specs.Seats.{SeatData, claimed, finished, forgone, returned}
use Rattle.fetch_board.specs.Answers.{known, met, after_claim}
use Rattle.fetch_board.proofs.Marks.{mine, own, other, item_own, newest, newest_item, paid_own, paid_less, pair_own}
use Rattle.fetch_board.proofs.Phases.{one_most}
use Rattle.fetch_work.specs.Works.{Works, Visits}

count_new : (i a : ℕ) (xs : List (ℕ × ℕ)) → pairs i a xs ≡ 0 → ((j b : ℕ) → pairs j b xs ≤ 1) → (j b : ℕ)
    → pairs j b ((i, a) ∷ xs) ≤ 1
count_new i a xs z once j b = ⊎_elim
    (λ e. ⊎_elim
    (λ f. let m = one_most (eqb i j && eqb a b) in
    let k : pairs j b xs ≡ 0 = subst (λ y. pairs y b xs ≡ 0) (sym e) (subst (λ y. pairs i y xs ≡ 0) (sym f) z) in
    omega arith)
    (λ ne. let h : one (eqb i j && eqb a b) ≡ one (eqb a b) = subst (λ y. one (eqb i y && eqb a b) ≡ one (eqb a b))
    (sym e) (mine i (eqb a b)) in let k : one (eqb a b) ≡ 0 = ap one (ne_eqb a b (λ q. ne (sym q))) in
    let m = once j b in omega arith)
    (cases_eq b a))
    (λ ne. let h = other i j (eqb a b) ne in let m = once j b in omega arith) (cases_eq j i)

let_go : (i a : ℕ) (xs : List (ℕ × ℕ)) → xs ≡ [] → released i ((i, a) ∷ xs) ≡ []
let_go i a xs e = ap (λ b. keep_unless b (i, a) (released i xs)) (own i) ∙ ap (released i) e

module _ {T : Type 0} (packet_at : ℕ → ℕ → Option T) (count : ℕ) (tries : ℕ) where
  -- what was seen and learnt doesn't count
  hidden : (v : SeatData T) → Works packet_at count tries v → Works packet_at count tries (known v)
  hidden v h = record {
    holds = h.holds;
    owes = h.owes;
    once = h.once;
    within = h.within;
    brought = h.brought;
    missed = h.missed;
  }

  shown : (v : SeatData T) → Works packet_at count tries (known v) → Works packet_at count tries v
  shown v h = record {
    holds = h.holds;
    owes = h.owes;
    once = h.once;
    within = h.within;
    brought = h.brought;
    missed = h.missed;
  }

  visits_known : (i : ℕ) (v w : SeatData T) (gave : Bool) → Visits packet_at count tries i (known v) gave (known w)
      → Visits packet_at count tries i v gave w
  visits_known i v w gave t =
      record {
        works = shown w t.works;
        shares = t.shares;
        passed = t.passed;
        passes = t.passes;
        grows = t.grows;
        tries_one = t.tries_one;
        owes_less = t.owes_less;
        owes_none = t.owes_none;
      }

  -- another seat has the item, or had it
  met_visits : (i : ℕ) (v : SeatData T) → Works packet_at count tries v
      → Visits packet_at count tries i v false (met i v)
  met_visits i v h =
      record {
        works = record {
          holds = h.holds;
          owes = λ j some. let less = paid_less i j v.owed in h.owes j (omega arith);
          once = h.once;
          within = h.within;
          brought = h.brought;
          missed = h.missed;
        };
        shares = refl;
        passed = item_own i (items i v.passed);
        passes = λ j. omega arith;
        grows = omega arith;
        tries_one = λ e. absurd (true≢false (sym e));
        owes_less = λ _ j. paid_less i j v.owed;
        owes_none = λ _. paid_own i v.owed;
      }

  module _ (i a : ℕ) (u : SeatData T) (near : i < count) (low : a < tries) (free : pairs i a u.tried ≡ 0)
      (h : Works packet_at count tries u) where
    within_new : (j b : ℕ) → 0 < pairs j b ((i, a) ∷ u.tried) → (j < count) × (b < tries)
    within_new j b some = ⊎_elim (λ e. (subst (λ k. k < count) (sym e.0) near, subst (λ k. k < tries) (sym e.1) low))
        (h.within j b) (newest i j a b (pairs j b u.tried) some)

    owes_paid : (j : ℕ) → 0 < items j (paid i u.owed) → j < count
    owes_paid j some = let l = paid_less i j u.owed in h.owes j (omega arith)

    works_some : (x : T) → packet_at i a ≡ Some x → Works packet_at count tries (finished i a x (claimed i a u))
    works_some x is = record {
      holds = let_go i a u.held h.holds;
      owes = owes_paid;
      once = count_new i a u.tried free h.once;
      within = within_new;
      brought = λ j b y has. ⊎_elim
          (λ (e : (i, a, x) ≡ (j, b, y)). subst (λ (t : ℕ × ℕ × T). packet_at t.0 t.1 ≡ Some t.2) e is)
          (h.brought j b y) has;
      missed = λ j b some z. ⊎_elim
          (λ e. let k = pair_own i a (triples i a u.done) in
          let z' : triples i a ((i, a, x) ∷ u.done) ≡ 0 = subst (λ y. triples y a ((i, a, x) ∷ u.done) ≡ 0) e.0
          (subst (λ y. triples j y ((i, a, x) ∷ u.done) ≡ 0) e.1 z) in absurd (omega arith))
          (λ old. h.missed j b old (omega arith)) (newest i j a b (pairs j b u.tried) some);
    }

    missed_new : packet_at i a ≡ None → (j b : ℕ) → 0 < pairs j b ((i, a) ∷ u.tried) → triples j b u.done ≡ 0
        → packet_at j b ≡ None
    missed_new is j b some z = ⊎_elim
        (λ e. subst (λ k. packet_at k b ≡ None) (sym e.0) (subst (λ k. packet_at i k ≡ None) (sym e.1) is))
        (λ old. h.missed j b old z) (newest i j a b (pairs j b u.tried) some)

    works_forgone : packet_at i a ≡ None → Works packet_at count tries (forgone i (claimed i a u))
    works_forgone is = record {
      holds = let_go i a u.held h.holds;
      owes = owes_paid;
      once = count_new i a u.tried free h.once;
      within = within_new;
      brought = h.brought;
      missed = missed_new is;
    }

    works_returned : packet_at i a ≡ None → Works packet_at count tries (returned i (claimed i a u))
    works_returned is = record {
      holds = let_go i a u.held h.holds;
      owes = λ j some. ⊎_elim (λ e. subst (λ k. k < count) (sym e) near) (owes_paid j)
          (newest_item i j (items j (paid i u.owed)) some);
      once = count_new i a u.tried free h.once;
      within = within_new;
      brought = h.brought;
      missed = missed_new is;
    }

    -- the item was claimed and let go for good
    ended : (w : SeatData T) → Works packet_at count tries w → w.passed ≡ i ∷ u.passed → w.shares ≡ u.shares
        → w.tried ≡ (i, a) ∷ u.tried → w.owed ≡ paid i u.owed → Visits packet_at count tries i u false w
    ended w works passed shares tried owed =
        record {
          works = works;
          shares = shares;
          passed = subst (λ xs. 0 < items i xs) (sym passed) (item_own i (items i u.passed));
          passes = λ j. subst (λ xs. items j u.passed ≤ items j xs) (sym passed) (omega arith);
          grows = subst (λ xs. length u.tried ≤ length xs) (sym tried) (omega arith);
          tries_one = λ e. absurd (true≢false (sym e));
          owes_less = λ _ j. subst (λ xs. items j xs ≤ items j u.owed) (sym owed) (paid_less i j u.owed);
          owes_none = λ _. ap (items i) owed ∙ paid_own i u.owed;
        }

    pub visit_some : (x : T) → packet_at i a ≡ Some x
        → Visits packet_at count tries i u false (finished i a x (claimed i a u))
    visit_some x is = ended (finished i a x (claimed i a u)) (works_some x is) refl refl refl refl

    pub visit_last : packet_at i a ≡ None → Visits packet_at count tries i u false (forgone i (claimed i a u))
    visit_last is = ended (forgone i (claimed i a u)) (works_forgone is) refl refl refl refl

    pub visit_lost : packet_at i a ≡ None → Visits packet_at count tries i u true (returned i (claimed i a u))
    visit_lost is =
        record {
          works = works_returned is;
          shares = refl;
          passed = item_own i (items i u.passed);
          passes = λ j. omega arith;
          grows = omega arith;
          tries_one = λ _. omega arith;
          owes_less = λ e. absurd (true≢false e);
          owes_none = λ e. absurd (true≢false e);
        }

  -- what a visit makes of the seat v, which after the claim is u
  module _ (i : ℕ) (v u : SeatData T) (h : Works packet_at count tries v) where
    pub visit_missed : (answer : Taken) → ((a : ℕ) → answer ≡ taken.Yes a → ⊥)
        → known u ≡ after_claim i answer (known v) → Visits packet_at count tries i v false u
    visit_missed (taken.Yes a) miss is = absurd (miss a refl)
    visit_missed taken.Held miss is = visits_known i v u false
        (subst (Visits packet_at count tries i (known v) false) (sym is) (met_visits i (known v) (hidden v h)))
    visit_missed taken.Done miss is = visits_known i v u false
        (subst (Visits packet_at count tries i (known v) false) (sym is) (met_visits i (known v) (hidden v h)))
    visit_missed taken.Spent miss is = visits_known i v u false
        (subst (Visits packet_at count tries i (known v) false) (sym is) (met_visits i (known v) (hidden v h)))

    -- and at the end w
    module _ (w : SeatData T) (a : ℕ) (near : i < count) (low : a < tries) (free : pairs i a v.tried ≡ 0)
        (is : known u ≡ claimed i a (known v)) where
      pub visit_finished : (x : T) → packet_at i a ≡ Some x → w ≡ finished i a x u
          → Visits packet_at count tries i v false w
      visit_finished x came e = visits_known i v w false
          (subst (Visits packet_at count tries i (known v) false) (sym (ap known e ∙ ap (finished i a x) is))
          (visit_some i a (known v) near low free (hidden v h) x came))

      pub visit_forgone : packet_at i a ≡ None → w ≡ forgone i u → Visits packet_at count tries i v false w
      visit_forgone lost e = visits_known i v w false
          (subst (Visits packet_at count tries i (known v) false) (sym (ap known e ∙ ap (forgone i) is))
          (visit_last i a (known v) near low free (hidden v h) lost))

      pub visit_returned : packet_at i a ≡ None → w ≡ returned i u → Visits packet_at count tries i v true w
      visit_returned lost e = visits_known i v w true
          (subst (Visits packet_at count tries i (known v) true) (sym (ap known e ∙ ap (returned i) is))
          (visit_lost i a (known v) near low free (hidden v h) lost))
