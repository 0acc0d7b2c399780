-- A scan, visit by visit, and a round of two scans.
use Rattle.std.proofs.Common.{◌≡◌, ◌⊎◌, inl, inr, ⊎_elim, ℕ, zero, suc, ◌+◌, ◌<◌, ◌≤◌, ◌||◌, Bool, true, false, List}
use Rattle.std.proofs.Common.{[], ◌∷◌, refl, sym, ap, subst, ◌∙◌, arith}
use Rattle.std.specs.Prelude.{Option}
use Rattle.std.proofs.lemmas.Bool.{cases_eq, true≢false}
use Rattle.fetch_board.specs.Counts.{items, pairs, Has}
use Rattle.fetch_board.specs.Seats.{SeatData}
use Rattle.fetch_board.proofs.Marks.{item_own}
use Rattle.fetch_work.specs.Works.{Works, Visits, Scans, HasNothing}

none_left : (xs : List ℕ) → ((i : ℕ) → items i xs ≡ 0) → xs ≡ []
none_left [] z = refl
none_left (x ∷ xs) z = let a = item_own x (items x xs) in let b = z x in absurd (omega arith)

none_or : (n : ℕ) → (n ≡ 0) ⊎ (0 < n)
none_or zero = inl refl
none_or (suc n) = inr (omega arith)

-- an item of a range one longer is its last or stands in front of it
last_or : (i k : ℕ) → i < k + 1 → (i ≡ k) ⊎ (i < k)
last_or i k low = ⊎_elim inl (λ ne. inr (omega arith)) (cases_eq i k)

below_or : (i k : ℕ) → (i < k) ⊎ (k ≤ i)
below_or zero zero = inr (omega arith)
below_or zero (suc k) = inl (omega arith)
below_or (suc i) zero = inr (omega arith)
below_or (suc i) (suc k) = ⊎_elim (λ l. inl (omega arith)) (λ g. inr (omega arith)) (below_or i k)

or_true : (a b : Bool) → (a || b) ≡ true → (a ≡ true) ⊎ (b ≡ true)
or_true true b e = inl refl
or_true false b e = inr e

or_false : (a b : Bool) → (a || b) ≡ false → (a ≡ false) × (b ≡ false)
or_false true b e = absurd (true≢false e)
or_false false b e = (refl, e)

module _ {T : Type 0} (packet_at : ℕ → ℕ → Option T) (count : ℕ) (tries : ℕ) where
  -- a seat with no item in any list knows nothing wrong
  pub works_from_nothing : (v : SeatData T) → HasNothing v → Works packet_at count tries v
  works_from_nothing v h =
      record {
        holds = h.held;
        owes = λ i some. let z : items i v.owed ≡ 0 = ap (items i) h.owed in absurd (omega arith);
        once = λ i a. let z : pairs i a v.tried ≡ 0 = ap (pairs i a) h.tried in omega arith;
        within = λ i a some. let z : pairs i a v.tried ≡ 0 = ap (pairs i a) h.tried in absurd (omega arith);
        brought = λ i a x has. absurd (subst (Has (i, a, x)) h.done has);
        missed = λ i a some none. let z : pairs i a v.tried ≡ 0 = ap (pairs i a) h.tried in absurd (omega arith);
      }

  pub scan_start : (lo : ℕ) (v : SeatData T) → Works packet_at count tries v
      → Scans packet_at count tries lo lo v false v
  scan_start lo v h =
      record {
        works = h;
        shares = refl;
        passed = λ i from low. absurd (omega arith);
        passes = λ j. omega arith;
        grows = omega arith;
        tries_one = λ e. absurd (true≢false (sym e));
        owes_less = λ _ j. omega arith;
        owes_none = λ _ i from low. absurd (omega arith);
      }

  -- the visit of the item k after those before it
  pub scan_next : (lo k : ℕ) (u v w : SeatData T) (gave more : Bool) → Scans packet_at count tries lo k u gave v
      → Visits packet_at count tries k v more w → Scans packet_at count tries lo (k + 1) u (gave || more) w
  scan_next lo k u v w gave more s t =
      record {
        works = t.works;
        shares = t.shares ∙ s.shares;
        passed = λ i from low. ⊎_elim (λ e. subst (λ j. 0 < items j w.passed) (sym e) t.passed)
            (λ l. let a = s.passed i from l in let b = t.passes i in omega arith) (last_or i k low);
        passes = λ j. let a = s.passes j in let b = t.passes j in omega arith;
        grows = let a = s.grows in let b = t.grows in omega arith;
        tries_one = λ e. ⊎_elim (λ f. let a = s.tries_one f in let b = t.grows in omega arith)
            (λ f. let a = s.grows in let b = t.tries_one f in omega arith) (or_true gave more e);
        owes_less = λ e j. let both = or_false gave more e in let a = s.owes_less both.0 j in
            let b = t.owes_less both.1 j in omega arith;
        owes_none = λ e i from low. let both = or_false gave more e in
            ⊎_elim (λ f. subst (λ j. items j w.owed ≡ 0) (sym f) (t.owes_none both.1))
            (λ l. let a = s.owes_none both.0 i from l in let b = t.owes_less both.1 i in omega arith)
            (last_or i k low);
      }

  -- what lies after an item, and then what lies before it, is all
  pub scan_round : (mid : ℕ) (u v w : SeatData T) (gave more : Bool) → Scans packet_at count tries mid count u gave v
      → Scans packet_at count tries 0 mid v more w → Scans packet_at count tries 0 count u (gave || more) w
  scan_round mid u v w gave more s t =
      record {
        works = t.works;
        shares = t.shares ∙ s.shares;
        passed = λ i from low. ⊎_elim (λ l. t.passed i from l)
            (λ g. let a = s.passed i g low in let b = t.passes i in omega arith) (below_or i mid);
        passes = λ j. let a = s.passes j in let b = t.passes j in omega arith;
        grows = let a = s.grows in let b = t.grows in omega arith;
        tries_one = λ e. ⊎_elim (λ f. let a = s.tries_one f in let b = t.grows in omega arith)
            (λ f. let a = s.grows in let b = t.tries_one f in omega arith) (or_true gave more e);
        owes_less = λ e j. let both = or_false gave more e in let a = s.owes_less both.0 j in
            let b = t.owes_less both.1 j in omega arith;
        owes_none = λ e i from low. let both = or_false gave more e in
            ⊎_elim (λ l. t.owes_none both.1 i from l)
            (λ g. let a = s.owes_none both.0 i g low in let b = t.owes_less both.1 i in omega arith)
            (below_or i mid);
      }

  pub rests_after : (u w : SeatData T) → Scans packet_at count tries 0 count u false w → w.owed ≡ []
  rests_after u w s = none_left w.owed
      (λ i. ⊎_elim (λ z. z) (λ some. s.owes_none refl i (omega arith) (s.works.owes i some)) (none_or (items i w.owed)))
