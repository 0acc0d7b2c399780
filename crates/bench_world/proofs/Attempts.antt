-- The first attempt that brings something, where all attempts that pass bring the same.
use Rattle.std.proofs.Common.{◌≡◌, ℕ, suc, zero, ◌+◌, ◌<◌, Bool, true, false, cond, Option, Some, None, refl, sym, ap}
use Rattle.std.proofs.Common.{◌∙◌, arith}
use Rattle.std.specs.Prelude.{is_some, unwrap_or, find}
use Rattle.std.proofs.lemmas.Option.{none-some}
use Rattle.sorted_lists.specs.Range.{numbers_from}
use Rattle.fetch_work.specs.Teams.{IsFirst}

-- ---- the first number that passes

find_first : (p : ℕ → Bool) (s n a : ℕ) → a < n → p (s + a) ≡ true → ((b : ℕ) → b < a → p (s + b) ≡ false)
    → find p (numbers_from s n) ≡ Some (s + a)
find_first p s zero a l hit miss = absurd (omega (arith, l))
find_first p s (suc n) zero l hit miss =
    let e : s + 0 ≡ s = omega arith in
    ap (λ (c : Bool). cond c (Some s) (find p (numbers_from (s + 1) n))) (sym (ap p e) ∙ hit)
    ∙ ap (λ (k : ℕ). Some k) (sym e)
find_first p s (suc n) (suc a) l hit miss =
    let e : s + 0 ≡ s = omega arith in
    let f : (s + 1) + a ≡ s + suc a = omega arith in
    ap (λ (c : Bool). cond c (Some s) (find p (numbers_from (s + 1) n))) (sym (ap p e) ∙ miss 0 (omega arith))
    ∙ find_first p (s + 1) n a (omega (arith, l)) (ap p f ∙ hit)
    (λ b m. let k : (s + 1) + b ≡ s + suc b = omega arith in ap p k ∙ miss (suc b) (omega (arith, m)))
    ∙ ap (λ (k : ℕ). Some k) f

find_none : (p : ℕ → Bool) (s n : ℕ) → ((b : ℕ) → b < n → p (s + b) ≡ false) → find p (numbers_from s n) ≡ None
find_none p s zero miss = refl
find_none p s (suc n) miss =
    let e : s + 0 ≡ s = omega arith in
    ap (λ (c : Bool). cond c (Some s) (find p (numbers_from (s + 1) n))) (sym (ap p e) ∙ miss 0 (omega arith))
    ∙ find_none p (s + 1) n
    (λ b m. let k : (s + 1) + b ≡ s + suc b = omega arith in ap p k ∙ miss (suc b) (omega (arith, m)))

-- ---- attempts

module _ {T : Type 0} (f : ℕ → Option T) (tries : ℕ) where
  -- If no attempt brings anything, all `tries` attempts are made.
  pub none_comes : (part : Option T) (n : ℕ) → ((b : ℕ) → f b ≡ None) → IsFirst f tries part n
      → (part ≡ None) × (n ≡ tries)
  none_comes None n none h = (refl, h.0)
  none_comes (Some x) n none h = absurd (none-some x (sym (none h.0) ∙ h.3))

  module _ (p : ℕ → Bool) (c : T) (each : (b : ℕ) → f b ≡ cond (p (b + 1)) (Some c) None) where
    passed_one : (b : Bool) (x : T) → cond b (let o : Option T = Some c in o) None ≡ Some x → (b ≡ true) × (x ≡ c)
    passed_one true x e = let same : c ≡ x = cc in (refl, sym same)
    passed_one false x e = absurd (none-some x e)

    missed_one : (b : Bool) → cond b (let o : Option T = Some c in o) None ≡ None → b ≡ false
    missed_one true e = absurd (none-some c (sym e))
    missed_one false e = refl

    missed : (b : ℕ) → f b ≡ None → p (1 + b) ≡ false
    missed b e = let k : 1 + b ≡ b + 1 = omega arith in ap p k ∙ missed_one (p (b + 1)) (sym (each b) ∙ e)

    -- Where all attempts that pass bring the same, the first one that passes brings it.
    pub some_comes : (part : Option T) (n : ℕ) → IsFirst f tries part n
        → (part ≡ cond (is_some (find p (numbers_from 1 tries))) (Some c) None)
        × (n ≡ unwrap_or (find p (numbers_from 1 tries)) tries)
    some_comes None n h =
        let none : find p (numbers_from 1 tries) ≡ None = find_none p 1 tries (λ b l. missed b (h.1 b l)) in (
          sym (ap (λ (o : Option ℕ). cond (is_some o) (let x : Option T = Some c in x) None) none),
          h.0 ∙ sym (ap (λ (o : Option ℕ). unwrap_or o tries) none),
        )
    some_comes (Some x) n h =
        let hit = passed_one (p (h.0 + 1)) x (sym (each h.0) ∙ h.3) in
        let k : 1 + h.0 ≡ h.0 + 1 = omega arith in
        let found : find p (numbers_from 1 tries) ≡ Some (1 + h.0) =
        find_first p 1 tries h.0 h.1 (ap p k ∙ hit.0) (λ b l. missed b (h.4 b l)) in
        let value : Some x ≡ Some c = ap (λ (y : T). Some y) hit.1 in (
          value ∙ sym (ap (λ (o : Option ℕ). cond (is_some o) (let y : Option T = Some c in y) None) found),
          h.2 ∙ sym k ∙ sym (ap (λ (o : Option ℕ). unwrap_or o tries) found),
        )
