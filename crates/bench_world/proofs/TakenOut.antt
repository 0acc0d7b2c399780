-- A member or a mirror that is taken out of a group and put back, changed or not, and the others.
use Rattle.std.proofs.Common.{◌≡◌, ◌≢◌, inl, inr, ℕ, suc, zero, ◌+◌, ◌-◌, ◌<◌, ◌==◌, Bool, false, cond, List, [], ◌∷◌}
use Rattle.std.proofs.Common.{length, get_or, set, Some, None, refl, sym, ap, subst, ◌∙◌, arith}
use Rattle.std.specs.Prelude.{nat_lt}
use Rattle.std.specs.List.{remove, insert}
use Rattle.std.proofs.lemmas.Bool.{cases_eq, cases_lt, eq-eqb, lt-ltb, eqb-true, false_from_ne_true, ltb-true}
use Rattle.std.proofs.lemmas.List.{set-get_or, get_or-set_same}
use Rattle.std.proofs.lemmas.List.Edits.{get_or-remove_below, get_or-remove_above}
use Rattle.repo_member.specs.MemberState.{MemberState}
use Rattle.bench_world.specs.Worlds.{nobody, state_at}
use Rattle.bench_world.specs.Others.{place_among_others, other_at}
use Rattle.bench_world.specs.Answering.{lender_of}

module _ {A : Type 0} where
  same_place : (ms : List A) (j : ℕ) (x : A) → j < length ms → insert (remove ms j) j x ≡ set ms j x
  same_place [] j x l = absurd (omega (arith, l))
  same_place (m ∷ ms) zero x l = refl
  same_place (m ∷ ms) (suc j) x l = ap (λ (xs : List A). m ∷ xs) (same_place ms j x (omega (arith, l)))

  -- An element that was taken out and is put back, changed, is set in its place.
  pub put_in : (ms mid new : List A) (j : ℕ) (x : A) → j < length ms → mid ≡ remove ms j → new ≡ insert mid j x
      → new ≡ set ms j x
  put_in ms mid new j x l a b = b ∙ ap (λ (xs : List A). insert xs j x) a ∙ same_place ms j x l

  module _ (none : A) (ms mid new : List A) (j : ℕ) (x : A) (there : j < length ms) (taken : mid ≡ remove ms j)
      (put : new ≡ insert mid j x) where
    -- The element that is put back stands where it stood, and the others as they did.
    pub put_at : get_or new j none ≡ x
    put_at =
        ap (λ (xs : List A). get_or xs j none) (put_in ms mid new j x there taken put)
        ∙ get_or-set_same ms j x none there

    pub put_changed : new ≡ set ms j (get_or new j none)
    put_changed = put_in ms mid new j x there taken put ∙ ap (set ms j) (sym put_at)

    -- If it is put back unchanged, the list is as it was.
    pub put_back : x ≡ get_or ms j none → new ≡ ms
    put_back same = put_in ms mid new j x there taken put ∙ ap (set ms j) same ∙ set-get_or ms j none

    -- What holds of it as it was taken and as it is put back holds of its place before and after.
    pub put_between : (y : A) (P : A → A → Type 0) → y ≡ get_or ms j none → P y x
        → P (get_or ms j none) (get_or new j none)
    put_between y P was p =
        subst (λ (b : A). P (get_or ms j none) b) (sym put_at) (subst (λ (a : A). P a x) was p)

module _ (ms others : List MemberState) (j : ℕ) (there : j < length ms) (are : others ≡ remove ms j) where
  -- The others stand where they stood, or one place before.
  pub others_at : (i : ℕ) → i ≢ j → state_at others (place_among_others j i) ≡ state_at ms i
  others_at i apart = ap (λ (xs : List MemberState). state_at xs (place_among_others j i)) are ∙ elim (cases_lt i j) [
    | inl below ↦
        ap (λ (b : Bool). state_at (remove ms j) (cond b i (i - 1))) (lt-ltb i j below)
        ∙ get_or-remove_below ms j nobody i below there
    | inr above ↦
        let not_below : nat_lt i j ≡ false =
        false_from_ne_true (nat_lt i j) (λ h. let l : i < j = ltb-true i j h in omega (arith, l, above)) in
        let next : (i - 1) + 1 ≡ i = omega (arith, above, apart) in
        ap (λ (b : Bool). state_at (remove ms j) (cond b i (i - 1))) not_below
        ∙ get_or-remove_above ms j nobody (i - 1) (omega (arith, above, apart)) there ∙ ap (state_at ms) next
  ]

  -- The member that is asked is the one of the number, also if it is the one that was taken out.
  pub lender_is : (i : ℕ) (x : MemberState) → x ≡ state_at ms j → lender_of x (other_at j others i) ≡ state_at ms i
  lender_is i x x_is = elim (cases_eq i j) [
    | inl same ↦
        ap (λ (b : Bool). lender_of x (cond b None (Some (state_at others (place_among_others j i))))) (eq-eqb i j same)
        ∙ x_is
        ∙ ap (state_at ms) (sym same)
    | inr apart ↦
        ap (λ (b : Bool). lender_of x (cond b None (Some (state_at others (place_among_others j i)))))
        (false_from_ne_true (i == j) (λ h. apart (eqb-true i j h)))
        ∙ others_at i apart
  ]
