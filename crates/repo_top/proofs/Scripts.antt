-- Scripts that are written text by text.
use Rattle.std.proofs.Common.{◌≡◌, ℕ, zero, suc, ◌+◌, ◌<◌, ◌≤◌, ◌≢◌, List, [], ◌∷◌, ◌++◌, length, Option, None, refl}
use Rattle.std.proofs.Common.{sym, subst, arith, inl, inr}
use Rattle.std.proofs.KnownBytes.{Appends-trans}
use Rattle.std.proofs.lemmas.Bool.Decides.{leb_tells}
use Rattle.repo_io.specs.Outside.{GainsText, GainsPrefix}
use Rattle.repo_top.specs.Forms.{gen_of}
use Rattle.repo_top.specs.Generator.{next_state, generator_state, texts}
use Rattle.repo_io.proofs.Outputs.{prefix_after, prefix_longer, prefix_whole, nothing_gained}

-- five texts that are written one after another, and the prefixes that faults leave
module _ {Short : Type 0} (a b : Option (List ℕ)) (v w x y z : List ℕ) where
  pub fourth_prefix : GainsPrefix a b (v ++ w ++ x ++ y) Short → GainsPrefix a b (v ++ w ++ x ++ y ++ z) Short
  fourth_prefix f = prefix_longer a b (v ++ w ++ x ++ y) z f

  pub third_prefix : GainsPrefix a b (v ++ w ++ x) Short → GainsPrefix a b (v ++ w ++ x ++ y ++ z) Short
  third_prefix f = fourth_prefix (prefix_longer a b (v ++ w ++ x) y f)

  pub second_prefix : GainsPrefix a b (v ++ w) Short → GainsPrefix a b (v ++ w ++ x ++ y ++ z) Short
  second_prefix f = third_prefix (prefix_longer a b (v ++ w) x f)

  pub first_prefix : GainsPrefix a b v Short → GainsPrefix a b (v ++ w ++ x ++ y ++ z) Short
  first_prefix f = second_prefix (prefix_longer a b v w f)

-- a prefix of fewer texts is one of more
pub prefix_of_texts : {Short : Type 0} (a b : Option (List ℕ)) (text : ℕ → List ℕ) (k n : ℕ) → k ≤ n
    → GainsPrefix a b (texts text k) Short → GainsPrefix a b (texts text n) Short
unfolding texts
prefix_of_texts {Short} a b text k zero le f =
    let e : k ≡ zero = omega (arith, le) in subst (λ (i : ℕ). GainsPrefix a b (texts text i) Short) e f
prefix_of_texts {Short} a b text k (suc n) le f =
    elim (leb_tells k n) [
      | inl few ↦ prefix_longer a b (texts text n) (text (suc n)) (prefix_of_texts a b text k n few.1 f)
      | inr more ↦
          let e : k ≡ suc n = omega (arith, le, more.1) in
          subst (λ (i : ℕ). GainsPrefix a b (texts text i) Short) e f
    ]

module _ (text : ℕ → List ℕ) where
  pub no_texts : (a : Option (List ℕ)) → GainsText a a (texts text 0)
  unfolding texts
  no_texts a = nothing_gained a

  texts_more : (k : ℕ) → texts text (k + 1) ≡ texts text k ++ text (k + 1)
  unfolding texts
  texts_more k = let e : k + 1 ≡ suc k = omega arith in rw e refl

  pub one_text_more : (a b d : Option (List ℕ)) (k : ℕ) → GainsText a b (texts text k) → GainsText b d (text (k + 1))
      → GainsText a d (texts text (k + 1))
  one_text_more a b d k p q =
      subst (GainsText a d) (sym (texts_more k)) (Appends-trans a b d (texts text k) (text (k + 1)) p q)

  pub prefix_so_many : {Short : Type 0} (a b : Option (List ℕ)) (k n : ℕ) → k ≤ n → (Short → ⊥)
      → GainsText a b (texts text k) → GainsPrefix a b (texts text n) Short
  prefix_so_many a b k n le whole p = prefix_of_texts a b text k n le (prefix_whole a b (texts text k) whole p)

  pub prefix_in_next : {Short : Type 0} (a b d : Option (List ℕ)) (k n : ℕ) → k < n → GainsText a b (texts text k)
      → GainsPrefix b d (text (k + 1)) Short → GainsPrefix a d (texts text n) Short
  prefix_in_next {Short} a b d k n lt p f =
      let one = prefix_after a b d (texts text k) (text (k + 1)) p f in
      prefix_of_texts a d text (k + 1) n (omega (arith, lt))
      (subst (λ (t : List ℕ). GainsPrefix a d t Short) (sym (texts_more k)) one)

pub state_more : (seed k : ℕ) → generator_state seed (k + 1) ≡ next_state (generator_state seed k)
unfolding generator_state
state_more seed k = let e : k + 1 ≡ suc k = omega arith in rw e refl

-- words that are not four ask for no script
pub no_script : (words : List (List ℕ)) → length words ≢ 4 → gen_of words ≡ None
no_script [] other = refl
no_script (a ∷ []) other = refl
no_script (a ∷ b ∷ []) other = refl
no_script (a ∷ b ∷ d ∷ []) other = refl
no_script (a ∷ b ∷ d ∷ e ∷ []) other = absurd (other refl)
no_script (a ∷ b ∷ d ∷ e ∷ f ∷ words) other = refl
