-- What comes of jobs over a link is one.
use Rattle.std.proofs.Common.{◌≡◌, ⊎_elim, ℕ, ◌+◌, List, [], ◌∷◌, refl, sym, ap, ◌∙◌}
use Rattle.std.specs.Prelude.{Option, Some, None}
use Rattle.std.proofs.lemmas.Bool.{cases_order}
use Rattle.std.proofs.lemmas.Option.{none-some}
use Rattle.ndn_sign.specs.Ring.{NamedKey}
use Rattle.repo_object.specs.declared.job.Job.{Job}
use Rattle.repo_object.specs.Wants.{WantedPart}
use Rattle.repo_object.specs.Verdict.{CheckedPart}
use Rattle.fetch_work.specs.Attempts.{packet_at}
use Rattle.fetch_work.specs.Teams.{IsFirst}
use Rattle.fetch_work.specs.Phases.{AreFirst}

module _ {T : Type 0} (f : ℕ → Option T) (tries : ℕ) where
  one_first : (h k : Option T) (n m : ℕ) → IsFirst f tries h n → IsFirst f tries k m → (h ≡ k) × (n ≡ m)
  one_first None None n m p q = (refl, p.0 ∙ sym q.0)
  one_first (Some x) None n m p q = absurd (none-some x (sym (q.1 p.0 p.1) ∙ p.3))
  one_first None (Some y) n m p q = absurd (none-some y (sym (p.1 q.0 q.1) ∙ q.3))
  one_first (Some x) (Some y) n m p q = ⊎_elim
      (λ e. (sym p.3 ∙ (ap f e ∙ q.3), p.2 ∙ (ap (λ a. a + 1) e ∙ sym q.2)))
      (λ o. ⊎_elim (λ l. absurd (none-some x (sym (q.4 p.0 l) ∙ p.3)))
      (λ l. absurd (none-some y (sym (p.4 q.0 l) ∙ q.3))) o)
      (cases_order p.0 q.0)

same_cons : {A : Type 0} (x y : A) (xs ys : List A) → x ≡ y → xs ≡ ys → x ∷ xs ≡ y ∷ ys
same_cons x y xs ys e h = λ k. e k ∷ h k

module _ (answer : WantedPart → ℕ → Option (List ℕ)) (ring : List NamedKey) (tries : ℕ) where
  pub alike : (jobs : List Job) (parts others : List (Option CheckedPart)) (ns ms : List ℕ)
      → AreFirst answer ring tries jobs parts ns → AreFirst answer ring tries jobs others ms
      → (parts ≡ others) × (ns ≡ ms)
  alike [] [] [] [] [] p q = (refl, refl)
  alike (j ∷ js) (x ∷ xs) (y ∷ ys) (n ∷ ns) (m ∷ ms) p q =
      let head = one_first (packet_at answer ring j) tries x y n m p.0 q.0 in let tail = alike js xs ys ns ms p.1 q.1 in
      (same_cons x y xs ys head.0 tail.0, same_cons n m ns ms head.1 tail.1)
  alike [] (x ∷ xs) ys ns ms p q = absurd p
  alike [] [] ys (n ∷ ns) ms p q = absurd p
  alike [] [] (y ∷ ys) [] ms p q = absurd q
  alike [] [] [] [] (m ∷ ms) p q = absurd q
  alike (j ∷ js) [] ys ns ms p q = absurd p
  alike (j ∷ js) (x ∷ xs) ys [] ms p q = absurd p
  alike (j ∷ js) (x ∷ xs) [] (n ∷ ns) ms p q = absurd q
  alike (j ∷ js) (x ∷ xs) (y ∷ ys) (n ∷ ns) [] p q = absurd q
