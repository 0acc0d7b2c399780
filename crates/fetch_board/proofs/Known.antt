-- What a seat knows except what it saw and learnt.
use Rattle.std.proofs.Common.{◌≡◌, ℕ, ◌<◌, List, [], ◌∷◌, refl, ap, sym, subst, ◌∙◌}
use Rattle.fetch_board.specs.declared.taken.Taken.{Taken}
use Rattle.fetch_board.specs.declared.taken.Taken.TheVariants as taken
use Rattle.fetch_board.specs.Counts.{pairs}
use Rattle.fetch_board.specs.Seats.{SeatData}
use Rattle.fetch_board.specs.Answers.{after_looks, Decides, Takes, known, after_claim}

module _ {T : Type 0} where
  pub known_looks : (i : ℕ) (ends : List ℕ) (v : SeatData T) → known (after_looks i ends v) ≡ known v
  known_looks i [] v = refl
  known_looks i (a ∷ ends) v = known_looks i ends v

  known_decides : (i : ℕ) (answer : Taken) (v w : SeatData T) → Decides i v answer w
      → known w ≡ after_claim i answer (known v)
  known_decides i (taken.Yes a) v w d = ap known d.2
  known_decides i taken.Held v w d = ap known d.1.learns
  known_decides i taken.Done v w d = ap known d.1.learns
  known_decides i taken.Spent v w d = ap known d.learns

  -- what is so where the claim decides after these looks
  pub known_after : (i : ℕ) (answer : Taken) (v u w : SeatData T) → (ends : List ℕ) × (u ≡ after_looks i ends v)
      → Decides i u answer w → known w ≡ after_claim i answer (known v)
  known_after i answer v u w looks d = known_decides i answer u w d
      ∙ ap (after_claim i answer) (ap known looks.1 ∙ known_looks i looks.0 v)

  -- what is so of an attempt that a claim gives
  pub given : (i a : ℕ) (v w : SeatData T) → Takes i v (taken.Yes a) w → (a < v.tries) × (pairs i a v.tried ≡ 0)
  given i a v w t =
      let same = known_looks i t.0 v in (
        subst (λ n. a < n) (ap (λ (u : SeatData T). u.tries) same) t.1.0,
        ap (λ (u : SeatData T). pairs i a u.tried) (sym same) ∙ t.1.1,
      )
