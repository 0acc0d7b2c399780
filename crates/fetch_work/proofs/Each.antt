-- What is so of each place of three lists is so of the lists.
use Rattle.std.proofs.Common.{◌≡◌, ℕ, suc, ◌<◌, List, [], ◌∷◌, length, get_or, arith}
use Rattle.std.specs.Prelude.{Option, None}
use Rattle.ndn_sign.specs.Ring.{NamedKey}
use Rattle.repo_object.specs.declared.job.Job.{Job}
use Rattle.repo_object.specs.Wants.{WantedPart}
use Rattle.repo_object.specs.Verdict.{CheckedPart}
use Rattle.fetch_work.specs.Attempts.{packet_at, job_at}
use Rattle.fetch_work.specs.Teams.{IsFirst}
use Rattle.fetch_work.specs.Phases.{AreFirst}

module _ (answer : WantedPart → ℕ → Option (List ℕ)) (ring : List NamedKey) (tries : ℕ) where
  pub each_first : (jobs : List Job) (parts : List (Option CheckedPart)) (ns : List ℕ) → length parts ≡ length jobs
      → length ns ≡ length jobs
      → ((i : ℕ) → i < length jobs
      → IsFirst (packet_at answer ring (job_at jobs i)) tries (get_or parts i None) (get_or ns i 0))
      → AreFirst answer ring tries jobs parts ns
  each_first [] [] [] a b h = tt
  each_first [] [] (n ∷ ns) a b h = absurd (omega arith)
  each_first [] (p ∷ ps) ns a b h = absurd (omega arith)
  each_first (j ∷ js) [] ns a b h = absurd (omega arith)
  each_first (j ∷ js) (p ∷ ps) [] a b h = absurd (omega arith)
  each_first (j ∷ js) (p ∷ ps) (n ∷ ns) a b h =
      (h 0 (omega arith), each_first js ps ns (omega arith) (omega arith) (λ i l. h (suc i) (omega arith)))
