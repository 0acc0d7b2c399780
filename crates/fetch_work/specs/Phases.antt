-- What a phase gives.
use Rattle.std.specs.Prelude.{ℕ, List, [], ◌∷◌, Option}
use Rattle.ndn_sign.specs.Ring.{NamedKey}
use Rattle.repo_object.specs.declared.job.Job.{Job}
use Rattle.repo_object.specs.Wants.{WantedPart}
use Rattle.repo_object.specs.Verdict.{CheckedPart}
use Rattle.fetch_work.specs.Attempts.{packet_at}
use Rattle.fetch_work.specs.Teams.{IsFirst}

-- For each job, in order, its part is the result of the first attempt that has one, and its number is that of the
-- attempts up to that one. Or the part is none, and the number is that of all tries.
abbrev pub AreFirst : (WantedPart → ℕ → Option (List ℕ)) → List NamedKey → ℕ → List Job → List (Option CheckedPart)
    → List ℕ → Type 0
AreFirst answer ring tries [] [] [] = Unit {0}
AreFirst answer ring tries (job ∷ jobs) (part ∷ parts) (n ∷ ns) =
    IsFirst (packet_at answer ring job) tries part n × AreFirst answer ring tries jobs parts ns
AreFirst answer ring tries _ _ _ = ⊥
