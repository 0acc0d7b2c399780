-- What a mirror asks for by its pattern.
use Rattle.std.specs.Prelude.{ℕ, ◌+◌, Bool, true, List, [], ◌∷◌, Option, if◌then◌else◌}
use Rattle.repo_plan.specs.Parts.{Pair}
use Rattle.repo_object.specs.Objects.{Post}
use Rattle.repo_object.specs.Objects.Post.{Offers, Withdraws}
use Rattle.repo_watch.specs.declared.pattern.Pattern.{Pattern}
use Rattle.repo_watch.specs.Patterns.{is_publisher, accepts}
use Rattle.group_model.specs.Publications.{Logs, post_at}

-- The numbers of a vector from the publisher `p` on, with 0 for each publisher that isn't asked.
abbrev pub asked_numbers : Option ℕ → ℕ → List ℕ → List ℕ
asked_numbers asked p [] = []
asked_numbers asked p (n ∷ ns) = (if is_publisher asked p then n else 0) ∷ asked_numbers asked (p + 1) ns

-- A publication of the publisher `p` that a mirror keeps: an object that the pattern accepts, or a withdrawal.
abbrev pub is_post_for : Pattern → ℕ → Post → Bool
is_post_for pattern p (Offers object) = accepts pattern p object.name
is_post_for pattern p (Withdraws seq) = true

-- The publication `pair` is one that a mirror keeps.
abbrev pub is_for : Pattern → Logs → Pair → Bool
is_for pattern logs pair = is_post_for pattern pair.0 (post_at logs pair)
