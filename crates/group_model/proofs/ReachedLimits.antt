-- How far the counts of a group go from its beginning.
use Rattle.std.proofs.Common.{◌≡◌, ℕ, suc, zero, ◌+◌, List, [], ◌∷◌, ◌++◌, map, length, get_or, replicate, refl, sym}
use Rattle.std.proofs.Common.{ap, ◌∙◌, subst, arith, None}
use Rattle.std.proofs.lemmas.List.{length-map}
use Rattle.sorted_lists.specs.Range.{numbers_from}
use Rattle.sorted_lists.proofs.Ranges.{length-numbers}
use Rattle.svs_sync.specs.Suppression.{periodic}
use Rattle.repo_object.specs.Objects.{Post}
use Rattle.group_model.specs.Publications.{no_post, numbered_publications, published_from, published}
use Rattle.group_model.specs.Member.{Member}
use Rattle.group_model.specs.World.{no_member, logs, logs_of, initial_world}
use Rattle.group_model.specs.Steps.{after_events}
use Rattle.group_model.proofs.PublishedCounts.{HasFew}
use Rattle.group_model.specs.Limits.{IsMemberWithin, IsWithinSteps, BeginsWithin, ReachedRunsStayWithin}
use Rattle.group_model.proofs.Runs.{sound_initial}
use Rattle.group_model.proofs.Limits.{within_all}

nothing_published : (p : ℕ) (f : ℕ → Member) (xs : List ℕ) → ((x : ℕ) → (f x).log ≡ [])
    → published_from p (logs_of (map f xs)) ≡ []
nothing_published p f [] e = refl
nothing_published p f (x ∷ xs) e =
    subst (λ (l : List Post). numbered_publications p 1 l ++ published_from (p + 1) (logs_of (map f xs)) ≡ [])
    (sym (e x)) (nothing_published (p + 1) f xs e)

no_objects : (f : ℕ → Member) (xs : List ℕ) (p k : ℕ) → ((x : ℕ) → (f x).log ≡ [])
    → HasFew (get_or (get_or (logs_of (map f xs)) p []) k no_post)
no_objects f [] p k e = omega arith
no_objects f (x ∷ xs) zero k e =
    subst (λ (l : List Post). HasFew (get_or l k no_post)) (sym (e x)) (omega arith)
no_objects f (x ∷ xs) (suc p) k e = no_objects f xs p k e

each_opening : (f : ℕ → Member) (xs : List ℕ) (j : ℕ) → ((x : ℕ) → IsMemberWithin 0 (f x)) → IsMemberWithin 0 no_member
    → IsMemberWithin 0 (get_or (map f xs) j no_member)
each_opening f [] j e n = n
each_opening f (x ∷ xs) zero e n = e x
each_opening f (x ∷ xs) (suc j) e n = each_opening f xs j e n

pub within_initial : BeginsWithin
within_initial env n =
    let f : ℕ → Member = λ j. record no_member {
      known = replicate n 0;
      machine = record { members = n; heard = None; deadline = periodic (env.draw j 0); draws = 1 };
    } in
    record {
      time = omega arith;
      sent = omega arith;
      published =
          let e : published (logs (initial_world env n)) ≡ [] = nothing_published 0 f (numbers_from 0 n) (λ x. refl) in
          let z : length (published (logs (initial_world env n))) ≡ 0 = ap length e in omega (arith, z);
      segments = λ p k. no_objects f (numbers_from 0 n) p k (λ x. refl);
      members =
          λ j. each_opening f (numbers_from 0 n) j
          (λ x. record { draws = omega arith; tried = λ t. omega arith; blocks = λ i q e. absurd cc })
          (record { draws = omega arith; tried = λ t. omega arith; blocks = λ i q e. absurd cc });
      tally = record { delivered = omega arith; attempts = omega arith; parts = omega arith; octets = omega arith };
    }

pub reached_within : ReachedRunsStayWithin
reached_within env n es few l taken r size =
    let f : ℕ → Member = λ j. record no_member {
      known = replicate n 0;
      machine = record { members = n; heard = None; deadline = periodic (env.draw j 0); draws = 1 };
    } in
    let wide : length (initial_world env n).members ≡ n = length-map (numbers_from 0 n) f ∙ length-numbers 0 n in
    let none : 0 + length es ≡ length es = omega arith in
    subst (λ (k : ℕ). IsWithinSteps k (after_events env (initial_world env n) es)) none
    (within_all env 0 (initial_world env n) es (sound_initial env n) (omega (arith, l)) (omega (arith, wide, few)) taken
    r size (within_initial env n))
