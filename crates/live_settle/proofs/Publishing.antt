-- What is left of a list is published, and claims end.
use Rattle.std.proofs.Common.{◌≡◌, ℕ, zero, suc, ◌+◌, ◌-◌, ◌≤◌, ◌<◌, List, [], ◌∷◌, ◌++◌, length, get_or}
use Rattle.std.proofs.Common.{refl, ap, ◌∙◌, arith, Option, None}
use Rattle.std.specs.Prelude.{sum_by, replicate}
use Rattle.std.proofs.lemmas.List.{length-append, length-map}
use Rattle.std.proofs.lemmas.List.Sums.{sum_by-cons}
use Rattle.repo_object.specs.Objects.{NamedContents}
use Rattle.repo_object.specs.Objects.Post.{Offers}
use Rattle.repo_plan.specs.declared.part.Part.{Part}
use Rattle.live_member.specs.Meanings.{Meaning, as_posts, objects_of}
use Rattle.live_member.specs.Lives.{Living, IsLive}
use Rattle.live_member.specs.LockedCalls.{IsNext}
use Rattle.live_settle.specs.Ready.{Continues, MakesReady}
use Rattle.live_settle.proofs.Prefixes.{continues_itself, continues_with, continues_on}

one_in_sum : {X : Type 0} (xs : List (List X)) (j : ℕ) → length (get_or xs j []) ≤ sum_by length xs
one_in_sum [] j = omega arith
one_in_sum (x ∷ xs) zero = let all = sum_by-cons length x xs in omega (arith, all)
one_in_sum (x ∷ xs) (suc j) =
    let all = sum_by-cons length x xs in
    let h = one_in_sum xs j in omega (arith, all, h)

-- no more are to come than there are
few_come : (t : Meaning) (most : ℕ) (l : Living) → IsLive t most l → length l.unpublished ≤ 200
few_come t most l is =
    let j : ℕ = l.state.number in
    let all : length (l.state.log ++ as_posts l.unpublished) ≡ length (as_posts (objects_of t j)) = ap length is.list in
    let one = one_in_sum t.lists j in
    omega (
      arith,
      all,
      one,
      is.within.objects,
      length-append l.state.log (as_posts l.unpublished),
      length-map l.unpublished (λ (o : NamedContents). Offers o),
      length-map (objects_of t j) (λ
          (o : NamedContents). Offers o),
    )

-- after `n` publications at most `200 - n` objects are unpublished, and the journal has at most `900000 + n` entries
pub record IsPublishing (t : Meaning) (n : ℕ) (old l : Living) : Type 0 where
  pub live : IsLive t 1000000 l
  pub unpublished : length l.unpublished + n ≤ 200
  pub number : l.state.number ≡ old.state.number
  pub few : length l.journal ≤ 900000 + n
  pub prefix : Continues old.journal l.journal

-- of 200 those are left that are still to come
abbrev pub IsPublishingRest : Meaning → Living → Living → Type 0
IsPublishingRest t old l = IsPublishing t (200 - length l.unpublished) old l

pub nothing_yet : (t : Meaning) (l : Living) → IsLive t 1000000 l → length l.journal ≤ 900000
    → IsPublishingRest t l l
nothing_yet t l live room = record {
  live = live;
  unpublished = let few = few_come t 1000000 l live in omega (arith, few);
  number = refl;
  few = omega (arith, room);
  prefix = continues_itself l.journal;
}

pub one_published : (t : Meaning) (old l new : Living) (octets : List ℕ) → IsPublishingRest t old l
    → IsNext t 1000000 l new octets → IsPublishingRest t old new
one_published t old l new octets is next =
    let prefix : Continues l.journal new.journal =
    continues_with l.journal _ new.journal next.entered.entered refl in
    let one = ap length next.first in
    let long = ap length next.entered.entered ∙ length-append l.journal _ in
    record {
      live = next.live;
      unpublished = omega (arith, one, is.unpublished);
      number = next.entered.number ∙ is.number;
      few = omega (arith, one, long, is.few, is.unpublished);
      prefix = continues_on old.journal l.journal new.journal is.prefix prefix;
    }

-- ---- claims

-- the fetchers before this one claim nothing
pub record IsLosing (t : Meaning) (n : ℕ) (old l : Living) : Type 0 where
  pub live : IsLive t 1000000 l
  pub unpublished : l.unpublished ≡ []
  pub number : l.state.number ≡ old.state.number
  pub few : length l.journal ≤ 900200 + n
  pub prefix : Continues old.journal l.journal
  pub none : (k : ℕ) → k < n → get_or l.state.claims k None ≡ None

no_claims_left : (n : ℕ) (cs : List (Option Part)) → length cs ≡ n → ((k : ℕ) → k < n → get_or cs k None ≡ None)
    → cs ≡ replicate n None
no_claims_left zero [] e h = refl
no_claims_left zero (c ∷ cs) e h = absurd (omega (arith, e))
no_claims_left (suc n) [] e h = absurd (omega (arith, e))
no_claims_left (suc n) (c ∷ cs) e h =
    let one : c ≡ None = h 0 (omega arith) in
    let rest : cs ≡ replicate n None = no_claims_left n cs (omega (arith, e)) (λ k l. h (suc k) (omega (arith, l))) in
    λ i. one i ∷ rest i

pub all_lost : (t : Meaning) (old l : Living) → IsLosing t 16 old l → MakesReady t 900216 old l
all_lost t old l is = record {
  ready = record {
    live = is.live;
    unpublished = is.unpublished;
    claims = no_claims_left 16 l.state.claims is.live.consistent.sound.fetchers is.none;
  };
  number = is.number;
  entries = omega (arith, is.few);
  prefix = is.prefix;
}
