-- A mirror's plan, as its value says it.
use Rattle.std.proofs.Common.{◌≡◌, ℕ, zero, suc, Bool, true, false, not, ◌&&◌, List, map, length, replicate}
use Rattle.std.proofs.Common.{Option, None, refl, ap, ◌∙◌}
use Rattle.std.specs.List.{filter, list_any}
use Rattle.ndn_name.specs.Names.{Component}
use Rattle.repo_plan.specs.declared.part.Part.{Part}
use Rattle.repo_plan.specs.Plan.{PlanState, is_claim_of, is_claimed, is_wanted, known_parts, wanted, unclaimed}
use Rattle.repo_holdings.specs.HoldingsState.{held_plan}
use Rattle.repo_holdings.specs.Wanting.{job_at}
use Rattle.repo_mirror.specs.declared.mirror.Mirror.TheInside.{Inside}
use Rattle.repo_mirror.specs.MirrorState.{MirrorState, mirror_holdings, fetch_plan}
use Rattle.repo_mirror.specs.MirrorFields.{mirror_state, IsMirror}
use Rattle.repo_mirror.proofs.AskedLemmas.{length-asked}

-- the plan of what is held is that of the mirror's value
pub plan_is : (m : Inside) → IsMirror m → held_plan m.held ≡ fetch_plan (mirror_state m)
plan_is m is = λ i. record (fetch_plan (mirror_state m)) { known = is.known i; claims = is.claims i }

-- a reading of it is that of the mirror's value
pub reading : {A : Type 0} (f : PlanState → A) (m : Inside) (a : MirrorState) → IsMirror m → mirror_state m ≡ a
    → f (held_plan m.held) ≡ f (fetch_plan a)
reading f m a is view = ap f (plan_is m is) ∙ ap (λ (x : MirrorState). f (fetch_plan x)) view

-- the vector of a mirror's holdings is as long as the mirror's vector
pub wide_as_vector : (m : Inside) (a : MirrorState) → IsMirror m → mirror_state m ≡ a
    → length m.held.known ≡ length a.known
wide_as_vector m a is view =
    ap (λ (ns : List ℕ). length ns) is.known
    ∙ length-asked m.pattern.publisher 0 m.vector
    ∙ ap (λ (x : MirrorState). length x.known) view

-- ---- a mirror claims nothing, so what it wants is unclaimed

none_claimed : (t : Part) (n : ℕ) → list_any (is_claim_of t) (replicate n (let o : Option Part = None in o)) ≡ false
none_claimed t zero = refl
none_claimed t (suc n) = none_claimed t n

pub nothing_claimed : (a : MirrorState) (t : Part) → is_claimed (fetch_plan a) t ≡ false
nothing_claimed a t = none_claimed t 16

and_not : (a b : Bool) → b ≡ false → (a && not b) ≡ a
and_not true b h = ap not h
and_not false b h = refl

pub all_unclaimed : (a : MirrorState) → unclaimed (fetch_plan a) ≡ wanted (fetch_plan a)
all_unclaimed a = λ i.
    filter
    (λ t. and_not (is_wanted (fetch_plan a) t) (is_claimed (fetch_plan a) t) (nothing_claimed a t) i)
    (known_parts (fetch_plan a))

-- the jobs of parts that are chosen of the wanted ones
pub jobs_are : (publishers : List (List Component)) (group : List Component) (parts : List Part → List Part)
    (m : Inside) (a : MirrorState) → IsMirror m → mirror_state m ≡ a
    → map (job_at publishers group m.held) (parts (unclaimed (held_plan m.held)))
    ≡ map (job_at publishers group (mirror_holdings a)) (parts (wanted (fetch_plan a)))
jobs_are publishers group parts m a is view =
    ap (λ (p : PlanState). map (job_at publishers group m.held) (parts (unclaimed p))) (plan_is m is)
    ∙ ap (λ (x : MirrorState). map (job_at publishers group (mirror_holdings x)) (parts (unclaimed (fetch_plan x))))
    view
    ∙ ap (λ (ts : List Part). map (job_at publishers group (mirror_holdings a)) (parts ts)) (all_unclaimed a)
