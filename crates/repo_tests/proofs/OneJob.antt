-- A plan of at most one job.
use Rattle.std.proofs.Common.{◌≡◌, List, [], ◌∷◌, map, take, ap, sym, ◌∙◌, Option, Some, None, slice_get}

pub first_same : {B : Type 0} (x y : B) → (let o : Option B = Some x in o) ≡ Some y → x ≡ y
first_same x y h = cc

pub one_job : {A B : Type 0} (f : A → B) (ts : List A) (jobs : List B) (job : B) → jobs ≡ map f (take 1 ts)
    → slice_get jobs 0 ≡ Some job → jobs ≡ job ∷ []
one_job f [] jobs job planned first = absurd (none job (sym (ap (λ js. slice_get js 0) planned) ∙ first)) where
  none : {B : Type 0} (y : B) → (let o : Option B = None in o) ≡ Some y → ⊥
  none y h = cc
one_job {A} {B} f (t ∷ ts) jobs job planned first =
    planned
    ∙ ap (λ (j : B). j ∷ []) (first_same (f t) job (sym (ap (λ (js : List B). slice_get js 0) planned) ∙ first))
