-- The blocks of a process, as a map from their indexes.
use Rattle.std.proofs.Common.{◌≡◌, ℕ, zero, suc, ◌+◌, ◌-◌, ◌<◌, ◌≤◌, Bool, true, false, not, eqb, cond, List, [], ◌∷◌}
use Rattle.std.proofs.Common.{length, map, filter, get_or, replicate, Option, Some, None, refl, sym, ap, ◌∙◌, inl, inr}
use Rattle.std.proofs.Common.{arith}
use Rattle.std.specs.Prelude.{slice_set, is_some, unwrap_or}
use Rattle.std.specs.Vec.{vec_len}
use Rattle.std.specs.Prelude.{Vec, count_by}
use Rattle.std.proofs.lemmas.List.Recursion.{is_count_by}
use Rattle.std.proofs.Common.{Global}
use Rattle.std.specs.List.{All, list_all}
use Rattle.std.proofs.lemmas.List.Elements.{All-nil, All-cons, All-head, All-tail}
use Rattle.repo_object.specs.Objects.{IsContent}
use Rattle.std.specs.Ordering.{nat_cmp}
use Rattle.std.proofs.lemmas.Bool.{cases_lt, eq-eqb}
use Rattle.sorted_lists.specs.SortedList.{value_of, with_value}
use Rattle.sorted_lists.specs.Range.{numbers_from}
use Rattle.sorted_lists.proofs.Orders.{nat_less, nat_itself}
use Rattle.repo_process.specs.Fields.{blocks_from}
use Rattle.repo_process.proofs.Numbered.{later}
use Rattle.repo_process.proofs.Numbers.{same_key, key_below, key_above, here, next}

-- the content of a block, where it isn't empty
abbrev pub come : List ℕ → Option (List ℕ)
come [] = None
come (x ∷ xs) = Some (x ∷ xs)

-- ---- what is under an index

pub no_block : (n first : ℕ) (cs : List (List ℕ)) → n < first → value_of nat_cmp (blocks_from first cs) n ≡ None
no_block n first [] below = refl
no_block n first ([] ∷ cs) below = no_block n (first + 1) cs (omega arith)
no_block n first ((x ∷ xs) ∷ cs) below = rw (key_below n first below) (no_block n (first + 1) cs (omega arith))

pub block_at : (first j : ℕ) (cs : List (List ℕ))
    → value_of nat_cmp (blocks_from first cs) (first + j) ≡ come (get_or cs j [])
block_at first j [] = refl
block_at first zero ([] ∷ cs) = rw (here first) (no_block first (first + 1) cs (omega arith))
block_at first zero ((x ∷ xs) ∷ cs) = rw (here first, same_key first) refl
block_at first (suc j) ([] ∷ cs) = rw (next first j) (block_at (first + 1) j cs)
block_at first (suc j) ((x ∷ xs) ∷ cs) =
    rw (key_above (first + suc j) first (omega arith), next first j) (block_at (first + 1) j cs)

-- a block stands within the places
pub block_within : (n first : ℕ) (cs : List (List ℕ)) → is_some (value_of nat_cmp (blocks_from first cs) n) ≡ true
    → (first ≤ n) × (n < first + length cs)
block_within n first cs there = elim (cases_lt n first) [
  | inl below ↦ absurd (none (no_block n first cs below))
  | inr above ↦ elim (cases_lt n (first + length cs)) [
    | inl within ↦ (above, within)
    | inr beyond ↦ absurd (none (at_place above ∙ ap come (past cs (n - first) (omega arith))))
  ]
] where
  none : value_of nat_cmp (blocks_from first cs) n ≡ None → ⊥
  none e = let h : is_some {T = List ℕ} None ≡ true = ap is_some (sym e) ∙ there in absurd cc

  at_place : first ≤ n → value_of nat_cmp (blocks_from first cs) n ≡ come (get_or cs (n - first) [])
  at_place above =
      let same : n ≡ first + (n - first) = omega arith in
      ap (value_of nat_cmp (blocks_from first cs)) same ∙ block_at first (n - first) cs

  past : (xs : List (List ℕ)) (j : ℕ) → length xs ≤ j → get_or xs j [] ≡ []
  past [] j h = refl
  past (x ∷ xs) zero h = absurd (omega (arith, h))
  past (x ∷ xs) (suc j) h = past xs j (omega (arith, h))

-- ---- a block more

put_first : (k first : ℕ) (v : List ℕ) (cs : List (List ℕ)) → k < first
    → with_value nat_cmp k v (blocks_from first cs) ≡ (k, v) ∷ blocks_from first cs
put_first k first v [] below = refl
put_first k first v ([] ∷ cs) below = put_first k (first + 1) v cs (omega arith)
put_first k first v ((x ∷ xs) ∷ cs) below = rw (nat_less k first below) refl

pub with_block_at : (first j y : ℕ) (ys : List ℕ) (cs : List (List ℕ)) → j < length cs
    → with_value nat_cmp (first + j) (y ∷ ys) (blocks_from first cs) ≡ blocks_from first (slice_set cs j (y ∷ ys))
with_block_at first j y ys [] within = absurd (omega arith)
with_block_at first zero y ys ([] ∷ cs) within = rw (here first) (put_first first (first + 1) (y ∷ ys) cs (omega arith))
with_block_at first zero y ys ((x ∷ xs) ∷ cs) within = rw (here first, nat_itself first) refl
with_block_at first (suc j) y ys ([] ∷ cs) within =
    rw (next first j) (with_block_at (first + 1) j y ys cs (omega arith))
with_block_at first (suc j) y ys ((x ∷ xs) ∷ cs) within =
    let rest = blocks_from (first + 1) cs in
    later (first + suc j) first (y ∷ ys) (x ∷ xs) rest (omega arith)
    ∙ ap (λ (bs : List (ℕ × List ℕ)). (first, x ∷ xs) ∷ bs)
    (ap (λ (n : ℕ). with_value nat_cmp n (y ∷ ys) rest) (next first j)
    ∙ with_block_at (first + 1) j y ys cs (omega arith))

-- ---- a block less

abbrev pub but : ℕ → ℕ × List ℕ → Bool
but n block = not (eqb block.0 n)

pub other : (a b : ℕ) → (a ≡ b → ⊥) → eqb a b ≡ false
other a b apart = grind arith

keeps_others : (n first : ℕ) (cs : List (List ℕ)) → n < first
    → filter (but n) (blocks_from first cs) ≡ blocks_from first cs
keeps_others n first [] below = refl
keeps_others n first ([] ∷ cs) below = keeps_others n (first + 1) cs (omega arith)
keeps_others n first ((x ∷ xs) ∷ cs) below =
    rw (other first n (λ e. omega arith))
    (ap (λ (bs : List (ℕ × List ℕ)). (first, x ∷ xs) ∷ bs) (keeps_others n (first + 1) cs (omega arith)))

drops : (n first : ℕ) (c : List ℕ) (rest : List (ℕ × List ℕ)) → first ≡ n
    → filter (but n) ((first, c) ∷ rest) ≡ filter (but n) rest
drops n first c rest same = rw (eq-eqb first n same) refl

keeps : (n first : ℕ) (c : List ℕ) (rest : List (ℕ × List ℕ)) → first < n
    → filter (but n) ((first, c) ∷ rest) ≡ (first, c) ∷ filter (but n) rest
keeps n first c rest below = rw (other first n (λ e. omega arith)) refl

pub without_block_at : (first j : ℕ) (cs : List (List ℕ)) → j < length cs
    → blocks_from first (slice_set cs j []) ≡ filter (but (first + j)) (blocks_from first cs)
without_block_at first j [] within = absurd (omega arith)
without_block_at first zero ([] ∷ cs) within = sym (keeps_others (first + 0) (first + 1) cs (omega arith))
without_block_at first zero ((x ∷ xs) ∷ cs) within =
    sym (drops (first + 0) first (x ∷ xs) (blocks_from (first + 1) cs) (omega arith)
    ∙ keeps_others (first + 0) (first + 1) cs (omega arith))
without_block_at first (suc j) ([] ∷ cs) within =
    without_block_at (first + 1) j cs (omega arith)
    ∙ ap (λ (n : ℕ). filter (but n) (blocks_from (first + 1) cs)) (sym (next first j))
without_block_at first (suc j) ((x ∷ xs) ∷ cs) within =
    let rest = blocks_from (first + 1) cs in
    ap (λ (bs : List (ℕ × List ℕ)). (first, x ∷ xs) ∷ bs)
    (without_block_at (first + 1) j cs (omega arith) ∙ ap (λ (n : ℕ). filter (but n) rest) (sym (next first j)))
    ∙ sym (keeps (first + suc j) first (x ∷ xs) rest (omega arith))

-- ---- blocks that were received, counted

-- how many contents are empty
abbrev pub missing_in : List (List ℕ) → ℕ
missing_in [] = 0
missing_in ([] ∷ cs) = suc (missing_in cs)
missing_in ((x ∷ xs) ∷ cs) = missing_in cs

-- a test of indexes that is true exactly where the content isn't empty
abbrev Tells : (ℕ → Bool) → ℕ → List (List ℕ) → Type 0
Tells g first cs = (j : ℕ) → j < length cs → g (first + j) ≡ is_some (come (get_or cs j []))

reports_rest : (g : ℕ → Bool) (first : ℕ) (c : List ℕ) (cs : List (List ℕ)) → Tells g first (c ∷ cs)
    → Tells g (first + 1) cs
reports_rest g first c cs tells j within = ap g (sym (next first j)) ∙ tells (suc j) (omega arith)

reports_here : (g : ℕ → Bool) (first : ℕ) (c : List ℕ) (cs : List (List ℕ)) → Tells g first (c ∷ cs)
    → g first ≡ is_some (come c)
reports_here g first c cs tells = ap g (sym (here first)) ∙ tells zero (omega arith)

pub come_or_missing : (g : ℕ → Bool) (first : ℕ) (cs : List (List ℕ)) → Tells g first cs
    → length (filter g (numbers_from first (length cs))) + missing_in cs ≡ length cs
come_or_missing g first [] tells = refl
come_or_missing g first ([] ∷ cs) tells =
    let rest = come_or_missing g (first + 1) cs (reports_rest g first [] cs tells) in
    rw (reports_here g first [] cs tells) (omega (arith, rest))
come_or_missing g first ((x ∷ xs) ∷ cs) tells =
    let rest = come_or_missing g (first + 1) cs (reports_rest g first (x ∷ xs) cs tells) in
    rw (reports_here g first (x ∷ xs) cs tells) (omega (arith, rest))

pub all_come : (g : ℕ → Bool) (first : ℕ) (cs : List (List ℕ)) → Tells g first cs
    → list_all g (numbers_from first (length cs)) ≡ eqb (missing_in cs) 0
all_come g first [] tells = refl
all_come g first ([] ∷ cs) tells =
    rw (reports_here g first [] cs tells) (sym (other (suc (missing_in cs)) 0 (λ e. omega arith)))
all_come g first ((x ∷ xs) ∷ cs) tells =
    rw (reports_here g first (x ∷ xs) cs tells) (all_come g (first + 1) cs (reports_rest g first (x ∷ xs) cs tells))

pub come_again : (c : List ℕ) → unwrap_or (come c) [] ≡ c
come_again [] = refl
come_again (x ∷ xs) = refl

pub contents_again : (f : ℕ → List ℕ) (first : ℕ) (cs : List (List ℕ))
    → ((j : ℕ) → j < length cs → f (first + j) ≡ get_or cs j [])
    → map f (numbers_from first (length cs)) ≡ cs
contents_again f first [] same = refl
contents_again f first (c ∷ cs) same =
    let one = ap f (sym (here first)) ∙ same zero (omega arith) in
    let rest = contents_again f (first + 1) cs (λ j within. ap f (sym (next first j)) ∙ same (suc j) (omega arith)) in
    ap (λ (x : List ℕ). x ∷ map f (numbers_from (first + 1) (length cs))) one ∙ ap (λ (xs : List (List ℕ)). c ∷ xs) rest

pub no_blocks : (first n : ℕ) → blocks_from first (replicate n []) ≡ []
no_blocks first zero = refl
no_blocks first (suc n) = no_blocks (first + 1) n

-- contents of which none is missing
pub none_missing : (cs : List (List ℕ)) → missing_in cs ≡ 0 → All (λ c. length c ≤ 8000) cs → All IsContent cs
none_missing [] none short = All-nil IsContent
none_missing ([] ∷ cs) none short = absurd (omega arith)
none_missing ((x ∷ xs) ∷ cs) none short =
    let P : List ℕ → Type 0 = λ c. length c ≤ 8000 in
    All-cons IsContent (x ∷ xs) cs (omega arith, All-head P (x ∷ xs) cs short)
    (none_missing cs none (All-tail P (x ∷ xs) cs short))

-- ---- contents that are kept

pub missing-vecs : (vs : List (Vec ℕ Global))
    → missing_in (map (λ (c : Vec ℕ Global). c.items) vs) ≡ count_by (λ (c : Vec ℕ Global). eqb (vec_len c) 0) vs
missing-vecs =
    is_count_by (λ (vs : List (Vec ℕ Global)). missing_in (map (λ (c : Vec ℕ Global). c.items) vs))
    (λ (c : Vec ℕ Global). eqb (vec_len c) 0) refl one where
      by_length : (c : List ℕ) (n : ℕ) (cs : List (List ℕ)) → n ≡ length c
          → missing_in (c ∷ cs) ≡ cond (eqb n 0) (1 + missing_in cs) (missing_in cs)
      by_length [] n cs same = rw same (omega arith)
      by_length (x ∷ xs) n cs same = rw (other n 0 (λ e. omega arith)) refl

      one : (v : Vec ℕ Global) (vs : List (Vec ℕ Global))
          → missing_in (map (λ (c : Vec ℕ Global). c.items) (v ∷ vs))
          ≡ cond (eqb (vec_len v) 0) (1 + missing_in (map (λ (c : Vec ℕ Global). c.items) vs))
          (missing_in (map (λ (c : Vec ℕ Global). c.items) vs))
      one v vs = by_length v.items v.len (map (λ (c : Vec ℕ Global). c.items) vs) v.ok.0
