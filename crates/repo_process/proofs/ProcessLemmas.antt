-- A process whose blocks stand in places, one for each index.
use Rattle.std.proofs.Common.{◌≡◌, ℕ, zero, suc, ◌+◌, ◌-◌, ◌<◌, Bool, true, false, cond, eqb, leb, List, [], ◌∷◌}
use Rattle.std.proofs.Common.{length, get_or, replicate, Option, Some, refl, sym, ap, ◌∙◌, arith}
use Rattle.std.specs.Prelude.{slice_set, is_some, unwrap_or}
use Rattle.std.specs.Ordering.{nat_cmp}
use Rattle.std.proofs.lemmas.Bool.{lt-leb, eqb-true}
use Rattle.std.proofs.lemmas.List.{length-set}
use Rattle.ndn_name.specs.Names.{Component}
use Rattle.sorted_lists.specs.SortedList.{value_of}
use Rattle.sorted_lists.specs.Range.{numbers_from}
pub use Rattle.sorted_lists.proofs.Ranges.{length-numbers}
use Rattle.repo_object.specs.Objects.{NamedContents}
use Rattle.repo_process.specs.Processes.{Process, starting, indexes, has_block, present, missing, is_whole, with_block}
use Rattle.repo_process.specs.Processes.{without_block, object_of}
use Rattle.repo_process.specs.Arrivals.{whole_object}
use Rattle.repo_process.specs.Fields.{blocks_from}
use Rattle.repo_process.proofs.BlockLemmas.{come, missing_in, other, block_at, with_block_at, without_block_at}
use Rattle.repo_process.proofs.BlockLemmas.{come_or_missing, all_come, come_again, contents_again, no_blocks}

-- a process of these contents that was not published
abbrev pub of_contents : List Component → (first last : ℕ) → List (List ℕ) → Process
of_contents name first last cs =
    record { name = name; first = first; last = last; blocks = blocks_from first cs; published = false }

module _ (name : List Component) (first last : ℕ) (cs : List (List ℕ)) (long : length cs ≡ last + 1 - first) where
  abbrev p : Process
  p = of_contents name first last cs

  indexes-p : indexes p ≡ numbers_from first (length cs)
  indexes-p = ap (numbers_from first) (sym long)

  tells : (j : ℕ) → j < length cs → has_block p (first + j) ≡ is_some (come (get_or cs j []))
  tells j within = ap is_some (block_at first j cs)

  pub present-counted : present p + missing_in cs ≡ length cs
  present-counted = rw indexes-p (come_or_missing (has_block p) first cs tells)

  pub missing-counted : missing p ≡ missing_in cs
  missing-counted = omega (arith, present-counted, length-numbers first (last + 1 - first))

  pub whole-counted : is_whole p ≡ eqb (missing_in cs) 0
  whole-counted = rw indexes-p (all_come (has_block p) first cs tells)

  pub object-contents : (object_of p).contents ≡ cs
  object-contents =
      rw indexes-p (contents_again (λ index. unwrap_or (value_of nat_cmp (blocks_from first cs) index) []) first cs
      (λ j within. ap (λ (o : Option (List ℕ)). unwrap_or o []) (block_at first j cs) ∙ come_again (get_or cs j [])))

  -- ---- changes

  pub no_block_at : (j : ℕ) → j < length cs → length (get_or cs j []) ≡ 0 → has_block p (first + j) ≡ false
  no_block_at j within none = tells j within ∙ ap (λ (c : List ℕ). is_some (come c)) (empty (get_or cs j []) none) where
    empty : (c : List ℕ) → length c ≡ 0 → c ≡ []
    empty [] h = refl
    empty (x ∷ xs) h = absurd (omega (arith, h))

  pub block_there : (j : ℕ) → j < length cs → 0 < length (get_or cs j []) → has_block p (first + j) ≡ true
  block_there j within some = tells j within ∙ there (get_or cs j []) some where
    there : (c : List ℕ) → 0 < length c → is_some (come c) ≡ true
    there [] h = absurd (omega (arith, h))
    there (x ∷ xs) h = refl

  pub with_block-there : (j : ℕ) (content : List ℕ) → j < length cs → 0 < length (get_or cs j [])
      → with_block (first + j) content p ≡ p
  with_block-there j content within some = rw (block_there j within some) refl

  pub with_block-new : (j : ℕ) (content : List ℕ) → 0 < length content → j < length cs → length (get_or cs j []) ≡ 0
      → with_block (first + j) content p ≡ of_contents name first last (slice_set cs j content)
  with_block-new j [] some within none = absurd (omega arith)
  with_block-new j (y ∷ ys) some within none =
      rw (no_block_at j within none)
      (ap (λ (bs : List (ℕ × List ℕ)). record p { blocks = bs }) (with_block_at first j y ys cs within))

  pub without_block-at : (j : ℕ) → j < length cs
      → without_block (first + j) p ≡ of_contents name first last (slice_set cs j [])
  without_block-at j within =
      ap (λ (bs : List (ℕ × List ℕ)). record p { blocks = bs }) (sym (without_block_at first j cs within))

-- a new process
pub starting-contents : (name : List Component) (first last n : ℕ)
    → starting name first last ≡ of_contents name first last (replicate n [])
starting-contents name first last n =
    ap (λ (bs : List (ℕ × List ℕ)). record (starting name first last) { blocks = bs }) (sym (no_blocks first n))

-- all blocks of a published process count
pub present-published : (p : Process) → p.published ≡ true → present p ≡ p.last + 1 - p.first
present-published p closed = rw closed (length-numbers p.first (p.last + 1 - p.first))

-- the object of an unpublished process that has all blocks
pub whole_is : (p : Process) (object : NamedContents) → p.published ≡ false → is_whole p ≡ true → object_of p ≡ object
    → whole_object (Some p) ≡ Some object
whole_is p object unpublished whole same = rw (unpublished, whole, same) refl

-- ---- the last block

missing_set : (cs : List (List ℕ)) (j y : ℕ) (ys : List ℕ) → j < length cs → length (get_or cs j []) ≡ 0
    → missing_in cs ≡ missing_in (slice_set cs j (y ∷ ys)) + 1
missing_set [] j y ys within none = absurd (omega (arith, within))
missing_set ([] ∷ cs) zero y ys within none = omega arith
missing_set ((x ∷ xs) ∷ cs) zero y ys within none = absurd (omega (arith, none))
missing_set ([] ∷ cs) (suc j) y ys within none =
    let rest = missing_set cs j y ys (omega (arith, within)) none in omega (arith, rest)
missing_set ((x ∷ xs) ∷ cs) (suc j) y ys within none = missing_set cs j y ys (omega (arith, within)) none

one_left : (n : ℕ) → eqb n 0 ≡ leb (n + 1) 1
one_left zero = refl
one_left (suc n) = other (suc n) 0 (λ e. omega arith) ∙ sym (lt-leb (suc n + 1) 1 (omega arith))

none_left : (n : ℕ) → eqb n 0 ≡ leb n 0
none_left zero = refl
none_left (suc n) = other (suc n) 0 (λ e. omega arith) ∙ sym (lt-leb (suc n) 0 (omega arith))

-- with a block no block is missing, where none but that one was
module _ (name : List Component) (first last : ℕ) (cs : List (List ℕ)) (long : length cs ≡ last + 1 - first) (j : ℕ)
    (within : j < length cs) where
  last_new : (content : List ℕ) → 0 < length content → length (get_or cs j []) ≡ 0
      → is_whole (with_block (first + j) content (of_contents name first last cs))
      ≡ leb (missing (of_contents name first last cs)) 1
  last_new [] some none = absurd (omega (arith, some))
  last_new (y ∷ ys) some none =
      let set_long : length (slice_set cs j (y ∷ ys)) ≡ last + 1 - first = length-set cs j (y ∷ ys) ∙ long in
      ap is_whole (with_block-new name first last cs long j (y ∷ ys) some within none)
      ∙ whole-counted name first last (slice_set cs j (y ∷ ys)) set_long
      ∙ one_left (missing_in (slice_set cs j (y ∷ ys)))
      ∙ ap (λ (n : ℕ). leb n 1) (sym (missing-counted name first last cs long ∙ missing_set cs j y ys within none))

  last_there : (content : List ℕ) → 0 < length (get_or cs j [])
      → is_whole (with_block (first + j) content (of_contents name first last cs))
      ≡ leb (missing (of_contents name first last cs)) 0
  last_there content some =
      ap is_whole (with_block-there name first last cs long j content within some)
      ∙ whole-counted name first last cs long
      ∙ none_left (missing_in cs) ∙ ap (λ (n : ℕ). leb n 0) (sym (missing-counted name first last cs long))

  pub last_with : (content : List ℕ) (lacks : Bool) → 0 < length content → lacks ≡ eqb (length (get_or cs j [])) 0
      → is_whole (with_block (first + j) content (of_contents name first last cs))
      ≡ leb (missing (of_contents name first last cs)) (cond lacks 1 0)
  last_with content true some is = last_new content some (eqb-true (length (get_or cs j [])) 0 (sym is))
  last_with content false some is = last_there content (positive (length (get_or cs j [])) is) where
    positive : (n : ℕ) → false ≡ eqb n 0 → 0 < n
    positive zero e = absurd cc
    positive (suc n) e = omega arith
