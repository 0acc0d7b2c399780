-- What is true of every process.
use Rattle.std.proofs.Common.{◌≡◌, ◌↔◌, ℕ, zero, suc, ◌+◌, ◌-◌, ◌<◌, ◌≤◌, Bool, true, false, cond, ◌&&◌, eqb, leb, List}
use Rattle.std.proofs.Common.{[], ◌∷◌, length, map, filter, slice_get, Some, refl, sym, ap, ◌∙◌, arith}
use Rattle.std.specs.Prelude.{is_some, unwrap_or}
use Rattle.std.specs.List.{list_all}
use Rattle.std.specs.Ordering.{nat_cmp, eq_by_cmp}
use Rattle.std.specs.declared.cmp.Ordering.{Ordering}
use Rattle.std.specs.declared.cmp.Ordering.TheVariants.{Less, Equal, Greater}
use Rattle.std.proofs.lemmas.Bool.{and_parts, and_from, leb-true, le-leb, eq-eqb}
use Rattle.std.proofs.lemmas.List.{length-map}
use Rattle.sorted_lists.specs.SortedList.{by_order, value_of, with_value}
use Rattle.sorted_lists.specs.Range.{numbers_from}
use Rattle.sorted_lists.proofs.Orders.{exact_numbers, nat_same}
use Rattle.sorted_lists.proofs.Ranges.{length-numbers}
use Rattle.sorted_lists.proofs.Sets.{value_of-with_value}
use Rattle.repo_process.specs.Processes.{Process, indexes, has_index, has_block, missing, is_whole, with_block}
use Rattle.repo_process.specs.Processes.{without_block, object_of}
use Rattle.repo_process.proofs.Numbers.{same_key, here, next}
use Rattle.repo_process.proofs.BlockLemmas.{but, other}

-- ---- a test that passes at each of the numbers

pub all_numbers : (g : ℕ → Bool) (first n : ℕ) → list_all g (numbers_from first n) ≡ true → (i : ℕ) → i < n
    → g (first + i) ≡ true
all_numbers g first zero h i below = absurd (omega arith)
all_numbers g first (suc n) h zero below =
    ap g (here first) ∙ (and_parts (g first) (list_all g (numbers_from (first + 1) n)) h).0
all_numbers g first (suc n) h (suc i) below =
    ap g (next first i)
    ∙ all_numbers g (first + 1) n (and_parts (g first) (list_all g (numbers_from (first + 1) n)) h).1 i (omega arith)

pub numbers_all : (g : ℕ → Bool) (first n : ℕ) → ((i : ℕ) → i < n → g (first + i) ≡ true)
    → list_all g (numbers_from first n) ≡ true
numbers_all g first zero h = refl
numbers_all g first (suc n) h =
    and_from (g first) (list_all g (numbers_from (first + 1) n)) (ap g (sym (here first)) ∙ h zero (omega arith))
    (numbers_all g (first + 1) n (λ i below. ap g (sym (next first i)) ∙ h (suc i) (omega arith)))

pub whole_blocks : (p : Process)
    → (is_whole p ≡ true) ↔ ((index : ℕ) → has_index p index ≡ true → has_block p index ≡ true)
whole_blocks p = (
  λ whole index h. (let parts = and_parts (leb p.first index) (leb index p.last) h in
      let above = leb-true p.first index parts.0 in
      let below = leb-true index p.last parts.1 in
      let at : p.first + (index - p.first) ≡ index = omega (arith, above) in
      ap (has_block p) (sym at)
      ∙ all_numbers (has_block p) p.first (p.last + 1 - p.first) whole (index - p.first) (omega (arith, above, below))),
  λ each. numbers_all (has_block p) p.first (p.last + 1 - p.first)
      (λ i below. each (p.first + i)
      (and_from (leb p.first (p.first + i)) (leb (p.first + i) p.last) (le-leb p.first (p.first + i) (omega arith))
      (le-leb (p.first + i) p.last (omega arith)))),
)

-- ---- none is missing

filter-most : (g : ℕ → Bool) (xs : List ℕ) → length (filter g xs) ≤ length xs
filter-most g [] = omega arith
filter-most g (x ∷ xs) = by_test (g x) (filter-most g xs) where
  by_test : (b : Bool) → length (filter g xs) ≤ length xs
      → length (cond b (x ∷ filter g xs) (filter g xs)) ≤ suc (length xs)
  by_test true most = omega (arith, most)
  by_test false most = omega (arith, most)

counted : (g : ℕ → Bool) (xs : List ℕ) → (list_all g xs ≡ true) ↔ (length xs - length (filter g xs) ≡ 0)
counted g [] = (λ h. refl, λ h. refl)
counted g (x ∷ xs) = by_test (g x) (counted g xs) where
  by_test : (b : Bool) → (list_all g xs ≡ true) ↔ (length xs - length (filter g xs) ≡ 0)
      → ((b && list_all g xs) ≡ true) ↔ (suc (length xs) - length (cond b (x ∷ filter g xs) (filter g xs)) ≡ 0)
  by_test true rest = (λ h. omega (arith, rest.0 h), λ h. rest.1 (omega (arith, h)))
  by_test false rest = (λ h. absurd cc, λ h. absurd (omega (arith, h, filter-most g xs)))

pub whole_missing : (p : Process) → p.published ≡ false → (is_whole p ≡ true) ↔ (missing p ≡ 0)
whole_missing p unpublished = rw unpublished (counted (has_block p) (indexes p))

-- ---- segments

pub segment_at : (f : ℕ → List ℕ) (first n i : ℕ) → i < n
    → slice_get (map f (numbers_from first n)) i ≡ Some (f (first + i))
segment_at f first zero i below = absurd (omega arith)
segment_at f first (suc n) zero below = ap (λ (k : ℕ). Some (f k)) (sym (here first))
segment_at f first (suc n) (suc i) below =
    segment_at f (first + 1) n i (omega arith) ∙ ap (λ (k : ℕ). Some (f k)) (sym (next first i))

pub segments_counted : (p : Process) → length (object_of p).contents ≡ p.last + 1 - p.first
segments_counted p =
    length-map (indexes p) (λ index. unwrap_or (value_of nat_cmp p.blocks index) [])
    ∙ length-numbers p.first (p.last + 1 - p.first)

-- ---- one block

pub block_stays : (p : Process) (index : ℕ) (content : List ℕ) → has_block p index ≡ true
    → with_block index content p ≡ p
block_stays p index content there = rw there refl

pub block_comes : (p : Process) (index : ℕ) (content : List ℕ) → has_block p index ≡ false
    → value_of nat_cmp (with_block index content p).blocks index ≡ Some content
block_comes p index content none =
    ap (λ (b : Bool).
    value_of nat_cmp (cond b p (record p { blocks = with_value nat_cmp index content p.blocks })).blocks index) none
    ∙ value_of-with_value exact_numbers index content p.blocks index
    ∙ ap (λ (b : Bool). cond b (Some content) (value_of nat_cmp p.blocks index)) (same_key index)

-- there is nothing under the key
absent : (k : ℕ) (e : ℕ × List ℕ) (es : List (ℕ × List ℕ)) → is_some (value_of nat_cmp (e ∷ es) k) ≡ false
    → (eqb e.0 k ≡ false) × (is_some (value_of nat_cmp es k) ≡ false)
absent k e es none = by_test (eq_by_cmp nat_cmp k e.0) refl none where
  by_test : (b : Bool) → eq_by_cmp nat_cmp k e.0 ≡ b → is_some (cond b (Some e.1) (value_of nat_cmp es k)) ≡ false
      → (eqb e.0 k ≡ false) × (is_some (value_of nat_cmp es k) ≡ false)
  by_test true h n = absurd cc
  by_test false h n = (
    other e.0 k
        (λ same. (let yes : true ≡ false = sym (same_key k) ∙ ap (eq_by_cmp nat_cmp k) (sym same) ∙ h in absurd cc)),
    n,
  )

keeps_all : (k : ℕ) (es : List (ℕ × List ℕ)) → is_some (value_of nat_cmp es k) ≡ false → filter (but k) es ≡ es
keeps_all k [] none = refl
keeps_all k (e ∷ es) none =
    let a = absent k e es none in
    rw a.0 (ap (λ (rest : List (ℕ × List ℕ)). e ∷ rest) (keeps_all k es a.1))

drops_first : (k : ℕ) (v : List ℕ) (es : List (ℕ × List ℕ)) → filter (but k) ((k, v) ∷ es) ≡ filter (but k) es
drops_first k v es = rw (eq-eqb k k refl) refl

gone : (k : ℕ) (v : List ℕ) (es : List (ℕ × List ℕ)) → is_some (value_of nat_cmp es k) ≡ false
    → filter (but k) (with_value nat_cmp k v es) ≡ es
gone k v [] none = drops_first k v []
gone k v (e ∷ es) none = by_cmp (nat_cmp k e.0) refl (λ h. gone k v es h) where
  by_cmp : (o : Ordering) → nat_cmp k e.0 ≡ o
      → (is_some (value_of nat_cmp es k) ≡ false → filter (but k) (with_value nat_cmp k v es) ≡ es)
      → filter (but k) (by_order o ((k, v) ∷ e ∷ es) ((k, v) ∷ es) (e ∷ with_value nat_cmp k v es)) ≡ e ∷ es
  by_cmp Less h rest = drops_first k v (e ∷ es) ∙ keeps_all k (e ∷ es) none
  by_cmp Equal h rest =
      let a = absent k e es none in
      let yes : true ≡ false = sym (eq-eqb e.0 k (sym (nat_same k e.0 h))) ∙ a.0 in absurd cc
  by_cmp Greater h rest = let a = absent k e es none in rw a.0 (ap (λ (xs : List (ℕ × List ℕ)). e ∷ xs) (rest a.1))

pub block_gone : (p : Process) (index : ℕ) (content : List ℕ) → has_block p index ≡ false
    → without_block index (with_block index content p) ≡ p
block_gone p index content none =
    ap (λ (b : Bool). without_block index (cond b p (record p { blocks = with_value nat_cmp index content p.blocks })))
    none
    ∙ ap (λ (bs : List (ℕ × List ℕ)). record p { blocks = bs }) (gone index content p.blocks none)
