-- Members or mirrors that are noted one after another, each under a number.
use Rattle.std.proofs.Common.{◌≡◌, ◌∙◌, ◌<◌, ℕ, suc, ◌+◌, ◌-◌, List, [], ◌∷◌, ◌++◌, Option, Some, None, map}
use Rattle.std.proofs.Common.{drop, length, refl, sym, ap, arith, append_assoc, append-nil}
use Rattle.std.specs.Prelude.{MatchOption, slice_get}
use Rattle.std.specs.Option.{option_to_list}
use Rattle.std.proofs.lemmas.List.{map-append}
use Rattle.sorted_lists.specs.Range.{numbers_from}
use Rattle.repo_holdings.proofs.ContentLemmas.{numbers_last}
use Rattle.lab_trace.specs.declared.values.Values.{Values}
use Rattle.lab_trace.specs.Changes.{change_text, changed, changes, notes_from}

-- ---- the last notes, one after another

-- `last` is the first of `rest`, if there is one, and `others` are those after it.
record IsNext (rest others : List Values) (last : Option Values) : Type 0 where
  first : slice_get rest 0 ≡ last
  after : drop 1 rest ≡ others

-- What an iterator over `rest` with `n` values gives: the next value, with `k` values after it, or none.
abbrev pub Gives : (rest others : List Values) (n k : ℕ) → Option Values → Type 0
Gives rest others n k last = MatchOption last ((n ≡ 0) × (k ≡ 0)) (λ x. (rest ≡ x ∷ others) × (k + 1 ≡ n))

none : (rest : List Values) → 0 ≡ length rest → rest ≡ []
none [] h = refl
none (v ∷ rest) h = absurd (omega (arith, h))

is_next : (rest others : List Values) (n k : ℕ) (last : Option Values) → rest ≡ option_to_list last ++ others
    → Gives rest others n k last → n ≡ length rest → IsNext rest others last
is_next rest others n k None are gives long =
    let empty = none rest (sym gives.0 ∙ long) in
    record { first = ap (λ (vs : List Values). slice_get vs 0) empty; after = ap (drop 1) empty ∙ sym empty ∙ are }
is_next rest others n k (Some v) are gives long =
    record { first = ap (λ (vs : List Values). slice_get vs 0) are; after = ap (drop 1) are }

left_then : (rest others : List Values) (n k : ℕ) (last : Option Values) → rest ≡ option_to_list last ++ others
    → Gives rest others n k last → n ≡ length rest → k ≡ length others
left_then rest others n k None are gives long =
    gives.1 ∙ sym gives.0 ∙ long ∙ ap (λ (vs : List Values). length vs) are
left_then rest others n k (Some v) are gives long =
    let count = ap (λ (vs : List Values). length vs) are in
    let more = gives.1 in
    omega (arith, more, long, count)

-- ---- noted up to a number

module _ (labels : List (List ℕ)) (label : ℕ → List ℕ) (f : ℕ → Values) where
  -- The notes that are still to be written, from the number `m` up to `count`.
  abbrev pub notes_left : ℕ → ℕ → List Values → List ℕ
  notes_left m count rest = notes_from labels label m (changes rest (map f (numbers_from m (count - m))))

  -- The members or mirrors with numbers below `m` were noted: their values are kept, `rest` are the last notes of the
  -- others, and `text` is written of `whole`.
  pub record AreNoted (m count : ℕ) (kept rest : List Values) (n : ℕ) (text whole : List ℕ) : Type 0 where
    pub those : kept ≡ map f (numbers_from 0 m)
    pub written : text ++ notes_left m count rest ≡ whole
    pub long : n ≡ length rest

  kept_more : (m : ℕ) (mid new : List Values) (v : Values) → mid ≡ map f (numbers_from 0 m) → v ≡ f m
      → new ≡ mid ++ v ∷ [] → new ≡ map f (numbers_from 0 (m + 1))
  kept_more m mid new v are is more =
      let last : 0 + m ≡ m = omega arith in
      let next : suc m ≡ m + 1 = omega arith in
      more ∙ ap (λ (xs : List Values). xs ++ v ∷ []) are
      ∙ ap (λ (x : Values). map f (numbers_from 0 m) ++ x ∷ []) (is ∙ ap f (sym last))
      ∙ sym (map-append f (numbers_from 0 m) ((0 + m) ∷ [])) ∙ ap (map f) (sym (numbers_last 0 m))
      ∙ ap (λ (k : ℕ). map f (numbers_from 0 k)) next

  one_left : (m count : ℕ) (rest others : List Values) (last : Option Values) → m < count → IsNext rest others last
      → notes_left m count rest ≡ change_text labels (label m) (changed last (f m)) ++ notes_left (m + 1) count others
  unfolding changes notes_from
  one_left m count rest others last within next =
      let more : count - m ≡ suc (count - (m + 1)) = omega (arith, within) in
      ap (λ (k : ℕ). notes_from labels label m (changes rest (map f (numbers_from m k)))) more
      ∙ (λ i. change_text labels (label m) (changed (next.first i) (f m)) ++ notes_left (m + 1) count (next.after i))

  -- The next member or mirror is noted, where the last note says something else.
  pub one_noted : (m count : ℕ) (kept rest : List Values) (n : ℕ) (text whole : List ℕ) (last : Option Values)
      (others : List Values) (k : ℕ) (v : Values) (new : List Values) (more : List ℕ)
      → AreNoted m count kept rest n text whole → m < count → rest ≡ option_to_list last ++ others
      → Gives rest others n k last → v ≡ f m → new ≡ kept ++ v ∷ []
      → more ≡ text ++ change_text labels (label m) (changed last (f m))
      → AreNoted (m + 1) count new others k more whole
  one_noted m count kept rest n text whole last others k v new more are within parts gives is pushed written = record {
    those = kept_more m kept new v are.those is pushed;
    written =
        ap (λ (s : List ℕ). s ++ notes_left (m + 1) count others) written
        ∙ append_assoc text (change_text labels (label m) (changed last (f m))) (notes_left (m + 1) count others)
        ∙ ap (λ (s : List ℕ). text ++ s)
        (sym (one_left m count rest others last within (is_next rest others n k last parts gives are.long)))
        ∙ are.written;
    long = left_then rest others n k last parts gives are.long;
  }

  -- At the end the values of all are kept.
  pub all_kept : (m count : ℕ) (kept rest : List Values) (n : ℕ) (text whole : List ℕ)
      → AreNoted m count kept rest n text whole → m ≡ count → kept ≡ map f (numbers_from 0 count)
  all_kept m count kept rest n text whole are end =
      are.those ∙ ap (λ (k : ℕ). map f (numbers_from 0 k)) end

  -- At the end all notes are written.
  pub all_written : (m count : ℕ) (kept rest : List Values) (n : ℕ) (text whole : List ℕ)
      → AreNoted m count kept rest n text whole → m ≡ count → text ≡ whole
  unfolding changes notes_from
  all_written m count kept rest n text whole are end =
      let nothing : count - m ≡ 0 = omega (arith, end) in
      sym (append-nil text)
      ∙ ap (λ (k : ℕ). text ++ notes_from labels label m (changes rest (map f (numbers_from m k)))) (sym nothing)
      ∙ are.written
