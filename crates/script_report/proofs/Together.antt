-- Two lists that are gone through together.
use Rattle.std.proofs.Common.{String, Global, string_bytes, ◌≡◌, ◌≤◌, ◌<◌, ◌+◌, ℕ, List, [], ◌∷◌, ◌++◌, length, drop}
use Rattle.std.proofs.Common.{get_or, min, map, refl, sym, ap, ◌∙◌, arith, append_assoc, append-nil, inl, inr}
use Rattle.std.proofs.lemmas.Bool.{cases_lt}
use Rattle.std.proofs.lemmas.List.{drop_more, drop_all}
use Rattle.std.specs.Fmt.{decimal}
use Rattle.repo_catalog.specs.declared.entry.Entry.{Entry}
use Rattle.script_report.specs.Pieces.{KeepsPrefix}
use Rattle.script_report.specs.Texts.{after_spaces, labelled_numbers, entry_text, entries_text, totals_text}
use Rattle.script_report.specs.Texts.{summary_text}
use Rattle.script_report.proofs.Prefixes.{keeps_same, keeps_then}

-- the text of the first `n` places of both lists is written, after the octets that were there
pub record Writes {A B : Type 0} (F : List A → List B → List ℕ) (xs : List A) (ys : List B) (n : ℕ)
    (old new : List ℕ) : Type 0 where
  pub written : new ++ F (drop n xs) (drop n ys) ≡ old ++ F xs ys
  pub kept : KeepsPrefix old new

-- a text of both lists is that of their first places, and of the others
pub record IsText {A B : Type 0} (F : List A → List B → List ℕ) (f : A → B → List ℕ) : Type 0 where
  pub left : (ys : List B) → F [] ys ≡ []
  pub right : (xs : List A) → F xs [] ≡ []
  pub both : (x : A) (xs : List A) (y : B) (ys : List B) → F (x ∷ xs) (y ∷ ys) ≡ f x y ++ F xs ys

pub writes_none : {A B : Type 0} (F : List A → List B → List ℕ) (xs : List A) (ys : List B) (old : List ℕ)
    → Writes F xs ys 0 old old
writes_none F xs ys old = record { written = refl; kept = keeps_same old }

together_more : {A B : Type 0} (F : List A → List B → List ℕ) (f : A → B → List ℕ) → IsText F f
    → (xs : List A) (ys : List B) (n : ℕ) (x : A)
    (y : B) → n < length xs → n < length ys → x ≡ get_or xs n x
    → y ≡ get_or ys n y → F (drop n xs) (drop n ys) ≡ f x y ++ F (drop (n + 1) xs) (drop (n + 1) ys)
together_more F f text xs ys n x y lt lu p q =
    ap (λ s. F s (drop n ys)) (drop_more xs n x lt ∙ ap (λ z. z ∷ drop (n + 1) xs) (sym p))
    ∙ ap (λ s. F (x ∷ drop (n + 1) xs) s) (drop_more ys n y lu ∙ ap (λ z. z ∷ drop (n + 1) ys) (sym q))
    ∙ text.both x (drop (n + 1) xs) y (drop (n + 1) ys)

-- one more piece of what is still to be written was written
pub one_more : (whole mid new piece here after : List ℕ) → mid ++ here ≡ whole → here ≡ piece ++ after
    → new ≡ mid ++ piece → new ++ after ≡ whole
one_more whole mid new piece here after w h more =
    ap (λ s. s ++ after) more ∙ append_assoc mid piece after ∙ ap (λ s. mid ++ s) (sym h) ∙ w

pub writes_more : {A B : Type 0} (F : List A → List B → List ℕ) (f : A → B → List ℕ) → IsText F f
    → (xs : List A) (ys : List B) (n m : ℕ) (x : A) (y : B)
    (old mid new : List ℕ) → n < length xs → n < length ys
    → x ≡ get_or xs n x → y ≡ get_or ys n y → m ≡ n + 1 → Writes F xs ys n old mid → new ≡ mid ++ f x
    y
    → KeepsPrefix mid new → Writes F xs ys m old new
writes_more F f text xs ys n m x y old mid new lt lu p q next w more kept = rw next (record {
  written =
      one_more (old ++ F xs ys) mid new (f x y) (F (drop n xs) (drop n ys))
      (F (drop (n + 1) xs) (drop (n + 1) ys)) w.written (together_more F f text xs ys n x y lt lu p q) more;
  kept = keeps_then old mid new w.kept kept;
})

-- after the last place of the shorter list there is no text
nothing_left : {A B : Type 0} (F : List A → List B → List ℕ) (f : A → B → List ℕ) → IsText F f
    → (xs : List A) (ys : List B) (n : ℕ) → n ≡ min (length xs) (length ys) → F (drop n xs) (drop n ys) ≡ []
nothing_left F f text xs ys n h = elim (cases_lt (length ys) (length xs)) [
  | inl less ↦ (let over : length ys ≤ n = omega arith in ap (F (drop n xs)) (drop_all n ys over) ∙ text.right
      (drop n xs))
  | inr most ↦ (let over : length xs ≤ n = omega arith in ap (λ s. F s (drop n ys)) (drop_all n xs over)
      ∙ text.left
      (drop n ys))
]

pub writes_all : {A B : Type 0} (F : List A → List B → List ℕ) (f : A → B → List ℕ) → IsText F f
    → (xs : List A) (ys : List B) (n : ℕ) (old new : List ℕ) → n ≡ min (length xs) (length ys)
    → Writes F xs ys n old new → new ≡ old ++ F xs ys
writes_all F f text xs ys n old new all w =
    sym (append-nil new) ∙ ap (λ s. new ++ s) (sym (nothing_left F f text xs ys n all)) ∙ w.written

-- ---- the words of counts, and the lines of entries

abbrev pub counts : List (String Global) → List ℕ → List ℕ
counts labels numbers = after_spaces (labelled_numbers (map string_bytes labels) numbers)

abbrev pub count : String Global → ℕ → List ℕ
count label n = 32 ∷ (string_bytes label ++ (61 ∷ []) ++ decimal n)

pub counts_text : IsText counts count
unfolding labelled_numbers
counts_text = record {
  left = λ ys. refl;
  right = nothing;
  both = λ x xs y ys. refl;
} where
  nothing : (xs : List (String Global)) → counts xs [] ≡ []
  nothing [] = refl
  nothing (x ∷ xs) = refl

abbrev pub entries : List (String Global) → List Entry → List ℕ
entries labels es = entries_text (map string_bytes labels) es

abbrev pub entry : String Global → Entry → List ℕ
entry label e = entry_text (string_bytes label) e

pub entries_are_text : IsText entries entry
unfolding entries_text
entries_are_text = record {
  left = λ ys. refl;
  right = nothing;
  both = λ x xs y ys. refl;
} where
  nothing : (xs : List (String Global)) → entries xs [] ≡ []
  nothing [] = refl
  nothing (x ∷ xs) = refl

-- ---- the totals of members

pub totals_more : (labels : List (String Global)) (es ss os : List ℕ) (i : ℕ) (label : String Global)
    → i < length labels → length labels ≡ length es → length labels ≡ length ss → length labels ≡ length
    os
    → label ≡ get_or labels i label
    → summary_text (map string_bytes (drop i labels)) (drop i es) (drop i ss) (drop i os) ≡ totals_text
    (string_bytes label) (get_or es i 0) (get_or ss i 0) (get_or os i 0) ++ summary_text
    (map string_bytes (drop (i + 1) labels)) (drop (i + 1) es) (drop (i + 1) ss) (drop (i + 1) os)
unfolding summary_text
totals_more labels es ss os i label lt a b c e =
    let le : i < length es = omega arith in
    let ls : i < length ss = omega arith in
    let lo : i < length os = omega arith in
    rw (drop_more labels i label lt, ← e, drop_more es i 0 le, drop_more ss i 0 ls, drop_more os i 0 lo) refl

pub totals_end : (labels : List (String Global)) (es ss os : List ℕ) (i : ℕ) → length labels ≤ i
    → summary_text (map string_bytes (drop i labels)) (drop i es) (drop i ss) (drop i os) ≡ []
unfolding summary_text
totals_end labels es ss os i over = rw (drop_all i labels over) refl
