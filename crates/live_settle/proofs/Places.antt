-- Members in their places, of which one changes.
use Rattle.std.proofs.Common.{◌≡◌, ◌≢◌, inl, inr, ℕ, zero, suc, ◌+◌, ◌≤◌, ◌<◌, List, [], ◌∷◌, ◌++◌, map, length}
use Rattle.std.proofs.Common.{take, get_or, set, refl, sym, ap, ◌∙◌, subst, arith}
use Rattle.std.proofs.Math.ListN.{get_or-append}
use Rattle.std.proofs.Math.Seq.{get_or-append_seam, take-append_seam}
use Rattle.std.proofs.lemmas.Bool.{cases_eq}
use Rattle.std.proofs.lemmas.List.{length-set, length-map, length-append, get_or-map, get_or-set_same, get_or-set_other}
use Rattle.std.proofs.lemmas.List.{get_or_default}
use Rattle.repo_member.specs.MemberState.{initial_member}
use Rattle.live_member.specs.Meanings.{Meaning}
use Rattle.live_member.specs.Lives.{Living, living}
use Rattle.live_settle.specs.Ready.{at, ArePlaced, Continues, KeepPrefixes, Only, IsReady, AreReady}
use Rattle.live_settle.specs.Rans.{numbers_below}
use Rattle.live_settle.proofs.Prefixes.{continues_itself, continues_on}

abbrev pub no_living : Living
no_living = living (initial_member 0 0 0 0) [] []

-- ---- one place

pub at_set : (ls : List Living) (j : ℕ) (l : Living) → j < length ls → at (set ls j l) j ≡ l
at_set ls j l less = get_or-set_same ls j l no_living less

pub at_found : (ls : List Living) (j : ℕ) (d : Living) → j < length ls → get_or ls j d ≡ at ls j
at_found ls j d less = get_or_default ls j d no_living less

pub only_set : (ls : List Living) (j : ℕ) (l : Living) → j < length ls → l.state.number ≡ (at ls j).state.number
    → Continues (at ls j).journal l.journal → Only j ls (set ls j l)
only_set ls j l less same prefix = record {
  width = length-set ls j l;
  others = λ p d. get_or-set_other ls j p l no_living d;
  number = ap (λ (m : Living). m.state.number) (at_set ls j l less) ∙ same;
  prefix = subst (λ (m : Living). Continues (at ls j).journal m.journal) (sym (at_set ls j l less)) prefix;
}

pub only_again : (ls : List Living) (j : ℕ) (l m : Living) → j < length ls
    → m.state.number ≡ (at ls j).state.number → Continues (at ls j).journal m.journal
    → Only j ls (set (set ls j l) j m)
only_again ls j l m less same prefix =
    let there : at (set (set ls j l) j m) j ≡ m =
    at_set (set ls j l) j m (omega (arith, less, length-set ls j l)) in
    record {
      width = length-set (set ls j l) j m ∙ length-set ls j l;
      others = λ p d. get_or-set_other (set ls j l) j p m no_living d ∙ get_or-set_other ls j p l no_living d;
      number = ap (λ (n : Living). n.state.number) there ∙ same;
      prefix = subst (λ (n : Living). Continues (at ls j).journal n.journal) (sym there) prefix;
    }

pub only_itself : (ls : List Living) (j : ℕ) → Only j ls ls
only_itself ls j = record {
  width = refl;
  others = λ p d. refl;
  number = refl;
  prefix = continues_itself (at ls j).journal;
}

pub only_then : (j : ℕ) (old mid new : List Living) → Only j old mid → Only j mid new → Only j old new
only_then j old mid new first next = record {
  width = next.width ∙ first.width;
  others = λ p d. next.others p d ∙ first.others p d;
  number = next.number ∙ first.number;
  prefix = continues_on (at old j).journal (at mid j).journal (at new j).journal first.prefix next.prefix;
}

-- ---- all places

module _ (j : ℕ) (old new : List Living) (only : Only j old new) where
  -- what held of those before, and holds of this one, holds of those up to here
  pub one_more : (P : Living → Type 0) → P (at new j) → ((p : ℕ) → p < j → P (at old p)) → (p : ℕ) → p < j + 1
      → P (at new p)
  one_more P here before p less = elim (cases_eq p j) [
    | inl e ↦ subst (λ (q : ℕ). P (at new q)) (sym e) here
    | inr d ↦ subst P (sym (only.others p d)) (before p (omega (arith, less, d)))
  ]

  -- what holds of all holds of all afterwards
  pub all_still : (P : Living → Type 0) → P (at new j) → ((p : ℕ) → p < length old → P (at old p)) → (p : ℕ)
      → p < length new → P (at new p)
  all_still P here each p less = elim (cases_eq p j) [
    | inl e ↦ subst (λ (q : ℕ). P (at new q)) (sym e) here
    | inr d ↦ subst P (sym (only.others p d)) (each p (omega (arith, less, only.width)))
  ]

  -- what held of those after holds of them
  pub rest_stays : (P : Living → Type 0) → ((p : ℕ) → j ≤ p → p < length old → P (at old p)) → (p : ℕ) → j + 1 ≤ p
      → p < length new → P (at new p)
  rest_stays P rest p f l =
      let other : p ≢ j = λ e. absurd (omega (arith, e, f)) in
      subst P (sym (only.others p other)) (rest p (omega (arith, f)) (omega (arith, l, only.width)))

  pub prefixes_still : (first : List Living) → KeepPrefixes first old → KeepPrefixes first new
  prefixes_still first prefixes p = elim (cases_eq p j) [
    | inl e ↦
        subst (λ (q : ℕ). Continues (at first q).journal (at new q).journal) (sym e)
        (continues_on (at first j).journal (at old j).journal (at new j).journal (prefixes j) only.prefix)
    | inr d ↦ subst (λ (m : Living). Continues (at first p).journal m.journal) (sym (only.others p d)) (prefixes p)
  ]

  pub placed_still : (t : Meaning) → j < length old → ArePlaced t old → ArePlaced t new
  placed_still t there placed = record {
    width = only.width ∙ placed.width;
    numbers = λ p l. elim (cases_eq p j) [
      | inl e ↦ ap (λ (q : ℕ). (at new q).state.number) e ∙ only.number ∙ placed.numbers j there ∙ sym e
      | inr d ↦
          ap (λ (m : Living). m.state.number) (only.others p d)
          ∙ placed.numbers p (omega (arith, l, only.width))
    ];
  }

  pub ready_still : (t : Meaning) → j < length old → AreReady t old → IsReady t (at new j) → AreReady t new
  ready_still t there ready here = record {
    placed = placed_still t there ready.placed;
    each = all_still (IsReady t) here ready.each;
  }

-- ---- numbers

pub length-below : (n : ℕ) → length (numbers_below n) ≡ n
length-below zero = refl
length-below (suc n) = length-append (numbers_below n) (n ∷ []) ∙ (let h = length-below n in omega (arith, h))

at_below : (n p : ℕ) → p < n → get_or (numbers_below n) p 0 ≡ p
at_below zero p less = absurd (omega (arith, less))
at_below (suc n) p less = elim (cases_eq p n) [
  | inl e ↦
      let long : length (numbers_below n) ≡ p = length-below n ∙ sym e in
      ap (λ (k : ℕ). get_or (numbers_below n ++ n ∷ []) k 0) (sym long)
      ∙ get_or-append_seam (numbers_below n) n [] 0
      ∙ sym e
  | inr d ↦
      let less : p < n = omega (arith, less, d) in
      get_or-append (numbers_below n) (n ∷ []) 0 p (omega (arith, less, length-below n)) ∙ at_below n p less
]

pub placed_from : (t : Meaning) (ls : List Living)
    → map (λ (l : Living). l.state.number) ls ≡ numbers_below (length t.lists) → ArePlaced t ls
placed_from t ls numbers =
    let wide : length ls ≡ length t.lists =
    sym (length-map ls (λ (l : Living). l.state.number)) ∙ ap length numbers ∙ length-below (length t.lists) in
    record {
      width = wide;
      numbers = λ p less.
          sym (get_or-map (λ (l : Living). l.state.number) ls p no_living 0 less)
          ∙ ap (λ (ns : List ℕ). get_or ns p 0) numbers
          ∙ at_below (length t.lists) p (omega (arith, less, wide));
    }

same_numbers : (xs ys : List ℕ) → length xs ≡ length ys → ((p : ℕ) → p < length xs → get_or xs p 0 ≡ get_or ys p 0)
    → xs ≡ ys
same_numbers [] [] e h = refl
same_numbers [] (y ∷ ys) e h = absurd (omega (arith, e))
same_numbers (x ∷ xs) [] e h = absurd (omega (arith, e))
same_numbers (x ∷ xs) (y ∷ ys) e h =
    let one : x ≡ y = h 0 (omega arith) in
    let rest : xs ≡ ys = same_numbers xs ys (omega (arith, e)) (λ p l. h (suc p) (omega (arith, l))) in
    λ i. one i ∷ rest i

numbers_from_places : (t : Meaning) (ls : List Living) → ArePlaced t ls
    → map (λ (l : Living). l.state.number) ls ≡ numbers_below (length t.lists)
numbers_from_places t ls placed =
    let f : Living → ℕ = λ l. l.state.number in
    let long : length (map f ls) ≡ length (numbers_below (length t.lists)) =
    length-map ls f ∙ placed.width ∙ sym (length-below (length t.lists)) in
    same_numbers (map f ls) (numbers_below (length t.lists)) long (λ p l.
    let less : p < length ls = omega (arith, l, length-map ls f) in
    get_or-map f ls p no_living 0 less
    ∙ placed.numbers p less
    ∙ sym (at_below (length t.lists) p (omega (arith, less, placed.width))))

pub in_prefix : (n : ℕ) (ls rest : List Living) → n ≡ length ls → take n (ls ++ rest) ≡ ls
in_prefix n ls rest whole = ap (λ (k : ℕ). take k (ls ++ rest)) whole ∙ take-append_seam ls rest

-- the same of members at the start of a list
pub numbers_in_prefix : (t : Meaning) (n : ℕ) (ls rest : List Living) → ArePlaced t ls → n ≡ length ls
    → map (λ (l : Living). l.state.number) (take n (ls ++ rest)) ≡ numbers_below (length t.lists)
numbers_in_prefix t n ls rest placed whole =
    ap (λ (xs : List Living). map (λ (l : Living). l.state.number) xs) (in_prefix n ls rest whole)
    ∙ numbers_from_places t ls placed
