-- The decimal texts of numbers up to a limit.
use Rattle.std.proofs.Common.{◌≡◌, ℕ, zero, suc, ◌+◌, ◌*◌, ◌/◌, ◌%◌, ◌^◌, ◌<◌, ◌≤◌, Bool, true, false, cond, ◌&&◌, not}
use Rattle.std.proofs.Common.{ltb, leb, eqb, List, [], ◌∷◌, ◌++◌, length, get_or, Option, Some, None, refl, sym, ap}
use Rattle.std.proofs.Common.{subst, ◌∙◌, arith, inl, inr}
use Rattle.std.specs.Char.{digit_value}
use Rattle.std.specs.Fmt.{decimal}
use Rattle.std.specs.Str.Parse.{AllDigits, digits_value, digits_value_after}
use Rattle.std.proofs.lemmas.Bool.{cases_lt, ltb-true, ltb-false, leb-true, leb-false, eqb-true, and_parts}
use Rattle.std.proofs.lemmas.List.{append-nil}
use Rattle.std.proofs.lemmas.Fmt.{decimal_is_IsNumeral, decimal_digit, decimal_step, decimal_nonempty, first_decimal}
use Rattle.std.proofs.lemmas.Fmt.{decimal_injective}
use Rattle.std.proofs.lemmas.Option.{same_Some}
use Rattle.ndn_name.specs.Uri.{IsDecimal}
use Rattle.ndn_name.specs.UriVerdict.{LeavesLanguage}
use Rattle.ndn_name.specs.UriReading.{with_digit}
use Rattle.ndn_name.proofs.LeavesLemmas.{Leaves-after, Leaves-first, Leaves-end}

abbrev pub IsSomeDecimal : ℕ → List ℕ → Type 0
IsSomeDecimal most text = (n : ℕ) × IsDecimal most n text

-- the number that was read so far
abbrev pub SoFar : ℕ → Option ℕ → List ℕ → Type 0
SoFar most None text = text ≡ []
SoFar most (Some n) text = IsDecimal most n text

-- ---- values of digits

after-append : (n : ℕ) (a b : List ℕ)
    → digits_value_after 10 n (a ++ b) ≡ digits_value_after 10 (digits_value_after 10 n a) b
after-append n [] b = refl
after-append n (c ∷ a) b = after-append (n * 10 + digit_value c) a b

after-ge : (n : ℕ) (a : List ℕ) → n ≤ digits_value_after 10 n a
after-ge n [] = omega arith
after-ge n (c ∷ a) = omega (arith, after-ge (n * 10 + digit_value c) a)

all-after : (a b : List ℕ) → AllDigits 10 (a ++ b) → AllDigits 10 b
all-after [] b h = h
all-after (c ∷ a) b h = all-after a b h.1

pub digit_char : (c : ℕ) → digit_value c < 10 → c ≡ 48 + digit_value c
digit_char c h = grind arith

value_of : (n : ℕ) → n < 2 ^ 64 → digits_value 10 (decimal n) ≡ n
value_of n h = (decimal_is_IsNumeral n h).1

digits_of : (n : ℕ) → n < 2 ^ 64 → AllDigits 10 (decimal n)
digits_of n h = (decimal_is_IsNumeral n h).0.1

-- one digit more
decimal-push : (n c : ℕ) → 0 < n → digit_value c < 10 → n * 10 + digit_value c < 2 ^ 64
    → decimal (n * 10 + digit_value c) ≡ decimal n ++ c ∷ []
decimal-push n c some small fits =
    let longer = n * 10 + digit_value c in
    let prefix : longer / 10 ≡ n = omega arith in
    let last : longer % 10 ≡ digit_value c = omega arith in
    let char : 48 + longer % 10 ≡ c = omega (arith, last, digit_char c small) in
    decimal_step longer (omega arith) fits
    ∙ ap (λ (k : ℕ). decimal k ++ (48 + longer % 10) ∷ []) prefix
    ∙ ap (λ (k : ℕ). decimal n ++ k ∷ []) char

abbrev some_number : ℕ → Option ℕ
some_number n = Some n

guard_some : (b : Bool) (m n : ℕ) → cond b (some_number m) None ≡ Some n → (b ≡ true) × (m ≡ n)
guard_some true m n e = (refl, same_Some m n e)
guard_some false m n e = absurd cc

guard_none : (b : Bool) (m : ℕ) → cond b (some_number m) None ≡ None → b ≡ false
guard_none true m e = absurd cc
guard_none false m e = refl

pub longer-some : (most : ℕ) (number : Option ℕ) (w : List ℕ) (c n : ℕ) → most < 2 ^ 64 → 9 ≤ most → SoFar most number w
    → with_digit most number c ≡ Some n → SoFar most (Some n) (w ++ c ∷ [])
unfolding with_digit
longer-some most None w c n fits digit so_far e =
    let g = guard_some (ltb (digit_value c) 10) (digit_value c) n e in
    let small : digit_value c < 10 = ltb-true (digit_value c) 10 g.0 in
    let char : 48 + n ≡ c = omega (arith, digit_char c small, g.1) in
    let text = decimal_digit n (omega (arith, g.1)) ∙ ap (λ (k : ℕ). k ∷ []) char in
    (omega (arith, g.1), ap (λ (t : List ℕ). t ++ c ∷ []) so_far ∙ sym text)
longer-some most (Some m) w c n fits digit so_far e =
    let g =
    guard_some (ltb (digit_value c) 10 && not (eqb m 0) && leb (m * 10 + digit_value c) most) (m * 10 + digit_value c) n
    e in
    let outer = and_parts (ltb (digit_value c) 10 && not (eqb m 0)) (leb (m * 10 + digit_value c) most) g.0 in
    let inner = and_parts (ltb (digit_value c) 10) (not (eqb m 0)) outer.0 in
    let small : digit_value c < 10 = ltb-true (digit_value c) 10 inner.0 in
    let low : m * 10 + digit_value c ≤ most = leb-true (m * 10 + digit_value c) most outer.1 in
    let text =
    ap (λ (t : List ℕ). t ++ c ∷ []) so_far.1 ∙ sym (decimal-push m c (some m inner.1) small (omega arith)) in
    (omega (arith, g.1), text ∙ ap (λ (k : ℕ). decimal k) g.1) where
      some : (k : ℕ) → not (eqb k 0) ≡ true → 0 < k
      some zero h = absurd cc
      some (suc k) h = omega arith

-- a digit that can't follow
stuck : (most : ℕ) (number : Option ℕ) (w : List ℕ) (c : ℕ) → most < 2 ^ 64 → SoFar most number w
    → with_digit most number c ≡ None → (more : List ℕ) (n : ℕ) → n ≤ most → w ++ c ∷ more ≡ decimal n → ⊥
unfolding with_digit
stuck most None w c fits so_far e more n low text =
    let no_digit : 10 ≤ digit_value c =
    ltb-false (digit_value c) 10 (guard_none (ltb (digit_value c) 10) (digit_value c) e) in
    let P : List ℕ → Type 0 = λ t. AllDigits 10 t in
    let all = all-after w (c ∷ more) (subst P (sym text) (digits_of n (omega arith))) in
    absurd (omega (arith, all.0))
stuck most (Some m) w c fits so_far e more n low text =
    let P : List ℕ → Type 0 = λ t. AllDigits 10 t in
    let all = all-after w (c ∷ more) (subst P (sym text) (digits_of n (omega arith))) in
    no_next (ltb (digit_value c) 10) (not (eqb m 0)) (leb (m * 10 + digit_value c) most) refl refl refl all.0
    (guard_none (ltb (digit_value c) 10 && not (eqb m 0) && leb (m * 10 + digit_value c) most) (m * 10 + digit_value c)
    e) where
      zero_first : m ≡ 0 → ⊥
      zero_first none =
          let zero_text : w ≡ 48 ∷ [] = so_far.1 ∙ ap (λ (k : ℕ). decimal k) none ∙ decimal_digit 0 (omega arith) in
          let whole : 48 ∷ c ∷ more ≡ decimal n = ap (λ (t : List ℕ). t ++ c ∷ more) (sym zero_text) ∙ text in
          elim (cases_lt 0 n) [
            | inl some ↦
                let first = first_decimal n some (omega arith) in
                absurd (omega (arith, first, ap (λ (t : List ℕ). get_or t 0 0) whole))
            | inr nothing ↦
                let is : n ≡ 0 = omega arith in
                absurd (omega (arith, ap length (whole ∙ ap (λ (k : ℕ). decimal k) is ∙ decimal_digit 0 (omega arith))))
          ]

      too_large : most < m * 10 + digit_value c → ⊥
      too_large large =
          let value : digits_value 10 w ≡ m = ap (digits_value 10) so_far.1 ∙ value_of m (omega (arith, so_far.0)) in
          let whole = sym (after-append 0 w (c ∷ more)) ∙ ap (digits_value 10) text ∙ value_of n (omega arith) in
          absurd (omega (arith, value, whole, large, after-ge (digits_value 10 w * 10 + digit_value c) more))

      no_next : (a b d : Bool) → ltb (digit_value c) 10 ≡ a → not (eqb m 0) ≡ b → leb (m * 10 + digit_value c) most ≡ d
          → digit_value c < 10 → (a && b && d) ≡ false → ⊥
      no_next false b d p q r small h = absurd (omega (arith, ltb-false (digit_value c) 10 p))
      no_next true false d p q r small h = zero_first (is_zero (eqb m 0) refl q) where
        is_zero : (e : Bool) → eqb m 0 ≡ e → not e ≡ false → m ≡ 0
        is_zero true k g = eqb-true m 0 k
        is_zero false k g = let no_way : true ≡ false = g in absurd cc
      no_next true true false p q r small h = too_large (leb-false (m * 10 + digit_value c) most r)
      no_next true true true p q r small h = let k : true ≡ false = h in absurd cc

goes_on : (most : ℕ) (number : Option ℕ) (w : List ℕ) → SoFar most number w
    → (more : List ℕ) × IsSomeDecimal most (w ++ more)
goes_on most None w so_far = (decimal 0, (0, (omega arith, ap (λ (t : List ℕ). t ++ decimal 0) so_far)))
goes_on most (Some n) w so_far = ([], (n, (so_far.0, append-nil w ∙ so_far.1)))

pub longer-none : (most : ℕ) (number : Option ℕ) (w : List ℕ) (c : ℕ) (rest : List ℕ) → most < 2 ^ 64
    → SoFar most number w → with_digit most number c ≡ None
    → LeavesLanguage (IsSomeDecimal most) (w ++ c ∷ rest) (length w)
longer-none most number w c rest fits so_far e =
    let P : ℕ → Type 0 = λ k. LeavesLanguage (IsSomeDecimal most) (w ++ c ∷ rest) k in
    let here : length w + 0 ≡ length w = omega arith in
    subst P here (Leaves-after (λ t. IsSomeDecimal most (w ++ t)) (IsSomeDecimal most) w (c ∷ rest) 0 (λ t m. m)
    (λ t m. m) (Leaves-first (λ t. IsSomeDecimal most (w ++ t)) c rest (goes_on most number w so_far)
    (λ more m. stuck most number w c fits so_far e more m.0 m.1.0 m.1.1)))

pub decimal-empty : (most : ℕ) (text : List ℕ) → most < 2 ^ 64 → text ≡ [] → LeavesLanguage (IsSomeDecimal most) text 0
decimal-empty most text fits e =
    let P : List ℕ → Type 0 = λ t. LeavesLanguage (IsSomeDecimal most) t 0 in
    subst P (sym e)
    (Leaves-end (IsSomeDecimal most) (decimal 0, (0, (omega arith, refl)))
    (λ m. absurd (omega (arith, m.1.0, ap length m.1.1, decimal_nonempty m.0 (omega (arith, m.1.0))))))

pub decimal-same : (most m n : ℕ) (text : List ℕ) → most < 2 ^ 64 → IsDecimal most m text → IsDecimal most n text
    → m ≡ n
decimal-same most m n text fits h k = decimal_injective m n (omega (arith, h.0)) (omega (arith, k.0)) (sym h.1 ∙ k.1)
