-- What is computed of the text of a value is what the text stands for.
use Rattle.std.proofs.Common.{◌≡◌, ℕ, zero, suc, ◌+◌, ◌*◌, ◌%◌, ◌<◌, ◌≤◌, ◌^◌, Bool, true, false, cond, not, ◌&&◌, ◌||◌}
use Rattle.std.proofs.Common.{ltb, leb, eqb, List, [], ◌∷◌, ◌++◌, length, get_or, Option, Some, None, refl, sym, ap}
use Rattle.std.proofs.Common.{subst, ◌∙◌, arith, rules, inl, inr}
use Rattle.std.specs.Char.{digit_value, is_ascii_digit}
use Rattle.std.specs.Fmt.{decimal}
use Rattle.std.specs.List.{list_all}
use Rattle.std.specs.Option.{option_map, option_and_then}
use Rattle.std.specs.Str.Parse.{digits_value}
use Rattle.std.proofs.lemmas.Bool.{false≢true, and_parts, and_from, or_left, or_right, not_from_false, eqb-true, eq-eqb}
use Rattle.std.proofs.lemmas.Bool.{lt-ltb, ltb-true, leb-true, le-leb}
use Rattle.std.proofs.lemmas.Bool.Decides.{nat_tests, eqb_tells}
use Rattle.std.proofs.lemmas.Fmt.{decimal_is_IsNumeral, decimal_nonempty, decimal_digit, decimal_by_steps}
use Rattle.std.proofs.lemmas.Fmt.{first_decimal, decimal-digits_value}
use Rattle.std.proofs.lemmas.List.Folds.{list_all-append}
use Rattle.std.proofs.lemmas.Option.{cond_some, option_and_then_some, none-some, same_Some}
use Rattle.std.proofs.lemmas.Str.Parse.{IsNumeralModel, numerals_by_value}
use Rattle.ndn_tlv.specs.NumberField.{number_field}
use Rattle.ndn_name.specs.Uri.{is_unreserved, IsPair, IsOctetText, plain, escape, IsEscaped, are_periods, guarded}
use Rattle.ndn_name.specs.Uri.{IsValueText, IsDigits, IsDigestText, IsDecimal, IsNumberText}
use Rattle.ndn_name.specs.UriText.{onto, is_escape, unescaped, after_three, unguarded, value_of_text, octets_of_digits}
use Rattle.ndn_name.specs.UriText.{digest_of_text, is_decimal, decimal_of_text, number_of_text}
use Rattle.ndn_name.proofs.Values.{guarded-other, guarded-periods}

-- ---- options

pub option_map_some : {A B : Type 0} (f : A → B) (o : Option A) (y : B) → option_map f o ≡ Some y
    → (x : A) × (o ≡ Some x) × (f x ≡ y)
option_map_some f None y h = absurd (none-some y h)
option_map_some f (Some x) y h = (x, refl, same_Some (f x) y h)

pub none_from : {A : Type 0} (o : Option A) → ((x : A) → o ≡ Some x → ⊥) → o ≡ None
none_from None h = refl
none_from (Some x) h = absurd (h x refl)

-- ---- escapes

plain_step : (c : ℕ) (text : List ℕ) → is_unreserved c ≡ true → unescaped (c ∷ text) ≡ onto c (unescaped text)
unfolding unescaped
plain_step c [] h = rw h refl
plain_step c (d ∷ []) h = rw h refl
plain_step c (d ∷ e ∷ text) h = rw h refl

escape_step : (high low : ℕ) (text : List ℕ) → digit_value high < 16 → digit_value low < 16
    → unescaped (37 ∷ high ∷ low ∷ text) ≡ onto (digit_value high * 16 + digit_value low) (unescaped text)
unfolding unescaped
escape_step high low text h l =
    rw (lt-ltb (digit_value high) 16 h, lt-ltb (digit_value low) 16 l) refl

-- an octet at the start
pub unescaped-octet : (octet : ℕ) (first rest : List ℕ) → IsOctetText octet first
    → unescaped (first ++ rest) ≡ onto octet (unescaped rest)
unescaped-octet octet first rest (plain free is) =
    ap unescaped (ap (λ (f : List ℕ). f ++ rest) is) ∙ plain_step octet rest free
unescaped-octet octet first rest (escape high low pair is) =
    ap unescaped (ap (λ (f : List ℕ). f ++ rest) is) ∙ escape_step high low rest pair.0 pair.1
    ∙ ap (λ (o : ℕ). onto o (unescaped rest)) (sym pair.2)

pub unescaped_is : (octets text : List ℕ) → IsEscaped octets text → unescaped text ≡ Some octets
unfolding unescaped
unescaped_is [] text h = rw h refl
unescaped_is (octet ∷ octets) text h =
    ap unescaped h.2 ∙ unescaped-octet octet h.0 h.1 h.3 ∙ ap (onto octet) (unescaped_is octets h.1 h.4)

-- a first octet, and what is read after it
plainly : (c : ℕ) (text octets : List ℕ) → is_unreserved c ≡ true
    → ((others : List ℕ) → unescaped text ≡ Some others → IsEscaped others text)
    → onto c (unescaped text) ≡ Some octets → IsEscaped octets (c ∷ text)
plainly c text octets free following h =
    let o = option_map_some (λ (others : List ℕ). c ∷ others) (unescaped text) octets h in
    rw (← o.2) (c ∷ [], text, refl, plain free refl, following o.0 o.1)

by_escape : (c d e : ℕ) (text octets : List ℕ) → is_escape c d e ≡ true
    → ((others : List ℕ) → unescaped text ≡ Some others → IsEscaped others text)
    → onto (digit_value d * 16 + digit_value e) (unescaped text) ≡ Some octets
    → IsEscaped octets (c ∷ d ∷ e ∷ text)
by_escape c d e text octets is following h =
    let octet = digit_value d * 16 + digit_value e in
    let o = option_map_some (λ (others : List ℕ). octet ∷ others) (unescaped text) octets h in
    let p = and_parts (eqb c 37 && ltb (digit_value d) 16) (ltb (digit_value e) 16) is in
    let q = and_parts (eqb c 37) (ltb (digit_value d) 16) p.0 in
    let pair : IsPair octet d e = (ltb-true (digit_value d) 16 q.1, ltb-true (digit_value e) 16 p.1, refl) in
    rw (← o.2, eqb-true c 37 q.0) (37 ∷ d ∷ e ∷ [], text, refl, escape d e pair refl, following o.0 o.1)

-- the ways that lead to a value
pub either : {A P : Type 0} (b : Bool) (x y : Option A) (v : A) → cond b x y ≡ Some v
    → (b ≡ true → x ≡ Some v → P) → (y ≡ Some v → P) → P
either true x y v h f g = f refl h
either false x y v h f g = g h

never : {P : Type 0} (octets : List ℕ) → None ≡ Some octets → P
never octets h = absurd (none-some octets h)

pub is_unescaped : (text octets : List ℕ) → unescaped text ≡ Some octets → IsEscaped octets text
unfolding unescaped
is_unescaped [] octets h = rw (← same_Some [] octets h) refl
is_unescaped (c ∷ []) octets h =
    either (is_unreserved c) (Some (c ∷ [])) None octets h
    (λ free k. plainly c [] octets free (λ others q. is_unescaped [] others q) k) (never octets)
is_unescaped (c ∷ d ∷ []) octets h =
    either (is_unreserved c) (onto c (unescaped (d ∷ []))) None octets h
    (λ free k. plainly c (d ∷ []) octets free (λ others q. is_unescaped (d ∷ []) others q) k) (never octets)
is_unescaped (c ∷ d ∷ e ∷ text) octets h =
    let octet = digit_value d * 16 + digit_value e in
    let escaped : Option (List ℕ) = cond (is_escape c d e) (onto octet (unescaped text)) None in
    either (is_unreserved c) (onto c (unescaped (d ∷ e ∷ text))) escaped octets h
    (λ free k. plainly c (d ∷ e ∷ text) octets free (λ others q. is_unescaped (d ∷ e ∷ text) others q) k)
    (λ k. either (is_escape c d e) (onto octet (unescaped text)) None octets k
    (λ is q. by_escape c d e text octets is (λ others r. is_unescaped text others r) q) (never octets))

-- ---- values

pub value_is : (value text : List ℕ) → IsValueText value text → value_of_text text ≡ Some value
value_is value text h =
    ap (option_and_then unguarded) (unescaped_is (guarded value) text h) ∙ by_test (are_periods value) refl where
      by_test : (b : Bool) → are_periods value ≡ b → unguarded (guarded value) ≡ Some value
      by_test true e = rw (guarded-periods value e, e) refl
      by_test false e = rw (guarded-other value e, e) refl

after_periods : (octets value : List ℕ) → are_periods octets ≡ true → after_three octets ≡ Some value
    → guarded value ≡ octets
after_periods [] value h k = absurd (none-some value k)
after_periods (a ∷ []) value h k = absurd (none-some value k)
after_periods (a ∷ b ∷ []) value h k = absurd (none-some value k)
after_periods (a ∷ b ∷ c ∷ octets) value h k =
    let p = and_parts (eqb a 46) (are_periods (b ∷ c ∷ octets)) h in
    let q = and_parts (eqb b 46) (are_periods (c ∷ octets)) p.1 in
    let r = and_parts (eqb c 46) (are_periods octets) q.1 in
    ap guarded (sym (same_Some octets value k)) ∙ guarded-periods octets r.1
    ∙ rw (eqb-true a 46 p.0, eqb-true b 46 q.0, eqb-true c 46 r.0) refl

pub is_value : (text value : List ℕ) → value_of_text text ≡ Some value → IsValueText value text
is_value text value h =
    option_and_then_some unguarded (unescaped text) value h
    (λ octets e k.
    subst (λ (x : List ℕ). IsEscaped x text) (sym (guarded_is octets k)) (is_unescaped text octets e)) where
      guarded_is : (octets : List ℕ) → unguarded octets ≡ Some value → guarded value ≡ octets
      guarded_is octets k = by_test (are_periods octets) refl where
        by_test : (b : Bool) → are_periods octets ≡ b → guarded value ≡ octets
        by_test true e = after_periods octets value e (rw e at k)
        by_test false e =
            let same : octets ≡ value = same_Some octets value (rw e at k) in
            ap guarded (sym same) ∙ guarded-other octets e

-- ---- digests

pub digits_are : (octets text : List ℕ) → IsDigits octets text → octets_of_digits text ≡ Some octets
unfolding octets_of_digits
digits_are [] text h = rw h refl
digits_are (octet ∷ octets) text h =
    let following : octets_of_digits h.2 ≡ Some octets = digits_are octets h.2 h.5 in
    rw (h.3, lt-ltb (digit_value h.0) 16 h.4.0, lt-ltb (digit_value h.1) 16 h.4.1, following, h.4.2) refl

pub are_digits : (text octets : List ℕ) → octets_of_digits text ≡ Some octets → IsDigits octets text
unfolding octets_of_digits
are_digits [] octets h = rw (← same_Some [] octets h) refl
are_digits (high ∷ []) octets h = absurd (none-some octets h)
are_digits (high ∷ low ∷ text) octets h =
    let octet = digit_value high * 16 + digit_value low in
    either (ltb (digit_value high) 16 && ltb (digit_value low) 16) (onto octet (octets_of_digits text)) None octets h
    (λ small k.
    let o = option_map_some (λ (others : List ℕ). octet ∷ others) (octets_of_digits text) octets k in
    let p = and_parts (ltb (digit_value high) 16) (ltb (digit_value low) 16) small in
    let pair : IsPair octet high low = (ltb-true (digit_value high) 16 p.0, ltb-true (digit_value low) 16 p.1, refl) in
    rw (← o.2) (high, low, text, refl, pair, are_digits text o.0 o.1))
    (never octets)

pub digest_is : (value text : List ℕ) → IsDigestText value text → digest_of_text text ≡ Some value
digest_is value text h = rw (digits_are value text h.1, h.0) refl

pub is_digest_text : (text value : List ℕ) → digest_of_text text ≡ Some value → IsDigestText value text
is_digest_text text value h =
    option_and_then_some (λ (octets : List ℕ). cond (eqb (length octets) 32) (Some octets) None)
    (octets_of_digits text) value h
    (λ octets e k.
    let c = cond_some (eqb (length octets) 32) octets value k in
    subst (λ (x : List ℕ). IsDigestText x text) c.1 (eqb-true (length octets) 32 c.0, are_digits text octets e))

-- ---- numbers in decimal

pub numerals : IsNumeralModel (λ ds. list_all is_ascii_digit ds ≡ true) (digits_value 10)
numerals = numerals_by_value _ (search rules)

pub digit_of : (d : ℕ) → d < 10 → is_ascii_digit (48 + d) ≡ true
digit_of d h = grind (arith, nat_tests)

pub decimal_digits : (n : ℕ) → n < 2 ^ 64 → list_all is_ascii_digit (decimal n) ≡ true
decimal_digits n small = decimal_by_steps (λ _ ds. list_all is_ascii_digit ds ≡ true) one more n small where
  one : (d : ℕ) → d < 10 → list_all is_ascii_digit ((48 + d) ∷ []) ≡ true
  one d lt = and_from (is_ascii_digit (48 + d)) true (digit_of d lt) refl

  more : (m : ℕ) (ds : List ℕ) → 10 ≤ m → list_all is_ascii_digit ds ≡ true
      → list_all is_ascii_digit (ds ++ (48 + m % 10) ∷ []) ≡ true
  more m ds le h =
      list_all-append is_ascii_digit ds ((48 + m % 10) ∷ [])
      ∙ and_from (list_all is_ascii_digit ds) _ h (one (m % 10) (omega arith))

pub first_of_decimal : (n : ℕ) → n < 2 ^ 64 → get_or (decimal n) 0 0 ≡ 48 → length (decimal n) ≡ 1
first_of_decimal zero small h = ap length (decimal_digit 0 (omega arith))
first_of_decimal (suc n) small h =
    let some = first_decimal (suc n) (omega arith) small in
    absurd (omega arith)

pub zero_alone : (c n : ℕ) → (c ≡ 48 → n ≡ 0) → (not (eqb c 48) || eqb n 0) ≡ true
zero_alone c n h =
    elim (eqb_tells c 48) [
      | inl p ↦ or_right (not (eqb c 48)) (eqb n 0) (eq-eqb n 0 (h p.1))
      | inr p ↦ or_left (not (eqb c 48)) (eqb n 0) (not_from_false (eqb c 48) p.0)
    ]

pub zero_first : (c n : ℕ) → (not (eqb c 48) || eqb n 0) ≡ true → c ≡ 48 → n ≡ 0
zero_first c n h e = grind (arith, nat_tests)

decimal_from : (ds : List ℕ) → 0 < length ds → list_all is_ascii_digit ds ≡ true
    → (get_or ds 0 0 ≡ 48 → length ds ≡ 1) → is_decimal ds ≡ true
decimal_from [] some digits first = absurd (omega arith)
decimal_from (c ∷ cs) some digits first =
    let alone : c ≡ 48 → length cs ≡ 0 = λ h. (let one = first h in omega arith) in
    and_from (not (eqb c 48) || eqb (length cs) 0) (list_all is_ascii_digit (c ∷ cs))
    (zero_alone c (length cs) alone) digits

pub decimal_is : (most n : ℕ) (text : List ℕ) → most < 2 ^ 64 → IsDecimal most n text
    → decimal_of_text most text ≡ Some n
decimal_is most n text small h =
    let low : n < 2 ^ 64 = omega (arith, h.0) in
    let numeral = decimal_from (decimal n) (decimal_nonempty n low) (decimal_digits n low) (first_of_decimal n low) in
    rw (h.1, numeral, (decimal_is_IsNumeral n low).1, le-leb n most h.0) refl

-- a numeral is the decimal of its value
printed_again : (ds : List ℕ) → is_decimal ds ≡ true → digits_value 10 ds < 2 ^ 64
    → decimal (digits_value 10 ds) ≡ ds
printed_again [] h small = absurd (false≢true h)
printed_again (c ∷ cs) h small =
    let p = and_parts (not (eqb c 48) || eqb (length cs) 0) (list_all is_ascii_digit (c ∷ cs)) h in
    let first : c ≡ 48 → length (c ∷ cs) ≡ 1 = λ e. (let none = zero_first c (length cs) p.0 e in omega arith) in
    decimal-digits_value numerals (c ∷ cs) p.1 (omega arith) first small

pub is_decimal_text : (most n : ℕ) (text : List ℕ) → most < 2 ^ 64 → decimal_of_text most text ≡ Some n
    → IsDecimal most n text
is_decimal_text most n text small h =
    let c = cond_some (is_decimal text && leb (digits_value 10 text) most) (digits_value 10 text) n h in
    let p = and_parts (is_decimal text) (leb (digits_value 10 text) most) c.0 in
    let le : digits_value 10 text ≤ most = leb-true (digits_value 10 text) most p.1 in
    rw (← c.1) (le, sym (printed_again text p.0 (omega (arith, le))))

-- numbers that a keyword stands before
abbrev some_octets : List ℕ → Option (List ℕ)
some_octets octets = Some octets

pub number_is : (value text : List ℕ) → IsNumberText value text → number_of_text text ≡ Some value
number_is value text h =
    ap (option_map number_field) (decimal_is 18446744073709551615 h.0 text (omega arith) h.2)
    ∙ ap some_octets (sym h.1)

pub is_number : (text value : List ℕ) → number_of_text text ≡ Some value → IsNumberText value text
is_number text value h =
    let m = option_map_some number_field (decimal_of_text 18446744073709551615 text) value h in
    (m.0, sym m.2, is_decimal_text 18446744073709551615 m.0 text (omega arith) m.1)
