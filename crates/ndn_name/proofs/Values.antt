-- The texts of values: periods alone stand for three fewer.
use Rattle.std.proofs.Common.{◌≡◌, ℕ, zero, suc, ◌-◌, ◌<◌, ◌≤◌, Bool, true, false, ◌&&◌, eqb, List, [], ◌∷◌, ◌++◌}
use Rattle.std.proofs.Common.{length, take, refl, sym, ap, subst, ◌∙◌, append_assoc, arith}
use Rattle.std.proofs.lemmas.Bool.{and_parts, eqb-true}
use Rattle.std.proofs.lemmas.List.{length-take-le}
use Rattle.ndn_name.specs.declared.name_fault.NameFault.{NameFault}
use Rattle.ndn_name.specs.declared.name_fault.NameFault.TheVariants.{Tlv, BadComponent, BadDigestLength, NameTooLong}
use Rattle.ndn_name.specs.declared.name_fault.NameFault.TheVariants.{BadUri, NoMemory}
use Rattle.ndn_name.specs.Uri.{plain, IsEscaped, are_periods, guarded, IsValueText}
use Rattle.ndn_name.specs.UriVerdict.{LeavesLanguage}
use Rattle.ndn_name.specs.UriReading.{FailsIn}
use Rattle.ndn_name.proofs.Escapes.{IsEscapedText, escaped-append, escaped-one, escaped-same}
use Rattle.ndn_name.proofs.LeavesLemmas.{Leaves-whole}

abbrev pub IsSomeValueText : List ℕ → Type 0
IsSomeValueText text = (value : List ℕ) × IsValueText value text

-- ---- periods

periods-same : (a b : List ℕ) → are_periods a ≡ true → are_periods b ≡ true → length a ≡ length b → a ≡ b
periods-same [] [] h k e = refl
periods-same [] (y ∷ b) h k e = absurd (omega arith)
periods-same (x ∷ a) [] h k e = absurd (omega arith)
periods-same (x ∷ a) (y ∷ b) h k e =
    let p = and_parts (eqb x 46) (are_periods a) h in
    let q = and_parts (eqb y 46) (are_periods b) k in
    let one : x ≡ y = omega (arith, eqb-true x 46 p.0, eqb-true y 46 q.0) in
    ap (λ (n : ℕ). n ∷ a) one ∙ ap (λ (t : List ℕ). y ∷ t) (periods-same a b p.1 q.1 (omega arith))

periods-take : (n : ℕ) (a : List ℕ) → are_periods a ≡ true → are_periods (take n a) ≡ true
periods-take zero a h = refl
periods-take (suc n) [] h = refl
periods-take (suc n) (x ∷ a) h =
    let p = and_parts (eqb x 46) (are_periods a) h in
    ap (λ (b : Bool). b && are_periods (take n a)) p.0 ∙ periods-take n a p.1

pub letter_after : (a : List ℕ) → are_periods (a ++ 97 ∷ []) ≡ false
letter_after [] = refl
letter_after (x ∷ a) = ap (λ (b : Bool). eqb x 46 && b) (letter_after a) ∙ never (eqb x 46) where
  never : (b : Bool) → (b && false) ≡ false
  never true = refl
  never false = refl

pub guarded-other : (a : List ℕ) → are_periods a ≡ false → guarded a ≡ a
guarded-other a h = rw h refl

pub guarded-periods : (a : List ℕ) → are_periods a ≡ true → guarded a ≡ 46 ∷ 46 ∷ 46 ∷ a
guarded-periods a h = rw h refl

-- ---- what periods alone stand for

pub value-periods : (octets text : List ℕ) → IsEscaped octets text → are_periods octets ≡ true → 3 ≤ length octets
    → IsValueText (take (length octets - 3) octets) text
value-periods octets text h periods long =
    let n = length octets - 3 in
    let fewer = take n octets in
    let size : length fewer ≡ n = length-take-le n octets (omega arith) in
    let rest = periods-take n octets periods in
    let same : octets ≡ 46 ∷ 46 ∷ 46 ∷ fewer =
    periods-same octets (46 ∷ 46 ∷ 46 ∷ fewer) periods rest (omega (arith, size)) in
    let P : List ℕ → Type 0 = λ x. IsEscaped x text in
    subst P (same ∙ sym (guarded-periods fewer rest)) h

pub value-other : (octets text : List ℕ) → IsEscaped octets text → are_periods octets ≡ false → IsValueText octets text
value-other octets text h other =
    let P : List ℕ → Type 0 = λ x. IsEscaped x text in subst P (sym (guarded-other octets other)) h

with_letter : (octets text : List ℕ) → IsEscaped octets text → IsSomeValueText (text ++ 97 ∷ [])
with_letter octets text h =
    let whole = escaped-append octets (97 ∷ []) text (97 ∷ []) h (escaped-one 97 (97 ∷ []) (plain refl refl)) in
    (octets ++ 97 ∷ [], value-other (octets ++ 97 ∷ []) (text ++ 97 ∷ []) whole (letter_after octets))

-- one or two periods, or nothing
pub value-short : (octets text : List ℕ) → IsEscaped octets text → are_periods octets ≡ true → length octets < 3
    → LeavesLanguage IsSomeValueText text (length text)
value-short octets text h periods short =
    Leaves-whole IsSomeValueText text (97 ∷ [], with_letter octets text h)
    (λ m. no_value m.0 (are_periods m.0) refl (escaped-same (guarded m.0) octets text m.1 h)) where
      no_value : (value : List ℕ) (b : Bool) → are_periods value ≡ b → guarded value ≡ octets → ⊥
      no_value value true k e = absurd (omega (arith, ap length (sym (guarded-periods value k) ∙ e)))
      no_value value false k e =
          let same : are_periods value ≡ are_periods octets = ap are_periods (sym (guarded-other value k) ∙ e) in
          absurd cc

-- ---- what leaves the texts of octets leaves those of values

pub value-leaves : (text : List ℕ) (k : ℕ) → LeavesLanguage IsEscapedText text k → LeavesLanguage IsSomeValueText text k
value-leaves text k h = record {
  within = h.within;
  goes_on = (
    h.goes_on.0 ++ 97 ∷ [],
    subst IsSomeValueText (append_assoc (take k text) h.goes_on.0 (97 ∷ []))
        (with_letter h.goes_on.1.0 (take k text ++ h.goes_on.0) h.goes_on.1.1),
  );
  breaks = λ lt more m. h.breaks lt more (guarded m.0, m.1);
  ends = λ m. h.ends (guarded m.0, m.1);
}

pub value-fails : (at : ℕ) (text : List ℕ) (f : NameFault) → FailsIn IsEscaped at text f → FailsIn IsValueText at text f
value-fails at text (BadUri place) h = (h.0, h.1, value-leaves text h.0 h.2)
value-fails at text NoMemory h = h
value-fails at text NameTooLong h = h
value-fails at text (Tlv f) h = h
value-fails at text (BadComponent p) h = h
value-fails at text (BadDigestLength p) h = h

-- a text has one value
pub value-same : (a b text : List ℕ) → IsValueText a text → IsValueText b text → a ≡ b
value-same a b text h k =
    unguarded a b (are_periods a) (are_periods b) refl refl (escaped-same (guarded a) (guarded b) text h k) where
      unguarded : (x y : List ℕ) (p q : Bool) → are_periods x ≡ p → are_periods y ≡ q → guarded x ≡ guarded y → x ≡ y
      unguarded x y true true d e g =
          let both : 46 ∷ 46 ∷ 46 ∷ x ≡ 46 ∷ 46 ∷ 46 ∷ y = sym (guarded-periods x d) ∙ g ∙ guarded-periods y e in cc
      unguarded x y true false d e g =
          let both : 46 ∷ 46 ∷ 46 ∷ x ≡ y = sym (guarded-periods x d) ∙ g ∙ guarded-other y e in
          let same : are_periods (46 ∷ 46 ∷ 46 ∷ x) ≡ are_periods y = ap are_periods both in
          absurd cc
      unguarded x y false true d e g =
          let both : x ≡ 46 ∷ 46 ∷ 46 ∷ y = sym (guarded-other x d) ∙ g ∙ guarded-periods y e in
          let same : are_periods x ≡ are_periods (46 ∷ 46 ∷ 46 ∷ y) = ap are_periods both in
          absurd cc
      unguarded x y false false d e g = sym (guarded-other x d) ∙ g ∙ guarded-other y e
