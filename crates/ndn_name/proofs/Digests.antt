-- The texts of digests: two digits for each octet.
use Rattle.std.proofs.Common.{◌≡◌, ℕ, zero, suc, ◌+◌, ◌*◌, ◌-◌, ◌<◌, List, [], ◌∷◌, ◌++◌, length, length-append, Err}
use Rattle.std.proofs.Common.{refl, sym, ap, subst, ◌∙◌, arith}
use Rattle.std.specs.Char.{digit_value}
use Rattle.std.proofs.lemmas.List.{append-nil}
use Rattle.ndn_name.specs.declared.name_fault.NameFault.{NameFault}
use Rattle.ndn_name.specs.Uri.{IsDigits, IsDigestText}
use Rattle.ndn_name.specs.UriVerdict.{LeavesLanguage}
use Rattle.ndn_name.specs.UriReading.{FailsIn, pair_at}
use Rattle.ndn_name.proofs.Escapes.{TakesPair, BeginsWithPair, pair-leaves, pair-same}
use Rattle.ndn_name.proofs.LeavesLemmas.{Leaves-after, Leaves-first}

abbrev pub IsSomeDigest : List ℕ → Type 0
IsSomeDigest text = (value : List ℕ) × IsDigestText value text

pub digits-append : (a b x y : List ℕ) → IsDigits a x → IsDigits b y → IsDigits (a ++ b) (x ++ y)
digits-append [] b x y h k = let P : List ℕ → Type 0 = λ t. IsDigits b (t ++ y) in subst P (sym h) k
digits-append (o ∷ a) b x y h k =
    (h.0, h.1, h.2 ++ y, ap (λ (t : List ℕ). t ++ y) h.3, h.4, digits-append a b h.2 y h.5 k)

pub record AfterDigits (value prefix text : List ℕ) : Type 0 where
  pub others : List ℕ
  pub parts : value ≡ prefix ++ others
  pub read : IsDigits others text

pub digits-prefix : (a value prefix t : List ℕ) → IsDigits a prefix → IsDigits value (prefix ++ t)
    → AfterDigits value a t
digits-prefix [] value prefix t h e =
    let P : List ℕ → Type 0 = λ x. IsDigits value (x ++ t) in
    record { others = value; parts = refl; read = subst P h e }
digits-prefix (o ∷ a) [] prefix t h e = absurd (omega (arith, ap length e, ap length h.3, length-append prefix t))
digits-prefix (o ∷ a) (p ∷ value) prefix t h e =
    let both : p ∷ value ≡ p ∷ value = refl in
    let texts : h.0 ∷ h.1 ∷ (h.2 ++ t) ≡ e.0 ∷ e.1 ∷ e.2 = sym (ap (λ (x : List ℕ). x ++ t) h.3) ∙ e.3 in
    let high : h.0 ≡ e.0 = cc in
    let low : h.1 ≡ e.1 = cc in
    let rest : h.2 ++ t ≡ e.2 = cc in
    let P : List ℕ → Type 0 = λ x. IsDigits value x in
    let others = digits-prefix a value h.2 t h.5 (subst P (sym rest) e.5) in
    let octet : o ≡ p = pair-same o p h.0 h.1 e.0 e.1 h.4 e.4 high low in
    record {
      others = others.others;
      parts = ap (λ (n : ℕ). n ∷ value) (sym octet) ∙ ap (λ (x : List ℕ). o ∷ x) others.parts;
      read = others.read;
    }

pub digits-same : (a b text : List ℕ) → IsDigits a text → IsDigits b text → a ≡ b
digits-same a b text h k =
    let P : List ℕ → Type 0 = λ x. IsDigits b x in
    let prefix = digits-prefix a b text [] h (subst P (sym (append-nil text)) k) in
    sym (prefix.parts ∙ ap (λ (x : List ℕ). a ++ x) (nothing prefix.others prefix.read) ∙ append-nil a) where
      nothing : (octets : List ℕ) → IsDigits octets [] → octets ≡ []
      nothing [] e = refl
      nothing (o ∷ octets) e = let g = e.3 in absurd cc

-- zeros to fill a digest up
abbrev zeros : ℕ → List ℕ
zeros zero = []
zeros (suc n) = 0 ∷ zeros n

abbrev zero_digits : ℕ → List ℕ
zero_digits zero = []
zero_digits (suc n) = 48 ∷ 48 ∷ zero_digits n

length-zeros : (n : ℕ) → length (zeros n) ≡ n
length-zeros zero = refl
length-zeros (suc n) = omega (arith, length-zeros n)

zeros_read : (n : ℕ) → IsDigits (zeros n) (zero_digits n)
zeros_read zero = refl
zeros_read (suc n) = (48, 48, zero_digits n, refl, (omega arith, omega arith, refl), zeros_read n)

-- what may follow the fingerprint of a digest
abbrev Continues : List ℕ → List ℕ → Type 0
Continues prefix t = IsSomeDigest (prefix ++ t)

begins_digits : (a prefix : List ℕ) → IsDigits a prefix → length a < 32 → BeginsWithPair (Continues prefix)
begins_digits a prefix read short =
    record { only = λ t m. two t (digits-prefix a m.0 prefix t read m.1.1) m.1.0; goes = goes } where
      first : (t others : List ℕ) → IsDigits others t → 0 < length others
          → (h : ℕ) × (l : ℕ) × (r : List ℕ) × (t ≡ h ∷ l ∷ r) × (digit_value h < 16) × (digit_value l < 16)
      first t [] e some = absurd (omega arith)
      first t (o ∷ others) e some = (e.0, e.1, e.2, e.3, e.4.0, e.4.1)

      two : {value : List ℕ} (t : List ℕ) → AfterDigits value a t → length value ≡ 32
          → (h : ℕ) × (l : ℕ) × (r : List ℕ) × (t ≡ h ∷ l ∷ r) × (digit_value h < 16) × (digit_value l < 16)
      two t b long = first t b.others b.read (omega (arith, long, ap length b.parts, length-append a b.others))

      goes : (h l : ℕ) → digit_value h < 16 → digit_value l < 16
          → (more : List ℕ) × IsSomeDigest (prefix ++ h ∷ l ∷ more)
      goes h l p q =
          let n = 31 - length a in
          let octet = digit_value h * 16 + digit_value l in
          let following : IsDigits (octet ∷ zeros n) (h ∷ l ∷ zero_digits n) =
          (h, l, zero_digits n, refl, (p, q, refl), zeros_read n) in
          let long : length (a ++ octet ∷ zeros n) ≡ 32 =
          omega (arith, length-append a (octet ∷ zeros n), length-zeros n) in (
            zero_digits n,
            (
              a ++ octet ∷ zeros n,
              (
                long,
                digits-append a (octet ∷ zeros n) prefix (h ∷ l ∷ zero_digits n) read
                    following,
              ),
            ),
          )

-- a pair that is no pair
pub digest-pair_fails : (at : ℕ) (a prefix rest text : List ℕ) (f : NameFault) → IsDigits a prefix → length a < 32
    → prefix ++ rest ≡ text → pair_at (at + (length text - length rest)) rest ≡ Err f → FailsIn IsDigestText at text f
digest-pair_fails at a prefix rest text f read short split e =
    let p =
    pair-leaves (Continues prefix) (begins_digits a prefix read short) (at + (length text - length rest)) rest f e in
    let there : at + (length text - length rest) + p.place ≡ at + (length prefix + p.place) =
    omega (arith, ap length split, length-append prefix rest) in
    let P : List ℕ → Type 0 = λ t. LeavesLanguage IsSomeDigest t (length prefix + p.place) in
    let Q : NameFault → Type 0 = λ x. FailsIn IsDigestText at text x in
    subst Q p.fault (
      length prefix + p.place,
      there,
      subst P split (Leaves-after (Continues prefix) IsSomeDigest prefix rest p.place (λ t m. m) (λ t m. m) p.leaves),
    )

-- octets after a whole digest
pub digest-long : (a prefix text : List ℕ) (c : ℕ) (rest : List ℕ) → IsDigits a prefix → length a ≡ 32
    → prefix ++ c ∷ rest ≡ text → LeavesLanguage IsSomeDigest text (length prefix + 0)
digest-long a prefix text c rest read long split =
    let P : List ℕ → Type 0 = λ t. LeavesLanguage IsSomeDigest t (length prefix + 0) in
    let whole : IsSomeDigest (prefix ++ []) =
    (a ++ [], (omega (arith, long, length-append a []), digits-append a [] prefix [] read refl)) in
    subst P split
    (Leaves-after (Continues prefix) IsSomeDigest prefix (c ∷ rest) 0 (λ t m. m) (λ t m. m)
    (Leaves-first (Continues prefix) c rest ([], whole)
    (λ more m. none more (digits-prefix a m.0 prefix (c ∷ more) read m.1.1) m.1.0))) where
      empty : (t others : List ℕ) → IsDigits others t → length others ≡ 0 → length t ≡ 0
      empty t [] e none = ap length e
      empty t (o ∷ others) e none = absurd (omega arith)

      none : {value : List ℕ} (more : List ℕ) → AfterDigits value a (c ∷ more) → length value ≡ 32 → ⊥
      none more b size =
          absurd (omega (
            arith,
            empty (c ∷ more) b.others b.read (omega (arith, size, long, ap length b.parts, length-append a b.others)),
          ))

pub length-digits : (a prefix : List ℕ) → IsDigits a prefix → length prefix ≡ 2 * length a
length-digits [] prefix h = omega (arith, ap length h)
length-digits (o ∷ a) prefix h = omega (arith, ap length h.3, length-digits a h.2 h.5)

pub digits-push : (a prefix : List ℕ) (text : List ℕ) (octet : ℕ) (rest : List ℕ) → IsDigits a prefix
    → TakesPair text octet rest
    → (first : List ℕ) × (text ≡ first ++ rest) × IsDigits (a ++ octet ∷ []) (prefix ++ first)
digits-push a prefix text octet rest read t =
    let first : List ℕ = t.high ∷ t.low ∷ [] in
    (first, t.split, digits-append a (octet ∷ []) prefix first read (t.high, t.low, [], refl, t.pair, refl))
