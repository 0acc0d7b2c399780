-- The texts of octets: what is read at the start, and where a text leaves them.
use Rattle.std.proofs.Common.{◌≡◌, ℕ, ◌+◌, ◌*◌, ◌<◌, true, false, cond, ltb, eqb, List, [], ◌∷◌, ◌++◌, length}
use Rattle.std.proofs.Common.{length-append, Result, Ok, Err, refl, sym, ap, subst, ◌∙◌, append_assoc, arith, ◌⊎◌, inl}
use Rattle.std.proofs.Common.{inr}
use Rattle.std.specs.Char.{digit_value}
use Rattle.std.proofs.lemmas.Bool.{ltb-true, ltb-false, eqb-true, eqb-false}
use Rattle.std.proofs.lemmas.List.{append-nil}
use Rattle.ndn_tlv.specs.Listing.{◌>>=◌}
use Rattle.ndn_tlv.proofs.Steps.{chosen, bind_ok, ok_is}
use Rattle.ndn_name.specs.declared.name_fault.NameFault.{NameFault}
use Rattle.ndn_name.specs.declared.name_fault.NameFault.TheVariants.{BadUri}
use Rattle.ndn_name.specs.Uri.{is_unreserved, IsPair, IsOctetText, plain, escape, IsEscaped}
use Rattle.ndn_name.specs.UriVerdict.{LeavesLanguage}
use Rattle.ndn_name.specs.UriReading.{digit_at, pair_at, octet_at}
use Rattle.ndn_name.proofs.Encodings.{done}
use Rattle.ndn_name.proofs.LeavesLemmas.{Leaves-after, Leaves-first, Leaves-end}

-- ---- steps that fail

bind_err : {A B : Type 0} (r : Result A NameFault) (f : A → Result B NameFault) (e : NameFault) → (r >>= f) ≡ Err e
    → (r ≡ Err e) ⊎ ((x : A) × (r ≡ Ok x) × (f x ≡ Err e))
bind_err (Ok x) f e h = inr (x, refl, h)
bind_err {A} {B} (Err d) f e h =
    inl (let g : d ≡ e = cc in ap (λ (x : NameFault). let y : Result A NameFault = Err x in y) g)

abbrev failed : {A : Type 0} → NameFault → Result A NameFault
failed f = Err f

err_is : {A : Type 0} (x y : NameFault) → failed {A = A} x ≡ failed {A = A} y → x ≡ y
err_is x y e = cc

-- ---- digits

abbrev NoDigit : List ℕ → Type 0
NoDigit [] = Unit {0}
NoDigit (c ∷ text) = digit_value c < 16 → ⊥

digit-fails : (at : ℕ) (text : List ℕ) (f : NameFault) → digit_at at text ≡ Err f → (BadUri at ≡ f) × NoDigit text
unfolding digit_at
digit-fails at [] f e = (err_is (BadUri at) f e, tt)
digit-fails at (c ∷ text) f e =
    elim (chosen (ltb (digit_value c) 16) (done (digit_value c, text)) (failed (BadUri at)) (failed f) e) [
      | inl a ↦ absurd (let h = a.1 in cc)
      | inr a ↦ (err_is (BadUri at) f a.1, λ lt. let le = ltb-false (digit_value c) 16 a.0 in omega arith)
    ]

pub record TakesDigit (text : List ℕ) (d : ℕ) (rest : List ℕ) : Type 0 where
  pub digit : ℕ
  pub split : text ≡ digit ∷ rest
  pub small : digit_value digit < 16
  pub value : digit_value digit ≡ d

digit-takes : (at : ℕ) (text : List ℕ) (x : ℕ × List ℕ) → digit_at at text ≡ Ok x → TakesDigit text x.0 x.1
unfolding digit_at
digit-takes at [] x e = absurd cc
digit-takes at (c ∷ text) x e =
    elim (chosen (ltb (digit_value c) 16) (done (digit_value c, text)) (failed (BadUri at)) (done x) e) [
      | inl a ↦
          let same = ok_is (digit_value c, text) x a.1 in
          record {
            digit = c;
            split = ap (λ (p : ℕ × List ℕ). c ∷ p.1) same;
            small = ltb-true (digit_value c) 16 a.0;
            value = ap (λ (p : ℕ × List ℕ). p.0) same;
          }
      | inr a ↦ absurd (let h = a.1 in cc)
    ]

pub record TakesPair (text : List ℕ) (octet : ℕ) (rest : List ℕ) : Type 0 where
  pub high : ℕ
  pub low : ℕ
  pub split : text ≡ high ∷ low ∷ rest
  pub pair : IsPair octet high low

abbrev with_low : ℕ → ℕ × List ℕ → Result (ℕ × List ℕ) NameFault
with_low at high = digit_at (at + 1) high.1 >>= λ low. Ok (high.0 * 16 + low.0, low.1)

pub pair-takes : (at : ℕ) (text : List ℕ) (x : ℕ × List ℕ) → pair_at at text ≡ Ok x → TakesPair text x.0 x.1
unfolding pair_at
pair-takes at text x e =
    let a = bind_ok (digit_at at text) (with_low at) x e in
    let b = bind_ok (digit_at (at + 1) a.0.1) (λ low. done (a.0.0 * 16 + low.0, low.1)) x a.2 in
    let high = digit-takes at text a.0 a.1 in
    let low = digit-takes (at + 1) a.0.1 b.0 b.1 in
    let same = ok_is (a.0.0 * 16 + b.0.0, b.0.1) x b.2 in
    let octet : a.0.0 * 16 + b.0.0 ≡ x.0 = ap (λ (p : ℕ × List ℕ). p.0) same in
    let rest : b.0.1 ≡ x.1 = ap (λ (p : ℕ × List ℕ). p.1) same in
    record {
      high = high.digit;
      low = low.digit;
      split =
          high.split
          ∙ ap (λ (t : List ℕ). high.digit ∷ t) low.split
          ∙ ap (λ (t : List ℕ). high.digit ∷ low.digit ∷ t) rest;
      pair = (high.small, low.small, omega (arith, octet, high.value, low.value));
    }

-- texts that all begin with two digits
pub record BeginsWithPair (L : List ℕ → Type 0) : Type 0 where
  pub only : (t : List ℕ) → L t
      → (h : ℕ) × (l : ℕ) × (r : List ℕ) × (t ≡ h ∷ l ∷ r) × (digit_value h < 16) × (digit_value l < 16)
  pub goes : (h l : ℕ) → digit_value h < 16 → digit_value l < 16 → (more : List ℕ) × L (h ∷ l ∷ more)

pub record FailsAt (L : List ℕ → Type 0) (at : ℕ) (text : List ℕ) (f : NameFault) : Type 0 where
  pub place : ℕ
  pub fault : BadUri (at + place) ≡ f
  pub leaves : LeavesLanguage L text place

first_digit : (L : List ℕ → Type 0) → BeginsWithPair L → (text : List ℕ) → NoDigit text → LeavesLanguage L text 0
first_digit L begins [] none =
    Leaves-end L (let m = begins.goes 48 48 (omega arith) (omega arith) in (48 ∷ 48 ∷ m.0, m.1))
    (λ m. let o = begins.only [] m in let e = o.3 in absurd cc)
first_digit L begins (c ∷ text) none =
    Leaves-first L c text (let m = begins.goes 48 48 (omega arith) (omega arith) in (48 ∷ 48 ∷ m.0, m.1)) (λ more m.
    let o = begins.only (c ∷ more) m in
    let e = o.3 in
    let same : o.0 ≡ c = cc in
    let P : ℕ → Type 0 = λ d. digit_value d < 16 in
    none (subst P same o.4))

second_digit : (L : List ℕ → Type 0) → BeginsWithPair L → (c : ℕ) → digit_value c < 16 → (text : List ℕ) → NoDigit text
    → LeavesLanguage (λ t. L (c ∷ t)) text 0
second_digit L begins c small [] none =
    Leaves-end (λ t. L (c ∷ t)) (let m = begins.goes c 48 small (omega arith) in (48 ∷ m.0, m.1))
    (λ m. let o = begins.only (c ∷ []) m in let e = o.3 in absurd cc)
second_digit L begins c small (d ∷ text) none =
    Leaves-first (λ t. L (c ∷ t)) d text (let m = begins.goes c 48 small (omega arith) in (48 ∷ m.0, m.1)) (λ more m.
    let o = begins.only (c ∷ d ∷ more) m in
    let e = o.3 in
    let same : o.1 ≡ d = cc in
    let P : ℕ → Type 0 = λ x. digit_value x < 16 in
    none (subst P same o.5))

pub pair-leaves : (L : List ℕ → Type 0) → BeginsWithPair L → (at : ℕ) (text : List ℕ) (f : NameFault)
    → pair_at at text ≡ Err f → FailsAt L at text f
unfolding pair_at
pair-leaves L begins at text f e =
    elim (bind_err (digit_at at text) (with_low at) f e) [
      | inl a ↦
          let none = digit-fails at text f a in
          let here : at + 0 ≡ at = omega arith in
          record { place = 0; fault = ap BadUri here ∙ none.0; leaves = first_digit L begins text none.1 }
      | inr a ↦
          let high = digit-takes at text a.0 a.1 in
          elim (bind_err (digit_at (at + 1) a.0.1) (λ low. done (a.0.0 * 16 + low.0, low.1)) f a.2) [
            | inl b ↦
                let none = digit-fails (at + 1) a.0.1 f b in
                let c = high.digit in
                let P : List ℕ → Type 0 = λ t. LeavesLanguage L t 1 in
                record {
                  place = 1;
                  fault = none.0;
                  leaves =
                      subst P (sym high.split)
                      (Leaves-after (λ t. L (c ∷ t)) L (c ∷ []) a.0.1 0 (λ t m. m) (λ t m. m)
                      (second_digit L begins c high.small a.0.1 none.1));
                }
            | inr b ↦ absurd (let h = b.2 in cc)
          ]
    ]

-- ---- texts of octets

octet-some : (o : ℕ) (text : List ℕ) → IsOctetText o text → 0 < length text
octet-some o text (plain h e) = omega (arith, ap length e)
octet-some o text (escape high low h e) = omega (arith, ap length e)

not_percent : (o : ℕ) → is_unreserved o ≡ true → o ≡ 37 → ⊥
not_percent o h e =
    let P : ℕ → Type 0 = λ n. is_unreserved n ≡ true in let k : is_unreserved 37 ≡ true = subst P e h in absurd cc

pub pair-same : (o p h l h' l' : ℕ) → IsPair o h l → IsPair p h' l' → h ≡ h' → l ≡ l' → o ≡ p
pair-same o p h l h' l' a b e g = omega (arith, a.2, b.2, ap digit_value e, ap digit_value g)

-- the text of an octet at the start is of one octet
octet-alone : (o p : ℕ) (a b x y : List ℕ) → IsOctetText o a → IsOctetText p b → a ++ x ≡ b ++ y → (o ≡ p) × (x ≡ y)
octet-alone o p a b x y (plain h e) (plain k g) same =
    let both : o ∷ x ≡ p ∷ y = ap (λ (t : List ℕ). t ++ x) (sym e) ∙ same ∙ ap (λ (t : List ℕ). t ++ y) g in
    (cc, cc)
octet-alone o p a b x y (plain h e) (escape high low k g) same =
    let both : o ∷ x ≡ 37 ∷ high ∷ low ∷ y =
    ap (λ (t : List ℕ). t ++ x) (sym e) ∙ same ∙ ap (λ (t : List ℕ). t ++ y) g in
    absurd (not_percent o h cc)
octet-alone o p a b x y (escape high low h e) (plain k g) same =
    let both : 37 ∷ high ∷ low ∷ x ≡ p ∷ y =
    ap (λ (t : List ℕ). t ++ x) (sym e) ∙ same ∙ ap (λ (t : List ℕ). t ++ y) g in
    absurd (not_percent p k cc)
octet-alone o p a b x y (escape high low h e) (escape high' low' k g) same =
    let both : 37 ∷ high ∷ low ∷ x ≡ 37 ∷ high' ∷ low' ∷ y =
    ap (λ (t : List ℕ). t ++ x) (sym e) ∙ same ∙ ap (λ (t : List ℕ). t ++ y) g in
    let first : high ≡ high' = cc in
    let other : low ≡ low' = cc in
    (pair-same o p high low high' low' h k first other, cc)

pub record After (octets : List ℕ) (prefix : List ℕ) (text : List ℕ) : Type 0 where
  pub others : List ℕ
  pub parts : octets ≡ prefix ++ others
  pub read : IsEscaped others text

octet-prefix : (o : ℕ) (first t octets : List ℕ) → IsOctetText o first → IsEscaped octets (first ++ t)
    → After octets (o ∷ []) t
octet-prefix o first t [] h e = absurd (omega (arith, ap length e, length-append first t, octet-some o first h))
octet-prefix o first t (p ∷ octets) h e =
    let alone = octet-alone o p first e.0 t e.1 h e.3 e.2 in
    let P : List ℕ → Type 0 = λ x. IsEscaped octets x in
    record { others = octets; parts = ap (λ (n : ℕ). n ∷ octets) (sym alone.0); read = subst P (sym alone.1) e.4 }

pub escaped-append : (a b x y : List ℕ) → IsEscaped a x → IsEscaped b y → IsEscaped (a ++ b) (x ++ y)
escaped-append [] b x y h k = let P : List ℕ → Type 0 = λ t. IsEscaped b (t ++ y) in subst P (sym h) k
escaped-append (o ∷ a) b x y h k =
    (h.0, h.1 ++ y, ap (λ (t : List ℕ). t ++ y) h.2 ∙ append_assoc h.0 h.1 y, h.3, escaped-append a b h.1 y h.4 k)

pub escaped-one : (o : ℕ) (text : List ℕ) → IsOctetText o text → IsEscaped (o ∷ []) text
escaped-one o text h = (text, [], sym (append-nil text), h, refl)

pub escaped-prefix : (a octets prefix t : List ℕ) → IsEscaped a prefix → IsEscaped octets (prefix ++ t)
    → After octets a t
escaped-prefix [] octets prefix t h e =
    let P : List ℕ → Type 0 = λ x. IsEscaped octets (x ++ t) in
    record { others = octets; parts = refl; read = subst P h e }
escaped-prefix (o ∷ a) octets prefix t h e =
    let P : List ℕ → Type 0 = λ x. IsEscaped octets x in
    let whole = subst P (ap (λ (x : List ℕ). x ++ t) h.2 ∙ append_assoc h.0 h.1 t) e in
    let one = octet-prefix o h.0 (h.1 ++ t) octets h.3 whole in
    let others = escaped-prefix a one.others h.1 t h.4 one.read in
    record { others = others.others; parts = one.parts ∙ ap (λ (x : List ℕ). o ∷ x) others.parts; read = others.read }

pub escaped-nothing : (octets : List ℕ) → IsEscaped octets [] → octets ≡ []
escaped-nothing [] e = refl
escaped-nothing (o ∷ octets) e = absurd (omega (arith, ap length e.2, length-append e.0 e.1, octet-some o e.0 e.3))

-- a text is of one value
pub escaped-same : (a b text : List ℕ) → IsEscaped a text → IsEscaped b text → a ≡ b
escaped-same a b text h k =
    let P : List ℕ → Type 0 = λ x. IsEscaped b x in
    let prefix = escaped-prefix a b text [] h (subst P (sym (append-nil text)) k) in
    sym (prefix.parts ∙ ap (λ (x : List ℕ). a ++ x) (escaped-nothing prefix.others prefix.read) ∙ append-nil a)

-- ---- where texts of octets are left

abbrev pub IsEscapedText : List ℕ → Type 0
IsEscapedText text = (octets : List ℕ) × IsEscaped octets text

begins_escape : BeginsWithPair (λ t. IsEscapedText (37 ∷ t))
begins_escape = record {
  only = λ t m. digits t m.0 m.1;
  goes = λ h l a b. (
    [],
    ((digit_value h * 16 + digit_value l) ∷ [], escaped-one _ (37 ∷ h ∷ l ∷ []) (escape h l (a, b, refl) refl)),
  );
} where
  of_first : (o : ℕ) (first rest t : List ℕ) → IsOctetText o first → 37 ∷ t ≡ first ++ rest
      → (h : ℕ) × (l : ℕ) × (r : List ℕ) × (t ≡ h ∷ l ∷ r) × (digit_value h < 16) × (digit_value l < 16)
  of_first o first rest t (plain h e) same =
      let both : 37 ∷ t ≡ o ∷ rest = same ∙ ap (λ (x : List ℕ). x ++ rest) e in absurd (not_percent o h cc)
  of_first o first rest t (escape high low h e) same =
      let both : 37 ∷ t ≡ 37 ∷ high ∷ low ∷ rest = same ∙ ap (λ (x : List ℕ). x ++ rest) e in
      (high, low, rest, cc, h.0, h.1)

  digits : (t octets : List ℕ) → IsEscaped octets (37 ∷ t)
      → (h : ℕ) × (l : ℕ) × (r : List ℕ) × (t ≡ h ∷ l ∷ r) × (digit_value h < 16) × (digit_value l < 16)
  digits t [] e = absurd cc
  digits t (o ∷ octets) e = of_first o e.0 e.1 t e.3 e.2

-- digits that are none are reported at their place
pub pair-fails : (at : ℕ) (text : List ℕ) (f : NameFault) → pair_at at text ≡ Err f → (place : ℕ) × (BadUri place ≡ f)
pair-fails at text f e =
    let p = pair-leaves (λ t. IsEscapedText (37 ∷ t)) begins_escape at text f e in
    (at + p.place, p.fault)

begins_otherwise : (c : ℕ) (more octets : List ℕ) → (eqb c 37 ≡ false) → is_unreserved c ≡ false
    → IsEscaped octets (c ∷ more) → ⊥
begins_otherwise c more [] other reserved e = absurd cc
begins_otherwise c more (o ∷ octets) other reserved e = of_first o e.0 e.3 e.2 where
  of_first : (o : ℕ) (first : List ℕ) → IsOctetText o first → c ∷ more ≡ first ++ e.1 → ⊥
  of_first o first (plain h g) same =
      let both : c ∷ more ≡ o ∷ e.1 = same ∙ ap (λ (x : List ℕ). x ++ e.1) g in
      let k : c ≡ o = cc in let l : is_unreserved c ≡ is_unreserved o = ap is_unreserved k in absurd cc
  of_first o first (escape high low h g) same =
      let both : c ∷ more ≡ 37 ∷ high ∷ low ∷ e.1 = same ∙ ap (λ (x : List ℕ). x ++ e.1) g in
      let k : c ≡ 37 = cc in eqb-false c 37 other k

pub octet-leaves : (at c : ℕ) (text : List ℕ) (f : NameFault) → octet_at at (c ∷ text) ≡ Err f
    → FailsAt IsEscapedText at (c ∷ text) f
unfolding octet_at
octet-leaves at c text f e =
    elim (chosen (eqb c 37) (pair_at (at + 1) text) (cond (is_unreserved c) (done (c, text)) (failed (BadUri at)))
    (failed f) e) [
      | inl a ↦
          let p = pair-leaves (λ t. IsEscapedText (37 ∷ t)) begins_escape (at + 1) text f a.1 in
          let k : c ≡ 37 = eqb-true c 37 a.0 in
          let P : ℕ → Type 0 = λ n. LeavesLanguage IsEscapedText (n ∷ text) (1 + p.place) in
          let there : at + (1 + p.place) ≡ at + 1 + p.place = omega arith in
          record {
            place = 1 + p.place;
            fault = ap BadUri there ∙ p.fault;
            leaves =
                subst P (sym k)
                (Leaves-after (λ t. IsEscapedText (37 ∷ t)) IsEscapedText (37 ∷ []) text p.place (λ t m. m) (λ t m. m)
                p.leaves);
          }
      | inr a ↦
          elim (chosen (is_unreserved c) (done (c, text)) (failed (BadUri at)) (failed f) a.1) [
            | inl b ↦ absurd (let h = b.1 in cc)
            | inr b ↦
                let here : at + 0 ≡ at = omega arith in
                record {
                  place = 0;
                  fault = ap BadUri here ∙ err_is (BadUri at) f b.1;
                  leaves =
                      Leaves-first IsEscapedText c text ([], ([], refl))
                      (λ more m. begins_otherwise c more m.0 a.0 b.0 m.1);
                }
          ]
    ]

pub record TakesOctet (text : List ℕ) (octet : ℕ) (rest : List ℕ) : Type 0 where
  pub first : List ℕ
  pub split : text ≡ first ++ rest
  pub is : IsOctetText octet first
  pub some : 0 < length first

pub octet-takes : (at : ℕ) (text : List ℕ) (x : ℕ × List ℕ) → octet_at at text ≡ Ok x → TakesOctet text x.0 x.1
unfolding octet_at
octet-takes at [] x e = absurd cc
octet-takes at (c ∷ text) x e =
    elim (chosen (eqb c 37) (pair_at (at + 1) text) (cond (is_unreserved c) (done (c, text)) (failed (BadUri at)))
    (done x) e) [
      | inl a ↦
          let p = pair-takes (at + 1) text x a.1 in
          let k : c ≡ 37 = eqb-true c 37 a.0 in
          record {
            first = 37 ∷ p.high ∷ p.low ∷ [];
            split = ap (λ (n : ℕ). n ∷ text) k ∙ ap (λ (t : List ℕ). 37 ∷ t) p.split;
            is = escape p.high p.low p.pair refl;
            some = omega arith;
          }
      | inr a ↦
          elim (chosen (is_unreserved c) (done (c, text)) (failed (BadUri at)) (done x) a.1) [
            | inl b ↦
                let same = ok_is (c, text) x b.1 in
                let octet : c ≡ x.0 = ap (λ (p : ℕ × List ℕ). p.0) same in
                let rest : text ≡ x.1 = ap (λ (p : ℕ × List ℕ). p.1) same in
                let P : ℕ → Type 0 = λ n. is_unreserved n ≡ true in
                record {
                  first = x.0 ∷ [];
                  split = ap (λ (n : ℕ). n ∷ text) octet ∙ ap (λ (t : List ℕ). x.0 ∷ t) rest;
                  is = plain (subst P octet b.0) refl;
                  some = omega arith;
                }
            | inr b ↦ absurd (let h = b.1 in cc)
          ]
    ]

-- after what was read
pub escaped-leaves : (a prefix rest text : List ℕ) (k : ℕ) → IsEscaped a prefix → prefix ++ rest ≡ text
    → LeavesLanguage IsEscapedText rest k → LeavesLanguage IsEscapedText text (length prefix + k)
escaped-leaves a prefix rest text k read split h =
    let P : List ℕ → Type 0 = λ t. LeavesLanguage IsEscapedText t (length prefix + k) in
    subst P split
    (Leaves-after IsEscapedText IsEscapedText prefix rest k (λ t m. (a ++ m.0, escaped-append a m.0 prefix t read m.1))
    (λ t m. let b = escaped-prefix a m.0 prefix t read m.1 in (b.others, b.read)) h)
