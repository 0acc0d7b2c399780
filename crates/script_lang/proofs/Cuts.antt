-- Fronts of texts, and where a text is cut.
use Rattle.std.proofs.Common.{◌≡◌, ◌≢◌, ℕ, ◌<◌, suc, eq-eqb, List, [], ◌∷◌, ◌++◌, length, get_or, drop, Option, Some}
use Rattle.std.proofs.Common.{None, MatchOption, Bor, refl, sym, ap, subst, ◌∙◌, arith, inl, inr}
use Rattle.std.proofs.lemmas.Bool.Decides.{eqb_tells}
use Rattle.std.specs.Option.{option_copied, option_map}
use Rattle.std.specs.Str.Pattern.{FindsTextPrefix, StripsPrefix}
use Rattle.std.proofs.lemmas.Str.Pattern.{split_parts, IsSplitOnceResult}
use Rattle.ndn_name.specs.UriText.{after_word, cut_at}
use Rattle.ndn_name.proofs.ComputedNames.{rest-append, is_after}
use Rattle.script_lang.proofs.Conditions.{other_test}

pub cut_found : (c : ℕ) (xs ys : List ℕ) → ((i : ℕ) → i < length xs → get_or xs i 0 ≢ c)
    → cut_at c (xs ++ c ∷ ys) ≡ Some (xs, ys)
unfolding cut_at
cut_found c [] ys lacks = rw (eq-eqb c c refl) refl
cut_found c (x ∷ xs) ys lacks = rw (
  other_test x c (lacks 0 (omega arith)),
  cut_found c xs ys
      (λ i lt. lacks (suc i) (omega arith)),
) refl

pub cut_none : (c : ℕ) (xs : List ℕ) → ((i : ℕ) → i < length xs → get_or xs i 0 ≢ c) → cut_at c xs ≡
    None
unfolding cut_at
cut_none c [] lacks = refl
cut_none c (x ∷ xs) lacks = rw (
  other_test x c (lacks 0 (omega arith)),
  cut_none c xs
      (λ i lt. lacks (suc i) (omega arith)),
) refl

-- `strip_prefix` and `split_once`
pub stripped : (prefix text : List ℕ) (r : Option (Bor (List ℕ)))
    → MatchOption r (FindsTextPrefix prefix text None) (λ x. StripsPrefix (FindsTextPrefix prefix) text x.now)
    → option_copied r ≡ after_word prefix text
stripped prefix text None lacks = go (after_word prefix text) refl where
  go : (o : Option (List ℕ)) → after_word prefix text ≡ o → None ≡ after_word prefix text
  go None e = sym e
  go (Some rest) e = absurd (lacks rest (is_after prefix text rest e))
stripped prefix text (Some x) h = rw h.2 (sym (ap (after_word prefix) h.1.1 ∙ rest-append prefix (drop h.0 text)))

pub cut_once : (c : ℕ) (bs : List ℕ) (r : Option (Bor (List ℕ) × Bor (List ℕ))) → IsSplitOnceResult c bs
    r → c < 128
    → option_map (λ (parts : Bor (List ℕ) × Bor (List ℕ)). (parts.0.now, parts.1.now)) r ≡ cut_at c bs
cut_once c bs None h low = sym (cut_none c bs (split_parts c bs None h low))
cut_once c bs (Some x) h low =
    let p = split_parts c bs (Some x) h low in
    sym (ap (cut_at c) p.0 ∙ cut_found c x.0.now x.1.now p.1)

-- what is cut stands on both sides of the separator
abbrev Parts : Type 0
Parts = List ℕ × List ℕ

same_parts : (x y : Parts) → Some x ≡ Some y → x ≡ y
same_parts x y h = cc

cut_after : (c d : ℕ) (text : List ℕ) (parts : Parts) (o : Option Parts)
    → ((x : Parts) → o ≡ Some x → text ≡ x.0 ++ c ∷ x.1)
    → option_map (λ (x : Parts). let y : Parts = (d ∷ x.0, x.1) in y) o ≡ Some parts
    → d ∷ text ≡ parts.0 ++ c ∷ parts.1
cut_after c d text parts None after k = cc
cut_after c d text parts (Some x) after k =
    let y : Parts = (d ∷ x.0, x.1) in
    subst (λ (q : Parts). d ∷ text ≡ q.0 ++ c ∷ q.1) (same_parts y parts k)
    (ap (λ (t : List ℕ). d ∷ t) (after x refl))

pub cut_is : (c : ℕ) (text : List ℕ) (parts : Parts) → cut_at c text ≡ Some parts → text ≡ parts.0 ++ c
    ∷ parts.1
unfolding cut_at
cut_is c [] parts h = cc
cut_is c (d ∷ text) parts h =
    let first : Parts = ([], text) in
    elim (eqb_tells d c) [
      | inl p ↦ subst (λ (q : Parts). d ∷ text ≡ q.0 ++ c ∷ q.1) (same_parts first parts (rw p.0 at h))
          (ap (λ (x : ℕ). x ∷ text) p.1)
      | inr p ↦ cut_after c d text parts (cut_at c text) (cut_is c text) (rw p.0 at h)
    ]
