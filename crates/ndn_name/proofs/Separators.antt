-- Texts that a separator splits.
use Rattle.std.proofs.Common.{◌≡◌, ℕ, Bool, true, false, List, [], ◌∷◌, ◌++◌, refl, sym, ap, ◌∙◌, ◌⊎◌, inl, inr}
use Rattle.std.specs.List.{list_all}
use Rattle.std.proofs.lemmas.Bool.{and_parts}
use Rattle.ndn_name.specs.UriReading.{LacksOctet}

pub lacks-append : (s : ℕ) (a b : List ℕ) → LacksOctet s a → LacksOctet s b → LacksOctet s (a ++ b)
lacks-append s [] b h k = k
lacks-append s (c ∷ a) b h k = (h.0, lacks-append s a b h.1 k)

pub lacks-prefix : (s : ℕ) (a b : List ℕ) → LacksOctet s (a ++ b) → LacksOctet s a
lacks-prefix s [] b h = tt
lacks-prefix s (c ∷ a) b h = (h.0, lacks-prefix s a b h.1)

pub lacks-separator : (s : ℕ) (a x : List ℕ) → LacksOctet s (a ++ s ∷ x) → ⊥
lacks-separator s [] x h = h.0 refl
lacks-separator s (c ∷ a) x h = lacks-separator s a x h.1

pub lacks-test : (s : ℕ) (p : ℕ → Bool) (text : List ℕ) → p s ≡ false → list_all p text ≡ true → LacksOctet s text
lacks-test s p [] none h = tt
lacks-test s p (c ∷ text) none h =
    let both = and_parts (p c) (list_all p text) h in (
      λ e. let same : p c ≡ p s = ap p e in let never : true ≡ false = sym both.0 ∙ same ∙ none in absurd cc,
      lacks-test s p text none both.1,
    )

-- the prefix and what follows, where the separator stands first
pub split-same : (s : ℕ) (a b x y : List ℕ) → LacksOctet s a → LacksOctet s b → a ++ s ∷ x ≡ b ++ s ∷ y
    → (a ≡ b) × (x ≡ y)
split-same s [] [] x y h k e = (refl, cc)
split-same s [] (d ∷ b) x y h k e = absurd (k.0 cc)
split-same s (c ∷ a) [] x y h k e = absurd (h.0 cc)
split-same s (c ∷ a) (d ∷ b) x y h k e =
    let first : c ≡ d = cc in
    let following : a ++ s ∷ x ≡ b ++ s ∷ y = cc in
    let rest = split-same s a b x y h.1 k.1 following in
    (ap (λ (n : ℕ). n ∷ a) first ∙ ap (λ (t : List ℕ). d ∷ t) rest.0, rest.1)

-- where a prefix ends, before the separator or after it
pub cut : (s : ℕ) (p more a x : List ℕ) → p ++ more ≡ a ++ s ∷ x
    → ((r : List ℕ) × (a ≡ p ++ r)) ⊎ ((r : List ℕ) × (p ≡ a ++ s ∷ r))
cut s [] more a x e = inl (a, refl)
cut s (c ∷ p) more [] x e = let first : c ≡ s = cc in inr (p, ap (λ (n : ℕ). n ∷ p) first)
cut s (c ∷ p) more (d ∷ a) x e =
    let first : c ≡ d = cc in
    let following : p ++ more ≡ a ++ s ∷ x = cc in
    elim (cut s p more a x following) [
      | inl h ↦ inl (h.0, ap (λ (n : ℕ). n ∷ a) (sym first) ∙ ap (λ (t : List ℕ). c ∷ t) h.1)
      | inr h ↦ inr (h.0, ap (λ (n : ℕ). n ∷ p) first ∙ ap (λ (t : List ℕ). d ∷ t) h.1)
    ]

-- nothing, or the separator first
abbrev pub Bounded : ℕ → List ℕ → Type 0
Bounded s [] = Unit {0}
Bounded s (c ∷ text) = c ≡ s

pub parts-same : (s : ℕ) (a b x y : List ℕ) → LacksOctet s a → LacksOctet s b → Bounded s x → Bounded s y
    → a ++ x ≡ b ++ y → (a ≡ b) × (x ≡ y)
parts-same s [] [] x y h k p q e = (refl, e)
parts-same s [] (d ∷ b) [] y h k p q e = absurd cc
parts-same s [] (d ∷ b) (c ∷ x) y h k p q e = let first : c ≡ d = cc in absurd (k.0 (sym first ∙ p))
parts-same s (c ∷ a) [] x [] h k p q e = absurd cc
parts-same s (c ∷ a) [] x (d ∷ y) h k p q e = let first : c ≡ d = cc in absurd (h.0 (first ∙ q))
parts-same s (c ∷ a) (d ∷ b) x y h k p q e =
    let first : c ≡ d = cc in
    let following : a ++ x ≡ b ++ y = cc in
    let rest = parts-same s a b x y h.1 k.1 p q following in
    (ap (λ (n : ℕ). n ∷ a) first ∙ ap (λ (t : List ℕ). d ∷ t) rest.0, rest.1)

-- a prefix without the separator is a prefix of the first part
pub prefix-first : (s : ℕ) (p more a x : List ℕ) → LacksOctet s p → Bounded s x → p ++ more ≡ a ++ x
    → (r : List ℕ) × (a ≡ p ++ r)
prefix-first s [] more a x h b e = (a, refl)
prefix-first s (c ∷ p) more [] [] h b e = absurd cc
prefix-first s (c ∷ p) more [] (d ∷ x) h b e = let first : c ≡ d = cc in absurd (h.0 (first ∙ b))
prefix-first s (c ∷ p) more (d ∷ a) x h b e =
    let first : c ≡ d = cc in
    let following : p ++ more ≡ a ++ x = cc in
    let rest = prefix-first s p more a x h.1 b following in
    (rest.0, ap (λ (n : ℕ). n ∷ a) (sym first) ∙ ap (λ (t : List ℕ). c ∷ t) rest.1)
