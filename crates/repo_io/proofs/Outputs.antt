-- Outputs that gain texts one after another.
use Rattle.std.proofs.Common.{◌≡◌, ◌≢◌, ℕ, ◌+◌, ◌-◌, List, [], ◌∷◌, ◌++◌, length, take, drop, Option, ◌<◌, ◌≤◌, refl}
use Rattle.std.proofs.Common.{sym, ap, subst, ◌∙◌, append_assoc, arith}
use Rattle.std.proofs.KnownBytes.{Appends-nil, Appends-trans}
use Rattle.std.proofs.lemmas.List.{append-nil, take_all, length-drop, drop-drop, take-append-drop}
use Rattle.std.proofs.lemmas.Grind.{common_steps}
use Rattle.std.proofs.Math.Seq.{take-add}
use Rattle.repo_io.specs.Outside.{GainsText, GainsPrefix}

-- the rest of a text is there with more after it too
rest_longer : (rest more : List ℕ) → rest ≢ [] → rest ++ more ≢ []
rest_longer [] more some = absurd (some refl)
rest_longer (o ∷ os) more some = λ e. cc

pub nothing_gained : (a : Option (List ℕ)) → GainsText a a []
nothing_gained a = Appends-nil a

-- a text of which no more than a prefix was gained
module _ {Short : Type 0} (a b : Option (List ℕ)) where
  pub prefix_so_far : (x more text : List ℕ) → text ≡ x ++ more → (Short → more ≢ []) → GainsText a b x
      → GainsPrefix a b text Short
  prefix_so_far x more text parts short p = record {
    written = x;
    rest = more;
    parts = parts;
    gained = p;
    short = short;
  }

  pub prefix_whole : (text : List ℕ) → (Short → ⊥) → GainsText a b text → GainsPrefix a b text Short
  prefix_whole text whole p = prefix_so_far text [] text (sym (append-nil text)) (λ short. absurd (whole short)) p

  pub prefix_taken : (n : ℕ) (text : List ℕ) → n < length text → GainsText a b (take n text)
      → GainsPrefix a b text Short
  prefix_taken n text lt p =
      prefix_so_far (take n text) (drop n text) text (sym (take-append-drop n text))
      (λ short e. omega (arith, lt, length-drop n text, ap length e)) p

  -- a prefix of a text is one of the text with more after it
  pub prefix_longer : (text more : List ℕ) → GainsPrefix a b text Short → GainsPrefix a b (text ++ more) Short
  prefix_longer text more f =
      prefix_so_far f.written (f.rest ++ more) (text ++ more)
      (ap (λ (t : List ℕ). t ++ more) f.parts ∙ append_assoc f.written f.rest more)
      (λ short. rest_longer f.rest more (f.short short)) f.gained

  -- a text was gained, and then a prefix of another
  pub prefix_after : (d : Option (List ℕ)) (text more : List ℕ) → GainsText a b text → GainsPrefix b d more Short
      → GainsPrefix a d (text ++ more) Short
  prefix_after d text more p f = record {
    written = text ++ f.written;
    rest = f.rest;
    parts = ap (λ (t : List ℕ). text ++ t) f.parts ∙ sym (append_assoc text f.written f.rest);
    gained = Appends-trans a b d text f.written p f.gained;
    short = f.short;
  }

-- whether a prefix fell short may be said otherwise
pub prefix_as : {P Q : Type 0} (a b : Option (List ℕ)) (text : List ℕ) → (Q → P) → GainsPrefix a b text P
    → GainsPrefix a b text Q
prefix_as a b text less f =
    prefix_so_far a b f.written f.rest text f.parts (λ short. f.short (less short)) f.gained

-- the value of a slice from an index on
pub piece_is : (text : List ℕ) (at : ℕ) → take (length text - at) (drop at text) ≡ drop at text
piece_is text at = take_all (length text - at) (drop at text) (omega (arith, length-drop at text))

-- a prefix was gained, and then a prefix of what follows it
pub more_gained : (a b d : Option (List ℕ)) (text : List ℕ) (at n : ℕ) → GainsText a b (take at text)
    → GainsText b d (take n (take (length text - at) (drop at text))) → GainsText a d (take (at + n) text)
more_gained a b d text at n p q =
    let joined : take at text ++ take n (take (length text - at) (drop at text)) ≡ take (at + n) text =
    rw (piece_is text at) (sym (take-add at n text)) in
    subst (GainsText a d) joined (Appends-trans a b d (take at text) (take n (take (length text - at) (drop at text))) p
    q)

-- what was copied to the start of a buffer is what is no longer left
pub prefix_left : (octets copied more : List ℕ) (at n : ℕ) → n ≤ length (take (length octets - at) (drop at octets))
    → copied ≡ take n (take (length octets - at) (drop at octets))
    → drop at octets ≡ take n (copied ++ more) ++ drop (at + n) octets
prefix_left octets copied more at n within e =
    let left : n ≤ length (drop at octets) = rw piece_is at within in
    let same : copied ≡ take n (drop at octets) = e ∙ rw (piece_is octets at) refl in
    let count : length copied ≡ n = ap length same ∙ grind (arith, common_steps) in
    let prefix : take n (copied ++ more) ≡ copied = grind (arith, common_steps) in
    rw prefix (rw same (sym (rw (← drop-drop n at octets) (take-append-drop n (drop at octets)))))
