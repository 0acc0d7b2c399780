-- Where a text leaves a language, and the same after a prefix.
use Rattle.std.proofs.Common.{◌≡◌, ℕ, ◌+◌, List, [], ◌∷◌, ◌++◌, length, length-append, take, sym, ap, subst, ◌∙◌}
use Rattle.std.proofs.Common.{append_assoc, arith}
use Rattle.std.proofs.Math.Seq.{take-append-add, take-length}
use Rattle.ndn_name.specs.declared.name_fault.NameFault.{NameFault}
use Rattle.ndn_name.specs.declared.name_fault.NameFault.TheVariants.{Tlv, BadComponent, BadDigestLength, NameTooLong}
use Rattle.ndn_name.specs.declared.name_fault.NameFault.TheVariants.{BadUri, NoMemory}
use Rattle.ndn_name.specs.UriVerdict.{LeavesLanguage}
use Rattle.ndn_name.specs.UriReading.{FailsIn}

-- languages that have the same texts
pub Leaves-same : (L M : List ℕ → Type 0) (text : List ℕ) (k : ℕ) → ((t : List ℕ) → L t → M t)
    → ((t : List ℕ) → M t → L t) → LeavesLanguage L text k → LeavesLanguage M text k
Leaves-same L M text k there back h = record {
  within = h.within;
  goes_on = (h.goes_on.0, there (take k text ++ h.goes_on.0) h.goes_on.1);
  breaks = λ lt more m. h.breaks lt more (back (take (k + 1) text ++ more) m);
  ends = λ m. h.ends (back text m);
}

-- what follows a prefix leaves what may follow it
pub Leaves-after : (L M : List ℕ → Type 0) (prefix text : List ℕ) (k : ℕ) → ((t : List ℕ) → L t → M (prefix ++ t))
    → ((t : List ℕ) → M (prefix ++ t) → L t) → LeavesLanguage L text k
    → LeavesLanguage M (prefix ++ text) (length prefix + k)
Leaves-after L M prefix text k there back h = record {
  within = omega (arith, h.within, length-append prefix text);
  goes_on = (h.goes_on.0, subst M (regroup k h.goes_on.0) (there (take k text ++ h.goes_on.0) h.goes_on.1));
  breaks =
      λ lt more m. h.breaks (omega (arith, lt, length-append prefix text)) more
      (back (take (k + 1) text ++ more) (subst M (sym (one_more more)) m));
  ends = λ m. h.ends (back text m);
} where
  regroup : (n : ℕ) (more : List ℕ) → prefix ++ (take n text ++ more) ≡ take (length prefix + n) (prefix ++ text)
      ++ more
  regroup n more =
      sym (append_assoc prefix (take n text) more) ∙ ap (λ (x : List ℕ). x ++ more)
      (sym (take-append-add prefix text n))

  one_more : (more : List ℕ)
      → prefix ++ (take (k + 1) text ++ more) ≡ take (length prefix + k + 1) (prefix ++ text) ++ more
  one_more more =
      let e : length prefix + (k + 1) ≡ length prefix + k + 1 = omega arith in
      regroup (k + 1) more ∙ ap (λ (n : ℕ). take n (prefix ++ text) ++ more) e

-- at the first octet
pub Leaves-first : (L : List ℕ → Type 0) (c : ℕ) (text : List ℕ) → (more : List ℕ) × L more
    → ((more : List ℕ) → L (c ∷ more) → ⊥) → LeavesLanguage L (c ∷ text) 0
Leaves-first L c text some none = record {
  within = omega arith;
  goes_on = some;
  breaks = λ lt more m. none more m;
  ends = λ m. none text m;
}

-- at the end of an empty text
pub Leaves-end : (L : List ℕ → Type 0) → (more : List ℕ) × L more → (L [] → ⊥) → LeavesLanguage L [] 0
Leaves-end L some none = record {
  within = omega arith;
  goes_on = some;
  breaks = λ lt more m. absurd (omega arith);
  ends = none;
}

-- at the end of a text
pub Leaves-whole : (L : List ℕ → Type 0) (text : List ℕ) → (more : List ℕ) × L (text ++ more) → (L text → ⊥)
    → LeavesLanguage L text (length text)
Leaves-whole L text some none = record {
  within = omega arith;
  goes_on = (some.0, subst L (ap (λ (x : List ℕ). x ++ some.0) (sym (take-length text))) some.1);
  breaks = λ lt more m. absurd (omega arith);
  ends = none;
}

-- ---- failures

-- languages that have the same texts
pub fails-same : {V W : Type 0} (L : V → List ℕ → Type 0) (M : W → List ℕ → Type 0) (at : ℕ) (text : List ℕ)
    (f : NameFault)
    → ((t : List ℕ) → (v : V) × L v t → (w : W) × M w t) → ((t : List ℕ) → (w : W) × M w t → (v : V) × L v t)
    → FailsIn L at text f → FailsIn M at text f
fails-same {V} {W} L M at text (BadUri place) there back h =
    (h.0, h.1, Leaves-same (λ t. (v : V) × L v t) (λ t. (w : W) × M w t) text h.0 there back h.2)
fails-same L M at text NoMemory there back h = h
fails-same L M at text NameTooLong there back h = h
fails-same L M at text (Tlv f) there back h = h
fails-same L M at text (BadComponent p) there back h = h
fails-same L M at text (BadDigestLength p) there back h = h
