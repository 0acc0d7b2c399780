-- Prefixes, as prefixes of the octets and in the canonical order.
use Rattle.std.proofs.Common.{◌≡◌, ◌≢◌, ℕ, Bool, true, List, [], ◌∷◌, ◌++◌, length, take, drop, refl, sym, ap, ◌∙◌}
use Rattle.std.proofs.Common.{append_assoc, arith}
use Rattle.std.specs.declared.cmp.Ordering.{Ordering}
use Rattle.std.specs.declared.cmp.Ordering.TheVariants.{Less, Equal}
use Rattle.std.specs.Ordering.{nat_cmp, on, then_cmp, ordering_then}
use Rattle.std.specs.Cmp.Lexicographic.{slice_cmp}
use Rattle.std.proofs.lemmas.Cmp.{tied_itself}
use Rattle.std.proofs.lemmas.Map.Lookups.{exact_bytes, exact_unsigned, exact_pairs}
use Rattle.std.specs.FinMap.{IsAntisymmetric, slice_cmp-IsAntisymmetric}
use Rattle.std.specs.Cmp.{unsigned_Decides}
use Rattle.std.specs.Bool.{nat_eq}
use Rattle.std.specs.List.{starts_with}
use Rattle.std.specs.Prelude.{◌↔◌}
use Rattle.std.proofs.lemmas.List.{take-append-drop}
use Rattle.std.proofs.lemmas.Slice.Eq.{starts_is}
use Rattle.ndn_tlv.specs.Spelling.{element}
use Rattle.ndn_tlv.proofs.ElementLemmas.{element_alone}
use Rattle.ndn_name.specs.Names.{Component, IsName, IsValue, components, encoding}
use Rattle.ndn_name.specs.CanonicalOrder.{IsPrefix, component_cmp, canonical_cmp, component_cmp_total}
use Rattle.ndn_name.proofs.Encodings.{encoding-append}
use Rattle.ndn_name.proofs.OrderLemmas.{element-some}

pub prefix-encoding : (a b : List Component) → IsPrefix a b → encoding b ≡ encoding a ++ encoding (drop (length a) b)
prefix-encoding a b h =
    let whole : b ≡ a ++ drop (length a) b =
    sym (take-append-drop (length a) b) ∙ ap (λ (x : List Component). x ++ drop (length a) b) h in
    ap encoding whole ∙ encoding-append a (drop (length a) b)

pub prefix-octets : (a b : List Component) (rest : List ℕ) → IsName a → IsName b → encoding b ≡ encoding a ++ rest
    → IsPrefix a b
unfolding encoding
prefix-octets [] b rest h k e = refl
prefix-octets (c ∷ a) [] rest h k e =
    absurd (omega (
      arith,
      ap length e,
      ap length (append_assoc (element c.0 c.1) (encoding a) rest),
      element-some c (encoding a ++ rest) h.0,
    ))
prefix-octets (c ∷ a) (d ∷ b) rest h k e =
    let first = h.0 in
    let other = k.0 in
    let same = e ∙ append_assoc (element c.0 c.1) (encoding a) rest in
    let parts =
    element_alone d.0 c.0 d.1 c.1 (encoding b) (encoding a ++ rest)
    (other.above, omega (arith, other.below), other.long) (first.above, omega (arith, first.below), first.long) same in
    let following = prefix-octets a b rest h.1 k.1 parts.2 in
    let one : d ≡ c = ap (λ (t : ℕ). (t, d.1)) parts.0 ∙ ap (λ (v : List ℕ). (c.0, v)) parts.1 in
    ap (λ (x : List Component). d ∷ x) following ∙ ap (λ (x : Component). x ∷ a) one

-- ---- in the canonical order

component_cmp-equal : IsAntisymmetric component_cmp
component_cmp-equal = exact_pairs nat_cmp _ exact_unsigned by_length where
  by_length : IsAntisymmetric (then_cmp (on length nat_cmp) (slice_cmp nat_cmp))
  by_length v w e =
      ap (λ (x : ℕ × List ℕ). x.1)
      (exact_pairs nat_cmp (slice_cmp nat_cmp) exact_unsigned exact_bytes (length v, v) (length w, w) e)

pub canonical_cmp-equal : IsAntisymmetric canonical_cmp
canonical_cmp-equal = slice_cmp-IsAntisymmetric component_cmp-equal

pub prefix-first : (a b : List Component) → IsPrefix a b → a ≢ b → canonical_cmp a b ≡ Less
prefix-first [] [] h k = absurd (k refl)
prefix-first [] (d ∷ b) h k = refl
prefix-first (c ∷ a) [] h k = absurd cc
prefix-first (c ∷ a) (d ∷ b) h k =
    let one : d ≡ c = cc in
    let following : take (length a) b ≡ a = cc in
    let less =
    prefix-first a b following (λ e. k (ap (λ (x : Component). x ∷ a) (sym one)
    ∙ ap (λ (x : List Component). d ∷ x) e)) in
    let level : component_cmp c d ≡ Equal =
    ap (λ (x : Component). component_cmp x d) (sym one) ∙ tied_itself component_cmp_total d in
    ap (λ (o : Ordering). ordering_then o (canonical_cmp a b)) level ∙ less

-- ---- as fronts of the octets

pub values-prefix : (o p : List ℕ) (m n : ℕ) → IsValue o m → IsValue p n → (b : Bool) → b ≡ starts_with nat_eq p o
    → (b ≡ true) ↔ IsPrefix (components o) (components p)
values-prefix o p m n h k b e =
    let leading = starts_is unsigned_Decides p o b e in (
      λ yes. prefix-octets (components o) (components p) (drop (length o) p) h.name k.name
          (sym k.spelled ∙ leading.0 yes ∙ ap (λ (x : List ℕ). x ++ drop (length o) p) h.spelled),
      λ prefix. leading.1 (encoding (drop (length (components o)) (components p)))
          (k.spelled ∙ prefix-encoding (components o) (components p) prefix
          ∙ ap (λ (x : List ℕ). x ++ encoding (drop (length (components o)) (components p))) (sym h.spelled)),
    )
