-- A text is of one name at most, and leaves the language at one place.
use Rattle.std.proofs.Common.{◌≡◌, ℕ, ◌+◌, ◌<◌, ◌≤◌, Bool, true, false, cond, ltb, List, [], ◌∷◌, ◌++◌, length}
use Rattle.std.proofs.Common.{length-append, take, drop, Option, Some, None, Result, Ok, Err, refl, sym, ap, subst, ◌∙◌}
use Rattle.std.proofs.Common.{append_assoc, arith, ◌⊎◌, inl, inr}
use Rattle.std.specs.Prelude.{codes}
use Rattle.std.proofs.lemmas.Bool.{cases_lt, lt-ltb, le-ltb}
use Rattle.std.proofs.lemmas.List.{take-append-drop, take-take, append_cancel_left}
use Rattle.ndn_tlv.specs.NumberField.{number_field}
use Rattle.ndn_name.specs.declared.name_fault.NameFault.{NameFault}
use Rattle.ndn_name.specs.declared.name_fault.NameFault.TheVariants.{Tlv, BadComponent, BadDigestLength, NameTooLong}
use Rattle.ndn_name.specs.declared.name_fault.NameFault.TheVariants.{BadUri, NoMemory}
use Rattle.ndn_name.specs.declared.uri_form.Form.{Form}
use Rattle.ndn_name.specs.declared.uri_form.Form.TheVariants.{Digest, Number, Escaped}
use Rattle.ndn_name.specs.Names.{Component, encoding}
use Rattle.ndn_name.specs.Uri.{are_periods, guarded, IsEscaped, IsComponentText, Part, IsPath, IsRooted, IsUri}
use Rattle.ndn_name.specs.Uri.{name_of_parts}
use Rattle.ndn_name.specs.UriVerdict.{LeavesLanguage, IsUriText, first_bad_digest, IsUriVerdict}
use Rattle.ndn_name.specs.UriReading.{IsHead, IsTail}
use Rattle.ndn_name.proofs.Values.{value-same, guarded-other, guarded-periods}
use Rattle.ndn_name.proofs.Escapes.{escaped-nothing}
use Rattle.ndn_name.proofs.Digests.{digits-same}
use Rattle.ndn_name.proofs.Decimals.{decimal-same}
use Rattle.ndn_name.proofs.Separators.{split-same, parts-same}
use Rattle.ndn_name.proofs.Heads.{head-lacks, head-same}
use Rattle.ndn_name.proofs.ComponentTexts.{component-cases, component-lacks, no_equals}
use Rattle.ndn_name.proofs.PathTexts.{path-bounded, rooted_begins}

-- ---- components

component_is : (c d : Component) → c.0 ≡ d.0 → c.1 ≡ d.1 → c ≡ d
component_is c d e g = ap (λ (t : ℕ). (t, c.1)) e ∙ ap (λ (v : List ℕ). (d.0, v)) g

tail-same : (form : Form) (c d : Component) (tail : List ℕ) → IsTail form c tail → IsTail form d tail → c ≡ d
tail-same (Digest typ) c d tail h k = component_is c d (h.0 ∙ sym k.0) (digits-same c.1 d.1 tail h.1.1 k.1.1)
tail-same (Number typ) c d tail h k =
    component_is c d (h.0 ∙ sym k.0)
    (h.1.1 ∙ ap number_field (decimal-same 18446744073709551615 h.1.0 k.1.0 tail (omega arith) h.1.2 k.1.2) ∙ sym k.1.1)
tail-same (Escaped typ) c d tail h k = component_is c d (h.0 ∙ sym k.0) (value-same c.1 d.1 tail h.1 k.1)

component-same : (c d : Component) (text : List ℕ) → IsComponentText c text → IsComponentText d text → c ≡ d
component-same c d text h k =
    elim (component-cases c text h) [
      | inl a ↦
          elim (component-cases d text k) [
            | inl b ↦ component_is c d (a.0 ∙ sym b.0) (value-same c.1 d.1 text a.1 b.1)
            | inr b ↦ absurd (no_equals c.1 text b.head b.tail a.1 b.split)
          ]
      | inr a ↦
          elim (component-cases d text k) [
            | inl b ↦ absurd (no_equals d.1 text a.head a.tail b.1 a.split)
            | inr b ↦
                let s =
                split-same 61 a.head b.head a.tail b.tail (head-lacks 61 a.form a.head refl a.is_head)
                (head-lacks 61 b.form b.head refl b.is_head) (sym a.split ∙ b.split) in
                let P : List ℕ → Type 0 = λ x. IsHead b.form x in
                let form = head-same b.form a.form a.head (subst P (sym s.0) b.is_head) a.is_head in
                let Q : List ℕ → Type 0 = λ x. IsTail b.form d x in
                let R : Form → Type 0 = λ f. IsTail f d a.tail in
                tail-same a.form c d a.tail a.is_tail (subst R form (subst Q (sym s.1) b.is_tail))
          ]
    ]

guarded_some : (value : List ℕ) → guarded value ≡ [] → ⊥
guarded_some value e = by_test (are_periods value) refl where
  by_test : (b : Bool) → are_periods value ≡ b → ⊥
  by_test true g = let h = sym (guarded-periods value g) ∙ e in absurd cc
  by_test false g =
      let h = sym (guarded-other value g) ∙ e in
      let k : are_periods value ≡ are_periods [] = ap are_periods h in let never : true ≡ false = sym k ∙ g in absurd cc

-- the text of a component is not empty
component_some : (c : Component) (text : List ℕ) → IsComponentText c text → text ≡ [] → ⊥
component_some c text h e =
    elim (component-cases c text h) [
      | inl a ↦
          let P : List ℕ → Type 0 = λ t. IsEscaped (guarded c.1) t in
          guarded_some c.1 (escaped-nothing (guarded c.1) (subst P e a.1))
      | inr a ↦ absurd (omega (arith, ap length (sym a.split ∙ e), length-append a.head (61 ∷ a.tail)))
    ]

-- ---- names

parts_are : (p q : Part) (a b : List Part) (at : ℕ) → p.0 ≡ at + 1 → q.0 ≡ at + 1 → p.1 ≡ q.1 → a ≡ b → p ∷ a ≡ q ∷ b
parts_are p q a b at h k one others =
    let place : p.0 ≡ q.0 = h ∙ sym k in
    let part : p ≡ q = ap (λ (n : ℕ). (n, p.1)) place ∙ ap (λ (d : Component). (q.0, d)) one in
    ap (λ (x : Part). x ∷ a) part ∙ ap (λ (x : List Part). q ∷ x) others

path-same : (a b : List Part) (at : ℕ) (text : List ℕ) → IsPath at a text → IsPath at b text → a ≡ b
path-same [] [] at text h k = refl
path-same [] (q ∷ b) at text h k = let e = sym h ∙ k.2 in absurd cc
path-same (p ∷ a) [] at text h k = let e = sym k ∙ h.2 in absurd cc
path-same (p ∷ a) (q ∷ b) at text h k =
    let whole = sym h.2 ∙ k.2 in
    let following : h.0 ++ h.1 ≡ k.0 ++ k.1 = cc in
    let s =
    parts-same 47 h.0 k.0 h.1 k.1 (component-lacks p.1 h.0 h.4) (component-lacks q.1 k.0 k.4)
    (path-bounded (at + 1 + length h.0) a h.1 h.5) (path-bounded (at + 1 + length k.0) b k.1 k.5) following in
    let P : List ℕ → Type 0 = λ t. IsComponentText q.1 t in
    let one = component-same p.1 q.1 h.0 h.4 (subst P (sym s.0) k.4) in
    let Q : ℕ → Type 0 = λ n. IsPath n b k.1 in
    let R : List ℕ → Type 0 = λ t. IsPath (at + 1 + length h.0) b t in
    let here : at + 1 + length k.0 ≡ at + 1 + length h.0 = omega (arith, ap length s.0) in
    let others = path-same a b (at + 1 + length h.0) h.1 h.5 (subst R (sym s.1) (subst Q here k.5)) in
    parts_are p q a b at h.3 k.3 one others

alone_or_path : (at : ℕ) (part : Part) (parts : List Part) (text : List ℕ) → text ≡ 47 ∷ []
    → IsPath at (part ∷ parts) text → ⊥
alone_or_path at part parts text h k =
    let whole = sym h ∙ k.2 in
    let following : [] ≡ k.0 ++ k.1 = cc in
    component_some part.1 k.0 k.4 (no_prefix k.0 k.1 following) where
      no_prefix : (x y : List ℕ) → [] ≡ x ++ y → x ≡ []
      no_prefix [] y e = refl
      no_prefix (c ∷ x) y e = absurd cc

rooted-same : (a b : List Part) (at : ℕ) (text : List ℕ) → IsRooted at a text → IsRooted at b text → a ≡ b
rooted-same [] [] at text h k = refl
rooted-same [] (q ∷ b) at text h k = absurd (alone_or_path at q b text h k)
rooted-same (p ∷ a) [] at text h k = absurd (alone_or_path at p a text k h)
rooted-same (p ∷ a) (q ∷ b) at text h k = path-same (p ∷ a) (q ∷ b) at text h k

slash_or_scheme : (at : ℕ) (parts : List Part) (text path : List ℕ) → IsRooted at parts text
    → text ≡ codes "ndn:" ++ path → ⊥
slash_or_scheme at parts text path h e = let r = rooted_begins at parts text h in let g = sym r.1 ∙ e in absurd cc

uri-same : (a b : List Part) (text : List ℕ) → IsUri a text → IsUri b text → a ≡ b
uri-same a b text h k =
    elim h [
      | inl x ↦ elim k [ inl y ↦ rooted-same a b 0 text x y | inr y ↦ absurd (slash_or_scheme 0 a text y.0 x y.1) ]
      | inr x ↦
          elim k [
            | inl y ↦ absurd (slash_or_scheme 0 b text x.0 y x.1)
            | inr y ↦
                let P : List ℕ → Type 0 = λ t. IsRooted 4 b t in
                rooted-same a b 4 x.0 x.2 (subst P (append_cancel_left (codes "ndn:") y.0 x.0 (sym y.1 ∙ x.1)) y.2)
          ]
    ]

-- ---- places

not_before : (L : List ℕ → Type 0) (text : List ℕ) (p q : ℕ) → LeavesLanguage L text p → LeavesLanguage L text q → p < q
    → ⊥
not_before L text p q h k lt =
    let more = drop (p + 1) (take q text) ++ k.goes_on.0 in
    let split : take q text ++ k.goes_on.0 ≡ take (p + 1) text ++ more =
    ap (λ (t : List ℕ). t ++ k.goes_on.0)
    (sym (take-append-drop (p + 1) (take q text))
    ∙ ap (λ (t : List ℕ). t ++ drop (p + 1) (take q text)) (take-take (p + 1) q text (omega arith)))
    ∙ append_assoc (take (p + 1) text) (drop (p + 1) (take q text)) k.goes_on.0 in
    h.breaks (omega (arith, lt, k.within)) more (subst L split k.goes_on.1)

place-same : (L : List ℕ → Type 0) (text : List ℕ) (p q : ℕ) → LeavesLanguage L text p → LeavesLanguage L text q → p ≡ q
place-same L text p q h k =
    elim (cases_lt p q) [
      | inl a ↦ absurd (not_before L text p q h k a)
      | inr a ↦ elim (cases_lt q p) [ inl b ↦ absurd (not_before L text q p k h b) | inr b ↦ omega arith ]
    ]

-- ---- answers

-- what the parts of a text come to
abbrev if_good : List Part → Option ℕ → Result (List Component) NameFault
if_good parts (Some at) = Err (BadDigestLength at)
if_good parts None =
    cond (ltb 1000 (length (encoding (name_of_parts parts)))) (Err NameTooLong) (Ok (name_of_parts parts))

abbrev verdict : List Part → Result (List Component) NameFault
verdict parts = if_good parts (first_bad_digest parts)

abbrev Cases : List ℕ → Result (List Component) NameFault → Type 0
Cases text r =
    ((place : ℕ) × (r ≡ Err (BadUri place)) × LeavesLanguage IsUriText text place)
    ⊎ ((parts : List Part) × IsUri parts text × (r ≡ verdict parts))

abbrev good : List Component → Result (List Component) NameFault
good n = Ok n

answer-cases : (text : List ℕ) (r : Result (List Component) NameFault) → IsUriVerdict text r → Cases text r
answer-cases text (Ok name) h =
    inr (h.0, h.1, rw (h.2, le-ltb 1000 (length (encoding (name_of_parts h.0))) (in_limit h.3 h.4)) (ap good h.4)) where
      in_limit : length (encoding name) ≤ 1000 → name ≡ name_of_parts h.0 → length (encoding (name_of_parts h.0)) ≤ 1000
      in_limit short is = let P : List Component → Type 0 = λ n. length (encoding n) ≤ 1000 in subst P is short
answer-cases text (Err (BadUri place)) h = inl (place, refl, h)
answer-cases text (Err (BadDigestLength at)) h = inr (h.0, h.1, rw h.2 refl)
answer-cases text (Err NameTooLong) h =
    inr (h.0, h.1, rw (h.2, lt-ltb 1000 (length (encoding (name_of_parts h.0))) h.3) refl)
answer-cases text (Err NoMemory) h = absurd h
answer-cases text (Err (Tlv f)) h = absurd h
answer-cases text (Err (BadComponent p)) h = absurd h

abbrev left_at : ℕ → Result (List Component) NameFault
left_at place = Err (BadUri place)

pub one-answer : (text : List ℕ) (r s : Result (List Component) NameFault) → IsUriVerdict text r → IsUriVerdict text s
    → r ≡ s
one-answer text r s h k =
    elim (answer-cases text r h) [
      | inl a ↦
          elim (answer-cases text s k) [
            | inl b ↦ a.1 ∙ ap left_at (place-same IsUriText text a.0 b.0 a.2 b.2) ∙ sym b.1
            | inr b ↦ absurd (a.2.ends (b.0, b.1))
          ]
      | inr a ↦
          elim (answer-cases text s k) [
            | inl b ↦ absurd (b.2.ends (a.0, a.1))
            | inr b ↦ a.2 ∙ ap verdict (uri-same a.0 b.0 text a.1 b.1) ∙ sym b.2
          ]
    ]
