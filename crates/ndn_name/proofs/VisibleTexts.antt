-- The texts of names are of visible characters of ASCII.
use Rattle.std.proofs.Common.{◌≡◌, ℕ, zero, suc, ◌+◌, ◌<◌, ◌^◌, Bool, true, List, [], ◌∷◌, ◌++◌, length, refl, ap, ◌∙◌}
use Rattle.std.proofs.Common.{arith, inl, inr}
use Rattle.std.specs.Char.{digit_value, is_ascii_graphic}
use Rattle.std.specs.Fmt.{decimal}
use Rattle.std.specs.List.{list_all}
use Rattle.std.specs.Str.{IsAscii}
use Rattle.std.proofs.lemmas.Bool.{and_parts, and_from}
use Rattle.std.proofs.lemmas.Bool.Decides.{nat_tests}
use Rattle.std.proofs.lemmas.Fmt.{decimal_is_IsNumeral}
use Rattle.std.proofs.lemmas.List.Folds.{list_all-append}
use Rattle.ndn_name.specs.declared.uri_form.Form.{Form}
use Rattle.ndn_name.specs.declared.uri_form.Form.TheVariants.{Digest, Number, Escaped}
use Rattle.ndn_name.specs.Names.{Component, IsName}
use Rattle.ndn_name.specs.Uri.{is_unreserved, IsOctetText, plain, escape, IsEscaped, guarded, IsDigits, IsComponentText}
use Rattle.ndn_name.specs.Uri.{Part, IsPath, IsRooted, IsUri, uri}
use Rattle.ndn_name.specs.UriReading.{IsTail}
use Rattle.ndn_name.proofs.Heads.{all_digits_unreserved, head-unreserved}
use Rattle.ndn_name.proofs.ComponentTexts.{component-cases}
use Rattle.ndn_name.proofs.PathTexts.{rooted_begins}
use Rattle.ndn_name.proofs.PrintedTexts.{parts_at, uri-is}

abbrev pub are_visible : List ℕ → Bool
are_visible text = list_all is_ascii_graphic text

visible-append : (a b : List ℕ) → are_visible a ≡ true → are_visible b ≡ true → are_visible (a ++ b) ≡ true
visible-append a b h k = list_all-append is_ascii_graphic a b ∙ and_from (are_visible a) (are_visible b) h k

unreserved_visible : (c : ℕ) → is_unreserved c ≡ true → is_ascii_graphic c ≡ true
unreserved_visible c h = grind (arith, nat_tests)

digit_visible : (c : ℕ) → digit_value c < 16 → is_ascii_graphic c ≡ true
digit_visible c h = grind (arith, nat_tests)

visible-cons : (c : ℕ) (text : List ℕ) → is_ascii_graphic c ≡ true → are_visible text ≡ true
    → are_visible (c ∷ text) ≡ true
visible-cons c text h k = and_from (is_ascii_graphic c) (are_visible text) h k

all_unreserved : (text : List ℕ) → list_all is_unreserved text ≡ true → are_visible text ≡ true
all_unreserved [] h = refl
all_unreserved (c ∷ text) h =
    let p = and_parts (is_unreserved c) (list_all is_unreserved text) h in
    visible-cons c text (unreserved_visible c p.0) (all_unreserved text p.1)

same_visible : (a b : List ℕ) → a ≡ b → are_visible b ≡ true → are_visible a ≡ true
same_visible a b e h = ap are_visible e ∙ h

octet_visible : (o : ℕ) (text : List ℕ) → IsOctetText o text → are_visible text ≡ true
octet_visible o text (plain free is) =
    same_visible text (o ∷ []) is (visible-cons o [] (unreserved_visible o free) refl)
octet_visible o text (escape high low pair is) =
    same_visible text (37 ∷ high ∷ low ∷ []) is
    (visible-cons high (low ∷ []) (digit_visible high pair.0) (visible-cons low [] (digit_visible low pair.1) refl))

escaped_visible : (octets text : List ℕ) → IsEscaped octets text → are_visible text ≡ true
escaped_visible [] text h = same_visible text [] h refl
escaped_visible (o ∷ octets) text h =
    same_visible text (h.0 ++ h.1) h.2
    (visible-append h.0 h.1 (octet_visible o h.0 h.3) (escaped_visible octets h.1 h.4))

digits_visible : (octets text : List ℕ) → IsDigits octets text → are_visible text ≡ true
digits_visible [] text h = same_visible text [] h refl
digits_visible (o ∷ octets) text h =
    let rest = visible-cons h.1 h.2 (digit_visible h.1 h.4.1) (digits_visible octets h.2 h.5) in
    same_visible text (h.0 ∷ h.1 ∷ h.2) h.3 (visible-cons h.0 (h.1 ∷ h.2) (digit_visible h.0 h.4.0) rest)

decimal_visible : (n : ℕ) → n < 2 ^ 64 → are_visible (decimal n) ≡ true
decimal_visible n low =
    all_unreserved (decimal n) (all_digits_unreserved (decimal n) (decimal_is_IsNumeral n low).0.1)

tail_visible : (form : Form) (c : Component) (tail : List ℕ) → IsTail form c tail → are_visible tail ≡ true
tail_visible (Digest typ) c tail h = digits_visible c.1 tail h.1.1
tail_visible (Number typ) c tail h =
    same_visible tail (decimal h.1.0) h.1.2.1 (decimal_visible h.1.0 (omega (arith, h.1.2.0)))
tail_visible (Escaped typ) c tail h = escaped_visible (guarded c.1) tail h.1

component_visible : (c : Component) (text : List ℕ) → IsComponentText c text → are_visible text ≡ true
component_visible c text h =
    elim (component-cases c text h) [
      | inl a ↦ escaped_visible (guarded c.1) text a.1
      | inr a ↦
          let head = all_unreserved a.head (head-unreserved a.form a.head a.is_head) in
          let tail = visible-cons 61 a.tail refl (tail_visible a.form c a.tail a.is_tail) in
          same_visible text (a.head ++ 61 ∷ a.tail) a.split (visible-append a.head (61 ∷ a.tail) head tail)
    ]

path_visible : (at : ℕ) (parts : List Part) (text : List ℕ) → IsPath at parts text → are_visible text ≡ true
path_visible at [] text h = same_visible text [] h refl
path_visible at (part ∷ parts) text h =
    let first = component_visible part.1 h.0 h.4 in
    let rest = path_visible (at + 1 + length h.0) parts h.1 h.5 in
    same_visible text (47 ∷ h.0 ++ h.1) h.2 (visible-cons 47 (h.0 ++ h.1) refl (visible-append h.0 h.1 first rest))

rooted_visible : (at : ℕ) (parts : List Part) (text : List ℕ) → IsRooted at parts text → are_visible text ≡ true
rooted_visible at [] text h = same_visible text (47 ∷ []) h refl
rooted_visible at (part ∷ parts) text h = path_visible at (part ∷ parts) text h

pub uri-visible : (parts : List Part) (text : List ℕ) → IsUri parts text → are_visible text ≡ true
uri-visible parts text h =
    elim h [
      | inl a ↦ rooted_visible 0 parts text a
      | inr a ↦
          same_visible text (110 ∷ 100 ∷ 110 ∷ 58 ∷ a.0) a.1
          (visible-append (110 ∷ 100 ∷ 110 ∷ 58 ∷ []) a.0 refl (rooted_visible 4 parts a.0 a.2))
    ]

visible_ascii : (text : List ℕ) → are_visible text ≡ true → IsAscii text
visible_ascii [] h i = omega arith
visible_ascii (c ∷ text) h zero =
    let p = and_parts (is_ascii_graphic c) (are_visible text) h in
    below c p.0 where
      below : (d : ℕ) → is_ascii_graphic d ≡ true → d < 128
      below d k = grind (arith, nat_tests)
visible_ascii (c ∷ text) h (suc i) =
    visible_ascii text (and_parts (is_ascii_graphic c) (are_visible text) h).1 i

pub uri-ascii : (name : List Component) → IsName name → IsAscii (uri name)
uri-ascii name h = visible_ascii (uri name) (uri-visible (parts_at 0 name) (uri name) (uri-is name h))

rooted_some : (at : ℕ) (parts : List Part) (text : List ℕ) → IsRooted at parts text → 0 < length text
rooted_some at parts text h = let r = rooted_begins at parts text h in omega (arith, ap length r.1)

pub uri-some : (parts : List Part) (text : List ℕ) → IsUri parts text → 0 < length text
uri-some parts text h =
    elim h [
      | inl a ↦ rooted_some 0 parts text a
      | inr a ↦ omega (arith, ap length a.1, rooted_some 4 parts a.0 a.2)
    ]
