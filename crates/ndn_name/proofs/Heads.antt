-- What stands before an equals sign.
use Rattle.std.proofs.Common.{◌≡◌, ℕ, ◌<◌, ◌≤◌, Bool, true, false, cond, ◌&&◌, List, [], ◌∷◌, ◌++◌, length, Option}
use Rattle.std.proofs.Common.{Some, None, refl, sym, ap, subst, ◌∙◌, arith, ◌⊎◌, inl, inr}
use Rattle.std.specs.Prelude.{codes, bytes_eq}
use Rattle.std.specs.List.{list_all}
use Rattle.std.specs.Char.{digit_value}
use Rattle.std.specs.Cmp.Lexicographic.{bytes_decides}
use Rattle.std.specs.Fmt.{decimal}
use Rattle.std.specs.Str.Parse.{AllDigits}
use Rattle.std.proofs.lemmas.Fmt.{decimal_is_IsNumeral, decimal_injective, decimal_nonempty}
use Rattle.ndn_tlv.proofs.Steps.{chosen}
use Rattle.ndn_name.specs.declared.uri_form.Form.{Form}
use Rattle.ndn_name.specs.declared.uri_form.Form.TheVariants.{Digest, Number, Escaped}
use Rattle.ndn_name.specs.Uri.{is_unreserved, IsDecimal}
use Rattle.ndn_name.specs.UriReading.{HasNoHead, IsHead, keyword_of, LacksOctet}
use Rattle.ndn_name.proofs.Decimals.{digit_char}
use Rattle.ndn_name.proofs.Separators.{lacks-test, lacks-separator, split-same}

abbrev some_form : Form → Option Form
some_form f = Some f

some_is : (f g : Form) → some_form f ≡ some_form g → f ≡ g
some_is f g e = cc

-- ---- keywords

abbrev from_seq : List ℕ → Option Form
from_seq head = cond (bytes_eq head (codes "seq")) (Some (Number 58)) None

abbrev from_v : List ℕ → Option Form
from_v head = cond (bytes_eq head (codes "v")) (Some (Number 54)) (from_seq head)

abbrev from_seg : List ℕ → Option Form
from_seg head = cond (bytes_eq head (codes "seg")) (Some (Number 50)) (from_v head)

abbrev from_params : List ℕ → Option Form
from_params head = cond (bytes_eq head (codes "params-sha256")) (Some (Digest 2)) (from_seg head)

pub is_word : (head word : List ℕ) → bytes_eq head word ≡ true → head ≡ word
is_word head word h = (bytes_decides head word).0 h

pub keyword-some : (head : List ℕ) (form : Form) → keyword_of head ≡ Some form → IsHead form head
keyword-some head form e =
    let P : Form → Type 0 = λ f. IsHead f head in
    elim (chosen (bytes_eq head (codes "sha256digest")) (Some (Digest 1)) (from_params head) (Some form) e) [
      | inl a ↦ subst P (some_is (Digest 1) form a.1) (inl (refl, is_word head (codes "sha256digest") a.0))
      | inr a ↦
          elim (chosen (bytes_eq head (codes "params-sha256")) (Some (Digest 2)) (from_seg head) (Some form) a.1) [
            | inl b ↦ subst P (some_is (Digest 2) form b.1) (inr (refl, is_word head (codes "params-sha256") b.0))
            | inr b ↦
                elim (chosen (bytes_eq head (codes "seg")) (Some (Number 50)) (from_v head) (Some form) b.1) [
                  | inl d ↦ subst P (some_is (Number 50) form d.1) (inl (refl, is_word head (codes "seg") d.0))
                  | inr d ↦
                      elim (chosen (bytes_eq head (codes "v")) (Some (Number 54)) (from_seq head) (Some form) d.1) [
                        | inl f ↦
                            subst P (some_is (Number 54) form f.1) (inr (inl (refl, is_word head (codes "v") f.0)))
                        | inr f ↦
                            elim (chosen (bytes_eq head (codes "seq")) (Some (Number 58)) None (Some form) f.1) [
                              | inl g ↦
                                  subst P (some_is (Number 58) form g.1)
                                  (inr (inr (refl, is_word head (codes "seq") g.0)))
                              | inr g ↦ absurd (let h = g.1 in cc)
                            ]
                      ]
                ]
          ]
    ]

-- what is read of a word
word_form : (typ : ℕ) (k : ℕ) (head word : List ℕ) (make : ℕ → Form) → keyword_of word ≡ Some (make k)
    → (typ ≡ k) × (head ≡ word) → keyword_of head ≡ Some (make typ)
word_form typ k head word make read h = ap keyword_of h.1 ∙ read ∙ ap (λ (n : ℕ). some_form (make n)) (sym h.0)

pub keyword-head : (form : Form) (head : List ℕ) → IsHead form head
    → (keyword_of head ≡ Some form) ⊎ ((typ : ℕ) × (form ≡ Escaped typ))
keyword-head (Digest typ) head h =
    elim h [
      | inl a ↦ inl (word_form typ 1 head (codes "sha256digest") (λ n. Digest n) refl a)
      | inr a ↦ inl (word_form typ 2 head (codes "params-sha256") (λ n. Digest n) refl a)
    ]
keyword-head (Number typ) head h =
    elim h [
      | inl a ↦ inl (word_form typ 50 head (codes "seg") (λ n. Number n) refl a)
      | inr b ↦
          elim b [
            | inl a ↦ inl (word_form typ 54 head (codes "v") (λ n. Number n) refl a)
            | inr a ↦ inl (word_form typ 58 head (codes "seq") (λ n. Number n) refl a)
          ]
    ]
keyword-head (Escaped typ) head h = inr (typ, refl)

-- ---- what heads are made of

digit_unreserved : (c : ℕ) → digit_value c < 10 → is_unreserved c ≡ true
digit_unreserved c h = let e = digit_char c h in grind arith

pub all_digits_unreserved : (text : List ℕ) → AllDigits 10 text → list_all is_unreserved text ≡ true
all_digits_unreserved [] h = refl
all_digits_unreserved (c ∷ text) h =
    ap (λ (b : Bool). b && list_all is_unreserved text) (digit_unreserved c h.0) ∙ all_digits_unreserved text h.1

of_word : (head word : List ℕ) → list_all is_unreserved word ≡ true → head ≡ word → list_all is_unreserved head ≡ true
of_word head word h e = ap (list_all is_unreserved) e ∙ h

pub head-unreserved : (form : Form) (head : List ℕ) → IsHead form head → list_all is_unreserved head ≡ true
head-unreserved (Digest typ) head h =
    elim h [
      | inl a ↦ of_word head (codes "sha256digest") refl a.1
      | inr a ↦ of_word head (codes "params-sha256") refl a.1
    ]
head-unreserved (Number typ) head h =
    elim h [
      | inl a ↦ of_word head (codes "seg") refl a.1
      | inr b ↦ elim b [ inl a ↦ of_word head (codes "v") refl a.1 | inr a ↦ of_word head (codes "seq") refl a.1 ]
    ]
head-unreserved (Escaped typ) head h =
    of_word head (decimal typ)
    (all_digits_unreserved (decimal typ) (decimal_is_IsNumeral typ (omega (arith, h.1.0))).0.1) h.1.1

pub head-lacks : (s : ℕ) (form : Form) (head : List ℕ) → is_unreserved s ≡ false → IsHead form head → LacksOctet s head
head-lacks s form head none h = lacks-test s is_unreserved head none (head-unreserved form head h)

-- ---- a head is of one form

first_is_digit : (text : List ℕ) → AllDigits 10 text → 0 < length text
    → (c : ℕ) × (rest : List ℕ) × (text ≡ c ∷ rest) × (digit_value c < 10)
first_is_digit [] h some = absurd (omega arith)
first_is_digit (c ∷ rest) h some = (c, rest, refl, h.0)

no_digit_first : (typ c : ℕ) (word : List ℕ) (head : List ℕ) → typ ≤ 65535 → head ≡ decimal typ → head ≡ c ∷ word
    → 10 ≤ digit_value c → ⊥
no_digit_first typ c word head low e g large =
    let d =
    first_is_digit (decimal typ) (decimal_is_IsNumeral typ (omega arith)).0.1 (decimal_nonempty typ (omega arith)) in
    let whole : c ∷ word ≡ d.0 ∷ d.1 = sym g ∙ e ∙ d.2 in
    let same : c ≡ d.0 = cc in
    absurd (omega (arith, ap digit_value same, d.3))

keyword_no_decimal : (form : Form) (typ : ℕ) (head : List ℕ) → keyword_of head ≡ Some form → typ ≤ 65535
    → head ≡ decimal typ → ⊥
keyword_no_decimal form typ head e low is = by_form form (keyword-some head form e) (keyword_form form e) where
  keyword_form : (f : Form) → keyword_of head ≡ Some f → ((n : ℕ) → f ≡ Escaped n → ⊥)
  keyword_form f k n g = elim (keyword_is head) [
    | inl none ↦ let h = none in absurd cc
    | inr one ↦ one.2 n (let i : one.0 ≡ f = some_is one.0 f (sym one.1 ∙ k) in i ∙ g)
  ] where
    keyword_is : (h : List ℕ)
        → (keyword_of h ≡ None) ⊎ ((o : Form) × (keyword_of h ≡ Some o) × ((m : ℕ) → o ≡ Escaped m → ⊥))
    keyword_is h =
        tested (bytes_eq h (codes "sha256digest")) (bytes_eq h (codes "params-sha256")) (bytes_eq h (codes "seg"))
        (bytes_eq h (codes "v")) (bytes_eq h (codes "seq")) where
          tested : (a b d g i : Bool)
              → (cond a (some_form (Digest 1))
              (cond b (Some (Digest 2))
              (cond d (Some (Number 50)) (cond g (Some (Number 54)) (cond i (Some (Number 58)) None))))
              ≡ None)
              ⊎ ((o : Form)
              × (cond a (some_form (Digest 1))
              (cond b (Some (Digest 2))
              (cond d (Some (Number 50)) (cond g (Some (Number 54)) (cond i (Some (Number 58)) None))))
              ≡ Some o)
              × ((m : ℕ) → o ≡ Escaped m → ⊥))
          tested true b d g i = inr (Digest 1, refl, λ m x. absurd cc)
          tested false true d g i = inr (Digest 2, refl, λ m x. absurd cc)
          tested false false true g i = inr (Number 50, refl, λ m x. absurd cc)
          tested false false false true i = inr (Number 54, refl, λ m x. absurd cc)
          tested false false false false true = inr (Number 58, refl, λ m x. absurd cc)
          tested false false false false false = inl refl

  by_form : (f : Form) → IsHead f head → ((n : ℕ) → f ≡ Escaped n → ⊥) → ⊥
  by_form (Digest n) h k =
      elim h [
        | inl a ↦ no_digit_first typ 115 (codes "ha256digest") head low is a.1 (omega arith)
        | inr a ↦ no_digit_first typ 112 (codes "arams-sha256") head low is a.1 (omega arith)
      ]
  by_form (Number n) h k =
      elim h [
        | inl a ↦ no_digit_first typ 115 (codes "eg") head low is a.1 (omega arith)
        | inr b ↦
            elim b [
              | inl a ↦ no_digit_first typ 118 [] head low is a.1 (omega arith)
              | inr a ↦ no_digit_first typ 115 (codes "eq") head low is a.1 (omega arith)
            ]
      ]
  by_form (Escaped n) h k = k n refl

pub head-same : (f g : Form) (head : List ℕ) → IsHead f head → IsHead g head → f ≡ g
head-same f g head h k =
    elim (keyword-head f head h) [
      | inl a ↦
          elim (keyword-head g head k) [
            | inl b ↦ some_is f g (sym a ∙ b)
            | inr b ↦
                let P : Form → Type 0 = λ x. IsHead x head in
                let d = subst P b.1 k in absurd (keyword_no_decimal f b.0 head a d.1.0 d.1.1)
          ]
      | inr a ↦
          let P : Form → Type 0 = λ x. IsHead x head in
          let d = subst P a.1 h in
          elim (keyword-head g head k) [
            | inl b ↦ absurd (keyword_no_decimal g a.0 head b d.1.0 d.1.1)
            | inr b ↦
                let e = subst P b.1 k in
                a.1
                ∙ ap (λ (n : ℕ). Escaped n)
                (decimal_injective a.0 b.0 (omega (arith, d.1.0)) (omega (arith, e.1.0)) (sym d.1.1 ∙ e.1.1))
                ∙ sym b.1
          ]
    ]

pub no_head : (head : List ℕ) → keyword_of head ≡ None → ((typ : ℕ) → 0 < typ → IsDecimal 65535 typ head → ⊥)
    → (form : Form) → IsHead form head → ⊥
no_head head none no_type form h =
    elim (keyword-head form head h) [
      | inl a ↦ let k = sym none ∙ a in absurd cc
      | inr a ↦ let P : Form → Type 0 = λ x. IsHead x head in let d = subst P a.1 h in no_type a.0 d.0 d.1
    ]

-- ---- texts without a head

pub lacks_head : (text : List ℕ) → LacksOctet 61 text → HasNoHead text
lacks_head text h form head tail is_head e =
    let P : List ℕ → Type 0 = λ t. LacksOctet 61 t in lacks-separator 61 head tail (subst P e h)

pub other_head : (text prefix rest : List ℕ) → text ≡ prefix ++ 61 ∷ rest → LacksOctet 61 prefix
    → ((form : Form) → IsHead form prefix → ⊥) → HasNoHead text
other_head text prefix rest split lacks none form head tail is_head e =
    let same = split-same 61 prefix head rest tail lacks (head-lacks 61 form head refl is_head) (sym split ∙ e) in
    let P : List ℕ → Type 0 = λ x. IsHead form x in
    none form (subst P (sym same.0) is_head)
