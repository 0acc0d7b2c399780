-- The canonical order of names is the lexicographic order of their octets, and a prefix is a prefix of the octets.
use Rattle.std.proofs.Common.{◌≡◌, ℕ, ◌+◌, ◌*◌, ◌^◌, ◌<◌, ◌≤◌, List, [], ◌∷◌, ◌++◌, length, length-append, refl, sym}
use Rattle.std.proofs.Common.{ap, ◌∙◌, append_assoc, arith, inl, inr}
use Rattle.std.specs.declared.cmp.Ordering.{Ordering}
use Rattle.std.specs.declared.cmp.Ordering.TheVariants.{Less, Equal, Greater}
use Rattle.std.specs.Ordering.{nat_cmp, ordering_then, ordering_reverse}
use Rattle.std.specs.Cmp.Lexicographic.{slice_cmp}
use Rattle.std.specs.Int.{w16, w32, w64, to_be_bytes}
use Rattle.std.specs.Int.Digits.{number_from_digits_after, AllBelowBase}
use Rattle.std.proofs.lemmas.Bool.{cases_lt}
use Rattle.std.proofs.lemmas.Cmp.{nat_cmp_total, nat_list_cmp_total, tied_itself}
use Rattle.std.proofs.lemmas.Nat.{from_be_bytes-to_be_bytes_2, from_be_bytes-to_be_bytes_4, from_be_bytes-to_be_bytes_8}
use Rattle.std.specs.Cmp.{nat_cmp_is}
use Rattle.ndn_tlv.specs.Spelling.{number, element}
use Rattle.ndn_tlv.proofs.Numbers.{number-narrow, number-16, number-32, number-64}
use Rattle.ndn_name.specs.Names.{Component, IsComponent, IsName, IsValue, components, encoding}
use Rattle.ndn_name.specs.CanonicalOrder.{component_cmp, canonical_cmp}
use Rattle.ndn_name.proofs.Encodings.{number-some}

abbrev octets_cmp : List ℕ → List ℕ → Ordering
octets_cmp = slice_cmp nat_cmp

-- ---- orders, one after another

then-assoc : (a b c : Ordering) → ordering_then (ordering_then a b) c ≡ ordering_then a (ordering_then b c)
then-assoc Less b c = refl
then-assoc Equal b c = refl
then-assoc Greater b c = refl

then-equal : (a : Ordering) → ordering_then a Equal ≡ a
then-equal Less = refl
then-equal Equal = refl
then-equal Greater = refl

-- ---- lists whose fronts are as long

append-as_long : (a b x y : List ℕ) → length a ≡ length b
    → octets_cmp (a ++ x) (b ++ y) ≡ ordering_then (octets_cmp a b) (octets_cmp x y)
append-as_long [] [] x y e = refl
append-as_long [] (q ∷ b) x y e = absurd (omega arith)
append-as_long (p ∷ a) [] x y e = absurd (omega arith)
append-as_long (p ∷ a) (q ∷ b) x y e =
    ap (ordering_then (nat_cmp p q)) (append-as_long a b x y (omega arith))
    ∙ sym (then-assoc (nat_cmp p q) (octets_cmp a b) (octets_cmp x y))

append-same : (a x y : List ℕ) → octets_cmp (a ++ x) (a ++ y) ≡ octets_cmp x y
append-same a x y =
    append-as_long a a x y refl
    ∙ ap (λ (o : Ordering). ordering_then o (octets_cmp x y)) (tied_itself nat_list_cmp_total a)

-- ---- digits in base 256

digit_after : (m n d e : ℕ) → d < 256 → e < 256
    → ordering_then (nat_cmp m n) (nat_cmp d e) ≡ nat_cmp (m * 256 + d) (n * 256 + e)
digit_after m n d e small less =
    elim (cases_lt m n) [
      | inl a ↦
          let wide : m * 256 + d < n * 256 + e = omega arith in
          rw (sym (nat_cmp_is m n Less a), sym (nat_cmp_is (m * 256 + d) (n * 256 + e) Less wide)) refl
      | inr a ↦
          elim (cases_lt n m) [
            | inl b ↦
                let wide : n * 256 + e < m * 256 + d = omega arith in
                rw (sym (nat_cmp_is m n Greater b), sym (nat_cmp_is (m * 256 + d) (n * 256 + e) Greater wide)) refl
            | inr b ↦ let same : m ≡ n = omega arith in rw same (tied n ∙ last n)
          ]
    ]
  where
    tied : (k : ℕ) → ordering_then (nat_cmp k k) (nat_cmp d e) ≡ nat_cmp d e
    tied k = ap (λ (o : Ordering). ordering_then o (nat_cmp d e)) (tied_itself nat_cmp_total k)

    last : (k : ℕ) → nat_cmp d e ≡ nat_cmp (k * 256 + d) (k * 256 + e)
    last k =
        elim (cases_lt d e) [
          | inl a ↦
              let wide : k * 256 + d < k * 256 + e = omega arith in
              sym (nat_cmp_is d e Less a) ∙ nat_cmp_is (k * 256 + d) (k * 256 + e) Less wide
          | inr a ↦
              elim (cases_lt e d) [
                | inl b ↦
                    let wide : k * 256 + e < k * 256 + d = omega arith in
                    sym (nat_cmp_is d e Greater b) ∙ nat_cmp_is (k * 256 + d) (k * 256 + e) Greater wide
                | inr b ↦
                    let same : d ≡ e = omega arith in
                    rw same (tied_itself nat_cmp_total e ∙ sym (tied_itself nat_cmp_total (k * 256 + e)))
              ]
        ]

digits_after : (ds es : List ℕ) (m n : ℕ) → length ds ≡ length es → AllBelowBase 256 ds → AllBelowBase 256 es
    → ordering_then (nat_cmp m n) (octets_cmp ds es)
    ≡ nat_cmp (number_from_digits_after 256 m ds) (number_from_digits_after 256 n es)
digits_after [] [] m n e small less = then-equal (nat_cmp m n)
digits_after [] (q ∷ es) m n e small less = absurd (omega arith)
digits_after (p ∷ ds) [] m n e small less = absurd (omega arith)
digits_after (p ∷ ds) (q ∷ es) m n e small less =
    sym (then-assoc (nat_cmp m n) (nat_cmp p q) (octets_cmp ds es))
    ∙ ap (λ (o : Ordering). ordering_then o (octets_cmp ds es)) (digit_after m n p q small.0 less.0)
    ∙ digits_after ds es (m * 256 + p) (n * 256 + q) (omega arith) small.1 less.1

-- digits of lesser numbers come first, whatever follows them
digits_first : (ds es x y : List ℕ) (m n : ℕ) → length ds ≡ length es → AllBelowBase 256 ds → AllBelowBase 256 es
    → number_from_digits_after 256 0 ds ≡ m → number_from_digits_after 256 0 es ≡ n → m < n
    → octets_cmp (ds ++ x) (es ++ y) ≡ Less
digits_first ds es x y m n long small less value other lt =
    append-as_long ds es x y long
    ∙ ap (λ (o : Ordering). ordering_then o (octets_cmp x y))
    (digits_after ds es 0 0 long small less ∙ ap (λ (k : ℕ). nat_cmp k (number_from_digits_after 256 0 es)) value
    ∙ ap (nat_cmp m) other ∙ sym (nat_cmp_is m n Less lt))

small16 : (n : ℕ) → AllBelowBase 256 (to_be_bytes w16 n)
small16 n = (omega arith, (omega arith, tt))

value16 : (n : ℕ) → n < 2 ^ 16 → number_from_digits_after 256 0 (to_be_bytes w16 n) ≡ n
value16 n h = omega (arith, from_be_bytes-to_be_bytes_2 n h)

small32 : (n : ℕ) → AllBelowBase 256 (to_be_bytes w32 n)
small32 n = (omega arith, (omega arith, (omega arith, (omega arith, tt))))

value32 : (n : ℕ) → n < 2 ^ 32 → number_from_digits_after 256 0 (to_be_bytes w32 n) ≡ n
value32 n h = omega (arith, from_be_bytes-to_be_bytes_4 n h)

small64 : (n : ℕ) → AllBelowBase 256 (to_be_bytes w64 n)
small64 n = (
  omega arith,
  (omega arith, (omega arith, (omega arith, (omega arith, (omega arith, (omega arith, (omega arith, tt))))))),
)

value64 : (n : ℕ) → n < 2 ^ 64 → number_from_digits_after 256 0 (to_be_bytes w64 n) ≡ n
value64 n h = omega (arith, from_be_bytes-to_be_bytes_8 n h)

-- ---- numbers of elements

first_less : (p q : ℕ) (x y : List ℕ) → p < q → octets_cmp (p ∷ x) (q ∷ y) ≡ Less
first_less p q x y h = ap (λ (o : Ordering). ordering_then o (octets_cmp x y)) (sym (nat_cmp_is p q Less h))

second : (p : ℕ) (x y : List ℕ) → octets_cmp x y ≡ Less → octets_cmp (p ∷ x) (p ∷ y) ≡ Less
second p x y h = ap (λ (o : Ordering). ordering_then o (octets_cmp x y)) (tied_itself nat_cmp_total p) ∙ h

abbrev Precedes : List ℕ → List ℕ → Type 0
Precedes a b = (x y : List ℕ) → octets_cmp (a ++ x) (b ++ y) ≡ Less

wide_less : (m n : ℕ) → 253 ≤ n → m < n → n < 2 ^ 64 → Precedes (number m) (number n)
wide_less m n low lt fits x y =
    elim (cases_lt n (2 ^ 16)) [
      | inl n16 ↦
          elim (cases_lt m 253) [
            | inl m8 ↦ rw (number-narrow m m8, number-16 n low n16) (first_less m 253 x (to_be_bytes w16 n ++ y) m8)
            | inr m16 ↦
                let m-fits : m < 2 ^ 16 = omega arith in
                rw (number-16 m m16 m-fits, number-16 n low n16)
                (second 253 (to_be_bytes w16 m ++ x) (to_be_bytes w16 n ++ y)
                (digits_first (to_be_bytes w16 m) (to_be_bytes w16 n) x y m n refl (small16 m) (small16 n)
                (value16 m m-fits) (value16 n n16) lt))
          ]
      | inr n-wide ↦
          elim (cases_lt n (2 ^ 32)) [
            | inl n32 ↦
                elim (cases_lt m 253) [
                  | inl m8 ↦
                      rw (number-narrow m m8, number-32 n n-wide n32)
                      (first_less m 254 x (to_be_bytes w32 n ++ y) (omega arith))
                  | inr m-wide ↦
                      elim (cases_lt m (2 ^ 16)) [
                        | inl m16 ↦
                            rw (number-16 m m-wide m16, number-32 n n-wide n32)
                            (first_less 253 254 (to_be_bytes w16 m ++ x) (to_be_bytes w32 n ++ y) (omega arith))
                        | inr m32 ↦
                            let m-fits : m < 2 ^ 32 = omega arith in
                            rw (number-32 m m32 m-fits, number-32 n n-wide n32)
                            (second 254 (to_be_bytes w32 m ++ x) (to_be_bytes w32 n ++ y)
                            (digits_first (to_be_bytes w32 m) (to_be_bytes w32 n) x y m n refl (small32 m) (small32 n)
                            (value32 m m-fits) (value32 n n32) lt))
                      ]
                ]
            | inr n64 ↦
                elim (cases_lt m 253) [
                  | inl m8 ↦
                      rw (number-narrow m m8, number-64 n n64)
                      (first_less m 255 x (to_be_bytes w64 n ++ y) (omega arith))
                  | inr m-wide ↦
                      elim (cases_lt m (2 ^ 16)) [
                        | inl m16 ↦
                            rw (number-16 m m-wide m16, number-64 n n64)
                            (first_less 253 255 (to_be_bytes w16 m ++ x) (to_be_bytes w64 n ++ y) (omega arith))
                        | inr m-wider ↦
                            elim (cases_lt m (2 ^ 32)) [
                              | inl m32 ↦
                                  rw (number-32 m m-wider m32, number-64 n n64)
                                  (first_less 254 255 (to_be_bytes w32 m ++ x) (to_be_bytes w64 n ++ y) (omega arith))
                              | inr m64 ↦
                                  let m-fits : m < 2 ^ 64 = omega arith in
                                  rw (number-64 m m64, number-64 n n64)
                                  (second 255 (to_be_bytes w64 m ++ x) (to_be_bytes w64 n ++ y)
                                  (digits_first (to_be_bytes w64 m) (to_be_bytes w64 n) x y m n refl (small64 m)
                                  (small64 n) (value64 m m-fits) (value64 n fits) lt))
                            ]
                      ]
                ]
          ]
    ]

number-less : (m n : ℕ) → m < n → n < 2 ^ 64 → Precedes (number m) (number n)
number-less m n lt fits x y =
    elim (cases_lt n 253) [
      | inl small ↦
          let less : m < 253 = omega arith in rw (number-narrow m less, number-narrow n small) (first_less m n x y lt)
      | inr low ↦ wide_less m n low lt fits x y
    ]

-- numbers decide as they are spelled
number-decides : (m n : ℕ) (x y : List ℕ) → m < 2 ^ 64 → n < 2 ^ 64
    → octets_cmp (number m ++ x) (number n ++ y) ≡ ordering_then (nat_cmp m n) (octets_cmp x y)
number-decides m n x y small less =
    elim (cases_lt m n) [
      | inl a ↦
          number-less m n a less x y
          ∙ sym (ap (λ (o : Ordering). ordering_then o (octets_cmp x y)) (sym (nat_cmp_is m n Less a)))
      | inr a ↦
          elim (cases_lt n m) [
            | inl b ↦
                nat_list_cmp_total.antisymm (number m ++ x) (number n ++ y)
                ∙ ap ordering_reverse (number-less n m b small y x)
                ∙ sym (ap (λ (o : Ordering). ordering_then o (octets_cmp x y)) (sym (nat_cmp_is m n Greater b)))
            | inr b ↦
                let same : m ≡ n = omega arith in
                rw same (append-same (number n) x y
                ∙ sym (ap (λ (o : Ordering). ordering_then o (octets_cmp x y)) (tied_itself nat_cmp_total n)))
          ]
    ]

-- ---- components and names

-- values of the same length decide before what follows them
value-decides : (v w x y : List ℕ)
    → ordering_then (nat_cmp (length v) (length w)) (octets_cmp (v ++ x) (w ++ y))
    ≡ ordering_then (ordering_then (nat_cmp (length v) (length w)) (octets_cmp v w)) (octets_cmp x y)
value-decides v w x y =
    elim (cases_lt (length v) (length w)) [
      | inl a ↦ rw (sym (nat_cmp_is (length v) (length w) Less a)) refl
      | inr a ↦
          elim (cases_lt (length w) (length v)) [
            | inl b ↦ rw (sym (nat_cmp_is (length v) (length w) Greater b)) refl
            | inr b ↦
                let same : length v ≡ length w = omega arith in
                ap (ordering_then (nat_cmp (length v) (length w))) (append-as_long v w x y same)
                ∙ sym (then-assoc (nat_cmp (length v) (length w)) (octets_cmp v w) (octets_cmp x y))
          ]
    ]

element-decides : (a b : Component) (x y : List ℕ) → IsComponent a → IsComponent b
    → octets_cmp (element a.0 a.1 ++ x) (element b.0 b.1 ++ y) ≡ ordering_then (component_cmp a b) (octets_cmp x y)
element-decides a b x y h k =
    let long = number (length a.1) in
    let other = number (length b.1) in
    ap (λ (l : List ℕ). octets_cmp l (element b.0 b.1 ++ y)) (regroup (number a.0) long a.1 x)
    ∙ ap (octets_cmp (number a.0 ++ (long ++ (a.1 ++ x)))) (regroup (number b.0) other b.1 y)
    ∙ number-decides a.0 b.0 (long ++ (a.1 ++ x)) (other ++ (b.1 ++ y)) (omega (arith, h.below))
    (omega (arith, k.below))
    ∙ ap (ordering_then (nat_cmp a.0 b.0))
    (number-decides (length a.1) (length b.1) (a.1 ++ x) (b.1 ++ y) h.long k.long ∙ value-decides a.1 b.1 x y)
    ∙ sym (then-assoc (nat_cmp a.0 b.0) (ordering_then (nat_cmp (length a.1) (length b.1)) (octets_cmp a.1 b.1))
    (octets_cmp x y))
  where
    regroup : (p q r t : List ℕ) → ((p ++ q) ++ r) ++ t ≡ p ++ (q ++ (r ++ t))
    regroup p q r t = simp append_assoc

nothing_first : (x : List ℕ) → 0 < length x → octets_cmp [] x ≡ Less
nothing_first [] h = absurd (omega arith)
nothing_first (p ∷ x) h = refl

something_last : (x : List ℕ) → 0 < length x → octets_cmp x [] ≡ Greater
something_last [] h = absurd (omega arith)
something_last (p ∷ x) h = refl

pub element-some : (c : Component) (x : List ℕ) → IsComponent c → 0 < length (element c.0 c.1 ++ x)
element-some c x h =
    omega (
      arith,
      length-append (element c.0 c.1) x,
      length-append (number c.0 ++ number (length c.1)) c.1,
      length-append (number c.0) (number (length c.1)),
      number-some c.0,
    )

pub encodings-cmp : (a b : List Component) → IsName a → IsName b
    → octets_cmp (encoding a) (encoding b) ≡ canonical_cmp a b
unfolding encoding
encodings-cmp [] [] h k = refl
encodings-cmp [] (d ∷ b) h k = nothing_first (element d.0 d.1 ++ encoding b) (element-some d (encoding b) k.0)
encodings-cmp (c ∷ a) [] h k = something_last (element c.0 c.1 ++ encoding a) (element-some c (encoding a) h.0)
encodings-cmp (c ∷ a) (d ∷ b) h k =
    element-decides c d (encoding a) (encoding b) h.0 k.0
    ∙ ap (ordering_then (component_cmp c d)) (encodings-cmp a b h.1 k.1)

pub values-cmp : (o p : List ℕ) (m n : ℕ) → IsValue o m → IsValue p n
    → octets_cmp o p ≡ canonical_cmp (components o) (components p)
values-cmp o p m n h k =
    ap (λ (x : List ℕ). octets_cmp x p) h.spelled
    ∙ ap (octets_cmp (encoding (components o))) k.spelled
    ∙ encodings-cmp (components o) (components p) h.name k.name
