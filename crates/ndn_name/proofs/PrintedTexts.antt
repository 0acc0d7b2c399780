-- The text that is printed for a name is a text of the name.
use Rattle.std.proofs.Common.{◌≡◌, ℕ, suc, ◌+◌, ◌/◌, ◌%◌, ◌^◌, ◌<◌, ◌≤◌, Bool, true, false, cond, not, ◌&&◌, leb, eqb}
use Rattle.std.proofs.Common.{List, [], ◌∷◌, ◌++◌, length, Option, Some, None, refl, sym, ap, subst, ◌∙◌, arith, ◌⊎◌}
use Rattle.std.proofs.Common.{inl, inr}
use Rattle.std.specs.Prelude.{codes}
use Rattle.std.specs.List.{flat_map}
use Rattle.std.specs.Char.{digit_value}
use Rattle.std.specs.Fmt.{decimal, digit_glyph}
use Rattle.std.specs.Int.{w8, w16, w32, w64, to_be_bytes, from_be_bytes}
use Rattle.std.proofs.lemmas.Bool.{cases_lt, lt-ltb, le-ltb, leb-true, eqb-true}
use Rattle.std.proofs.lemmas.Nat.{be_bytes_2, be_bytes_4, be_bytes_8}
use Rattle.std.proofs.lemmas.Option.{same_Some}
use Rattle.ndn_tlv.specs.Elements.{IsOctets}
use Rattle.ndn_tlv.proofs.Numbers.{wide16, wide32, wide64}
use Rattle.ndn_tlv.proofs.Octets.{IsOctets-cons}
use Rattle.ndn_tlv.specs.NumberField.{number_of, number_field}
use Rattle.ndn_name.specs.Names.{Component, IsComponent, IsName}
use Rattle.ndn_name.specs.Uri.{is_unreserved, IsPair, IsOctetText, plain, escape, IsEscaped, are_periods, guarded}
use Rattle.ndn_name.specs.Uri.{IsValueText, IsDigits, IsComponentText, generic, typed, implicit_digest}
use Rattle.ndn_name.specs.Uri.{parameters_digest, segment, version, sequence, Part, IsPath, IsUri, name_of_parts}
use Rattle.ndn_name.specs.Uri.{hex_pair, escape_of, value_text, digest_text, in_shortest_width, plain_text, number_text}
use Rattle.ndn_name.specs.Uri.{component_text, path_text, uri}
use Rattle.ndn_name.specs.UriVerdict.{is_bad_digest, first_bad_digest}

-- ---- digits

glyph_value : (upper : Bool) (d : ℕ) → d < 16 → digit_value (digit_glyph upper d) ≡ d
glyph_value upper d h =
    elim (cases_lt d 10) [
      | inl a ↦ rw (lt-ltb d 10 a) (small (omega arith))
      | inr a ↦ rw (le-ltb d 10 a) (letter upper a)
    ]
  where
    small : d < 10 → digit_value (48 + d) ≡ d
    small lt = grind arith

    letter : (b : Bool) → 10 ≤ d → digit_value (cond b (55 + d) (87 + d)) ≡ d
    letter true low = grind arith
    letter false low = grind arith

pair_is : (upper : Bool) (o : ℕ) → o < 256 → IsPair o (digit_glyph upper (o / 16)) (digit_glyph upper (o % 16))
pair_is upper o h =
    let high = glyph_value upper (o / 16) (omega arith) in
    let low = glyph_value upper (o % 16) (omega arith) in
    (omega (arith, high), omega (arith, low), omega (arith, high, low))

-- ---- values

octet_text : (o : ℕ) → o < 256 → IsOctetText o (escape_of o)
octet_text o h = by_test (is_unreserved o) refl where
  by_test : (b : Bool) → is_unreserved o ≡ b → IsOctetText o (cond b (o ∷ []) (37 ∷ hex_pair true o))
  by_test true e = plain e refl
  by_test false e = escape (digit_glyph true (o / 16)) (digit_glyph true (o % 16)) (pair_is true o h) refl

escaped-is : (octets : List ℕ) → IsOctets octets → IsEscaped octets (flat_map escape_of octets)
escaped-is [] h = refl
escaped-is (o ∷ octets) h =
    (escape_of o, flat_map escape_of octets, refl, octet_text o (h 0), escaped-is octets (λ i. h (suc i)))

guarded_octets : (value : List ℕ) → IsOctets value → IsOctets (guarded value)
guarded_octets value h = by_test (are_periods value) refl where
  by_test : (b : Bool) → are_periods value ≡ b → IsOctets (cond b (46 ∷ 46 ∷ 46 ∷ value) value)
  by_test true e =
      IsOctets-cons 46 (46 ∷ 46 ∷ value) (omega arith)
      (IsOctets-cons 46 (46 ∷ value) (omega arith) (IsOctets-cons 46 value (omega arith) h))
  by_test false e = h

value-is : (value : List ℕ) → IsOctets value → IsValueText value (value_text value)
value-is value h = escaped-is (guarded value) (guarded_octets value h)

digits-is : (value : List ℕ) → IsOctets value → IsDigits value (digest_text value)
digits-is [] h = refl
digits-is (o ∷ value) h = (
  digit_glyph false (o / 16),
  digit_glyph false (o % 16),
  digest_text value,
  refl,
  pair_is false o (h 0),
  digits-is value (λ i. h (suc i)),
)

-- ---- numbers in their shortest width

pick : (m k : ℕ) (v : List ℕ) → length (number_field m) ≡ k → (k ≡ 1 → to_be_bytes w8 m ≡ v)
    → (k ≡ 2 → to_be_bytes w16 m ≡ v) → (k ≡ 4 → to_be_bytes w32 m ≡ v) → (k ≡ 8 → to_be_bytes w64 m ≡ v)
    → v ≡ number_field m
pick m k v size one two four eight =
    elim (cases_lt m (2 ^ 8)) [
      | inl a ↦
          let is : number_field m ≡ to_be_bytes w8 m = rw (lt-ltb m (2 ^ 8) a) refl in
          sym (is ∙ one (sym size ∙ ap length is))
      | inr a ↦
          elim (cases_lt m (2 ^ 16)) [
            | inl b ↦
                let is : number_field m ≡ to_be_bytes w16 m = rw (le-ltb m (2 ^ 8) a, lt-ltb m (2 ^ 16) b) refl in
                sym (is ∙ two (sym size ∙ ap length is))
            | inr b ↦
                elim (cases_lt m (2 ^ 32)) [
                  | inl d ↦
                      let is : number_field m ≡ to_be_bytes w32 m =
                      rw (le-ltb m (2 ^ 8) a, le-ltb m (2 ^ 16) b, lt-ltb m (2 ^ 32) d) refl in
                      sym (is ∙ four (sym size ∙ ap length is))
                  | inr d ↦
                      let is : number_field m ≡ to_be_bytes w64 m =
                      rw (le-ltb m (2 ^ 8) a, le-ltb m (2 ^ 16) b, le-ltb m (2 ^ 32) d) refl in
                      sym (is ∙ eight (sym size ∙ ap length is))
                ]
          ]
    ]

record IsShortest (v : List ℕ) (n : ℕ) : Type 0 where
  field_is : v ≡ number_field n
  fits : n < 2 ^ 64

abbrev some_number : ℕ → Option ℕ
some_number n = Some n

shortest_leaf : (v : List ℕ) (m n : ℕ) → in_shortest_width v (Some m) ≡ Some n
    → (length (number_field m) ≡ length v) × (m ≡ n)
shortest_leaf v m n e = by_test (eqb (length (number_field m)) (length v)) refl e where
  by_test : (b : Bool) → eqb (length (number_field m)) (length v) ≡ b → cond b (some_number m) None ≡ Some n
      → (length (number_field m) ≡ length v) × (m ≡ n)
  by_test true g h = (eqb-true (length (number_field m)) (length v) g, same_Some m n h)
  by_test false g h = absurd cc

choose : (v : List ℕ) (n : ℕ) (b : Bool) (x y : Option ℕ) → in_shortest_width v (cond b x y) ≡ Some n
    → ((b ≡ true) × (in_shortest_width v x ≡ Some n)) ⊎ ((b ≡ false) × (in_shortest_width v y ≡ Some n))
choose v n true x y e = inl (refl, e)
choose v n false x y e = inr (refl, e)

one_octet : (v : List ℕ) → length v ≡ 1 → IsOctets v
    → (to_be_bytes w8 (from_be_bytes w8 v) ≡ v) × (from_be_bytes w8 v < 2 ^ 8)
one_octet [] e h = absurd (omega arith)
one_octet (x ∷ []) e h =
    let small : x < 256 = h 0 in let same : x % 256 ≡ x = omega arith in (ap (λ (n : ℕ). n ∷ []) same, small)
one_octet (x ∷ y ∷ v) e h = absurd (omega arith)

shortest : (v : List ℕ) (n : ℕ) → IsOctets v → in_shortest_width v (number_of v) ≡ Some n → IsShortest v n
shortest v n h e =
    let from8 = from_be_bytes w8 v in
    let from16 = from_be_bytes w16 v in
    let from32 = from_be_bytes w32 v in
    let from64 = from_be_bytes w64 v in
    let P : ℕ → Type 0 = λ k. IsShortest v k in
    elim (choose v n (eqb (length v) 1) (Some from8)
    (cond (eqb (length v) 2) (Some from16)
    (cond (eqb (length v) 4) (Some from32) (cond (eqb (length v) 8) (Some from64) None))) e) [
      | inl a ↦
          let l = shortest_leaf v from8 n a.1 in
          let size = eqb-true (length v) 1 a.0 in
          let o = one_octet v size h in
          subst P l.1 (record {
            field_is =
                pick from8 1 v (l.0 ∙ size) (λ k. o.0) (λ k. absurd (omega arith)) (λ k. absurd (omega arith))
                (λ k. absurd (omega arith));
            fits = omega (arith, o.1);
          })
      | inr a ↦
          elim (choose v n (eqb (length v) 2) (Some from16)
          (cond (eqb (length v) 4) (Some from32) (cond (eqb (length v) 8) (Some from64) None)) a.1) [
            | inl b ↦
                let l = shortest_leaf v from16 n b.1 in
                let size = eqb-true (length v) 2 b.0 in
                subst P l.1 (record {
                  field_is =
                      pick from16 2 v (l.0 ∙ size) (λ k. absurd (omega arith)) (λ k. be_bytes_2 v from16 size h refl)
                      (λ k. absurd (omega arith)) (λ k. absurd (omega arith));
                  fits = omega (arith, wide16.below v h);
                })
            | inr b ↦
                elim (choose v n (eqb (length v) 4) (Some from32) (cond (eqb (length v) 8) (Some from64) None) b.1) [
                  | inl d ↦
                      let l = shortest_leaf v from32 n d.1 in
                      let size = eqb-true (length v) 4 d.0 in
                      subst P l.1 (record {
                        field_is =
                            pick from32 4 v (l.0 ∙ size) (λ k. absurd (omega arith)) (λ k. absurd (omega arith))
                            (λ k. be_bytes_4 v from32 size h refl) (λ k. absurd (omega arith));
                        fits = omega (arith, wide32.below v h);
                      })
                  | inr d ↦
                      elim (choose v n (eqb (length v) 8) (Some from64) None d.1) [
                        | inl f ↦
                            let l = shortest_leaf v from64 n f.1 in
                            let size = eqb-true (length v) 8 f.0 in
                            subst P l.1 (record {
                              field_is =
                                  pick from64 8 v (l.0 ∙ size) (λ k. absurd (omega arith)) (λ k. absurd (omega arith))
                                  (λ k. absurd (omega arith)) (λ k. be_bytes_8 v from64 size h refl);
                              fits = wide64.below v h;
                            })
                        | inr f ↦ absurd (let g = f.1 in cc)
                      ]
                ]
          ]
    ]

-- ---- components

plain-is : (c : Component) → IsComponent c → IsComponentText c (plain_text c)
plain-is c h = by_test (eqb c.0 8) refl where
  by_test : (b : Bool) → eqb c.0 8 ≡ b
      → IsComponentText c (cond b (value_text c.1) (decimal c.0 ++ 61 ∷ value_text c.1))
  by_test true e = generic (eqb-true c.0 8 e) (value-is c.1 h.octets)
  by_test false e = typed (value_text c.1) h.above h.below refl (value-is c.1 h.octets)

number-is : (c : Component) (word : List ℕ) → IsComponent c
    → ((n : ℕ) → IsShortest c.1 n → IsComponentText c (word ++ decimal n))
    → IsComponentText c (number_text word (in_shortest_width c.1 (number_of c.1)) c)
number-is c word h numbered = by_number (in_shortest_width c.1 (number_of c.1)) refl where
  by_number : (o : Option ℕ) → in_shortest_width c.1 (number_of c.1) ≡ o → IsComponentText c (number_text word o c)
  by_number None e = plain-is c h
  by_number (Some n) e = numbered n (shortest c.1 n h.octets e)

component-is : (c : Component) → IsComponent c → IsComponentText c (component_text c)
component-is c h = first (eqb c.0 1) refl where
  fifth : (b : Bool) → eqb c.0 58 ≡ b
      → IsComponentText c (cond b (number_text (codes "seq=") (in_shortest_width c.1 (number_of c.1)) c) (plain_text c))
  fifth true e =
      number-is c (codes "seq=") h
      (λ n s. sequence (decimal n) (eqb-true c.0 58 e) refl (n, s.field_is, (omega (arith, s.fits), refl)))
  fifth false e = plain-is c h

  fourth : (b : Bool) → eqb c.0 54 ≡ b
      → IsComponentText c
      (cond b (number_text (codes "v=") (in_shortest_width c.1 (number_of c.1)) c)
      (cond (eqb c.0 58) (number_text (codes "seq=") (in_shortest_width c.1 (number_of c.1)) c) (plain_text c)))
  fourth true e =
      number-is c (codes "v=") h
      (λ n s. version (decimal n) (eqb-true c.0 54 e) refl (n, s.field_is, (omega (arith, s.fits), refl)))
  fourth false e = fifth (eqb c.0 58) refl

  third : (b : Bool) → eqb c.0 50 ≡ b
      → IsComponentText c
      (cond b (number_text (codes "seg=") (in_shortest_width c.1 (number_of c.1)) c)
      (cond (eqb c.0 54) (number_text (codes "v=") (in_shortest_width c.1 (number_of c.1)) c)
      (cond (eqb c.0 58) (number_text (codes "seq=") (in_shortest_width c.1 (number_of c.1)) c) (plain_text c))))
  third true e =
      number-is c (codes "seg=") h
      (λ n s. segment (decimal n) (eqb-true c.0 50 e) refl (n, s.field_is, (omega (arith, s.fits), refl)))
  third false e = fourth (eqb c.0 54) refl

  second : (b : Bool) → eqb c.0 2 ≡ b
      → IsComponentText c
      (cond b (codes "params-sha256=" ++ digest_text c.1)
      (cond (eqb c.0 50) (number_text (codes "seg=") (in_shortest_width c.1 (number_of c.1)) c)
      (cond (eqb c.0 54) (number_text (codes "v=") (in_shortest_width c.1 (number_of c.1)) c)
      (cond (eqb c.0 58) (number_text (codes "seq=") (in_shortest_width c.1 (number_of c.1)) c) (plain_text c)))))
  second true e =
      let typ = eqb-true c.0 2 e in
      parameters_digest (digest_text c.1) typ refl (h.digest (omega (arith, typ)), digits-is c.1 h.octets)
  second false e = third (eqb c.0 50) refl

  first : (b : Bool) → eqb c.0 1 ≡ b
      → IsComponentText c
      (cond b (codes "sha256digest=" ++ digest_text c.1)
      (cond (eqb c.0 2) (codes "params-sha256=" ++ digest_text c.1)
      (cond (eqb c.0 50) (number_text (codes "seg=") (in_shortest_width c.1 (number_of c.1)) c)
      (cond (eqb c.0 54) (number_text (codes "v=") (in_shortest_width c.1 (number_of c.1)) c)
      (cond (eqb c.0 58) (number_text (codes "seq=") (in_shortest_width c.1 (number_of c.1)) c) (plain_text c))))))
  first true e =
      let typ = eqb-true c.0 1 e in
      implicit_digest (digest_text c.1) typ refl (h.digest (omega (arith, typ)), digits-is c.1 h.octets)
  first false e = second (eqb c.0 2) refl

-- ---- names

-- the parts of the text that is printed
abbrev pub parts_at : ℕ → List Component → List Part
parts_at at [] = []
parts_at at (c ∷ cs) = (at + 1, c) ∷ parts_at (at + 1 + length (component_text c)) cs

path-is : (at : ℕ) (name : List Component) → IsName name → IsPath at (parts_at at name) (path_text name)
path-is at [] h = refl
path-is at (c ∷ cs) h = (
  component_text c,
  path_text cs,
  refl,
  refl,
  component-is c h.0,
  path-is (at + 1 + length (component_text c)) cs h.1,
)

pub uri-is : (name : List Component) → IsName name → IsUri (parts_at 0 name) (uri name)
uri-is [] h = inl refl
uri-is (c ∷ cs) h = inl (path-is 0 (c ∷ cs) h)

pub parts-name : (at : ℕ) (name : List Component) → name ≡ name_of_parts (parts_at at name)
parts-name at [] = refl
parts-name at (c ∷ cs) = ap (λ (n : List Component). c ∷ n) (parts-name (at + 1 + length (component_text c)) cs)

good : (c : Component) → IsComponent c → is_bad_digest c ≡ false
good c h = by_test (leb c.0 2) refl where
  by_test : (b : Bool) → leb c.0 2 ≡ b → (b && not (eqb (length c.1) 32)) ≡ false
  by_test true e = let size : length c.1 ≡ 32 = h.digest (leb-true c.0 2 e) in rw size refl
  by_test false e = refl

pub parts-good : (at : ℕ) (name : List Component) → IsName name → first_bad_digest (parts_at at name) ≡ None
parts-good at [] h = refl
parts-good at (c ∷ cs) h = rw (good c h.0) (parts-good (at + 1 + length (component_text c)) cs h.1)
