-- How many octets the name has that a text stands for.
use Rattle.std.proofs.Common.{◌≡◌, ℕ, zero, suc, ◌+◌, ◌*◌, ◌-◌, ◌/◌, ◌%◌, ◌<◌, ◌≤◌, ◌^◌, Bool, true, false, cond, ◌&&◌}
use Rattle.std.proofs.Common.{eqb, List, [], ◌∷◌, ◌++◌, length, length-append, take, Option, Some, None, Result, Ok}
use Rattle.std.proofs.Common.{Err, refl, sym, ap, subst, ◌∙◌, append_assoc, arith, inl, inr, Bor}
use Rattle.std.specs.Prelude.{codes, unwrap_or, MatchResult}
use Rattle.std.specs.Fmt.{decimal}
use Rattle.std.specs.List.{slice_split, list_any}
use Rattle.std.specs.Option.{SomeIff, option_map, option_and_then, option_map_or}
use Rattle.std.specs.Result.{result_unwrap_or}
use Rattle.std.proofs.lemmas.Bool.{cases_lt, ne_eqb, eq-eqb, lt-ltb, le-ltb}
use Rattle.std.proofs.lemmas.Fmt.{decimal_nonempty, decimal_step}
use Rattle.std.proofs.lemmas.List.{append-nil}
use Rattle.std.proofs.lemmas.List.Folds.{list_all-append}
use Rattle.std.proofs.lemmas.Option.{none-some, same_Some}
use Rattle.std.proofs.Math.Bool.{and-true}
use Rattle.ndn_tlv.specs.Spelling.{number, head, element}
use Rattle.ndn_tlv.specs.NumberField.{number_field}
use Rattle.ndn_name.specs.declared.name_fault.NameFault.{NameFault}
use Rattle.ndn_name.specs.declared.name_fault.NameFault.TheVariants.{Tlv, BadComponent, BadDigestLength, NameTooLong}
use Rattle.ndn_name.specs.declared.name_fault.NameFault.TheVariants.{BadUri, NoMemory}
use Rattle.ndn_name.specs.declared.uri_form.Form.{Form}
use Rattle.ndn_name.specs.declared.uri_form.Form.TheVariants.{Digest, Number, Escaped}
use Rattle.ndn_name.specs.Names.{Component, encoding}
use Rattle.ndn_name.specs.Uri.{are_periods, IsDecimal, IsDigestText}
use Rattle.ndn_name.specs.UriReading.{BeginsWithAnother, BreaksOff, FailsIn, IsHead, Splits, octet_at, shape}
use Rattle.ndn_name.specs.UriText.{onto, digest_of_text, unescaped, after_three, value_of_text, decimal_of_text}
use Rattle.ndn_name.specs.UriText.{number_of_text, typed, component_of_text, component_before, components_of_texts}
use Rattle.ndn_name.specs.UriText.{name_of_path, after_word, without_scheme, name_of_text, is_digest, plain_component}
use Rattle.ndn_name.specs.UriText.{plain_name}
use Rattle.ndn_name.proofs.Digests.{length-digits}
use Rattle.ndn_name.proofs.Escapes.{octet-takes, octet-leaves}
use Rattle.ndn_name.proofs.ComputedValues.{none_from, unescaped-octet, is_unescaped, digest_is, is_digest_text}
use Rattle.ndn_name.proofs.ComputedValues.{decimal_is, is_decimal_text}
use Rattle.ndn_name.proofs.ComputedNames.{rest-append, is_slash, rooted_name, split-lacks, split-slash}

-- ---- values

abbrev with_prefix : List ℕ → Option (List ℕ) → Option (List ℕ)
with_prefix prefix octets = option_map (λ others. prefix ++ others) octets

-- what is read of a value so far
pub record IsSoFar (text rest : List ℕ) (len : ℕ) (periods : Bool) : Type 0 where
  pub prefix : List ℕ
  pub count : len ≡ length prefix
  pub all_periods : periods ≡ are_periods prefix
  pub read : unescaped text ≡ with_prefix prefix (unescaped rest)
  pub short : len + length rest ≤ length text

pub so_far-start : (text : List ℕ) → IsSoFar text text 0 true
so_far-start text = record {
  prefix = [];
  count = refl;
  all_periods = refl;
  read = same (unescaped text);
  short = omega arith;
} where
  same : (o : Option (List ℕ)) → o ≡ with_prefix [] o
  same None = refl
  same (Some octets) = refl

onto_prefix : (prefix : List ℕ) (octet : ℕ) (o : Option (List ℕ))
    → with_prefix prefix (onto octet o) ≡ with_prefix (prefix ++ octet ∷ []) o
onto_prefix prefix octet None = refl
onto_prefix prefix octet (Some others) = ap some_octets (sym (append_assoc prefix (octet ∷ []) others)) where
  some_octets : List ℕ → Option (List ℕ)
  some_octets octets = Some octets

pub so_far-step : (text rest following : List ℕ) (len octet : ℕ) (periods : Bool) → IsSoFar text rest len periods
    → octet_at 0 rest ≡ Ok (octet, following) → IsSoFar text following (len + 1) (periods && eqb octet 46)
so_far-step text rest after len octet periods s e =
    let t = octet-takes 0 rest (octet, after) e in
    let step : unescaped rest ≡ onto octet (unescaped after) =
    ap unescaped t.split ∙ unescaped-octet octet t.first after t.is in
    record {
      prefix = s.prefix ++ octet ∷ [];
      count = omega (arith, s.count, length-append s.prefix (octet ∷ []));
      all_periods = last s.all_periods;
      read = s.read ∙ ap (with_prefix s.prefix) step ∙ onto_prefix s.prefix octet (unescaped after);
      short = omega (arith, s.short, t.some, ap length t.split, length-append t.first after);
    } where
      last : periods ≡ are_periods s.prefix → (periods && eqb octet 46) ≡ are_periods (s.prefix ++ octet ∷ [])
      last h =
          ap (λ (b : Bool). b && eqb octet 46) h
          ∙ ap (λ (b : Bool). are_periods s.prefix && b) (sym (and-true (eqb octet 46)))
          ∙ sym (list_all-append (λ (o : ℕ). eqb o 46) s.prefix (octet ∷ []))

pub so_far-shrinks : (rest after : List ℕ) (octet : ℕ) → octet_at 0 rest ≡ Ok (octet, after)
    → length after < length rest
so_far-shrinks rest after octet e =
    let t = octet-takes 0 rest (octet, after) e in
    omega (arith, t.some, ap length t.split, length-append t.first after)

no_octet : (rest : List ℕ) (f : NameFault) → 0 < length rest → octet_at 0 rest ≡ Err f → unescaped rest ≡ None
no_octet [] f some e = absurd (omega arith)
no_octet (c ∷ rest) f some e =
    let leaves = (octet-leaves 0 c rest f e).leaves in
    none_from (unescaped (c ∷ rest)) (λ octets h. leaves.ends (octets, is_unescaped (c ∷ rest) octets h))

pub so_far-none : (text rest : List ℕ) (len : ℕ) (periods : Bool) (f : NameFault) → IsSoFar text rest len periods
    → 0 < length rest → octet_at 0 rest ≡ Err f → value_of_text text ≡ None
so_far-none text rest len periods f s some e = rw (s.read, no_octet rest f some e) refl

abbrev some_size : ℕ → Option ℕ
some_size n = Some n

size_after_three : (octets : List ℕ) (size : Option ℕ) → SomeIff size (3 ≤ length octets) (length octets - 3)
    → size ≡ option_map length (after_three octets)
size_after_three [] None h = refl
size_after_three [] (Some n) h = absurd (omega (arith, h.0))
size_after_three (a ∷ []) None h = refl
size_after_three (a ∷ []) (Some n) h = absurd (omega (arith, h.0))
size_after_three (a ∷ b ∷ []) None h = refl
size_after_three (a ∷ b ∷ []) (Some n) h = absurd (omega (arith, h.0))
size_after_three (a ∷ b ∷ c ∷ octets) None h = absurd (h (omega arith))
size_after_three (a ∷ b ∷ c ∷ octets) (Some n) h =
    let same : n ≡ length octets = omega (arith, h.1) in
    ap (λ (k : ℕ). some_size k) same

nothing_left : (text rest : List ℕ) (len : ℕ) (periods : Bool) (s : IsSoFar text rest len periods) → length rest ≡ 0
    → unescaped text ≡ Some s.prefix
unfolding unescaped
nothing_left text [] len periods s e = s.read ∙ ap some_prefix (append-nil s.prefix) where
  some_prefix : List ℕ → Option (List ℕ)
  some_prefix octets = Some octets
nothing_left text (c ∷ rest) len periods s e = absurd (omega arith)

-- at the end, where there are periods alone
pub so_far-periods : (text rest : List ℕ) (len : ℕ) (periods : Bool) (size : Option ℕ) → IsSoFar text rest len periods
    → length rest ≡ 0 → periods ≡ true → SomeIff size (3 ≤ len) (len - 3)
    → size ≡ option_map length (value_of_text text)
so_far-periods text rest len periods size s e all h =
    let P : ℕ → Type 0 = λ n. SomeIff size (3 ≤ n) (n - 3) in
    size_after_three s.prefix size (subst P s.count h)
    ∙ sym (rw (nothing_left text rest len periods s e, sym s.all_periods ∙ all) refl)

-- and where there are others
pub so_far-other : (text rest : List ℕ) (len : ℕ) (periods : Bool) → IsSoFar text rest len periods
    → length rest ≡ 0 → periods ≡ false → Some len ≡ option_map length (value_of_text text)
so_far-other text rest len periods s e other =
    ap some_size s.count ∙ sym (rw (nothing_left text rest len periods s e, sym s.all_periods ∙ other) refl)

-- ---- numbers

abbrev pub most_number : ℕ
most_number = 18446744073709551615

pub number-size : (n : ℕ) (text : List ℕ) → IsDecimal most_number n text
    → option_map length (number_of_text text) ≡ Some (length (number_field n))
number-size n text h = rw (decimal_is most_number n text (omega arith) h) refl

-- a text that is no number
abbrev failed : {A : Type 0} → NameFault → Result A NameFault
failed f = Err f

pub number-fails : (text : List ℕ) (f : NameFault) → (failed {A = ℕ} f ≡ failed NoMemory → ⊥)
    → FailsIn (IsDecimal most_number) 0 text f → option_map length (number_of_text text) ≡ None
number-fails text (BadUri place) not_memory h =
    rw (none_from (decimal_of_text most_number text)
    (λ n e. h.2.ends (n, is_decimal_text most_number n text (omega arith) e)))
    refl
number-fails text NoMemory not_memory h = absurd (not_memory refl)
number-fails text NameTooLong not_memory h = absurd h
number-fails text (Tlv fault) not_memory h = absurd h
number-fails text (BadComponent at) not_memory h = absurd h
number-fails text (BadDigestLength at) not_memory h = absurd h

pub width : (n : ℕ) → length (number_field n) ≤ 8
width n =
    elim (cases_lt n (2 ^ 8)) [
      | inl a ↦ rw (lt-ltb n (2 ^ 8) a) (omega arith)
      | inr a ↦
          elim (cases_lt n (2 ^ 16)) [
            | inl b ↦ rw (le-ltb n (2 ^ 8) a, lt-ltb n (2 ^ 16) b) (omega arith)
            | inr b ↦
                elim (cases_lt n (2 ^ 32)) [
                  | inl d ↦ rw (le-ltb n (2 ^ 8) a, le-ltb n (2 ^ 16) b, lt-ltb n (2 ^ 32) d) (omega arith)
                  | inr d ↦ rw (le-ltb n (2 ^ 8) a, le-ltb n (2 ^ 16) b, le-ltb n (2 ^ 32) d) (omega arith)
                ]
          ]
    ]

-- one digit fewer
shorter : (n : ℕ) → 10 ≤ n → n < 2 ^ 64 → length (decimal n) ≡ length (decimal (n / 10)) + 1
shorter n some low =
    ap length (decimal_step n some low) ∙ length-append (decimal (n / 10)) ((48 + n % 10) ∷ [])

narrow : (n : ℕ) → n < 100 → length (number_field n) ≡ 1
narrow n h = rw (lt-ltb n (2 ^ 8) (omega arith)) refl

-- a number takes little more than its text
pub number-short : (n : ℕ) (text : List ℕ) → IsDecimal most_number n text
    → length (number_field n) ≤ 2 * length text + 2
number-short n text h =
    let low : n < 2 ^ 64 = omega (arith, h.0) in
    elim (cases_lt n 100) [
      | inl a ↦ omega (arith, narrow n a)
      | inr a ↦
          let two = shorter n (omega (arith, a)) low in
          let three = shorter (n / 10) (omega (arith, a)) (omega (arith, low)) in
          let some = decimal_nonempty (n / 10 / 10) (omega (arith, low)) in
          omega (arith, two, three, some, width n, ap length h.1)
    ]

-- ---- digests

pub digest-size : (digest text : List ℕ) → IsDigestText digest text
    → option_map length (digest_of_text text) ≡ Some 32
digest-size digest text h = rw (digest_is digest text h, h.0) refl

pub digest-short : (digest text : List ℕ) → IsDigestText digest text → 32 ≤ length text
digest-short digest text h = omega (arith, h.0, length-digits digest text h.1)

pub digest-fails : (text : List ℕ) (f : NameFault) → (failed {A = List ℕ} f ≡ failed NoMemory → ⊥)
    → FailsIn IsDigestText 0 text f
    → option_map length (digest_of_text text) ≡ None
digest-fails text (BadUri place) not_memory h =
    rw (none_from (digest_of_text text) (λ v e. h.2.ends (v, is_digest_text text v e))) refl
digest-fails text NoMemory not_memory h = absurd (not_memory refl)
digest-fails text NameTooLong not_memory h = absurd h
digest-fails text (Tlv fault) not_memory h = absurd h
digest-fails text (BadComponent at) not_memory h = absurd h
digest-fails text (BadDigestLength at) not_memory h = absurd h

-- ---- components

length-number : (n : ℕ) → length (number n) ≤ n + 1
unfolding number
length-number n =
    elim (cases_lt n 253) [
      | inl a ↦ rw (lt-ltb n 253 a) (omega arith)
      | inr a ↦
          elim (cases_lt n (2 ^ 16)) [
            | inl b ↦ rw (le-ltb n 253 a, lt-ltb n (2 ^ 16) b) (omega arith)
            | inr b ↦
                elim (cases_lt n (2 ^ 32)) [
                  | inl d ↦ rw (le-ltb n 253 a, le-ltb n (2 ^ 16) b, lt-ltb n (2 ^ 32) d) (omega arith)
                  | inr d ↦ rw (le-ltb n 253 a, le-ltb n (2 ^ 16) b, le-ltb n (2 ^ 32) d) (omega arith)
                ]
          ]
    ]

pub length-type : (typ : ℕ) → typ < 2 ^ 16 → length (number typ) ≤ 3
unfolding number
length-type typ h =
    elim (cases_lt typ 253) [
      | inl a ↦ rw (lt-ltb typ 253 a) (omega arith)
      | inr a ↦ rw (le-ltb typ 253 a, lt-ltb typ (2 ^ 16) h) (omega arith)
    ]

pub length-narrow : (n : ℕ) → n < 253 → length (number n) ≡ 1
unfolding number
length-narrow n h = rw (lt-ltb n 253 h) refl

pub head-short : (typ len : ℕ) → typ < 2 ^ 16 → length (head typ len) ≤ len + 4
head-short typ len h = omega (arith, length-append (number typ) (number len), length-type typ h, length-number len)

pub small_head-short : (typ len : ℕ) → typ < 253 → length (head typ len) ≤ len + 2
small_head-short typ len h =
    omega (arith, length-append (number typ) (number len), length-narrow typ h, length-number len)

pub head-narrow : (typ len : ℕ) → typ < 2 ^ 16 → len < 253 → length (head typ len) ≤ 4
head-narrow typ len h k =
    omega (arith, length-append (number typ) (number len), length-type typ h, length-narrow len k)

pub head-some : (form : Form) (word : List ℕ) → IsHead form word → 0 < length word
head-some (Digest typ) word h = elim h [ inl a ↦ omega (arith, ap length a.1) | inr a ↦ omega (arith, ap length a.1) ]
head-some (Number typ) word h =
    elim h [
      | inl a ↦ omega (arith, ap length a.1)
      | inr b ↦ elim b [ inl a ↦ omega (arith, ap length a.1) | inr a ↦ omega (arith, ap length a.1) ]
    ]
head-some (Escaped typ) word h = omega (arith, ap length h.1.1, decimal_nonempty typ (omega (arith, h.1.0)))

-- the shape of a value
pub shape-value : (typ : ℕ) (value : Option (List ℕ))
    → option_map shape (typed typ value) ≡ option_map (λ len. (typ, len)) (option_map length value)
shape-value typ None = refl
shape-value typ (Some octets) = refl

-- ---- paths

abbrev pub component_size : List ℕ → Option ℕ
component_size text =
    option_map (λ (c : Component). length (element c.0 c.1)) (option_and_then plain_component (component_of_text text))

abbrev pub size_of_texts : List (List ℕ) → Option ℕ
size_of_texts texts =
    option_map (λ (name : List Component). length (encoding name))
    (option_and_then plain_name (components_of_texts texts))

abbrev pub plus : ℕ → Option ℕ → Option ℕ
plus n size = option_map (λ m. n + m) size

size-no_texts : size_of_texts [] ≡ Some 0
unfolding components_of_texts encoding
size-no_texts = refl

-- a component that is none, or a digest
pub size-none : (text : List ℕ) (texts : List (List ℕ)) → component_size text ≡ None
    → size_of_texts (text ∷ texts) ≡ None
unfolding components_of_texts
size-none text texts h = by_component (component_of_text text) refl where
  by_component : (c : Option Component) → component_of_text text ≡ c → size_of_texts (text ∷ texts) ≡ None
  by_component None e = rw e refl
  by_component (Some c) e = by_test (is_digest c) refl where
    by_test : (b : Bool) → is_digest c ≡ b → size_of_texts (text ∷ texts) ≡ None
    by_test true g = rw e (others (components_of_texts texts)) where
      others : (o : Option (List Component))
          → option_map (λ (name : List Component). length (encoding name))
          (option_and_then plain_name (component_before c o))
          ≡ None
      others None = refl
      others (Some name) = rw g refl
    by_test false g = let k = rw (e, g) at h in absurd cc

pub size-some : (text : List ℕ) (texts : List (List ℕ)) (n : ℕ) → component_size text ≡ Some n
    → size_of_texts (text ∷ texts) ≡ plus n (size_of_texts texts)
unfolding components_of_texts encoding
size-some text texts n h = by_component (component_of_text text) refl where
  by_component : (c : Option Component) → component_of_text text ≡ c
      → size_of_texts (text ∷ texts) ≡ plus n (size_of_texts texts)
  by_component None e = absurd (none-some n (rw e at h))
  by_component (Some c) e = by_test (is_digest c) refl where
    by_test : (b : Bool) → is_digest c ≡ b → size_of_texts (text ∷ texts) ≡ plus n (size_of_texts texts)
    by_test true g = absurd (none-some n (rw (e, g) at h))
    by_test false g = rw e (others (components_of_texts texts)) where
      size : length (element c.0 c.1) ≡ n
      size = same_Some (length (element c.0 c.1)) n (rw (e, g) at h)

      others : (o : Option (List Component))
          → option_map (λ (name : List Component). length (encoding name))
          (option_and_then plain_name (component_before c o))
          ≡ plus n (option_map (λ (name : List Component). length (encoding name)) (option_and_then plain_name o))
      others None = refl
      others (Some name) = rw g (tested (list_any is_digest name)) where
        tested : (b : Bool)
            → option_map (λ (m : List Component). length (encoding m)) (cond b None (Some (c ∷ name)))
            ≡ plus n (option_map (λ (m : List Component). length (encoding m)) (cond b None (Some name)))
        tested true = refl
        tested false =
            ap (λ (k : ℕ). some_size k) (length-append (element c.0 c.1) (encoding name))
            ∙ ap (λ (k : ℕ). some_size (k + length (encoding name))) size

-- what is left of a path
abbrev pub size_left : Option (List ℕ) → Option ℕ
size_left None = Some 0
size_left (Some text) = size_of_texts (slice_split is_slash text)

abbrev pub room_left : Option (List ℕ) → ℕ
room_left left = option_map_or (λ t. length t + 1) left 0

pub size-split : (text first : List ℕ) (following : Option (List ℕ)) (n : ℕ) → Splits 47 text first following
    → component_size first ≡ Some n → size_left (Some text) ≡ plus n (size_left following)
size-split text first None n s h =
    ap (λ (t : List ℕ). size_of_texts (slice_split is_slash t)) s.0 ∙ ap size_of_texts (split-lacks first s.1)
    ∙ size-some first [] n h ∙ ap (plus n) size-no_texts
size-split text first (Some rest) n s h =
    ap (λ (t : List ℕ). size_of_texts (slice_split is_slash t)) s.0 ∙ ap size_of_texts (split-slash first rest s.1)
    ∙ size-some first (slice_split is_slash rest) n h

pub size-stuck : (text first : List ℕ) (following : Option (List ℕ)) → Splits 47 text first following
    → component_size first ≡ None → size_left (Some text) ≡ None
size-stuck text first None s h =
    ap (λ (t : List ℕ). size_of_texts (slice_split is_slash t)) s.0 ∙ ap size_of_texts (split-lacks first s.1)
    ∙ size-none first [] h
size-stuck text first (Some rest) s h =
    ap (λ (t : List ℕ). size_of_texts (slice_split is_slash t)) s.0 ∙ ap size_of_texts (split-slash first rest s.1)
    ∙ size-none first (slice_split is_slash rest) h

pub room-split : (text first : List ℕ) (following : Option (List ℕ)) → Splits 47 text first following
    → room_left following + (length first + 1) ≡ length text + 1
room-split text first None s = omega (arith, ap length s.0)
room-split text first (Some rest) s = omega (arith, ap length s.0, length-append first (47 ∷ rest))

pub plus-plus : (a b : ℕ) (size : Option ℕ) → plus a (plus b size) ≡ plus (a + b) size
plus-plus a b None = refl
plus-plus a b (Some n) = ap (λ (k : ℕ). some_size k) (omega arith)

-- ---- the front of a text

pub broken_off : (word text : List ℕ) (place : ℕ) → BreaksOff word text place → after_word word text ≡ None
unfolding after_word
broken_off [] text place h = absurd (omega (arith, h.2))
broken_off (c ∷ word) text zero h = rw h.1 (begins h.0 h.3) where
  begins : (rest : List ℕ) → BeginsWithAnother c rest → after_word (c ∷ word) rest ≡ None
  begins [] k = refl
  begins (d ∷ rest) k = rw (ne_eqb c d (λ e. k (sym e))) refl
broken_off (c ∷ word) text (suc place) h =
    rw (h.1, eq-eqb c c refl) (broken_off word (take place word ++ h.0) place (h.0, refl, omega (arith, h.2), h.3))

pub scheme-is : (r : Result (Bor (List ℕ)) ℕ) (text : Bor (List ℕ))
    → MatchResult r (λ path. text.now ≡ codes "ndn:" ++ path.now) (BreaksOff (codes "ndn:") text.now)
    → (result_unwrap_or r text).now ≡ without_scheme text.now
scheme-is (Ok path) text h =
    sym (ap without_scheme h
    ∙ ap (λ (o : Option (List ℕ)). unwrap_or o (codes "ndn:" ++ path.now)) (rest-append (codes "ndn:") path.now))
scheme-is (Err place) text h =
    sym (ap (λ (o : Option (List ℕ)). unwrap_or o text.now) (broken_off (codes "ndn:") text.now place h))

abbrev pub size_of_name : Option (List Component) → Option ℕ
size_of_name name = option_map (λ (n : List Component). length (encoding n)) (option_and_then plain_name name)

abbrev pub text_size : List ℕ → Option ℕ
text_size text = size_of_name (name_of_text text)

rooted-is : (text rooted : List ℕ) → rooted ≡ without_scheme text → name_of_text text ≡ rooted_name rooted
unfolding name_of_text
rooted-is text rooted e = ap rooted_name (sym e)

unrooted : (rooted : List ℕ) → BeginsWithAnother 47 rooted → rooted_name rooted ≡ None
unfolding after_word
unrooted [] h = refl
unrooted (c ∷ rooted) h = rw (ne_eqb 47 c (λ e. h (sym e))) refl

after_slash : (path : List ℕ) → rooted_name (47 ∷ path) ≡ name_of_path path
unfolding after_word
after_slash path = refl

pub text_size-none : (text rooted : List ℕ) → rooted ≡ without_scheme text → BeginsWithAnother 47 rooted
    → text_size text ≡ None
text_size-none text rooted e h = ap size_of_name (rooted-is text rooted e ∙ unrooted rooted h)

at_root : (text rooted path : List ℕ) → rooted ≡ without_scheme text → rooted ≡ 47 ∷ path
    → text_size text ≡ size_of_name (name_of_path path)
at_root text rooted path e h = ap size_of_name (rooted-is text rooted e ∙ ap rooted_name h ∙ after_slash path)

pub text_size-root : (text rooted path : List ℕ) → rooted ≡ without_scheme text → rooted ≡ 47 ∷ path
    → length path ≡ 0 → text_size text ≡ Some 0
unfolding encoding
text_size-root text rooted [] e h none = at_root text rooted [] e h
text_size-root text rooted (c ∷ path) e h none = absurd (omega arith)

pub text_size-path : (text rooted path : List ℕ) → rooted ≡ without_scheme text → rooted ≡ 47 ∷ path
    → 0 < length path → text_size text ≡ size_left (Some path)
text_size-path text rooted [] e h some = absurd (omega arith)
text_size-path text rooted (c ∷ path) e h some = at_root text rooted (c ∷ path) e h
