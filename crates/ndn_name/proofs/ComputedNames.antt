-- The name that is computed of a text is the one that the grammar of URIs gives it.
use Rattle.std.proofs.Common.{◌≡◌, ℕ, ◌+◌, Bool, true, false, cond, eqb, ltb, List, [], ◌∷◌, ◌++◌, length, Option, Some}
use Rattle.std.proofs.Common.{None, refl, sym, ap, subst, ◌∙◌, arith, ◌↔◌, inl, inr}
use Rattle.std.specs.Prelude.{codes, bytes_eq, unwrap_or}
use Rattle.std.specs.List.{slice_split, onto_first}
use Rattle.std.specs.Option.{option_and_then}
use Rattle.std.proofs.lemmas.Bool.{lt-ltb, ltb-true, eq-eqb, eqb-true, eqb-false, ne_eqb, cases_Bool}
use Rattle.std.proofs.lemmas.Bool.{false_from_ne_true}
use Rattle.std.proofs.lemmas.List.{append-nil}
use Rattle.std.proofs.lemmas.Option.{option_and_then_some, none-some, same_Some, some_pair_parts}
use Rattle.ndn_name.specs.declared.uri_form.Form.{Form}
use Rattle.ndn_name.specs.declared.uri_form.Form.TheVariants.{Digest, Number, Escaped}
use Rattle.ndn_name.specs.Names.{Component}
use Rattle.ndn_name.specs.Uri.{IsComponentText, headed, IsValueText, generic, Part, IsPath, IsRooted, IsUri}
use Rattle.ndn_name.specs.Uri.{name_of_parts}
use Rattle.ndn_name.specs.UriVerdict.{HasUri}
use Rattle.ndn_name.specs.UriReading.{HasNoHead, IsHead, IsTail, LacksOctet, tail_of_text}
use Rattle.ndn_name.specs.UriText.{unescaped, value_of_text, digest_of_text, decimal_of_text, number_of_text, typed}
use Rattle.ndn_name.specs.UriText.{typed_by, component_of_parts, cut_at, component_by, component_of_text}
use Rattle.ndn_name.specs.UriText.{component_before, components_of_texts, name_of_path, after_word, without_scheme}
use Rattle.ndn_name.specs.UriText.{name_of_text}
use Rattle.ndn_name.proofs.Heads.{is_word, head-lacks, head-same}
use Rattle.ndn_name.proofs.ComponentTexts.{component-cases, component-headed, component-lacks, no_equals}
use Rattle.ndn_name.proofs.PathTexts.{rooted_begins, rooted-path}
use Rattle.ndn_name.proofs.ComputedValues.{option_map_some, none_from, either, value_is, is_value, digest_is}
use Rattle.ndn_name.proofs.ComputedValues.{is_digest_text, decimal_is, is_decimal_text, number_is, is_number}

-- ---- what stands before an equals sign

-- the first separator of a text
pub cut_at-splits : (s : ℕ) (prefix text : List ℕ) → LacksOctet s prefix
    → cut_at s (prefix ++ s ∷ text) ≡ Some (prefix, text)
unfolding cut_at
cut_at-splits s [] text h = rw (eq-eqb s s refl) refl
cut_at-splits s (c ∷ prefix) text h = rw (ne_eqb c s h.0, cut_at-splits s prefix text h.1) refl

-- what is cut
pub record IsCut (s : ℕ) (text prefix rest : List ℕ) : Type 0 where
  pub split : text ≡ prefix ++ s ∷ rest
  pub lacks : LacksOctet s prefix

cut_step : (s c : ℕ) (text prefix rest : List ℕ)
    → ((f r : List ℕ) → cut_at s text ≡ Some (f, r) → IsCut s text f r)
    → cut_at s (c ∷ text) ≡ Some (prefix, rest) → IsCut s (c ∷ text) prefix rest
unfolding cut_at
cut_step s c text prefix rest after_it h = by_test (eqb c s) refl where
  by_test : (b : Bool) → eqb c s ≡ b → IsCut s (c ∷ text) prefix rest
  by_test true e =
      let same = some_pair_parts [] prefix text rest (rw e at h) in
      record {
        split = ap (λ (n : ℕ). n ∷ text) (eqb-true c s e) ∙ ap (λ (t : List ℕ). s ∷ t) same.1
            ∙ ap (λ (f : List ℕ). f ++ s ∷ rest) same.0;
        lacks = subst (λ (f : List ℕ). LacksOctet s f) same.0 tt;
      }
  by_test false e =
      let m = option_map_some (λ (p : List ℕ × List ℕ). (c ∷ p.0, p.1)) (cut_at s text) (prefix, rest) (rw e at h) in
      let inner = after_it m.0.0 m.0.1 m.1 in
      let prefix_is : c ∷ m.0.0 ≡ prefix = ap (λ (p : List ℕ × List ℕ). p.0) m.2 in
      let rest_is : m.0.1 ≡ rest = ap (λ (p : List ℕ × List ℕ). p.1) m.2 in
      record {
        split = ap (λ (t : List ℕ). c ∷ t) inner.split ∙ ap (λ (f : List ℕ). f ++ s ∷ m.0.1) prefix_is
            ∙ ap (λ (r : List ℕ). prefix ++ s ∷ r) rest_is;
        lacks = subst (λ (f : List ℕ). LacksOctet s f) prefix_is (eqb-false c s e, inner.lacks);
      }

pub is_cut : (s : ℕ) (text prefix rest : List ℕ) → cut_at s text ≡ Some (prefix, rest) → IsCut s text prefix rest
unfolding cut_at
is_cut s [] prefix rest h = absurd (none-some (prefix, rest) h)
is_cut s (c ∷ text) prefix rest h = cut_step s c text prefix rest (λ f r k. is_cut s text f r k) h

-- ---- components

typed_is : (c : Component) (typ : ℕ) (value : Option (List ℕ)) → c.0 ≡ typ → value ≡ Some c.1
    → typed typ value ≡ Some c
typed_is c typ value e h = rw (h, ← e) refl

pub tail_is : (form : Form) (c : Component) (tail : List ℕ) → IsTail form c tail → tail_of_text form tail ≡ Some c
tail_is (Digest typ) c tail h = typed_is c typ (digest_of_text tail) h.0 (digest_is c.1 tail h.1)
tail_is (Number typ) c tail h = typed_is c typ (number_of_text tail) h.0 (number_is c.1 tail h.1)
tail_is (Escaped typ) c tail h = typed_is c typ (value_of_text tail) h.0 (value_is c.1 tail h.1)

abbrev of_type : ℕ → List ℕ → Component
of_type typ octets = (typ, octets)

pub is_tail : (form : Form) (c : Component) (tail : List ℕ) → tail_of_text form tail ≡ Some c → IsTail form c tail
is_tail (Digest typ) c tail h =
    let m = option_map_some (of_type typ) (digest_of_text tail) c h in
    subst (λ (d : Component). IsTail (Digest typ) d tail) m.2 (refl, is_digest_text tail m.0 m.1)
is_tail (Number typ) c tail h =
    let m = option_map_some (of_type typ) (number_of_text tail) c h in
    subst (λ (d : Component). IsTail (Number typ) d tail) m.2 (refl, is_number tail m.0 m.1)
is_tail (Escaped typ) c tail h =
    let m = option_map_some (of_type typ) (value_of_text tail) c h in
    subst (λ (d : Component). IsTail (Escaped typ) d tail) m.2 (refl, is_value tail m.0 m.1)

-- a decimal type is no keyword
other_word : (typ : ℕ) (head word : List ℕ) (form : Form) → IsHead (Escaped typ) head
    → (head ≡ word → IsHead form head) → (form ≡ Escaped typ → ⊥) → bytes_eq head word ≡ false
other_word typ head word form h f other =
    false_from_ne_true (bytes_eq head word)
    (λ e. other (head-same form (Escaped typ) head (f (is_word head word e)) h))

pub parts-head : (form : Form) (head tail : List ℕ) → IsHead form head
    → component_of_parts head tail ≡ tail_of_text form tail
parts-head (Digest typ) head tail h = elim h [ inl a ↦ rw (a.1, a.0) refl | inr a ↦ rw (a.1, a.0) refl ]
parts-head (Number typ) head tail h =
    elim h [
      | inl a ↦ rw (a.1, a.0) refl
      | inr b ↦ elim b [ inl a ↦ rw (a.1, a.0) refl | inr a ↦ rw (a.1, a.0) refl ]
    ]
parts-head (Escaped typ) head tail h =
    let implicit = other_word typ head (codes "sha256digest") (Digest 1) h (λ e. inl (refl, e)) (λ e. cc) in
    let parameters = other_word typ head (codes "params-sha256") (Digest 2) h (λ e. inr (refl, e)) (λ e. cc) in
    let segment = other_word typ head (codes "seg") (Number 50) h (λ e. inl (refl, e)) (λ e. cc) in
    let version = other_word typ head (codes "v") (Number 54) h (λ e. inr (inl (refl, e))) (λ e. cc) in
    let sequence = other_word typ head (codes "seq") (Number 58) h (λ e. inr (inr (refl, e))) (λ e. cc) in
    let number = decimal_is 65535 typ head (omega arith) h.1 in
    rw (implicit, parameters, segment, version, sequence, number, lt-ltb 0 typ h.0) refl

-- a head and a tail with which a component is computed
pub record IsRead (head tail : List ℕ) (c : Component) : Type 0 where
  pub form : Form
  pub is_head : IsHead form head
  pub is_tail : IsTail form c tail

read_with : (form : Form) (head tail : List ℕ) (c : Component) → IsHead form head → tail_of_text form tail ≡ Some c
    → IsRead head tail c
read_with form head tail c h k = record { form = form; is_head = h; is_tail = is_tail form c tail k }

read_typed : (typ : Option ℕ) (head tail : List ℕ) (c : Component) → decimal_of_text 65535 head ≡ typ
    → typed_by typ tail ≡ Some c → IsRead head tail c
read_typed None head tail c e h = absurd (none-some c h)
read_typed (Some typ) head tail c e h =
    either (ltb 0 typ) (typed typ (value_of_text tail)) None c h
    (λ some k.
    read_with (Escaped typ) head tail c (ltb-true 0 typ some, is_decimal_text 65535 typ head (omega arith) e) k)
    (λ k. absurd (none-some c k))

-- the tests in turn
abbrev other : List ℕ → List ℕ → Option Component
other head tail = typed_by (decimal_of_text 65535 head) tail

abbrev sequence : List ℕ → List ℕ → Option Component
sequence head tail = cond (bytes_eq head (codes "seq")) (typed 58 (number_of_text tail)) (other head tail)

abbrev version : List ℕ → List ℕ → Option Component
version head tail = cond (bytes_eq head (codes "v")) (typed 54 (number_of_text tail)) (sequence head tail)

abbrev segment : List ℕ → List ℕ → Option Component
segment head tail = cond (bytes_eq head (codes "seg")) (typed 50 (number_of_text tail)) (version head tail)

abbrev parameters : List ℕ → List ℕ → Option Component
parameters head tail =
    cond (bytes_eq head (codes "params-sha256")) (typed 2 (digest_of_text tail)) (segment head tail)

pub parts-read : (head tail : List ℕ) (c : Component) → component_of_parts head tail ≡ Some c → IsRead head tail c
parts-read head tail c h =
    either (bytes_eq head (codes "sha256digest")) (typed 1 (digest_of_text tail)) (parameters head tail) c h
    (λ e k. read_with (Digest 1) head tail c (inl (refl, is_word head (codes "sha256digest") e)) k)
    (λ h2. either (bytes_eq head (codes "params-sha256")) (typed 2 (digest_of_text tail)) (segment head tail) c h2
    (λ e k. read_with (Digest 2) head tail c (inr (refl, is_word head (codes "params-sha256") e)) k)
    (λ h3. either (bytes_eq head (codes "seg")) (typed 50 (number_of_text tail)) (version head tail) c h3
    (λ e k. read_with (Number 50) head tail c (inl (refl, is_word head (codes "seg") e)) k)
    (λ h4. either (bytes_eq head (codes "v")) (typed 54 (number_of_text tail)) (sequence head tail) c h4
    (λ e k. read_with (Number 54) head tail c (inr (inl (refl, is_word head (codes "v") e))) k)
    (λ h5. either (bytes_eq head (codes "seq")) (typed 58 (number_of_text tail)) (other head tail) c h5
    (λ e k. read_with (Number 58) head tail c (inr (inr (refl, is_word head (codes "seq") e))) k)
    (λ h6. read_typed (decimal_of_text 65535 head) head tail c refl h6)))))

-- a text with a head
pub headed-text : (form : Form) (head tail text : List ℕ) → IsHead form head → text ≡ headed head tail
    → component_of_text text ≡ tail_of_text form tail
unfolding component_of_text
headed-text form head tail text h e =
    let cut : cut_at 61 text ≡ Some (head, tail) =
    ap (cut_at 61) e ∙ cut_at-splits 61 head tail (head-lacks 61 form head refl h) in
    ap (component_by text) cut ∙ parts-head form head tail h

-- a text without a head
pub headless-text : (text : List ℕ) → HasNoHead text → component_of_text text ≡ typed 8 (value_of_text text)
unfolding component_of_text
headless-text text none = by_cut (cut_at 61 text) refl where
  by_cut : (parts : Option (List ℕ × List ℕ)) → cut_at 61 text ≡ parts
      → component_by text parts ≡ typed 8 (value_of_text text)
  by_cut None e = refl
  by_cut (Some parts) e =
      let split = (is_cut 61 text parts.0 parts.1 e).split in
      let no_value : value_of_text text ≡ None =
      none_from (value_of_text text) (λ v k. no_equals v text parts.0 parts.1 (is_value text v k) split) in
      let no_component : component_of_parts parts.0 parts.1 ≡ None =
      none_from (component_of_parts parts.0 parts.1)
      (λ c k. let r = parts-read parts.0 parts.1 c k in none r.form parts.0 parts.1 r.is_head split) in
      no_component ∙ sym (ap (typed 8) no_value)

value_headless : (value text : List ℕ) → IsValueText value text → HasNoHead text
value_headless value text h form head tail is_head e = no_equals value text head tail h e

pub component_is : (c : Component) (text : List ℕ) → IsComponentText c text → component_of_text text ≡ Some c
component_is c text h =
    elim (component-cases c text h) [
      | inl a ↦
          headless-text text (value_headless c.1 text a.1)
          ∙ typed_is c 8 (value_of_text text) a.0 (value_is c.1 text a.1)
      | inr a ↦ headed-text a.form a.head a.tail text a.is_head a.split ∙ tail_is a.form c a.tail a.is_tail
    ]

pub is_component : (text : List ℕ) (c : Component) → component_of_text text ≡ Some c → IsComponentText c text
unfolding component_of_text
is_component text c h = by_cut (cut_at 61 text) refl where
  by_cut : (parts : Option (List ℕ × List ℕ)) → cut_at 61 text ≡ parts → IsComponentText c text
  by_cut None e =
      let m = option_map_some (of_type 8) (value_of_text text) c (rw e at h) in
      subst (λ (d : Component). IsComponentText d text) m.2 (generic refl (is_value text m.0 m.1))
  by_cut (Some parts) e =
      let r = parts-read parts.0 parts.1 c (rw e at h) in
      subst (λ (t : List ℕ). IsComponentText c t) (sym (is_cut 61 text parts.0 parts.1 e).split)
      (component-headed r.form c parts.0 parts.1 r.is_head r.is_tail)

-- ---- paths

abbrev pub is_slash : ℕ → Bool
is_slash o = eqb o 47

pub split-lacks : (prefix : List ℕ) → LacksOctet 47 prefix → slice_split is_slash prefix ≡ prefix ∷ []
split-lacks [] h = refl
split-lacks (c ∷ prefix) h = rw (ne_eqb c 47 h.0, split-lacks prefix h.1) refl

pub split-slash : (prefix rest : List ℕ) → LacksOctet 47 prefix
    → slice_split is_slash (prefix ++ 47 ∷ rest) ≡ prefix ∷ slice_split is_slash rest
split-slash [] rest h = refl
split-slash (c ∷ prefix) rest h = rw (ne_eqb c 47 h.0, split-slash prefix rest h.1) refl

abbrev some_name : List Component → Option (List Component)
some_name name = Some name

texts-cons : (c : Component) (name : List Component) (text : List ℕ) (texts : List (List ℕ))
    → component_of_text text ≡ Some c → components_of_texts texts ≡ Some name
    → components_of_texts (text ∷ texts) ≡ Some (c ∷ name)
unfolding components_of_texts
texts-cons c name text texts h k = rw (h, k) refl

no_texts : components_of_texts [] ≡ Some []
unfolding components_of_texts
no_texts = refl

path_is : (parts : List Part) (at : ℕ) (part : Part) (path : List ℕ) → IsPath at (part ∷ parts) (47 ∷ path)
    → components_of_texts (slice_split is_slash path) ≡ Some (name_of_parts (part ∷ parts))
path_is [] at part path h =
    let whole = h.2 in
    let split : path ≡ h.0 ++ h.1 = cc in
    let alone : path ≡ h.0 = split ∙ ap (λ (t : List ℕ). h.0 ++ t) h.5 ∙ append-nil h.0 in
    ap (λ (t : List ℕ). components_of_texts (slice_split is_slash t)) alone
    ∙ ap components_of_texts (split-lacks h.0 (component-lacks part.1 h.0 h.4))
    ∙ texts-cons part.1 [] h.0 [] (component_is part.1 h.0 h.4) no_texts
path_is (q ∷ parts) at part path h =
    let whole = h.2 in
    let split : path ≡ h.0 ++ h.1 = cc in
    let others = h.5 in
    let after_it = others.0 ++ others.1 in
    let there : IsPath (at + 1 + length h.0) (q ∷ parts) (47 ∷ after_it) =
    subst (λ (t : List ℕ). IsPath (at + 1 + length h.0) (q ∷ parts) t) others.2 others in
    let parted : path ≡ h.0 ++ 47 ∷ after_it = split ∙ ap (λ (t : List ℕ). h.0 ++ t) others.2 in
    ap (λ (t : List ℕ). components_of_texts (slice_split is_slash t)) parted
    ∙ ap components_of_texts (split-slash h.0 after_it (component-lacks part.1 h.0 h.4))
    ∙ texts-cons part.1 (name_of_parts (q ∷ parts)) h.0 (slice_split is_slash after_it) (component_is part.1 h.0 h.4)
    (path_is parts (at + 1 + length h.0) q after_it there)

-- texts with a slash before each
abbrev slashed : List (List ℕ) → List ℕ
slashed [] = []
slashed (text ∷ texts) = 47 ∷ (text ++ slashed texts)

slashed-first : (c : ℕ) (texts : List (List ℕ)) (path : List ℕ) → slashed texts ≡ 47 ∷ path
    → slashed (onto_first c texts) ≡ 47 ∷ c ∷ path
slashed-first c [] path h = absurd cc
slashed-first c (text ∷ texts) path h =
    let after_it : text ++ slashed texts ≡ path = cc in
    ap (λ (t : List ℕ). 47 ∷ c ∷ t) after_it

slashed-split : (path : List ℕ) → slashed (slice_split is_slash path) ≡ 47 ∷ path
slashed-split [] = refl
slashed-split (c ∷ path) = step c path (slashed-split path) where
  step : (c : ℕ) (path : List ℕ) → slashed (slice_split is_slash path) ≡ 47 ∷ path
      → slashed (slice_split is_slash (c ∷ path)) ≡ 47 ∷ c ∷ path
  step c path h =
      elim (cases_Bool (is_slash c)) [
        | inl e ↦
            rw e (ap (λ (t : List ℕ). 47 ∷ t) h ∙ ap (λ (n : ℕ). 47 ∷ n ∷ path) (sym (eqb-true c 47 e)))
        | inr e ↦ rw e (slashed-first c (slice_split is_slash path) path h)
      ]

-- a name, with the places of its components in a text
pub record IsNamed (L : List Part → Type 0) (name : List Component) : Type 0 where
  pub parts : List Part
  pub is : L parts
  pub name_is : name ≡ name_of_parts parts

texts-named : (texts : List (List ℕ)) (at : ℕ) (name : List Component) → components_of_texts texts ≡ Some name
    → IsNamed (λ parts. IsPath at parts (slashed texts)) name
unfolding components_of_texts
texts-named [] at name h = record { parts = []; is = refl; name_is = sym (same_Some [] name h) }
texts-named (text ∷ texts) at name h =
    option_and_then_some (λ (c : Component). component_before c (components_of_texts texts)) (component_of_text text)
    name h
    (λ c e k.
    let m = option_map_some (λ (others : List Component). c ∷ others) (components_of_texts texts) name k in
    let others = texts-named texts (at + 1 + length text) m.0 m.1 in
    record {
      parts = (at + 1, c) ∷ others.parts;
      is = (text, slashed texts, refl, refl, is_component text c e, others.is);
      name_is = sym m.2 ∙ ap (λ (n : List Component). c ∷ n) others.name_is;
    })

path-named : (path : List ℕ) (at : ℕ) (name : List Component)
    → components_of_texts (slice_split is_slash path) ≡ Some name
    → IsNamed (λ parts. IsPath at parts (47 ∷ path)) name
path-named path at name h =
    let n = texts-named (slice_split is_slash path) at name h in
    record {
      parts = n.parts;
      is = subst (λ (t : List ℕ). IsPath at n.parts t) (slashed-split path) n.is;
      name_is = n.name_is;
    }

-- ---- the front of a text

pub rest-append : (word path : List ℕ) → after_word word (word ++ path) ≡ Some path
unfolding after_word
rest-append [] path = refl
rest-append (c ∷ word) path = rw (eq-eqb c c refl) (rest-append word path)

pub is_after : (word text path : List ℕ) → after_word word text ≡ Some path → text ≡ word ++ path
unfolding after_word
is_after [] text path h = same_Some text path h
is_after (c ∷ word) [] path h = absurd (none-some path h)
is_after (c ∷ word) (d ∷ text) path h =
    either (eqb c d) (after_word word text) None path h
    (λ e k. ap (λ (n : ℕ). n ∷ text) (sym (eqb-true c d e)) ∙ ap (λ (t : List ℕ). c ∷ t) (is_after word text path k))
    (λ k. absurd (none-some path k))

-- the name after the scheme
abbrev pub rooted_name : List ℕ → Option (List Component)
rooted_name text = option_and_then name_of_path (after_word (codes "/") text)

no_component : (c : Component) → component_of_text [] ≡ Some c → ⊥
unfolding component_of_text cut_at unescaped
no_component c h = none-some c h

some_path : (first rest : List ℕ) → (first ≡ [] → ⊥)
    → name_of_path (first ++ rest) ≡ components_of_texts (slice_split is_slash (first ++ rest))
some_path [] rest some = absurd (some refl)
some_path (c ∷ first) rest some = refl

rooted_is : (at : ℕ) (parts : List Part) (text : List ℕ) → IsRooted at parts text
    → rooted_name text ≡ Some (name_of_parts parts)
unfolding after_word
rooted_is at [] text h = rw h refl
rooted_is at (part ∷ parts) text h =
    let path = h.0 ++ h.1 in
    let read = component_is part.1 h.0 h.4 in
    let some : h.0 ≡ [] → ⊥ = λ e. no_component part.1 (ap component_of_text (sym e) ∙ read) in
    let there : IsPath at (part ∷ parts) (47 ∷ path) = subst (λ (t : List ℕ). IsPath at (part ∷ parts) t) h.2 h in
    ap rooted_name h.2 ∙ some_path h.0 h.1 some ∙ path_is parts at part path there

root-named : (at : ℕ) (path : List ℕ) (name : List Component) → name_of_path path ≡ Some name
    → IsNamed (λ parts. IsRooted at parts (47 ∷ path)) name
root-named at [] name h = record { parts = []; is = refl; name_is = sym (same_Some [] name h) }
root-named at (c ∷ path) name h =
    let n = path-named (c ∷ path) at name h in
    record { parts = n.parts; is = rooted-path at n.parts (c ∷ path) n.is; name_is = n.name_is }

rooted-named : (at : ℕ) (text : List ℕ) (name : List Component) → rooted_name text ≡ Some name
    → IsNamed (λ parts. IsRooted at parts text) name
rooted-named at text name h =
    option_and_then_some name_of_path (after_word (codes "/") text) name h
    (λ path e k.
    let n = root-named at path name k in
    record {
      parts = n.parts;
      is = subst (λ (t : List ℕ). IsRooted at n.parts t) (sym (is_after (codes "/") text path e)) n.is;
      name_is = n.name_is;
    })

-- ---- texts

no_scheme : (rest : List ℕ) → without_scheme (47 ∷ rest) ≡ 47 ∷ rest
unfolding after_word
no_scheme rest = refl

uri_is : (parts : List Part) (text : List ℕ) → IsUri parts text → name_of_text text ≡ Some (name_of_parts parts)
unfolding name_of_text
uri_is parts text h =
    elim h [
      | inl a ↦
          let r = rooted_begins 0 parts text a in
          let same : without_scheme text ≡ text = ap without_scheme r.1 ∙ no_scheme r.0 ∙ sym r.1 in
          ap rooted_name same ∙ rooted_is 0 parts text a
      | inr a ↦
          let same : without_scheme text ≡ a.0 =
          ap without_scheme a.1
          ∙ ap (λ (o : Option (List ℕ)). unwrap_or o (codes "ndn:" ++ a.0)) (rest-append (codes "ndn:") a.0) in
          ap rooted_name same ∙ rooted_is 4 parts a.0 a.2
    ]

is_uri : (text : List ℕ) (name : List Component) → name_of_text text ≡ Some name → HasUri name text
unfolding name_of_text
is_uri text name h = by_scheme (after_word (codes "ndn:") text) refl where
  by_scheme : (path : Option (List ℕ)) → after_word (codes "ndn:") text ≡ path → HasUri name text
  by_scheme None e =
      let n = rooted-named 0 text name (rw e at h) in
      (n.parts, inl n.is, n.name_is)
  by_scheme (Some path) e =
      let n = rooted-named 4 path name (rw e at h) in
      (n.parts, inr (path, is_after (codes "ndn:") text path e, n.is), n.name_is)

pub texts-computed : (text : List ℕ) (name : List Component) → (name_of_text text ≡ Some name) ↔ HasUri name text
texts-computed text name =
    (is_uri text name, λ h. uri_is h.0 text h.1 ∙ ap some_name (sym h.2))
