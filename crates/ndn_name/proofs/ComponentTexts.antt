-- The texts of components: with a head, and without.
use Rattle.std.proofs.Common.{◌≡◌, ◌≢◌, ℕ, ◌+◌, ◌^◌, ◌<◌, ◌≤◌, true, false, List, [], ◌∷◌, ◌++◌, length, length-append}
use Rattle.std.proofs.Common.{take, drop, Result, Ok, Err, refl, sym, ap, subst, ◌∙◌, append_assoc, arith, ◌⊎◌, inl}
use Rattle.std.proofs.Common.{inr}
use Rattle.std.specs.Prelude.{codes}
use Rattle.std.specs.List.{list_all}
use Rattle.std.specs.Char.{digit_value}
use Rattle.std.specs.Fmt.{decimal}
use Rattle.std.proofs.lemmas.Bool.{and_parts}
use Rattle.std.proofs.lemmas.List.{take-append-drop}
use Rattle.std.proofs.lemmas.Fmt.{decimal_is_IsNumeral}
use Rattle.ndn_name.specs.declared.name_fault.NameFault.{NameFault}
use Rattle.ndn_name.specs.declared.name_fault.NameFault.TheVariants.{Tlv, BadComponent, BadDigestLength, NameTooLong}
use Rattle.ndn_name.specs.declared.name_fault.NameFault.TheVariants.{BadUri, NoMemory}
use Rattle.ndn_name.specs.declared.uri_form.Form.{Form}
use Rattle.ndn_name.specs.declared.uri_form.Form.TheVariants.{Digest, Number, Escaped}
use Rattle.ndn_name.specs.Names.{Component}
use Rattle.ndn_name.specs.Uri.{is_unreserved, IsOctetText, plain, escape, IsEscaped, guarded, IsValueText, IsDigits}
use Rattle.ndn_name.specs.Uri.{headed, IsComponentText, generic, typed, implicit_digest, parameters_digest, segment}
use Rattle.ndn_name.specs.Uri.{version, sequence}
use Rattle.ndn_name.specs.UriVerdict.{LeavesLanguage}
use Rattle.ndn_name.specs.UriReading.{FailsIn, HasNoHead, IsHead, IsTail, LacksOctet, ReadsText}
use Rattle.ndn_name.proofs.Escapes.{escaped-append, escaped-one}
use Rattle.ndn_name.proofs.Values.{IsSomeValueText, value-other, letter_after}
use Rattle.ndn_name.proofs.Separators.{lacks-append, lacks-test, lacks-separator, split-same, cut}
use Rattle.ndn_name.proofs.Heads.{head-unreserved, head-lacks, head-same, all_digits_unreserved}
use Rattle.ndn_name.proofs.LeavesLemmas.{Leaves-after}

abbrev pub IsSomeComponent : List ℕ → Type 0
IsSomeComponent text = (c : Component) × IsComponentText c text

-- ---- with a head

pub record IsHeaded (c : Component) (text : List ℕ) : Type 0 where
  pub form : Form
  pub head : List ℕ
  pub tail : List ℕ
  pub is_head : IsHead form head
  pub split : text ≡ headed head tail
  pub is_tail : IsTail form c tail

pub component-cases : (c : Component) (text : List ℕ) → IsComponentText c text
    → ((c.0 ≡ 8) × IsValueText c.1 text) ⊎ IsHeaded c text
component-cases c text (generic e h) = inl (e, h)
component-cases c text (typed tail above below split h) =
    inr (record {
      form = Escaped c.0;
      head = decimal c.0;
      tail = tail;
      is_head = (above, (omega arith, refl));
      split = split;
      is_tail = (refl, h);
    })
component-cases c text (implicit_digest tail e split h) =
    inr (record {
      form = Digest 1;
      head = codes "sha256digest";
      tail = tail;
      is_head = inl (refl, refl);
      split = split;
      is_tail = (e, h);
    })
component-cases c text (parameters_digest tail e split h) =
    inr (record {
      form = Digest 2;
      head = codes "params-sha256";
      tail = tail;
      is_head = inr (refl, refl);
      split = split;
      is_tail = (e, h);
    })
component-cases c text (segment tail e split h) =
    inr (record {
      form = Number 50;
      head = codes "seg";
      tail = tail;
      is_head = inl (refl, refl);
      split = split;
      is_tail = (e, h);
    })
component-cases c text (version tail e split h) =
    inr (record {
      form = Number 54;
      head = codes "v";
      tail = tail;
      is_head = inr (inl (refl, refl));
      split = split;
      is_tail = (e, h);
    })
component-cases c text (sequence tail e split h) =
    inr (record {
      form = Number 58;
      head = codes "seq";
      tail = tail;
      is_head = inr (inr (refl, refl));
      split = split;
      is_tail = (e, h);
    })

same_head : (head word tail : List ℕ) → head ≡ word → headed head tail ≡ headed word tail
same_head head word tail e = ap (λ (x : List ℕ). headed x tail) e

pub component-headed : (form : Form) (c : Component) (head tail : List ℕ) → IsHead form head → IsTail form c tail
    → IsComponentText c (headed head tail)
component-headed (Digest typ) c head tail h t =
    elim h [
      | inl a ↦ implicit_digest tail (t.0 ∙ a.0) (same_head head (codes "sha256digest") tail a.1) t.1
      | inr a ↦ parameters_digest tail (t.0 ∙ a.0) (same_head head (codes "params-sha256") tail a.1) t.1
    ]
component-headed (Number typ) c head tail h t =
    elim h [
      | inl a ↦ segment tail (t.0 ∙ a.0) (same_head head (codes "seg") tail a.1) t.1
      | inr b ↦
          elim b [
            | inl a ↦ version tail (t.0 ∙ a.0) (same_head head (codes "v") tail a.1) t.1
            | inr a ↦ sequence tail (t.0 ∙ a.0) (same_head head (codes "seq") tail a.1) t.1
          ]
    ]
component-headed (Escaped typ) c head tail h t =
    typed tail (omega (arith, t.0, h.0)) (omega (arith, t.0, h.1.0))
    (same_head head (decimal c.0) tail (h.1.1 ∙ ap (λ (n : ℕ). decimal n) (sym t.0))) t.1

-- ---- what does not stand in a text

escaped-lacks : (s : ℕ) (octets text : List ℕ) → is_unreserved s ≡ false → 16 ≤ digit_value s → s ≢ 37
    → IsEscaped octets text → LacksOctet s text
escaped-lacks s [] text reserved large other h = let P : List ℕ → Type 0 = λ t. LacksOctet s t in subst P (sym h) tt
escaped-lacks s (o ∷ octets) text reserved large other h =
    let P : List ℕ → Type 0 = λ t. LacksOctet s t in
    subst P (sym h.2)
    (lacks-append s h.0 h.1 (first h.0 h.3) (escaped-lacks s octets h.1 reserved large other h.4)) where
      digit : (d : ℕ) → digit_value d < 16 → d ≢ s
      digit d small e = absurd (omega (arith, ap digit_value e, small, large))

      first : (t : List ℕ) → IsOctetText o t → LacksOctet s t
      first t (plain k e) =
          let Q : List ℕ → Type 0 = λ x. LacksOctet s x in
          let apart : o ≢ s = λ g. let never : true ≡ false = sym k ∙ ap is_unreserved g ∙ reserved in absurd cc in
          subst Q (sym e) (apart, tt)
      first t (escape high low k e) =
          let Q : List ℕ → Type 0 = λ x. LacksOctet s x in
          subst Q (sym e) (λ g. other (sym g), (digit high k.0, (digit low k.1, tt)))

digits-lacks : (s : ℕ) (octets text : List ℕ) → 16 ≤ digit_value s → IsDigits octets text → LacksOctet s text
digits-lacks s [] text large h = let P : List ℕ → Type 0 = λ t. LacksOctet s t in subst P (sym h) tt
digits-lacks s (o ∷ octets) text large h =
    let P : List ℕ → Type 0 = λ t. LacksOctet s t in
    let digit : (d : ℕ) → digit_value d < 16 → d ≢ s =
    λ d small e. absurd (omega (arith, ap digit_value e, small, large)) in
    subst P (sym h.3) (digit h.0 h.4.0, (digit h.1 h.4.1, digits-lacks s octets h.2 large h.5))

decimal-lacks : (s n : ℕ) (text : List ℕ) → is_unreserved s ≡ false → n < 2 ^ 64 → text ≡ decimal n → LacksOctet s text
decimal-lacks s n text reserved fits e =
    let P : List ℕ → Type 0 = λ t. LacksOctet s t in
    subst P (sym e)
    (lacks-test s is_unreserved (decimal n) reserved
    (all_digits_unreserved (decimal n) (decimal_is_IsNumeral n fits).0.1))

equals_reserved : is_unreserved 61 ≡ false
equals_reserved = refl

slash_reserved : is_unreserved 47 ≡ false
slash_reserved = refl

tail-lacks : (form : Form) (c : Component) (tail : List ℕ) → IsTail form c tail → LacksOctet 47 tail
tail-lacks (Digest typ) c tail h = digits-lacks 47 c.1 tail (omega arith) h.1.1
tail-lacks (Number typ) c tail h = decimal-lacks 47 h.1.0 tail slash_reserved (omega (arith, h.1.2.0)) h.1.2.1
tail-lacks (Escaped typ) c tail h = escaped-lacks 47 (guarded c.1) tail slash_reserved (omega arith) (omega arith) h.1

-- the text of a component has no slash
pub component-lacks : (c : Component) (text : List ℕ) → IsComponentText c text → LacksOctet 47 text
component-lacks c text h =
    elim (component-cases c text h) [
      | inl a ↦ escaped-lacks 47 (guarded c.1) text slash_reserved (omega arith) (omega arith) a.1
      | inr a ↦
          let P : List ℕ → Type 0 = λ t. LacksOctet 47 t in
          subst P (sym a.split)
          (lacks-append 47 a.head (61 ∷ a.tail) (head-lacks 47 a.form a.head slash_reserved a.is_head)
          (omega arith, tail-lacks a.form c a.tail a.is_tail))
    ]

pub no_equals : (value text head tail : List ℕ) → IsValueText value text → text ≡ headed head tail → ⊥
no_equals value text head tail h e =
    let P : List ℕ → Type 0 = λ t. LacksOctet 61 t in
    lacks-separator 61 head tail
    (subst P e (escaped-lacks 61 (guarded value) text equals_reserved (omega arith) (omega arith) h))

-- what follows a head
pub component-tail : (form : Form) (c : Component) (head tail : List ℕ) → IsHead form head
    → IsComponentText c (headed head tail) → IsTail form c tail
component-tail form c head tail is_head h =
    elim (component-cases c (headed head tail) h) [
      | inl a ↦ absurd (no_equals c.1 (headed head tail) head tail a.1 refl)
      | inr a ↦
          let s =
          split-same 61 a.head head a.tail tail (head-lacks 61 a.form a.head equals_reserved a.is_head)
          (head-lacks 61 form head equals_reserved is_head) (sym a.split) in
          let P : List ℕ → Type 0 = λ x. IsHead a.form x in
          let Q : List ℕ → Type 0 = λ x. IsTail a.form c x in
          let R : Form → Type 0 = λ f. IsTail f c tail in
          subst R (head-same a.form form head (subst P s.0 a.is_head) is_head) (subst Q s.1 a.is_tail)
    ]

-- ---- where texts are left

tail_leaves : (form : Form) (head tail : List ℕ) (k : ℕ) → IsHead form head
    → LeavesLanguage (λ t. (c : Component) × IsTail form c t) tail k
    → LeavesLanguage IsSomeComponent (headed head tail) (length (head ++ 61 ∷ []) + k)
tail_leaves form head tail k is_head h =
    let P : List ℕ → Type 0 = λ t. LeavesLanguage IsSomeComponent t (length (head ++ 61 ∷ []) + k) in
    subst P (regroup tail)
    (Leaves-after (λ t. (c : Component) × IsTail form c t) IsSomeComponent (head ++ 61 ∷ []) tail k
    (λ t m. (m.0, subst (IsComponentText m.0) (sym (regroup t)) (component-headed form m.0 head t is_head m.1)))
    (λ t m. (m.0, component-tail form m.0 head t is_head (subst (IsComponentText m.0) (regroup t) m.1))) h) where
      regroup : (t : List ℕ) → (head ++ 61 ∷ []) ++ t ≡ headed head t
      regroup t = append_assoc head (61 ∷ []) t

pub headed-fails : (form : Form) (at : ℕ) (head tail text : List ℕ) (f : NameFault) → IsHead form head
    → text ≡ headed head tail → FailsIn (IsTail form) (at + length head + 1) tail f → FailsIn IsComponentText at text f
headed-fails form at head tail text (BadUri place) is_head e h =
    let P : List ℕ → Type 0 = λ t. LeavesLanguage IsSomeComponent t (length (head ++ 61 ∷ []) + h.0) in (
      length (head ++ 61 ∷ []) + h.0,
      omega (arith, h.1, length-append head (61 ∷ [])),
      subst P (sym e) (tail_leaves form head tail h.0 is_head h.2),
    )
headed-fails form at head tail text NoMemory is_head e h = h
headed-fails form at head tail text NameTooLong is_head e h = h
headed-fails form at head tail text (Tlv f) is_head e h = h
headed-fails form at head tail text (BadComponent p) is_head e h = h
headed-fails form at head tail text (BadDigestLength p) is_head e h = h

-- a head is the text of octets too
head_escaped : (head : List ℕ) → list_all is_unreserved head ≡ true → IsEscaped head head
head_escaped [] h = refl
head_escaped (c ∷ head) h =
    let both = and_parts (is_unreserved c) (list_all is_unreserved head) h in
    (c ∷ [], head, refl, plain both.0 refl, head_escaped head both.1)

head_value : (form : Form) (head : List ℕ) → IsHead form head → IsSomeValueText (head ++ 97 ∷ [])
head_value form head h =
    let whole =
    escaped-append head (97 ∷ []) head (97 ∷ []) (head_escaped head (head-unreserved form head h))
    (escaped-one 97 (97 ∷ []) (plain refl refl)) in
    (head ++ 97 ∷ [], value-other (head ++ 97 ∷ []) (head ++ 97 ∷ []) whole (letter_after head))

plain_leaves : (text : List ℕ) (k : ℕ) → HasNoHead text → LeavesLanguage IsSomeValueText text k
    → LeavesLanguage IsSomeComponent text k
plain_leaves text k none h = record {
  within = h.within;
  goes_on = (h.goes_on.0, ((8, h.goes_on.1.0), generic refl h.goes_on.1.1));
  breaks = λ lt more m. breaks lt more (component-cases m.0 (take (k + 1) text ++ more) m.1);
  ends = λ m. ends (component-cases m.0 text m.1);
} where
  breaks : {c : Component} → k < length text → (more : List ℕ)
      → ((c.0 ≡ 8) × IsValueText c.1 (take (k + 1) text ++ more)) ⊎ IsHeaded c (take (k + 1) text ++ more) → ⊥
  breaks {c} lt more m =
      elim m [
        | inl a ↦ h.breaks lt more (c.1, a.1)
        | inr a ↦
            elim (cut 61 (take (k + 1) text) more a.head a.tail a.split) [
              | inl b ↦
                  let text-is : a.head ++ 97 ∷ [] ≡ take (k + 1) text ++ (b.0 ++ 97 ∷ []) =
                  ap (λ (x : List ℕ). x ++ 97 ∷ []) b.1 ∙ append_assoc (take (k + 1) text) b.0 (97 ∷ []) in
                  h.breaks lt (b.0 ++ 97 ∷ []) (subst IsSomeValueText text-is (head_value a.form a.head a.is_head))
              | inr b ↦
                  let text-is : text ≡ headed a.head (b.0 ++ drop (k + 1) text) =
                  sym (take-append-drop (k + 1) text)
                  ∙ ap (λ (x : List ℕ). x ++ drop (k + 1) text) b.1
                  ∙ append_assoc a.head (61 ∷ b.0) (drop (k + 1) text) in
                  none a.form a.head (b.0 ++ drop (k + 1) text) a.is_head text-is
            ]
      ]

  ends : {c : Component} → ((c.0 ≡ 8) × IsValueText c.1 text) ⊎ IsHeaded c text → ⊥
  ends {c} m = elim m [ inl a ↦ h.ends (c.1, a.1) | inr a ↦ none a.form a.head a.tail a.is_head a.split ]

pub plain-fails : (at : ℕ) (text : List ℕ) (f : NameFault) → HasNoHead text → FailsIn IsValueText at text f
    → FailsIn IsComponentText at text f
plain-fails at text (BadUri place) none h = (h.0, h.1, plain_leaves text h.0 none h.2)
plain-fails at text NoMemory none h = h
plain-fails at text NameTooLong none h = h
plain-fails at text (Tlv f) none h = h
plain-fails at text (BadComponent p) none h = h
plain-fails at text (BadDigestLength p) none h = h

pub reads-headed : {X : Type 0} (view : X → Component) (form : Form) (at : ℕ) (head tail text : List ℕ)
    (r : Result X NameFault)
    → IsHead form head → text ≡ headed head tail → ReadsText view (IsTail form) (at + length head + 1) tail r
    → ReadsText view IsComponentText at text r
reads-headed view form at head tail text (Ok x) is_head e h =
    subst (IsComponentText (view x)) (sym e) (component-headed form (view x) head tail is_head h)
reads-headed view form at head tail text (Err f) is_head e h = headed-fails form at head tail text f is_head e h
