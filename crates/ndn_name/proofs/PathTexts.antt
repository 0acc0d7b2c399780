-- The texts of paths: a slash and the text of a component, again and again.
use Rattle.std.proofs.Common.{◌≡◌, ℕ, zero, suc, ◌+◌, ◌<◌, List, [], ◌∷◌, ◌++◌, length, length-append, take, drop}
use Rattle.std.proofs.Common.{Option, Some, None, Result, Ok, Err, add-one, refl, sym, ap, subst, ◌∙◌, append_assoc}
use Rattle.std.proofs.Common.{arith, inl, inr}
use Rattle.std.specs.Prelude.{codes}
use Rattle.std.proofs.lemmas.Bool.{cases_lt}
use Rattle.std.proofs.lemmas.List.{append-nil, append_cancel_left, take-append-le, take-append-drop, length-take-le}
use Rattle.std.proofs.Math.Seq.{take-append-add}
use Rattle.ndn_name.specs.declared.name_fault.NameFault.{NameFault}
use Rattle.ndn_name.specs.declared.name_fault.NameFault.TheVariants.{Tlv, BadComponent, BadDigestLength, NameTooLong}
use Rattle.ndn_name.specs.declared.name_fault.NameFault.TheVariants.{BadUri, NoMemory}
use Rattle.ndn_name.specs.Names.{Component}
use Rattle.ndn_name.specs.Uri.{plain, IsComponentText, generic, Part, IsPath, IsRooted, IsUri}
use Rattle.ndn_name.specs.UriVerdict.{LeavesLanguage}
use Rattle.ndn_name.specs.UriReading.{BeginsWithAnother, BreaksOff, FailsIn, LacksOctet, ReadsText, Splits}
use Rattle.ndn_name.proofs.Escapes.{escaped-one}
use Rattle.ndn_name.proofs.Values.{value-other}
use Rattle.ndn_name.proofs.Separators.{Bounded, lacks-prefix, parts-same, prefix-first}
use Rattle.ndn_name.proofs.ComponentTexts.{IsSomeComponent, component-lacks}
use Rattle.ndn_name.proofs.LeavesLemmas.{Leaves-after, Leaves-first, Leaves-end}

abbrev pub IsSomePath : ℕ → List ℕ → Type 0
IsSomePath at text = (parts : List Part) × IsPath at parts text

abbrev pub IsSomeRooted : ℕ → List ℕ → Type 0
IsSomeRooted at text = (parts : List Part) × IsRooted at parts text

at_place : (at n : ℕ) (parts : List Part) (text : List ℕ) → at ≡ n → IsPath at parts text → IsPath n parts text
at_place at n parts text e h = let P : ℕ → Type 0 = λ k. IsPath k parts text in subst P e h

pub path-bounded : (at : ℕ) (parts : List Part) (text : List ℕ) → IsPath at parts text → Bounded 47 text
path-bounded at [] text h = let P : List ℕ → Type 0 = λ t. Bounded 47 t in subst P (sym h) tt
path-bounded at (part ∷ parts) text h = let P : List ℕ → Type 0 = λ t. Bounded 47 t in subst P (sym h.2) refl

bounded-append : (x y : List ℕ) → Bounded 47 x → Bounded 47 y → Bounded 47 (x ++ y)
bounded-append [] y h k = k
bounded-append (c ∷ x) y h k = h

pub path-append : (a b : List Part) (at : ℕ) (x y : List ℕ) → IsPath at a x → IsPath (at + length x) b y
    → IsPath at (a ++ b) (x ++ y)
path-append [] b at x y h k =
    let P : List ℕ → Type 0 = λ t. IsPath at b (t ++ y) in
    subst P (sym h) (at_place (at + length x) at b y (omega (arith, ap length h)) k)
path-append (part ∷ a) b at x y h k =
    let first = h.0 in
    let rest = h.1 in
    let there : at + length x ≡ at + 1 + length first + length rest =
    omega (arith, ap length h.2, length-append first rest) in (
      first,
      rest ++ y,
      ap (λ (t : List ℕ). t ++ y) h.2 ∙ ap (λ (t : List ℕ). 47 ∷ t) (append_assoc first rest y),
      h.3,
      h.4,
      path-append a b (at + 1 + length first) rest y h.5
          (at_place (at + length x) (at + 1 + length first + length rest) b y there k),
    )

-- the first part of a path
pub record Opens (at : ℕ) (text : List ℕ) : Type 0 where
  pub component : Component
  pub first : List ℕ
  pub rest : List ℕ
  pub split : text ≡ first ++ rest
  pub is : IsComponentText component first
  pub others : List Part
  pub path : IsPath (at + 1 + length first) others rest

pub path-opens : (at : ℕ) (parts : List Part) (text : List ℕ) → IsPath at parts (47 ∷ text) → Opens at text
path-opens at [] text h = absurd cc
path-opens at (part ∷ parts) text h =
    let e = h.2 in
    record { component = part.1; first = h.0; rest = h.1; split = cc; is = h.4; others = parts; path = h.5 }

-- what follows the prefix of a path is a path
pub path-prefix : (a c : List Part) (at : ℕ) (x y : List ℕ) → IsPath at a x → IsPath at c (x ++ y) → Bounded 47 y
    → IsSomePath (at + length x) y
path-prefix [] c at x y h e bounded =
    let P : List ℕ → Type 0 = λ t. IsPath at c (t ++ y) in
    (c, at_place at (at + length x) c y (omega (arith, ap length h)) (subst P h e))
path-prefix (part ∷ a) c at x y h e bounded =
    let first = h.0 in
    let rest = h.1 in
    let whole : x ++ y ≡ 47 ∷ (first ++ (rest ++ y)) =
    ap (λ (t : List ℕ). t ++ y) h.2 ∙ ap (λ (t : List ℕ). 47 ∷ t) (append_assoc first rest y) in
    let P : List ℕ → Type 0 = λ t. IsPath at c t in
    let o = path-opens at c (first ++ (rest ++ y)) (subst P whole e) in
    let s =
    parts-same 47 first o.first (rest ++ y) o.rest (component-lacks part.1 first h.4)
    (component-lacks o.component o.first o.is)
    (bounded-append rest y (path-bounded (at + 1 + length first) a rest h.5) bounded)
    (path-bounded (at + 1 + length o.first) o.others o.rest o.path) o.split in
    let Q : List ℕ → Type 0 = λ t. IsPath (at + 1 + length first) o.others t in
    let here : at + 1 + length o.first ≡ at + 1 + length first = omega (arith, ap length s.0) in
    let following =
    subst Q (sym s.1) (at_place (at + 1 + length o.first) (at + 1 + length first) o.others o.rest here o.path) in
    let more = path-prefix a o.others (at + 1 + length first) rest y h.5 following bounded in
    let there : at + 1 + length first + length rest ≡ at + length x =
    omega (arith, ap length h.2, length-append first rest) in
    (more.0, at_place (at + 1 + length first + length rest) (at + length x) more.0 y there more.1)

-- ---- where a path is left

one_part : (at : ℕ) (c : Component) (text : List ℕ) → IsComponentText c text → IsPath at ((at + 1, c) ∷ []) (47 ∷ text)
one_part at c text h = (text, [], ap (λ (t : List ℕ). 47 ∷ t) (sym (append-nil text)), refl, h, refl)

abbrev AfterSlash : ℕ → List ℕ → Type 0
AfterSlash at text = IsSomePath at (47 ∷ text)

first_leaves : (at : ℕ) (first after : List ℕ) (k : ℕ) → LacksOctet 47 first → Bounded 47 after
    → LeavesLanguage IsSomeComponent first k → LeavesLanguage (AfterSlash at) (first ++ after) k
first_leaves at first after k lacks bounded h = record {
  within = omega (arith, h.within, length-append first after);
  goes_on = (
    h.goes_on.0,
    (
      (at + 1, h.goes_on.1.0) ∷ [],
      one_part at h.goes_on.1.0 (take k (first ++ after) ++ h.goes_on.0)
          (subst (IsComponentText h.goes_on.1.0)
          (ap (λ (t : List ℕ). t ++ h.goes_on.0) (sym (take-append-le k first after h.within))) h.goes_on.1.1),
    ),
  );
  breaks = λ lt more m. breaks more (path-opens at m.0 (take (k + 1) (first ++ after) ++ more) m.1) lt;
  ends = λ m. ends (path-opens at m.0 (first ++ after) m.1);
} where
  ends : Opens at (first ++ after) → ⊥
  ends o =
      let s =
      parts-same 47 first o.first after o.rest lacks (component-lacks o.component o.first o.is) bounded
      (path-bounded (at + 1 + length o.first) o.others o.rest o.path) o.split in
      h.ends (o.component, subst (IsComponentText o.component) (sym s.0) o.is)

  inside : (more : List ℕ) → Opens at (take (k + 1) (first ++ after) ++ more) → k < length first → ⊥
  inside more o lt =
      let prefix = take (k + 1) first in
      let prefix-is : take (k + 1) (first ++ after) ≡ prefix = take-append-le (k + 1) first after (omega arith) in
      let split : prefix ++ more ≡ o.first ++ o.rest = ap (λ (t : List ℕ). t ++ more) (sym prefix-is) ∙ o.split in
      let P : List ℕ → Type 0 = λ t. LacksOctet 47 t in
      let f =
      prefix-first 47 prefix more o.first o.rest
      (lacks-prefix 47 prefix (drop (k + 1) first) (subst P (sym (take-append-drop (k + 1) first)) lacks))
      (path-bounded (at + 1 + length o.first) o.others o.rest o.path) split in
      h.breaks lt f.0 (o.component, subst (IsComponentText o.component) f.1 o.is)

  following : (a : List ℕ) → after ≡ a → (more : List ℕ) → Opens at (take (k + 1) (first ++ after) ++ more)
      → k ≡ length first → 0 < length a → Bounded 47 a → ⊥
  following [] e more o here some b = absurd (omega arith)
  following (c ∷ a) e more o here some b =
      let prefix-is : take (k + 1) (first ++ after) ≡ first ++ c ∷ [] =
      ap (λ (n : ℕ). take (n + 1) (first ++ after)) here
      ∙ take-append-add first after 1
      ∙ ap (λ (t : List ℕ). first ++ take 1 t) e in
      let split : first ++ c ∷ more ≡ o.first ++ o.rest =
      sym (append_assoc first (c ∷ []) more) ∙ ap (λ (t : List ℕ). t ++ more) (sym prefix-is) ∙ o.split in
      let s =
      parts-same 47 first o.first (c ∷ more) o.rest lacks (component-lacks o.component o.first o.is) b
      (path-bounded (at + 1 + length o.first) o.others o.rest o.path) split in
      h.ends (o.component, subst (IsComponentText o.component) (sym s.0) o.is)

  breaks : (more : List ℕ) → Opens at (take (k + 1) (first ++ after) ++ more) → k < length (first ++ after) → ⊥
  breaks more o lt =
      elim (cases_lt k (length first)) [
        | inl a ↦ inside more o a
        | inr a ↦
            following after refl more o (omega (arith, a, h.within)) (omega (arith, a, lt, length-append first after))
            bounded
      ]

pub component-path_leaves : (at : ℕ) (parts : List Part) (prefix first after path : List ℕ) (k : ℕ)
    → IsPath at parts prefix → prefix ++ 47 ∷ (first ++ after) ≡ 47 ∷ path → LacksOctet 47 first → Bounded 47 after
    → LeavesLanguage IsSomeComponent first k
    → LeavesLanguage (IsSomePath at) (47 ∷ path) (length (prefix ++ 47 ∷ []) + k)
component-path_leaves at parts prefix first after path k read split lacks bounded h =
    let P : List ℕ → Type 0 = λ t. LeavesLanguage (IsSomePath at) t (length (prefix ++ 47 ∷ []) + k) in
    subst P (regroup (first ++ after) ∙ split)
    (Leaves-after (AfterSlash (at + length prefix)) (IsSomePath at) (prefix ++ 47 ∷ []) (first ++ after) k
    (λ t m. (parts ++ m.0, there t m.0 m.1))
    (λ t m. path-prefix parts m.0 at prefix (47 ∷ t) read (subst (IsPath at m.0) (regroup t) m.1) refl)
    (first_leaves (at + length prefix) first after k lacks bounded h)) where
      regroup : (t : List ℕ) → (prefix ++ 47 ∷ []) ++ t ≡ prefix ++ 47 ∷ t
      regroup t = append_assoc prefix (47 ∷ []) t

      there : (t : List ℕ) (more : List Part) → IsPath (at + length prefix) more (47 ∷ t)
          → IsPath at (parts ++ more) ((prefix ++ 47 ∷ []) ++ t)
      there t more m =
          subst (IsPath at (parts ++ more)) (sym (regroup t)) (path-append parts more at prefix (47 ∷ t) read m)

pub component-path_fails : (at place : ℕ) (parts : List Part) (prefix first after path : List ℕ) (f : NameFault)
    → place ≡ at + length prefix + 1 → IsPath at parts prefix → prefix ++ 47 ∷ (first ++ after) ≡ 47 ∷ path
    → LacksOctet 47 first → Bounded 47 after → FailsIn IsComponentText place first f
    → FailsIn (IsPath at) at (47 ∷ path) f
component-path_fails at place parts prefix first after path (BadUri p) e read split lacks bounded h = (
  length (prefix ++ 47 ∷ []) + h.0,
  omega (arith, e, h.1, length-append prefix (47 ∷ [])),
  component-path_leaves at parts prefix first after path h.0 read split lacks bounded h.2,
)
component-path_fails at place parts prefix first after path NoMemory e read split lacks bounded h = h
component-path_fails at place parts prefix first after path NameTooLong e read split lacks bounded h = h
component-path_fails at place parts prefix first after path (Tlv f) e read split lacks bounded h = h
component-path_fails at place parts prefix first after path (BadComponent p) e read split lacks bounded h = h
component-path_fails at place parts prefix first after path (BadDigestLength p) e read split lacks bounded h = h

-- ---- what was read of a path, and what is left

abbrev pub PathSoFar : ℕ → List Part → List ℕ → Option (List ℕ) → Type 0
PathSoFar at parts path None = IsPath at parts (47 ∷ path)
PathSoFar at parts path (Some text) = (prefix : List ℕ) × IsPath at parts prefix × (prefix ++ 47 ∷ text ≡ 47 ∷ path)

pub path-push : (at : ℕ) (parts : List Part) (prefix : List ℕ) (place : ℕ) (c : Component) (first : List ℕ)
    → place ≡ at + length prefix + 1 → IsPath at parts prefix → IsComponentText c first
    → IsPath at (parts ++ (place, c) ∷ []) (prefix ++ 47 ∷ first)
path-push at parts prefix place c first e read h =
    let P : ℕ → Type 0 = λ n. IsPath (at + length prefix) ((n, c) ∷ []) (47 ∷ first) in
    path-append parts ((place, c) ∷ []) at prefix (47 ∷ first) read
    (subst P (sym e) (one_part (at + length prefix) c first h))

pub path-step : (at : ℕ) (parts : List Part) (path text prefix : List ℕ) (place : ℕ) (c : Component) (first : List ℕ)
    (following : Option (List ℕ))
    → place ≡ at + length prefix + 1 → IsPath at parts prefix → prefix ++ 47 ∷ text ≡ 47 ∷ path
    → IsComponentText c first
    → Splits 47 text first following → PathSoFar at (parts ++ (place, c) ∷ []) path following
path-step at parts path text prefix place c first None e read split h s =
    subst (IsPath at (parts ++ (place, c) ∷ [])) (ap (λ (t : List ℕ). prefix ++ 47 ∷ t) (sym s.0) ∙ split)
    (path-push at parts prefix place c first e read h)
path-step at parts path text prefix place c first (Some rest) e read split h s = (
  prefix ++ 47 ∷ first,
  path-push at parts prefix place c first e read h,
  append_assoc prefix (47 ∷ first) (47 ∷ rest) ∙ ap (λ (t : List ℕ). prefix ++ 47 ∷ t) (sym s.0) ∙ split,
)

-- what follows the first part of what is left
pub after_first : (text first : List ℕ) (following : Option (List ℕ)) → Splits 47 text first following
    → (after : List ℕ) × (text ≡ first ++ after) × Bounded 47 after × LacksOctet 47 first
after_first text first None s = ([], s.0 ∙ sym (append-nil first), tt, s.1)
after_first text first (Some rest) s = (47 ∷ rest, s.0, refl, s.1)

-- ---- texts that begin with a slash

pub rooted_begins : (at : ℕ) (parts : List Part) (text : List ℕ) → IsRooted at parts text
    → (rest : List ℕ) × (text ≡ 47 ∷ rest)
rooted_begins at [] text h = ([], h)
rooted_begins at (part ∷ parts) text h = (h.0 ++ h.1, h.2)

pub rooted-path : (at : ℕ) (parts : List Part) (path : List ℕ) → IsPath at parts (47 ∷ path)
    → IsRooted at parts (47 ∷ path)
rooted-path at [] path h = absurd cc
rooted-path at (part ∷ parts) path h = h

letter : (at : ℕ) → IsPath at ((at + 1, (8, 97 ∷ [])) ∷ []) (47 ∷ 97 ∷ [])
letter at =
    one_part at (8, 97 ∷ []) (97 ∷ [])
    (generic refl (value-other (97 ∷ []) (97 ∷ []) (escaped-one 97 (97 ∷ []) (plain refl refl)) refl))

pub rooted-leaves : (at : ℕ) (path : List ℕ) (k : ℕ) → 0 < length path → LeavesLanguage (IsSomePath at) (47 ∷ path) k
    → LeavesLanguage (IsSomeRooted at) (47 ∷ path) k
rooted-leaves at path k some h = record {
  within = h.within;
  goes_on = goes (take k (47 ∷ path)) h.goes_on.0 h.goes_on.1;
  breaks = λ lt more m. breaks lt more m.0 m.1;
  ends = λ m. ends m.0 m.1;
} where
  goes : (t more : List ℕ) → IsSomePath at (t ++ more) → (other : List ℕ) × IsSomeRooted at (t ++ other)
  goes [] more m = (47 ∷ [], ([], refl))
  goes (c ∷ t) more m = (more, in_root m.0 m.1) where
    in_root : (parts : List Part) → IsPath at parts (c ∷ t ++ more) → IsSomeRooted at (c ∷ t ++ more)
    in_root [] e = absurd cc
    in_root (part ∷ parts) e = (part ∷ parts, e)

  breaks : k < length (47 ∷ path) → (more : List ℕ) (parts : List Part)
      → IsRooted at parts (take (k + 1) (47 ∷ path) ++ more) → ⊥
  breaks lt more (part ∷ parts) m = h.breaks lt more (part ∷ parts, m)
  breaks lt more [] m =
      let prefix : ℕ = length (take (k + 1) (47 ∷ path)) in
      let size : length (take (k + 1) (47 ∷ path)) ≡ k + 1 = length-take-le (k + 1) (47 ∷ path) (omega arith) in
      let none : k ≡ 0 = omega (arith, size, ap length m, length-append (take (k + 1) (47 ∷ path)) more) in
      let P : ℕ → Type 0 = λ n. IsSomePath at (take (n + 1) (47 ∷ path) ++ 97 ∷ []) in
      h.breaks lt (97 ∷ []) (subst P (sym none) ((at + 1, (8, 97 ∷ [])) ∷ [], letter at))

  ends : (parts : List Part) → IsRooted at parts (47 ∷ path) → ⊥
  ends [] m = let e : path ≡ [] = cc in absurd (omega (arith, ap length e, some))
  ends (part ∷ parts) m = h.ends (part ∷ parts, m)

pub rooted-fails : (at : ℕ) (path : List ℕ) (f : NameFault) → 0 < length path → FailsIn (IsPath at) at (47 ∷ path) f
    → FailsIn (IsRooted at) at (47 ∷ path) f
rooted-fails at path (BadUri place) some h = (h.0, h.1, rooted-leaves at path h.0 some h.2)
rooted-fails at path NoMemory some h = h
rooted-fails at path NameTooLong some h = h
rooted-fails at path (Tlv f) some h = h
rooted-fails at path (BadComponent p) some h = h
rooted-fails at path (BadDigestLength p) some h = h

-- no slash at the start
pub no_slash : (at : ℕ) (text : List ℕ) → ((rest : List ℕ) → text ≡ 47 ∷ rest → ⊥)
    → LeavesLanguage (IsSomeRooted at) text 0
no_slash at [] none =
    Leaves-end (IsSomeRooted at) (47 ∷ [], ([], refl)) (λ m. let r = rooted_begins at m.0 [] m.1 in none r.0 r.1)
no_slash at (c ∷ text) none =
    Leaves-first (IsSomeRooted at) c text (47 ∷ [], ([], refl)) (λ more m.
    let r = rooted_begins at m.0 (c ∷ more) m.1 in
    let e = r.1 in
    let same : c ≡ 47 = cc in
    none text (ap (λ (n : ℕ). n ∷ text) same))

-- ---- the scheme

abbrev pub IsUriText : List ℕ → Type 0
IsUriText text = (parts : List Part) × IsUri parts text

-- after a prefix of the scheme the next octet of it comes
scheme_next : (prefix : List ℕ) (next : ℕ) (others t : List ℕ) → codes "ndn:" ≡ 110 ∷ prefix ++ next ∷ others
    → IsUriText (110 ∷ prefix ++ t) → (path : List ℕ) × (t ≡ next ∷ others ++ path)
scheme_next prefix next others t e m =
    elim m.1 [
      | inl a ↦ let r = rooted_begins 0 m.0 (110 ∷ prefix ++ t) a in let g = r.1 in absurd cc
      | inr a ↦
          let whole : prefix ++ t ≡ prefix ++ (next ∷ others ++ a.0) =
          let both : 110 ∷ (prefix ++ t) ≡ 110 ∷ (prefix ++ (next ∷ others ++ a.0)) =
          a.1
          ∙ ap (λ (x : List ℕ). x ++ a.0) e
          ∙ ap (λ (x : List ℕ). 110 ∷ x) (append_assoc prefix (next ∷ others) a.0) in
          cc in
          (a.0, append_cancel_left prefix t (next ∷ others ++ a.0) whole)
    ]

scheme_goes : (prefix : List ℕ) (next : ℕ) (others : List ℕ) → codes "ndn:" ≡ 110 ∷ prefix ++ next ∷ others
    → (more : List ℕ) × IsUriText (110 ∷ prefix ++ more)
scheme_goes prefix next others e = (
  next ∷ others ++ 47 ∷ [],
  (
    [],
    inr (
      47 ∷ [],
      ap (λ (x : List ℕ). 110 ∷ x) (sym (append_assoc prefix (next ∷ others) (47 ∷ [])))
          ∙ ap (λ (x : List ℕ). x ++ 47 ∷ []) (sym e),
      refl,
    ),
  ),
)

scheme_rest : (prefix : List ℕ) (next : ℕ) (others rest : List ℕ) → codes "ndn:" ≡ 110 ∷ prefix ++ next ∷ others
    → BeginsWithAnother next rest → LeavesLanguage (λ t. IsUriText (110 ∷ prefix ++ t)) rest 0
scheme_rest prefix next others [] e other =
    Leaves-end (λ t. IsUriText (110 ∷ prefix ++ t)) (scheme_goes prefix next others e)
    (λ m. let n = scheme_next prefix next others [] e m in let g = n.1 in absurd cc)
scheme_rest prefix next others (c ∷ rest) e other =
    Leaves-first (λ t. IsUriText (110 ∷ prefix ++ t)) c rest (scheme_goes prefix next others e) (λ more m.
    let n = scheme_next prefix next others (c ∷ more) e m in let g = n.1 in let same : c ≡ next = cc in other same)

scheme_leaves : (prefix : List ℕ) (next : ℕ) (others rest text : List ℕ) → codes "ndn:" ≡ 110 ∷ prefix ++ next ∷ others
    → BeginsWithAnother next rest → text ≡ 110 ∷ prefix ++ rest
    → LeavesLanguage IsUriText text (length (110 ∷ prefix) + 0)
scheme_leaves prefix next others rest text e other is =
    let P : List ℕ → Type 0 = λ t. LeavesLanguage IsUriText t (length (110 ∷ prefix) + 0) in
    subst P (sym is)
    (Leaves-after (λ t. IsUriText (110 ∷ prefix ++ t)) IsUriText (110 ∷ prefix) rest 0 (λ t m. m) (λ t m. m)
    (scheme_rest prefix next others rest e other))

-- a prefix of the scheme that breaks off
pub scheme-fails : (text : List ℕ) (place : ℕ) → 0 < place → BreaksOff (codes "ndn:") text place
    → LeavesLanguage IsUriText text place
scheme-fails text zero some b = absurd (omega arith)
scheme-fails text (suc zero) some b = scheme_leaves [] 100 (110 ∷ 58 ∷ []) b.0 text refl b.3 b.1
scheme-fails text (suc (suc zero)) some b = scheme_leaves (100 ∷ []) 110 (58 ∷ []) b.0 text refl b.3 b.1
scheme-fails text (suc (suc (suc zero))) some b = scheme_leaves (100 ∷ 110 ∷ []) 58 [] b.0 text refl b.3 b.1
scheme-fails text (suc (suc (suc (suc n)))) some b = absurd (omega (arith, b.2))

-- a text after the scheme
pub scheme-reads : {X : Type 0} (view : X → List Part) (path text : List ℕ) (r : Result X NameFault)
    → text ≡ codes "ndn:" ++ path → ReadsText view (IsRooted 4) 4 path r → ReadsText view IsUri 0 text r
scheme-reads view path text (Ok x) e h = inr (path, e, h)
scheme-reads view path text (Err f) e h = fails f h where
  path_of : (t : List ℕ) → IsUriText (codes "ndn:" ++ t) → IsSomeRooted 4 t
  path_of t m =
      elim m.1 [
        | inl a ↦ let s = rooted_begins 0 m.0 (codes "ndn:" ++ t) a in let g = s.1 in absurd cc
        | inr a ↦ (m.0, subst (IsRooted 4 m.0) (sym (append_cancel_left (codes "ndn:") t a.0 a.1)) a.2)
      ]

  fails : (g : NameFault) → FailsIn (IsRooted 4) 4 path g → FailsIn IsUri 0 text g
  fails (BadUri place) k =
      let P : List ℕ → Type 0 = λ t. LeavesLanguage IsUriText t (4 + k.0) in (
        4 + k.0,
        omega (arith, k.1),
        subst P (sym e)
            (Leaves-after (IsSomeRooted 4) IsUriText (codes "ndn:") path k.0 (λ t m. (m.0, inr (t, refl, m.1))) path_of
            k.2),
      )
  fails NoMemory k = k
  fails NameTooLong k = k
  fails (Tlv d) k = k
  fails (BadComponent p) k = k
  fails (BadDigestLength p) k = k

-- a text without it
pub plain-reads : {X : Type 0} (view : X → List Part) (text : List ℕ) (r : Result X NameFault)
    → BeginsWithAnother 110 text → ReadsText view (IsRooted 0) 0 text r → ReadsText view IsUri 0 text r
plain-reads view text (Ok x) other h = inl h
plain-reads view text (Err f) other h = fails f h where
  no_scheme : (t path : List ℕ) → BeginsWithAnother 110 t → t ≡ codes "ndn:" ++ path → ⊥
  no_scheme [] path o e = absurd cc
  no_scheme (c ∷ t) path o e = let same : c ≡ 110 = cc in o same

  prefix_other : (t more : List ℕ) (k : ℕ) → k < length t → BeginsWithAnother 110 t
      → BeginsWithAnother 110 (take (k + 1) t ++ more)
  prefix_other [] more k lt o = absurd (omega arith)
  prefix_other (c ∷ t) more k lt o = rw add-one o

  leaves : (k : ℕ) → LeavesLanguage (IsSomeRooted 0) text k → LeavesLanguage IsUriText text k
  leaves k l = record {
    within = l.within;
    goes_on = (l.goes_on.0, (l.goes_on.1.0, inl l.goes_on.1.1));
    breaks = λ lt more m. elim m.1 [
      | inl a ↦ l.breaks lt more (m.0, a)
      | inr a ↦ no_scheme (take (k + 1) text ++ more) a.0 (prefix_other text more k lt other) a.1
    ];
    ends = λ m. elim m.1 [ inl a ↦ l.ends (m.0, a) | inr a ↦ no_scheme text a.0 other a.1 ];
  }

  fails : (g : NameFault) → FailsIn (IsRooted 0) 0 text g → FailsIn IsUri 0 text g
  fails (BadUri place) k = (k.0, k.1, leaves k.0 k.2)
  fails NoMemory k = k
  fails NameTooLong k = k
  fails (Tlv d) k = k
  fails (BadComponent p) k = k
  fails (BadDigestLength p) k = k

-- ---- a text that begins with a slash

pub rooted-reads : {X : Type 0} (view : X → List Part) (at : ℕ) (path text : List ℕ) (r : Result X NameFault)
    → text ≡ 47 ∷ path → 0 < length path → ReadsText view (IsPath at) at (47 ∷ path) r
    → ReadsText view (IsRooted at) at text r
rooted-reads view at path text (Ok x) e some h = subst (IsRooted at (view x)) (sym e) (rooted-path at (view x) path h)
rooted-reads view at path text (Err f) e some h =
    let P : List ℕ → Type 0 = λ t. FailsIn (IsRooted at) at t f in subst P (sym e) (rooted-fails at path f some h)

pub otherwise : (at : ℕ) (text : List ℕ) → BeginsWithAnother 47 text → LeavesLanguage (IsSomeRooted at) text 0
otherwise at text other =
    no_slash at text
    (λ rest e. let P : List ℕ → Type 0 = λ t. BeginsWithAnother 47 t in let k = subst P e other in k refl)
