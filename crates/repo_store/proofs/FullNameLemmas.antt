-- What is found by a full name: a name and a component with a digest.
use Rattle.std.proofs.Common.{◌≡◌, ◌≢◌, ℕ, ◌+◌, ◌<◌, true, List, [], ◌∷◌, ◌++◌, length}
use Rattle.std.proofs.Common.{length-append, take, drop, Option, Some, None, refl, sym, ap, ◌∙◌, arith}
use Rattle.std.specs.Prelude.{◌&&◌, ◌==◌}
use Rattle.std.specs.Bool.{Decides, nat_eq}
use Rattle.std.specs.Cmp.{unsigned_Decides}
use Rattle.std.specs.Cmp.Lexicographic.{pointwise}
use Rattle.std.proofs.lemmas.Bool.{true≢false, and_parts, and_from, eq-eqb}
use Rattle.std.proofs.lemmas.List.{take-append-drop, append_cancel_left}
use Rattle.std.proofs.lemmas.Slice.Eq.{slice_eq-Decides}
use Rattle.std.specs.Cmp.{both_ways}
use Rattle.sha2.specs.Sha256.{sha256}
use Rattle.sha2.proofs.Facts256.{length-sha256}
use Rattle.ndn_tlv.specs.Spelling.{element}
use Rattle.sorted_lists.proofs.Members.{same_itself}
use Rattle.sorted_lists.proofs.LeastOnes.{first_of_same}
use Rattle.repo_plan.proofs.Orders.{exact_parts}
use Rattle.repo_store.specs.declared.packet_table.Sought.{Sought}
use Rattle.repo_object.specs.Packets.{packet_name}
use Rattle.repo_store.specs.PacketTable.{fingerprint_of, Slots, at, octets_at, Stored}
use Rattle.repo_store.specs.Slots.{AreSlots, is_full_name, has_full_name, is_sought, is_sought_at}
use Rattle.repo_store.specs.Indexes.{held_part, IsFirstOf}
use Rattle.repo_store.proofs.NameLemmas.{digest_element}
use Rattle.repo_store.proofs.SlotLemmas.{octets_of}

append_both : (a b c d : List ℕ) → length b ≡ length d → a ++ b ≡ c ++ d → (a ≡ c) × (b ≡ d)
append_both [] b [] d l e = (refl, e)
append_both [] b (x ∷ c) d l e = absurd (omega (arith, ap length e, length-append c d))
append_both (x ∷ a) b [] d l e = absurd (omega (arith, ap length e, length-append a b))
append_both (x ∷ a) b (y ∷ c) d l e =
    let one : x ≡ y = cc in
    let more : a ++ b ≡ c ++ d = cc in
    let rest : (a ≡ c) × (b ≡ d) = append_both a b c d l more in
    ((ap (λ (n : List ℕ). x ∷ n) rest.0 ∙ ap (λ (z : ℕ). z ∷ c) one), rest.1)

pub taken_and_rest : (n : ℕ) (xs prefix back : List ℕ) → prefix ≡ take n xs → back ≡ drop n xs → xs ≡ prefix ++ back
taken_and_rest n xs prefix back p q = sym ((λ i. p i ++ q i) ∙ take-append-drop n xs)

-- how long a full name is
full_length : (octets : List ℕ)
    → length (packet_name octets ++ element 1 (sha256 octets)) ≡ length (packet_name octets) + 34
full_length octets =
    let last = ap length (digest_element (sha256 octets) (length-sha256 octets)) in
    omega (
      arith,
      last,
      length-append (packet_name octets) (element 1 (sha256 octets)),
      length-append (1 ∷ 32 ∷ []) (sha256 octets),
      length-sha256 octets,
    )

is_full-Decides : (asked octets : List ℕ)
    → Decides (is_full_name asked (Some octets)) (asked ≡ packet_name octets ++ element 1 (sha256 octets))
is_full-Decides asked octets =
    slice_eq-Decides unsigned_Decides asked (packet_name octets ++ element 1 (sha256 octets)) _ refl

module _ (slots : Slots) (held : List Stored) (asked : List ℕ) where
  -- nothing has a full name that none is
  none_has : ((octets : List ℕ) → asked ≢ packet_name octets ++ element 1 (sha256 octets))
      → IsFirstOf held (has_full_name slots asked) None
  none_has none h p = go (at slots h.1) p.1 where
    go : (o : Option (List ℕ)) → is_full_name asked o ≡ true → ⊥
    go None e = true≢false (sym e)
    go (Some octets) e = none octets ((is_full-Decides asked octets).0 e)

  pub short_lacks : length asked < 34 → IsFirstOf held (has_full_name slots asked) None
  short_lacks l = none_has (λ octets e. absurd (omega (arith, ap length e, full_length octets)))

  -- what ends in another component is no full name
  pub other_lacks : (name last : List ℕ) → asked ≡ name ++ last → length last ≡ 34
      → ((rest : List ℕ) → last ≢ (1 ∷ 32 ∷ []) ++ rest) → IsFirstOf held (has_full_name slots asked) None
  other_lacks name last is l other = none_has (λ octets e.
      let full =
      e ∙ ap (λ (x : List ℕ). packet_name octets ++ x) (digest_element (sha256 octets) (length-sha256 octets)) in
      let both =
      append_both name last (packet_name octets) ((1 ∷ 32 ∷ []) ++ sha256 octets)
      (omega (arith, l, length-append (1 ∷ 32 ∷ []) (sha256 octets), length-sha256 octets)) (sym is ∙ full) in
      other (sha256 octets) both.1)

  module _ (sought : Sought) (name digest : List ℕ) (is : asked ≡ name ++ ((1 ∷ 32 ∷ []) ++ digest))
      (l : length digest ≡ 32)
      (seeks : (octets : List ℕ) → is_sought sought octets
      ≡ (pointwise nat_eq (sha256 octets) digest && pointwise nat_eq (packet_name octets) name)) where
    -- its digest and its name are those of the full name
    agrees : (octets : List ℕ)
        → (fingerprint_of (sha256 octets) == fingerprint_of digest && is_sought sought octets)
        ≡ is_full_name asked (Some octets)
    agrees octets = both_ways _ _ there back where
      own_digest : Decides (pointwise nat_eq (sha256 octets) digest) (sha256 octets ≡ digest)
      own_digest = slice_eq-Decides unsigned_Decides (sha256 octets) digest _ refl

      own_name : Decides (pointwise nat_eq (packet_name octets) name) (packet_name octets ≡ name)
      own_name = slice_eq-Decides unsigned_Decides (packet_name octets) name _ refl

      spelled : element 1 (sha256 octets) ≡ (1 ∷ 32 ∷ []) ++ sha256 octets
      spelled = digest_element (sha256 octets) (length-sha256 octets)

      there : (fingerprint_of (sha256 octets) == fingerprint_of digest && is_sought sought octets) ≡ true
          → is_full_name asked (Some octets) ≡ true
      there e =
          let found = (and_parts (fingerprint_of (sha256 octets) == fingerprint_of digest) (is_sought sought octets)
          e).1 in
          let both = and_parts _ _ (sym (seeks octets) ∙ found) in
          (is_full-Decides asked octets).1
          (is
          ∙ ap (λ (x : List ℕ). x ++ ((1 ∷ 32 ∷ []) ++ digest)) (sym (own_name.0 both.1))
          ∙ ap (λ (x : List ℕ). packet_name octets ++ ((1 ∷ 32 ∷ []) ++ x)) (sym (own_digest.0 both.0))
          ∙ ap (λ (x : List ℕ). packet_name octets ++ x) (sym spelled))

      back : is_full_name asked (Some octets) ≡ true
          → (fingerprint_of (sha256 octets) == fingerprint_of digest && is_sought sought octets) ≡ true
      back e =
          let full =
          sym is ∙ (is_full-Decides asked octets).0 e ∙ ap (λ (x : List ℕ). packet_name octets ++ x) spelled in
          let both =
          append_both name ((1 ∷ 32 ∷ []) ++ digest) (packet_name octets) ((1 ∷ 32 ∷ []) ++ sha256 octets)
          (omega (
            arith,
            length-append (1 ∷ 32 ∷ []) digest,
            length-append (1 ∷ 32 ∷ []) (sha256 octets),
            length-sha256 octets,
            l,
          )) full in
          let same : sha256 octets ≡ digest = sym (append_cancel_left (1 ∷ 32 ∷ []) digest (sha256 octets) both.1) in
          and_from (fingerprint_of (sha256 octets) == fingerprint_of digest) (is_sought sought octets)
          (eq-eqb (fingerprint_of (sha256 octets)) (fingerprint_of digest) (ap fingerprint_of same))
          (seeks octets ∙ and_from _ _ (own_digest.1 same) (own_name.1 (sym both.0)))

    pub full_found : AreSlots slots held → (r : Option Stored)
        → IsFirstOf held (is_sought_at slots (fingerprint_of digest) sought) r
        → IsFirstOf held (has_full_name slots asked) r
    full_found are r first =
        first_of_same exact_parts held_part held held (is_sought_at slots (fingerprint_of digest) sought)
        (has_full_name slots asked) (same_itself held) (λ h i.
        agrees (octets_at slots h.1)
        ∙ ap (is_full_name asked) (sym (octets_of (at slots h.1) (are.kept h i)))) r first
