-- Which names a packet satisfies, by the octets of the names.
use Rattle.std.proofs.Common.{◌≡◌, ℕ, Bool, ◌&&◌, ◌⊎◌, inl, inr, List, [], ◌∷◌, ◌++◌, length, take}
use Rattle.std.proofs.Common.{Ok, refl, sym, ap, ◌∙◌, arith}
use Rattle.std.specs.Prelude.{IsTrue}
use Rattle.std.specs.Bool.{Decides}
use Rattle.std.proofs.lemmas.Bool.{or_left, or_right, or_cases, and_parts, and_from}
use Rattle.std.proofs.lemmas.Bool.Decides.{same_from_decides}
use Rattle.std.specs.Ordering.{is_eq}
use Rattle.std.proofs.lemmas.Cmp.{tied_itself}
use Rattle.sha2.specs.Sha256.{sha256}
use Rattle.sha2.proofs.Facts256.{length-sha256}
use Rattle.ndn_tlv.specs.Spelling.{number, element}
use Rattle.ndn_name.specs.Names.{Component, IsName, IsComponent, encoding, full_name}
use Rattle.ndn_name.specs.CanonicalOrder.{IsPrefix, canonical_cmp, canonical_cmp_total}
use Rattle.ndn_name.proofs.Encodings.{encoding-push, encoding-same, IsName-append}
use Rattle.ndn_name.proofs.Prefixes.{canonical_cmp-equal}
use Rattle.ndn_data.specs.Data.{Data, data_of, Satisfies}
use Rattle.ndn_interest.proofs.DigestLemmas.{IsOctets-sha256}
use Rattle.sorted_lists.proofs.Orders.{equal_from_is_eq}
use Rattle.repo_store.specs.Served.{is_same_name, is_prefix, asks_for, asks_for_read, satisfies}

-- ---- tests of names

pub same_name-Decides : (a b : List Component) → Decides (is_same_name a b) (a ≡ b)
same_name-Decides a b = (
  λ yes. canonical_cmp-equal a b (equal_from_is_eq (canonical_cmp a b) yes),
  λ same. ap is_eq (ap (canonical_cmp a) (sym same) ∙ tied_itself canonical_cmp_total a),
)

pub prefix-Decides : (a b : List Component) → Decides (is_prefix a b) (IsPrefix a b)
prefix-Decides a b = same_name-Decides (take (length a) b) a

pub asks_for-Decides : (name : List Component) (p : Bool) (digest : List ℕ) (d : Data)
    → Decides (asks_for name p digest d) (Satisfies name p digest d)
asks_for-Decides name p digest d =
    let full = full_name d.name digest in
    let same = same_name-Decides name d.name in
    let whole = same_name-Decides name full in
    let leading = prefix-Decides name full in (
      λ yes. elim (or_cases (is_same_name name d.name) _ yes) [
        | inl a ↦ inl (same.0 a)
        | inr b ↦
            elim (or_cases (is_same_name name full) (p && is_prefix name full) b) [
              | inl a ↦ inr (inl (whole.0 a))
              | inr e ↦ let both = and_parts p (is_prefix name full) e in inr (inr (both.0, leading.0 both.1))
            ]
      ],
      λ asked. elim asked [
        | inl a ↦ or_left (is_same_name name d.name) _ (same.1 a)
        | inr b ↦
            or_right (is_same_name name d.name) _ (elim b [
              | inl a ↦ or_left (is_same_name name full) _ (whole.1 a)
              | inr e ↦ or_right (is_same_name name full) _ (and_from p (is_prefix name full) e.0 (leading.1 e.1))
            ])
      ],
    )

-- ---- a front of a full name

prefix_of_full : (name own : List Component) (digest : List ℕ) → IsPrefix name (full_name own digest)
    → IsPrefix name own ⊎ (name ≡ full_name own digest)
prefix_of_full [] own digest h = inl refl
prefix_of_full (c ∷ []) [] digest h = inr (sym h)
prefix_of_full (c ∷ d ∷ name) [] digest h = absurd cc
prefix_of_full (c ∷ name) (d ∷ own) digest h =
    let one : d ≡ c = cc in
    let leading : take (length name) (full_name own digest) ≡ name = cc in
    elim (prefix_of_full name own digest leading) [
      | inl f ↦ inl (ap (λ (n : List Component). d ∷ n) f ∙ ap (λ (x : Component). x ∷ name) one)
      | inr e ↦ inr (ap (λ (n : List Component). c ∷ n) e ∙ ap (λ (x : Component). x ∷ full_name own digest) (sym one))
    ]

prefix_more : (name own : List Component) (digest : List ℕ) → IsPrefix name own → IsPrefix name (full_name own digest)
prefix_more [] own digest h = refl
prefix_more (c ∷ name) [] digest h = absurd cc
prefix_more (c ∷ name) (d ∷ own) digest h =
    let one : d ≡ c = cc in
    let leading : take (length name) own ≡ name = cc in
    ap (λ (n : List Component). d ∷ n) (prefix_more name own digest leading) ∙ ap (λ (x : Component). x ∷ name) one

-- ---- what the octets of the names say

-- the packet's name is the Interest's; or begins with it where that is allowed; or the full name is the Interest's
abbrev pub Asked : List Component → Bool → List ℕ → Data → Type 0
Asked name p digest d = (name ≡ d.name) ⊎ ((IsTrue p × IsPrefix name d.name) ⊎ (name ≡ full_name d.name digest))

pub asked-satisfies : (name : List Component) (p : Bool) (digest : List ℕ) (d : Data) → Asked name p digest d
    → Satisfies name p digest d
asked-satisfies name p digest d (inl a) = inl a
asked-satisfies name p digest d (inr (inl b)) = inr (inr (b.0, prefix_more name d.name digest b.1))
asked-satisfies name p digest d (inr (inr e)) = inr (inl e)

pub satisfies-asked : (name : List Component) (p : Bool) (digest : List ℕ) (d : Data) → Satisfies name p digest d
    → Asked name p digest d
satisfies-asked name p digest d (inl a) = inl a
satisfies-asked name p digest d (inr (inl e)) = inr (inr e)
satisfies-asked name p digest d (inr (inr b)) =
    elim (prefix_of_full name d.name digest b.1) [ inl f ↦ inr (inl (b.0, f)) | inr e ↦ inr (inr e) ]

-- what a test says that decides it
pub satisfied : (name : List Component) (p : Bool) (octets : List ℕ) (d : Data) (r : Bool) → data_of octets ≡ Ok d
    → Decides r (Asked name p (sha256 octets) d) → r ≡ satisfies name p octets
unfolding satisfies
satisfied name p octets d r read decides =
    let digest = sha256 octets in
    let asks = asks_for-Decides name p digest d in
    let same =
    same_from_decides r (asks_for name p digest d) decides
    ((λ yes. satisfies-asked name p digest d (asks.0 yes)), λ asked. asks.1 (asked-satisfies name p digest d asked)) in
    same ∙ ap (asks_for_read name p digest) (sym read)

-- ---- full names as octets

digest_head : number 1 ++ number 32 ≡ 1 ∷ 32 ∷ []
unfolding number
digest_head = refl

pub digest_element : (digest : List ℕ) → length digest ≡ 32 → element 1 digest ≡ (1 ∷ 32 ∷ []) ++ digest
digest_element digest long =
    ap (λ (n : ℕ). (number 1 ++ number n) ++ digest) long ∙ ap (λ (h : List ℕ). h ++ digest) digest_head

digest_component : (octets : List ℕ) → IsComponent (1, sha256 octets)
digest_component octets =
    record {
      above = omega arith;
      below = omega arith;
      digest = λ h. length-sha256 octets;
      long = omega (arith, length-sha256 octets);
      octets = IsOctets-sha256 octets;
    }

pub full-octets : (name own : List Component) (octets : List ℕ) → IsName name → IsName own
    → encoding name ≡ encoding own ++ element 1 (sha256 octets) → name ≡ full_name own (sha256 octets)
full-octets name own octets h k e =
    encoding-same name (full_name own (sha256 octets)) h
    (IsName-append own ((1, sha256 octets) ∷ []) k (digest_component octets, tt))
    (e ∙ sym (encoding-push own (1, sha256 octets)))

pub octets-full : (name own : List Component) (octets : List ℕ) → name ≡ full_name own (sha256 octets)
    → encoding name ≡ encoding own ++ element 1 (sha256 octets)
octets-full name own octets e = ap encoding e ∙ encoding-push own (1, sha256 octets)
