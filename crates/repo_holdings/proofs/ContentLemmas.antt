-- The contents of a publication's segments, one after another.
use Rattle.std.proofs.Common.{Bor, Option, Some, None, option_map, unwrap_or, ◌≡◌, ℕ, ◌+◌, List, [], ◌∷◌, ◌++◌, refl}
use Rattle.std.proofs.Common.{sym, ap, ◌∙◌, zero, suc, add-one, append_assoc, length, Result, Ok, Err, arith}
use Rattle.std.specs.Prelude.{◌≤◌}
use Rattle.std.specs.List.{flat_map}
use Rattle.sorted_lists.specs.Range.{numbers_from}
use Rattle.ndn_tlv.specs.Elements.{elements, elements_within}
use Rattle.ndn_name.specs.declared.fault.PacketFault.{PacketFault}
use Rattle.ndn_data.specs.Data.{Data, data_of}
use Rattle.ndn_data.proofs.ContentLemmas.{data_content_short}
use Rattle.repo_object.specs.Packets.{content_octets, packet_content}
use Rattle.repo_plan.specs.Parts.{Pair}
use Rattle.repo_holdings.specs.Records.{Packet}
use Rattle.repo_holdings.specs.Listed.{stored_at, stored_content, contents_from}

-- the content of a packet that was read
pub content_of_read : (octets : List ℕ) (d : Data) → data_of octets ≡ Ok d → packet_content octets ≡ d.content
unfolding packet_content
content_of_read octets d read = ap content_octets read

pub content_of_unread : (octets : List ℕ) (fault : PacketFault) → data_of octets ≡ Err fault
    → packet_content octets ≡ []
unfolding packet_content
content_of_unread octets fault unread = ap content_octets unread

pub content_short : (octets : List ℕ) → length (packet_content octets) ≤ 8800
content_short octets = go (data_of octets) refl where
  go : (r : Result Data PacketFault) → data_of octets ≡ r → length (packet_content octets) ≤ 8800
  go (Ok d) read =
      omega (arith, data_content_short octets d read, ap (λ (o : List ℕ). length o) (content_of_read octets d read))
  go (Err fault) unread = omega (arith, ap (λ (o : List ℕ). length o) (content_of_unread octets fault unread))

pub stored_short : (packets : List Packet) (pair : Pair) (x : ℕ) → length (stored_content packets pair x) ≤ 8800
stored_short packets pair x = content_short (unwrap_or (stored_at packets pair x) [])

-- no octets are no packet
nothing_read : packet_content [] ≡ []
unfolding packet_content elements elements_within
nothing_read = refl

pub content_or_nothing : (o : Option (List ℕ))
    → unwrap_or (option_map packet_content o) [] ≡ packet_content (unwrap_or o [])
content_or_nothing None = sym nothing_read
content_or_nothing (Some octets) = refl

pub numbers_last : (first n : ℕ) → numbers_from first (suc n) ≡ numbers_from first n ++ (first + n) ∷ []
numbers_last first zero = let e : first ≡ first + 0 = omega arith in ap (λ (k : ℕ). k ∷ []) e
numbers_last first (suc n) =
    let e : (first + 1) + n ≡ first + suc n = omega arith in
    ap (λ (rest : List ℕ). first ∷ rest)
    (numbers_last (first + 1) n ∙ ap (λ (k : ℕ). numbers_from (first + 1) n ++ k ∷ []) e)

pub flat_append : {A B : Type 0} (f : A → List B) (xs ys : List A)
    → flat_map f (xs ++ ys) ≡ flat_map f xs ++ flat_map f ys
flat_append f [] ys = refl
flat_append {B = B} f (x ∷ xs) ys =
    ap (λ (rest : List B). f x ++ rest) (flat_append f xs ys) ∙ sym (append_assoc (f x) (flat_map f xs) (flat_map f ys))

pub append_nothing : {A : Type 0} (xs : List A) → xs ++ [] ≡ xs
append_nothing [] = refl
append_nothing {A = A} (x ∷ xs) = ap (λ (rest : List A). x ∷ rest) (append_nothing xs)

-- one content more
pub joined_more : (packets : List Packet) (pair : Pair) (first n : ℕ)
    → contents_from packets pair first (n + 1)
    ≡ contents_from packets pair first n ++ stored_content packets pair (first + n)
joined_more packets pair first n =
    ap (λ (m : ℕ). contents_from packets pair first m) (add-one n)
    ∙ ap (flat_map (stored_content packets pair)) (numbers_last first n)
    ∙ flat_append (stored_content packets pair) (numbers_from first n) ((first + n) ∷ [])
    ∙ ap (λ (rest : List ℕ). contents_from packets pair first n ++ rest)
    (append_nothing (stored_content packets pair (first + n)))

-- what is lent where nothing is stored is nothing
pub lent_or : (o : Option (Bor (List ℕ))) (d : Bor (List ℕ))
    → (unwrap_or o d).now ≡ unwrap_or (option_map (λ b. b.now) o) d.now
lent_or None d = refl
lent_or (Some b) d = refl
