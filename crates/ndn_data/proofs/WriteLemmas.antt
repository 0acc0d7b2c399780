-- The octets of a packet that is written, and how many they are.
use Rattle.std.proofs.Common.{◌≡◌, ℕ, ◌+◌, List, [], ◌++◌, length, length-append, drop, drop_at, refl, ap, ◌∙◌}
use Rattle.std.proofs.Common.{append_assoc, arith}
use Rattle.std.proofs.lemmas.List.{append-nil}
use Rattle.sha2.proofs.Facts256.{length-sha256}
use Rattle.ndn_tlv.specs.Spelling.{head, element}
use Rattle.ndn_sign.specs.Hmac.{hmac}
use Rattle.ndn_packet.proofs.Lengths.{length-element, length-digest_element}
use Rattle.ndn_data.specs.WrittenData.{signed}

pub length-mac_element : (typ : ℕ) (key message : List ℕ) → length (element 0x17 (hmac key message)) ≡ 34
length-mac_element typ key message = length-digest_element 0x17 (hmac key message) (omega arith) (length-sha256 _)

pub length-signed : (portion key : List ℕ)
    → length (signed portion key) ≡ length (head 0x06 (length portion + 34)) + (length portion + 34)
length-signed portion key =
    let body : length (portion ++ element 0x17 (hmac key portion)) ≡ length portion + 34 =
    omega (arith, length-append portion (element 0x17 (hmac key portion)), length-mac_element 0x17 key portion) in
    length-element 0x06 (portion ++ element 0x17 (hmac key portion)) ∙ ap (λ (n : ℕ). length (head 0x06 n) + n) body

-- a packet that is written in its parts
pub writes : (portion key mac begun filled whole part : List ℕ) (body : ℕ)
    → body ≡ length portion + 34 → begun ≡ head 0x06 body → filled ≡ begun ++ portion
    → part ≡ drop (length begun) filled
    → mac ≡ hmac key (part ++ []) → whole ≡ filled ++ element 0x17 mac → whole ≡ signed portion key
writes portion key mac begun filled whole part body long begins fills parts macs ends =
    let same : part ≡ portion = parts ∙ ap (drop (length begun)) fills ∙ drop_at begun portion (length begun) refl in
    let code : mac ≡ hmac key portion = macs ∙ ap (hmac key) (append-nil part ∙ same) in
    let value = portion ++ element 0x17 (hmac key portion) in
    let size : body ≡ length value =
    omega (arith, length-append portion (element 0x17 (hmac key portion)), length-mac_element 0x17 key portion) in
    ends
    ∙ ap (λ (f : List ℕ). f ++ element 0x17 mac)
    (fills ∙ ap (λ (b : List ℕ). b ++ portion) (begins ∙ ap (head 0x06) size))
    ∙ ap (λ (m : List ℕ). (head 0x06 (length value) ++ portion) ++ element 0x17 m) code
    ∙ append_assoc (head 0x06 (length value)) portion (element 0x17 (hmac key portion))
