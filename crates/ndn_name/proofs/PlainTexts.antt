-- Texts of names without digests.
use Rattle.std.proofs.Common.{◌≡◌, ◌≢◌, ℕ, ◌≤◌, Bool, true, false, cond, leb, List, [], ◌∷◌, length, Some, None, Result}
use Rattle.std.proofs.Common.{Ok, Err, refl, sym, ap, subst, ◌∙◌, ◌⊎◌, inl, inr}
use Rattle.std.specs.List.{list_any}
use Rattle.std.proofs.lemmas.Bool.{or_parts}
use Rattle.std.proofs.lemmas.Option.{option_and_then_some, none-some, same_Some}
use Rattle.ndn_name.specs.declared.name_fault.NameFault.{NameFault}
use Rattle.ndn_name.specs.declared.name_fault.NameFault.TheVariants.{Tlv, BadComponent, BadDigestLength, NameTooLong}
use Rattle.ndn_name.specs.declared.name_fault.NameFault.TheVariants.{BadUri, NoMemory}
use Rattle.ndn_name.specs.Names.{Component, encoding, name_limit}
use Rattle.ndn_name.specs.Uri.{Part, name_of_parts}
use Rattle.ndn_name.specs.UriVerdict.{first_bad_digest, IsUriVerdict}
use Rattle.ndn_name.specs.UriText.{is_digest, name_of_text, plain_name, plain_name_of_text}
use Rattle.ndn_name.proofs.ComputedNames.{texts-computed}
use Rattle.ndn_name.proofs.OneAnswer.{one-answer}

pub record IsPlain (text : List ℕ) (name : List Component) : Type 0 where
  pub computed : name_of_text text ≡ Some name
  pub no_digest : list_any is_digest name ≡ false

plain_cases : (b : Bool) (n name : List Component) → cond b None (Some n) ≡ Some name → (b ≡ false) × (n ≡ name)
plain_cases true n name h = absurd (none-some name h)
plain_cases false n name h = (refl, same_Some n name h)

pub is_plain : (text : List ℕ) (name : List Component) → plain_name_of_text text ≡ Some name → IsPlain text name
is_plain text name h =
    option_and_then_some plain_name (name_of_text text) name h
    (λ n e k.
    let p = plain_cases (list_any is_digest n) n name k in
    let P : List Component → Type 0 = λ x. IsPlain text x in
    subst P p.1 (record { computed = e; no_digest = p.0 }))

no_bad_digest : (parts : List Part) → list_any is_digest (name_of_parts parts) ≡ false → first_bad_digest parts ≡ None
no_bad_digest [] h = refl
no_bad_digest (part ∷ parts) h =
    let p = or_parts (leb part.1.0 2) (list_any is_digest (name_of_parts parts)) h in
    rw p.0 (no_bad_digest parts p.1)

-- what such a text is, where the name is within the limit
pub answer-plain : (text : List ℕ) (r : Result (List Component) NameFault) (name : List Component)
    → IsUriVerdict text r → plain_name_of_text text ≡ Some name → length (encoding name) ≤ name_limit → r ≡ Ok name
answer-plain text r name answer h short =
    let p = is_plain text name h in
    let uri = (texts-computed text name).0 p.computed in
    let none : list_any is_digest (name_of_parts uri.0) ≡ false =
    ap (list_any is_digest) (sym uri.2) ∙ p.no_digest in
    one-answer text r (Ok name) answer (uri.0, uri.1, no_bad_digest uri.0 none, short, uri.2)

pub plain-answered : (text : List ℕ) (r : Result (List Component) NameFault)
    → (r ≢ Err NoMemory → IsUriVerdict text r) → (name : List Component)
    → plain_name_of_text text ≡ Some name → length (encoding name) ≤ name_limit
    → (r ≡ Ok name) ⊎ (r ≡ Err NoMemory)
plain-answered text (Err NoMemory) answer name h short = inr refl
plain-answered text (Ok found) answer name h short = inl (answer-plain text (Ok found) name (answer (λ e. cc)) h short)
plain-answered text (Err NameTooLong) answer name h short =
    inl (answer-plain text (Err NameTooLong) name (answer (λ e. cc)) h short)
plain-answered text (Err (BadUri place)) answer name h short =
    inl (answer-plain text (Err (BadUri place)) name (answer (λ e. cc)) h short)
plain-answered text (Err (BadDigestLength at)) answer name h short =
    inl (answer-plain text (Err (BadDigestLength at)) name (answer (λ e. cc)) h short)
plain-answered text (Err (Tlv f)) answer name h short =
    inl (answer-plain text (Err (Tlv f)) name (answer (λ e. cc)) h short)
plain-answered text (Err (BadComponent at)) answer name h short =
    inl (answer-plain text (Err (BadComponent at)) name (answer (λ e. cc)) h short)
