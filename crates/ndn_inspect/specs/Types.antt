-- The types of elements that have names (NDN Packet Format 0.3, "TLV-TYPE numbers").
use Rattle.std.specs.Prelude.{ℕ, Bool, false, List, [], ◌∷◌, codes, ◌==◌, ◌||◌, if◌then◌else◌}
use Rattle.ndn_tlv.specs.Types.{ImplicitSha256DigestComponent, ParametersSha256DigestComponent, Interest, Data, Name}
use Rattle.ndn_tlv.specs.Types.{GenericNameComponent, Nonce, InterestLifetime, MustBeFresh, MetaInfo, Content}
use Rattle.ndn_tlv.specs.Types.{SignatureInfo, SignatureValue, ContentType, FreshnessPeriod, FinalBlockId}
use Rattle.ndn_tlv.specs.Types.{SignatureType, KeyLocator, KeyDigest, ForwardingHint, CanBePrefix, HopLimit}
use Rattle.ndn_tlv.specs.Types.{ApplicationParameters, InterestSignatureInfo, InterestSignatureValue}
use Rattle.ndn_tlv.specs.Types.{SegmentNameComponent, VersionNameComponent, SequenceNumNameComponent}

-- Types with their names.
abbrev pub type_names : List (ℕ × List ℕ)
type_names =
    (ImplicitSha256DigestComponent, codes "ImplicitSha256DigestComponent")
    ∷ (ParametersSha256DigestComponent, codes "ParametersSha256DigestComponent")
    ∷ (Interest, codes "Interest")
    ∷ (Data, codes "Data")
    ∷ (Name, codes "Name")
    ∷ (GenericNameComponent, codes "GenericNameComponent")
    ∷ (Nonce, codes "Nonce")
    ∷ (InterestLifetime, codes "InterestLifetime")
    ∷ (MustBeFresh, codes "MustBeFresh")
    ∷ (MetaInfo, codes "MetaInfo")
    ∷ (Content, codes "Content")
    ∷ (SignatureInfo, codes "SignatureInfo")
    ∷ (SignatureValue, codes "SignatureValue")
    ∷ (ContentType, codes "ContentType")
    ∷ (FreshnessPeriod, codes "FreshnessPeriod")
    ∷ (FinalBlockId, codes "FinalBlockId")
    ∷ (SignatureType, codes "SignatureType")
    ∷ (KeyLocator, codes "KeyLocator")
    ∷ (KeyDigest, codes "KeyDigest")
    ∷ (ForwardingHint, codes "ForwardingHint")
    ∷ (CanBePrefix, codes "CanBePrefix")
    ∷ (HopLimit, codes "HopLimit")
    ∷ (ApplicationParameters, codes "ApplicationParameters")
    ∷ (InterestSignatureInfo, codes "InterestSignatureInfo")
    ∷ (InterestSignatureValue, codes "InterestSignatureValue")
    ∷ (SegmentNameComponent, codes "SegmentNameComponent")
    ∷ (VersionNameComponent, codes "VersionNameComponent")
    ∷ (SequenceNumNameComponent, codes "SequenceNumNameComponent")
    ∷ []

-- The name that the list has for a type.
abbrev pub name_among : List (ℕ × List ℕ) → ℕ → List ℕ
name_among [] typ = codes "Unknown"
name_among (named ∷ others) typ = if typ == named.0 then named.1 else name_among others typ

-- The name that is printed for a type number, and "Unknown" where it has none.
unfoldable pub type_name : ℕ → List ℕ
type_name typ = name_among type_names typ

-- The type number is one of these.
abbrev pub is_type_among : List ℕ → ℕ → Bool
is_type_among [] typ = false
is_type_among (other ∷ others) typ = typ == other || is_type_among others typ

-- Whether the value of such an element is read as elements: those of Interest, Data, Name, MetaInfo,
-- SignatureInfo, FinalBlockId, KeyLocator and InterestSignatureInfo are.
unfoldable pub has_elements : ℕ → Bool
has_elements typ =
    is_type_among
    (Interest ∷ Data ∷ Name ∷ MetaInfo ∷ SignatureInfo ∷ FinalBlockId ∷ KeyLocator ∷ InterestSignatureInfo ∷ []) typ
