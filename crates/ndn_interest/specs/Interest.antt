-- How octets are read as an Interest, or the first fault (NDN Packet Format 0.3, "Interest Packet" and
-- "Signed Interest").
use Rattle.std.specs.Prelude.{◌≡◌, ℕ, ◌-◌, ◌≤◌, Bool, true, false, not, ◌&&◌, is_some, is_none, List, [], ◌∷◌, ◌++◌}
use Rattle.std.specs.Prelude.{length, take, drop, slice_get, slice_range, Option, Some, None, option_map, MatchOption}
use Rattle.std.specs.Prelude.{IfSome, Result, Ok, Err, ◌==◌, if◌then◌else◌}
use Rattle.std.specs.Borrow.{Bor}
use Rattle.std.specs.Int.{w32, from_be_bytes}
use Rattle.std.specs.Option.{option_map_or}
use Rattle.sha2.specs.Sha256.{sha256}
use Rattle.ndn_tlv.specs.Types as types
use Rattle.ndn_tlv.specs.Spelling.{element}
use Rattle.ndn_tlv.specs.Listing.{gathered, ◌>>=◌}
use Rattle.ndn_tlv.specs.Elements.{Item, elements}
use Rattle.ndn_tlv.specs.OrderTable.{once, fields}
use Rattle.ndn_tlv.specs.declared.order_table.Place.{Place}
use Rattle.ndn_name.specs.declared.fault.Field.{Field}
use Rattle.ndn_name.specs.declared.fault.Field.TheVariants as field
use Rattle.ndn_name.specs.declared.fault.PacketFault.{PacketFault}
use Rattle.ndn_name.specs.declared.fault.PacketFault.TheVariants.{Missing, BadField}
use Rattle.ndn_name.specs.Names.{Component, encoding}
use Rattle.ndn_name.specs.Faults.{packet_fault}
use Rattle.ndn_packet.specs.Contents.{ok_or, number_in, name_in}
use Rattle.ndn_packet.specs.SignatureInfo.{Info, info_in, info}
use Rattle.ndn_packet.specs.Outer.{outer_of}
use Rattle.ndn_interest.specs.declared.interest_fields.InterestField.{InterestField}
use Rattle.ndn_interest.specs.declared.interest_fields.InterestField.TheVariants.{Name, CanBePrefix, MustBeFresh}
use Rattle.ndn_interest.specs.declared.interest_fields.InterestField.TheVariants.{ForwardingHint, Nonce}
use Rattle.ndn_interest.specs.declared.interest_fields.InterestField.TheVariants.{InterestLifetime, HopLimit}
use Rattle.ndn_interest.specs.declared.interest_fields.InterestField.TheVariants.{ApplicationParameters}
use Rattle.ndn_interest.specs.declared.interest_fields.InterestField.TheVariants.{InterestSignatureInfo}
use Rattle.ndn_interest.specs.declared.interest_fields.InterestField.TheVariants.{InterestSignatureValue}
use Rattle.ndn_interest.specs.declared.interest_fields.InterestFields.{InterestFields}
use Rattle.ndn_interest.specs.declared.interest_view.InterestView.{InterestView}

-- The places of the fields of an Interest.
abbrev pub interest_table : List (Place InterestField)
interest_table =
    once types.Name Name
    ∷ once types.CanBePrefix CanBePrefix
    ∷ once types.MustBeFresh MustBeFresh
    ∷ once types.ForwardingHint ForwardingHint
    ∷ once types.Nonce Nonce
    ∷ once types.InterestLifetime InterestLifetime
    ∷ once types.HopLimit HopLimit
    ∷ once types.ApplicationParameters ApplicationParameters
    ∷ once types.InterestSignatureInfo InterestSignatureInfo
    ∷ once types.InterestSignatureValue InterestSignatureValue
    ∷ []

-- An Interest: its fields, the two pieces of what is signed where it is signed, and what the
-- parameters digest is of where it has parameters.
pub record Interest : Type 0 where
  pub name : List Component
  pub can_be_prefix : Bool
  pub must_be_fresh : Bool
  pub nonce : Option ℕ
  pub lifetime : Option ℕ
  pub hop_limit : Option ℕ
  pub parameters : Option (List ℕ)
  pub signature_type : Option ℕ
  pub locator : Option (List Component)
  pub signature : Option (List ℕ)
  pub signed : Option (List ℕ × List ℕ)
  pub digested : Option (List ℕ)

-- The fields as far as they have come. Parameters have their element's offset with them, and a
-- signature the octets from the parameters up to it, where there are parameters.
pub record InterestSoFar : Type 0 where
  pub name : Option (List Component)
  pub can_be_prefix : Bool
  pub must_be_fresh : Bool
  pub nonce : Option ℕ
  pub lifetime : Option ℕ
  pub hop_limit : Option ℕ
  pub parameters : Option (ℕ × List ℕ)
  pub info : Option Info
  pub signature : Option (List ℕ × Option (List ℕ))

-- Before the first field.
abbrev pub no_interest_field : InterestSoFar
no_interest_field =
    record {
      name = None;
      can_be_prefix = false;
      must_be_fresh = false;
      nonce = None;
      lifetime = None;
      hop_limit = None;
      parameters = None;
      info = None;
      signature = None;
    }

-- ---- what the fields hold

-- A name of one component at least.
abbrev pub some_name : PacketFault → List Component → Result (List Component) PacketFault
some_name bad [] = Err bad
some_name bad (c ∷ cs) = Ok (c ∷ cs)

-- The name that an element is. An Interest needs one component at least.
abbrev pub interest_name_in : Item → Result (List Component) PacketFault
interest_name_in e =
    name_in (BadField field.Name e.start) e >>= some_name (BadField field.Name e.start)

-- A field that is there without a value.
abbrev pub flag_in : Field → Item → Result Bool PacketFault
flag_in name e = if length e.value == 0 then Ok true else Err (BadField name e.start)

-- Four octets, as a number.
abbrev pub nonce_in : Item → Result ℕ PacketFault
nonce_in e =
    if length e.value == 4 then Ok (from_be_bytes w32 e.value)
    else Err (BadField field.Nonce e.start)

-- One octet.
abbrev pub one_octet : PacketFault → List ℕ → Result ℕ PacketFault
one_octet bad [] = Err bad
one_octet bad (n ∷ []) = Ok n
one_octet bad (n ∷ m ∷ octets) = Err bad

-- The hop limit that an element is.
abbrev pub hop_limit_in : Item → Result ℕ PacketFault
hop_limit_in e = one_octet (BadField field.HopLimit e.start) e.value

-- The fields so far with one more, or the fault of that one.
abbrev pub with_interest_field : List ℕ → InterestSoFar → InterestField × Item
    → Result InterestSoFar PacketFault
with_interest_field octets s (Name, e) =
    interest_name_in e >>= λ name. Ok (record s { name = Some name })
with_interest_field octets s (CanBePrefix, e) =
    flag_in field.CanBePrefix e >>= λ b. Ok (record s { can_be_prefix = b })
with_interest_field octets s (MustBeFresh, e) =
    flag_in field.MustBeFresh e >>= λ b. Ok (record s { must_be_fresh = b })
with_interest_field octets s (ForwardingHint, e) = Ok s
with_interest_field octets s (Nonce, e) = nonce_in e >>= λ n. Ok (record s { nonce = Some n })
with_interest_field octets s (InterestLifetime, e) =
    number_in field.InterestLifetime e >>= λ n. Ok (record s { lifetime = Some n })
with_interest_field octets s (HopLimit, e) =
    hop_limit_in e >>= λ n. Ok (record s { hop_limit = Some n })
with_interest_field octets s (ApplicationParameters, e) =
    Ok (record s { parameters = Some (e.start, e.value) })
with_interest_field octets s (InterestSignatureInfo, e) =
    info_in e >>= λ i. Ok (record s { info = Some i })
with_interest_field octets s (InterestSignatureValue, e) =
    Ok (record s {
      signature = Some (e.value, option_map (λ p. slice_range octets p.0 e.start) s.parameters);
    })

-- The fields of the packet's element in the order of their table, and what is in them.
abbrev pub interest_fields : List ℕ → Item → Result InterestSoFar PacketFault
interest_fields octets e =
    gathered (with_interest_field octets) packet_fault no_interest_field
    (fields interest_table (elements e.value_start e.value))

-- ---- the whole

-- The last component of a name, if it has one.
abbrev pub last_component : List Component → Option Component
last_component name = slice_get name (length name - 1)

-- A name without its last component.
abbrev pub without_last : List Component → List Component
without_last name = take (length name - 1) name

-- The name ends in a parameters digest.
abbrev pub ends_in_digest : List Component → Bool
ends_in_digest name =
    option_map_or (λ c. c.0 == types.ParametersSha256DigestComponent) (last_component name) false

-- What is signed: the name's components without the last, which is the parameters digest, and the
-- octets from the parameters up to the signature. Nothing is signed where parameters, signature
-- info or signature is absent.
abbrev pub signed_of : List Component → Bool → Option (List ℕ × Option (List ℕ))
    → Option (List ℕ × List ℕ)
signed_of name false signature = None
signed_of name true None = None
signed_of name true (Some s) = option_map (λ portion. (encoding (without_last name), portion)) s.1

-- The Interest of this name and these fields, or the first fault.
abbrev pub interest_named : List ℕ → InterestSoFar → List Component → Result Interest PacketFault
interest_named octets s name =
    if is_some s.parameters && not (ends_in_digest name) then Err (Missing field.ParametersDigest)
    else if is_some s.info && is_none s.signature then Err (Missing field.SignatureValue)
    else Ok (record {
      name = name;
      can_be_prefix = s.can_be_prefix;
      must_be_fresh = s.must_be_fresh;
      nonce = s.nonce;
      lifetime = s.lifetime;
      hop_limit = s.hop_limit;
      parameters = option_map (λ p. p.1) s.parameters;
      signature_type = option_map (λ i. i.signature_type) s.info;
      locator = option_map_or (λ i. i.locator) s.info None;
      signature = option_map (λ g. g.0) s.signature;
      signed = signed_of name (is_some s.parameters && is_some s.info) s.signature;
      digested = option_map (λ p. drop p.0 octets) s.parameters;
    })

-- The Interest that the fields make, where none is missing.
abbrev pub interest_from : List ℕ → InterestSoFar → Result Interest PacketFault
interest_from octets s = ok_or s.name (Missing field.Name) >>= interest_named octets s

-- The Interest that octets are.
abbrev pub interest_of : List ℕ → Result Interest PacketFault
interest_of octets =
    outer_of types.Interest octets >>= λ e. interest_fields octets e >>= interest_from octets

-- The Interest has parameters, and the last component of its name is their digest.
abbrev pub IsDigested : Interest → Type 0
IsDigested i =
    MatchOption i.digested ⊥
    (λ octets. last_component i.name ≡ Some (types.ParametersSha256DigestComponent, sha256 octets))

-- The element of the parameters stands in the value of the packet, and the parameters digest is of
-- that and of all that follows it.
pub record IsDigestedFrom (value : List ℕ) (i : Interest) (parameters : List ℕ) : Type 0 where
  pub before : List ℕ
  pub after : List ℕ
  pub digested : i.digested ≡ Some (element types.ApplicationParameters parameters ++ after)
  pub parts : value ≡ before ++ (element types.ApplicationParameters parameters ++ after)

-- The two pieces of what is signed: the name without the parameters digest at its end, and the
-- element of the parameters with what stands between that and the element of the signature.
pub record IsSignedUpTo (i : Interest) (pieces : List ℕ × List ℕ) : Type 0 where
  pub prefix : List Component
  pub digest : List ℕ
  pub parameters : List ℕ
  pub signature : List ℕ
  pub fields : List ℕ
  pub after : List ℕ
  pub name : i.name ≡ prefix ++ (types.ParametersSha256DigestComponent, digest) ∷ []
  pub has_parameters : i.parameters ≡ Some parameters
  pub has_signature : i.signature ≡ Some signature
  pub first : pieces.0 ≡ encoding prefix
  pub second : pieces.1 ≡ element types.ApplicationParameters parameters ++ fields
  pub digested : i.digested ≡ Some (pieces.1 ++ (element types.InterestSignatureValue signature ++ after))

-- The octets are the packet's element, in which parameters and signature stand where they are
-- digested and signed.
pub record InterestIsSpelled (octets : List ℕ) (i : Interest) : Type 0 where
  pub value : List ℕ
  pub packet : octets ≡ element types.Interest value
  pub digested : MatchOption i.parameters (i.digested ≡ None) (IsDigestedFrom value i)
  pub signed : IfSome i.signed (IsSignedUpTo i)

-- ---- the structs without where their octets lie in memory

-- The octets of a signature, and of what it signs after the name.
abbrev pub signature_parts : Option (Bor (List ℕ) × Option (Bor (List ℕ)))
    → Option (List ℕ × Option (List ℕ))
signature_parts signature = option_map (λ s. (s.0.now, option_map (λ o. o.now) s.1)) signature

-- The fields that were read so far.
abbrev pub interest_so_far : InterestFields → InterestSoFar
interest_so_far g =
    record {
      name = g.name;
      can_be_prefix = g.can_be_prefix;
      must_be_fresh = g.must_be_fresh;
      nonce = g.nonce;
      lifetime = g.lifetime;
      hop_limit = g.hop_limit;
      parameters = option_map (λ p. (p.0, p.1.now)) g.parameters;
      info = option_map info g.info;
      signature = signature_parts g.signature;
    }

-- The parameters, if there are any, begin by this offset.
abbrev pub ParametersStartBy : ℕ → InterestFields → Type 0
ParametersStartBy offset g = IfSome g.parameters (λ p. p.0 ≤ offset)

-- The Interest that was read.
abbrev pub interest_seen : InterestView → Interest
interest_seen i =
    record {
      name = i.name;
      can_be_prefix = i.can_be_prefix;
      must_be_fresh = i.must_be_fresh;
      nonce = i.nonce;
      lifetime = i.lifetime;
      hop_limit = i.hop_limit;
      parameters = option_map (λ p. p.now) i.parameters;
      signature_type = i.signature_type;
      locator = i.locator;
      signature = option_map (λ s. s.now) i.signature;
      signed = option_map (λ s. (s.0.now, s.1.now)) i.signed;
      digested = option_map (λ o. o.now) i.digested;
    }
