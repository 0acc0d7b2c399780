-- The types of elements, each under the name that the standard gives it (NDN Packet Format 0.3,
-- "TLV-TYPE number assignments").
use Rattle.std.specs.Prelude.{ℕ}

-- ---- packets

-- An Interest packet ("Interest Packet").
abbrev pub Interest : ℕ
Interest = 0x05

-- A Data packet ("Data Packet").
abbrev pub Data : ℕ
Data = 0x06

-- ---- names and their components

-- A name, which is a sequence of components ("Name").
abbrev pub Name : ℕ
Name = 0x07

-- The SHA-256 digest of a whole Data packet, as the last component of its full name ("Name").
abbrev pub ImplicitSha256DigestComponent : ℕ
ImplicitSha256DigestComponent = 0x01

-- The SHA-256 digest of the parameters of an Interest, and of the elements after them ("Name", "Interest Packet").
abbrev pub ParametersSha256DigestComponent : ℕ
ParametersSha256DigestComponent = 0x02

-- A component with any octets ("Name").
abbrev pub GenericNameComponent : ℕ
GenericNameComponent = 0x08

-- The number of a segment of an object (NDN Naming Conventions, revision 3).
abbrev pub SegmentNameComponent : ℕ
SegmentNameComponent = 0x32

-- The number of a version (NDN Naming Conventions, revision 3).
abbrev pub VersionNameComponent : ℕ
VersionNameComponent = 0x36

-- A sequence number (NDN Naming Conventions, revision 3).
abbrev pub SequenceNumNameComponent : ℕ
SequenceNumNameComponent = 0x3a

-- ---- in an Interest

-- Present where the name may be a prefix of the name of the Data packet ("Interest Packet").
abbrev pub CanBePrefix : ℕ
CanBePrefix = 0x21

-- Present where only fresh Data may answer the Interest ("Interest Packet").
abbrev pub MustBeFresh : ℕ
MustBeFresh = 0x12

-- Names towards which an Interest may be forwarded ("Interest Packet").
abbrev pub ForwardingHint : ℕ
ForwardingHint = 0x1e

-- Four octets that distinguish Interests of the same name ("Interest Packet").
abbrev pub Nonce : ℕ
Nonce = 0x0a

-- How long an Interest is pending, in milliseconds ("Interest Packet").
abbrev pub InterestLifetime : ℕ
InterestLifetime = 0x0c

-- How many more hops an Interest may make, as one octet ("Interest Packet").
abbrev pub HopLimit : ℕ
HopLimit = 0x22

-- The parameters of an Interest ("Interest Packet").
abbrev pub ApplicationParameters : ℕ
ApplicationParameters = 0x24

-- How a signed Interest is signed ("Signed Interest").
abbrev pub InterestSignatureInfo : ℕ
InterestSignatureInfo = 0x2c

-- The signature of a signed Interest ("Signed Interest").
abbrev pub InterestSignatureValue : ℕ
InterestSignatureValue = 0x2e

-- ---- in a Data packet and its MetaInfo

-- What a Data packet says of its content ("Data Packet").
abbrev pub MetaInfo : ℕ
MetaInfo = 0x14

-- The content of a Data packet ("Data Packet").
abbrev pub Content : ℕ
Content = 0x15

-- How a Data packet is signed ("Signature").
abbrev pub SignatureInfo : ℕ
SignatureInfo = 0x16

-- The signature of a Data packet ("Signature").
abbrev pub SignatureValue : ℕ
SignatureValue = 0x17

-- The type of a content, as a number ("Data Packet").
abbrev pub ContentType : ℕ
ContentType = 0x18

-- How long a Data packet counts as fresh, in milliseconds ("Data Packet").
abbrev pub FreshnessPeriod : ℕ
FreshnessPeriod = 0x19

-- The component in which the name of the last segment ends ("Data Packet").
abbrev pub FinalBlockId : ℕ
FinalBlockId = 0x1a

-- ---- in a SignatureInfo and its KeyLocator

-- The algorithm of a signature, as a number ("Signature").
abbrev pub SignatureType : ℕ
SignatureType = 0x1b

-- Which key a signature is made with: a name or a key digest ("Signature").
abbrev pub KeyLocator : ℕ
KeyLocator = 0x1c

-- A digest that identifies a key ("Signature").
abbrev pub KeyDigest : ℕ
KeyDigest = 0x1d
