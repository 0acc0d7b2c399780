-- Names, the octets that they are written in, and how octets are read as a name (NDN Packet Format 0.3,
-- "Name").
use Rattle.std.specs.Prelude.{◌≡◌, ℕ, ◌<◌, ◌≤◌, ◌^◌, List, [], ◌∷◌, ◌++◌, length, map, Result, Ok, Err, not, ◌&&◌}
use Rattle.std.specs.Prelude.{nat_lt, nat_le, ◌==◌, if◌then◌else◌}
use Rattle.ndn_tlv.specs.Spelling.{element}
use Rattle.ndn_tlv.specs.Listing.{gathered, ◌>>=◌}
use Rattle.ndn_tlv.specs.Elements.{IsOctets, Item, elements}
use Rattle.ndn_tlv.specs.Types as types
use Rattle.ndn_name.specs.declared.component_view.ComponentView.{ComponentView}
use Rattle.ndn_name.specs.declared.name_fault.NameFault.{NameFault}
use Rattle.ndn_name.specs.declared.name_fault.NameFault.TheVariants.{Tlv, BadComponent, BadDigestLength}

-- A component of a name: its type, and the octets of its value. A name is a list of them.
abbrev pub Component : Type 0
Component = ℕ × List ℕ

-- A component without where it lies in memory.
abbrev pub component : ComponentView → Component
component c = (c.typ, c.value.now)

-- The greatest type of a component.
abbrev pub greatest_type : ℕ
greatest_type = 65535

-- What a component may be. The first two types, 1 and 2, are digests.
pub record IsComponent (c : Component) : Type 0 where
  pub above : 0 < c.0
  pub below : c.0 ≤ greatest_type
  pub digest : c.0 ≤ types.ParametersSha256DigestComponent → length c.1 ≡ 32
  pub long : length c.1 < 2 ^ 64
  pub octets : IsOctets c.1

-- What a name may be, however long it is.
abbrev pub IsName : List Component → Type 0
IsName [] = Unit {0}
IsName (c ∷ cs) = IsComponent c × IsName cs

-- The full name of a packet: its name, and its implicit digest after it.
abbrev pub full_name : List Component → List ℕ → List Component
full_name name digest = name ++ (types.ImplicitSha256DigestComponent, digest) ∷ []

-- How many octets of value a name may have that this repository keeps (a limit of its own).
abbrev pub name_limit : ℕ
name_limit = 1000

-- The value of a Name element: the elements of the components, one after another.
unfoldable pub encoding : List Component → List ℕ
encoding [] = []
encoding (c ∷ cs) = element c.0 c.1 ++ encoding cs

-- ---- octets read as a name

-- The component that an element is.
abbrev pub component_of : Item → Result Component NameFault
component_of e =
    if nat_lt greatest_type e.typ then Err (BadComponent e.start)
    else if nat_le e.typ types.ParametersSha256DigestComponent && not (length e.value == 32)
    then Err (BadDigestLength e.start)
    else Ok (e.typ, e.value)

-- A name with the component after it that an element is, or why the element is none.
abbrev pub with_component : List Component → Item → Result (List Component) NameFault
with_component name e = component_of e >>= λ c. Ok (name ++ c ∷ [])

-- The name whose value these octets are, which begin at this offset; or the first fault in reading
-- order.
abbrev pub name_of : ℕ → List ℕ → Result (List Component) NameFault
name_of offset octets = gathered with_component Tlv [] (elements offset octets)

-- The components that octets are, where they are the value of a name.
abbrev pub components : List ℕ → List Component
components octets = map (λ (e : Item). (e.typ, e.value)) (elements 0 octets).items

-- Octets that are the value of a name with `len` components.
pub record IsValue (octets : List ℕ) (len : ℕ) : Type 0 where
  pub spelled : octets ≡ encoding (components octets)
  pub name : IsName (components octets)
  pub count : len ≡ length (components octets)
