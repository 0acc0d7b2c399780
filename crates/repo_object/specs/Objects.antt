-- Objects, who publishes them, and the names of what is published.
use Rattle.std.specs.Prelude.{◌<◌, ◌≤◌, ℕ, ◌==◌, nat_lt, nat_le, Bool, false, ◌&&◌, IsTrue, List, [], ◌∷◌, ◌++◌, length}
use Rattle.std.specs.Prelude.{Option, Some, None}
use Rattle.std.specs.List.{All, list_all}
use Rattle.ndn_tlv.specs.Types as types
use Rattle.ndn_tlv.specs.NumberField.{number_field}
use Rattle.ndn_name.specs.Names.{Component, IsName, encoding}
use Rattle.repo_plan.specs.declared.shape.Shape.{Shape}
use Rattle.repo_plan.specs.Parts.{shape_of_segments}
use Rattle.repo_object.specs.Limits.{node_name_limit, object_name_limit, segment_limit, content_limit}

-- An object as contracts see it: a name and the contents of its segments, in order.
pub record NamedContents : Type 0 where
  pub name : List Component
  pub contents : List (List ℕ)

-- What is published under a number: an object, or the withdrawal of what its publisher published under an earlier one.
pub data Post : Type 0 where
  Offers : NamedContents → Post
  Withdraws : ℕ → Post

-- The object that is published. A withdrawal has none.
abbrev pub offered : Post → Option NamedContents
offered (Offers object) = Some object
offered (Withdraws seq) = None

-- The contents of the segments of the published object. A withdrawal has none.
abbrev pub contents_of : Post → List (List ℕ)
contents_of (Offers object) = object.contents
contents_of (Withdraws seq) = []

-- The part counts of a publication. A withdrawal has neither index packets nor segments.
abbrev pub shape_in : Post → Shape
shape_in post = shape_of_segments (length (contents_of post))

-- Whether a publication is the withdrawal of number `seq`.
abbrev pub withdraws_number : Post → ℕ → Bool
withdraws_number (Offers object) seq = false
withdraws_number (Withdraws withdrawn) seq = withdrawn == seq

-- Whether an object may have this name: it has 1 to 400 octets of value, and no component that is a digest. The two
-- types of digests are the least types.
abbrev pub is_object_name : List Component → Bool
is_object_name name =
    nat_lt 0 (length (encoding name))
    && nat_le (length (encoding name)) object_name_limit
    && list_all (λ c. nat_lt types.ParametersSha256DigestComponent c.0) name

-- The content of a segment has 1 to 8,000 octets.
abbrev pub IsContent : List ℕ → Type 0
IsContent content = (0 < length content) × (length content ≤ content_limit)

-- The limits that every object is within.
pub record IsObject (object : NamedContents) : Type 0 where
  pub name : IsName object.name
  pub named : IsTrue (is_object_name object.name)
  pub few : length object.contents ≤ segment_limit
  pub contents : All IsContent object.contents

-- What may be published under number `seq`: an object within the limits, or the withdrawal of a number that is at least
-- 1 and below `seq`.
abbrev pub IsPost : ℕ → Post → Type 0
IsPost seq (Offers object) = IsObject object
IsPost seq (Withdraws withdrawn) = (0 < withdrawn) × (withdrawn < seq)

-- A publisher: the name of its node, the name of its group, and its key.
pub record Publisher : Type 0 where
  pub node : List Component
  pub group : List Component
  pub key : List ℕ

-- The publisher of this node, this group and this key.
abbrev pub publisher : List Component → List Component → List ℕ → Publisher
publisher node group key = record { node = node; group = group; key = key }

-- The name of a node or a group has at most 200 octets of value.
abbrev pub IsShortName : List Component → Type 0
IsShortName name = IsName name × (length (encoding name) ≤ node_name_limit)

-- The names of the publisher's node and group have at most 200 octets of value each.
pub record IsPublisher (publisher : Publisher) : Type 0 where
  pub node : IsShortName publisher.node
  pub group : IsShortName publisher.group

-- The word `KEY`.
abbrev pub key_word : List ℕ
key_word = 75 ∷ 69 ∷ 89 ∷ []

-- The name of a node's key: the node's name with the component `KEY` after it.
abbrev pub key_name : List Component → List Component
key_name node = node ++ (types.GenericNameComponent, key_word) ∷ []

-- The name of a publication's record, by the node, the group and the publication's number.
abbrev pub record_name : List Component → List Component → ℕ → List Component
record_name node group seq =
    node ++ group ++ (types.SequenceNumNameComponent, number_field seq) ∷ []

-- The name of an object's segment, counted from 0.
abbrev pub segment_name : List Component → ℕ → List Component
segment_name name i = name ++ (types.SegmentNameComponent, number_field i) ∷ []
