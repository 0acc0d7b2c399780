-- Groups: a group's name, its members and its clients, each with a node name and a key.
use Rattle.std.specs.Prelude.{◌≡◌, ℕ, ◌<◌, ◌≤◌, Bool, List, [], ◌∷◌, ◌++◌, map, length, None, is_some, ◌||◌, unwrap_or}
use Rattle.std.specs.Prelude.{slice_get}
use Rattle.std.specs.List.{All}
use Rattle.ndn_name.specs.Names.{Component, IsName, encoding}
use Rattle.ndn_sign.specs.Ring.{NamedKey, pair}
use Rattle.svs_vector.specs.Rosters.{member_of, IsRoster}
use Rattle.repo_object.specs.Objects.{Publisher, publisher, key_name}

-- how many members a group has at most, and how many clients
abbrev pub node_limit : ℕ
node_limit = 16

-- nodes, numbered from 0, and the ring of their keys under the same numbers
pub record NodeKeys : Type 0 where
  pub names : List (List Component)
  pub ring : List NamedKey

-- No member, or no client.
abbrev pub no_nodes : NodeKeys
no_nodes = record { names = []; ring = [] }

-- one node more, after the others
abbrev pub with_node : List Component → List ℕ → NodeKeys → NodeKeys
with_node node key nodes = record {
  names = nodes.names ++ node ∷ [];
  ring = nodes.ring ++ pair (encoding (key_name node)) key ∷ [];
}

-- a group as contracts see it
pub record GroupKeys : Type 0 where
  pub name : List Component
  pub members : NodeKeys
  pub clients : NodeKeys

-- whether a member or a client has the name
abbrev pub is_name_taken : GroupKeys → List Component → Bool
is_name_taken group node = is_some (member_of node group.members.names) || is_some (member_of node group.clients.names)

-- the node name of a member
abbrev pub node_at : GroupKeys → ℕ → List Component
node_at group number = unwrap_or (slice_get group.members.names number) []

-- the key of a member
abbrev pub member_key : GroupKeys → ℕ → List ℕ
member_key group number = (unwrap_or (slice_get group.members.ring number) (pair [] [])).key

-- the node name and the key of a client
abbrev pub client_at : GroupKeys → ℕ → List Component
client_at group client = unwrap_or (slice_get group.clients.names client) []

-- The key of a client, by its number.
abbrev pub client_key_at : GroupKeys → ℕ → List ℕ
client_key_at group client = (unwrap_or (slice_get group.clients.ring client) (pair [] [])).key

-- the publisher that member `number` is: its node name, the group's name and its key
abbrev pub publisher_at : GroupKeys → ℕ → Publisher
publisher_at group number = publisher (node_at group number) group.name (member_key group number)

-- ---- limits

-- the name of a group, a member or a client: 1 to 200 octets of value, and no digest among its components
pub record IsPlainNodeName (name : List Component) : Type 0 where
  pub valid : IsName name
  pub some : 1 ≤ length (encoding name)
  pub short : length (encoding name) ≤ 200
  pub plain : All (λ (c : Component). 2 < c.0) name

-- a key: 1 to 128 octets
pub record IsKey (key : List ℕ) : Type 0 where
  pub some : 1 ≤ length key
  pub short : length key ≤ 128

-- the names in the ring are those of the nodes' keys, number by number; there are 16 nodes at most, and no two have the
-- same name
pub record HaveKeys (nodes : NodeKeys) : Type 0 where
  pub keys : map (λ (p : NamedKey). p.name) nodes.ring ≡ map (λ node. encoding (key_name node)) nodes.names
  pub roster : IsRoster nodes.names
  pub node_names : All IsPlainNodeName nodes.names
  pub short_keys : All (λ (p : NamedKey). IsKey p.key) nodes.ring

-- no client has the name of a member
abbrev pub DifferInNames : NodeKeys → NodeKeys → Type 0
DifferInNames members clients = All (λ node. member_of node clients.names ≡ None) members.names

-- the group's name is within the limits of names, and no client has the name of a member
pub record GroupIsNamed (group : GroupKeys) : Type 0 where
  pub name : IsPlainNodeName group.name
  pub apart : DifferInNames group.members group.clients

-- what holds of every group
pub record IsGroup (group : GroupKeys) : Type 0 where
  pub name : IsPlainNodeName group.name
  pub members : HaveKeys group.members
  pub clients : HaveKeys group.clients
  pub apart : DifferInNames group.members group.clients
