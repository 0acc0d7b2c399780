-- A group with one more member or client is a group.
use Rattle.std.proofs.Common.{◌≡◌, ◌∙◌, ℕ, ◌<◌, Bool, false, ◌||◌, List, [], ◌∷◌, ◌++◌, length, length-append}
use Rattle.std.proofs.Common.{get_or, sym, ap, arith}
use Rattle.std.specs.List.{All, list_any}
use Rattle.std.proofs.lemmas.Bool.{or_parts}
use Rattle.std.proofs.lemmas.List.{map-append}
use Rattle.std.proofs.lemmas.List.Elements.{All-cons, All-head, All-nil, All-push, All-tail}
use Rattle.std.proofs.lemmas.List.Folds.{list_any-append}
use Rattle.std.proofs.lemmas.Map.Keys.{IsDistinct-push}
use Rattle.ndn_name.specs.Names.{Component, encoding}
use Rattle.ndn_sign.specs.Ring.{NamedKey, pair}
use Rattle.svs_vector.specs.Rosters.{IsOwnName, has_same_octets}
use Rattle.repo_object.specs.Objects.{key_name}
use Rattle.repo_member.specs.Groups.{DifferInNames, HaveKeys, IsKey, IsPlainNodeName, NodeKeys}
use Rattle.repo_member.specs.Groups.{with_node}
use Rattle.repo_member.proofs.PublicLaws.{none_found, same_name}

-- ---- nodes

-- None of the names is this one.
abbrev pub AreOthers : List Component → List (List Component) → Type 0
AreOthers node names = list_any (has_same_octets node) names ≡ false

pub one_has_too : (nodes : NodeKeys) (node : List Component) (key : List ℕ) → HaveKeys nodes → IsPlainNodeName node
    → IsKey key → AreOthers node nodes.names → length nodes.names < 16 → HaveKeys (with_node node key nodes)
one_has_too nodes node key have plain is_key others room = record {
  keys = map-append (λ (p : NamedKey). p.name) nodes.ring (pair (encoding (key_name node)) key ∷ [])
      ∙ ap (λ (names : List (List ℕ)). names ++ encoding (key_name node) ∷ []) have.keys
      ∙ sym (map-append (λ (n : List Component). encoding (key_name n)) nodes.names (node ∷ []));
  roster = record {
    few = omega (arith, room, length-append nodes.names (node ∷ []));
    names = All-push IsOwnName nodes.names node have.roster.names (plain.valid, omega (arith, plain.short));
    different = IsDistinct-push same_name nodes.names node have.roster.different others;
  };
  node_names = All-push IsPlainNodeName nodes.names node have.node_names plain;
  short_keys = All-push (λ (p : NamedKey). IsKey p.key) nodes.ring (pair (encoding (key_name node)) key)
      have.short_keys is_key;
}

-- ---- members and clients

-- None of the members has the name of a client.
abbrev pub AreApart : NodeKeys → NodeKeys → Type 0
AreApart members clients = All (λ node. AreOthers node clients.names) members.names

pub differ : (members clients : NodeKeys) → AreApart members clients → DifferInNames members clients
differ members clients apart k d inside =
    none_found (has_same_octets (get_or members.names k d)) clients.names (apart k d inside)

pub apart_member : (members clients : NodeKeys) (node : List Component) (key : List ℕ) → AreApart members clients
    → AreOthers node clients.names → AreApart (with_node node key members) clients
apart_member members clients node key apart others =
    All-push (λ (n : List Component). AreOthers n clients.names) members.names node apart others

pub apart_client : (members clients : NodeKeys) (node : List Component) (key : List ℕ) → AreApart members clients
    → AreOthers node members.names → AreApart members (with_node node key clients)
apart_client members clients node key apart others = each members.names apart others where
  one : (n : List Component) → AreOthers n clients.names → has_same_octets node n ≡ false
      → AreOthers n (clients.names ++ node ∷ [])
  one n none other =
      list_any-append (has_same_octets n) clients.names (node ∷ [])
      ∙ ap (λ (b : Bool). b || (has_same_octets n node || false)) none
      ∙ ap (λ (b : Bool). b || false) (same_name.symm n node ∙ other)

  each : (names : List (List Component)) → All (λ (n : List Component). AreOthers n clients.names) names
      → AreOthers node names → All (λ (n : List Component). AreOthers n (clients.names ++ node ∷ [])) names
  each [] all none = All-nil (λ (n : List Component). AreOthers n (clients.names ++ node ∷ []))
  each (n ∷ names) all none =
      let both = or_parts (has_same_octets node n) (list_any (has_same_octets node) names) none in
      All-cons (λ (m : List Component). AreOthers m (clients.names ++ node ∷ [])) n names
      (one n (All-head (λ (m : List Component). AreOthers m clients.names) n names all) both.0)
      (each names (All-tail (λ (m : List Component). AreOthers m clients.names) n names all) both.1)
