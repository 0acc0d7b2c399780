-- Pairs of a ring, by number.
use Rattle.std.proofs.Common.{◌≡◌, inl, inr, ℕ, suc, ◌+◌, ◌≤◌, ◌<◌, Bool, true, false, cond, not, ◌||◌, List, [], ◌∷◌}
use Rattle.std.proofs.Common.{◌++◌, length, length-append, take, Option, Some, None, position, get_or, add-one, refl}
use Rattle.std.proofs.Common.{sym, ap, ◌∙◌, subst, arith}
use Rattle.std.specs.Prelude.{nat_lt, is_some}
use Rattle.std.specs.List.{All, list_any, prefix_len, position_or_len, IsDistinct}
use Rattle.std.specs.Str.{bytes_eq}
use Rattle.std.specs.Cmp.{IsEquivalence}
use Rattle.std.proofs.lemmas.Bool.{true≢false, cases_Bool, or_parts, false_from_ne_true, le-ltb, ltb-false}
use Rattle.std.proofs.lemmas.Slice.Eq.{bytes_eq-Decides}
use Rattle.std.proofs.lemmas.Map.Keys.{IsDistinct-push}
use Rattle.std.proofs.lemmas.List.Folds.{list_any-append}
use Rattle.std.proofs.lemmas.List.{length-map, map-append}
use Rattle.std.proofs.lemmas.List.Elements.{All-nil, All-cons, All-push, All-head, All-tail}
use Rattle.ndn_name.specs.Names.{Component, encoding}
use Rattle.repo_object.specs.Objects.{key_name}
use Rattle.svs_vector.specs.Rosters.{has_same_octets, member_of, IsOwnName, IsRoster}
use Rattle.repo_member.specs.Groups.{NodeKeys, GroupKeys, HaveKeys, DifferInNames, IsPlainNodeName, IsKey, client_at}
use Rattle.repo_member.specs.Groups.{is_name_taken, no_nodes, with_node}
use Rattle.std.specs.List.{slice_get}
use Rattle.std.specs.Option.{option_map}
use Rattle.std.proofs.Math.Seq.{take-suc}
use Rattle.std.proofs.lemmas.Option.{slice_get-get_or, unwrap_or-slice_get}
use Rattle.ndn_sign.specs.Ring.{NamedKey, pair}

-- one pair more of a ring, from its name and its key
pub take-pair : (ring : List NamedKey) (i : ℕ) (name key : List ℕ) → i < length ring
    → option_map (λ (p : NamedKey). p.name) (slice_get ring i) ≡ Some name
    → option_map (λ (p : NamedKey). p.key) (slice_get ring i) ≡ Some key
    → take (i + 1) ring ≡ take i ring ++ pair name key ∷ []
take-pair ring i name key inside is_name is_key =
    let none = pair [] [] in
    let there = slice_get-get_or ring i none inside in
    let own = rw there at is_name in
    let its = rw there at is_key in
    let name_same : (get_or ring i none).name ≡ name = cc in
    let key_same : (get_or ring i none).key ≡ key = cc in
    rw (add-one, take-suc ring i none inside, ← name_same, ← key_same) refl

-- ---- clients

module _ (g : GroupKeys) (keys : HaveKeys g.clients) (client : ℕ) (there : client < length g.clients.names) where
  pub client_is : client_at g client ≡ get_or g.clients.names client []
  client_is = unwrap_or-slice_get g.clients.names client []

  pub client_plain : IsPlainNodeName (client_at g client)
  client_plain = subst IsPlainNodeName (sym client_is) (keys.node_names client [] there)

-- ---- names that differ

-- names are the same where their octets are
pub same_name : IsEquivalence has_same_octets
same_name = record {
  refl = λ x. (bytes_eq-Decides (encoding x) (encoding x)).1 refl;
  symm = λ x y. flips (encoding x) (encoding y);
  congr =
      λ x y z h.
      ap (λ (octets : List ℕ). bytes_eq octets (encoding z)) ((bytes_eq-Decides (encoding x) (encoding y)).0 h);
} where
  flips : (x y : List ℕ) → bytes_eq x y ≡ bytes_eq y x
  flips x y = elim (cases_Bool (bytes_eq x y)) [
    | inl same ↦ same ∙ sym ((bytes_eq-Decides y x).1 (sym ((bytes_eq-Decides x y).0 same)))
    | inr apart ↦
        apart
        ∙ sym (false_from_ne_true (bytes_eq y x)
        (λ same. true≢false (sym ((bytes_eq-Decides x y).1 (sym ((bytes_eq-Decides y x).0 same))) ∙ apart)))
  ]

-- no place is found where no test passes
none_at : {X : Type 0} (p : X → Bool) (xs : List X) → list_any p xs ≡ false → position_or_len p xs ≡ length xs
none_at p [] h = refl
none_at p (x ∷ xs) h =
    let both = or_parts (p x) (list_any p xs) h in
    ap (λ (b : Bool). cond (not b) (1 + prefix_len (λ y. not (p y)) xs) 0) both.0
    ∙ ap (λ (n : ℕ). 1 + n) (none_at p xs both.1)
    ∙ omega arith

pub none_found : {X : Type 0} (p : X → Bool) (xs : List X) → list_any p xs ≡ false → position p xs ≡ None
none_found p xs h =
    ap (λ (n : ℕ). cond (nat_lt n (length xs)) (Some n) None) (none_at p xs h)
    ∙ ap (λ (b : Bool). cond b (Some (length xs)) None) (le-ltb (length xs) (length xs) (omega arith))

any_none : {X : Type 0} (p : X → Bool) (xs : List X) → length xs ≤ position_or_len p xs → list_any p xs ≡ false
any_none p [] l = refl
any_none p (x ∷ xs) l = go (p x) l (any_none p xs) where
  go : (b : Bool) → suc (length xs) ≤ cond (not b) (1 + position_or_len p xs) 0
      → (length xs ≤ position_or_len p xs → list_any p xs ≡ false) → (b || list_any p xs) ≡ false
  go true few rest = absurd (omega (arith, few))
  go false few rest = rest (omega (arith, few))

pub none_passes : {X : Type 0} (p : X → Bool) (xs : List X) → position p xs ≡ None → list_any p xs ≡ false
none_passes p xs h =
    any_none p xs
    (ltb-false (position_or_len p xs) (length xs) (go (nat_lt (position_or_len p xs) (length xs)) refl h)) where
      go : (b : Bool) → nat_lt (position_or_len p xs) (length xs) ≡ b → cond b (Some (position_or_len p xs)) None ≡ None
          → nat_lt (position_or_len p xs) (length xs) ≡ false
      go true past none = absurd cc
      go false past none = past

-- a name that is new stands among others that differ
roster_too : (names : List (List Component)) (node : List Component) → IsRoster names → IsPlainNodeName node
    → member_of node names ≡ None → length names < 16 → IsRoster (names ++ node ∷ [])
roster_too names node roster is_node new room = record {
  few = omega (arith, room, length-append names (node ∷ []));
  names = All-push IsOwnName names node roster.names (is_node.valid, omega (arith, is_node.short));
  different = IsDistinct-push same_name names node roster.different (none_passes (has_same_octets node) names new);
}

-- one node more keeps what holds of nodes
pub have_keys_too : (nodes : NodeKeys) (node : List Component) (key : List ℕ) → HaveKeys nodes → IsPlainNodeName node
    → IsKey key → member_of node nodes.names ≡ None → length nodes.names < 16
    → HaveKeys (with_node node key nodes)
have_keys_too nodes node key have is_node is_key new room = record {
  keys =
      map-append (λ (p : NamedKey). p.name) nodes.ring (pair (encoding (key_name node)) key ∷ [])
      ∙ ap (λ (names : List (List ℕ)). names ++ encoding (key_name node) ∷ []) have.keys
      ∙ sym (map-append (λ (n : List Component). encoding (key_name n)) nodes.names (node ∷ []));
  roster = roster_too nodes.names node have.roster is_node new room;
  node_names = All-push IsPlainNodeName nodes.names node have.node_names is_node;
  short_keys =
      All-push (λ (p : NamedKey). IsKey p.key) nodes.ring (pair (encoding (key_name node)) key) have.short_keys is_key;
}

-- no nodes have no keys
pub none_have_keys : HaveKeys no_nodes
unfolding IsDistinct
none_have_keys = record {
  keys = refl;
  roster = record { few = omega arith; names = All-nil IsOwnName; different = tt };
  node_names = All-nil IsPlainNodeName;
  short_keys = All-nil (λ (p : NamedKey). IsKey p.key);
}

-- a member's name that no client has
pub member_differs : (members clients : NodeKeys) (node : List Component) (key : List ℕ) → DifferInNames members clients
    → member_of node clients.names ≡ None → DifferInNames (with_node node key members) clients
member_differs members clients node key differ new =
    All-push (λ (n : List Component). member_of n clients.names ≡ None) members.names node differ new

-- a client's name that no member has
pub client_differs : (members clients : NodeKeys) (node : List Component) (key : List ℕ) → DifferInNames members clients
    → member_of node members.names ≡ None → DifferInNames members (with_node node key clients)
client_differs members clients node key differ new =
    each members.names differ (none_passes (has_same_octets node) members.names new) where
      one : (n : List Component) → member_of n clients.names ≡ None → has_same_octets node n ≡ false
          → member_of n (clients.names ++ node ∷ []) ≡ None
      one n none apart =
          none_found (has_same_octets n) (clients.names ++ node ∷ [])
          (list_any-append (has_same_octets n) clients.names (node ∷ [])
          ∙ ap (λ (b : Bool). b || (has_same_octets n node || false))
          (none_passes (has_same_octets n) clients.names none)
          ∙ ap (λ (b : Bool). b || false) (same_name.symm n node ∙ apart))

      each : (names : List (List Component)) → All (λ (n : List Component). member_of n clients.names ≡ None) names
          → list_any (has_same_octets node) names ≡ false
          → All (λ (n : List Component). member_of n (clients.names ++ node ∷ []) ≡ None) names
      each [] all apart = All-nil (λ (n : List Component). member_of n (clients.names ++ node ∷ []) ≡ None)
      each (n ∷ names) all apart =
          let both = or_parts (has_same_octets node n) (list_any (has_same_octets node) names) apart in
          All-cons (λ (m : List Component). member_of m (clients.names ++ node ∷ []) ≡ None) n names
          (one n (All-head (λ (m : List Component). member_of m clients.names ≡ None) n names all) both.0)
          (each names (All-tail (λ (m : List Component). member_of m clients.names ≡ None) n names all) both.1)

-- a name that is not taken
pub not_taken : (group : GroupKeys) (node : List Component) → is_name_taken group node ≡ false
    → (member_of node group.members.names ≡ None) × (member_of node group.clients.names ≡ None)
not_taken group node free =
    let both =
    or_parts (is_some (member_of node group.members.names)) (is_some (member_of node group.clients.names)) free in
    (none (member_of node group.members.names) both.0, none (member_of node group.clients.names) both.1) where
      none : (o : Option ℕ) → is_some o ≡ false → o ≡ None
      none None h = refl
      none (Some n) h = absurd (true≢false h)

-- the number of keys is the number of names
pub ring_length : (nodes : NodeKeys) → HaveKeys nodes → length nodes.ring ≡ length nodes.names
ring_length nodes have =
    sym (length-map nodes.ring (λ (p : NamedKey). p.name)) ∙ ap (λ (names : List (List ℕ)). length names) have.keys
    ∙ length-map nodes.names (λ (n : List Component). encoding (key_name n))
