-- A sync Interest of a group's member is read with its sender and vector, and each member takes it.
use Rattle.std.proofs.Common.{◌≡◌, ℕ, suc, zero, ◌+◌, ◌≤◌, ◌<◌, ◌^◌, Bool, true, false, cond, not, List, [], ◌∷◌, ◌++◌}
use Rattle.std.proofs.Common.{length, get_or, Some, None, position, refl, sym, ap, ◌∙◌, subst, arith}
use Rattle.std.specs.Prelude.{nat_lt, slice_get, slice_index, Ok, Err}
use Rattle.std.specs.List.{All, position_or_len, prefix_len}
use Rattle.std.specs.Str.{bytes_eq}
use Rattle.std.proofs.lemmas.Bool.{true≢false, lt-ltb, ltb-true, false_from_ne_true}
use Rattle.std.proofs.lemmas.List.{append_cancel_right, get_or_default, get_or-map}
use Rattle.std.proofs.lemmas.Map.Keys.{apart_from_distinct}
use Rattle.std.proofs.lemmas.Option.{slice_get-get_or, unwrap_or-slice_get, slice_get_within, get_or_from_slice_get}
use Rattle.std.proofs.lemmas.Slice.Eq.{bytes_eq-Decides}
use Rattle.ndn_tlv.specs.Spelling.{element}
use Rattle.ndn_name.specs.Names.{Component, encoding}
use Rattle.ndn_name.proofs.Encodings.{encoding-push}
use Rattle.ndn_sign.specs.Ring
use Rattle.ndn_sign.specs.Ring.{pair, key_number}
use Rattle.svs_vector.specs.Rosters.{has_same_octets}
use Rattle.svs_vector.proofs.ReadBackLemmas.{read_back}
use Rattle.svs_sync.specs.SyncInterest.{sync_verdict}
use Rattle.svs_sync.proofs.VerdictLemmas.{made_is_checked}
use Rattle.repo_object.specs.Objects.{key_name}
use Rattle.repo_object.proofs.NameLemmas.{IsName-key}
use Rattle.group_model.specs.Publications.{Logs, last_of}
use Rattle.group_model.specs.Sound.{IsConsistentVector}
use Rattle.repo_member.specs.declared.refusals.HearRefusal.TheVariants.{OwnNumberAhead}
use Rattle.repo_member.specs.Groups.{NodeKeys, GroupKeys, HaveKeys, IsPlainNodeName, node_at, member_key}
use Rattle.repo_member.specs.Verdicts.{sync_of, received_verdict}
use Rattle.repo_member.specs.InGroup.{AreLogs}
use Rattle.repo_member.specs.ConsistentSyncs.{KeysAreFound, SyncsAreReceived, SyncsAreTaken}
use Rattle.repo_member.proofs.GroupLemmas.{ring_length}

-- ---- the first place

first_place : {X : Type 0} (p : X → Bool) (xs : List X) (j : ℕ) (d : X) → j < length xs → p (get_or xs j d) ≡ true
    → ((k : ℕ) → k < j → p (get_or xs k d) ≡ false) → position_or_len p xs ≡ j
first_place p [] j d l here before = absurd (omega (arith, l))
first_place p (x ∷ xs) zero d l here before =
    ap (λ (b : Bool). cond (not b) (1 + prefix_len (λ y. not (p y)) xs) 0) here
first_place p (x ∷ xs) (suc j) d l here before =
    ap (λ (b : Bool). cond (not b) (1 + prefix_len (λ y. not (p y)) xs) 0) (before 0 (omega arith))
    ∙ ap (λ (n : ℕ). 1 + n) (first_place p xs j d (omega (arith, l)) here (λ k m. before (suc k) (omega (arith, m))))
    ∙ next j where
      next : (n : ℕ) → 1 + n ≡ suc n
      next n = omega arith

first_position : {X : Type 0} (p : X → Bool) (xs : List X) (j : ℕ) (d : X) → j < length xs → p (get_or xs j d) ≡ true
    → ((k : ℕ) → k < j → p (get_or xs k d) ≡ false) → position p xs ≡ Some j
first_position p xs j d l here before =
    ap (λ (n : ℕ). cond (nat_lt n (length xs)) (Some n) None) (first_place p xs j d l here before)
    ∙ ap (λ (b : Bool). cond b (Some j) None) (lt-ltb j (length xs) l)

-- ---- keys by number

module _ (nodes : NodeKeys) (have : HaveKeys nodes) (j : ℕ) (there : j < length nodes.names) where
  abbrev name_at : ℕ → List Component
  name_at k = get_or nodes.names k []

  abbrev pair_at : ℕ → Ring.NamedKey
  pair_at k = get_or nodes.ring k (pair [] [])

  long : length nodes.ring ≡ length nodes.names
  long = ring_length nodes have

  pub ring_at : (k : ℕ) → k < length nodes.names
      → (get_or nodes.ring k (pair [] [])).name ≡ encoding (key_name (get_or nodes.names k []))
  ring_at k l =
      sym (get_or-map (λ (q : Ring.NamedKey). q.name) nodes.ring k (pair [] []) [] (omega (arith, long, l)))
      ∙ ap (λ (xs : List (List ℕ)). get_or xs k []) have.keys
      ∙ get_or-map (λ (node : List Component). encoding (key_name node)) nodes.names k [] [] l

  same_key : (k : ℕ) → encoding (key_name (get_or nodes.names j [])) ≡ encoding (key_name (get_or nodes.names k []))
      → encoding (get_or nodes.names k []) ≡ encoding (get_or nodes.names j [])
  same_key k e =
      let push : (n : List Component) → encoding (key_name n) ≡ encoding n ++ element 8 (75 ∷ 69 ∷ 89 ∷ []) =
      λ n. encoding-push n (8, 75 ∷ 69 ∷ 89 ∷ []) in
      let both : encoding (get_or nodes.names j []) ++ element 8 (75 ∷ 69 ∷ 89 ∷ [])
      ≡ encoding (get_or nodes.names k []) ++ element 8 (75 ∷ 69 ∷ 89 ∷ []) =
      sym (push (get_or nodes.names j [])) ∙ e ∙ push (get_or nodes.names k []) in
      sym (append_cancel_right (encoding (get_or nodes.names j [])) (encoding (get_or nodes.names k []))
      (element 8 (75 ∷ 69 ∷ 89 ∷ [])) both)

  pub number_at : key_number (encoding (key_name (get_or nodes.names j []))) nodes.ring ≡ Some j
  number_at =
      first_position (λ (q : Ring.NamedKey). bytes_eq (encoding (key_name (get_or nodes.names j []))) q.name) nodes.ring
      j (pair [] []) (omega (arith, there, long))
      ((bytes_eq-Decides (encoding (key_name (get_or nodes.names j []))) (get_or nodes.ring j (pair [] [])).name).1
      (sym (ring_at j there)))
      (λ k l. false_from_ne_true
      (bytes_eq (encoding (key_name (get_or nodes.names j []))) (get_or nodes.ring k (pair [] [])).name) (λ found.
      let same : encoding (key_name (get_or nodes.names j [])) ≡ (get_or nodes.ring k (pair [] [])).name =
      (bytes_eq-Decides (encoding (key_name (get_or nodes.names j []))) (get_or nodes.ring k (pair [] [])).name).0
      found in
      let e : encoding (get_or nodes.names k []) ≡ encoding (get_or nodes.names j []) =
      same_key k (same ∙ ring_at k (omega (arith, l, there))) in
      true≢false (sym ((bytes_eq-Decides (encoding (get_or nodes.names k [])) (encoding (get_or nodes.names j []))).1 e)
      ∙ apart_from_distinct has_same_octets nodes.names k j [] have.roster.different l there)))

pub keys_are_found : KeysAreFound
keys_are_found nodes number node have is =
    let there : number < length nodes.names = slice_get_within nodes.names number node is in
    subst (λ (n : List Component). key_number (encoding (key_name n)) nodes.ring ≡ Some number)
    (get_or_from_slice_get nodes.names number node [] is) (number_at nodes have number there)

module _ (g : GroupKeys) (have : HaveKeys g.members) (j : ℕ) (there : j < length g.members.names) where
  node_is : node_at g j ≡ get_or g.members.names j []
  node_is = unwrap_or-slice_get g.members.names j []

  member_found : key_number (encoding (key_name (node_at g j))) g.members.ring ≡ Some j
  member_found =
      subst (λ (n : List Component). key_number (encoding (key_name n)) g.members.ring ≡ Some j) (sym node_is)
      (number_at g.members have j there)

  key_is : slice_get g.members.ring j ≡ Some (pair (encoding (key_name (node_at g j))) (member_key g j))
  key_is =
      slice_get-get_or g.members.ring j (pair [] []) (omega (arith, there, ring_length g.members have))
      ∙ ap (λ (q : Ring.NamedKey). Some q) made where
        made : get_or g.members.ring j (pair [] []) ≡ pair (encoding (key_name (node_at g j))) (member_key g j)
        made =
            let n : (get_or g.members.ring j (pair [] [])).name ≡ encoding (key_name (node_at g j)) =
            ring_at g.members have j there j there
            ∙ ap (λ (node : List Component). encoding (key_name node)) (sym node_is) in
            let k : (get_or g.members.ring j (pair [] [])).key ≡ member_key g j =
            sym (ap (λ (q : Ring.NamedKey). q.key) (unwrap_or-slice_get g.members.ring j (pair [] []))) in
            λ i. record { name = n i; key = k i }

-- ---- a sync Interest of the group

module _ (g : GroupKeys) (logs : Logs) (are : AreLogs g logs) where
  small : (v : List ℕ) → IsConsistentVector logs v → All (λ n. n < 2 ^ 16) v
  small v t k d l =
      let same : get_or v k d ≡ get_or v k 0 = get_or_default v k d 0 l in
      let most : get_or v k 0 ≤ last_of logs k = t.no_more k in
      let few : last_of logs k ≤ 65535 = are.few k [] (omega (arith, l, t.width)) in
      omega (arith, same, most, few)

  node_name : (k : ℕ) → k < length g.members.names → IsPlainNodeName (node_at g k)
  node_name k l =
      subst IsPlainNodeName (sym (unwrap_or-slice_get g.members.names k [])) (are.group.members.node_names k [] l)

  pub sync_received : (sender : ℕ) (v : List ℕ) → sender < length g.members.names → IsConsistentVector logs v
      → sync_verdict g.name g.members.names g.members.ring (sync_of g sender v) ≡ Ok (sender, v)
  sync_received sender v there t =
      let node = node_name sender there in
      made_is_checked g.name g.members.names g.members.ring v (key_name (node_at g sender)) (member_key g sender) sender
      (member_found g are.group.members sender there) (key_is g are.group.members sender there)
      (read_back g.members.names v are.group.members.roster (t.width ∙ are.width) (small v t))
      are.group.name.valid (are.group.name.some, are.group.name.short) are.group.members.roster.few
      (λ k d l. let h = are.group.members.node_names k d l in (h.some, h.short))
      (IsName-key (node_at g sender) node.valid)
      (record { node = node_at g sender; parts = refl; limits = (node.some, node.short) })

pub syncs_are_received : SyncsAreReceived
syncs_are_received g logs sender vector are there t = sync_received g logs are sender vector there t

pub syncs_are_taken : SyncsAreTaken
syncs_are_taken g logs a sender vector are consistent there t =
    ap (received_verdict a) (sync_received g logs are sender vector there t)
    ∙ ap (λ (b : Bool). cond b (Err (OwnNumberAhead (length a.log) (slice_index vector a.number))) (Ok vector))
    (false_from_ne_true (nat_lt (length a.log) (slice_index vector a.number)) (λ more.
    let h : length a.log < slice_index vector a.number = ltb-true (length a.log) (slice_index vector a.number) more in
    let most : slice_index vector a.number ≤ last_of logs a.number = t.no_more a.number in
    let own : last_of logs a.number ≡ length a.log = ap length consistent.log in
    omega (arith, h, most, own)))
